use Rattle.std.proofs.Common.{◌≢◌, not, sym, subst, rules}
use Rattle.std.proofs.lemmas.Fn.{filter_same}
use Rattle.std.proofs.lemmas.List.Kept.{AllPairs-filter}
use Rattle.roster_book.specs.declared.place.Place.{Place}
use Rattle.roster_book.specs.Places.{is_same_place, IsEachOnce}
use Rattle.roster_book.proofs.doubts.remove_place.Goals as goal

pub returns-clause-others : goal.returns-clause-others
returns-clause-others c = filter_same _ (λ each. not (is_same_place each c.args.place)) _ (λ x b f' k. search rules) _ _ c.retain.ensures.filtered

pub returns-clause-once : goal.returns-clause-once
returns-clause-once c =
    subst IsEachOnce (sym (returns-clause-others c))
    (AllPairs-filter (λ (one later : Place). one ≢ later) (λ each. not (is_same_place each c.args.place)) c.args.places.now.items c.requires)
