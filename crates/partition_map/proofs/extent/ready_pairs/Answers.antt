use Rattle.std.proofs.Common.{◌≡◌, ℕ, List, ◌∷◌, [], true, sym, subst}
use Rattle.std.specs.List.{AllByRecursion, list_any}
use Rattle.std.proofs.lemmas.List.{nil_from_length}
use Rattle.cache_model.specs.Caches.{same}
use Rattle.partition_map.specs.Place.{HasPlace}
use Rattle.partition_map.proofs.ValueLemmas.{SameValues-chain}
use Rattle.partition_map.proofs.extent.ready_pairs.Goals as goal

pub loop-first-preserved : goal.loop-first-preserved
loop-first-preserved c =
    let at = c.loop-first in
    let split : at.rest.now ≡ c.in-Some.first.now ∷ c.in-Some.others.now = c.in-Some.ensures.cases.0 in (
      (λ rises. c.ready.ensures.ordered),
      SameValues-chain c.args.places.now at.places c.ready.new.self at.invariant.1 c.ready.ensures.values,
      λ new keeps rest. at.invariant.2 new (λ key has. keeps key (c.ready.ensures.stays key has)) (subst (AllByRecursion (λ p. HasPlace new p.0)) (sym split) (keeps c.in-Some.first.now.0 c.in_ok-ready.ensures.place, rest)),
      λ keys all only.
          let was = at.invariant.3 keys all only in
          let left = subst (AllByRecursion (λ (p : List ℕ × List ℕ). list_any (same p.0) keys ≡ true)) split was.1 in (c.ready.ensures.hidden keys left.0 was.0, left.1),
    )

pub returns-clause-places : goal.returns-clause-places
returns-clause-places c =
    let none : c.loop-first.rest.now ≡ [] = nil_from_length c.loop-first.rest.now c.in_default.ensures.cases in
    c.loop-first.invariant.2 c.loop-first.places (λ key has. has) (subst (AllByRecursion (λ p. HasPlace c.loop-first.places p.0)) (sym none) tt)
