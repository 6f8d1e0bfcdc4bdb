use Rattle.std.proofs.Common.{◌≡◌, ◌++◌, ◌∷◌, [], ap, ◌∙◌, sym, append-nil}
use Rattle.partition_map.specs.Place.{pairs_shown, PlaceList}
use Rattle.partition_map.proofs.InOrderLemmas.{copied-more}
use Rattle.partition_map.proofs.ShownLemmas.{rising-shown_by}
use Rattle.partition_map.proofs.places.copy_pairs.Goals as goal

pub loop-key-preserved : goal.loop-key-preserved
loop-key-preserved c =
    let at = c.loop-key in
    let rest : PlaceList = c.next.new.self in
    let step : pairs_shown at.key-iterator ≡ pairs_shown rest = ap pairs_shown c.in-Some.ensures.steps ∙ ap (λ v. pairs_shown ((c.in-Some.key.now, v) ∷ rest)) c.in_default.is in
    ap (λ t. at.pairs.entries ++ t) (sym step) ∙ at.invariant

pub loop-key-preserved-in_ok-insert : goal.loop-key-preserved-in_ok-insert
loop-key-preserved-in_ok-insert c =
    let at = c.loop-key in
    let rest : PlaceList = c.next.new.self in
    let key = c.in-Some.key.now in
    let value = c.in-Some-place.value in
    let step : pairs_shown at.key-iterator ≡ (key, value) ∷ pairs_shown rest = ap pairs_shown c.in-Some.ensures.steps ∙ ap (λ v. pairs_shown ((key, v) ∷ rest)) c.in-Some-place.is in
    copied-more at.pairs.entries c.insert.new.self.entries key _ value _ (pairs_shown rest) (pairs_shown c.args.places.now.entries) (ap (λ t. at.pairs.entries ++ t) (sym step) ∙ at.invariant) (rising-shown_by (λ v. v) c.args.places.now.entries c.requires.ordered) c.in_ok-copy.ensures c.in_ok-copy-2.ensures c.in_ok-insert.ensures.entries

pub loop-key-preserved-in_ok-insert-2 : goal.loop-key-preserved-in_ok-insert-2
loop-key-preserved-in_ok-insert-2 c =
    let at = c.loop-key in
    let rest : PlaceList = c.next.new.self in
    let key = c.in-Some.key.now in
    let value = c.in-Some-place.value in
    let step : pairs_shown at.key-iterator ≡ (key, value) ∷ pairs_shown rest = ap pairs_shown c.in-Some.ensures.steps ∙ ap (λ v. pairs_shown ((key, v) ∷ rest)) c.in-Some-place.is in
    copied-more at.pairs.entries c.insert.new.self.entries key _ value _ (pairs_shown rest) (pairs_shown c.args.places.now.entries) (ap (λ t. at.pairs.entries ++ t) (sym step) ∙ at.invariant) (rising-shown_by (λ v. v) c.args.places.now.entries c.requires.ordered) c.in_ok-copy.ensures c.in_ok-copy-2.ensures c.in_ok-insert.ensures.entries

pub returns : goal.returns
returns c =
    let at = c.loop-key in
    let empty : at.key-iterator ≡ [] = c.in-None.ensures.steps.0 in
    sym (append-nil at.pairs.entries) ∙ ap (λ t. at.pairs.entries ++ pairs_shown t) (sym empty) ∙ at.invariant
