use Rattle.std.proofs.Common.{◌≡◌, ℕ, List, ◌∷◌, [], subst}
use Rattle.std.proofs.lemmas.List.{nil_from_length}
use Rattle.partition_map.specs.Place.{HidesOnly}
use Rattle.partition_map.proofs.ValueLemmas.{SameValues-chain}
use Rattle.partition_map.proofs.extent.forget_keys.Goals as goal

pub loop-first-preserved : goal.loop-first-preserved
loop-first-preserved c =
    let at = c.loop-first in
    let split : at.rest.now ≡ c.in-Some.first.now ∷ c.in-Some.others.now = c.in-Some.ensures.cases.0 in (
      (λ rises. c.forget.ensures.ordered),
      SameValues-chain c.args.places.now at.places c.forget.new.self at.invariant.1 c.forget.ensures.values,
      λ only. c.forget.ensures.hidden c.in-Some.others.now (subst (λ (keys : List (List ℕ)). HidesOnly keys at.places) split (at.invariant.2 only)),
    )

pub returns-clause-hidden : goal.returns-clause-hidden
returns-clause-hidden c = λ only.
    let none : c.loop-first.rest.now ≡ [] = nil_from_length c.loop-first.rest.now c.in_default.ensures.cases in
    subst (λ (keys : List (List ℕ)). HidesOnly keys c.loop-first.places) none (c.loop-first.invariant.2 only)
