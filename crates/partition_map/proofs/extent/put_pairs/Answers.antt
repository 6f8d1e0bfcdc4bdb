use Rattle.std.proofs.Common.{◌≡◌, ◌∷◌, ◌+◌, length, ap, ◌∙◌, sym, subst, arith}
use Rattle.std.specs.List.{AllByRecursion}
use Rattle.std.specs.Vec.Iter.{into_iter_items}
use Rattle.std.proofs.lemmas.List.Sums.{sum_by-cons}
use Rattle.cache_model.specs.Caches.{Pairs}
use Rattle.partition_map.specs.Place.{value_at, HasPlace}
use Rattle.partition_map.specs.Extents.{value_put, pair_bytes}
use Rattle.partition_map.proofs.BatchLemmas.{all-kept}
use Rattle.partition_map.proofs.HiddenLemmas.{HidesNoMore-chain}
use Rattle.partition_map.proofs.extent.put_pairs.Goals as goal

pub loop-key-preserved : goal.loop-key-preserved
loop-key-preserved c =
    let at = c.loop-key in
    let rest = into_iter_items c.next.new.self in
    let step : into_iter_items at.key-iterator ≡ (c.in-Some.key, c.in-Some.value) ∷ rest = c.in-Some.ensures.steps.0 in (
      (λ key. ap (value_put rest key) (c.put.ensures.values key) ∙ sym (ap (λ (xs : Pairs). value_put xs key (value_at at.places key)) step) ∙ at.invariant.0 key),
      all-kept at.places c.put.new.self rest c.put.ensures.stays (subst (AllByRecursion (λ p. HasPlace at.places p.0)) step at.invariant.1).1,
      omega (arith, at.invariant.2, ap length step, c.put.ensures.count),
      omega (arith, at.invariant.3, ap pair_bytes step, sum_by-cons (λ p. length p.0 + length p.1) (c.in-Some.key, c.in-Some.value) rest, c.put.ensures.bytes),
      (λ rises. c.put.ensures.ordered),
      (let was = at.invariant.5 in let gone = c.in-Some.ensures.steps.1 in let short = ap length step in omega arith),
      HidesNoMore-chain _ at.places c.put.new.self at.invariant.6 c.put.ensures.hidden,
    )
