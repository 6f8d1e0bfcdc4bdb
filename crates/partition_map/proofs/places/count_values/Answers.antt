use Rattle.std.proofs.Common.{◌≡◌, [], ap, ◌∙◌, sym, arith}
use Rattle.partition_map.specs.Place.{PlaceList, value_count}
use Rattle.partition_map.proofs.CountLemmas.{value_count-some, value_count-none}
use Rattle.partition_map.proofs.places.count_values.Goals as goal

pub loop-place-init : goal.loop-place-init
loop-place-init c = omega (arith, ap value_count c.into_iter-place-iterator.ensures.into_iter_gives)

pub overflow_add-count : goal.overflow_add-count
overflow_add-count c =
    let at = c.loop-place in
    let rest : PlaceList = c.next.new.self in
    omega (arith, at.invariant, c.requires.fits, ap value_count c.in-Some.ensures.steps, value_count-some c.in-Some.field-0-0.now c.in-Some.place.now rest (sym c.is_some.ensures ∙ c.if-is_some.true))

pub loop-place-preserved-then-is_some : goal.loop-place-preserved-then-is_some
loop-place-preserved-then-is_some c =
    let at = c.loop-place in
    let rest : PlaceList = c.next.new.self in
    omega (arith, at.invariant, ap value_count c.in-Some.ensures.steps, value_count-some c.in-Some.field-0-0.now c.in-Some.place.now rest (sym c.is_some.ensures ∙ c.if-is_some.true))

pub loop-place-preserved : goal.loop-place-preserved
loop-place-preserved c =
    let at = c.loop-place in
    let rest : PlaceList = c.next.new.self in
    omega (arith, at.invariant, ap value_count c.in-Some.ensures.steps, value_count-none c.in-Some.field-0-0.now c.in-Some.place.now rest (sym c.is_some.ensures ∙ c.if-is_some.false))

pub returns : goal.returns
returns c =
    let at = c.loop-place in
    let empty : at.place-iterator ≡ [] = c.in-None.ensures.steps.0 in
    omega (arith, at.invariant, ap value_count empty)
