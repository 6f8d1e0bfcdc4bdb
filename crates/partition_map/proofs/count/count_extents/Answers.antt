use Rattle.std.proofs.Common.{◌≡◌, [], length, ap, arith}
use Rattle.cache_model.specs.PlainList.{plain_list}
use Rattle.partition_map.specs.Extents.{Extents, caches_in}
use Rattle.partition_map.proofs.CountLemmas.{count-cons}
use Rattle.partition_map.proofs.count.count_extents.Goals as goal

pub loop-extent-init : goal.loop-extent-init
loop-extent-init c = omega (arith, ap (λ (es : Extents). length (plain_list (caches_in es))) c.into_iter-extent-iterator.ensures.into_iter_gives)

pub overflow_add-count : goal.overflow_add-count
overflow_add-count c =
    let at = c.loop-extent in
    let rest : Extents = c.next.new.self in
    let name = c.in-Some.field-0-0.now in
    omega (arith, at.invariant, c.requires.fits, count-cons (name, c.in-Some.extent.now) rest, ap (λ (es : Extents). length (plain_list (caches_in es))) c.in-Some.ensures.steps, c.items-count.ensures name)

pub loop-extent-preserved : goal.loop-extent-preserved
loop-extent-preserved c =
    let at = c.loop-extent in
    let rest : Extents = c.next.new.self in
    let name = c.in-Some.field-0-0.now in
    omega (arith, at.invariant, count-cons (name, c.in-Some.extent.now) rest, ap (λ (es : Extents). length (plain_list (caches_in es))) c.in-Some.ensures.steps, c.items-count.ensures name)

pub returns : goal.returns
returns c =
    let at = c.loop-extent in
    let empty : at.extent-iterator ≡ [] = c.in-None.ensures.steps.0 in
    omega (arith, at.invariant, ap (λ (es : Extents). length (plain_list (caches_in es))) empty)
