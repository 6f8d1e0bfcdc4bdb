use Rattle.std.proofs.Common.{◌≡◌, Option, Some, unwrap_or, ap, ◌∙◌, sym, subst}
use Rattle.std.specs.Map.{lookup, set_value}
use Rattle.cache_model.specs.Caches.{same}
use Rattle.cache_model.specs.Change.{change_of}
use Rattle.cache_model.proofs.ShownLemmas.{same-is_at}
use Rattle.partition_map.specs.declared.extent.Extent.{Extent}
use Rattle.partition_map.specs.Order.{cache_changed}
use Rattle.partition_map.specs.Readiness.{IsAppliable}
use Rattle.partition_map.proofs.change.change_extent.Goals as goal

pub shift_extent-requires-clause-ready : goal.shift_extent-requires-clause-ready
shift_extent-requires-clause-ready c = λ brought.
    let change = change_of c.args.mutation in
    let es = c.args.extents.now.entries in
    let was : lookup (same (cache_changed change)) es ≡ Some c.in-Some.extent.now = ap (λ k. lookup (same k) es) (sym c.named-name.ensures) ∙ ap (λ test. lookup test es) (same-is_at c.named-name.result.now) ∙ sym c.in-Some.ensures.value in
    let ready = c.requires.ready brought in
    let is : ready.0 ≡ c.in-Some.extent.now = ap (λ (o : Option Extent). unwrap_or o ready.0) (sym ready.1 ∙ was) in
    subst (λ (e : Extent). IsAppliable change e.places) is ready.2

pub returns-in-Some-clause-changed : goal.returns-in-Some-clause-changed
returns-in-Some-clause-changed c =
    let change = change_of c.args.mutation in
    let es = c.args.extents.now.entries in
    let now = c.shift_extent.new.extent in
    record {
      before = c.in-Some.extent.now;
      now = now;
      was = ap (λ k. lookup (same k) es) (sym c.named-name.ensures) ∙ ap (λ test. lookup test es) (same-is_at c.named-name.result.now) ∙ sym c.in-Some.ensures.value;
      entries = (c.get_mut.follows.holds now).0 ∙ ap (λ test. set_value test es now) (sym (same-is_at c.named-name.result.now)) ∙ ap (λ k. set_value (same k) es now) c.named-name.ensures;
      of = c.shift_extent.ensures;
    }

pub returns-in-None-clause-absent : goal.returns-in-None-clause-absent
returns-in-None-clause-absent c =
    let es = c.args.extents.now.entries in (
      ap (λ k. lookup (same k) es) (sym c.named-name.ensures) ∙ ap (λ test. lookup test es) (same-is_at c.named-name.result.now) ∙ sym c.in-None.ensures.value,
      ap (λ m. m.entries) c.get_mut.follows.holds-at-none,
    )
