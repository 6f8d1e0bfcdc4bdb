use Rattle.std.proofs.Common.{false, None, cond, position, unwrap_or, ap, ◌∙◌, sym, subst}
use Rattle.cache_model.specs.Caches.{same}
use Rattle.partition_map.specs.After.{AgreesWith}
use Rattle.partition_map.specs.Order.{order_after}
use Rattle.partition_map.proofs.MarkLemmas.{marked-agreed}
use Rattle.partition_map.proofs.map.PartitionMap.extent.Goals as goal

pub returns-then-is_present : goal.returns-then-is_present
returns-then-is_present c = λ changes agrees.
    let cache = c.args.cache.now in
    let agreed = subst (AgreesWith changes) (sym c.self.view_is) agrees in
    let here = sym (marked-agreed changes _ c.self.inside.names.entries cache c.self.invariant.0.rises c.self.invariant.3 agreed) ∙ sym (ap (λ found. unwrap_or found false) c.in_ok-number.ensures.value) ∙ c.if-is_present.true in
    c.in_ok-number.ensures.index ∙ ap (position (same cache)) agreed.order ∙ sym (ap (λ b. cond b (position (same cache) (order_after changes)) None) here)

pub returns-else-is_present : goal.returns-else-is_present
returns-else-is_present c = λ changes agrees.
    let cache = c.args.cache.now in
    let agreed = subst (AgreesWith changes) (sym c.self.view_is) agrees in
    let here = sym (marked-agreed changes _ c.self.inside.names.entries cache c.self.invariant.0.rises c.self.invariant.3 agreed) ∙ sym (ap (λ found. unwrap_or found false) c.in_ok-number.ensures.value) ∙ c.if-is_present.false in
    sym (ap (λ b. cond b (position (same cache) (order_after changes)) None) here)
