use Rattle.std.proofs.Common.{ℕ, ◌+◌, ◌*◌, ◌<◌, ◌^◌, ap, ◌∙◌, sym, subst, refl, arith}
use Rattle.partition_map.specs.Place.{value_count, value_bytes}
use Rattle.partition_map.proofs.ShownLemmas.{items_none, items_some, bytes_exact}
use Rattle.partition_map.proofs.extent.Extent.bytes.Goals as goal

pub returns-then-count-eq0 : goal.returns-then-count-eq0
returns-then-count-eq0 c = λ name is fits.
    let none = (items_none name c.args.self.now c.if-not-self.false (omega (arith, c.count-count.ensures.count, c.if-count-eq0.true))).1 in
    omega (arith, none, c.saturating_add.ensures, is, fits)

pub returns-else-count-eq0 : goal.returns-else-count-eq0
returns-else-count-eq0 c = λ name is fits.
    let some : 0 < value_count c.args.self.now.places = omega (arith, c.count-count.ensures.count, c.if-count-eq0.false) in
    let all = (items_some name c.args.self.now c.if-not-self.false some).1 ∙ ap (λ (n : ℕ). value_count c.args.self.now.places * (n + 8) + value_bytes c.args.self.now.places) is in
    bytes_exact (value_count c.args.self.now.places) c.args.name_length (value_bytes c.args.self.now.places) c.saturating_add-each.result c.saturating_mul.result c.saturating_add-else-count-eq0.result _ some refl
    (subst (λ (n : ℕ). n < 2 ^ 62) all fits) c.saturating_add-each.ensures (rw (c.count-count.ensures.count) at c.saturating_mul.ensures) (rw (c.bytes.ensures) at c.saturating_add-else-count-eq0.ensures) ∙ sym all
