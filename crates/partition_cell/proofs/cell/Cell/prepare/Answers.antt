use Rattle.std.proofs.Common.{◌≡◌, Some, ap, sym, ◌∙◌}
use Rattle.partition_cell.proofs.cell.Cell.prepare.Goals as goal

pub returns-in-Some-clause-pinned : goal.returns-in-Some-clause-pinned
returns-in-Some-clause-pinned g c to = (
  λ e.
      let same : c.in-Some.to ≡ to = cc e in
      (c.target.ensures.some to).0 (c.in-Some.is ∙ ap Some same),
  λ has.
      let e : Some c.in-Some.to ≡ Some to = sym c.in-Some.is ∙ (c.target.ensures.some to).1 has in
      cc e,
)
