use Rattle.std.proofs.Common.{◌≡◌, Some, ap, ◌∙◌}
use Rattle.disk_lane.proofs.LaneLemmas.{some_same}
use Rattle.partition_cell.specs.declared.moving.Moving.{Moving}
use Rattle.partition_cell.proofs.cell.Cell.target.Goals as goal

pub returns-in-Some-clause-some : goal.returns-in-Some-clause-some
returns-in-Some-clause-some g c = rw (← c.self.view_is) (λ to. (
  λ (e : Some c.in-Some.moving.host ≡ Some to). (c.in-Some.moving, c.in-Some.is, cc e),
  λ has. ap (λ (m : Moving). Some m.host) (some_same c.in-Some.moving has.0 c.self.inside.moving c.in-Some.is has.1) ∙ ap Some has.2,
))
