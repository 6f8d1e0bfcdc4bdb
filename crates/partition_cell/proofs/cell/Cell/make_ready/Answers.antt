use Rattle.std.proofs.Common.{ap, ◌∙◌}
use Rattle.partition_cell.specs.Cells.{Cell}
use Rattle.partition_cell.proofs.ReadyLemmas.{ready_same, ready_kept}
use Rattle.partition_cell.proofs.cell.Cell.make_ready.Goals as goal

pub invariant_of-self : goal.invariant_of-self
invariant_of-self g c =
    ready_kept g.D.Disk.view _ c.self.invariant c.ready.new.self c.ready.ensures.contents (ap (λ (s : Cell g.row.D.Denot). s.moving) c.self.view_is ∙ c.requires.still)

pub returns-in_err-ready-clause-same : goal.returns-in_err-ready-clause-same
returns-in_err-ready-clause-same g c = rw (← c.self.view_is) (ready_same g.D.Disk.view _ c.self.invariant c.ready.new.self c.ready.ensures.contents)

pub invariant_of-self-2 : goal.invariant_of-self-2
invariant_of-self-2 g c =
    ready_kept g.D.Disk.view _ c.self.invariant c.ready.new.self c.ready.ensures.contents (ap (λ (s : Cell g.row.D.Denot). s.moving) c.self.view_is ∙ c.requires.still)

pub returns-clause-same : goal.returns-clause-same
returns-clause-same g c = rw (← c.self.view_is) (ready_same g.D.Disk.view _ c.self.invariant c.ready.new.self c.ready.ensures.contents)
