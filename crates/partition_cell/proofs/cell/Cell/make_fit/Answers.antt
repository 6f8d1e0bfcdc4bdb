use Rattle.std.proofs.Common.{arith}
use Rattle.partition_cell.proofs.BeyondLemmas.{others_none}
use Rattle.partition_cell.proofs.EventLemmas.{kinds_stay}
use Rattle.partition_cell.proofs.cell.Cell.make_fit.Goals as goal

pub returns-then-not-due-clause-event : goal.returns-then-not-due-clause-event
returns-then-not-due-clause-event g c =
    let kept = c.self.invariant in
    rw (← c.self.view_is) (kinds_stay g.D.Disk.view _ _ _ _ _ _ _ _ kept.ordered kept.hosts kept.kinds (omega (arith, kept.hosts, kept.ordered.there)))

pub returns-then-not-due-clause-others : goal.returns-then-not-due-clause-others
returns-then-not-due-clause-others g c = others_none g.D.Disk.view c.args.self.now.disks c.args.self.now.owner
