use Rattle.std.proofs.Common.{◌≡◌, Some, arith, sym, ◌∙◌, ap}
use Rattle.partition_cell.proofs.BeyondLemmas.{others_none}
use Rattle.partition_cell.proofs.EventLemmas.{kinds_stay}
use Rattle.partition_cell.proofs.cell.Cell.renew.Goals as goal

pub returns-in-Some-clause-event : goal.returns-in-Some-clause-event
returns-in-Some-clause-event g c =
    let kept = c.self.invariant in
    rw (← c.self.view_is) (kinds_stay g.D.Disk.view _ _ _ _ _ _ _ _ kept.ordered kept.hosts kept.kinds (omega (arith, kept.hosts, kept.ordered.there)))

pub returns-then-is_none-clause-event : goal.returns-then-is_none-clause-event
returns-then-is_none-clause-event g c =
    let kept = c.self.invariant in
    rw (← c.self.view_is) (kinds_stay g.D.Disk.view _ _ _ _ _ _ _ _ kept.ordered kept.hosts kept.kinds (omega (arith, kept.hosts, kept.ordered.there)))

pub returns-in-Some-clause-busy : goal.returns-in-Some-clause-busy
returns-in-Some-clause-busy g c to = (
  λ err.
      let same : c.in-Some.to ≡ to = cc err in
      (c.target.ensures.some to).0 (c.in-Some.is ∙ ap Some same),
  λ has.
      let e : Some c.in-Some.to ≡ Some to = sym c.in-Some.is ∙ (c.target.ensures.some to).1 has in
      cc e,
)

pub returns-in-Some-clause-others : goal.returns-in-Some-clause-others
returns-in-Some-clause-others g c = others_none g.D.Disk.view c.args.self.now.disks c.args.self.now.owner

pub returns-then-is_none-clause-others : goal.returns-then-is_none-clause-others
returns-then-is_none-clause-others g c = others_none g.D.Disk.view c.args.self.now.disks c.args.self.now.owner
