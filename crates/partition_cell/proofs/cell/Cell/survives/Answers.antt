use Rattle.std.proofs.Common.{arith, ◌∷◌, []}
use Rattle.cache_model.specs.Change.{reset}
use Rattle.partition_map.specs.Extents.{caches_in}
use Rattle.file_kinds.proofs.KindLemmas.{sealed_whole}
use Rattle.file_kinds.proofs.SurviveLemmas.{survive, lane_fits}
use Rattle.slot_board.specs.Slots.{slot_at}
use Rattle.partition_cell.specs.Cells.{in_flight}
use Rattle.partition_cell.proofs.StandingLemmas.{owner_recorded, told_most, is_current, lone_unsealed}
use Rattle.partition_cell.proofs.cell.Cell.survives.Goals as goal

pub returns-clause-whole : goal.returns-clause-whole
returns-clause-whole g c = rw (← c.self.view_is) (λ ms is h f recorded le sealed.
    let kept = c.self.invariant in
    let board = c.self.inside.board in
    let list = reset (caches_in c.self.inside.map.extents) ∷ [] in
    let flight = in_flight c.self.inside.flight in
    sealed_whole (record { partition = c.self.inside.partition; partitions = c.self.inside.partitions }) list flight (slot_at board h f).kind (slot_at board h f).version (ms h f)
    (lane_fits g.D.Disk.view c.self.inside.disks.items board (record { partition = c.self.inside.partition; partitions = c.self.inside.partitions }) list flight kept.hosts kept.kinds ms is h f recorded.there le)
    sealed (recorded.known f le))

pub returns-clause-survives : goal.returns-clause-survives
returns-clause-survives g c = rw (← c.self.view_is) (λ ms is hosts recorded.
    let kept = c.self.invariant in
    let board = c.self.inside.board in
    let list = reset (caches_in c.self.inside.map.extents) ∷ [] in
    let flight = in_flight c.self.inside.flight in
    survive board c.self.inside.owner c.self.inside.store.file (record { partition = c.self.inside.partition; partitions = c.self.inside.partitions }) list flight ms kept.ordered
    (lane_fits g.D.Disk.view c.self.inside.disks.items board (record { partition = c.self.inside.partition; partitions = c.self.inside.partitions }) list flight kept.hosts kept.kinds ms is)
    hosts recorded)

pub returns-clause-there : goal.returns-clause-there
returns-clause-there g c = rw (← c.self.view_is) (let kept = c.self.invariant in omega (arith, kept.hosts, kept.ordered.there))

pub returns-clause-recorded : goal.returns-clause-recorded
returns-clause-recorded g c = rw (← c.self.view_is) (owner_recorded c.self.inside.board c.self.inside.owner c.self.inside.store.file c.self.invariant.ordered c.self.invariant.by_host)

pub returns-clause-told : goal.returns-clause-told
returns-clause-told g c = rw (← c.self.view_is) (λ ms is. told_most g.D.Disk.view _ c.self.invariant ms is)

pub returns-clause-current : goal.returns-clause-current
returns-clause-current g c = rw (← c.self.view_is) (λ sound ms is. is_current g.D.Disk.view _ c.self.invariant ms is sound)

pub returns-clause-lone : goal.returns-clause-lone
returns-clause-lone g c = rw (← c.self.view_is) (λ lone ms is. lone_unsealed g.D.Disk.view _ c.self.invariant ms is lone)
