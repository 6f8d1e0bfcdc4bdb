use Rattle.std.proofs.Common.{List, inl, sym, subst}
use Rattle.fault_count.specs.Rose.{Rose}
use Rattle.disk_trait.specs.Moments.{Later}
use Rattle.disk_trait.proofs.Runs.{later_joined}
use Rattle.script_loop.specs.Ends.{EndsReport}
use Rattle.cluster_commands.specs.OnDisk.{lane_view}
use Rattle.cluster_commands.specs.State.{begun}
use Rattle.cluster_cli.specs.Sites.{run_on, IsLeftBy}
use Rattle.cluster_cli.proofs.SiteLemmas.{begins_at}
use Rattle.cluster_cli.proofs.run.run_plan.Goals as goal

pub returns-clause-ends : goal.returns-clause-ends
returns-clause-ends g c = λ script left tells files does hold.
    let view = g.D.Disk.view in
    let r = c.restarted-disks.ensures.restarted in
    let w = lane_view view c.restarted-disks.result.items in
    let first = begun tells files w.faults w.restarts in (
      w.faults,
      w.restarts,
      r.later.faults,
      inl r.counted,
      subst (λ (disks : List g.row.D.Denot). EndsReport (run_on c.args.hosts.now first (lane_view view disks)) script (Rose (g.S.Source.faults c.args.source.now) (g.S.Source.faults c.drive-finish.new.source)) (g.K.Sink.written c.args.sink.now) c.drive-finish.result.status (g.S.Source.left c.drive-finish.new.source) (g.K.Sink.written c.drive-finish.new.sink))
          (sym c.disks_of-disks.ensures.left)
          (c.drive-finish.ensures.ends first script (begins_at view c.restarted-disks.result tells files _ does hold r.images r.later.tells) left),
    )

pub returns-clause-kept : goal.returns-clause-kept
returns-clause-kept g c = λ tells files does hold.
    let view = g.D.Disk.view in
    let r = c.restarted-disks.ensures.restarted in
    let w = lane_view view c.restarted-disks.result.items in
    let first = begun tells files w.faults w.restarts in (
      w.faults,
      w.restarts,
      r.later.faults,
      inl r.counted,
      subst (λ (disks : List g.row.D.Denot). IsLeftBy c.drive-finish.result.status (run_on c.args.hosts.now first (lane_view view disks)))
          (sym c.disks_of-disks.ensures.left)
          (c.drive-finish.ensures.kept first (begins_at view c.restarted-disks.result tells files _ does hold r.images r.later.tells)),
    )

pub returns-clause-later : goal.returns-clause-later
returns-clause-later g c =
    let view = g.D.Disk.view in
    subst (λ (disks : List g.row.D.Denot). Later (lane_view view c.args.disks.items) (lane_view view disks)) (sym c.disks_of-disks.ensures.left)
    (later_joined _ _ _ c.restarted-disks.ensures.restarted.later c.drive-finish.ensures.later)
