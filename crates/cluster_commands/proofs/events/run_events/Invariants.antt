use Rattle.std.specs.Prelude.{◌≡◌, ◌++◌}
use Rattle.disk_trait.specs.Moments.{Onward}
use Rattle.cluster_commands.specs.Events.{EventRun}
use Rattle.cluster_commands.specs.OnDisk.{IsServing, StateSteps, disks_in, lane_view}
use Rattle.cluster_commands.proofs.events.run_events.Given as goal

-- what was yielded so far has come to the outcomes so far
abbrev pub invariant-loop-event : goal.invariant-loop-event
invariant-loop-event g l =
    let view = g.D.Disk.view in
    record {
      whole : l.fn.events.items ≡ l.yielded ++ l.event-iterator.rest.items;
      run : StateSteps view l.fn.cluster l.cluster (λ before after. EventRun before l.yielded l.outcomes.items after);
      serving : IsServing l.cluster.kept;
      onward : Onward (lane_view view (disks_in l.fn.cluster)) (lane_view view (disks_in l.cluster));
    }
