use Rattle.std.proofs.Common.{◌<◌, arith}
use Rattle.disk_trait.proofs.Runs.{onward_none}
use Rattle.cluster_commands.specs.State.{partition_count}
use Rattle.cluster_commands.proofs.EventLemmas.{on_err}
use Rattle.cluster_commands.proofs.RenewLemmas.{no_partition}
use Rattle.cluster_commands.proofs.events.renew.Goals as goal

pub returns-then-partition-ne-PARTITION-clause-step : goal.returns-then-partition-ne-PARTITION-clause-step
returns-then-partition-ne-PARTITION-clause-step g c = no_partition g.D.Disk.view c.args.cluster.now c.args.partition (omega (arith, c.if-partition-ne-PARTITION.true)) (onward_none _)

pub returns-in-Ok-clause-step : goal.returns-in-Ok-clause-step
returns-in-Ok-clause-step g c =
    let there : c.args.partition < partition_count = omega (arith, c.if-partition-ne-PARTITION.false) in
    c.in-Ok.ensures.renewed c.args.partition there

pub returns-in_err-refusal-in-Err-clause-broken : goal.returns-in_err-refusal-in-Err-clause-broken
returns-in_err-refusal-in-Err-clause-broken g c =
    let there : c.args.partition < partition_count = omega (arith, c.if-partition-ne-PARTITION.false) in
    on_err c.from_residual.result _ (c.in-Err.ensures.broken c.args.partition there c.in_err-refusal-in-Err.ensures.memory)

pub returns-in_ok-refusal-in-Err-clause-step : goal.returns-in_ok-refusal-in-Err-clause-step
returns-in_ok-refusal-in-Err-clause-step g c =
    let there : c.args.partition < partition_count = omega (arith, c.if-partition-ne-PARTITION.false) in
    c.in-Err.ensures.refused c.args.partition there c.in_ok-refusal-in-Err.refusal c.in_ok-refusal-in-Err.ensures.shown
