use Rattle.std.proofs.Common.{arith, refl, sym}
use Rattle.std.specs.Vec.{with_items}
use Rattle.cluster_commands.specs.declared.cluster.Cluster.TheVariants.{Closed}
use Rattle.cluster_commands.proofs.FilesLemmas.{restarted_slice}
use Rattle.cluster_commands.proofs.OpeningLemmas.{creates_nowhere, create_refused, create_broken, creates}
use Rattle.cluster_commands.proofs.create.create.Goals as goal

pub returns-then-not-is_member-clause-carried : goal.returns-then-not-is_member-clause-carried
returns-then-not-is_member-clause-carried g c =
    let refused = c.refused_with_restart-answer.ensures in
    creates_nowhere c.args.hosts.now g.D.Disk.view (Closed c.args.disks) (Closed (with_items c.args.disks c.refused_with_restart-answer.new.disks)) tt c.args.host c.refused_with_restart-answer.result tt
    (restarted_slice g.D.Disk.view c.args.disks.items c.as_mut_slice.result.now c.args.disks.items c.refused_with_restart-answer.new.disks c.args.disks.len (omega (arith, c.args.disks.ok.0)) refl c.requires.ready.0 c.as_mut_slice.ensures.value refused.one refused.restarted)
    (λ has. let e = c.is_member.ensures.1 has in let d = c.if-not-is_member.true in cc) refused.answer

pub returns-in_default-clause-broken : goal.returns-in_default-clause-broken
returns-in_default-clause-broken g c =
    create_broken c.args.hosts.now g.D.Disk.view (Closed c.args.disks) (Closed c.in-Err-make_partition.disks) tt c.args.host (c.is_member.ensures.0 c.if-not-is_member.false) c.in-Err-make_partition.ensures.back.1

pub returns-in-Ok-make_partition-clause-carried : goal.returns-in-Ok-make_partition-clause-carried
returns-in-Ok-make_partition-clause-carried g c =
    let made = c.in-Ok-make_partition.ensures in
    creates c.args.hosts.now g.D.Disk.view (Closed c.args.disks) tt c.args.host (c.is_member.ensures.0 c.if-not-is_member.false) (record { host = c.in-Ok.member; kept = c.in-Ok-make_partition.kept; calls = 0 }) c.in-Ok.ensures
    made.made.1 made.lane.1 c.is_stored.ensures.stored made.made.0 made.lone_store

pub returns-in-Some-clause-carried : goal.returns-in-Some-clause-carried
returns-in-Some-clause-carried g c =
    let view = g.D.Disk.view in
    let err = c.in-Err-make_partition.ensures in
    let mid = c.in-Err-make_partition.disks in
    let refused = c.refused_with_restart-answer-in-Err-make_partition.ensures in
    create_refused c.args.hosts.now view (Closed c.args.disks) (Closed (with_items mid c.refused_with_restart-answer-in-Err-make_partition.new.disks)) tt c.args.host (c.is_member.ensures.0 c.if-not-is_member.false)
    mid.items c.refused_with_restart-answer-in-Err-make_partition.result tt err.back.1
    (restarted_slice view mid.items c.as_mut_slice-in-Err-make_partition.result.now mid.items c.refused_with_restart-answer-in-Err-make_partition.new.disks mid.len (omega (arith, mid.ok.0)) refl err.back.0 c.as_mut_slice-in-Err-make_partition.ensures.value refused.one refused.restarted)
    c.in-Err-make_partition.refusal c.in-Some.refusal (sym c.in-Some.ensures) refused.answer err.refused
