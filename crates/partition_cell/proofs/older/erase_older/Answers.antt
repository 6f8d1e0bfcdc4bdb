use Rattle.std.proofs.Common.{rules, take, arith}
use Rattle.std.proofs.lemmas.List.Elements.{Contains-get_or}
use Rattle.partition_cell.proofs.OlderLemmas.{none_freed, host_begun, host_freed, all_freed, lane_joined, fault_later, fault_among}
use Rattle.partition_cell.proofs.older.erase_older.Goals as goal

pub loop-host-init : goal.loop-host-init
loop-host-init g c = none_freed g.D.Disk.view c.args.hosts.now c.args.newest.host c.args.newest.file c.args.disks.now c.args.board.now c.requires.settled c.requires.unknown c.requires.as_many c.requires.untold c.requires.newest

pub free_host-requires-clause-disk : goal.free_host-requires-clause-disk
free_host-requires-clause-disk g c = let many = c.loop-host.invariant.lane.as_many in let there = c.requires.disks _ (Contains-get_or c.args.hosts.now c.loop-host.host-index 0 c.loop-host-test.true) in omega (arith, many, there)

pub free_host-requires-clause-slot : goal.free_host-requires-clause-slot
free_host-requires-clause-slot g c = let many = c.loop-host.invariant.as_many in let there = c.requires.disks _ (Contains-get_or c.args.hosts.now c.loop-host.host-index 0 c.loop-host-test.true) in omega (arith, many, there)

pub free_host-requires-clause-settled : goal.free_host-requires-clause-settled
free_host-requires-clause-settled g c f disk le at = c.loop-host.invariant.settled _ f disk (Contains-get_or c.args.hosts.now c.loop-host.host-index 0 c.loop-host-test.true) le at

pub loop-host-preserved : goal.loop-host-preserved
loop-host-preserved g c =
    let listed = Contains-get_or c.args.hosts.now c.loop-host.host-index 0 c.loop-host-test.true in
    host_freed g.D.Disk.view c.args.hosts.now c.args.newest.host c.args.newest.file c.loop-host.host-index 0 c.args.disks.now _ _ c.loop-host-test.true
    (c.in_ok-free_host.ensures.freed c.args.disks.now c.args.hosts.now (take c.loop-host.host-index c.args.hosts.now) listed
    (host_begun g.D.Disk.view c.args.hosts.now c.args.newest.host c.args.newest.file c.args.disks.now _ _ c.loop-host.host-index _ c.loop-host.invariant))

pub returns-in_err-free_host-clause-erases : goal.returns-in_err-free_host-clause-erases
returns-in_err-free_host-clause-erases g c =
    let listed = Contains-get_or c.args.hosts.now c.loop-host.host-index 0 c.loop-host-test.true in
    lane_joined g.D.Disk.view c.args.hosts.now c.args.newest.host c.args.newest.file c.args.disks.now _ _ c.loop-host.invariant.lane (c.free_host.ensures.erases c.args.hosts.now listed)

pub returns-in_err-free_host-clause-refused : goal.returns-in_err-free_host-clause-refused
returns-in_err-free_host-clause-refused g c =
    let listed = Contains-get_or c.args.hosts.now c.loop-host.host-index 0 c.loop-host-test.true in
    let fault = fault_later g.D.Disk.view c.args.hosts.now c.args.newest.host c.args.newest.file c.args.disks.now _ _ _ c.loop-host.invariant.lane
    (fault_among g.D.Disk.view c.args.hosts.now _ _ _ _ listed c.in_err-free_host.ensures.refused) in
    search (rules, fault)

pub returns-clause-freed : goal.returns-clause-freed
returns-clause-freed g c = all_freed g.D.Disk.view c.args.hosts.now c.args.newest.host c.args.newest.file c.loop-host.host-index c.args.disks.now _ _ (omega (arith, c.loop-host-test.false)) c.loop-host.invariant

pub returns-clause-erases : goal.returns-clause-erases
returns-clause-erases g c = c.loop-host.invariant.lane
