use Rattle.std.proofs.Common.{rules, arith, refl, sym, subst, List, [], ◌+◌, take}
use Rattle.std.proofs.lemmas.List.Elements.{Contains-get_or}
use Rattle.newest_store.proofs.ChoiceLemmas.{reads_joined}
use Rattle.roster_book.specs.declared.found.Found.{Found}
use Rattle.roster_book.proofs.RostersLemmas.{FoundSoFar, none_found, refused_here, found_here, all_found}
use Rattle.roster_book.proofs.rosters.read_rosters.Goals as goal

pub loop-host-init : goal.loop-host-init
loop-host-init g c = none_found g.D.Disk.view c.args.services.now c.args.partitions c.args.hosts.now _ c.in_ok-found.ensures.items

-- nothing was read
pub returns-in_err-found-clause-reads_only : goal.returns-in_err-found-clause-reads_only
returns-in_err-found-clause-reads_only g c = (none_found g.D.Disk.view c.args.services.now c.args.partitions c.args.hosts.now [] refl).reads

-- each host of the list has a service disk
pub roster_of_host-requires : goal.roster_of_host-requires
roster_of_host-requires g c = record {
  service = omega (arith, c.requires.services _ (Contains-get_or c.args.hosts.now c.loop-host.host-index 0 c.loop-host-test.true), c.loop-host.auto.services);
}

-- a refusal is that of the host at the loop's index
pub returns-in_err-own-clause-refused : goal.returns-in_err-own-clause-refused
returns-in_err-own-clause-refused g c =
    let refused = refused_here g.D.Disk.view c.args.services.now c.loop-host.services c.roster_of_host.new.services c.args.partitions c.args.hosts.now c.loop-host.host-index 0 c.loop-host.found.items c.in_err-own.field-0.0
    c.loop-host.invariant c.loop-host-test.true c.in_err-own.ensures.refused in
    search (rules, refused)

pub returns-in_err-own-clause-reads_only : goal.returns-in_err-own-clause-reads_only
returns-in_err-own-clause-reads_only g c = reads_joined g.D.Disk.view _ _ c.loop-host.invariant.reads _ c.roster_of_host.ensures.reads_only

pub returns-in_err-push-clause-reads_only : goal.returns-in_err-push-clause-reads_only
returns-in_err-push-clause-reads_only g c = reads_joined g.D.Disk.view _ _ c.loop-host.invariant.reads _ c.roster_of_host.ensures.reads_only

pub loop-host-preserved : goal.loop-host-preserved
loop-host-preserved g c =
    subst (λ (l : List Found). FoundSoFar g.D.Disk.view c.args.services.now c.roster_of_host.new.services c.args.partitions (take (c.loop-host.host-index + 1) c.args.hosts.now) l) (sym c.in_ok-push.ensures.items)
    (found_here g.D.Disk.view _ _ _ c.args.partitions c.args.hosts.now c.loop-host.host-index 0 _ _ c.loop-host.invariant c.loop-host-test.true c.roster_of_host.ensures.reads_only c.in_ok-own.ensures.host c.in_ok-own.ensures.found)

pub returns-clause-found : goal.returns-clause-found
returns-clause-found g c = (all_found g.D.Disk.view _ _ c.args.partitions c.args.hosts.now c.loop-host.host-index _ c.loop-host.invariant (omega (arith, c.loop-host-test.false))).are

pub returns-clause-reads_only : goal.returns-clause-reads_only
returns-clause-reads_only g c = (all_found g.D.Disk.view _ _ c.args.partitions c.args.hosts.now c.loop-host.host-index _ c.loop-host.invariant (omega (arith, c.loop-host-test.false))).reads
