use Rattle.std.proofs.Common.{rules, ◌≤◌, List, ℕ, length, take, subst, arith}
use Rattle.std.proofs.lemmas.List.{take_all}
use Rattle.std.proofs.lemmas.List.Elements.{Contains-get_or}
use Rattle.disk_trait.specs.View.{View}
use Rattle.newest_store.specs.declared.choice.Choice.{Choice}
use Rattle.newest_store.proofs.ChoiceLemmas.{SoFar, none_so_far, refused_at, reads_joined, one_turn_more}
use Rattle.newest_store.proofs.choice.newest.Goals as goal

pub loop-host-init : goal.loop-host-init
loop-host-init g c = none_so_far g.D.Disk.view c.args.disks.now

-- the loop ends behind the last host
all_hosts : {D : Type 0} (view : D → View) (old now : List D) (hosts : List ℕ) (index : ℕ) (best : Choice) → SoFar view old now (take index hosts) best → length hosts ≤ index → SoFar view old now hosts best
all_hosts view old now hosts index best far past = subst (λ (l : List ℕ). SoFar view old now l best) (take_all index hosts past) far

-- each host of the list has a disk
pub newest_of_host-requires : goal.newest_of_host-requires
newest_of_host-requires g c = record {
  disk = omega (arith, c.requires.disks _ (Contains-get_or c.args.hosts.now c.loop-host.host-index 0 c.loop-host-test.true), c.loop-host.auto.disks);
}

-- a refusal is that of the host at the loop's index
pub returns-in_err-own-clause-refused : goal.returns-in_err-own-clause-refused
returns-in_err-own-clause-refused g c =
    let fault = refused_at g.D.Disk.view c.args.disks.now c.loop-host.disks c.newest_of_host.new.disks c.args.hosts.now c.loop-host.host-index 0 c.loop-host.best c.in_err-own.field-0.0
    c.loop-host.invariant c.loop-host-test.true (c.requires.disks _ (Contains-get_or c.args.hosts.now c.loop-host.host-index 0 c.loop-host-test.true)) c.in_err-own.ensures.refused in
    search (rules, fault)

pub returns-in_err-own-clause-reads_only : goal.returns-in_err-own-clause-reads_only
returns-in_err-own-clause-reads_only g c = reads_joined g.D.Disk.view _ _ c.loop-host.invariant.reads _ c.newest_of_host.ensures.reads_only

pub loop-host-preserved : goal.loop-host-preserved
loop-host-preserved g c = one_turn_more g.D.Disk.view _ _ _ c.args.hosts.now c.loop-host.host-index 0 _ _ _ c.loop-host.invariant c.loop-host-test.true
    (c.requires.disks _ (Contains-get_or c.args.hosts.now c.loop-host.host-index 0 c.loop-host-test.true))
    c.newest_of_host.ensures.reads_only c.in_ok-own.ensures.chosen c.in_ok-own.ensures.headed c.in_ok-own.ensures.one_of c.chosen_of-best.ensures.one_of c.chosen_of-best.ensures.chosen

pub returns-clause-chosen : goal.returns-clause-chosen
returns-clause-chosen g c = (all_hosts g.D.Disk.view _ _ c.args.hosts.now c.loop-host.host-index _ c.loop-host.invariant (omega (arith, c.loop-host-test.false))).chosen

pub returns-clause-headed : goal.returns-clause-headed
returns-clause-headed g c = (all_hosts g.D.Disk.view _ _ c.args.hosts.now c.loop-host.host-index _ c.loop-host.invariant (omega (arith, c.loop-host-test.false))).headed

pub returns-clause-one_of : goal.returns-clause-one_of
returns-clause-one_of g c = (all_hosts g.D.Disk.view _ _ c.args.hosts.now c.loop-host.host-index _ c.loop-host.invariant (omega (arith, c.loop-host-test.false))).one_of

pub returns-clause-reads_only : goal.returns-clause-reads_only
returns-clause-reads_only g c = (all_hosts g.D.Disk.view _ _ c.args.hosts.now c.loop-host.host-index _ c.loop-host.invariant (omega (arith, c.loop-host-test.false))).reads
