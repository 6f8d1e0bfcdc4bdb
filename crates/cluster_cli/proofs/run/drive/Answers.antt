use Rattle.std.proofs.Common.{◌≡◌, refl, ap}
use Rattle.disk_trait.specs.Moments.{Later}
use Rattle.disk_trait.proofs.Runs.{later_none, later_joined}
use Rattle.script_loop.proofs.RefinesLemmas.{ends_refines, run_refines, unbroken_refines, run_keeps}
use Rattle.cluster_cli.proofs.EndLemmas.{left_by}
use Rattle.cluster_cli.proofs.MachineLemmas.{there_too, new_there, ready_one, view_left, later_there, refines}
use Rattle.cluster_cli.specs.Sites.{IsThere, HasOneDisk}
use Rattle.cluster_cli.proofs.run.drive.Goals as goal

pub returns-clause-later : goal.returns-clause-later
returns-clause-later g c =
    run_keeps (λ old new. Later (view_left g.D.Disk.view old.cluster) (view_left g.D.Disk.view new.cluster)) (λ machine. later_none _) (λ old mid new first more. later_joined _ _ _ first more) _ _
    (λ old new command answer step. later_there g.D.Disk.view old.cluster new.cluster _ (λ before after is. is.0.later) step.1)
    (λ old new command off. later_there g.D.Disk.view old.cluster new.cluster _ (λ before after is. is.0.later) off.1) _ _ c.report_script.ensures.runs

pub returns-clause-one : goal.returns-clause-one
returns-clause-one g c =
    run_keeps (λ old new. IsThere old.cluster HasOneDisk → IsThere new.cluster HasOneDisk) (λ machine is. is) (λ old mid new first more is. more (first is)) _ _
    (λ old new command answer step is. new_there old.cluster new.cluster _ _ (λ before after made. made.1) step.1)
    (λ old new command off is. new_there old.cluster new.cluster _ _ (λ before after made. made.1) off.1) _ _ c.report_script.ensures.runs
    (there_too _ _ HasOneDisk (ready_one g.D.Disk.view) c.requires.ready)

pub returns-clause-ends : goal.returns-clause-ends
returns-clause-ends g c = λ first script at left.
    ends_refines _ _ _
    (refines g.D.Disk.view (λ machine. machine.hosts.now) (λ machine. machine.cluster) _ _
    (λ old new command answer step. (ap (λ h. h.now) step.0, step.1)) (λ old new command off. off.1) _ _ _ first (refl, at))
    script _ _ _ _ _ (c.report_script.ensures.ends script left)

pub returns-clause-kept : goal.returns-clause-kept
returns-clause-kept g c = λ first at.
    let goes = refines g.D.Disk.view (λ machine. machine.hosts.now) (λ machine. machine.cluster) _ _
    (λ old new command answer step. (ap (λ h. h.now) step.0, step.1)) (λ old new command off. off.1) _ _ _ first (refl, at) in
    left_by _ _ (λ not. run_refines _ _ _ (unbroken_refines _ _ _ goes) (c.report_script.ensures.unbroken not)) (run_refines _ _ _ goes c.report_script.ensures.runs)
