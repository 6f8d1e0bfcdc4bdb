use Rattle.std.proofs.Common.{◌≡◌, ◌<◌, ◌∙◌, length, subst, sym, arith, rules, get_or}
use Rattle.std.proofs.lemmas.List.{length-set, get_or_default}
use Rattle.disk_memory.specs.Replay.{FileState, clean}
use Rattle.disk_memory.specs.declared.file.FileBytes.{FileBytes}
use Rattle.disk_memory.specs.Mirrored.{Mirrors}
use Rattle.disk_memory.proofs.MirroredLemmas.{restarted_more, others_more}
use Rattle.disk_memory.proofs.medium.restart_all.Goals as goal

pub loop-i-preserved : goal.loop-i-preserved
loop-i-preserved c =
    let i = c.loop-i.i in
    let first = c.args.files.now.items in
    let files = c.loop-i.files.items in
    let file = c.restart.new.self in
    let was = c.index_mut-file.result.now in
    let count : i < length files = search rules in
    let at_here : was ≡ get_or first i was = c.index_mut-file.ensures.value ∙ c.loop-i.invariant.others i was (omega arith) in
    let others = c.loop-i.invariant.others in
    let here : (d : FileBytes) (state : FileState) → Mirrors (get_or first i d) state → Mirrors file (clean state.left) = λ d state is.
    c.restart.ensures state (subst (λ (x : FileBytes). Mirrors x state) (sym (at_here ∙ get_or_default first i was d (omega (arith, c.loop-i.invariant.count)))) is) in
    record {
      count = length-set files i file ∙ c.loop-i.invariant.count;
      restarted = restarted_more i first files file count others here c.loop-i.invariant.restarted;
      others = others_more i first files file count others here;
    }

pub returns-clause-each : goal.returns-clause-each
returns-clause-each c f d state lt is = c.loop-i.invariant.restarted f d state (omega (arith, c.loop-i.invariant.count)) is
