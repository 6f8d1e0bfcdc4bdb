use Rattle.std.proofs.Common.{◌≡◌, ◌⊎◌, List, ℕ, Some, subst, sym, ◌∙◌}
use Rattle.fault_count.specs.Rose.{Rose}
use Rattle.plan_words.specs.Words.{HasNoPlan, words_of}
use Rattle.script_loop.specs.Ends.{EndsReport}
use Rattle.script_loop.specs.declared.status.Status.{Status}
use Rattle.script_loop.proofs.EndsLemmas.{survived}
use Rattle.script_loop.proofs.StatusLemmas.{same_code}
use Rattle.cluster_cli.specs.Ends.{StatusHasCause, IsRefused}
use Rattle.cluster_cli.specs.Sites.{ForRuns, IsLeftBy}
use Rattle.cluster_cli.proofs.EndLemmas.{cause, completed}
use Rattle.cluster_cli.proofs.run.run_steps.Goals as goal

pub returns-clause-cause : goal.returns-clause-cause
returns-clause-cause g c = λ status is.
    let why = c.run_words-ran.ensures in
    let Reads = Rose (g.S.Source.faults c.args.source.now) (g.S.Source.faults c.run_words-ran.new.source) in
    let Writes = Rose (g.K.Sink.faults c.args.sink.now) (g.K.Sink.faults c.run_words-ran.new.sink) in
    subst (λ (s : Status). StatusHasCause s (HasNoPlan (words_of c.args.words.now)) Reads Writes) (same_code _ status (sym c.code.ensures ∙ is)) (cause c.run_words-ran.result.status _ _ _ why.words why.read why.write)

pub returns-clause-ends : goal.returns-clause-ends
returns-clause-ends g c = λ plan status is script left.
    subst (λ (s : Status). ForRuns s g.D.Disk.view c.args.site c.run_words-ran.new.site (λ span. EndsReport span script (Rose (g.S.Source.faults c.args.source.now) (g.S.Source.faults c.run_words-ran.new.source)) (g.K.Sink.written c.args.sink.now) s (g.S.Source.left c.run_words-ran.new.source) (g.K.Sink.written c.run_words-ran.new.sink)))
    (same_code _ status (sym c.code.ensures ∙ is)) (c.run_words-ran.ensures.ends plan script left)

pub returns-clause-survives : goal.returns-clause-survives
returns-clause-survives g c = λ plan status is script left.
    let why = c.run_words-ran.ensures in
    let same = same_code _ status (sym c.code.ensures ∙ is) in
    let ends = subst (λ (s : Status). ForRuns s g.D.Disk.view c.args.site c.run_words-ran.new.site (λ span. EndsReport span script (Rose (g.S.Source.faults c.args.source.now) (g.S.Source.faults c.run_words-ran.new.source)) (g.K.Sink.written c.args.sink.now) s (g.S.Source.left c.run_words-ran.new.source) (g.K.Sink.written c.run_words-ran.new.sink)))
    same (why.ends plan script left) in
    λ old new disks tells files does hold.
    let here = ends old new disks tells files does hold in
    (here.0, here.1, here.2, here.3, survived _ script _ _ status _ _ (λ e. plan (why.words (same ∙ e))) here.4)

pub returns-clause-kept : goal.returns-clause-kept
returns-clause-kept g c = λ plan status is.
    subst (λ (s : Status). ForRuns s g.D.Disk.view c.args.site c.run_words-ran.new.site (IsLeftBy s)) (same_code _ status (sym c.code.ensures ∙ is)) (c.run_words-ran.ensures.kept plan)

pub returns-clause-refused : goal.returns-clause-refused
returns-clause-refused g c = λ none status is.
    subst (λ (s : Status). IsRefused s (g.S.Source.left c.args.source.now) (g.S.Source.left c.run_words-ran.new.source) (g.K.Sink.written c.args.sink.now) (g.K.Sink.written c.run_words-ran.new.sink) c.args.site c.run_words-ran.new.site) (same_code _ status (sym c.code.ensures ∙ is)) (c.run_words-ran.ensures.refused none)

pub returns-clause-complete : goal.returns-clause-complete
returns-clause-complete g c = λ plan script commands left is no_read no_write.
    let why = c.run_words-ran.ensures in
    subst (λ (n : ℕ). (n ≡ 0) ⊎ (n ≡ 5)) (sym c.code.ensures)
    (completed _ (λ e. plan (why.words e)) (why.complete plan script commands left is) (λ e. no_read (why.read e)) (λ e. no_write (why.write e)))
