-- What is known of a machine goes on with it, and so does all that is said of its run.
use Rattle.std.proofs.Common.{inl, inr, ⊎_elim, ℕ, List, [], ◌∷◌, refl, subst, sym, Option}
use Rattle.script_lines.specs.declared.command.Command.{Command}
use Rattle.script_lines.specs.declared.answer.Answer.{Answer}
use Rattle.script_loop.specs.Chain.{Answers, Breaks, Chain, Span, Refines, IsRun, between, unbroken}
use Rattle.script_loop.specs.Ends.{IsCutShort, in_report, in_script_fault, in_read_fault, EndsReport, IsSurvived}
use Rattle.script_loop.specs.Kinds.{ReachesFault, IsReportAsRead, EndsAfter, at_answer, in_line, IsPrefixReport}
use Rattle.script_loop.specs.declared.status.Status.{Status}
use Rattle.script_loop.specs.declared.status.Status.TheVariants.{Done, WordFault, ScriptFault, ReadFault, WriteFault, NoMemory}

-- it refines without breaks too
pub unbroken_refines : {M N : Type 0} (IsSeen : M → N → Type 0) (inside : Span M) (seen : Span N) → Refines IsSeen inside seen → Refines IsSeen (unbroken inside) (unbroken seen)
unbroken_refines IsSeen inside seen refines = record {
  begins = refines.begins;
  answered = refines.answered;
  broken = λ old new command known is off end. absurd off;
  left = refines.left;
}

module _ {M N : Type 0} (IsSeen : M → N → Type 0) (inside : Span M) (seen : Span N) (refines : Refines IsSeen inside seen) where
  -- the one induction: a chain of answers, as it is seen
  pub chain_refines : (old : M) (known : N) (commands : List Command) (answers : List Answer) (new : M) → IsSeen old known → Chain inside.answers old commands answers new
      → (next : N) × IsSeen new next × Chain seen.answers known commands answers next
  chain_refines old known [] [] new is run = (known, subst (λ (m : M). IsSeen m known) (sym run) is, refl)
  chain_refines old known (command ∷ commands) (answer ∷ answers) new is run =
      let here = refines.answered old run.0 command answer known is run.1 in
      let more = chain_refines run.0 here.0 commands answers new here.1 run.2 in
      (more.0, more.1, (here.0, here.2, more.2))
  chain_refines old known [] (answer ∷ answers) new is run = absurd run
  chain_refines old known (command ∷ commands) [] new is run = absurd run

  fault_refines : (script : List ℕ) (left : Option (List ℕ)) (n : ℕ) (lines : List ℕ) → ReachesFault inside script left n lines → ReachesFault seen script left n lines
  fault_refines script left n lines reaches =
      let is = reaches.is in
      let run = chain_refines inside.first seen.first is.commands is.answers is.last refines.begins is.run in
      record {
        is = record { commands = is.commands; answers = is.answers; last = run.0; faulty = is.faulty; run = run.2; at_end = refines.left is.last run.0 run.1 is.at_end; report_is = is.report_is };
        read = reaches.read;
        rest = reaches.rest;
        read_to = reaches.read_to;
        reaches = reaches.reaches;
      }

  read_refines : (script : List ℕ) (left : Option (List ℕ)) (lines : List ℕ) → IsReportAsRead inside script left lines → IsReportAsRead seen script left lines
  read_refines script left lines as_read =
      let is = as_read.is in
      let run = chain_refines inside.first seen.first is.commands is.answers is.last refines.begins is.run in
      record {
        read = as_read.read;
        rest = as_read.rest;
        read_to = as_read.read_to;
        is = record {
          lines = is.lines;
          piece = is.piece;
          commands = is.commands;
          answers = is.answers;
          last = run.0;
          split = is.split;
          short = is.short;
          few = is.few;
          small = is.small;
          spelled = is.spelled;
          run = run.2;
          at_end = refines.left is.last run.0 run.1 is.at_end;
          report_is = is.report_is;
        };
      }

  prefix_refines : (script shown tail : List ℕ) → IsPrefixReport inside script shown tail → IsPrefixReport seen script shown tail
  prefix_refines script shown tail prefix =
      let is = prefix.is in
      let run = chain_refines inside.first seen.first is.commands is.answers prefix.last refines.begins is.run in
      let ends : EndsAfter seen run.0 prefix.rest tail = elim prefix.ends [
        | at_answer end ↦ at_answer (refines.left prefix.last run.0 run.1 end)
        | in_line line following command new whole no_feed follows spelled broken end none ↦
            let next = refines.broken prefix.last new command run.0 run.1 broken end in
            in_line line following command next.0 whole no_feed follows spelled next.2 next.1 none
      ] in
      record {
        prefix = prefix.prefix;
        rest = prefix.rest;
        last = run.0;
        script_is = prefix.script_is;
        is = record { commands = is.commands; answers = is.answers; script_is = is.script_is; run = run.2; lines = is.lines };
        at_line = prefix.at_line;
        tail_is = prefix.tail_is;
        ends = ends;
      }

  cut_refines : (script : List ℕ) (failed : Type 0) (old left new : Option (List ℕ)) → IsCutShort inside script failed old left new → IsCutShort seen script failed old left new
  cut_refines script failed old left new (in_report is) = in_report (record { shown = is.shown; tail = is.tail; is = prefix_refines script is.shown is.tail is.is; added = is.added })
  cut_refines script failed old left new (in_script_fault n lines reaches added) = in_script_fault n lines (fault_refines script left n lines reaches) added
  cut_refines script failed old left new (in_read_fault lines as_read why added) = in_read_fault lines (read_refines script left lines as_read) why added

  -- what was answered survives
  pub survived_refines : (script : List ℕ) (old new : Option (List ℕ)) → IsSurvived inside script old new → IsSurvived seen script old new
  survived_refines script old new is = record { shown = is.shown; tail = is.tail; is = prefix_refines script is.shown is.tail is.is; added = is.added }

  -- whatever the streams tell
  pub run_refines : IsRun inside → IsRun seen
  run_refines is =
      let run = chain_refines inside.first seen.first is.commands is.answers is.last refines.begins is.run in
      elim is.gone [
        | inl same ↦ record {
          commands = is.commands;
          answers = is.answers;
          last = run.0;
          run = run.2;
          new = run.0;
          gone = inl refl;
          at_end = refines.left is.new run.0 (subst (λ (m : M). IsSeen m run.0) (sym same) run.1) is.at_end;
        }
        | inr broken ↦
            let end = refines.broken is.last is.new broken.0 run.0 run.1 broken.1 is.at_end in
            record { commands = is.commands; answers = is.answers; last = run.0; run = run.2; new = end.0; gone = inr (broken.0, end.2); at_end = end.1 }
      ]

-- what is added, however the run ends
pub ends_refines : {M N : Type 0} (IsSeen : M → N → Type 0) (inside : Span M) (seen : Span N) → Refines IsSeen inside seen
    → (script : List ℕ) (failed : Type 0) (old : Option (List ℕ)) (status : Status) (left new : Option (List ℕ)) → EndsReport inside script failed old status left new → EndsReport seen script failed old status left new
ends_refines IsSeen inside seen refines script failed old Done left new ends =
    let is = ends.is.is in
    let run = chain_refines IsSeen inside seen refines inside.first seen.first is.commands is.answers ends.is.last refines.begins is.run in
    record {
      report = ends.report;
      is = record {
        last = run.0;
        is = record { commands = is.commands; answers = is.answers; script_is = is.script_is; run = run.2; lines = is.lines };
        at_end = refines.left ends.is.last run.0 run.1 ends.is.at_end;
        left_is = ends.is.left_is;
      };
      added = ends.added;
    }
ends_refines IsSeen inside seen refines script failed old WordFault left new ends = tt
ends_refines IsSeen inside seen refines script failed old ScriptFault left new ends =
    let is = ends.is in
    record { report = ends.report; is = record { n = is.n; lines = is.lines; is = fault_refines IsSeen inside seen refines script left is.n is.lines is.is; report_is = is.report_is }; added = ends.added }
ends_refines IsSeen inside seen refines script failed old ReadFault left new ends =
    let is = ends.is in
    record { report = ends.report; is = record { lines = is.lines; is = read_refines IsSeen inside seen refines script left is.lines is.is; report_is = is.report_is }; added = ends.added }
ends_refines IsSeen inside seen refines script failed old WriteFault left new ends = cut_refines IsSeen (unbroken inside) (unbroken seen) (unbroken_refines IsSeen inside seen refines) script failed old left new ends
ends_refines IsSeen inside seen refines script failed old NoMemory left new ends = cut_refines IsSeen inside seen refines script failed old left new ends

-- what each answer keeps, and each command that is broken off, the whole span keeps
module _ {M : Type 0} (Keeps : M → M → Type 0) (none : (state : M) → Keeps state state) (then_ : (old mid new : M) → Keeps old mid → Keeps mid new → Keeps old new) (does : Answers M) (breaks : Breaks M)
    (answered : (old new : M) (command : Command) (answer : Answer) → does old command answer new → Keeps old new) (broken : (old new : M) (command : Command) → breaks old command new → Keeps old new) where
  chain_keeps : (old : M) (commands : List Command) (answers : List Answer) (new : M) → Chain does old commands answers new → Keeps old new
  chain_keeps old [] [] new run = subst (λ (m : M). Keeps old m) (sym run) (none old)
  chain_keeps old (command ∷ commands) (answer ∷ answers) new run =
      then_ old run.0 new (answered old run.0 command answer run.1) (chain_keeps run.0 commands answers new run.2)
  chain_keeps old [] (answer ∷ answers) new run = absurd run
  chain_keeps old (command ∷ commands) [] new run = absurd run

  pub run_keeps : (old new : M) → IsRun (between does breaks old new) → Keeps old new
  run_keeps old new is =
      let here = chain_keeps old is.commands is.answers is.last is.run in
      let end : Keeps old is.new = ⊎_elim (λ same. subst (λ (m : M). Keeps old m) (sym same) here) (λ off. then_ old is.last is.new here (broken is.last is.new off.0 off.1)) is.gone in
      subst (λ (m : M). Keeps old m) is.at_end end
