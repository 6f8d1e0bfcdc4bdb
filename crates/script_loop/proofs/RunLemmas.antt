-- A run with its source, from its start to its end.
use Rattle.std.proofs.Common.{◌≡◌, ◌≢◌, inl, inr, ⊎_elim, ℕ, List, [], ◌++◌, take, drop, refl, sym, ◌∙◌, ap, subst, append_assoc, arith, Option, Some, None}
use Rattle.std.specs.Option.{ForSome}
use Rattle.std.proofs.lemmas.List.{append-nil, take-append-drop}
use Rattle.byte_streams.specs.declared.fault.SourceRefusal.{SourceRefusal}
use Rattle.byte_streams.specs.declared.fault.SourceRefusal.TheVariants as sources
use Rattle.byte_streams.proofs.StreamsLemmas.{adds_joined}
use Rattle.script_lines.specs.declared.command.Command.{Command}
use Rattle.report_lines.specs.Line.{fault_line}
use Rattle.report_lines.specs.declared.fault.Fault.TheVariants.{Script, Read}
use Rattle.script_loop.specs.Chain.{Answers, Breaks, Span, between, unbroken, IsRun}
use Rattle.script_loop.specs.Ends.{ReportsFault, IsCutShort, in_report, in_script_fault, in_read_fault, EndsReport}
use Rattle.script_loop.specs.Halts.{halt_of_source, StopsAt, HaltsWith, HaltsRun}
use Rattle.script_loop.specs.Kinds.{IsReadTo, ReachesFault, at_answer, in_line, IsPrefixReport, IsCutReport, IsReportSoFar, IsReportAsRead}
use Rattle.script_loop.specs.Progress.{Reached, Advances, HaltsIn, Underway, IsAllRead, IsDone, IsHalted}
use Rattle.script_loop.specs.Report.{report_of, IsReportOf}
use Rattle.script_loop.specs.Script.{IsScriptOf}
use Rattle.script_loop.specs.declared.reason.ScriptReason.{ScriptReason}
use Rattle.script_loop.specs.declared.session.Session.{Session}
use Rattle.script_loop.specs.declared.session.Halt.{Halt}
use Rattle.script_loop.specs.declared.session.Halt.TheVariants.{Faulty, ReadFault, WriteFault, NoMemory}
use Rattle.script_loop.specs.declared.status.Status.{Status}
use Rattle.script_loop.specs.declared.status.Status.TheVariants as Statuses
use Rattle.script_loop.specs.declared.status.Status.TheVariants.{Done, WordFault, ScriptFault}
use Rattle.script_loop.proofs.EndsLemmas.{cut_at_start}
use Rattle.script_loop.proofs.FaultsLemmas.{no_first_fault}
use Rattle.script_loop.proofs.ProgressLemmas.{prefix_so_far, reached_at_start, read_size}

-- what a source has left, or nothing where it doesn't tell
abbrev rest_of : Option (List ℕ) → List ℕ
rest_of None = []
rest_of (Some bytes) = bytes

rest_told : (script read : List ℕ) (left : Option (List ℕ)) → (rest : List ℕ) × IsReadTo script read rest left → IsReadTo script read (rest_of left) left
rest_told script read left told = record {
  left_is = told.1.left_is ∙ ap Some (sym (ap rest_of told.1.left_is));
  script_is = told.1.script_is ∙ ap (λ (t : List ℕ). read ++ t) (sym (ap rest_of told.1.left_is));
}

-- ---- reading

pub underway_at_start : {M : Type 0} (does : Answers M) (first : M) (session : Session) (left written : Option (List ℕ))
    → (session.partial.items ≡ []) × (session.lines ≡ 0) × (session.passed ≡ 0) → Underway does first left written session first left written
underway_at_start does first session left written empty = record {
  read = [];
  gave = λ script is. (script, record { left_is = is; script_is = refl });
  reached = reached_at_start does first session written empty;
}

-- the bytes that are left after a piece
drop_more : (script read piece rest : List ℕ) (count : ℕ) → script ≡ read ++ rest → piece ≡ take count rest → script ≡ (read ++ piece) ++ drop count rest
drop_more script read piece rest count is piece_is =
    is ∙ ap (λ (t : List ℕ). read ++ t) (sym (take-append-drop count rest) ∙ ap (λ (t : List ℕ). t ++ drop count rest) (sym piece_is)) ∙ sym (append_assoc read piece (drop count rest))

-- a piece was read and answered
pub reads_on : {M : Type 0} (does : Answers M) (first : M) (was before : Option (List ℕ)) (old new : Session) (v w : M) (left after mid now : Option (List ℕ)) (count : ℕ) (piece : List ℕ)
    → Underway does first was before old v left mid
    → ForSome left (λ bytes. piece ≡ take count bytes) → ForSome left (λ bytes. after ≡ Some (drop count bytes))
    → Advances does old v mid piece new w now → Underway does first was before new w after now
reads_on does first was before old new v w left after mid now count piece so_far piece_is after_is advances = record {
  read = so_far.read ++ piece;
  gave = λ script is.
      let gave = so_far.gave script is in
      (drop count gave.0, record { left_is = after_is gave.0 gave.1.left_is; script_is = drop_more script so_far.read piece gave.0 count gave.1.script_is (piece_is gave.0 gave.1.left_is) });
  reached = advances first so_far.read before so_far.reached;
}

-- a read of no byte ends the source
pub all_read : {M : Type 0} (does : Answers M) (first : M) (was before : Option (List ℕ)) (session : Session) (v : M) (left after now : Option (List ℕ)) (count : ℕ) → count ≡ 0
    → Underway does first was before session v left now → ForSome left (λ bytes. bytes ≡ []) → ForSome left (λ bytes. after ≡ Some (drop count bytes)) → IsAllRead does first was before session v after now
all_read does first was before session v left after now count none so_far empty after_is = record {
  read = so_far.read;
  gave = λ script is.
      let gave = so_far.gave script is in
      let nothing = empty gave.0 gave.1.left_is in
      record {
        left_is = after_is gave.0 gave.1.left_is ∙ ap (λ (n : ℕ). Some (drop n gave.0)) none ∙ ap Some nothing;
        script_is = gave.1.script_is ∙ ap (λ (t : List ℕ). so_far.read ++ t) nothing;
      };
  reached = so_far.reached;
}

-- ---- halting

-- what is answered, without the session
report_so_far : {M : Type 0} (does : Answers M) (breaks : Breaks M) (first : M) (read : List ℕ) (before : Option (List ℕ)) (session : Session) (v : M) (now : Option (List ℕ))
    → (so_far : Reached does first read before session v now) → IsReportSoFar (between does breaks first v) read (report_of so_far.answers)
report_so_far does breaks first read before session v now so_far =
    let few = session.few in
    let small = session.small in
    let held = session.partial.ok.0 in
    record {
      lines = so_far.lines;
      piece = session.partial.items;
      commands = so_far.commands;
      answers = so_far.answers;
      last = v;
      split = so_far.split;
      short = so_far.short;
      few = omega (arith, few, so_far.counted);
      small = omega (arith, held, small, read_size does first read before session v now so_far);
      spelled = so_far.spelled;
      run = so_far.run;
      at_end = refl;
      report_is = refl;
    }

refused : {M : Type 0} (does : Answers M) (breaks : Breaks M) (first : M) (read rest : List ℕ) (before : Option (List ℕ)) (session : Session) (v : M) (now : Option (List ℕ)) (refusal : SourceRefusal)
    → Reached does first read before session v now → HaltsRun (between does breaks first v) read rest before (halt_of_source refusal) now
refused does breaks first read rest before session v now sources.Failed so_far =
    record { report = report_of so_far.answers; is = report_so_far does breaks first read before session v now so_far; added = so_far.added }
refused does breaks first read rest before session v now sources.NoMemory so_far = prefix_so_far (between does breaks first v) read rest before session v now now so_far refl (at_answer refl)

-- the source refused a read
pub read_halts : {M : Type 0} (does : Answers M) (breaks : Breaks M) (first : M) (was before : Option (List ℕ)) (session : Session) (v : M) (left after now : Option (List ℕ)) (refusal : SourceRefusal)
    → Underway does first was before session v left now → ForSome left (λ bytes. after ≡ Some bytes)
    → IsHalted (between does breaks first v) was before (halt_of_source refusal) after now
read_halts does breaks first was before session v left after now refusal so_far same = record {
  read = so_far.read;
  rest = rest_of after;
  gave = λ script is. let gave = so_far.gave script is in rest_told script so_far.read after (gave.0, record { left_is = same gave.0 gave.1.left_is; script_is = gave.1.script_is });
  halts = refused does breaks first so_far.read (rest_of after) before session v now refusal so_far.reached;
}

-- a halt on a line is one of the run
any_halts : {M : Type 0} (span : Span M) (read rest : List ℕ) (before : Option (List ℕ)) (halt : Halt) (now : Option (List ℕ)) → HaltsWith span read rest before halt now → HaltsRun span read rest before halt now
any_halts span read rest before (Faulty n reason) now halts = halts
any_halts span read rest before ReadFault now none = absurd none
any_halts span read rest before WriteFault now halts = halts
any_halts span read rest before NoMemory now halts = halts

-- a piece was read that halts the run
pub piece_halts : {M : Type 0} (does : Answers M) (breaks : Breaks M) (first : M) (was before : Option (List ℕ)) (session : Session) (v w : M) (left after mid now : Option (List ℕ)) (count : ℕ) (piece : List ℕ) (halt : Halt)
    → Underway does first was before session v left mid
    → ForSome left (λ bytes. piece ≡ take count bytes) → ForSome left (λ bytes. after ≡ Some (drop count bytes))
    → HaltsIn does breaks session v mid piece halt w now → IsHalted (between does breaks first w) was before halt after now
piece_halts does breaks first was before session v w left after mid now count piece halt so_far piece_is after_is halts = record {
  read = so_far.read ++ piece;
  rest = rest_of after;
  gave = λ script is.
      let gave = so_far.gave script is in
      rest_told script (so_far.read ++ piece) after
      (drop count gave.0, record { left_is = after_is gave.0 gave.1.left_is; script_is = drop_more script so_far.read piece gave.0 count gave.1.script_is (piece_is gave.0 gave.1.left_is) });
  halts = any_halts (between does breaks first w) (so_far.read ++ piece) (rest_of after) before halt now (halts first so_far.read (rest_of after) before so_far.reached);
}

-- the last line halts the run
pub last_halts : {M : Type 0} (does : Answers M) (breaks : Breaks M) (first : M) (was before : Option (List ℕ)) (session : Session) (v w : M) (left mid now : Option (List ℕ)) (halt : Halt)
    → (so_far : IsAllRead does first was before session v left mid) → HaltsWith (between does breaks first w) so_far.read [] before halt now → IsHalted (between does breaks first w) was before halt left now
last_halts does breaks first was before session v w left mid now halt so_far halts = record {
  read = so_far.read;
  rest = [];
  gave = so_far.gave;
  halts = any_halts (between does breaks first w) so_far.read [] before halt now halts;
}

-- memory ran out before the first read
pub start_halts : {M : Type 0} (does : Answers M) (breaks : Breaks M) (first : M) (was before : Option (List ℕ)) → IsHalted (between does breaks first first) was before NoMemory was before
start_halts does breaks first was before = record {
  read = [];
  rest = rest_of was;
  gave = λ script is. rest_told script [] was (script, record { left_is = is; script_is = refl });
  halts = cut_at_start (between does breaks first first) (rest_of was) before refl;
}

-- ---- what was answered, whatever the streams tell

run_of_prefix : {M : Type 0} (span : Span M) (script shown tail : List ℕ) → IsPrefixReport span script shown tail → IsRun span
run_of_prefix span script shown tail prefix = elim prefix.ends [
  | at_answer end ↦ record { commands = prefix.is.commands; answers = prefix.is.answers; last = prefix.last; run = prefix.is.run; new = prefix.last; gone = inl refl; at_end = end }
  | in_line line following command new is no_feed follows spelled broken end none ↦ record { commands = prefix.is.commands; answers = prefix.is.answers; last = prefix.last; run = prefix.is.run; new = new; gone = inr (command, broken); at_end = end }
]

-- a span in which no command is broken off
pub run_unbroken : {M : Type 0} (span : Span M) → IsRun (unbroken span) → IsRun span
run_unbroken span is = record {
  commands = is.commands;
  answers = is.answers;
  last = is.last;
  run = is.run;
  new = is.new;
  gone = ⊎_elim (λ same. inl same) (λ (none : (command : Command) × ⊥). absurd none.1) is.gone;
  at_end = is.at_end;
}

pub run_done : {M : Type 0} (span : Span M) (was before left now : Option (List ℕ)) → IsDone span was before left now → IsRun (unbroken span)
run_done span was before left now done = record { commands = done.finished.is.commands; answers = done.finished.is.answers; last = done.finished.last; run = done.finished.is.run; new = done.finished.last; gone = inl refl; at_end = done.finished.at_end }

-- only where memory ran out may a command be broken off
pub run_halted : {M : Type 0} (span : Span M) (was before : Option (List ℕ)) (halt : Halt) (left now : Option (List ℕ)) → IsHalted span was before halt left now → halt ≢ NoMemory → IsRun (unbroken span)
run_halted span was before (Faulty n reason) left now halted other =
    let is = halted.halts.is in
    record { commands = is.commands; answers = is.answers; last = is.last; run = is.run; new = is.last; gone = inl refl; at_end = is.at_end }
run_halted span was before ReadFault left now halted other =
    let is = halted.halts.is in
    record { commands = is.commands; answers = is.answers; last = is.last; run = is.run; new = is.last; gone = inl refl; at_end = is.at_end }
run_halted span was before WriteFault left now halted other = run_of_prefix (unbroken span) (halted.read ++ halted.rest) halted.halts.shown halted.halts.tail halted.halts.is
run_halted span was before NoMemory left now halted other = absurd (other refl)

pub run_out_of_memory : {M : Type 0} (span : Span M) (was before left now : Option (List ℕ)) → IsHalted span was before NoMemory left now → IsRun span
run_out_of_memory span was before left now halted = run_of_prefix span (halted.read ++ halted.rest) halted.halts.shown halted.halts.tail halted.halts.is

-- ---- how the run ends

-- the span with other breaks: the reports of whole lines are the same
abbrev with_breaks : {M : Type 0} → Span M → Breaks M → Span M
with_breaks span breaks = record { answers = span.answers; breaks = breaks; first = span.first; ends = span.ends }

reaches_fault : {M : Type 0} (span : Span M) (breaks : Breaks M) (script read rest : List ℕ) (before left now : Option (List ℕ)) (n : ℕ)
    → IsReadTo script read rest left → (stop : StopsAt span (read ++ rest) read before n now) → ReachesFault (with_breaks span breaks) script left n stop.lines
reaches_fault span breaks script read rest before left now n read_to stop =
    subst (λ (s : List ℕ). ReachesFault (with_breaks span breaks) s left n stop.lines) (sym read_to.script_is)
    (record {
      is = record { commands = stop.is.commands; answers = stop.is.answers; last = stop.is.last; faulty = stop.is.faulty; run = stop.is.run; at_end = stop.is.at_end; report_is = stop.is.report_is };
      read = read;
      rest = rest;
      read_to = record { left_is = read_to.left_is; script_is = refl };
      reaches = stop.reaches;
    })

as_read : {M : Type 0} (span : Span M) (breaks : Breaks M) (script read rest lines : List ℕ) (left : Option (List ℕ)) → IsReadTo script read rest left → IsReportSoFar span read lines
    → IsReportAsRead (with_breaks span breaks) script left lines
as_read span breaks script read rest lines left read_to is = record {
  read = read;
  rest = rest;
  read_to = read_to;
  is = record {
    lines = is.lines;
    piece = is.piece;
    commands = is.commands;
    answers = is.answers;
    last = is.last;
    split = is.split;
    short = is.short;
    few = is.few;
    small = is.small;
    spelled = is.spelled;
    run = is.run;
    at_end = is.at_end;
    report_is = is.report_is;
  };
}

pub ends_done : {M : Type 0} (span : Span M) (script : List ℕ) (failed : Type 0) (was before left now : Option (List ℕ)) → IsDone span was before left now → was ≡ Some script → EndsReport span script failed before Done left now
ends_done span script failed was before left now done is =
    let gave = done.gave script is in
    record {
      report = done.finished.report;
      is = record {
        last = done.finished.last;
        is = subst (λ (s : List ℕ). IsReportOf span.answers span.first s done.finished.report done.finished.last) (sym (gave.script_is ∙ append-nil done.read)) done.finished.is;
        at_end = done.finished.at_end;
        left_is = gave.left_is;
      };
      added = done.finished.added;
    }

pub ends_at_fault : {M : Type 0} (span : Span M) (script : List ℕ) (failed : Type 0) (was before left mid now : Option (List ℕ)) (n : ℕ) (reason : ScriptReason) (status : Status)
    → IsHalted span was before (Faulty n reason) left mid → ReportsFault (Script n) mid status now → was ≡ Some script → EndsReport span script failed before status left now
ends_at_fault span script failed was before left mid now n reason Done halted none is = absurd none
ends_at_fault span script failed was before left mid now n reason WordFault halted written is = tt
ends_at_fault span script failed was before left mid now n reason ScriptFault halted written is = record {
  report = halted.halts.lines ++ fault_line (Script n);
  is = record { n = n; lines = halted.halts.lines; is = reaches_fault span span.breaks script halted.read halted.rest before left mid n (halted.gave script is) halted.halts; report_is = refl };
  added = adds_joined before mid now halted.halts.lines (fault_line (Script n)) halted.halts.added written.1;
}
ends_at_fault span script failed was before left mid now n reason Statuses.ReadFault halted written is = let other = written.0 in cc
ends_at_fault span script failed was before left mid now n reason Statuses.WriteFault halted part is =
    in_script_fault n halted.halts.lines (reaches_fault span (λ old command new. ⊥) script halted.read halted.rest before left mid n (halted.gave script is) halted.halts)
    (record { mid = mid; added = halted.halts.added; cut = part })
ends_at_fault span script failed was before left mid now n reason Statuses.NoMemory halted part is =
    in_script_fault n halted.halts.lines (reaches_fault span span.breaks script halted.read halted.rest before left mid n (halted.gave script is) halted.halts)
    (record { mid = mid; added = halted.halts.added; cut = part })

pub ends_at_read : {M : Type 0} (span : Span M) (script : List ℕ) (failed : Type 0) (was before left mid now : Option (List ℕ)) (status : Status)
    → IsHalted span was before ReadFault left mid → failed → ReportsFault Read mid status now → was ≡ Some script → EndsReport span script failed before status left now
ends_at_read span script failed was before left mid now Done halted why none is = absurd none
ends_at_read span script failed was before left mid now WordFault halted why written is = tt
ends_at_read span script failed was before left mid now ScriptFault halted why written is = let other = written.0 in cc
ends_at_read span script failed was before left mid now Statuses.ReadFault halted why written is = record {
  report = halted.halts.report ++ fault_line Read;
  is = record { lines = halted.halts.report; is = as_read span span.breaks script halted.read halted.rest halted.halts.report left (halted.gave script is) halted.halts.is; report_is = refl };
  added = adds_joined before mid now halted.halts.report (fault_line Read) halted.halts.added written.1;
}
ends_at_read span script failed was before left mid now Statuses.WriteFault halted why part is =
    in_read_fault halted.halts.report (as_read span (λ old command new. ⊥) script halted.read halted.rest halted.halts.report left (halted.gave script is) halted.halts.is) why
    (record { mid = mid; added = halted.halts.added; cut = part })
ends_at_read span script failed was before left mid now Statuses.NoMemory halted why part is =
    in_read_fault halted.halts.report (as_read span span.breaks script halted.read halted.rest halted.halts.report left (halted.gave script is) halted.halts.is) why
    (record { mid = mid; added = halted.halts.added; cut = part })

-- the report is cut short, and no fault's line is begun
pub ends_cut : {M : Type 0} (span : Span M) (script read rest : List ℕ) (failed : Type 0) (before left now : Option (List ℕ)) → IsReadTo script read rest left
    → IsCutReport span (read ++ rest) before now → IsCutShort span script failed before left now
ends_cut span script read rest failed before left now read_to is_cut = in_report (subst (λ (s : List ℕ). IsCutReport span s before now) (sym read_to.script_is) is_cut)

-- a good script has no first faulty line
pub no_fault : {M : Type 0} (span : Span M) (script : List ℕ) (commands : List Command) (failed : Type 0) (before left now : Option (List ℕ)) (status : Status)
    → EndsReport span script failed before status left now → IsScriptOf script commands → status ≢ ScriptFault
no_fault span script commands failed before left now Done ends good is = cc
no_fault span script commands failed before left now WordFault ends good is = cc
no_fault span script commands failed before left now ScriptFault ends good is = no_first_fault script commands ends.is.n ends.is.is.is.commands good ends.is.is.is.faulty
no_fault span script commands failed before left now Statuses.ReadFault ends good is = cc
no_fault span script commands failed before left now Statuses.WriteFault ends good is = cc
no_fault span script commands failed before left now Statuses.NoMemory ends good is = cc
