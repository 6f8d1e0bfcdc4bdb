-- However a run ends, what was answered survives; and how a run ends that never began.
use Rattle.std.proofs.Common.{◌≡◌, ◌≢◌, inl, inr, ℕ, ◌+◌, List, [], ◌++◌, length, refl, sym, ◌∙◌, ap, subst, append_assoc, arith, length-append, Option, Some, None}
use Rattle.std.specs.Prelude.{flat_map}
use Rattle.std.proofs.lemmas.List.{append-nil}
use Rattle.byte_streams.specs.Streams.{Adds}
use Rattle.byte_streams.proofs.StreamsLemmas.{adds_none, no_prefix, whole_prefix}
use Rattle.report_lines.specs.Line.{fault_line}
use Rattle.report_lines.specs.declared.fault.Fault.{Fault}
use Rattle.report_lines.specs.declared.fault.Fault.TheVariants as faults
use Rattle.script_loop.specs.Chain.{Span, unbroken, IsRun}
use Rattle.script_loop.specs.Ends.{ReportsFault, IsCutShort, in_report, in_script_fault, in_read_fault, IsSurvived, EndsReport}
use Rattle.script_loop.specs.Kinds.{ReachesFault, IsReportAsRead, at_answer, in_line, IsPrefixReport, IsCutReport}
use Rattle.script_loop.specs.Report.{is_empty, IsReportOf, AddsThenPrefix, AddsThenPart}
use Rattle.script_loop.specs.Script.{ended}
use Rattle.script_loop.specs.declared.status.Status.{Status}
use Rattle.script_loop.specs.declared.status.Status.TheVariants.{Done, WordFault, ScriptFault, ReadFault, WriteFault, NoMemory}
use Rattle.script_loop.proofs.ProgressLemmas.{prefix_of_lines}

-- ---- a run that never began

-- a fault's line has its line feed at least
some_line : (fault : Fault) → fault_line fault ≢ []
some_line fault none = let sizes = simp length-append at (ap length none) in omega (arith, sizes)

-- memory ran out before anything of a fault's line was written
pub nothing_reported : (fault : Fault) (written : Option (List ℕ)) → ReportsFault fault written NoMemory written
nothing_reported fault written = record { part = record { prefix = []; rest = fault_line fault; text_is = refl; added = adds_none written }; missing = some_line fault }

pub cut_at_start : {M : Type 0} (span : Span M) (script : List ℕ) (written : Option (List ℕ)) → span.ends span.first → IsCutReport span script written written
cut_at_start span script written end = record {
  shown = [];
  tail = [];
  is = prefix_of_lines span script [] script [] [] span.first refl tt tt (omega arith) (omega arith) tt refl (at_answer end);
  added = record { mid = written; added = adds_none written; cut = no_prefix written [] };
}

-- memory ran out before the first read
pub ends_at_start : {M : Type 0} (span : Span M) (script : List ℕ) (failed : Type 0) (left written : Option (List ℕ)) → span.ends span.first → EndsReport span script failed written NoMemory left written
ends_at_start span script failed left written end = in_report (cut_at_start span script written end)

-- nothing was answered
pub run_at_start : {M : Type 0} (span : Span M) → span.ends span.first → IsRun span
run_at_start span end = record { commands = []; answers = []; last = span.first; run = refl; new = span.first; gone = inl refl; at_end = end }

-- ---- each end

-- the lines before the first that is faulty
prefix_to_fault : {M : Type 0} (span : Span M) (script : List ℕ) (left : Option (List ℕ)) (n : ℕ) (lines : List ℕ) → ReachesFault span script left n lines → IsPrefixReport span script lines []
prefix_to_fault span script left n lines reaches =
    let is = reaches.is in
    let faulty = is.faulty in
    subst (λ (r : List ℕ). IsPrefixReport span script r []) (sym is.report_is)
    (prefix_of_lines span script faulty.lines (faulty.line ++ faulty.rest) is.commands is.answers is.last faulty.whole
    faulty.each faulty.short faulty.few faulty.small faulty.spelled is.run (at_answer is.at_end))

-- the lines whose line feed was read
prefix_as_read : {M : Type 0} (span : Span M) (script : List ℕ) (left : Option (List ℕ)) (lines : List ℕ) → IsReportAsRead span script left lines → IsPrefixReport span script lines []
prefix_as_read span script left lines as_read =
    let is = as_read.is in
    let sizes : length as_read.read ≡ length (flat_map ended is.lines) + length is.piece = ap length is.split.whole ∙ length-append (flat_map ended is.lines) is.piece in
    subst (λ (r : List ℕ). IsPrefixReport span script r []) (sym is.report_is)
    (prefix_of_lines span script is.lines (is.piece ++ as_read.rest) is.commands is.answers is.last
    (as_read.read_to.script_is ∙ ap (λ (t : List ℕ). t ++ as_read.rest) is.split.whole ∙ append_assoc (flat_map ended is.lines) is.piece as_read.rest)
    is.split.each is.short is.few (omega (arith, is.small, sizes)) is.spelled is.run (at_answer is.at_end))

-- a report without a tail was added whole
survived_whole : {M : Type 0} (span : Span M) (script report : List ℕ) (old new : Option (List ℕ)) → IsPrefixReport span script report [] → Adds old report new → IsSurvived span script old new
survived_whole span script report old new is added = record { shown = report; tail = []; is = is; added = inl (record { mid = new; added = added; cut = no_prefix new [] }) }

-- and a prefix of a fault's line after it
survived_fault : {M : Type 0} (span : Span M) (script lines : List ℕ) (fault : Fault) (old new : Option (List ℕ)) → IsPrefixReport span script lines [] → AddsThenPrefix old lines (fault_line fault) new → IsSurvived span script old new
survived_fault span script lines fault old new is added = record {
  shown = lines;
  tail = [];
  is = is;
  added = inr (fault, subst (λ (t : List ℕ). AddsThenPrefix old t (fault_line fault) new) (sym (append-nil lines)) added);
}

abbrev prefix_of_part : (old : Option (List ℕ)) (whole next : List ℕ) (new : Option (List ℕ)) → AddsThenPart old whole next new → AddsThenPrefix old whole next new
prefix_of_part old whole next new added = record { mid = added.mid; added = added.added; cut = added.cut.part }

-- a text that was added whole, in two pieces
added_in_two : (old new : Option (List ℕ)) (whole next : List ℕ) → Adds old (whole ++ next) new → AddsThenPrefix old whole next new
added_in_two None new whole next added = record { mid = None; added = λ bytes is. cc; cut = whole_prefix None new next (λ bytes is. cc) }
added_in_two (Some before) new whole next added = record {
  mid = Some (before ++ whole);
  added = λ bytes is. (let same : before ≡ bytes = cc in ap (λ (b : List ℕ). Some (b ++ whole)) same);
  cut = whole_prefix (Some (before ++ whole)) new next
      (λ bytes is. (let same : before ++ whole ≡ bytes = cc in added before refl ∙ ap Some (sym (append_assoc before whole next)) ∙ ap (λ (b : List ℕ). Some (b ++ next)) same));
}

-- all of a fault's line after it
survived_reported : {M : Type 0} (span : Span M) (script lines report : List ℕ) (fault : Fault) (old new : Option (List ℕ)) → IsPrefixReport span script lines [] → report ≡ lines ++ fault_line fault → Adds old report new
    → IsSurvived span script old new
survived_reported span script lines report fault old new is report_is added =
    survived_fault span script lines fault old new is (added_in_two old new lines (fault_line fault) (subst (λ (t : List ℕ). Adds old t new) report_is added))

survived_cut : {M : Type 0} (span : Span M) (script : List ℕ) (failed : Type 0) (old left new : Option (List ℕ)) → IsCutShort span script failed old left new → IsSurvived span script old new
survived_cut span script failed old left new (in_report is) = record { shown = is.shown; tail = is.tail; is = is.is; added = inl is.added }
survived_cut span script failed old left new (in_script_fault n lines reaches added) =
    survived_fault span script lines (faults.Script n) old new (prefix_to_fault span script left n lines reaches) (prefix_of_part old lines (fault_line (faults.Script n)) new added)
survived_cut span script failed old left new (in_read_fault lines as_read why added) =
    survived_fault span script lines faults.Read old new (prefix_as_read span script left lines as_read) (prefix_of_part old lines (fault_line faults.Read) new added)

-- a command that isn't broken off is one that may be
pub survived_broken : {M : Type 0} (span : Span M) (script : List ℕ) (old new : Option (List ℕ)) → IsSurvived (unbroken span) script old new → IsSurvived span script old new
survived_broken span script old new is = record {
  shown = is.shown;
  tail = is.tail;
  is = record {
    prefix = is.is.prefix;
    rest = is.is.rest;
    last = is.is.last;
    script_is = is.is.script_is;
    is = is.is.is;
    at_line = is.is.at_line;
    tail_is = is.is.tail_is;
    ends = elim is.is.ends [ at_answer end ↦ at_answer end | in_line line following command last whole no_feed follows spelled broken end none ↦ absurd broken ];
  };
  added = is.added;
}

-- each way to end, but for arguments that have no plan
pub survived : {M : Type 0} (span : Span M) (script : List ℕ) (failed : Type 0) (old : Option (List ℕ)) (status : Status) (left new : Option (List ℕ)) → status ≢ WordFault → EndsReport span script failed old status left new → IsSurvived span script old new
survived span script failed old Done left new planned ends =
    survived_whole span script ends.report old new
    (record {
      prefix = script;
      rest = [];
      last = ends.is.last;
      script_is = sym (append-nil script);
      is = subst (λ (r : List ℕ). IsReportOf span.answers span.first script r ends.is.last) (sym (append-nil ends.report)) ends.is.is;
      at_line = inr tt;
      tail_is = is_empty refl;
      ends = at_answer ends.is.at_end;
    })
    ends.added
survived span script failed old WordFault left new planned ends = absurd (planned refl)
survived span script failed old ScriptFault left new planned ends =
    survived_reported span script ends.is.lines ends.report (faults.Script ends.is.n) old new (prefix_to_fault span script left ends.is.n ends.is.lines ends.is.is) ends.is.report_is ends.added
survived span script failed old ReadFault left new planned ends =
    survived_reported span script ends.is.lines ends.report faults.Read old new (prefix_as_read span script left ends.is.lines ends.is.is) ends.is.report_is ends.added
survived span script failed old WriteFault left new planned ends = survived_broken span script old new (survived_cut (unbroken span) script failed old left new ends)
survived span script failed old NoMemory left new planned ends = survived_cut span script failed old left new ends
