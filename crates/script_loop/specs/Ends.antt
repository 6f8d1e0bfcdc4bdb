-- How a run ends: what was added to its sink, and how far its source was read.
use Rattle.std.specs.Prelude.{◌≡◌, ◌⊎◌, ℕ, List, ◌++◌, Option}
use Rattle.byte_streams.specs.Streams.{Adds, AddsPart}
use Rattle.report_lines.specs.Line.{fault_line}
use Rattle.report_lines.specs.declared.fault.Fault.{Fault}
use Rattle.report_lines.specs.declared.fault.Fault.TheVariants as faults
use Rattle.script_loop.specs.Chain.{Span, unbroken}
use Rattle.script_loop.specs.Kinds.{IsScriptReport, ReachesFault, IsFaultReport, IsReportAsRead, IsReadReport, IsPrefixReport, IsCutReport}
use Rattle.script_loop.specs.Report.{AddsReport, AddsThenPrefix, AddsThenPart}
use Rattle.script_loop.specs.declared.status.Status.{Status}
use Rattle.script_loop.specs.declared.status.Status.TheVariants.{Done, WordFault, ScriptFault, ReadFault, WriteFault, NoMemory}

-- the status of a run that a fault ends
abbrev pub status_of : Fault → Status
status_of faults.Words = WordFault
status_of (faults.Script n) = ScriptFault
status_of faults.Read = ReadFault

-- The fault's line was added whole, and this is the fault's status; or only a part of it was added, since the sink failed
-- or memory ran out.
abbrev pub ReportsFault : Fault → Option (List ℕ) → Status → Option (List ℕ) → Type 0
ReportsFault fault old Done new = ⊥
ReportsFault fault old WordFault new = (WordFault ≡ status_of fault) × Adds old (fault_line fault) new
ReportsFault fault old ScriptFault new = (ScriptFault ≡ status_of fault) × Adds old (fault_line fault) new
ReportsFault fault old ReadFault new = (ReadFault ≡ status_of fault) × Adds old (fault_line fault) new
ReportsFault fault old WriteFault new = AddsPart old (fault_line fault) new
ReportsFault fault old NoMemory new = AddsPart old (fault_line fault) new

-- What a run has added that is cut short: in the report; or in a fault's line, after the whole report of the lines before the
-- fault, and something of that line is missing. The line of the source's fault is begun only where the source has failed.
pub data IsCutShort {M : Type 0} (span : Span M) (script : List ℕ) (failed : Type 0) (old left new : Option (List ℕ)) : Type 0 where
  in_report : IsCutReport span script old new → IsCutShort span script failed old left new
  in_script_fault : (n : ℕ) (lines : List ℕ) → ReachesFault span script left n lines → AddsThenPart old lines (fault_line (faults.Script n)) new
      → IsCutShort span script failed old left new
  in_read_fault : (lines : List ℕ) → IsReportAsRead span script left lines → failed → AddsThenPart old lines (fault_line faults.Read) new
      → IsCutShort span script failed old left new

-- What a run of the script has added that ends with the status, and what its source has left; `failed` says that the source
-- has failed. A command is broken off only where memory ran out.
abbrev pub EndsReport : {M : Type 0} → Span M → List ℕ → Type 0 → Option (List ℕ) → Status → Option (List ℕ) → Option (List ℕ) → Type 0
EndsReport span script failed old Done left new = AddsReport (IsScriptReport span script left) old new
EndsReport span script failed old WordFault left new = Unit {0}
EndsReport span script failed old ScriptFault left new = AddsReport (IsFaultReport span script left) old new
EndsReport span script failed old ReadFault left new = AddsReport (IsReadReport span script left) old new
EndsReport span script failed old WriteFault left new = IsCutShort (unbroken span) script failed old left new
EndsReport span script failed old NoMemory left new = IsCutShort span script failed old left new

-- However a run of a script ends: it has added the report of a prefix of the script, all of it but perhaps a part of its
-- tail; or all of it and a prefix of a fault's line.
pub record IsSurvived {M : Type 0} (span : Span M) (script : List ℕ) (old new : Option (List ℕ)) : Type 0 where
  pub shown : List ℕ
  pub tail : List ℕ
  pub is : IsPrefixReport span script shown tail
  pub added : AddsThenPrefix old shown tail new ⊎ (fault : Fault) × AddsThenPrefix old (shown ++ tail) (fault_line fault) new
