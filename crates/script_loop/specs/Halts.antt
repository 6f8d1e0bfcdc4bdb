-- What halts a run, and how far it has come then.
use Rattle.std.specs.Prelude.{ℕ, ◌<◌, List, ◌++◌, length, flat_map, Option}
use Rattle.byte_streams.specs.Streams.{Adds}
use Rattle.byte_streams.specs.declared.fault.SourceRefusal.{SourceRefusal}
use Rattle.byte_streams.specs.declared.fault.SourceRefusal.TheVariants as sources
use Rattle.byte_streams.specs.declared.fault.SinkRefusal.{SinkRefusal}
use Rattle.byte_streams.specs.declared.fault.SinkRefusal.TheVariants as sinks
use Rattle.script_loop.specs.Chain.{Span, unbroken}
use Rattle.script_loop.specs.Kinds.{IsReportToFault, IsReportSoFar, IsCutReport}
use Rattle.script_loop.specs.Report.{AddsReport}
use Rattle.script_loop.specs.Script.{ended}
use Rattle.script_loop.specs.declared.session.Halt.{Halt}
use Rattle.script_loop.specs.declared.session.Halt.TheVariants.{Faulty, ReadFault, WriteFault, NoMemory}

abbrev pub halt_of_source : SourceRefusal → Halt
halt_of_source sources.Failed = ReadFault
halt_of_source sources.NoMemory = NoMemory

abbrev pub halt_of_sink : SinkRefusal → Halt
halt_of_sink sinks.Failed = WriteFault
halt_of_sink sinks.NoMemory = NoMemory

-- line n is the first that is faulty, what was read reaches into it, and the answers' lines of those before it were added
pub record StopsAt {M : Type 0} (span : Span M) (script read : List ℕ) (old : Option (List ℕ)) (n : ℕ) (new : Option (List ℕ)) : Type 0 where
  pub lines : List ℕ
  pub is : IsReportToFault span script n lines
  pub reaches : length (flat_map ended is.faulty.lines) < length read
  pub added : Adds old lines new

-- how far a run has come that halts on a line, having read so much of the script; no line halts it as a source does
abbrev pub HaltsWith : {M : Type 0} → Span M → List ℕ → List ℕ → Option (List ℕ) → Halt → Option (List ℕ) → Type 0
HaltsWith span read rest old (Faulty n reason) new = StopsAt span (read ++ rest) read old n new
HaltsWith span read rest old ReadFault new = ⊥
HaltsWith span read rest old WriteFault new = IsCutReport (unbroken span) (read ++ rest) old new
HaltsWith span read rest old NoMemory new = IsCutReport span (read ++ rest) old new

-- the same of any run
abbrev pub HaltsRun : {M : Type 0} → Span M → List ℕ → List ℕ → Option (List ℕ) → Halt → Option (List ℕ) → Type 0
HaltsRun span read rest old (Faulty n reason) new = HaltsWith span read rest old (Faulty n reason) new
HaltsRun span read rest old ReadFault new = AddsReport (IsReportSoFar span read) old new
HaltsRun span read rest old WriteFault new = HaltsWith span read rest old WriteFault new
HaltsRun span read rest old NoMemory new = HaltsWith span read rest old NoMemory new
