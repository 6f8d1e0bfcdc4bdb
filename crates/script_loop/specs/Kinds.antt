-- The kinds of report that a run may write.
use Rattle.std.specs.Prelude.{◌≡◌, ◌⊎◌, ℕ, ◌<◌, ◌≤◌, List, [], ◌++◌, length, flat_map, Option, Some}
use Rattle.std.specs.List.{AllByRecursion}
use Rattle.script_lines.specs.declared.command.Command.{Command}
use Rattle.script_lines.specs.declared.answer.Answer.{Answer}
use Rattle.script_lines.specs.Form.{IsLineOf}
use Rattle.report_lines.specs.Line.{fault_line}
use Rattle.report_lines.specs.declared.fault.Fault.TheVariants.{Script, Read}
use Rattle.script_loop.specs.Chain.{Chain, Span}
use Rattle.script_loop.specs.Report.{report_of, IsLastLine, IsReportOf, AddsThenPrefix}
use Rattle.script_loop.specs.Script.{ended, HasNoLineFeed, IsSplit, most_lines, most_script_bytes, IsWithinLineLimit, AreCommands}
use Rattle.script_loop.specs.Faults.{FollowsLine, HasFirstFault}

-- these bytes of the script were read, and the rest is left in the source
pub record IsReadTo (script read rest : List ℕ) (left : Option (List ℕ)) : Type 0 where
  pub left_is : left ≡ Some rest
  pub script_is : script ≡ read ++ rest

-- the report of the whole script, which is read to its end
pub record IsScriptReport {M : Type 0} (span : Span M) (script : List ℕ) (left : Option (List ℕ)) (report : List ℕ) : Type 0 where
  pub last : M
  pub is : IsReportOf span.answers span.first script report last
  pub at_end : span.ends last
  pub left_is : left ≡ Some []

-- ---- a faulty line

-- line n is the first that is faulty, and this is the report of the lines before it
pub record IsReportToFault {M : Type 0} (span : Span M) (script : List ℕ) (n : ℕ) (report : List ℕ) : Type 0 where
  pub commands : List Command
  pub answers : List Answer
  pub last : M
  pub faulty : HasFirstFault script n commands
  pub run : Chain span.answers span.first commands answers last
  pub at_end : span.ends last
  pub report_is : report ≡ report_of answers

-- that, and what was read reaches into the faulty line, or past it
pub record ReachesFault {M : Type 0} (span : Span M) (script : List ℕ) (left : Option (List ℕ)) (n : ℕ) (lines : List ℕ) : Type 0 where
  pub is : IsReportToFault span script n lines
  pub read : List ℕ
  pub rest : List ℕ
  pub read_to : IsReadTo script read rest left
  pub reaches : length (flat_map ended is.faulty.lines) < length read

-- the report of the lines before the first faulty one, and the line that shows its number
pub record IsFaultReport {M : Type 0} (span : Span M) (script : List ℕ) (left : Option (List ℕ)) (report : List ℕ) : Type 0 where
  pub n : ℕ
  pub lines : List ℕ
  pub is : ReachesFault span script left n lines
  pub report_is : report ≡ lines ++ fault_line (Script n)

-- ---- a source that fails

-- Of the lines whose line feed was read none is faulty, and this is the report of their commands.
pub record IsReportSoFar {M : Type 0} (span : Span M) (read report : List ℕ) : Type 0 where
  pub lines : List (List ℕ)
  pub piece : List ℕ
  pub commands : List Command
  pub answers : List Answer
  pub last : M
  pub split : IsSplit read lines piece
  pub short : AllByRecursion IsWithinLineLimit lines
  pub few : length lines ≤ most_lines
  pub small : length read ≤ most_script_bytes
  pub spelled : AreCommands lines commands
  pub run : Chain span.answers span.first commands answers last
  pub at_end : span.ends last
  pub report_is : report ≡ report_of answers

-- that report, of what was read of the script
pub record IsReportAsRead {M : Type 0} (span : Span M) (script : List ℕ) (left : Option (List ℕ)) (lines : List ℕ) : Type 0 where
  pub read : List ℕ
  pub rest : List ℕ
  pub read_to : IsReadTo script read rest left
  pub is : IsReportSoFar span read lines

-- that report, and the line of the source's fault
pub record IsReadReport {M : Type 0} (span : Span M) (script : List ℕ) (left : Option (List ℕ)) (report : List ℕ) : Type 0 where
  pub lines : List ℕ
  pub is : IsReportAsRead span script left lines
  pub report_is : report ≡ lines ++ fault_line Read

-- ---- a run that is cut short

-- A span ends at its last answer. Or it ends in the next line of the script, whose command was broken off: no answer's line
-- is under way then, so the tail is empty.
pub data EndsAfter {M : Type 0} (span : Span M) (last : M) (rest tail : List ℕ) : Type 0 where
  at_answer : span.ends last → EndsAfter span last rest tail
  in_line : (line following : List ℕ) (command : Command) (new : M) → rest ≡ line ++ following → HasNoLineFeed line → FollowsLine following → IsLineOf line command
      → span.breaks last command new → span.ends new → tail ≡ [] → EndsAfter span last rest tail

-- The report of a prefix of the script that ends where a line ends, before its line feed or after it. The report is what is
-- shown and a tail, which is the line of the last answer or empty.
pub record IsPrefixReport {M : Type 0} (span : Span M) (script shown tail : List ℕ) : Type 0 where
  pub prefix : List ℕ
  pub rest : List ℕ
  pub last : M
  pub script_is : script ≡ prefix ++ rest
  pub is : IsReportOf span.answers span.first prefix (shown ++ tail) last
  pub at_line : (is.script_is.piece ≡ []) ⊎ FollowsLine rest
  pub tail_is : IsLastLine is.answers tail
  pub ends : EndsAfter span last rest tail

-- such a report was added, all of it but perhaps a part of its tail
pub record IsCutReport {M : Type 0} (span : Span M) (script : List ℕ) (old new : Option (List ℕ)) : Type 0 where
  pub shown : List ℕ
  pub tail : List ℕ
  pub is : IsPrefixReport span script shown tail
  pub added : AddsThenPrefix old shown tail new
