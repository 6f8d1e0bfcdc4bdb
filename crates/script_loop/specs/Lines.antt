-- A line that is answered, and how far its answering comes.
use Rattle.std.specs.Prelude.{◌≡◌, ◌≢◌, ℕ, List, [], ◌∷◌, Option}
use Rattle.byte_streams.specs.Streams.{Adds, AddsPrefix}
use Rattle.script_lines.specs.declared.command.Command.{Command}
use Rattle.script_lines.specs.declared.answer.Answer.{Answer}
use Rattle.script_lines.specs.Form.{IsLineOf, HasNoForm}
use Rattle.report_lines.specs.Line.{answer_line}
use Rattle.script_loop.specs.Chain.{Answers, Span, unbroken}
use Rattle.script_loop.specs.declared.session.Halt.{Halt}
use Rattle.script_loop.specs.declared.session.Halt.TheVariants.{Faulty, ReadFault, WriteFault, NoMemory}

-- a line that isn't empty is a command, which is carried out; this is its answer's line
pub record AnswerStep {M : Type 0} (does : Answers M) (old : M) (line text : List ℕ) (new : M) : Type 0 where
  pub command : Command
  pub answer : Answer
  pub line_is : IsLineOf line command
  pub step : does old command answer new
  pub text_is : text ≡ answer_line answer

-- an empty line is passed over
abbrev pub LineStep : {M : Type 0} → Answers M → M → List ℕ → List ℕ → M → Type 0
LineStep does old [] text new = (text ≡ []) × (new ≡ old)
LineStep does old (byte ∷ bytes) text new = AnswerStep does old (byte ∷ bytes) text new

-- the line was answered, and its answer's line was added
pub record IsAnswered {M : Type 0} (does : Answers M) (first : M) (line : List ℕ) (old new : Option (List ℕ)) (last : M) : Type 0 where
  pub text : List ℕ
  pub step : LineStep does first line text last
  pub added : Adds old text new

-- The line is no command: nothing was done, and this is its number.
pub record IsRefusedLine {M : Type 0} (span : Span M) (line : List ℕ) (number n : ℕ) (old new : Option (List ℕ)) : Type 0 where
  pub number_is : n ≡ number
  pub some : line ≢ []
  pub no_command : HasNoForm line
  pub same : new ≡ old
  pub at_end : span.ends span.first

-- Of the line nothing was done, or its command was broken off, or it was answered and a prefix of its answer's line was
-- added. So the span ends.
pub data IsCutLine {M : Type 0} (span : Span M) (line : List ℕ) (old new : Option (List ℕ)) : Type 0 where
  not_begun : new ≡ old → span.ends span.first → IsCutLine span line old new
  broken_off : new ≡ old → (command : Command) (last : M) → IsLineOf line command → span.breaks span.first command last → span.ends last
      → IsCutLine span line old new
  answered : (text : List ℕ) (last : M) → LineStep span.answers span.first line text last → span.ends last → AddsPrefix old text new
      → IsCutLine span line old new

-- how far the line of this number came that halts the run
abbrev pub HaltsInLine : {M : Type 0} → Span M → List ℕ → ℕ → Option (List ℕ) → Halt → Option (List ℕ) → Type 0
HaltsInLine span line number old (Faulty n reason) new = IsRefusedLine span line number n old new
HaltsInLine span line number old ReadFault new = ⊥
HaltsInLine span line number old WriteFault new = IsCutLine (unbroken span) line old new
HaltsInLine span line number old NoMemory new = IsCutLine span line old new
