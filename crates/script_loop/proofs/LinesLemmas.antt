-- A line that is answered, and one that isn't.
use Rattle.std.proofs.Common.{◌≡◌, ◌≢◌, ℕ, List, [], ◌∷◌, length, refl, ap, Option, true, false, arith}
use Rattle.std.specs.Prelude.{◌==◌}
use Rattle.std.proofs.lemmas.Bool.{eqb-true}
use Rattle.byte_streams.specs.Streams.{AddsPrefix}
use Rattle.byte_streams.specs.declared.fault.SinkRefusal.{SinkRefusal}
use Rattle.byte_streams.specs.declared.fault.SinkRefusal.TheVariants as sinks
use Rattle.byte_streams.proofs.StreamsLemmas.{adds_none, no_prefix}
use Rattle.script_lines.specs.declared.command.Command.{Command}
use Rattle.script_lines.specs.declared.answer.Answer.{Answer}
use Rattle.script_lines.specs.Form.{IsLineOf}
use Rattle.report_lines.specs.Line.{answer_line}
use Rattle.script_loop.specs.Chain.{Answers, Span}
use Rattle.script_loop.specs.Halts.{halt_of_sink}
use Rattle.script_loop.specs.Lines.{AnswerStep, LineStep, IsAnswered, IsCutLine, answered, HaltsInLine}

-- an empty line is passed over
pub passed_over : {M : Type 0} (does : Answers M) (old : M) (line : List ℕ) (written : Option (List ℕ)) → (length line == 0) ≡ true → IsAnswered does old line written written old
passed_over does old [] written none = record { text = []; step = (refl, refl); added = adds_none written }
passed_over does old (byte ∷ bytes) written none = absurd (let empty = eqb-true (length (byte ∷ bytes)) 0 none in omega (arith, empty))

-- a line that isn't empty is a command
pub line_step : {M : Type 0} (does : Answers M) (old : M) (line text : List ℕ) (new : M) → line ≢ [] → AnswerStep does old line text new → LineStep does old line text new
line_step does old [] text new some step = absurd (some refl)
line_step does old (byte ∷ bytes) text new some step = step

pub not_empty_line : (line : List ℕ) → (length line == 0) ≡ false → line ≢ []
not_empty_line [] none is = cc
not_empty_line (byte ∷ bytes) none is = let sizes : length (byte ∷ bytes) ≡ length {A = ℕ} [] = ap length is in omega (arith, sizes)

-- the command of the line was carried out, and nothing of its answer is added
pub not_added : {M : Type 0} (span : Span M) (line : List ℕ) (written : Option (List ℕ)) (command : Command) (answer : Answer) (new : M) → line ≢ [] → IsLineOf line command
    → span.answers span.first command answer new → span.ends new → IsCutLine span line written written
not_added span line written command answer new some line_is step end =
    answered (answer_line answer) new (line_step span.answers span.first line (answer_line answer) new some (record { command = command; answer = answer; line_is = line_is; step = step; text_is = refl })) end
    (no_prefix written (answer_line answer))

-- a part of the answer is added, and the sink refused the rest
pub halts_writing : {M : Type 0} (span : Span M) (line text : List ℕ) (number : ℕ) (last : M) (old new : Option (List ℕ)) (refusal : SinkRefusal)
    → LineStep span.answers span.first line text last → span.ends last → AddsPrefix old text new → HaltsInLine span line number old (halt_of_sink refusal) new
halts_writing span line text number last old new sinks.Failed step end added = answered text last step end added
halts_writing span line text number last old new sinks.NoMemory step end added = answered text last step end added
