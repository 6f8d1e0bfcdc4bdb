-- The report of a script.
use Rattle.std.specs.Prelude.{◌≡◌, ℕ, List, [], ◌∷◌, ◌++◌, flat_map, Option}
use Rattle.byte_streams.specs.Streams.{Adds, AddsPrefix, AddsPart}
use Rattle.script_lines.specs.declared.command.Command.{Command}
use Rattle.script_lines.specs.declared.answer.Answer.{Answer}
use Rattle.script_loop.specs.Chain.{Answers, Chain}
use Rattle.script_loop.specs.Script.{IsScriptOf}
use Rattle.report_lines.specs.Line.{answer_line}

-- one line for each answer
abbrev pub report_of : List Answer → List ℕ
report_of answers = flat_map answer_line answers

-- the text is the line of the last answer, or empty
pub data IsLastLine (answers : List Answer) (text : List ℕ) : Type 0 where
  is_empty : text ≡ [] → IsLastLine answers text
  is_last : (before : List Answer) (last : Answer) → answers ≡ before ++ last ∷ [] → text ≡ answer_line last → IsLastLine answers text

-- The bytes are the report of all of the script's commands, carried out from the first state to the last, and no line of
-- the script is faulty.
pub record IsReportOf {M : Type 0} (does : Answers M) (first : M) (script bytes : List ℕ) (last : M) : Type 0 where
  pub commands : List Command
  pub answers : List Answer
  pub script_is : IsScriptOf script commands
  pub run : Chain does first commands answers last
  pub lines : bytes ≡ report_of answers

-- a report of this kind was added to what the sink had
pub record AddsReport (IsReport : List ℕ → Type 0) (old new : Option (List ℕ)) : Type 0 where
  pub report : List ℕ
  pub is : IsReport report
  pub added : Adds old report new

-- the first text was added whole, and then a prefix of the next one, perhaps all of it
pub record AddsThenPrefix (old : Option (List ℕ)) (whole next : List ℕ) (new : Option (List ℕ)) : Type 0 where
  pub mid : Option (List ℕ)
  pub added : Adds old whole mid
  pub cut : AddsPrefix mid next new

-- the first text was added whole, and then a part of the next one, which isn't all of it
pub record AddsThenPart (old : Option (List ℕ)) (whole next : List ℕ) (new : Option (List ℕ)) : Type 0 where
  pub mid : Option (List ℕ)
  pub added : Adds old whole mid
  pub cut : AddsPart mid next new
