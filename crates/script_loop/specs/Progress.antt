-- How far a run has come: which lines are answered, and what was added.
use Rattle.std.specs.Prelude.{◌≡◌, ℕ, ◌+◌, ◌<◌, List, [], ◌++◌, length, flat_map, vec_len, Option}
use Rattle.std.specs.Option.{ForSome}
use Rattle.std.specs.List.{AllByRecursion}
use Rattle.byte_streams.specs.Streams.{Adds}
use Rattle.script_lines.specs.declared.command.Command.{Command}
use Rattle.script_lines.specs.declared.answer.Answer.{Answer}
use Rattle.script_loop.specs.Chain.{Answers, Breaks, Chain, Span, between}
use Rattle.script_loop.specs.Faults.{IsPastLimit}
use Rattle.script_loop.specs.Halts.{HaltsWith, HaltsRun}
use Rattle.script_loop.specs.Kinds.{IsReadTo}
use Rattle.script_loop.specs.Script.{ended, IsSplit, IsWithinLineLimit, AreCommands}
use Rattle.script_loop.specs.Report.{report_of, IsReportOf}
use Rattle.script_loop.specs.declared.session.Session.{Session}
use Rattle.script_loop.specs.declared.session.Halt.{Halt}
use Rattle.script_loop.specs.declared.session.Halt.TheVariants.{Faulty, ReadFault, WriteFault, NoMemory}

-- how many bytes of the script the session has taken
abbrev pub taken_bytes : Session → ℕ
taken_bytes session = session.passed + vec_len session.partial

-- more bytes have come of the line under way
pub record Holds (old new : Session) (more : List ℕ) : Type 0 where
  pub partial : new.partial.items ≡ old.partial.items ++ more
  pub lines : new.lines ≡ old.lines
  pub passed : new.passed ≡ old.passed

-- with these bytes the line under way, which has this number, is past a limit
pub record IsPast (session : Session) (more : List ℕ) (n : ℕ) : Type 0 where
  pub number : n ≡ session.lines + 1
  pub some : 0 < length more
  pub past : IsPastLimit session.lines session.passed (vec_len session.partial + length more) 0

-- why the bytes were not added to the line under way
abbrev pub HaltsHold : Session → List ℕ → Halt → Type 0
HaltsHold session more (Faulty n reason) = IsPast session more n
HaltsHold session more ReadFault = ⊥
HaltsHold session more WriteFault = ⊥
HaltsHold session more NoMemory = Unit {0}

-- Of the bytes that were read each ended line is answered, and the answers' lines were added.
pub record Reached {M : Type 0} (does : Answers M) (first : M) (read : List ℕ) (old : Option (List ℕ)) (session : Session) (last : M) (new : Option (List ℕ)) : Type 0 where
  pub lines : List (List ℕ)
  pub commands : List Command
  pub answers : List Answer
  pub split : IsSplit read lines session.partial.items
  pub short : AllByRecursion IsWithinLineLimit lines
  pub spelled : AreCommands lines commands
  pub run : Chain does first commands answers last
  pub counted : session.lines ≡ length lines
  pub measured : session.passed ≡ length (flat_map ended lines)
  pub added : Adds old (report_of answers) new

-- whatever run has reached the first session, these bytes lead it to the second
abbrev pub Advances : {M : Type 0} → Answers M → Session → M → Option (List ℕ) → List ℕ → Session → M → Option (List ℕ) → Type 0
Advances {M} does session last mid bytes next state new =
    (first : M) (read : List ℕ) (old : Option (List ℕ)) → Reached does first read old session last mid → Reached does first (read ++ bytes) old next state new

-- whatever run has reached the session, these bytes halt it, whatever follows them
abbrev pub HaltsIn : {M : Type 0} → Answers M → Breaks M → Session → M → Option (List ℕ) → List ℕ → Halt → M → Option (List ℕ) → Type 0
HaltsIn {M} does breaks session last mid bytes halt state new =
    (first : M) (read rest : List ℕ) (old : Option (List ℕ)) → Reached does first read old session last mid → HaltsWith (between does breaks first state) (read ++ bytes) rest old halt new

-- all that was read is a script whose lines are answered, also the piece after the last line feed
pub record IsFinished {M : Type 0} (span : Span M) (script : List ℕ) (old new : Option (List ℕ)) : Type 0 where
  pub report : List ℕ
  pub last : M
  pub is : IsReportOf span.answers span.first script report last
  pub at_end : span.ends last
  pub added : Adds old report new

-- ---- with the source

-- a run is under way whose source began and is left so
pub record Underway {M : Type 0} (does : Answers M) (first : M) (was old : Option (List ℕ)) (session : Session) (last : M) (left new : Option (List ℕ)) : Type 0 where
  pub read : List ℕ
  pub gave : ForSome was (λ script. (rest : List ℕ) × IsReadTo script read rest left)
  pub reached : Reached does first read old session last new

-- the same, and the source is at its end
pub record IsAllRead {M : Type 0} (does : Answers M) (first : M) (was old : Option (List ℕ)) (session : Session) (last : M) (left new : Option (List ℕ)) : Type 0 where
  pub read : List ℕ
  pub gave : ForSome was (λ script. IsReadTo script read [] left)
  pub reached : Reached does first read old session last new

-- the run is done, and so is its source
pub record IsDone {M : Type 0} (span : Span M) (was old left new : Option (List ℕ)) : Type 0 where
  pub read : List ℕ
  pub gave : ForSome was (λ script. IsReadTo script read [] left)
  pub finished : IsFinished span read old new

-- the run has halted
pub record IsHalted {M : Type 0} (span : Span M) (was old : Option (List ℕ)) (halt : Halt) (left new : Option (List ℕ)) : Type 0 where
  pub read : List ℕ
  pub rest : List ℕ
  pub gave : ForSome was (λ script. IsReadTo script read rest left)
  pub halts : HaltsRun span read rest old halt new
