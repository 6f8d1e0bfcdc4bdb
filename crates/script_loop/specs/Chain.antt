-- Answers of a machine, one after the other, and the span of a run that they make.
use Rattle.std.specs.Prelude.{◌≡◌, ◌⊎◌, List, [], ◌∷◌}
use Rattle.script_lines.specs.declared.command.Command.{Command}
use Rattle.script_lines.specs.declared.answer.Answer.{Answer}

-- from the first state, the command is answered so and leaves the second
abbrev pub Answers : Type 0 → Type 1
Answers M = M → Command → Answer → M → Type 0

-- a command that is broken off may leave the second state
abbrev pub Breaks : Type 0 → Type 1
Breaks M = M → Command → M → Type 0

-- each command leads on from the state that the one before left
abbrev pub Chain : {M : Type 0} → Answers M → M → List Command → List Answer → M → Type 0
Chain does old [] [] new = new ≡ old
Chain {M} does old (command ∷ commands) (answer ∷ answers) new = (mid : M) × does old command answer mid × Chain does mid commands answers new
Chain does old [] (answer ∷ answers) new = ⊥
Chain does old (command ∷ commands) [] new = ⊥

-- A span of a run, over the states of a machine or over what is known of them: what its answers do, how far a command
-- may come that is broken off, the state in which it begins, and those that it may be left in.
pub record Span (M : Type 0) : Type 1 where
  pub answers : Answers M
  pub breaks : Breaks M
  pub first : M
  pub ends : M → Type 0

-- from the first state of a machine to the second
abbrev pub between : {M : Type 0} → Answers M → Breaks M → M → M → Span M
between does breaks first last = record { answers = does; breaks = breaks; first = first; ends = λ state. state ≡ last }

-- the same span, in which no command is broken off
abbrev pub unbroken : {M : Type 0} → Span M → Span M
unbroken span = record { answers = span.answers; breaks = λ old command new. ⊥; first = span.first; ends = span.ends }

-- some commands were answered, and perhaps one was broken off after them
pub record IsRun {M : Type 0} (span : Span M) : Type 0 where
  pub commands : List Command
  pub answers : List Answer
  pub last : M
  pub run : Chain span.answers span.first commands answers last
  pub new : M
  pub gone : (new ≡ last) ⊎ (command : Command) × span.breaks last command new
  pub at_end : span.ends new

-- What is known of a machine goes on with it: from what is known before, each answer leads to something that is known
-- after, and so do a command that is broken off and the end of the span.
pub record Refines {M N : Type 0} (IsSeen : M → N → Type 0) (inside : Span M) (seen : Span N) : Type 0 where
  pub begins : IsSeen inside.first seen.first
  pub answered : (old new : M) (command : Command) (answer : Answer) (known : N) → IsSeen old known → inside.answers old command answer new
      → (next : N) × IsSeen new next × seen.answers known command answer next
  pub broken : (old new : M) (command : Command) (known : N) → IsSeen old known → inside.breaks old command new → inside.ends new
      → (next : N) × seen.ends next × seen.breaks known command next
  pub left : (new : M) (known : N) → IsSeen new known → inside.ends new → seen.ends known
