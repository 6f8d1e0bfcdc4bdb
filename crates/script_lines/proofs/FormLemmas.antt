-- Laws of the forms: data is at most one command.
use Rattle.std.proofs.Common.{◌≡◌, ℕ, List, [], ◌∷◌, Some, refl, sym, ap, ◌∙◌, arith}
use Rattle.serde_json.specs.Data.{Data, string, object, member}
use Rattle.script_lines.specs.Form.{events_data, command_data, IsLineOf}
use Rattle.script_lines.specs.declared.command.Command.{Command}
use Rattle.script_lines.specs.declared.command.Command.TheVariants.{Create, Dump, Steps, Stop, Recover}
use Rattle.script_lines.specs.declared.command.Event.{Event}
use Rattle.script_lines.proofs.AskedLemmas.{event_data-injective}

events_data-injective : (xs ys : List Event) → events_data xs ≡ events_data ys → xs ≡ ys
events_data-injective [] [] e = refl
events_data-injective [] (b ∷ ys) e = cc
events_data-injective (a ∷ xs) [] e = cc
events_data-injective (a ∷ xs) (b ∷ ys) e =
    let head : a ≡ b = event_data-injective a b (cc) in
    let tail : xs ≡ ys = events_data-injective xs ys (cc) in
    cc

-- the first letter of a command's name
abbrev first_letter : Data → ℕ
first_letter (object (member name (string (letter ∷ word)) ms)) = letter
first_letter d = 0

-- commands with the same object are one
pub command_data-injective : (a b : Command) → command_data a ≡ command_data b → a ≡ b
command_data-injective (Create h) (Create i) e = cc
command_data-injective (Create h) Dump e = cc
command_data-injective (Create h) (Steps es) e = cc
command_data-injective (Create h) Stop e = cc
command_data-injective (Create h) (Recover i) e = cc
command_data-injective Dump (Create i) e = cc
command_data-injective Dump Dump e = refl
command_data-injective Dump (Steps es) e = cc
command_data-injective Dump Stop e = let letters : 100 ≡ 115 = ap first_letter e in absurd (omega (arith, letters))
command_data-injective Dump (Recover i) e = cc
command_data-injective (Steps es) (Create i) e = cc
command_data-injective (Steps es) Dump e = cc
command_data-injective (Steps es) (Steps fs) e = ap Steps (events_data-injective es fs (cc))
command_data-injective (Steps es) Stop e = cc
command_data-injective (Steps es) (Recover i) e = cc
command_data-injective Stop (Create i) e = cc
command_data-injective Stop Dump e = let letters : 115 ≡ 100 = ap first_letter e in absurd (omega (arith, letters))
command_data-injective Stop (Steps fs) e = cc
command_data-injective Stop Stop e = refl
command_data-injective Stop (Recover i) e = cc
command_data-injective (Recover h) (Create i) e = cc
command_data-injective (Recover h) Dump e = cc
command_data-injective (Recover h) (Steps fs) e = cc
command_data-injective (Recover h) Stop e = cc
command_data-injective (Recover h) (Recover i) e = cc

-- the line is at most one command
pub one_of_a_line : (line : List ℕ) (a b : Command) → IsLineOf line a → IsLineOf line b → a ≡ b
one_of_a_line line a b p q = let e : Some (command_data a) ≡ Some (command_data b) = sym p.value ∙ q.value in command_data-injective a b (cc)
