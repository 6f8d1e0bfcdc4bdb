-- The first fault of a text that is no identifier's.
use Rattle.std.specs.Prelude.{◌≡◌, ℕ, ◌+◌, ◌≤◌, ◌<◌, List, ◌++◌, length, take, Option, Some, None, if◌then◌else◌}
use Rattle.std.specs.Str.Parse.{digits_value}
use Rattle.store_ident.specs.Ident.{is_number16, is_counter}
use Rattle.store_ident.specs.Numbers.{NumberTexts, AreNumbersOf, HasForm, version_start, epoch_start, host_start}

-- some text of the language begins with these bytes
abbrev pub BeginsText : (List ℕ → Type 0) → List ℕ → Type 0
BeginsText IsOf prefix = (rest : List ℕ) × IsOf (prefix ++ rest)

-- the text isn't of the language: its bytes before the offset can be continued to a text of the language, but not with
-- the byte at the offset, if there is one
pub record LeavesAt (IsOf : List ℕ → Type 0) (text : List ℕ) (at : ℕ) : Type 0 where
  pub within : at ≤ length text
  pub begins : BeginsText IsOf (take at text)
  pub stops : at < length text → BeginsText IsOf (take (at + 1) text) → ⊥
  pub other : IsOf text → ⊥

-- the text leaves the form at this offset
abbrev pub IsFormFault : List ℕ → ℕ → Type 0
IsFormFault = LeavesAt HasForm

-- the offset of the first number out of its range, if there is one
abbrev pub first_out_of_range : NumberTexts → Option ℕ
first_out_of_range numbers =
    if is_number16 (digits_value 10 numbers.partition) then (
    if is_counter (digits_value 16 numbers.version) then (
    if is_counter (digits_value 16 numbers.epoch) then (
    if is_number16 (digits_value 10 numbers.host) then None else Some (host_start numbers)
    ) else Some (epoch_start numbers)
    ) else Some (version_start numbers)
    ) else Some 0

-- the text has the form, and the first number out of its range begins at this offset
abbrev pub IsRangeFault : List ℕ → ℕ → Type 0
IsRangeFault text at = (numbers : NumberTexts) × AreNumbersOf text numbers × (first_out_of_range numbers ≡ Some at)
