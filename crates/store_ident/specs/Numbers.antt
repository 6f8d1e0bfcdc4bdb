-- Texts of four numbers of any size, joined by dashes.
use Rattle.std.specs.Prelude.{◌≡◌, ℕ, ◌+◌, ◌≤◌, ◌<◌, List, ◌∷◌, ◌++◌, length, slice_index, false}
use Rattle.std.specs.List.{AllByRecursion}
use Rattle.std.specs.Char.{digit_value, is_ascii_uppercase}

-- a digit in the base, and no upper-case letter
abbrev pub IsDigit : ℕ → ℕ → Type 0
IsDigit base byte = (digit_value byte < base) × (is_ascii_uppercase byte ≡ false)

-- the text of a number in the base: digits alone, without a leading zero unless it is the only digit
pub record IsNumberText (base : ℕ) (text : List ℕ) : Type 0 where
  pub some : 1 ≤ length text
  pub digits : AllByRecursion (IsDigit base) text
  pub no_leading_zero : slice_index text 0 ≡ 48 → length text ≡ 1

-- the texts of four numbers
pub record NumberTexts : Type 0 where
  pub partition : List ℕ
  pub version : List ℕ
  pub epoch : List ℕ
  pub host : List ℕ

-- the text is these numbers, joined by dashes: the middle two in hexadecimal, the others in decimal
pub record AreNumbersOf (text : List ℕ) (numbers : NumberTexts) : Type 0 where
  pub whole : text ≡ numbers.partition ++ 45 ∷ (numbers.version ++ 45 ∷ (numbers.epoch ++ 45 ∷ numbers.host))
  pub partition : IsNumberText 10 numbers.partition
  pub version : IsNumberText 16 numbers.version
  pub epoch : IsNumberText 16 numbers.epoch
  pub host : IsNumberText 10 numbers.host

-- the text has the form of an identifier
abbrev pub HasForm : List ℕ → Type 0
HasForm text = (numbers : NumberTexts) × AreNumbersOf text numbers

-- the offset of each number after the first
abbrev pub version_start : NumberTexts → ℕ
version_start numbers = length numbers.partition + 1

abbrev pub epoch_start : NumberTexts → ℕ
epoch_start numbers = version_start numbers + (length numbers.version + 1)

abbrev pub host_start : NumberTexts → ℕ
host_start numbers = epoch_start numbers + (length numbers.epoch + 1)
