-- The results of reading a text, part by part, for private clauses.
use Rattle.std.specs.Prelude.{◌≡◌, ◌⊎◌, ℕ, ◌+◌, ◌-◌, ◌^◌, ◌≤◌, ◌<◌, min, List, ◌∷◌, ◌++◌, length, take, drop, slice_index, None, Result, Ok, Err, true, false}
use Rattle.std.specs.List.{AllByRecursion}
use Rattle.std.specs.Int.{is_in_range}
use Rattle.std.specs.Str.Parse.{digits_value}
use Rattle.store_ident.specs.Faults.{IsFormFault, IsRangeFault, first_out_of_range}
use Rattle.store_ident.specs.Numbers.{IsDigit, IsNumberText, NumberTexts, AreNumbersOf}
use Rattle.store_ident.specs.declared.fault.IdFault.{IdFault}
use Rattle.store_ident.specs.declared.fault.IdFault.TheVariants.{Form, Range}
use Rattle.store_ident.specs.declared.fields.Field.{Field}
use Rattle.store_ident.specs.declared.ident.StoreId.{StoreId}
use Rattle.store_ident.specs.declared.number.Leading.{Leading}

-- the value of the digits, held at the greatest number of 64 bits
abbrev pub held_value : ℕ → List ℕ → ℕ
held_value base text = min (digits_value base text) (2 ^ 64 - 1)

-- the text is a number's, or empty, and this is its value
pub record IsReadSoFar (base : ℕ) (text : List ℕ) (found : ℕ) : Type 0 where
  pub digits : AllByRecursion (IsDigit base) text
  pub no_leading_zero : slice_index text 0 ≡ 48 → length text ≤ 1
  pub value : found ≡ held_value base text

-- the text begins with this number, and with no longer one
pub record IsLeading (base : ℕ) (text : List ℕ) (number : Leading) : Type 0 where
  pub within : number.length ≤ length text
  pub prefix : IsReadSoFar base (take number.length text) number.value
  pub longest : number.length < length text → IsNumberText base (take (number.length + 1) text) → ⊥

-- a number and a dash stand at the offset
pub record IsField (base : ℕ) (text : List ℕ) (from : ℕ) (field : Field) : Type 0 where
  pub numeral : List ℕ
  pub is : IsNumberText base numeral
  pub whole : drop from text ≡ numeral ++ 45 ∷ drop field.next text
  pub starts : field.from ≡ from
  pub next : field.next ≡ from + (length numeral + 1)
  pub within : field.next ≤ length text
  pub value : field.value ≡ held_value base numeral

-- a number stands at the offset, and the text ends after it
pub record IsLastField (base : ℕ) (text : List ℕ) (from : ℕ) (field : Field) : Type 0 where
  pub is : IsNumberText base (drop from text)
  pub starts : field.from ≡ from
  pub value : field.value ≡ held_value base (drop from text)

-- the longest number at the offset is empty, or no dash follows it
pub record IsNoField (base : ℕ) (text : List ℕ) (from : ℕ) (fault : IdFault) : Type 0 where
  pub number : Leading
  pub leading : IsLeading base (drop from text) number
  pub lacks : (number.length ≡ 0) ⊎ (number.length ≡ length (drop from text)) ⊎ ((slice_index (drop from text) number.length ≡ 45) → ⊥)
  pub is : fault ≡ Form (from + number.length)

-- the longest number at the offset is empty, or the text doesn't end after it
pub record IsNoLastField (base : ℕ) (text : List ℕ) (from : ℕ) (fault : IdFault) : Type 0 where
  pub number : Leading
  pub leading : IsLeading base (drop from text) number
  pub lacks : (number.length ≡ 0) ⊎ (number.length < length (drop from text))
  pub is : fault ≡ Form (from + number.length)

-- the number is in the range, and this is its value
abbrev pub IsWithin : Field → ℕ → ℕ → ℕ → Type 0
IsWithin field least most value = (is_in_range least most field.value ≡ true) × (value ≡ field.value)

-- the number is out of the range
abbrev pub IsNotWithin : Field → ℕ → ℕ → IdFault → Type 0
IsNotWithin field least most fault = (is_in_range least most field.value ≡ false) × (fault ≡ Range field.from)

-- the identifier of these numbers
abbrev pub id_of : NumberTexts → StoreId
id_of numbers = record { partition = digits_value 10 numbers.partition; version = digits_value 16 numbers.version; epoch = digits_value 16 numbers.epoch; host = digits_value 10 numbers.host }

-- the text is read as the identifier of its numbers
pub record AreNumbersIn (text : List ℕ) (id : StoreId) : Type 0 where
  pub numbers : NumberTexts
  pub are : AreNumbersOf text numbers
  pub in_range : first_out_of_range numbers ≡ None
  pub is : id ≡ id_of numbers

abbrev pub IsReading : List ℕ → Result StoreId IdFault → Type 0
IsReading text (Ok id) = AreNumbersIn text id
IsReading text (Err (Form at)) = IsFormFault text at
IsReading text (Err (Range at)) = IsRangeFault text at
