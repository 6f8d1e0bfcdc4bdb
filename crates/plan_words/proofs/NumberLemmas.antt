-- Laws of the numbers in arguments: each has one spelling.
use Rattle.std.proofs.Common.{◌≡◌, ◌≢◌, ℕ, zero, suc, ◌+◌, ◌-◌, ◌<◌, ◌≤◌, List, [], ◌∷◌, length, slice_index, IfSome, IfNone, Result, Ok, Err, sym, ◌∙◌, ap, arith, subst}
use Rattle.std.specs.Fmt.{decimal}
use Rattle.std.specs.Result.{result_ok}
use Rattle.std.specs.Str.Parse.{ParsesUnsigned}
use Rattle.std.proofs.lemmas.Fmt.{decimal_is_IsNumeral, parse-decimal, decimal_digit, first_decimal, decimal-digits_value}
use Rattle.std.proofs.lemmas.Str.Parse.{numerals_by_value, tells_digits, parse_plain, digit_at}
use Rattle.plan_words.specs.Words.{IsCall, IsPick}

-- a number whose first digit isn't 0 isn't 0
positive : (n : ℕ) (word : List ℕ) → word ≡ decimal n → 49 ≤ slice_index word 0 → 1 ≤ n
positive zero word is low =
    let zero_is : word ≡ 48 ∷ [] = is ∙ decimal_digit 0 (omega arith) in
    let first : slice_index word 0 ≡ 48 = ap (λ (w : List ℕ). slice_index w 0) zero_is in
    omega arith
positive (suc n) word is low = omega arith

-- a number that `parse` reads from an argument that begins with a digit above 0 is the call that the argument spells
pub call_found : {E : Type 0} (word : List ℕ) (r : Result ℕ E) → 49 ≤ slice_index word 0 → ParsesUnsigned 64 10 word r → IfSome (result_ok r) (λ call. (word ≡ decimal call) × IsCall call)
call_found {E} word (Ok x) low reads =
    let own = numerals_by_value _ tells_digits in
    let plain = parse_plain own {E = E} 64 word (Ok x) reads (omega arith) in
    let spelled = decimal-digits_value own word plain.0.0 plain.0.1 (omega arith) plain.0.2 in
    let is : word ≡ decimal x = sym spelled ∙ ap decimal (sym plain.1) in
    (is, (positive x word is low, omega (arith, plain)))
call_found {E} word (Err e) low reads = tt

-- if it reads none, the argument spells none
pub call_none : {E : Type 0} (word : List ℕ) (r : Result ℕ E) → ParsesUnsigned 64 10 word r → IfNone (result_ok r) ((call : ℕ) → IsCall call → word ≢ decimal call)
call_none word (Ok x) reads = tt
call_none word (Err e) reads = λ call is same. let read = parse-decimal 64 call word (Err e) is.1 is.1 same reads in cc

-- an argument that spells a call begins with a digit above 0
pub record BeginsCall (word : List ℕ) : Type 0 where
  pub some : 1 ≤ length word
  pub low : 49 ≤ slice_index word 0
  pub high : slice_index word 0 < 58

pub begins_call : (word : List ℕ) (call : ℕ) → IsCall call → word ≡ decimal call → BeginsCall word
begins_call word call is same =
    let numeral = (decimal_is_IsNumeral call is.1).0 in
    let first = first_decimal call is.0 is.1 in
    let digit = digit_at (decimal call) 0 numeral.1 numeral.0 in
    subst BeginsCall (sym same) record { some = omega (arith, numeral); low = omega arith; high = omega (arith, digit) }

-- an image is one digit
pub image_digit : (word : List ℕ) (image : ℕ) → IsPick image → word ≡ decimal image → (length word ≡ 1) × (slice_index word 0 ≡ 48 + image)
image_digit word image is same =
    let digit : word ≡ (48 + image) ∷ [] = same ∙ decimal_digit image (omega arith) in
    (ap length digit, ap (λ (w : List ℕ). slice_index w 0) digit)

pub image_found : (word : List ℕ) → length word ≡ 1 → 48 ≤ slice_index word 0 → slice_index word 0 < 52 → (word ≡ decimal (slice_index word 0 - 48)) × IsPick (slice_index word 0 - 48)
image_found [] one low high = absurd (omega arith)
image_found (byte ∷ []) one low high =
    let is : 48 + (byte - 48) ≡ byte = omega arith in
    (sym (decimal_digit (byte - 48) (omega arith) ∙ ap (λ (b : ℕ). b ∷ []) is), omega arith)
image_found (byte ∷ next ∷ rest) one low high = absurd (omega arith)
