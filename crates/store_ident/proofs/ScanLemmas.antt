-- Laws of the number that a text begins with, one byte after the other.
use Rattle.std.proofs.Common.{◌≡◌, ℕ, ◌+◌, ◌-◌, ◌*◌, ◌^◌, ◌≤◌, ◌<◌, ◌⊎◌, inl, inr, List, [], ◌∷◌, ◌++◌, length, get_or, take, min, refl, sym, ap, ◌∙◌, subst, arith}
use Rattle.std.proofs.Math.Nat.{le-mul_of_pos_right}
use Rattle.std.proofs.lemmas.Bool.{cases_lt}
use Rattle.std.proofs.lemmas.Int.Digits.{digits_value_push}
use Rattle.std.proofs.lemmas.List.{take_more, length-take-le, length-append, get_or-take}
use Rattle.std.specs.Char.{digit_value}
use Rattle.std.specs.Str.Parse.{digits_value}
use Rattle.store_ident.specs.Numbers.{IsDigit}
use Rattle.store_ident.specs.Reading.{IsReadSoFar, IsLeading}
use Rattle.store_ident.proofs.NumberLemmas.{digits-push, digit_at, first-take}

-- a value that is held stays held by one more digit
pub held_more : (base v d : ℕ) → 1 ≤ base → min (min (min v (2 ^ 64 - 1) * base) (2 ^ 64 - 1) + d) (2 ^ 64 - 1) ≡ min (v * base + d) (2 ^ 64 - 1)
held_more base v d some =
    elim (cases_lt v (2 ^ 64)) [
      | inl small ↦ let same : min v (2 ^ 64 - 1) ≡ v = omega arith in ap (λ w. min (min (w * base) (2 ^ 64 - 1) + d) (2 ^ 64 - 1)) same ∙ omega arith
      | inr great ↦
          let same : min v (2 ^ 64 - 1) ≡ 2 ^ 64 - 1 = omega arith in
          let grown : v ≤ v * base = le-mul_of_pos_right v some in
          let held : 2 ^ 64 - 1 ≤ (2 ^ 64 - 1) * base = le-mul_of_pos_right (2 ^ 64 - 1) some in
          ap (λ w. min (min (w * base) (2 ^ 64 - 1) + d) (2 ^ 64 - 1)) same ∙ omega arith
    ]

first-push : (text : List ℕ) (b : ℕ) → 1 ≤ length text → get_or (text ++ b ∷ []) 0 0 ≡ get_or text 0 0
first-push [] b some = absurd (omega arith)
first-push (a ∷ text) b some = refl

-- one more digit, which doesn't follow a leading zero
pub IsReadSoFar-more : (base : ℕ) (text : List ℕ) (at byte value digit next : ℕ) → 1 ≤ base → at < length text → byte ≡ get_or text at 0 → IsReadSoFar base (take at text) value → IsDigit base byte → digit ≡ digit_value byte
    → (at ≡ 0) ⊎ (get_or text 0 0 ≡ 48 → ⊥) → next ≡ min (min (value * base) (2 ^ 64 - 1) + digit) (2 ^ 64 - 1) → IsReadSoFar base (take (at + 1) text) next
IsReadSoFar-more base text at byte value digit next some within is so_far one digit_is free next_is =
    let grown : take (at + 1) text ≡ take at text ++ byte ∷ [] = take_more text at 0 within ∙ ap (λ b. take at text ++ b ∷ []) (sym is) in
    let count : length (take at text) ≡ at = length-take-le at text (omega arith) in
    subst (λ xs. IsReadSoFar base xs next) (sym grown) (record {
      digits = digits-push base (take at text) byte so_far.digits one;
      no_leading_zero = λ zero_first. elim free [
        | inl first ↦ omega (arith, length-append (take at text) (byte ∷ []))
        | inr other ↦ elim (cases_lt at 1) [
          | inl first ↦ omega (arith, length-append (take at text) (byte ∷ []))
          | inr more ↦ absurd (other (sym (first-take at text more) ∙ sym (first-push (take at text) byte (omega arith)) ∙ zero_first))
        ]
      ];
      value = next_is
          ∙ (λ i. min (min (so_far.value i * base) (2 ^ 64 - 1) + digit_is i) (2 ^ 64 - 1))
          ∙ held_more base (digits_value base (take at text)) (digit_value byte) some
          ∙ ap (λ v. min v (2 ^ 64 - 1)) (sym (digits_value_push base (take at text) byte));
    })

-- a byte that is no digit, or that follows a leading zero, ends the number
pub IsLeading-stop : (base : ℕ) (text : List ℕ) (at byte value : ℕ) → at < length text → byte ≡ get_or text at 0 → IsReadSoFar base (take at text) value
    → (IsDigit base byte → ⊥) ⊎ ((1 ≤ at) × (get_or text 0 0 ≡ 48)) → IsLeading base text (record { length = at; value = value })
IsLeading-stop base text at byte value within is so_far bad = record {
  within = omega arith;
  prefix = so_far;
  longest = λ more longer.
      let count : length (take (at + 1) text) ≡ at + 1 = length-take-le (at + 1) text (omega arith) in
      elim bad [
        | inl no_digit ↦ no_digit (subst (IsDigit base) (sym (is ∙ sym (get_or-take (at + 1) text at 0 (omega arith)))) (digit_at base (take (at + 1) text) at longer.digits (omega arith)))
        | inr after_zero ↦ let one : length (take (at + 1) text) ≡ 1 = longer.no_leading_zero (first-take (at + 1) text (omega arith) ∙ after_zero.1) in omega arith
      ];
}
