-- Laws of the texts of numbers: where they end, and their beginnings.
use Rattle.std.proofs.Common.{◌≡◌, ℕ, zero, suc, ◌≤◌, ◌<◌, List, [], ◌∷◌, ◌++◌, length, get_or, take, refl, sym, ◌∙◌, subst, arith}
use Rattle.std.proofs.lemmas.List.{length-take-le}
use Rattle.std.specs.List.{AllByRecursion}
use Rattle.store_ident.specs.Numbers.{IsDigit, IsNumberText}

-- a dash is no digit
pub dash_no_digit : (base : ℕ) → base ≤ 16 → IsDigit base 45 → ⊥
dash_no_digit base most is = let small : 36 < base = is.0 in omega arith

-- each byte of digits is one
pub digit_at : (base : ℕ) (text : List ℕ) (i : ℕ) → AllByRecursion (IsDigit base) text → i < length text → IsDigit base (get_or text i 0)
digit_at base [] i all within = absurd (omega arith)
digit_at base (b ∷ text) zero all within = all.0
digit_at base (b ∷ text) (suc i) all within = digit_at base text i all.1 (omega arith)

-- the beginning of digits
pub digits-take : (base k : ℕ) (text : List ℕ) → AllByRecursion (IsDigit base) text → AllByRecursion (IsDigit base) (take k text)
digits-take base zero text all = tt
digits-take base (suc k) [] all = tt
digits-take base (suc k) (b ∷ text) all = (all.0, digits-take base k text all.1)

pub digits-push : (base : ℕ) (text : List ℕ) (b : ℕ) → AllByRecursion (IsDigit base) text → IsDigit base b → AllByRecursion (IsDigit base) (text ++ b ∷ [])
digits-push base [] b all is = (is, tt)
digits-push base (a ∷ text) b all is = (all.0, digits-push base text b all.1 is)

-- the first byte of a beginning that isn't empty
pub first-take : (k : ℕ) (text : List ℕ) → 1 ≤ k → get_or (take k text) 0 0 ≡ get_or text 0 0
first-take zero text some = absurd (omega arith)
first-take (suc k) [] some = refl
first-take (suc k) (b ∷ text) some = refl

-- a beginning of a number's text is a number's text, unless it is empty
pub IsNumberText-take : (base k : ℕ) (text : List ℕ) → 1 ≤ k → k ≤ length text → IsNumberText base text → IsNumberText base (take k text)
IsNumberText-take base k text some within is =
    let count : length (take k text) ≡ k = length-take-le k text within in
    record {
      some = omega arith;
      digits = digits-take base k text is.digits;
      no_leading_zero = λ zero_first. let one : length text ≡ 1 = is.no_leading_zero (sym (first-take k text some) ∙ zero_first) in omega arith;
    }

-- two texts of digits, each with a dash after it, are one
pub same_before_dash : (base : ℕ) → base ≤ 16 → (xs ys rest other : List ℕ) → AllByRecursion (IsDigit base) xs → AllByRecursion (IsDigit base) ys → xs ++ 45 ∷ rest ≡ ys ++ 45 ∷ other → (xs ≡ ys) × (rest ≡ other)
same_before_dash base most [] [] rest other dx dy e = (refl, cc)
same_before_dash base most [] (y ∷ ys) rest other dx dy e = let first : y ≡ 45 = cc in absurd (dash_no_digit base most (subst (IsDigit base) first dy.0))
same_before_dash base most (x ∷ xs) [] rest other dx dy e = let first : x ≡ 45 = cc in absurd (dash_no_digit base most (subst (IsDigit base) first dx.0))
same_before_dash base most (x ∷ xs) (y ∷ ys) rest other dx dy e =
    let first : x ≡ y = cc in
    let more : xs ++ 45 ∷ rest ≡ ys ++ 45 ∷ other = cc in
    let p = same_before_dash base most xs ys rest other dx.1 dy.1 more in
    (cc (first, p.0), p.1)
