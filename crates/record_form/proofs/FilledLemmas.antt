-- A text of any length that may stand in every field.
use Rattle.std.proofs.Common.{◌≡◌, ℕ, zero, suc, ◌<◌, List, [], ◌∷◌, length, get_or, All, inl, inr, refl, arith}
use Rattle.std.proofs.lemmas.Bool.{cases_lt}
use Rattle.std.proofs.lemmas.List.{get_or_past}
use Rattle.std.proofs.lemmas.Str.{IsUtf8-from_ascii}
use Rattle.std.specs.Str.{IsUtf8}
use Rattle.cache_key.specs.Names.{IsNameByte}

-- so many bytes that may stand in every text
pub filled : ℕ → List ℕ
filled zero = []
filled (suc n) = 97 ∷ filled n

pub length-filled : (n : ℕ) → length (filled n) ≡ n
unfolding filled
length-filled zero = refl
length-filled (suc n) = let rest = length-filled n in omega (arith, rest)

-- each is one that may
filled_all : (P : ℕ → Type 0) (n : ℕ) → P 97 → (i d : ℕ) → i < n → P (get_or (filled n) i d)
unfolding filled
filled_all P zero is i d within = absurd (omega arith)
filled_all P (suc n) is zero d within = is
filled_all P (suc n) is (suc i) d within = filled_all P n is i d (omega arith)

pub filled_names : (n : ℕ) → All IsNameByte (filled n)
filled_names n i d within = filled_all IsNameByte n refl i d (omega (arith, length-filled n))

pub filled_utf8 : (n : ℕ) → IsUtf8 (filled n)
filled_utf8 n =
    IsUtf8-from_ascii (filled n) (λ i.
    elim (cases_lt i (length (filled n))) [
      | inl within ↦ filled_all (λ b. b < 128) n (omega arith) i 0 (omega (arith, length-filled n))
      | inr past ↦ rw (get_or_past (filled n) i 0 past) (omega arith)
    ])
