-- What a list of a first item and others contains.
use Rattle.std.proofs.Common.{◌≡◌, ◌⊎◌, inl, inr, ℕ, zero, suc, ◌<◌, List, [], ◌∷◌, length, get_or, refl, sym, arith}
use Rattle.std.specs.Prelude.{Contains}

pub contains_first : {T : Type 0} (first : T) (others : List T) → Contains (first ∷ others) first
contains_first first others = (0, omega arith, refl)

pub contains_same : {T : Type 0} (first : T) (others : List T) (item : T) → item ≡ first → Contains (first ∷ others) item
contains_same first others item same = (0, omega arith, sym same)

pub contains_later : {T : Type 0} (first : T) (others : List T) (item : T) → Contains others item → Contains (first ∷ others) item
contains_later first others item is = let within = is.1 in (suc is.0, omega arith, is.2)

pub contains_cases : {T : Type 0} (first : T) (others : List T) (item : T) → Contains (first ∷ others) item → (item ≡ first) ⊎ Contains others item
contains_cases {T} first others item is = go is.0 is.1 is.2
  where
    go : (k : ℕ) → k < length (first ∷ others) → get_or (first ∷ others) k item ≡ item → (item ≡ first) ⊎ Contains others item
    go zero within same = inl (sym same)
    go (suc k) within same = inr (k, omega arith, same)

pub contains_none : {T : Type 0} (item : T) → Contains [] item → ⊥
contains_none item is = let within = is.1 in omega arith
