-- Pairs that are put one after the other: the last with a key decides.
use Rattle.std.proofs.Common.{◌≡◌, ℕ, List, [], ◌∷◌, ◌++◌, reverse, Bool, true, false, cond, ◌||◌, Option, Some, None, is_some, ap, ◌∙◌, sym, refl}
use Rattle.std.specs.Map.{lookup}
use Rattle.std.proofs.lemmas.List.{reverse-append}

-- one pair more is found last, or the others are
pub lookup_push : {X : Type 0} (test : List ℕ → Bool) (pairs : List (List ℕ × X)) (key : List ℕ) (value : X) → is_some (lookup test (pairs ++ (key, value) ∷ [])) ≡ (is_some (lookup test pairs) || test key)
lookup_push test [] key value = elim (test key) as (λ b. is_some (cond b (Some value) None) ≡ b) [ true ↦ refl | false ↦ refl ]
lookup_push test (p ∷ ps) key value = elim (test p.0) as (λ b. is_some (cond b (Some p.1) (lookup test (ps ++ (key, value) ∷ []))) ≡ (is_some (cond b (Some p.1) (lookup test ps)) || test key)) [ true ↦ refl | false ↦ lookup_push test ps key value ]

pub lookup-reverse_push : {X : Type 0} (test : List ℕ → Bool) (pairs : List (List ℕ × X)) (key : List ℕ) (value : X) → lookup test (reverse (pairs ++ (key, value) ∷ [])) ≡ cond (test key) (Some value) (lookup test (reverse pairs))
lookup-reverse_push test pairs key value = ap (lookup test) (reverse-append pairs ((key, value) ∷ []))

-- the reversed pairs have the same keys
cond-or : (b x : Bool) → (x || b) ≡ cond b true x
cond-or true true = refl
cond-or true false = refl
cond-or false true = refl
cond-or false false = refl

is_some-cond : {X : Type 0} (b : Bool) (value : X) (o : Option X) → is_some (cond b (Some value) o) ≡ cond b true (is_some o)
is_some-cond true value o = refl
is_some-cond false value o = refl

pub is_some_lookup-reverse : {X : Type 0} (test : List ℕ → Bool) (pairs : List (List ℕ × X)) → is_some (lookup test (reverse pairs)) ≡ is_some (lookup test pairs)
is_some_lookup-reverse {X = X} test [] = refl
is_some_lookup-reverse {X = X} test (p ∷ ps) =
    ap (λ (qs : List (List ℕ × X)). is_some (lookup test qs)) (reverse-append (p ∷ []) ps)
    ∙ lookup_push test (reverse ps) p.0 p.1
    ∙ cond-or (test p.0) (is_some (lookup test (reverse ps)))
    ∙ ap (cond (test p.0) true) (is_some_lookup-reverse test ps)
    ∙ sym (is_some-cond (test p.0) p.1 (lookup test ps))
