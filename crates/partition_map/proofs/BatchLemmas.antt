-- Pairs that are put one after the other.
use Rattle.std.proofs.Common.{◌≡◌, ℕ, List, [], ◌∷◌, ◌++◌, reverse, Bool, true, false, cond, Option, Some, None, is_some, if◌then◌else◌, ap, ◌∙◌, sym, refl}
use Rattle.std.specs.List.{AllByRecursion}
use Rattle.std.specs.Map.{lookup}
use Rattle.std.specs.Cmp.Lexicographic.{nat_list_eq_equiv}
use Rattle.std.proofs.lemmas.List.{reverse-append}
use Rattle.std.proofs.lemmas.Bool.{false≢true}
use Rattle.cache_model.specs.Caches.{same, Pairs}
use Rattle.partition_map.specs.Place.{PlaceList, HasPlace, KeepsPlaces}
use Rattle.partition_map.specs.Extents.{value_put}

pub all-kept : (old new : PlaceList) (pairs : Pairs) → KeepsPlaces old new → AllByRecursion (λ p. HasPlace old p.0) pairs → AllByRecursion (λ p. HasPlace new p.0) pairs
all-kept old new [] keeps has = has
all-kept old new (p ∷ ps) keeps has = (keeps p.0 has.0, all-kept old new ps keeps has.1)

abbrev or_else : {X : Type 0} → Option X → Option X → Option X
or_else (Some x) other = Some x
or_else None other = other

lookup-push : {X : Type 0} (test : List ℕ → Bool) (xs : List (List ℕ × X)) (p : List ℕ × X) → lookup test (xs ++ p ∷ []) ≡ or_else (lookup test xs) (cond (test p.0) (Some p.1) None)
lookup-push test [] p = refl
lookup-push test (x ∷ xs) p = by (test x.0) (lookup-push test xs p)
  where
    by : (b : Bool) → lookup test (xs ++ p ∷ []) ≡ or_else (lookup test xs) (cond (test p.0) (Some p.1) None) → cond b (Some x.1) (lookup test (xs ++ p ∷ [])) ≡ or_else (cond b (Some x.1) (lookup test xs)) (cond (test p.0) (Some p.1) None)
    by true rest = refl
    by false rest = rest

-- the last of the pairs with the key, and whether there is one
is_some-or_else : {X : Type 0} (b : Bool) (x : X) (last first : Option X) → is_some last ≡ is_some first → is_some (or_else last (cond b (Some x) None)) ≡ is_some (cond b (Some x) first)
is_some-or_else true x None first alike = refl
is_some-or_else true x (Some y) first alike = refl
is_some-or_else false x None first alike = alike
is_some-or_else false x (Some y) first alike = alike

lookup-reverse-cons : {X : Type 0} (test : List ℕ → Bool) (p : List ℕ × X) (ps : List (List ℕ × X)) → lookup test (reverse (p ∷ ps)) ≡ or_else (lookup test (reverse ps)) (cond (test p.0) (Some p.1) None)
lookup-reverse-cons test p ps = ap (lookup test) (reverse-append (p ∷ []) ps) ∙ lookup-push test (reverse ps) p

is_some-lookup-reverse : {X : Type 0} (test : List ℕ → Bool) (ps : List (List ℕ × X)) → is_some (lookup test (reverse ps)) ≡ is_some (lookup test ps)
is_some-lookup-reverse test [] = refl
is_some-lookup-reverse test (p ∷ ps) = ap is_some (lookup-reverse-cons test p ps) ∙ is_some-or_else (test p.0) p.1 (lookup test (reverse ps)) (lookup test ps) (is_some-lookup-reverse test ps)

pick : {X : Type 0} (b : Bool) (x : X) (last first was : Option X) → is_some last ≡ is_some first → cond (is_some first) last (cond b (Some x) was) ≡ cond (is_some (cond b (Some x) first)) (or_else last (cond b (Some x) None)) was
pick true x None None was alike = refl
pick true x (Some y) (Some z) was alike = refl
pick true x None (Some z) was alike = absurd (false≢true alike)
pick true x (Some y) None was alike = absurd (false≢true (sym alike))
pick false x None first was alike = refl
pick false x (Some y) first was alike = refl

same-turned : (a b : List ℕ) → same a b ≡ same b a
same-turned a b = nat_list_eq_equiv.symm a b

-- the last pair with the key decides
pub value_put-is : (pairs : Pairs) (key : List ℕ) (was : Option (List ℕ)) → value_put pairs key was ≡ (if is_some (lookup (same key) pairs) then lookup (same key) (reverse pairs) else was)
value_put-is [] key was = refl
value_put-is (p ∷ ps) key was =
    value_put-is ps key (if same p.0 key then Some p.1 else was)
    ∙ ap (λ b. cond (is_some (lookup (same key) ps)) (lookup (same key) (reverse ps)) (cond b (Some p.1) was)) (same-turned p.0 key)
    ∙ pick (same key p.0) p.1 (lookup (same key) (reverse ps)) (lookup (same key) ps) was (is_some-lookup-reverse (same key) ps)
    ∙ ap (λ o. cond (is_some (lookup (same key) (p ∷ ps))) o was) (sym (lookup-reverse-cons (same key) p ps))
