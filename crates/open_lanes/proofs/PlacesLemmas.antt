-- Lists that agree place by place.
use Rattle.std.proofs.Common.{◌≡◌, ℕ, zero, suc, ◌+◌, ◌<◌, List, [], ◌∷◌, ◌++◌, length, slice_get, Some, None, Option, map, reverse, refl, sym, ◌∙◌, ap, subst, arith}
use Rattle.std.proofs.lemmas.List.{append_assoc, map-append, reverse-append, length-append, length-map, length-reverse}
use Rattle.std.proofs.lemmas.Option.{slice_get_within}

-- two that are each the element of one place
one_element : {X : Type 0} (x y : X) → Some x ≡ Some y → x ≡ y
one_element x y e = cc

-- the element after a first part
pub at_seam : {X : Type 0} (first : List X) (x : X) (rest : List X) → slice_get (first ++ x ∷ rest) (length first) ≡ Some x
at_seam [] x rest = refl
at_seam (y ∷ first) x rest = at_seam first x rest

-- the same, by a number that is the length
pub at_place : {X : Type 0} (first : List X) (x : X) (rest : List X) (p : ℕ) → p ≡ length first → slice_get (first ++ x ∷ rest) p ≡ Some x
at_place first x rest p e = subst (λ (q : ℕ). slice_get (first ++ x ∷ rest) q ≡ Some x) (sym e) (at_seam first x rest)

-- what a mapped list has at a place comes from the list's element there
pub mapped_from : {X Y : Type 0} (f : X → Y) (xs : List X) (p : ℕ) (y : Y) → slice_get (map f xs) p ≡ Some y → (x : X) × (slice_get xs p ≡ Some x) × (f x ≡ y)
mapped_from f [] p y is = absurd (cc is)
mapped_from f (x ∷ xs) zero y is = (x, refl, one_element (f x) y is)
mapped_from f (x ∷ xs) (suc p) y is = mapped_from f xs p y is

-- a reversed list, mapped
pub map_reversed : {X Y : Type 0} (f : X → Y) (xs : List X) → map f (reverse xs) ≡ reverse (map f xs)
map_reversed f [] = refl
map_reversed f (x ∷ xs) = ap (map f) (reverse-append (x ∷ []) xs) ∙ map-append f (reverse xs) (x ∷ []) ∙ ap (λ (ys : List _). ys ++ f x ∷ []) (map_reversed f xs) ∙ sym (reverse-append (f x ∷ []) (map f xs))

-- the last one of a reversed list stands first
pub reversed_last : {X : Type 0} (xs : List X) (x : X) → reverse (xs ++ x ∷ []) ≡ x ∷ reverse xs
reversed_last xs x = reverse-append xs (x ∷ [])

-- Two lists, each a first part, one element and a rest, are in a relation place by place: the first parts are, the elements are, and
-- the rests are.
pub each_place : {X Y : Type 0} (Q : ℕ → X → Y → Type 0) (begun : List X) (done : List Y) (before : X) (after : Y) (later : List X) (rest : List Y) → length begun ≡ length done
    → ((p : ℕ) (b : X) (a : Y) → slice_get begun p ≡ Some b → slice_get done p ≡ Some a → Q p b a)
    → Q (length done) before after
    → ((p i : ℕ) (b : X) (a : Y) → length done < p → slice_get (begun ++ before ∷ later) p ≡ Some b → slice_get later i ≡ Some b → slice_get rest i ≡ Some a → Q p b a)
    → (p : ℕ) (b : X) (a : Y) → slice_get (begun ++ before ∷ later) p ≡ Some b → slice_get (done ++ after ∷ rest) p ≡ Some a → Q p b a
each_place Q [] [] before after later rest many first here still zero b a was is =
    subst (λ (y : _). Q 0 b y) (one_element after a is) (subst (λ (x : _). Q 0 x after) (one_element before b was) here)
each_place Q [] [] before after later rest many first here still (suc p) b a was is = still (suc p) p b a (omega arith) was was is
each_place Q [] (y ∷ done) before after later rest many first here still p b a was is = absurd (omega (arith, many))
each_place Q (x ∷ begun) [] before after later rest many first here still p b a was is = absurd (omega (arith, many))
each_place Q (x ∷ begun) (y ∷ done) before after later rest many first here still zero b a was is = first 0 b a was is
each_place Q (x ∷ begun) (y ∷ done) before after later rest many first here still (suc p) b a was is =
    each_place (λ q. Q (suc q)) begun done before after later rest (omega (arith, many)) (λ q. first (suc q)) here
    (λ q i c d lt. still (suc q) i c d (omega (arith, lt)))
    p b a was is
