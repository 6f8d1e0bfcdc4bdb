-- Entries that are added after all others, and lists that stop at a number of items.
use Rattle.std.proofs.Common.{◌≡◌, ℕ, ◌≤◌, ◌<◌, zero, suc, List, [], ◌∷◌, ◌++◌, map, take, filter, length, Bool, true, false, cond, ◌&&◌, Option, Some, None, option_map, ap, ◌∙◌, sym, refl, subst, arith, append-nil, append_assoc}
use Rattle.std.specs.declared.cmp.Ordering.{Ordering}
use Rattle.std.specs.declared.cmp.Ordering.TheVariants.{Less, Equal, Greater}
use Rattle.std.specs.Ordering.{nat_cmp, ordering_reverse, match_ordering, is_lt}
use Rattle.std.specs.Cmp.Lexicographic.{slice_cmp, nat_list_cmp_total}
use Rattle.std.specs.List.{AllByRecursion, cons_option}
use Rattle.std.specs.Map.{keys_of}
use Rattle.std.specs.Option.{option_map_or}
use Rattle.std.specs.BTreeMap.{insert_entry}
use Rattle.std.specs.BTreeMap.Range.{range_contains, entries_between}
use Rattle.std.specs.declared.ops.Bound.TheVariants.{Excluded, Unbounded}
use Rattle.std.proofs.Math.Seq.{take-append_seam}
use Rattle.std.proofs.lemmas.List.{take_all}
use Rattle.std.proofs.lemmas.Map.Keys.{sorted_head, sorted_tail}
use Rattle.cache_key.specs.declared.request.Mutation.TheVariants.{Ensure}
use Rattle.cache_model.specs.Caches.{Pairs, Caches}
use Rattle.cache_model.specs.Contents.{IsRising}
use Rattle.cache_model.specs.PlainList.{puts_of, plain_cache, plain_list}
use Rattle.partition_map.specs.declared.extent.Extent.{Extent}
use Rattle.partition_map.specs.Extents.{Extents, extent_shown, caches_in, plain_in}
use Rattle.partition_map.specs.Items.{is_less, comes_after, caches_after, pairs_after}
use Rattle.partition_map.specs.Place.{PlaceList, shown_by, pairs_shown, places_after, value_count}
use Rattle.partition_map.proofs.ShownLemmas.{length-pairs_shown}

-- ---- an entry that is added last

all-middle : (P : List ℕ → Type 0) (ks : List (List ℕ)) (k : List ℕ) (later : List (List ℕ)) → AllByRecursion P (ks ++ k ∷ later) → P k
all-middle P [] k later all = all.0
all-middle P (q ∷ qs) k later all = all-middle P qs k later all.1

below-last : (ks : List (List ℕ)) (k : List ℕ) (later : List (List ℕ)) → IsRising (ks ++ k ∷ later) → AllByRecursion (λ q. slice_cmp nat_cmp q k ≡ Less) ks
below-last [] k later rise = tt
below-last (q ∷ qs) k later rise = (all-middle _ qs k later (sorted_head (slice_cmp nat_cmp) q (qs ++ k ∷ later) rise), below-last qs k later (sorted_tail (slice_cmp nat_cmp) q (qs ++ k ∷ later) rise))

insert-below : {X : Type 0} (es : List (List ℕ × X)) (k : List ℕ) (v : X) → AllByRecursion (λ q. slice_cmp nat_cmp q k ≡ Less) (keys_of es) → insert_entry (slice_cmp nat_cmp) es k v ≡ es ++ (k, v) ∷ []
insert-below [] k v below = refl
insert-below (e ∷ es) k v below =
    let after : slice_cmp nat_cmp k e.0 ≡ Greater = nat_list_cmp_total.antisymm k e.0 ∙ ap ordering_reverse below.0 in
    ap (λ o. match_ordering o ((k, v) ∷ e ∷ es) ((e.0, v) ∷ es) (e ∷ insert_entry (slice_cmp nat_cmp) es k v)) after ∙ ap (λ rest. e ∷ rest) (insert-below es k v below.1)

keys_of-append : {X : Type 0} (es fs : List (List ℕ × X)) → keys_of (es ++ fs) ≡ keys_of es ++ keys_of fs
keys_of-append [] fs = refl
keys_of-append (e ∷ es) fs = ap (λ ks. e.0 ∷ ks) (keys_of-append es fs)

-- the keys alone say where it goes
pub insert-last : {X Y : Type 0} (es : List (List ℕ × X)) (k : List ℕ) (v : X) (shown later : List (List ℕ × Y)) (y : Y) → keys_of es ≡ keys_of shown → IsRising (keys_of (shown ++ (k, y) ∷ later)) → insert_entry (slice_cmp nat_cmp) es k v ≡ es ++ (k, v) ∷ []
insert-last es k v shown later y keys rise =
    insert-below es k v (subst (AllByRecursion (λ q. slice_cmp nat_cmp q k ≡ Less)) (sym keys) (below-last (keys_of shown) k (keys_of later) (subst IsRising (keys_of-append shown ((k, y) ∷ later)) rise)))

pub map-append : {X Y : Type 0} (f : X → Y) (xs ys : List X) → map f (xs ++ ys) ≡ map f xs ++ map f ys
map-append f [] ys = refl
map-append f (x ∷ xs) ys = ap (λ rest. f x ∷ rest) (map-append f xs ys)

-- ---- one extent and the others

cons-shown : {Y : Type 0} (k : List ℕ) (o : Option Y) (rest : List (List ℕ × Y)) → cons_option (option_map (λ (y : Y). (k, y)) o) rest ≡ cons_option (option_map (λ (y : Y). (k, y)) o) [] ++ rest
cons-shown k None rest = refl
cons-shown k (Some y) rest = refl

pub caches_in-cons : (e : List ℕ × Extent) (es : Extents) → caches_in (e ∷ es) ≡ caches_in (e ∷ []) ++ caches_in es
caches_in-cons e es = cons-shown e.0 (extent_shown e.1) (caches_in es)

plain-cons : (name : List ℕ) (o : Option Pairs) (rest : Caches) → plain_list (cons_option (option_map (λ (y : Pairs). (name, y)) o) rest) ≡ option_map_or (plain_cache name) o [] ++ plain_list rest
plain-cons name None rest = refl
plain-cons name (Some pairs) rest = refl

pub plain_list-cons : (e : List ℕ × Extent) (es : Extents) → plain_list (caches_in (e ∷ es)) ≡ plain_in e.0 e.1 ++ plain_list (caches_in es)
plain_list-cons e es = plain-cons e.0 (extent_shown e.1) (caches_in es)

-- ---- entries after a key

cond_same : {X : Type 0} (b : Bool) (x : X) → cond b x x ≡ x
cond_same true x = refl
cond_same false x = refl

shown-filter : {X Y : Type 0} (f : X → Option Y) (p q : List ℕ → Bool) → ((k : List ℕ) → p k ≡ q k) → (es : List (List ℕ × X)) → shown_by f (filter (λ e. p e.0) es) ≡ filter (λ e. q e.0) (shown_by f es)
shown-filter f p q alike [] = refl
shown-filter {X = X} {Y = Y} f p q alike (e ∷ es) = by (f e.1) refl (p e.0) (q e.0) refl refl (alike e.0) (shown-filter f p q alike es)
  where
    by : (o : Option Y) → f e.1 ≡ o → (b d : Bool) → p e.0 ≡ b → q e.0 ≡ d → b ≡ d → shown_by f (filter (λ g. p g.0) es) ≡ filter (λ g. q g.0) (shown_by f es) → shown_by f (cond (p e.0) (e ∷ filter (λ g. p g.0) es) (filter (λ g. p g.0) es)) ≡ filter (λ g. q g.0) (cons_option (option_map (λ y. (e.0, y)) (f e.1)) (shown_by f es))
    by o is b d pb qd bd rest =
        ap (λ c. shown_by f (cond c (e ∷ filter (λ g. p g.0) es) (filter (λ g. p g.0) es))) pb
        ∙ shown_cond b (f e.1)
        ∙ ap (λ u. cond b (cons_option (option_map (λ y. (e.0, y)) u) (shown_by f (filter (λ g. p g.0) es))) (shown_by f (filter (λ g. p g.0) es))) is
        ∙ two o b rest
        ∙ ap (λ c. cond c (cons_option (option_map (λ y. (e.0, y)) o) (filter (λ g. q g.0) (shown_by f es))) (filter (λ g. q g.0) (shown_by f es))) (bd ∙ sym qd)
        ∙ sym (filter_cons o)
        ∙ ap (λ u. filter (λ g. q g.0) (cons_option (option_map (λ y. (e.0, y)) u) (shown_by f es))) (sym is)
      where
        shown_cond : (c : Bool) (u : Option Y) → shown_by f (cond c (e ∷ filter (λ g. p g.0) es) (filter (λ g. p g.0) es)) ≡ cond c (cons_option (option_map (λ y. (e.0, y)) (f e.1)) (shown_by f (filter (λ g. p g.0) es))) (shown_by f (filter (λ g. p g.0) es))
        shown_cond true u = refl
        shown_cond false u = refl

        two : (u : Option Y) (c : Bool) → shown_by f (filter (λ g. p g.0) es) ≡ filter (λ g. q g.0) (shown_by f es) → cond c (cons_option (option_map (λ y. (e.0, y)) u) (shown_by f (filter (λ g. p g.0) es))) (shown_by f (filter (λ g. p g.0) es)) ≡ cond c (cons_option (option_map (λ y. (e.0, y)) u) (filter (λ g. q g.0) (shown_by f es))) (filter (λ g. q g.0) (shown_by f es))
        two u c is = ap (λ xs. cond c (cons_option (option_map (λ y. (e.0, y)) u) xs) xs) is

        filter_cons : (u : Option Y) → filter (λ g. q g.0) (cons_option (option_map (λ y. (e.0, y)) u) (shown_by f es)) ≡ cond (q e.0) (cons_option (option_map (λ y. (e.0, y)) u) (filter (λ g. q g.0) (shown_by f es))) (filter (λ g. q g.0) (shown_by f es))
        filter_cons None = sym (cond_same (q e.0) (filter (λ g. q g.0) (shown_by f es)))
        filter_cons (Some y) = refl

lt-less : (o : Ordering) → (is_lt o && true) ≡ is_less o
lt-less Less = refl
lt-less Equal = refl
lt-less Greater = refl

pub caches_in-after : (name : List ℕ) (es : Extents) → caches_in (entries_between (slice_cmp nat_cmp) (Excluded name) Unbounded es) ≡ caches_after name (caches_in es)
caches_in-after name es = shown-filter extent_shown (range_contains (slice_cmp nat_cmp) (Excluded name) Unbounded) (comes_after name) (λ k. lt-less (slice_cmp nat_cmp name k)) es

pub pairs_shown-after : (key : List ℕ) (places : PlaceList) → pairs_shown (places_after (Some key) places) ≡ pairs_after key (pairs_shown places)
pairs_shown-after key places = shown-filter (λ v. v) (range_contains (slice_cmp nat_cmp) (Excluded key) Unbounded) (comes_after key) (λ k. lt-less (slice_cmp nat_cmp key k)) places

pub between-all : {X : Type 0} (es : List (List ℕ × X)) → entries_between (slice_cmp nat_cmp) Unbounded Unbounded es ≡ es
between-all [] = refl
between-all (e ∷ es) = ap (λ rest. e ∷ rest) (between-all es)

-- ---- lists that stop at a number of items

take_again : {X : Type 0} (n : ℕ) (xs ys : List X) → take n (take n xs ++ ys) ≡ take n (xs ++ ys)
take_again zero xs ys = refl
take_again (suc n) [] ys = refl
take_again (suc n) (x ∷ xs) ys = ap (λ rest. x ∷ rest) (take_again n xs ys)

pub taken-le : {X : Type 0} (n : ℕ) (xs : List X) → length (take n xs) ≤ n
taken-le zero xs = omega arith
taken-le (suc n) [] = omega arith
taken-le (suc n) (x ∷ xs) = omega (arith, taken-le n xs)

-- more is added to a list that stops
pub taken-more : {X : Type 0} (n : ℕ) (list before more later : List X) → list ≡ take n (before ++ more) → take n (list ++ later) ≡ take n (before ++ (more ++ later))
taken-more n list before more later is = ap (λ xs. take n (xs ++ later)) is ∙ take_again n (before ++ more) later ∙ ap (take n) (append_assoc before more later)

pub taken-full : {X : Type 0} (n : ℕ) (list later : List X) → length list ≡ n → list ≡ take n (list ++ later)
taken-full n list later is = sym (take-append_seam list later) ∙ ap (λ m. take m (list ++ later)) is

pub taken-none : {X : Type 0} (n : ℕ) (list : List X) → length list ≤ n → list ≡ take n (list ++ [])
taken-none n list few = sym (take_all n list few) ∙ ap (take n) (sym (append-nil list))

-- a copied entry is added
pub copied-more : {X : Type 0} (so_far new : List (List ℕ × X)) (key key_copy : List ℕ) (value value_copy : X) (rest all : List (List ℕ × X)) → so_far ++ (key, value) ∷ rest ≡ all → IsRising (keys_of all) → key_copy ≡ key → value_copy ≡ value → new ≡ insert_entry (slice_cmp nat_cmp) so_far key_copy value_copy → new ++ rest ≡ all
copied-more {X = X} so_far new key key_copy value value_copy rest all is rise key_is value_is inserted =
    ap (λ t. t ++ rest) (inserted ∙ (λ i. insert_entry (slice_cmp nat_cmp) so_far (key_is i) (value_is i)) ∙ insert-last so_far key value so_far rest value refl (subst (λ (es : List (List ℕ × X)). IsRising (keys_of es)) (sym is) rise))
    ∙ append_assoc so_far ((key, value) ∷ []) rest ∙ is

-- ---- the plain list of one extent

no_pairs : (name : List ℕ) (pairs : Pairs) → length pairs ≡ 0 → plain_cache name pairs ≡ Ensure name ∷ []
no_pairs name [] none = refl
no_pairs name (p ∷ ps) none = absurd (omega (arith, none))

some_pairs : (name : List ℕ) (pairs : Pairs) → 0 < length pairs → plain_cache name pairs ≡ puts_of name pairs
some_pairs name [] some = absurd (omega (arith, some))
some_pairs name (p ∷ ps) some = refl

pub shown-there : (e : Extent) → e.present ≡ true → extent_shown e ≡ Some (pairs_shown e.places)
shown-there e there = ap (λ b. cond b (Some (pairs_shown e.places)) None) there

pub plain-none : (name : List ℕ) (e : Extent) → e.present ≡ true → value_count e.places ≡ 0 → plain_in name e ≡ Ensure name ∷ []
plain-none name e there none = ap (λ o. option_map_or (plain_cache name) o []) (shown-there e there) ∙ no_pairs name (pairs_shown e.places) (length-pairs_shown e.places ∙ none)

pub plain-some : (name : List ℕ) (e : Extent) → e.present ≡ true → 0 < value_count e.places → plain_in name e ≡ puts_of name (pairs_shown e.places)
plain-some name e there some = ap (λ o. option_map_or (plain_cache name) o []) (shown-there e there) ∙ some_pairs name (pairs_shown e.places) (omega (arith, length-pairs_shown e.places, some))
