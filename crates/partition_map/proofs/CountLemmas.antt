-- How many items stand after one.
use Rattle.std.proofs.Common.{◌≡◌, ℕ, ◌+◌, ◌≤◌, List, [], ◌∷◌, length, filter, unwrap_or, Bool, true, false, cond, Option, Some, None, is_some, ap, ◌∙◌, sym, refl, arith}
use Rattle.std.specs.Option.{option_map_or}
use Rattle.std.specs.declared.ops.Bound.TheVariants.{Excluded, Unbounded}
use Rattle.std.specs.Ordering.{nat_cmp}
use Rattle.std.specs.Cmp.Lexicographic.{slice_cmp}
use Rattle.std.specs.Map.{lookup}
use Rattle.std.specs.BTreeMap.Range.{range_contains}
use Rattle.std.proofs.lemmas.Bool.{false≢true}
use Rattle.std.proofs.lemmas.List.{length-append}
use Rattle.std.proofs.lemmas.List.Sums.{sum_by-cons}
use Rattle.cache_model.specs.Caches.{same, Pairs, Caches}
use Rattle.cache_model.specs.PlainList.{plain_cache, plain_list}
use Rattle.cache_model.specs.Size.{pairs_in}
use Rattle.cache_model.proofs.GrowthLemmas.{length-puts_of}
use Rattle.partition_map.specs.declared.extent.Extent.{Extent}
use Rattle.partition_map.specs.Extents.{Extents, extent_shown, caches_in, extent_items}
use Rattle.partition_map.specs.Items.{comes_after, caches_after, pairs_after}
use Rattle.partition_map.specs.Place.{PlaceList, places_after, place_count, value_count}
use Rattle.partition_map.proofs.InOrderLemmas.{plain_list-cons}

-- ---- the places with a value

pub value_count-some : (key : List ℕ) (place : Option (List ℕ)) (rest : PlaceList) → is_some place ≡ true → value_count ((key, place) ∷ rest) ≡ 1 + value_count rest
value_count-some key None rest is = absurd (false≢true is)
value_count-some key (Some v) rest is = sum_by-cons (λ (q : List ℕ × Option (List ℕ)). place_count q.0 q.1) (key, Some v) rest

pub value_count-none : (key : List ℕ) (place : Option (List ℕ)) (rest : PlaceList) → is_some place ≡ false → value_count ((key, place) ∷ rest) ≡ value_count rest
value_count-none key None rest is = omega (arith, sum_by-cons (λ (q : List ℕ × Option (List ℕ)). place_count q.0 q.1) (key, None) rest)
value_count-none key (Some v) rest is = absurd (false≢true (sym is))

value_count-filter : (p : List ℕ × Option (List ℕ) → Bool) (places : PlaceList) → value_count (filter p places) ≤ value_count places
value_count-filter p [] = omega arith
value_count-filter p (e ∷ es) = by (p e) (value_count-filter p es)
  where
    by : (b : Bool) → value_count (filter p es) ≤ value_count es → value_count (cond b (e ∷ filter p es) (filter p es)) ≤ value_count (e ∷ es)
    by true rest = omega (arith, sum_by-cons (λ (q : List ℕ × Option (List ℕ)). place_count q.0 q.1) e (filter p es), sum_by-cons (λ (q : List ℕ × Option (List ℕ)). place_count q.0 q.1) e es, rest)
    by false rest = omega (arith, sum_by-cons (λ (q : List ℕ × Option (List ℕ)). place_count q.0 q.1) e es, rest)

pub value_count-after : (key : List ℕ) (places : PlaceList) → value_count (places_after (Some key) places) ≤ value_count places
value_count-after key places = value_count-filter (λ e. range_contains (slice_cmp nat_cmp) (Excluded key) Unbounded e.0) places

-- ---- the items of extents

items_shown : (name : List ℕ) (o : Option Pairs) → length (option_map_or (plain_cache name) o []) ≡ option_map_or (λ pairs. length (plain_cache name pairs)) o 0
items_shown name None = refl
items_shown name (Some pairs) = refl

pub count-cons : (e : List ℕ × Extent) (es : Extents) → length (plain_list (caches_in (e ∷ es))) ≡ extent_items e.0 e.1 + length (plain_list (caches_in es))
count-cons e es =
    ap length (plain_list-cons e es)
    ∙ length-append (option_map_or (plain_cache e.0) (extent_shown e.1) []) (plain_list (caches_in es))
    ∙ ap (λ (n : ℕ). n + length (plain_list (caches_in es))) (items_shown e.0 (extent_shown e.1))

-- ---- a part of the caches has no more items than all

count-filter : (p : List ℕ × Pairs → Bool) (caches : Caches) → length (plain_list (filter p caches)) ≤ length (plain_list caches)
count-filter p [] = omega arith
count-filter p (c ∷ cs) = by (p c) (count-filter p cs)
  where
    by : (b : Bool) → length (plain_list (filter p cs)) ≤ length (plain_list cs) → length (plain_list (cond b (c ∷ filter p cs) (filter p cs))) ≤ length (plain_list (c ∷ cs))
    by true rest = omega (arith, length-append (plain_cache c.0 c.1) (plain_list (filter p cs)), length-append (plain_cache c.0 c.1) (plain_list cs), rest)
    by false rest = omega (arith, length-append (plain_cache c.0 c.1) (plain_list cs), rest)

pub count-after : (name : List ℕ) (caches : Caches) → length (plain_list (caches_after name caches)) ≤ length (plain_list caches)
count-after name caches = count-filter (λ c. comes_after name c.0) caches

filter_fewer : {X : Type 0} (p : X → Bool) (xs : List X) → length (filter p xs) ≤ length xs
filter_fewer p [] = omega arith
filter_fewer p (x ∷ xs) = by (p x) (filter_fewer p xs)
  where
    by : (b : Bool) → length (filter p xs) ≤ length xs → length (cond b (x ∷ filter p xs) (filter p xs)) ≤ length (x ∷ xs)
    by true rest = omega (arith, rest)
    by false rest = omega (arith, rest)

pairs_fewer : (name : List ℕ) (pairs : Pairs) → length pairs ≤ length (plain_cache name pairs)
pairs_fewer name [] = omega arith
pairs_fewer name (p ∷ ps) = omega (arith, length-puts_of name (p ∷ ps))

pairs_in-fewer : (cache : List ℕ) (caches : Caches) → length (pairs_in caches cache) ≤ length (plain_list caches)
pairs_in-fewer cache [] = omega arith
pairs_in-fewer cache (c ∷ cs) = by (same cache c.0) (pairs_in-fewer cache cs)
  where
    by : (b : Bool) → length (pairs_in cs cache) ≤ length (plain_list cs) → length (unwrap_or (cond b (Some c.1) (lookup (same cache) cs)) []) ≤ length (plain_list (c ∷ cs))
    by true rest = omega (arith, length-append (plain_cache c.0 c.1) (plain_list cs), pairs_fewer c.0 c.1)
    by false rest = omega (arith, length-append (plain_cache c.0 c.1) (plain_list cs), rest)

pub rest-fewer : (cache key : List ℕ) (caches : Caches) → length (pairs_after key (pairs_in caches cache)) ≤ length (plain_list caches)
rest-fewer cache key caches = omega (arith, filter_fewer (λ (p : List ℕ × List ℕ). comes_after key p.0) (pairs_in caches cache), pairs_in-fewer cache caches)
