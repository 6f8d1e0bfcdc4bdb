-- Laws of what entries show.
use Rattle.std.proofs.Common.{◌≡◌, ℕ, zero, suc, min, ◌+◌, ◌*◌, ◌^◌, ◌<◌, ◌≤◌, List, [], ◌∷◌, length, Bool, true, false, cond, Option, Some, None, option_and_then, option_map, sum_by, ap, ◌∙◌, sym, refl, arith}
use Rattle.std.specs.declared.cmp.Ordering.TheVariants.{Less}
use Rattle.std.specs.Option.{option_map_or}
use Rattle.std.specs.Ordering.{nat_cmp, is_eq}
use Rattle.std.specs.Cmp.Lexicographic.{slice_cmp, texts_ties, bytes_decides}
use Rattle.std.specs.List.{AllByRecursion, cons_option}
use Rattle.std.specs.Map.{lookup, keys_of}
use Rattle.std.proofs.lemmas.Map.Keys.{sorted_head, sorted_tail}
use Rattle.std.proofs.lemmas.List.Sums.{sum_by-cons}
use Rattle.cache_key.specs.declared.request.Mutation.TheVariants.{Put}
use Rattle.cache_model.specs.Caches.{same, Pairs}
use Rattle.cache_model.specs.Contents.{IsRising}
use Rattle.cache_model.specs.PlainList.{puts_of, plain_cache, spelled_length}
use Rattle.cache_model.proofs.EntriesLemmas.{rising_cons}
use Rattle.cache_model.proofs.GrowthLemmas.{length-puts_of}
use Rattle.cache_model.proofs.ListLemmas.{same_from_lookups}
use Rattle.cache_model.proofs.ShownLemmas.{same-is_at}
use Rattle.partition_map.specs.declared.extent.Extent.{Extent}
use Rattle.partition_map.specs.Extents.{extent_items, extent_bytes}
use Rattle.partition_map.specs.Place.{PlaceList, value_at, shown_by, pairs_shown, place_count, place_bytes, value_count, value_bytes}

missed : {X : Type 0} (k : List ℕ) (es : List (List ℕ × X)) → AllByRecursion (λ other. slice_cmp nat_cmp k other ≡ Less) (keys_of es) → lookup (same k) es ≡ None
missed k [] below = refl
missed k (e ∷ es) below = (λ i. cond (texts_ties k e.0 i) (Some e.1) (lookup (same k) es)) ∙ (λ i. cond (is_eq (below.0 i)) (Some e.1) (lookup (same k) es)) ∙ missed k es below.1

-- after the first entry with rising keys nothing has its key
pub after_first : {X : Type 0} (e : List ℕ × X) (es : List (List ℕ × X)) (q : List ℕ) → IsRising (keys_of (e ∷ es)) → same q e.0 ≡ true → lookup (same q) es ≡ None
after_first e es q rise is = ap (λ k. lookup (same k) es) ((bytes_decides q e.0).0 is) ∙ missed e.0 es (sorted_head (slice_cmp nat_cmp) e.0 (keys_of es) rise)

module _ {X Y : Type 0} (f : X → Option Y) where
  lookup-cons_option : (test : List ℕ → Bool) (k : List ℕ) (o : Option Y) (rest : List (List ℕ × Y)) → lookup test (cons_option (option_map (λ y. (k, y)) o) rest) ≡ option_map_or (λ y. cond (test k) (Some y) (lookup test rest)) o (lookup test rest)
  lookup-cons_option test k None rest = refl
  lookup-cons_option test k (Some y) rest = refl

  shown_first : (b : Bool) (x : X) (o : Option Y) (rest : Option Y) (later : Option X) → f x ≡ o → (b ≡ true → later ≡ None) → rest ≡ option_and_then f later → option_map_or (λ y. cond b (Some y) rest) o rest ≡ option_and_then f (cond b (Some x) later)
  shown_first true x None rest later is none shows = shows ∙ ap (option_and_then f) (none refl) ∙ sym is
  shown_first true x (Some y) rest later is none shows = sym is
  shown_first false x None rest later is none shows = shows
  shown_first false x (Some y) rest later is none shows = shows

  pub lookup-shown_by : (es : List (List ℕ × X)) (q : List ℕ) → IsRising (keys_of es) → lookup (same q) (shown_by f es) ≡ option_and_then f (lookup (same q) es)
  lookup-shown_by [] q rise = refl
  lookup-shown_by (e ∷ es) q rise =
      lookup-cons_option (same q) e.0 (f e.1) (shown_by f es)
      ∙ shown_first (same q e.0) e.1 (f e.1) (lookup (same q) (shown_by f es)) (lookup (same q) es) refl (after_first e es q rise) (lookup-shown_by es q (sorted_tail (slice_cmp nat_cmp) e.0 (keys_of es) rise))

  all-cons_option : (P : List ℕ → Type 0) (k : List ℕ) (o : Option Y) (rest : List (List ℕ × Y)) → P k → AllByRecursion P (keys_of rest) → AllByRecursion P (keys_of (cons_option (option_map (λ y. (k, y)) o) rest))
  all-cons_option P k None rest at all = all
  all-cons_option P k (Some y) rest at all = (at, all)

  all-shown_by : (P : List ℕ → Type 0) (es : List (List ℕ × X)) → AllByRecursion P (keys_of es) → AllByRecursion P (keys_of (shown_by f es))
  all-shown_by P [] all = all
  all-shown_by P (e ∷ es) all = all-cons_option P e.0 (f e.1) (shown_by f es) all.0 (all-shown_by P es all.1)

  rising-cons_option : (k : List ℕ) (o : Option Y) (rest : List (List ℕ × Y)) → AllByRecursion (λ other. slice_cmp nat_cmp k other ≡ Less) (keys_of rest) → IsRising (keys_of rest) → IsRising (keys_of (cons_option (option_map (λ y. (k, y)) o) rest))
  rising-cons_option k None rest below rise = rise
  rising-cons_option k (Some y) rest below rise = rising_cons k (keys_of rest) below rise

  pub rising-shown_by : (es : List (List ℕ × X)) → IsRising (keys_of es) → IsRising (keys_of (shown_by f es))
  rising-shown_by [] rise = rise
  rising-shown_by (e ∷ es) rise =
      rising-cons_option e.0 (f e.1) (shown_by f es) (all-shown_by _ es (sorted_head (slice_cmp nat_cmp) e.0 (keys_of es) rise)) (rising-shown_by es (sorted_tail (slice_cmp nat_cmp) e.0 (keys_of es) rise))

-- ---- the pairs of a cache

pub lookup-pairs_shown : (places : PlaceList) (key : List ℕ) → IsRising (keys_of places) → lookup (same key) (pairs_shown places) ≡ value_at places key
lookup-pairs_shown places key rise = lookup-shown_by (λ v. v) places key rise ∙ ap (λ test. option_and_then (λ v. v) (lookup test places)) (same-is_at key)

pub pairs_shown-same : (old new : PlaceList) → IsRising (keys_of old) → IsRising (keys_of new) → ((key : List ℕ) → value_at new key ≡ value_at old key) → pairs_shown new ≡ pairs_shown old
pairs_shown-same old new rise new_rise alike =
    same_from_lookups (pairs_shown new) (pairs_shown old) (rising-shown_by (λ v. v) new new_rise) (rising-shown_by (λ v. v) old rise)
    (λ key. lookup-pairs_shown new key new_rise ∙ alike key ∙ sym (lookup-pairs_shown old key rise))

pub length-pairs_shown : (places : PlaceList) → length (pairs_shown places) ≡ value_count places
length-pairs_shown [] = refl
length-pairs_shown (p ∷ ps) = by p.1 (length-pairs_shown ps) ∙ sym (sum_by-cons (λ (q : List ℕ × Option (List ℕ)). place_count q.0 q.1) p ps)
  where
    by : (o : Option (List ℕ)) → length (pairs_shown ps) ≡ value_count ps → length (cons_option (option_map (λ v. (p.0, v)) o) (pairs_shown ps)) ≡ place_count p.0 o + value_count ps
    by None rest = omega (arith, rest)
    by (Some v) rest = omega (arith, rest)

-- the length of the puts of a cache
pub puts_length : (name : List ℕ) (places : PlaceList) → sum_by spelled_length (puts_of name (pairs_shown places)) ≡ value_count places * (length name + 8) + value_bytes places
puts_length name [] = sym (none_times (length name + 8))
  where
    none_times : (n : ℕ) → 0 * n + 0 ≡ 0
    none_times n = omega arith
puts_length name (p ∷ ps) =
    by p.1 (puts_length name ps)
    ∙ sym (λ i. sum_by-cons (λ (q : List ℕ × Option (List ℕ)). place_count q.0 q.1) p ps i * (length name + 8) + sum_by-cons (λ (q : List ℕ × Option (List ℕ)). place_bytes q.0 q.1) p ps i)
  where
    one_more : (c n : ℕ) → (1 + c) * n ≡ n + c * n
    one_more c n = omega arith

    by : (o : Option (List ℕ)) → sum_by spelled_length (puts_of name (pairs_shown ps)) ≡ value_count ps * (length name + 8) + value_bytes ps → sum_by spelled_length (puts_of name (cons_option (option_map (λ v. (p.0, v)) o) (pairs_shown ps))) ≡ (place_count p.0 o + value_count ps) * (length name + 8) + (place_bytes p.0 o + value_bytes ps)
    by None rest = omega (arith, rest)
    by (Some v) rest = omega (arith, rest, sum_by-cons spelled_length (Put name p.0 v) (puts_of name (pairs_shown ps)), one_more (value_count ps) (length name + 8))

-- ---- the items of a cache that is there

cache_items_none : (name : List ℕ) (pairs : Pairs) → length pairs ≡ 0 → (length (plain_cache name pairs) ≡ 1) × (sum_by spelled_length (plain_cache name pairs) ≡ length name + 2)
cache_items_none name [] is = (refl, omega arith)
cache_items_none name (p ∷ ps) is = absurd (omega (arith, is))

cache_items_some : (name : List ℕ) (pairs : Pairs) → 0 < length pairs → (length (plain_cache name pairs) ≡ length pairs) × (sum_by spelled_length (plain_cache name pairs) ≡ sum_by spelled_length (puts_of name pairs))
cache_items_some name [] some = absurd (omega (arith, some))
cache_items_some name (p ∷ ps) some = (length-puts_of name (p ∷ ps), refl)

extent_items_there : (name : List ℕ) (extent : Extent) → extent.present ≡ true → (extent_items name extent ≡ length (plain_cache name (pairs_shown extent.places))) × (extent_bytes name extent ≡ sum_by spelled_length (plain_cache name (pairs_shown extent.places)))
extent_items_there name extent there = (
  ap (λ b. option_map_or (λ pairs. length (plain_cache name pairs)) (cond b (Some (pairs_shown extent.places)) None) 0) there,
  ap (λ b. option_map_or (λ pairs. sum_by spelled_length (plain_cache name pairs)) (cond b (Some (pairs_shown extent.places)) None) 0) there,
)

pub items_none : (name : List ℕ) (extent : Extent) → extent.present ≡ true → value_count extent.places ≡ 0 → (extent_items name extent ≡ 1) × (extent_bytes name extent ≡ length name + 2)
items_none name extent there none =
    let all = extent_items_there name extent there in
    let one = cache_items_none name (pairs_shown extent.places) (length-pairs_shown extent.places ∙ none) in (all.0 ∙ one.0, all.1 ∙ one.1)

pub items_some : (name : List ℕ) (extent : Extent) → extent.present ≡ true → 0 < value_count extent.places → (extent_items name extent ≡ value_count extent.places) × (extent_bytes name extent ≡ value_count extent.places * (length name + 8) + value_bytes extent.places)
items_some name extent there some =
    let all = extent_items_there name extent there in
    let more = cache_items_some name (pairs_shown extent.places) (omega (arith, length-pairs_shown extent.places, some)) in (all.0 ∙ more.0 ∙ length-pairs_shown extent.places, all.1 ∙ more.1 ∙ puts_length name extent.places)

-- sums that stop at the greatest number are exact below it
pub bytes_exact : (count name_length bytes each product sum greatest : ℕ) → 0 < count → greatest ≡ 18446744073709551615 → count * (name_length + 8) + bytes < 2 ^ 62 → each ≡ min (name_length + 8) greatest → product ≡ min (count * each) greatest → sum ≡ min (product + bytes) greatest → sum ≡ count * (name_length + 8) + bytes
bytes_exact count name_length bytes each product sum greatest some is fits each_is product_is sum_is =
    let least : name_length + 8 ≤ count * (name_length + 8) = once count (name_length + 8) some in
    let exact : each ≡ name_length + 8 = omega (arith, each_is, least, fits, is) in
    let times : count * each ≡ count * (name_length + 8) = ap (λ (n : ℕ). count * n) exact in
    omega (arith, times, product_is, sum_is, fits, is)
  where
    once : (c n : ℕ) → 0 < c → n ≤ c * n
    once zero n some = absurd (omega (arith, some))
    once (suc c) n some = omega arith
