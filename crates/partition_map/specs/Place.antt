-- The places of one cache in byte order of the keys: each has a value, or is hidden.
use Rattle.std.specs.Prelude.{◌≡◌, ℕ, ◌+◌, List, length, Bool, true, false, Option, None, Some, option_and_then, option_map, IsSome}
use Rattle.std.specs.Option.{option_map_or}
use Rattle.std.specs.Ordering.{nat_cmp}
use Rattle.std.specs.Cmp.Lexicographic.{slice_cmp}
use Rattle.std.specs.List.{sum_by, filter_map, list_any}
use Rattle.std.specs.Map.{lookup}
use Rattle.std.specs.BTreeMap.{is_at}
use Rattle.std.specs.BTreeMap.Range.{entries_between}
use Rattle.std.specs.declared.ops.Bound.TheVariants.{Excluded, Unbounded}
use Rattle.cache_model.specs.Caches.{same, Pairs}

-- the keys, each with its value or hidden
abbrev pub PlaceList : Type 0
PlaceList = List (List ℕ × Option (List ℕ))

-- what stands at the key
abbrev pub value_at : PlaceList → List ℕ → Option (List ℕ)
value_at places key = option_and_then (λ v. v) (lookup (is_at (slice_cmp nat_cmp key)) places)

-- the key has a place, hidden or not
abbrev pub HasPlace : PlaceList → List ℕ → Type 0
HasPlace places key = IsSome (lookup (is_at (slice_cmp nat_cmp key)) places)

-- one for a place with a value
abbrev pub place_count : List ℕ → Option (List ℕ) → ℕ
place_count key value = option_map_or (λ v. 1) value 0

-- the bytes of the key and of the value, for a place with a value
abbrev pub place_bytes : List ℕ → Option (List ℕ) → ℕ
place_bytes key value = option_map_or (λ v. length key + length v) value 0

-- how many keys have a value
abbrev pub value_count : PlaceList → ℕ
value_count places = sum_by (λ p. place_count p.0 p.1) places

-- the bytes of these keys and of their values
abbrev pub value_bytes : PlaceList → ℕ
value_bytes places = sum_by (λ p. place_bytes p.0 p.1) places

-- each key that has a place keeps one
abbrev pub KeepsPlaces : PlaceList → PlaceList → Type 0
KeepsPlaces old new = (key : List ℕ) → HasPlace old key → HasPlace new key

-- whether a place was found, and has no value
abbrev pub is_hidden : Option (Option (List ℕ)) → Bool
is_hidden None = false
is_hidden (Some None) = true
is_hidden (Some (Some v)) = false

-- whether the place of the key has no value
abbrev pub hides : PlaceList → List ℕ → Bool
hides places key = is_hidden (lookup (is_at (slice_cmp nat_cmp key)) places)

-- only places of these keys are hidden
pub record HidesOnly (keys : List (List ℕ)) (places : PlaceList) : Type 0 where
  pub among : (key : List ℕ) → hides places key ≡ true → list_any (same key) keys ≡ true

-- what is hidden now was hidden before
pub record HidesNoMore (old new : PlaceList) : Type 0 where
  pub was : (key : List ℕ) → hides new key ≡ true → hides old key ≡ true

-- the same stands at each key, and the sums are the same
pub record SameValues (old new : PlaceList) : Type 0 where
  pub values : (key : List ℕ) → value_at new key ≡ value_at old key
  pub count : value_count new ≡ value_count old
  pub bytes : value_bytes new ≡ value_bytes old

-- the entries of which f shows something, each with that
abbrev pub shown_by : {X Y : Type 0} → (X → Option Y) → List (List ℕ × X) → List (List ℕ × Y)
shown_by f entries = filter_map (λ e. option_map (λ y. (e.0, y)) (f e.1)) entries

-- the keys that have a value, each with it, in order
abbrev pub pairs_shown : PlaceList → Pairs
pairs_shown places = shown_by (λ v. v) places

-- the places whose keys come after this one, or all
abbrev pub places_after : Option (List ℕ) → PlaceList → PlaceList
places_after key places = entries_between (slice_cmp nat_cmp) (option_map_or (λ k. Excluded k) key Unbounded) Unbounded places
