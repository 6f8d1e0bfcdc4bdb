-- The contents after a list of changes, the oldest first. They are read backwards: the last change that touches a key decides.
use Rattle.std.specs.Prelude.{◌≡◌, ℕ, List, [], ◌∷◌, map, reverse, Bool, false, Option, None, is_some, if◌then◌else◌}
use Rattle.std.specs.Ordering.{nat_cmp}
use Rattle.std.specs.Cmp.Lexicographic.{slice_cmp}
use Rattle.std.specs.List.Sorted.{IsStrictlySortedBy}
use Rattle.std.specs.List.{AllByRecursion}
use Rattle.std.specs.Map.{lookup}
use Rattle.cache_model.specs.Caches.{same, Caches, value_in}
use Rattle.cache_model.specs.Change.{Change, writes, value_left, rules, presence_left}

-- what stands at the key of the cache after these changes, the newest first: the newest that writes it decides
abbrev pub value_looking_back : List Change → List ℕ → List ℕ → Option (List ℕ)
value_looking_back [] cache key = None
value_looking_back (newest ∷ older) cache key = if writes newest cache key then value_left newest cache key else value_looking_back older cache key

-- the same after changes in their order, the oldest first
abbrev pub value_after : List Change → List ℕ → List ℕ → Option (List ℕ)
value_after changes cache key = value_looking_back (reverse changes) cache key

-- whether the cache is there after these changes, the newest first: the newest that rules it decides
abbrev pub presence_looking_back : List Change → List ℕ → Bool
presence_looking_back [] cache = false
presence_looking_back (newest ∷ older) cache = if rules newest cache then presence_left newest cache else presence_looking_back older cache

-- the same after changes in their order, the oldest first
abbrev pub is_present_after : List Change → List ℕ → Bool
is_present_after changes cache = presence_looking_back (reverse changes) cache

-- two lists of changes leave the same contents
pub record SameContents (changes others : List Change) : Type 0 where
  pub values : (cache key : List ℕ) → value_after changes cache key ≡ value_after others cache key
  pub presence : (cache : List ℕ) → is_present_after changes cache ≡ is_present_after others cache

-- the names or keys rise in byte order, so each stands once
abbrev pub IsRising : List (List ℕ) → Type 0
IsRising texts = IsStrictlySortedBy (slice_cmp nat_cmp) texts

-- the caches stand in the order of their names
abbrev pub NamesRise : Caches → Type 0
NamesRise caches = IsRising (map (λ c. c.0) caches)

-- the pairs of each cache stand in the order of their keys
abbrev pub KeysRise : Caches → Type 0
KeysRise caches = AllByRecursion (λ c. IsRising (map (λ p. p.0) c.1)) caches

-- these are the contents after the changes, in the one order: caches by name, keys by bytes
pub record AreContentsAfter (changes : List Change) (caches : Caches) : Type 0 where
  pub names_rise : NamesRise caches
  pub keys_rise : KeysRise caches
  pub presence : (cache : List ℕ) → is_some (lookup (same cache) caches) ≡ is_present_after changes cache
  pub values : (cache key : List ℕ) → value_in caches cache key ≡ value_after changes cache key
