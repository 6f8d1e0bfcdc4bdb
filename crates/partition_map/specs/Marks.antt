-- The names that have numbers are marked: the cache is there, or isn't.
use Rattle.std.specs.Prelude.{◌≡◌, ℕ, List, Bool, false, unwrap_or, if◌then◌else◌}
use Rattle.std.specs.Map.{lookup}
use Rattle.cache_model.specs.Caches.{same}
use Rattle.partition_map.specs.Extents.{Extents, presence_held}

-- the names in the order of their numbers, each with its mark
abbrev pub Marks : Type 0
Marks = List (List ℕ × Bool)

-- whether the cache has a number, and is marked as there
abbrev pub is_marked : Marks → List ℕ → Bool
is_marked marks cache = unwrap_or (lookup (same cache) marks) false

-- just the caches that are there are marked so
abbrev pub AreMarked : Marks → Extents → Type 0
AreMarked marks extents = (cache : List ℕ) → is_marked marks cache ≡ presence_held (lookup (same cache) extents)

-- the cache is marked so now, and no other mark changed
abbrev pub AreRemarked : List ℕ → Bool → Marks → Marks → Type 0
AreRemarked cache is_present old new = (other : List ℕ) → is_marked new other ≡ (if same cache other then is_present else is_marked old other)
