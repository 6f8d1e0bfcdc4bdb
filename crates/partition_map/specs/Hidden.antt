-- Which places are hidden: those that were made ready last, and no others.
use Rattle.std.specs.Prelude.{◌≡◌, ℕ, List, [], ◌∷◌, Bool, true, false, Option, None, Some, if◌then◌else◌}
use Rattle.std.specs.Map.{lookup, keys_of}
use Rattle.cache_model.specs.Caches.{same}
use Rattle.cache_model.specs.Change.{Change, put, remove, ensure, truncate, destroy, batch, reset}
use Rattle.partition_map.specs.declared.extent.Extent.{Extent}
use Rattle.partition_map.specs.declared.readied.Readied.{Readied}
use Rattle.partition_map.specs.Extents.{Extents}
use Rattle.partition_map.specs.Place.{HidesOnly}

-- the keys that a change puts
abbrev pub keys_put : Change → List (List ℕ)
keys_put (put c k v) = k ∷ []
keys_put (remove c k) = []
keys_put (ensure c) = []
keys_put (truncate c) = []
keys_put (destroy c) = []
keys_put (batch c pairs) = keys_of pairs
keys_put (reset caches) = []

-- of an extent, if there is one: its cache is there, or may be absent; and only places of these keys are hidden
abbrev pub HidesHere : Bool → List (List ℕ) → Option Extent → Type 0
HidesHere may_be_absent keys None = Unit {0}
HidesHere may_be_absent keys (Some extent) = (extent.present ≡ false → may_be_absent ≡ true) × HidesOnly keys extent.places

-- every extent is of a cache that is there, and has no hidden place
abbrev pub HideNothing : Extents → Type 0
HideNothing extents = (cache : List ℕ) → HidesHere false [] (lookup (same cache) extents)

-- the same, but for this cache and these keys of it
abbrev pub HideOnlyOf : List ℕ → List (List ℕ) → Extents → Type 0
HideOnlyOf readied keys extents = (cache : List ℕ) → HidesHere (same readied cache) (if same readied cache then keys else []) (lookup (same cache) extents)

-- the same, but for what was made ready last
abbrev pub AreHiddenBy : Option Readied → Extents → Type 0
AreHiddenBy None extents = HideNothing extents
AreHiddenBy (Some readied) extents = HideOnlyOf readied.cache readied.keys.items extents

-- the extent, if its cache is there
abbrev pub if_there : Option Extent → Option Extent
if_there None = None
if_there (Some extent) = if extent.present then Some extent else None

-- the extent of the cache is gone if the cache isn't there, and all else stays
abbrev pub IsLeftThere : List ℕ → Extents → Extents → Type 0
IsLeftThere cache old new = (other : List ℕ) → lookup (same other) new ≡ (if same cache other then if_there (lookup (same other) old) else lookup (same other) old)
