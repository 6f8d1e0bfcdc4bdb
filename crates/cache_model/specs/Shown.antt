-- The caches that a map of maps holds, in its order.
use Rattle.std.specs.Prelude.{ℕ, List, map}
use Rattle.std.specs.BTreeMap.{BTreeMap}
use Rattle.cache_model.specs.Caches.{Caches}

abbrev pub caches_shown : BTreeMap (List ℕ) (BTreeMap (List ℕ) (List ℕ)) → Caches
caches_shown caches = map (λ entry. (entry.0, entry.1.entries)) caches.entries
