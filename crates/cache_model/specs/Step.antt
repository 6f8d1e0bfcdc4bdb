-- One more change of the contents, seen by its look-ups.
use Rattle.std.specs.Prelude.{◌≡◌, ℕ, List, Option, is_some, if◌then◌else◌}
use Rattle.std.specs.Map.{lookup}
use Rattle.cache_model.specs.Caches.{same, Pairs, Caches, value_in}
use Rattle.cache_model.specs.Change.{Change, writes, value_left, rules, presence_left}
use Rattle.cache_model.specs.Contents.{NamesRise, KeysRise}

-- the new contents are the old ones with these pairs as the cache's; with none the cache isn't there
pub record IsReplaced (cache : List ℕ) (pairs : Option Pairs) (old new : Caches) : Type 0 where
  pub names_rise : NamesRise old → NamesRise new
  pub keys_rise : KeysRise old → KeysRise new
  pub caches : (other : List ℕ) → lookup (same other) new ≡ (if same cache other then pairs else lookup (same other) old)

-- the new contents are the old ones after the change: what it doesn't write stays
pub record IsChangedBy (change : Change) (old new : Caches) : Type 0 where
  pub names_rise : NamesRise old → NamesRise new
  pub keys_rise : KeysRise old → KeysRise new
  pub presence : (cache : List ℕ) → is_some (lookup (same cache) new) ≡ (if rules change cache then presence_left change cache else is_some (lookup (same cache) old))
  pub values : (cache key : List ℕ) → value_in new cache key ≡ (if writes change cache key then value_left change cache key else value_in old cache key)
