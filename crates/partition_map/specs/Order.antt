-- In which order a list of changes makes caches present for the first time.
use Rattle.std.specs.Prelude.{ℕ, List, [], ◌∷◌, ◌++◌, reverse, position, Bool, true, false, Option, None, if◌then◌else◌}
use Rattle.std.specs.List.{list_any}
use Rattle.std.specs.Map.{keys_of}
use Rattle.cache_model.specs.Caches.{same}
use Rattle.cache_model.specs.Change.{Change, put, remove, ensure, truncate, destroy, batch, reset}
use Rattle.cache_model.specs.Contents.{is_present_after}

-- the cache of a change of one cache
abbrev pub cache_changed : Change → List ℕ
cache_changed (put c k v) = c
cache_changed (remove c k) = c
cache_changed (ensure c) = c
cache_changed (truncate c) = c
cache_changed (destroy c) = c
cache_changed (batch c pairs) = c
cache_changed (reset caches) = []

-- whether a change of one cache makes it present
abbrev pub brings : Change → Bool
brings (put c k v) = true
brings (remove c k) = false
brings (ensure c) = true
brings (truncate c) = false
brings (destroy c) = false
brings (batch c pairs) = true
brings (reset caches) = false

-- the names with this one, which goes last where it is new
abbrev pub with_name : List (List ℕ) → List ℕ → List (List ℕ)
with_name names name = if list_any (same name) names then names else names ++ name ∷ []

-- the names with each of these, one after the other
abbrev pub with_names : List (List ℕ) → List (List ℕ) → List (List ℕ)
with_names names [] = names
with_names names (name ∷ others) = with_names (with_name names name) others

-- the caches that a change makes present, in their order
abbrev pub names_brought : Change → List (List ℕ)
names_brought (put c k v) = c ∷ []
names_brought (remove c k) = []
names_brought (ensure c) = c ∷ []
names_brought (truncate c) = []
names_brought (destroy c) = []
names_brought (batch c pairs) = c ∷ []
names_brought (reset caches) = keys_of caches

-- the caches that the changes, the newest first, made present, in the order of the first times
abbrev pub order_looking_back : List Change → List (List ℕ)
order_looking_back [] = []
order_looking_back (newest ∷ older) = with_names (order_looking_back older) (names_brought newest)

-- the same of changes in their order, the oldest first
abbrev pub order_after : List Change → List (List ℕ)
order_after changes = order_looking_back (reverse changes)

-- of a cache that is there, how many others the changes made present for the first time before it
abbrev pub extent_number : List Change → List ℕ → Option ℕ
extent_number changes cache = if is_present_after changes cache then position (same cache) (order_after changes) else None
