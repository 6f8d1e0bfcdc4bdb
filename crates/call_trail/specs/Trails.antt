-- What was asked of a partition, and what it replied.
use Rattle.std.specs.Prelude.{◌≡◌, ℕ, List, ◌∷◌, take, slice_get, Some}
use Rattle.std.specs.List.{flat_map}
use Rattle.cache_model.specs.Caches.{Caches}
use Rattle.cache_model.specs.Change.{Change, reset}
use Rattle.cache_model.specs.Reply.{changes_asked, reply_after}
use Rattle.call_trail.specs.declared.entry.Entry.{Entry}

-- a trail as contracts see it: the contents that it begins with, the requests since then with their replies, the oldest first,
-- and for how many more there is room
pub record Trail : Type 0 where
  pub base : Caches
  pub entries : List Entry
  pub room : ℕ

-- what the requests of these entries changed, in their order
abbrev pub changes_of_entries : List Entry → List Change
changes_of_entries entries = flat_map (λ entry. changes_asked entry.request) entries

-- the changes of a trail: its base in place of all, and what its entries changed since
abbrev pub trail_changes : Caches → List Entry → List Change
trail_changes base entries = reset base ∷ changes_of_entries entries

-- each reply is the one after the base and the entries before it
abbrev pub IsLegal : Caches → List Entry → Type 0
IsLegal base entries = (k : ℕ) (entry : Entry) → slice_get entries k ≡ Some entry → entry.reply ≡ reply_after (trail_changes base (take k entries)) entry.request

-- the most entries of a trail: 2^20
abbrev pub most_entries : ℕ
most_entries = 1048576
