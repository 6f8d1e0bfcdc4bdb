-- What a stop may leave of one file since its last sync that succeeded.
use Rattle.std.specs.Prelude.{⊤, ◌≡◌, ◌⊎◌, ℕ, ◌+◌, ◌<◌, ◌≤◌, min, max, List, [], ◌∷◌, length, slice_index}
use Rattle.std.specs.List.{AllByRecursion}
use Rattle.disk_trait.specs.View.{Image, View}
use Rattle.disk_trait.specs.Calls.{Torn, Shorn}

-- so many bytes from an offset on
pub record Range : Type 0 where
  pub at : ℕ
  pub count : ℕ

-- the offset lies before the range or after it
abbrev pub IsOutside : ℕ → Range → Type 0
IsOutside offset range = (offset < range.at) ⊎ (range.at + range.count ≤ offset)

-- An image of a file: its length lies between these two, and a byte outside every range, below the least length, is
-- the one that was synced. Nothing is said of any other byte.
pub record IsImage (synced : List ℕ) (least greatest : ℕ) (ranges : List Range) (image : List ℕ) : Type 0 where
  pub no_shorter : least ≤ length image
  pub no_longer : length image ≤ greatest
  pub stays : (offset : ℕ) → offset < least → AllByRecursion (IsOutside offset) ranges → slice_index image offset ≡ slice_index synced offset

-- A call that changes a file: a write of so many bytes at an offset, or a cut to a length. One that failed counts too.
pub data FileChange : Type 0 where
  Wrote : ℕ → ℕ → FileChange
  CutTo : ℕ → FileChange

-- what the call may make of an image of the file
abbrev pub Makes : FileChange → List ℕ → List ℕ → Type 0
Makes (Wrote at count) old new = Torn at count old new
Makes (CutTo to) old new = Shorn to old new

-- these calls, the newest first, may make this image of what was synced before them
abbrev pub MayLeave : List FileChange → List ℕ → List ℕ → Type 0
MayLeave [] synced image = image ≡ synced
MayLeave (newest ∷ older) synced image = (before : List ℕ) × MayLeave older synced before × Makes newest before image

-- the length that a read sees after the call
abbrev pub length_after : FileChange → ℕ → ℕ
length_after (Wrote at count) before = max before (at + count)
length_after (CutTo to) before = min before to

-- the length that a read sees after these calls, the newest first, on a file of that length
abbrev pub seen_length : List FileChange → ℕ → ℕ
seen_length [] synced = synced
seen_length (newest ∷ older) synced = length_after newest (seen_length older synced)

-- the least length that a read saw, from before these calls on
abbrev pub least_length : List FileChange → ℕ → ℕ
least_length [] synced = synced
least_length (newest ∷ older) synced = min (seen_length (newest ∷ older) synced) (least_length older synced)

-- the greatest length that a read saw, from before these calls on
abbrev pub greatest_length : List FileChange → ℕ → ℕ
greatest_length [] synced = synced
greatest_length (newest ∷ older) synced = max (seen_length (newest ∷ older) synced) (greatest_length older synced)

-- each write began at most at the length that a read saw then
abbrev pub IsWithoutGap : List FileChange → ℕ → Type 0
IsWithoutGap [] synced = ⊤
IsWithoutGap (Wrote at count ∷ older) synced = (at ≤ seen_length older synced) × IsWithoutGap older synced
IsWithoutGap (CutTo to ∷ older) synced = IsWithoutGap older synced

-- where these calls wrote
abbrev pub written_ranges : List FileChange → List Range
written_ranges [] = []
written_ranges (Wrote at count ∷ older) = record { at = at; count = count } ∷ written_ranges older
written_ranges (CutTo to ∷ older) = written_ranges older

-- since this file's last sync that succeeded, with these bytes, there were these calls on it and no others
abbrev pub IsPending : View → ℕ → List ℕ → List FileChange → Type 0
IsPending v file synced changes = (m : Image) → v.images m → MayLeave changes synced (m file)

-- an image in terms of the calls since the sync
abbrev pub IsImageAfter : List FileChange → List ℕ → List ℕ → Type 0
IsImageAfter changes synced image =
    IsImage synced (least_length changes (length synced)) (greatest_length changes (length synced)) (written_ranges changes) image
