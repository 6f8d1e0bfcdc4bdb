-- What the changing calls of a disk make of one file.
use Rattle.std.specs.Prelude.{ℕ, ◌+◌, ◌-◌, ◌/◌, max, min, List, [], ◌∷◌, ◌++◌, length, take, drop, replicate, if◌then◌else◌, ◌==◌}
use Rattle.disk_trait.specs.CrashImage.{Range, IsImage}
use Rattle.disk_memory.specs.DiskCall.{DiskCall, WriteCall, CutCall, SyncCall, RestartCall}

-- a file since its last sync that succeeded
pub record FileState : Type 0 where
  -- what a read gives
  pub seen : List ℕ
  -- what a restart takes
  pub left : List ℕ
  -- what that sync made durable
  pub synced : List ℕ
  -- the least and the greatest length that a read saw since then
  pub least : ℕ
  pub greatest : ℕ
  -- where the writes since then wrote
  pub ranges : List Range

-- what a stop may leave of the file
abbrev pub MayBeLeft : FileState → List ℕ → Type 0
MayBeLeft state bytes = IsImage state.synced state.least state.greatest state.ranges bytes

-- bytes laid over a list, after zeros where it doesn't reach so far
abbrev pub laid : List ℕ → ℕ → List ℕ → List ℕ
laid bytes at more = take at bytes ++ replicate (at - length bytes) 0 ++ more ++ drop (at + length more) bytes

-- the same, where no byte leaves the list as it is
abbrev pub laid_if_any : List ℕ → ℕ → List ℕ → List ℕ
laid_if_any bytes at [] = bytes
laid_if_any bytes at (byte ∷ more) = laid bytes at (byte ∷ more)

-- the bytes of a pending write that a restart takes: by pick 1 all, by pick 2 as many of FF, else the first half
abbrev pub picked_bytes : ℕ → List ℕ → List ℕ
picked_bytes pick bytes = if pick == 1 then bytes else if pick == 2 then replicate (length bytes) 255 else take (length bytes / 2) bytes

-- nothing is pending
abbrev pub clean : List ℕ → FileState
clean bytes = record { seen = bytes; left = bytes; synced = bytes; least = length bytes; greatest = length bytes; ranges = [] }

abbrev pub after_write : ℕ → ℕ → List ℕ → FileState → FileState
after_write pick at bytes state = record {
  seen = laid state.seen at bytes;
  left = if pick == 0 then state.left else laid_if_any state.left at (picked_bytes pick bytes);
  synced = state.synced;
  least = min state.least (length (laid state.seen at bytes));
  greatest = max state.greatest (length (laid state.seen at bytes));
  ranges = record { at = at; count = length bytes } ∷ state.ranges;
}

abbrev pub after_cut : ℕ → ℕ → FileState → FileState
after_cut pick to state = record {
  seen = take to state.seen;
  left = if pick == 0 then state.left else take to state.left;
  synced = state.synced;
  least = min state.least (length (take to state.seen));
  greatest = max state.greatest (length (take to state.seen));
  ranges = state.ranges;
}

abbrev pub after_change : ℕ → ℕ → FileState → DiskCall → FileState
after_change pick f state (WriteCall file at bytes) = if file == f then after_write pick at bytes state else state
after_change pick f state (CutCall file to) = if file == f then after_cut pick to state else state
after_change pick f state (SyncCall file) = if file == f then clean state.seen else state
after_change pick f state RestartCall = clean state.left

abbrev pub replay : ℕ → ℕ → FileState → List DiskCall → FileState
replay pick f state [] = state
replay pick f state (change ∷ changes) = replay pick f (after_change pick f state change) changes

-- a file after these calls
abbrev pub file_after : ℕ → List DiskCall → ℕ → FileState
file_after pick changes f = replay pick f (clean []) changes

-- what a read gives, and what a restart takes, are images
pub record IsSound (state : FileState) : Type 0 where
  pub seen : MayBeLeft state state.seen
  pub left : MayBeLeft state state.left
