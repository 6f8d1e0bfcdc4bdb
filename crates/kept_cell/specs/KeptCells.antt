-- A cell with the trail of what was asked of it.
use Rattle.std.specs.Prelude.{◌≡◌, ◌⊎◌, ℕ, ◌+◌, ◌^◌, length, Result, IsErrOf, Some, None, ◌↔◌}
use Rattle.cache_key.specs.declared.request.Mutation.{Mutation}
use Rattle.cache_key.specs.declared.request.Mutation.TheVariants.{Put, Remove, Ensure, Truncate, Destroy, Batch}
use Rattle.cache_key.specs.declared.request.Request.{Request}
use Rattle.cache_key.specs.declared.request.Request.TheVariants as requests
use Rattle.cache_model.specs.PlainList.{live, HasPairs}
use Rattle.cache_model.specs.Reply.{mutation_of, reply_after}
use Rattle.call_trail.specs.declared.entry.Entry.{Entry}
use Rattle.call_trail.specs.declared.entry.Receipt.{Receipt}
use Rattle.call_trail.specs.declared.refusal.CallRefusal.{CallRefusal}
use Rattle.call_trail.specs.declared.refusal.CallRefusal.TheVariants.{Suspended, Pinned, TrailFull, StoreFull, VersionEnd, Fault}
use Rattle.call_trail.specs.Trails.{Trail, trail_changes, most_entries}
use Rattle.partition_cell.specs.declared.moving.Moving.{Moving}
use Rattle.partition_cell.specs.Cells.{Cell, caches_of}
use Rattle.partition_cell.specs.Entered.{IsNotRenewed, IsNotEntered}
use Rattle.partition_cell.specs.Limits.{IsFit, IsFullFor}
use Rattle.slot_board.specs.Slots.{told_by}

pub record KeptCell (D : Type 0) : Type 0 where
  pub cell : Cell D
  pub trail : Trail

-- the entry that a receipt is of
abbrev pub entry_of : Receipt → Entry
entry_of receipt = record { client = receipt.client; number = receipt.number; request = receipt.request; reply = receipt.reply }

-- the receipt of this request after the trail
abbrev pub receipt_after : {D : Type 0} → KeptCell D → ℕ → ℕ → Request → Receipt
receipt_after kept client number request = record {
  partition = kept.cell.number.partition;
  place = length kept.trail.entries;
  client = client;
  number = number;
  request = request;
  reply = reply_after (trail_changes kept.trail.base kept.trail.entries) request;
}

-- a request that is no batch without pairs
abbrev pub IsAskable : Request → Type 0
IsAskable request = (mutation : Mutation) → mutation_of request ≡ Some mutation → HasPairs mutation

-- the request that a mutation is of
abbrev pub request_asking : Mutation → Request
request_asking (Put cache key value) = requests.Put cache key value
request_asking (Remove cache key) = requests.Remove cache key
request_asking (Ensure cache) = requests.Ensure cache
request_asking (Truncate cache) = requests.Truncate cache
request_asking (Destroy cache) = requests.Destroy cache
request_asking (Batch cache pairs) = requests.PutAll cache pairs

-- no disk was called: only the memory of the contents may have changed
abbrev pub IsReadied : {D : Type 0} → Cell D → Cell D → Type 0
IsReadied old new = new ≡ record old { maps = new.maps }

-- What a cell is after a mutation was refused: no disk was called, or the renewal or the commit was refused.
abbrev pub IsHeldBack : {D : Type 0} → Cell D → Cell D → ℕ → Mutation → Type 0
IsHeldBack old new epoch mutation = IsReadied old new ⊎ IsNotEntered old new epoch mutation

-- the same where nothing is put in flight
abbrev pub IsHeldEarly : {D : Type 0} → Cell D → Cell D → Type 0
IsHeldEarly old new = IsReadied old new ⊎ ((IsFit old → ⊥) × IsNotRenewed old new)

-- the trail has no room
abbrev pub HasFullTrail : {D : Type 0} → KeptCell D → Type 0
HasFullTrail kept = length kept.trail.entries ≡ most_entries

-- Why a read is refused: exactly where the trail is full, and out of memory.
pub record ReadCauses {D T : Type 0} (kept : KeptCell D) (result : Result T CallRefusal) : Type 0 where
  pub trail_full : IsErrOf result TrailFull ↔ HasFullTrail kept
  pub pinned : (to : ℕ) → ¬ IsErrOf result (Pinned to)
  pub store_full : (size : ℕ) → ¬ IsErrOf result (StoreFull size)
  pub version_end : ¬ IsErrOf result VersionEnd
  pub fault : (host : ℕ) → ¬ IsErrOf result (Fault host)
  pub suspended : (suspension : ℕ) → ¬ IsErrOf result (Suspended suspension)

-- Why a mutation is refused: in this order, the first four exactly there.
pub record ChangeCauses {D T : Type 0} (kept : KeptCell D) (mutation : Mutation) (result : Result T CallRefusal) : Type 0 where
  pub pinned : (to : ℕ) → IsErrOf result (Pinned to) ↔ ((moving : Moving) × (kept.cell.moving ≡ Some moving) × (moving.host ≡ to))
  pub trail_full : IsErrOf result TrailFull ↔ ((kept.cell.moving ≡ None) × HasFullTrail kept)
  pub store_full : (size : ℕ) → IsErrOf result (StoreFull size) ↔ ((kept.cell.moving ≡ None) × (HasFullTrail kept → ⊥) × (size ≡ live (caches_of kept.cell)) × IsFullFor kept.cell mutation)
  pub version_end : IsErrOf result VersionEnd ↔ ((kept.cell.moving ≡ None) × (HasFullTrail kept → ⊥) × (IsFullFor kept.cell mutation → ⊥) × (IsFit kept.cell → ⊥) × (told_by kept.cell.board + 1 ≡ 2 ^ 58))
  pub fault : (host : ℕ) → IsErrOf result (Fault host) → host ≡ kept.cell.owner
  pub suspended : (suspension : ℕ) → ¬ IsErrOf result (Suspended suspension)
