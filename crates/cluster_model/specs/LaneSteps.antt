-- How one file of a lane changes, from one image to the next, and what the lane then stands for.
use Rattle.std.specs.Prelude.{◌≡◌, ◌⊎◌, ℕ, ◌<◌, ◌≤◌, List, [], ◌∷◌, Contains}
use Rattle.disk_lane.specs.Lanes.{LaneImage}
use Rattle.seal_gate.specs.Seal.{IsSealed, ButFirst}
use Rattle.store_journal.specs.Created.{IsUnsealed}
use Rattle.store_journal.specs.Stands.{version_in}
use Rattle.cluster_model.specs.Lane.{HostedStore, LaneStanding, choices}

-- ---- what it stands for

-- it stands for this store, and a stop shows no other
abbrev pub standing_for : HostedStore → LaneStanding
standing_for store = record { store = store; perhaps = [] }

-- a stop may show this store too
abbrev pub with_doubt : LaneStanding → HostedStore → LaneStanding
with_doubt standing other = record { store = standing.store; perhaps = other ∷ standing.perhaps }

-- ---- the file

-- of files 0 and 1 of each host this one may have changed, and no other
abbrev pub ChangesOne : ℕ → ℕ → LaneImage → LaneImage → Type 0
ChangesOne host file old new = (h f : ℕ) → f ≤ 1 → ((h ≡ host) × (f ≡ file)) ⊎ (new h f ≡ old h f)

-- what a stop may leave of a file that is erased: it isn't sealed now, or was sealed and is so with all bytes but the first
abbrev pub IsErasedFrom : List ℕ → List ℕ → Type 0
IsErasedFrom old new = IsUnsealed new ⊎ (IsSealed old × IsSealed new × ButFirst old new)

-- this file isn't the one that commits go to
abbrev pub IsAside : ℕ → ℕ → LaneStanding → ℕ → Type 0
IsAside host file standing current = ((standing.store.host ≡ host) × (current ≡ file)) → ⊥

-- where this file's version is from the current one on, no other sealed file has it
abbrev pub IsApart : List ℕ → LaneStanding → LaneImage → ℕ → ℕ → List ℕ → Type 0
IsApart recorded standing old host file bytes =
    IsSealed bytes → standing.store.id.version ≤ version_in bytes → (h f : ℕ) → Contains recorded h → f ≤ 1 → IsSealed (old h f) → version_in (old h f) ≡ version_in bytes → (h ≡ host) × (f ≡ file)

-- ---- the store

-- the store is newer than each that may be found
abbrev pub IsNewerThanAll : HostedStore → LaneStanding → Type 0
IsNewerThanAll store standing = (other : HostedStore) → Contains (choices standing) other → other.id.version < store.id.version

-- it differs in its changes alone, and in the offset of its gate
pub record IsMore (store more : HostedStore) : Type 0 where
  pub host : more.host ≡ store.host
  pub id : more.id ≡ store.id
