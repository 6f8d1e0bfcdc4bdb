-- What a cell's store is after a call: the same one, perhaps longer, or one that was built anew.
use Rattle.std.specs.Prelude.{◌≡◌, ◌⊎◌, ℕ, ◌+◌, [], ◌∷◌, length, Some}
use Rattle.cache_key.specs.declared.request.Mutation.{Mutation}
use Rattle.cache_model.specs.PlainList.{live}
use Rattle.record_form.specs.GroupText.{tail_text}
use Rattle.slot_board.specs.Slots.{told_by}
use Rattle.store_ident.specs.declared.ident.StoreId.{StoreId}
use Rattle.partition_cell.specs.Cells.{Cell, caches_of}
use Rattle.partition_cell.specs.Limits.{IsFit}

-- the identifier of the next store, on this host and in this epoch
abbrev pub next_id : {D : Type 0} → Cell D → ℕ → ℕ → StoreId
next_id cell host epoch = record { partition = cell.number.partition; version = told_by cell.board + 1; epoch = epoch; host = host }

-- by how many bytes a commit of this mutation alone lengthens a store
abbrev pub record_length : Mutation → ℕ
record_length mutation = length (tail_text (mutation ∷ []))

-- the store was built anew of the contents, in the owner's other file, and got longer by so many bytes
pub record IsAnew {D : Type 0} (old new : Cell D) (epoch added : ℕ) : Type 0 where
  pub id : new.store.id ≡ next_id old old.owner epoch
  pub other : new.store.file + old.store.file ≡ 1
  pub end : new.store.end + 1 ≡ live (caches_of old) + added
  pub told : told_by new.board ≡ told_by old.board + 1

-- the store is the old one, longer by so many bytes, and what is known of the files is what was
pub record IsLonger {D : Type 0} (old new : Cell D) (added : ℕ) : Type 0 where
  pub owner : new.owner ≡ old.owner
  pub id : new.store.id ≡ old.store.id
  pub file : new.store.file ≡ old.store.file
  pub end : new.store.end ≡ old.store.end + added
  pub board : new.board ≡ old.board

-- The store is the one that a commit goes to, longer by so many bytes: the old one where the cell was fit, and only there; else
-- one that was built anew.
abbrev pub HasGrown : {D : Type 0} → Cell D → Cell D → ℕ → ℕ → Type 0
HasGrown old new epoch added = (IsFit old × IsLonger old new added) ⊎ ((IsFit old → ⊥) × IsAnew old new epoch added)

-- A renewal was refused: the store is the old one, and in flight is what was. Where its seal was refused its version was told.
pub record IsNotRenewed {D : Type 0} (old new : Cell D) : Type 0 where
  pub store : new.store ≡ old.store
  pub flight : new.flight ≡ old.flight
  pub told : (told_by new.board ≡ told_by old.board) ⊎ (told_by new.board ≡ told_by old.board + 1)

-- A mutation was refused: by its renewal; or by its commit, and then it is in flight.
abbrev pub IsNotEntered : {D : Type 0} → Cell D → Cell D → ℕ → Mutation → Type 0
IsNotEntered old new epoch mutation = ((IsFit old → ⊥) × IsNotRenewed old new) ⊎ (HasGrown old new epoch 0 × (new.flight ≡ Some mutation))
