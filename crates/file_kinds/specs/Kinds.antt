-- What every image of a file holds, by the file's kind.
use Rattle.std.specs.Prelude.{⊤, ◌≡◌, ◌⊎◌, ℕ, List, ◌++◌}
use Rattle.cache_key.specs.declared.request.Mutation.{Mutation}
use Rattle.cache_model.specs.Change.{Change, changes_of}
use Rattle.cache_model.specs.Contents.{SameContents}
use Rattle.record_form.specs.declared.header.Header.{Header}
use Rattle.seal_gate.specs.Seal.{IsShort, ButFirst}
use Rattle.slot_board.specs.declared.board.SlotKind.{SlotKind}
use Rattle.slot_board.specs.declared.board.SlotKind.TheVariants.{Empty, Blank, Stale, Doubt, Current, Unknown}
use Rattle.store_journal.specs.Created.{IsBlank}
use Rattle.store_journal.specs.Text.{IsStoreOf}

-- which partition, of how many
pub record PartitionNumber : Type 0 where
  pub partition : ℕ
  pub partitions : ℕ

-- these changes leave what the list leaves, or what the list and all that is in flight leave
abbrev pub IsListOr : List Change → List Change → List Change → Type 0
IsListOr changes flight found = SameContents found changes ⊎ SameContents found (changes ++ flight)

-- a sealed store of the partition, of this version
pub record IsVersion (number : PartitionNumber) (version : ℕ) (bytes : List ℕ) : Type 0 where
  pub header : Header
  pub mutations : List Mutation
  pub store : IsStoreOf header mutations bytes
  pub of_partition : header.id.partition ≡ number.partition
  pub of_partitions : header.partitions ≡ number.partitions
  pub as_told : header.id.version ≡ version

-- and it has the contents of the list, or of the list and what is in flight
pub record IsGood (number : PartitionNumber) (changes flight : List Change) (version : ℕ) (bytes : List ℕ) : Type 0 where
  pub whole : IsVersion number version bytes
  pub contents : IsListOr changes flight (changes_of whole.mutations)

-- The file may be sealed, and where it is it has P: its bytes after the first one are those of a text with P. Nothing is said
-- of the first byte: the write of one zero there may leave any byte, so a file that isn't sealed now may come out sealed.
pub record MaybeSealed (P : List ℕ → Type 0) (bytes : List ℕ) : Type 0 where
  pub text : List ℕ
  pub whole : P text
  pub rest : ButFirst text bytes

-- the file is as its kind says, in a partition with this list of changes and these in flight
abbrev pub IsOfKind : PartitionNumber → List Change → List Change → SlotKind → ℕ → List ℕ → Type 0
IsOfKind number changes flight Empty version bytes = IsShort bytes
IsOfKind number changes flight Blank version bytes = IsBlank bytes
IsOfKind number changes flight Stale version bytes = MaybeSealed (IsVersion number version) bytes
IsOfKind number changes flight Doubt version bytes = MaybeSealed (IsGood number changes flight version) bytes
IsOfKind number changes flight Current version bytes = IsGood number changes flight version bytes
IsOfKind number changes flight Unknown version bytes = ⊤

-- a store of the slot's version may be sealed there
abbrev pub MayCount : SlotKind → Type 0
MayCount Empty = ⊥
MayCount Blank = ⊥
MayCount Stale = ⊤
MayCount Doubt = ⊤
MayCount Current = ⊤
MayCount Unknown = ⊥
