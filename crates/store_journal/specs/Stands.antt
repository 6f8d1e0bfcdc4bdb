-- What the files of one partition stand for, together.
use Rattle.std.specs.Prelude.{◌≡◌, ◌⊎◌, ℕ, ◌+◌, ◌<◌, List, ◌∷◌, ◌++◌, All}
use Rattle.cache_key.specs.declared.request.Mutation.{Mutation}
use Rattle.cache_model.specs.Change.{Change, changes_of}
use Rattle.cache_model.specs.Contents.{SameContents}
use Rattle.byte_fields.specs.Numbers.{number_in}
use Rattle.record_form.specs.declared.header.Header.{Header}
use Rattle.record_form.specs.HeaderText.{version_offset}
use Rattle.seal_gate.specs.Seal.{IsSealed}
use Rattle.store_journal.specs.Text.{header_start, IsStoreOf}

-- the version in the header of a store, whatever the other bytes are
abbrev pub version_in : List ℕ → ℕ
version_in bytes = number_in bytes (header_start + version_offset) 8

-- a file that isn't sealed, or whose version is less
abbrev pub IsOlder : ℕ → List ℕ → Type 0
IsOlder version bytes = IsSealed bytes → version_in bytes < version

-- The list holds the bytes of files: those in which the stores of one partition may stand, on each host that counts, as
-- a read or a stop shows them at one moment. They stand for these changes where exactly one sealed file has the greatest
-- version, and where that file is a store of this partition, in a site of so many partitions, whose mutations leave the
-- same contents as the changes do. Nothing is asked of the other files but that they are older or not sealed.
pub record StandsFor (files : List (List ℕ)) (partition partitions : ℕ) (changes : List Change) : Type 0 where
  -- the newest file, by its offset in the list
  pub before : List (List ℕ)
  pub newest : List ℕ
  pub after : List (List ℕ)
  pub offset : files ≡ before ++ newest ∷ after
  pub others_before : All (IsOlder (version_in newest)) before
  pub others_after : All (IsOlder (version_in newest)) after
  -- what it is a store of
  pub header : Header
  pub mutations : List Mutation
  pub store : IsStoreOf header mutations newest
  pub of_partition : header.id.partition ≡ partition
  pub of_partitions : header.partitions ≡ partitions
  pub contents : SameContents (changes_of mutations) changes

-- The files stand for these changes, or for these and all that is in flight: what a client was told is there, and what it
-- wasn't told is there whole or not at all.
abbrev pub Survives : List (List ℕ) → ℕ → ℕ → List Change → List Change → Type 0
Survives files partition partitions changes flight =
    StandsFor files partition partitions changes ⊎ StandsFor files partition partitions (changes ++ flight)
