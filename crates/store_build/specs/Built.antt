-- The bytes of a store that is being built.
use Rattle.std.specs.Prelude.{◌≡◌, ℕ, List, [], ◌∷◌, ◌++◌, Bool, true, if◌then◌else◌}
use Rattle.std.specs.List.{flat_map, AllByRecursion}
use Rattle.byte_fields.specs.Counted.{counted32_text}
use Rattle.cache_key.specs.declared.request.Mutation.{Mutation}
use Rattle.cache_model.specs.Caches.{Caches}
use Rattle.cache_model.specs.PlainList.{plain_list}
use Rattle.disk_trait.specs.View.{View, Tells}
use Rattle.partition_map.specs.Items.{items_after}
use Rattle.record_form.specs.declared.header.Header.{Header}
use Rattle.record_form.specs.HeaderText.{IsHeader, header_text}
use Rattle.record_form.specs.GroupText.{IsGroup, group_text}
use Rattle.seal_gate.specs.Seal.{Each}
use Rattle.store_journal.specs.Created.{IsBlank}
use Rattle.store_journal.specs.Text.{end_of}
use Rattle.store_build.specs.Batches.{AreBatches}
use Rattle.store_build.specs.declared.build.Build.{Build}

-- an open gate, and the group's spelling after its length
abbrev pub record_text : List Mutation → List ℕ
record_text group = 1 ∷ counted32_text (group_text group)

-- after a first byte of zero: the header, the records of these groups, and perhaps a closed gate
abbrev pub built_text : Header → List (List Mutation) → Bool → List ℕ
built_text header groups whole = 0 ∷ (header_text header ++ flat_map record_text groups ++ (if whole then 0 ∷ [] else []))

-- Of the plain list of these contents the first batches are written, and what a read gives says so; in no image is the file
-- sealed. A whole build has all of them, and the closed gate.
pub record IsBuilding (v : View) (build : Build) (header : Header) (caches : Caches) : Type 0 where
  pub batches : List (List Mutation)
  pub cut : AreBatches (plain_list caches) batches (items_after build.last caches)
  pub limits : AllByRecursion IsGroup batches
  pub of_header : IsHeader header
  pub named : build.id ≡ header.id
  pub there : build.end ≡ end_of batches
  pub all : build.whole ≡ true → items_after build.last caches ≡ []
  pub blank : Each v build.file IsBlank
  pub seen : Tells v → v.seen build.file ≡ built_text header batches build.whole

-- Every image of the file is the store of these contents in whole batches but for its first byte, which is zero. The closed
-- gate stands at `end`.
pub record IsBuilt (v : View) (file : ℕ) (header : Header) (caches : Caches) (end : ℕ) : Type 0 where
  pub batches : List (List Mutation)
  pub cut : AreBatches (plain_list caches) batches []
  pub limits : AllByRecursion IsGroup batches
  pub of_header : IsHeader header
  pub there : end ≡ end_of batches
  pub each : Each v file (λ bytes. bytes ≡ built_text header batches true)
