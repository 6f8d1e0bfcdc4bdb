-- A store as each image has it.
use Rattle.std.specs.Prelude.{◌≡◌, ◌⊎◌, ℕ, List, [], ◌∷◌, ◌++◌}
use Rattle.disk_trait.specs.View.{View}
use Rattle.cache_key.specs.declared.request.Mutation.{Mutation}
use Rattle.record_form.specs.declared.header.Header.{Header}
use Rattle.seal_gate.specs.Seal.{Each}
use Rattle.store_journal.specs.Text.{IsText, end_of}
use Rattle.store_journal.specs.declared.store.Store.{Store}

-- the file has this store's header and these groups, and its closed gate where the store says
pub record IsKeptIn (store : Store) (header : Header) (groups : List (List Mutation)) (bytes : List ℕ) : Type 0 where
  pub text : IsText header groups bytes
  pub gate : store.end ≡ end_of groups
  pub named : store.id ≡ header.id

-- so it stands in each image
abbrev pub AtRest : View → Store → Header → List (List Mutation) → Type 0
AtRest v store header groups = Each v store.file (IsKeptIn store header groups)

-- the old groups, or these and one more
abbrev pub OldOrNew : Header → List (List Mutation) → List Mutation → List ℕ → Type 0
OldOrNew header groups group bytes = IsText header groups bytes ⊎ IsText header (groups ++ group ∷ []) bytes
