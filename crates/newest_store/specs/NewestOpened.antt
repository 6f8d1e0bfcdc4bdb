-- What the newest store of a partition has, once it is opened.
use Rattle.std.specs.Prelude.{◌≡◌, ℕ, List}
use Rattle.cache_key.specs.declared.request.Mutation.{Mutation}
use Rattle.cache_model.specs.Change.{Change, changes_of}
use Rattle.disk_trait.specs.View.{View, Tells}
use Rattle.disk_trait.specs.Moments.{Now}
use Rattle.store_ident.specs.declared.ident.StoreId.{StoreId}
use Rattle.store_journal.specs.declared.store.Store.{Store}
use Rattle.newest_store.specs.Newest.{HasStore, IsNewestStore, IsOpened}

-- From the disk before to the disk after, the store was opened, with these mutations.
pub record IsNewestOpened (old new : View) (partition partitions : ℕ) (store : Store) (mutations : List Mutation) : Type 0 where
  -- one store is left, whatever the other file held
  pub opened : IsOpened new partition partitions store mutations
  -- it is the newest, with exactly what its file had
  pub read : Tells old → IsNewestStore partition partitions store mutations old.seen
  -- files that had a store have given that
  pub contents : (file : ℕ) (id : StoreId) (changes : List Change) → Now old (HasStore partition partitions file id changes) → Tells old
      → (store.file ≡ file) × (store.id ≡ id) × (changes_of mutations ≡ changes)
