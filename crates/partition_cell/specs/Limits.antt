-- When a cell is to be built anew, and when a mutation finds no room.
use Rattle.std.specs.Prelude.{⊤, ℕ, ◌+◌, ◌*◌, ◌<◌, ◌≤◌}
use Rattle.cache_key.specs.declared.request.Mutation.{Mutation}
use Rattle.cache_key.specs.declared.request.Mutation.TheVariants.{Put, Remove, Ensure, Truncate, Destroy, Batch}
use Rattle.cache_model.specs.PlainList.{live, growth_of}
use Rattle.partition_cell.specs.Cells.{Cell, caches_of, IsSoundCell}

-- how long a store may be beside twice the length that its contents need
abbrev pub spare_length : ℕ
spare_length = 65536

-- the longest store of the contents that a mutation may lead to: 64 MiB
abbrev pub most_live : ℕ
most_live = 67108864

-- the store takes a commit as it is
pub record IsFit {D : Type 0} (cell : Cell D) : Type 0 where
  pub sound : IsSoundCell cell
  pub short : cell.store.end ≤ 2 * live (caches_of cell) + spare_length

-- the mutation may lengthen a store of the contents
abbrev pub TakesRoom : Mutation → Type 0
TakesRoom (Put cache key value) = ⊤
TakesRoom (Remove cache key) = ⊥
TakesRoom (Ensure cache) = ⊤
TakesRoom (Truncate cache) = ⊥
TakesRoom (Destroy cache) = ⊥
TakesRoom (Batch cache pairs) = ⊤

-- and finds no room
pub record IsFullFor {D : Type 0} (cell : Cell D) (mutation : Mutation) : Type 0 where
  pub takes : TakesRoom mutation
  pub past : most_live < live (caches_of cell) + growth_of mutation
