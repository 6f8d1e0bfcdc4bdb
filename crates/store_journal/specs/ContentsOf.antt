-- The contents of a list of mutations, kept in a map.
use Rattle.std.specs.Prelude.{List}
use Rattle.cache_key.specs.declared.request.Mutation.{Mutation}
use Rattle.cache_model.specs.Change.{changes_of}
use Rattle.partition_map.specs.After.{Maps, AgreesWith}

-- the map holds the contents after some mutations, of which this is so
pub record HasContentsOf (is : List Mutation → Type 0) (maps : Maps) : Type 0 where
  pub mutations : List Mutation
  pub so : is mutations
  pub agrees : AgreesWith (changes_of mutations) maps
