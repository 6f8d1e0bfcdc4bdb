-- What a request changes, and what it is replied after a list of changes, as if there were one client.
use Rattle.std.specs.Prelude.{List, [], ◌∷◌, Option, Some, None}
use Rattle.cache_key.specs.declared.request.Mutation.{Mutation}
use Rattle.cache_key.specs.declared.request.Mutation.TheVariants as mutations
use Rattle.cache_key.specs.declared.request.Request.{Request}
use Rattle.cache_key.specs.declared.request.Request.TheVariants.{Get, Put, Remove, Ensure, Truncate, Destroy, PutAll, Size}
use Rattle.cache_key.specs.declared.request.Reply.{Reply}
use Rattle.cache_key.specs.declared.request.Reply.TheVariants.{Value, Count, Done}
use Rattle.cache_model.specs.Change.{Change, change_of}
use Rattle.cache_model.specs.Contents.{value_after}
use Rattle.cache_model.specs.Size.{size_after}

-- the mutation that a request is: a get and a size are none, and every other request is one, also where it changes nothing
abbrev pub mutation_of : Request → Option Mutation
mutation_of (Get cache key) = None
mutation_of (Put cache key value) = Some (mutations.Put cache key value)
mutation_of (Remove cache key) = Some (mutations.Remove cache key)
mutation_of (Ensure cache) = Some (mutations.Ensure cache)
mutation_of (Truncate cache) = Some (mutations.Truncate cache)
mutation_of (Destroy cache) = Some (mutations.Destroy cache)
mutation_of (PutAll cache pairs) = Some (mutations.Batch cache pairs)
mutation_of (Size cache) = None

-- the changes of one mutation or none
abbrev pub changes_in : Option Mutation → List Change
changes_in None = []
changes_in (Some mutation) = change_of mutation ∷ []

-- what a request changes: one change or none
abbrev pub changes_asked : Request → List Change
changes_asked request = changes_in (mutation_of request)

-- a get, a put and a remove reply what stood at the key, and a size how many keys had a value
abbrev pub reply_after : List Change → Request → Reply
reply_after changes (Get cache key) = Value (value_after changes cache key)
reply_after changes (Put cache key value) = Value (value_after changes cache key)
reply_after changes (Remove cache key) = Value (value_after changes cache key)
reply_after changes (Ensure cache) = Done
reply_after changes (Truncate cache) = Done
reply_after changes (Destroy cache) = Done
reply_after changes (PutAll cache pairs) = Done
reply_after changes (Size cache) = Count (size_after changes cache)
