use Rattle.std.proofs.Common.{[]}
use Rattle.store_runs.proofs.one_store.make.Goals as goal

-- an untold disk has no image
pub append-requires-clause-at_rest : goal.append-requires-clause-at_rest
append-requires-clause-at_rest g c = (record { id = record { partition = 0; version = 1; epoch = 1; host = 0 }; partitions = 1 }, [], λ m none. absurd none)
