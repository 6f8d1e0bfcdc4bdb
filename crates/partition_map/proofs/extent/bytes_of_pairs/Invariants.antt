use Rattle.std.proofs.Common.{◌≡◌, ◌<◌, ◌^◌, take}
use Rattle.partition_map.specs.Extents.{pair_bytes}
use Rattle.partition_map.proofs.extent.bytes_of_pairs.Given as goal

abbrev pub invariant-loop-key : goal.invariant-loop-key
invariant-loop-key l = (l.bytes ≡ pair_bytes (take l.key-index l.pairs)) × (l.bytes < 2 ^ 62)
