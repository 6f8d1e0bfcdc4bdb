use Rattle.std.proofs.Common.{length, drop, ◌-◌, ◌≡◌, ◌+◌}
use Rattle.record_form.specs.Characters.{name_prefix_length}
use Rattle.roster_form.proofs.names.name_prefix_length.Given as goal

-- what was counted, and how long the prefix of the rest is
abbrev pub invariant-loop-count : goal.invariant-loop-count
invariant-loop-count l = l.count + name_prefix_length (drop l.count l.bytes) ≡ name_prefix_length l.bytes

abbrev pub decreases-loop-count : goal.decreases-loop-count
decreases-loop-count l = length l.bytes - l.count
