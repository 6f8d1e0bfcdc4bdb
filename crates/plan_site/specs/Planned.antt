-- The disk in memory that the words plan.
use Rattle.std.specs.Prelude.{ℕ, [], Option}
use Rattle.disk_memory.specs.History.{History}

-- a disk in memory before its first call, where this call fails with all later ones, and a restart takes this image
abbrev pub cut_history : Option ℕ → ℕ → History
cut_history cut pick = record { pick = pick; fail = []; fail_reads = []; fuse = cut; changes = []; made = 0; read = 0; faults = 0 }
