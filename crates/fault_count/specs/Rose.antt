-- A count that rises with each fault, and stands still at its type's end.
use Rattle.std.specs.Prelude.{ℕ, ◌-◌, ◌<◌, ◌^◌}

-- the count has risen, or stands at its end, where it counts as risen
abbrev pub Rose : ℕ → ℕ → Type 0
Rose old new = new < 2 ^ 64 - 1 → old < new
