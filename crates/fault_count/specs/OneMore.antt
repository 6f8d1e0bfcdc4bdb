-- The next count.
use Rattle.std.specs.Prelude.{◌≡◌, ℕ, ◌+◌, ◌-◌, ◌^◌, min, max}

-- one more, up to the end of 64 bits, where the count stands still
abbrev pub one_more_than : ℕ → ℕ
one_more_than count = max count (min (count + 1) (2 ^ 64 - 1))

-- the count has risen by one
abbrev pub IsOneMore : ℕ → ℕ → Type 0
IsOneMore old new = new ≡ one_more_than old
