-- The first byte that can't stand in a name, in a key or in a value.
use Rattle.std.specs.Prelude.{ℕ, suc, ◌-◌, nat_lt, nat_le, Bool, true, false, ◌&&◌, ◌||◌, List, [], ◌∷◌, length, drop, Option, None, Some, if◌then◌else◌}
use Rattle.std.specs.Str.{is_utf8}
use Rattle.std.specs.Str.Lossy.{utf8_valid_len}
use Rattle.cache_key.specs.Names.{is_name_byte}

-- how many bytes of the alphabet of names stand at the beginning
unfoldable pub name_prefix_length : List ℕ → ℕ
name_prefix_length [] = 0
name_prefix_length (byte ∷ bytes) = if is_name_byte byte then suc (name_prefix_length bytes) else 0

-- the first byte that no name has
abbrev pub first_bad_in_name : ℕ → List ℕ → Option ℕ
first_bad_in_name count prefix = if nat_lt (name_prefix_length prefix) (length prefix) then Some (name_prefix_length prefix) else None

-- these bytes are UTF-8, and there is room for them
abbrev pub completes : List ℕ → ℕ → Bool
completes bytes room = nat_le (length bytes) room && is_utf8 bytes

-- These bytes, which begin with no whole character, may still begin one that has room in so many bytes: it is tried with the
-- least bytes that may follow.
abbrev pub may_continue : List ℕ → ℕ → Bool
may_continue [] room = true
may_continue (a ∷ []) room =
    completes (a ∷ 128 ∷ []) room
    || completes (a ∷ 128 ∷ 128 ∷ []) room || completes (a ∷ 160 ∷ 128 ∷ []) room
    || completes (a ∷ 128 ∷ 128 ∷ 128 ∷ []) room || completes (a ∷ 144 ∷ 128 ∷ 128 ∷ []) room
may_continue (a ∷ b ∷ []) room = completes (a ∷ b ∷ 128 ∷ []) room || completes (a ∷ b ∷ 128 ∷ 128 ∷ []) room
may_continue (a ∷ b ∷ c ∷ []) room = completes (a ∷ b ∷ c ∷ 128 ∷ []) room
may_continue (a ∷ b ∷ c ∷ d ∷ bytes) room = false

-- the first byte of what isn't UTF-8, and won't become so with any bytes that follow
abbrev pub first_bad_in_utf8 : ℕ → List ℕ → Option ℕ
first_bad_in_utf8 count prefix =
    let valid = utf8_valid_len prefix in
    if may_continue (drop valid prefix) (count - valid) then None else Some valid
