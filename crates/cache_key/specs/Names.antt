-- The limits of names, keys, values and lists of pairs, over their bytes.
use Rattle.std.specs.Prelude.{◌≡◌, ℕ, ◌<◌, ◌≤◌, ◌==◌, nat_le, Bool, false, ◌&&◌, ◌||◌, IsTrue, List, length, slice_index, All}
use Rattle.std.specs.Str.{IsUtf8}

-- the most bytes of the name of a cache, a host or a snapshot
abbrev pub most_name_bytes : ℕ
most_name_bytes = 64

-- the most bytes of a key
abbrev pub most_key_bytes : ℕ
most_key_bytes = 1024

-- the most bytes of a value
abbrev pub most_value_bytes : ℕ
most_value_bytes = 65536

-- the most pairs of a list
abbrev pub most_pairs : ℕ
most_pairs = 64

-- the byte is one from the first to the last
abbrev pub is_between : ℕ → ℕ → ℕ → Bool
is_between first last byte = nat_le first byte && nat_le byte last

-- a letter, a digit, or one of `_`, `.` and `-`
abbrev pub is_name_byte : ℕ → Bool
is_name_byte byte = is_between 65 90 byte || is_between 97 122 byte || is_between 48 57 byte || byte == 95 || byte == 46 || byte == 45

-- the byte is in the alphabet of names
abbrev pub IsNameByte : ℕ → Type 0
IsNameByte byte = IsTrue (is_name_byte byte)

-- the bytes of a cache's, a host's or a snapshot's name
pub record IsName (bytes : List ℕ) : Type 0 where
  pub least : 1 ≤ length bytes
  pub most : length bytes ≤ most_name_bytes
  pub alphabet : All IsNameByte bytes

-- the bytes of a key
pub record IsKey (bytes : List ℕ) : Type 0 where
  pub least : 1 ≤ length bytes
  pub most : length bytes ≤ most_key_bytes
  pub utf8 : IsUtf8 bytes

-- the bytes of a value
pub record IsValue (bytes : List ℕ) : Type 0 where
  pub most : length bytes ≤ most_value_bytes
  pub utf8 : IsUtf8 bytes

-- a key and its value
abbrev pub IsPair : List ℕ × List ℕ → Type 0
IsPair pair = IsKey pair.0 × IsValue pair.1

-- the first byte outside the alphabet of names stands at this offset, from 0
pub record IsFirstBadByte (bytes : List ℕ) (at : ℕ) : Type 0 where
  pub within : at < length bytes
  pub bad : is_name_byte (slice_index bytes at) ≡ false
  pub before : (offset : ℕ) → offset < at → IsNameByte (slice_index bytes offset)

-- the text is not too long for a name, and its first bad byte stands at this offset
abbrev pub IsSpoiltAt : List ℕ → ℕ → Type 0
IsSpoiltAt bytes at = (length bytes ≤ most_name_bytes) × IsFirstBadByte bytes at
