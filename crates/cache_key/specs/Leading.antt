-- What the first sixteen bytes of a text spell, as two numbers.
use Rattle.std.specs.Prelude.{◌≡◌, ℕ, zero, suc, ◌+◌, ◌*◌, ◌<◌, List, [], ◌∷◌, drop, slice_index_or}
use Rattle.cache_key.specs.declared.leading.Leading.{Leading}

-- what so many bytes spell after a number, the highest first; a byte past the end is 0
abbrev pub spelt : ℕ → ℕ → List ℕ → ℕ
spelt zero start bytes = start
spelt (suc n) start [] = spelt n (start * 256) []
spelt (suc n) start (byte ∷ bytes) = spelt n (start * 256 + byte) bytes

-- each is a byte
abbrev pub AreSmall : List ℕ → Type 0
AreSmall bytes = (i : ℕ) → slice_index_or bytes i 0 < 256

-- these numbers are spelt by the first sixteen bytes of this text
pub record IsLeadingOf (leading : Leading) (bytes : List ℕ) : Type 0 where
  pub high : leading.high ≡ spelt 8 0 bytes
  pub low : leading.low ≡ spelt 8 0 (drop 8 bytes)
  pub small : AreSmall bytes
