-- The seal: the first byte of a file, before a header.
use Rattle.std.specs.Prelude.{◌≡◌, ◌≢◌, ℕ, ◌<◌, ◌≤◌, List, length, drop, slice_index}
use Rattle.disk_trait.specs.View.{Image, View}

-- where the header after the seal ends: the least length of a sealed file
abbrev pub header_end : ℕ
header_end = 41

-- the first byte isn't zero, and there is a header after it
pub record IsSealed (bytes : List ℕ) : Type 0 where
  pub first : slice_index bytes 0 ≢ 0
  pub long : header_end ≤ length bytes

-- too short to be sealed, whatever its first byte
abbrev pub IsShort : List ℕ → Type 0
IsShort bytes = length bytes < header_end

-- still too short, with the same bytes after the first, of which there may now be one
pub record StaysShort (old new : List ℕ) : Type 0 where
  pub short : length new < header_end
  pub rest : drop 1 new ≡ drop 1 old

-- the same bytes, but perhaps another first one
pub record ButFirst (old new : List ℕ) : Type 0 where
  pub rest : drop 1 new ≡ drop 1 old
  pub as_long : length new ≡ length old

-- each image of the file is what a read gives
abbrev pub IsSettled : View → ℕ → Type 0
IsSettled v file = (m : Image) → v.images m → m file ≡ v.seen file

-- each image of the file has P
abbrev pub Each : View → ℕ → (List ℕ → Type 0) → Type 0
Each v file P = (m : Image) → v.images m → P (m file)
