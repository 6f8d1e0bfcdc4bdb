-- The text of a store's identifier.
use Rattle.std.specs.Prelude.{ℕ, List, ◌∷◌, ◌++◌, ◌^◌, ◌-◌, Bool, IsTrue, false}
use Rattle.std.specs.Fmt.{decimal, digits}
use Rattle.std.specs.Int.{is_in_range}
use Rattle.store_ident.specs.declared.ident.StoreId.{StoreId}

-- lower-case hexadecimal, without leading zeros
abbrev pub hexadecimal : ℕ → List ℕ
hexadecimal n = digits 16 false n

-- partition, version, epoch and host, joined by dashes: the middle two in hexadecimal, the others in decimal
abbrev pub ident_text : StoreId → List ℕ
ident_text id = decimal id.partition ++ 45 ∷ (hexadecimal id.version ++ 45 ∷ (hexadecimal id.epoch ++ 45 ∷ decimal id.host))

-- a number of 16 bits: that of a partition or of a host
abbrev pub is_number16 : ℕ → Bool
is_number16 n = is_in_range 0 65535 n

-- a version or an epoch
abbrev pub is_counter : ℕ → Bool
is_counter n = is_in_range 1 (2 ^ 58 - 1) n

-- each number of the identifier is in its range
pub record IsInRanges (id : StoreId) : Type 0 where
  pub partition : IsTrue (is_number16 id.partition)
  pub version : IsTrue (is_counter id.version)
  pub epoch : IsTrue (is_counter id.epoch)
  pub host : IsTrue (is_number16 id.host)
