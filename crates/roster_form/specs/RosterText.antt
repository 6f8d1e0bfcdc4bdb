-- How a roster is spelled in a file.
use Rattle.std.specs.Prelude.{◌≡◌, ◌≢◌, ℕ, List, ◌∷◌, ◌++◌, length, Option, Some, None}
use Rattle.std.specs.List.{flat_map}
use Rattle.byte_fields.specs.Numbers.{bytes8, bytes16, bytes32, bytes64}
use Rattle.byte_fields.specs.Counted.{counted8_text}
use Rattle.roster_form.specs.Membership.{Host, IsRoster}
use Rattle.roster_form.specs.declared.roster.Roster.{Roster}

-- `PRO1` in ASCII, as one number
abbrev pub roster_magic : ℕ
roster_magic = 1347571505

-- the format of a roster
abbrev pub roster_format : ℕ
roster_format = 1

-- what stands for no joining host
abbrev pub none_joining : ℕ
none_joining = 255

-- the index of the joining host, as a byte
abbrev pub joining_byte : Option ℕ → ℕ
joining_byte None = none_joining
joining_byte (Some index) = index

-- magic, format, partitions, epoch, joining host, count of hosts, and 22 zeros
abbrev pub roster_head : Roster → List ℕ
roster_head roster =
    bytes32 roster_magic ++ bytes16 roster_format ++ bytes16 roster.partitions ++ bytes64 roster.epoch
    ++ bytes8 (joining_byte roster.joining) ++ bytes8 (length roster.hosts)
    ++ bytes32 0 ++ bytes16 0 ++ bytes16 0 ++ bytes16 0 ++ bytes64 0 ++ bytes32 0

-- each name after its length
abbrev pub names_text : List Host → List ℕ
names_text hosts = flat_map counted8_text hosts

-- a file's bytes: its first byte, which is the seal, the head, and the names
abbrev pub roster_file : ℕ → Roster → List ℕ
roster_file first roster = first ∷ roster_head roster ++ names_text roster.hosts

-- a sealed file that holds this roster; any first byte but zero is a seal
pub record IsRosterText (roster : Roster) (bytes : List ℕ) : Type 0 where
  pub limits : IsRoster roster
  pub first : ℕ
  pub sealed : first ≢ 0
  pub text : bytes ≡ roster_file first roster
