-- What a board says of files 0 and 1 on each host.
use Rattle.std.specs.Prelude.{◌≡◌, ℕ, ◌+◌, ◌*◌, ◌≤◌, get_or, Bool, true, false, if◌then◌else◌, max}
use Rattle.slot_board.specs.declared.board.Board.{Board}
use Rattle.slot_board.specs.declared.board.Slot.{Slot}
use Rattle.slot_board.specs.declared.board.SlotKind.{SlotKind}
use Rattle.slot_board.specs.declared.board.SlotKind.TheVariants.{Empty, Blank, Stale, Doubt, Current, Unknown}

abbrev pub unknown_slot : Slot
unknown_slot = record { kind = Unknown; version = 0 }

-- the slot of a host's file 0 or 1
abbrev pub slot_at : Board → ℕ → ℕ → Slot
slot_at board host file = get_or board.slots.items (2 * host + file) unknown_slot

-- how many hosts there are
abbrev pub hosts_of : Board → ℕ
hosts_of board = board.hosts

-- the greatest version that was told
abbrev pub told_by : Board → ℕ
told_by board = board.told

-- nothing sealed stands there
abbrev pub is_free : SlotKind → Bool
is_free Empty = true
is_free Blank = true
is_free Stale = false
is_free Doubt = false
is_free Current = false
is_free Unknown = false

abbrev pub is_current : SlotKind → Bool
is_current Current = true
is_current Empty = false
is_current Blank = false
is_current Stale = false
is_current Doubt = false
is_current Unknown = false

-- the least free file, else the least that isn't the current one
abbrev pub target_of : SlotKind → SlotKind → ℕ
target_of first second = if is_free first then 0 else if is_free second then 1 else if is_current first then 1 else 0

-- what was current or in doubt is stale
abbrev pub aged : SlotKind → SlotKind
aged Empty = Empty
aged Blank = Blank
aged Stale = Stale
aged Doubt = Stale
aged Current = Stale
aged Unknown = Unknown

abbrev pub superseded : Slot → Slot
superseded slot = record { kind = aged slot.kind; version = slot.version }

-- the file's slot is now this one, and the others are as they were
pub record IsSet (old new : Board) (host file : ℕ) (slot : Slot) : Type 0 where
  pub here : slot_at new host file ≡ slot
  pub others : (h f : ℕ) → f ≤ 1 → ((h ≡ host) × (f ≡ file) → ⊥) → slot_at new h f ≡ slot_at old h f
  pub hosts : hosts_of new ≡ hosts_of old
  pub told : told_by new ≡ max (told_by old) slot.version

-- what was current or in doubt is stale, on every host
pub record IsSuperseded (old new : Board) : Type 0 where
  pub slots : (h f : ℕ) → slot_at new h f ≡ superseded (slot_at old h f)
  pub hosts : hosts_of new ≡ hosts_of old
  pub told : told_by new ≡ told_by old
