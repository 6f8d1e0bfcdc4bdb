-- What a file has to be so that it can be made free, and what a stop may make of it meanwhile.
use Rattle.std.specs.Prelude.{◌≡◌, ℕ, ◌<◌, List, length}
use Rattle.seal_gate.specs.Seal.{IsSealed, IsShort, StaysShort, ButFirst}
use Rattle.slot_board.specs.declared.board.SlotKind.{SlotKind}
use Rattle.slot_board.specs.declared.board.SlotKind.TheVariants.{Empty, Blank, Stale, Doubt, Current, Unknown}
use Rattle.store_journal.specs.Created.{IsBlank}
use Rattle.file_kinds.specs.declared.form.FileForm.{FileForm}
use Rattle.file_kinds.specs.declared.form.FileForm.TheVariants as forms

-- what the bytes of a file of this kind have to be: nothing is known of a file of an unknown kind, so it isn't freed by it
abbrev pub IsFreeable : SlotKind → List ℕ → Type 0
IsFreeable Empty bytes = IsShort bytes
IsFreeable Blank bytes = IsBlank bytes
IsFreeable Stale bytes = 0 < length bytes
IsFreeable Doubt bytes = 0 < length bytes
IsFreeable Current bytes = 0 < length bytes
IsFreeable Unknown bytes = ⊥

-- what a stop may make of them while the file is freed: an empty one stays short, a blank one isn't touched, and any other
-- keeps all bytes but the first
abbrev pub IsFreedFrom : SlotKind → List ℕ → List ℕ → Type 0
IsFreedFrom Empty old new = StaysShort old new
IsFreedFrom Blank old new = new ≡ old
IsFreedFrom Stale old new = ButFirst old new
IsFreedFrom Doubt old new = ButFirst old new
IsFreedFrom Current old new = ButFirst old new
IsFreedFrom Unknown old new = ⊥

-- which of the three the bytes are; each file is one of them alone
abbrev pub HasFileForm : FileForm → List ℕ → Type 0
HasFileForm forms.Blank bytes = IsBlank bytes
HasFileForm forms.Short bytes = IsShort bytes × (IsBlank bytes → ⊥)
HasFileForm forms.Sealed bytes = IsSealed bytes
