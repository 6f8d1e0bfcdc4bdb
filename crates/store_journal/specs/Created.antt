-- What a file may hold while a store is made in it.
use Rattle.std.specs.Prelude.{◌≡◌, ◌⊎◌, ℕ, List, [], ◌∷◌, ◌++◌}
use Rattle.byte_fields.specs.Numbers.{bytes8}
use Rattle.record_form.specs.declared.header.Header.{Header}
use Rattle.record_form.specs.HeaderText.{header_text}
use Rattle.record_form.specs.GroupText.{closed_gate}
use Rattle.seal_gate.specs.Seal.{IsSealed, ButFirst}
use Rattle.store_journal.specs.Text.{IsText}

-- not sealed
abbrev pub IsUnsealed : List ℕ → Type 0
IsUnsealed bytes = IsSealed bytes → ⊥

-- the first byte is there, and it is zero
abbrev pub IsBlank : List ℕ → Type 0
IsBlank bytes = (rest : List ℕ) × (bytes ≡ 0 ∷ rest)

-- a header and a closed gate after a first byte
abbrev pub empty_text : ℕ → Header → List ℕ
empty_text first header = first ∷ header_text header ++ bytes8 closed_gate

-- what a stop may leave of a file that is made free: it isn't sealed, or it is as it was but for the first byte
abbrev pub IsFreed : List ℕ → List ℕ → Type 0
IsFreed old new = IsUnsealed new ⊎ ButFirst old new

-- what it may leave of one in which a store is made: that, or the store without a group
abbrev pub IsBegun : Header → List ℕ → List ℕ → Type 0
IsBegun header old new = IsFreed old new ⊎ IsText header [] new
