-- What the bytes of a store stand for: a relation on whole texts.
use Rattle.std.specs.Prelude.{◌≡◌, ◌≢◌, ℕ, ◌+◌, List, [], ◌∷◌, ◌++◌, length, take, drop}
use Rattle.std.specs.List.{flat_map}
use Rattle.cache_key.specs.declared.request.Mutation.{Mutation}
use Rattle.record_form.specs.declared.header.Header.{Header}
use Rattle.record_form.specs.HeaderText.{IsHeader, header_bytes, header_text}
use Rattle.record_form.specs.GroupText.{IsGroup, record_head, closed_gate, group_text}
use Rattle.byte_fields.specs.Counted.{counted32_text}
use Rattle.seal_gate.specs.Seal.{header_end, IsSealed}

-- where the header begins, after the seal
abbrev pub header_start : ℕ
header_start = 1

-- the bytes of the header, and those after it
abbrev pub header_section : List ℕ → List ℕ
header_section bytes = take header_bytes (drop header_start bytes)

abbrev pub records_section : List ℕ → List ℕ
records_section bytes = drop header_end bytes

-- The records of these groups, and then the bytes after them. A record is an open gate and
-- the group's spelling after its length.
abbrev pub Records : List ℕ → List (List Mutation) → List ℕ → Type 0
Records rest [] following = rest ≡ following
Records rest (group ∷ groups) following =
    (gate : ℕ) × (next : List ℕ) × (gate ≢ closed_gate) × IsGroup group × (rest ≡ gate ∷ counted32_text (group_text group) ++ next) × Records next groups following

-- the records of these groups, and then a closed gate, after which anything may stand
abbrev pub ClosedRecords : List ℕ → List (List Mutation) → Type 0
ClosedRecords rest groups = (following : List ℕ) × Records rest groups (closed_gate ∷ following)

-- the offset of the closed gate
abbrev pub end_of : List (List Mutation) → ℕ
end_of [] = header_end
end_of (group ∷ groups) = end_of groups + record_head + length (group_text group)

-- a sealed store with this header and these groups
pub record IsText (header : Header) (groups : List (List Mutation)) (bytes : List ℕ) : Type 0 where
  pub limits : IsHeader header
  pub sealed : IsSealed bytes
  pub named : header_section bytes ≡ header_text header
  pub records : ClosedRecords (records_section bytes) groups

-- a sealed store with this header, whose groups are these mutations one after the other
pub record IsStoreOf (header : Header) (mutations : List Mutation) (bytes : List ℕ) : Type 0 where
  pub groups : List (List Mutation)
  pub joined : mutations ≡ flat_map (λ group. group) groups
  pub text : IsText header groups bytes
