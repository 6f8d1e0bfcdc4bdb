-- Which bytes are no store of a partition, and where they leave its form.
use Rattle.std.specs.Prelude.{◌≡◌, ◌⊎◌, ℕ, ◌+◌, ◌==◌, nat_lt, nat_le, min, ◌&&◌, List, [], ◌∷◌, length, take, drop, Option, None, Some, if◌then◌else◌}
use Rattle.cache_key.specs.declared.request.Mutation.{Mutation}
use Rattle.byte_fields.specs.Numbers.{number_in}
use Rattle.record_form.specs.declared.fault.RecordFault.{RecordFault}
use Rattle.record_form.specs.FaultOffset.{offset_of}
use Rattle.record_form.specs.HeaderText.{partition_offset, partitions_offset}
use Rattle.record_form.specs.HeaderFault.{header_fault}
use Rattle.record_form.specs.GroupText.{closed_gate, most_group_bytes}
use Rattle.record_form.specs.GroupFault.{group_fault}
use Rattle.seal_gate.specs.Seal.{IsSealed}
use Rattle.store_journal.specs.Text.{header_start, header_section, records_section, Records, end_of}

-- that offset, if there is a fault
abbrev pub offset_if_fault : Option RecordFault → Option ℕ
offset_if_fault None = None
offset_if_fault (Some fault) = Some (offset_of fault)

-- an offset, if there is one, so many bytes further on
abbrev pub shifted : ℕ → Option ℕ → Option ℕ
shifted from None = None
shifted from (Some offset) = Some (from + offset)

-- the lesser of two offsets, of which each may be missing
infixl 10 ◌or_earlier◌
abbrev pub ◌or_earlier◌ : Option ℕ → Option ℕ → Option ℕ
None or_earlier other = other
(Some offset) or_earlier None = Some offset
(Some offset) or_earlier (Some other) = Some (min offset other)

-- the offset of a number of two bytes, unless it is this one
abbrev pub other_number : List ℕ → ℕ → ℕ → Option ℕ
other_number bytes offset wanted = if number_in bytes offset 2 == wanted then None else Some offset

-- the first offset at which the header is none, or is that of another partition or of another number of partitions
abbrev pub header_fault_offset : List ℕ → ℕ → ℕ → Option ℕ
header_fault_offset bytes partition partitions =
    shifted header_start (offset_if_fault (header_fault (header_section bytes)))
    or_earlier other_number bytes (header_start + partition_offset) partition
    or_earlier other_number bytes (header_start + partitions_offset) partitions

-- the first offset of a payload of this size at which it is no group: the end of the bytes where they are too few
abbrev pub payload_fault_offset : ℕ → List ℕ → Option ℕ
payload_fault_offset size bytes =
    offset_if_fault (group_fault (take size bytes)) or_earlier (if nat_le size (length bytes) then None else Some (length bytes))

-- the first offset of what stands after an open gate at which it is no record
abbrev pub tail_fault_offset : List ℕ → Option ℕ
tail_fault_offset bytes =
    if nat_lt (length bytes) 4 then Some (length bytes)
    else if nat_le 1 (number_in bytes 0 4) && nat_le (number_in bytes 0 4) most_group_bytes then shifted 4 (payload_fault_offset (number_in bytes 0 4) (drop 4 bytes))
    else Some 0

-- the first offset at which these bytes are neither a closed gate nor a record
abbrev pub record_fault_offset : List ℕ → Option ℕ
record_fault_offset [] = Some 0
record_fault_offset (gate ∷ bytes) = if gate == closed_gate then None else shifted 1 (tail_fault_offset bytes)

-- what follows whole records is neither a closed gate nor a record, first at this offset of the file
pub record IsRecordFault (bytes : List ℕ) (offset : ℕ) : Type 0 where
  pub groups : List (List Mutation)
  pub following : List ℕ
  pub whole : Records (records_section bytes) groups following
  pub at : ℕ
  pub fault : record_fault_offset following ≡ Some at
  pub there : offset ≡ end_of groups + at

-- A sealed file that is no store of this partition, in a site of so many partitions, first leaves its form at this offset.
pub record IsDamagedAt (bytes : List ℕ) (partition partitions offset : ℕ) : Type 0 where
  pub sealed : IsSealed bytes
  pub first : (header_fault_offset bytes partition partitions ≡ Some offset) ⊎ ((header_fault_offset bytes partition partitions ≡ None) × IsRecordFault bytes offset)
