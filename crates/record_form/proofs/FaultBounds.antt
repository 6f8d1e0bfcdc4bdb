-- A fault lies within the bytes that have it.
use Rattle.std.proofs.Common.{◌≡◌, ℕ, ◌-◌, ◌≤◌, take, inl, inr, sym, Bool, true, false, List, [], ◌∷◌, length, Option, None, Some, Result, Ok, Err, refl, subst, arith}
use Rattle.std.specs.Prelude.{⊤}
use Rattle.std.proofs.lemmas.Bool.{cases_lt}
use Rattle.std.proofs.lemmas.List.{length-take}
use Rattle.cache_key.specs.declared.request.Mutation.{Mutation}
use Rattle.record_form.specs.declared.fault.RecordFault.{RecordFault}
use Rattle.record_form.specs.declared.fault.RecordFault.TheVariants.{Short, Tag, Range, Name, NoMemory}
use Rattle.record_form.specs.Form.{FaultKind, TooShort, BadTag, OutOfRange, BadByte, Stop, fault_of, reading_fault}
use Rattle.record_form.specs.HeaderFault.{first_failed, header_fault, header_in, header_checks}
use Rattle.record_form.specs.GroupFault.{group_at, bytes_fault, or_too_long, group_fault}
use Rattle.record_form.specs.GroupText.{most_group_bytes}
use Rattle.record_form.proofs.GroupFaultLemmas.{short_fault, long_fault}
use Rattle.record_form.specs.FaultOffset.{offset_of}

-- a fault, if there is one, lies within so many bytes
abbrev Within : ℕ → Option RecordFault → Type 0
Within n None = ⊤
Within n (Some fault) = offset_of fault ≤ n

within_at : (n : ℕ) (found : Option RecordFault) (fault : RecordFault) → Within n found → found ≡ Some fault → offset_of fault ≤ n
within_at n found fault within is = subst (λ (o : Option RecordFault). Within n o) is within

offset_of-fault_of : (kind : FaultKind) (offset : ℕ) → offset_of (fault_of kind offset) ≡ offset
offset_of-fault_of TooShort offset = refl
offset_of-fault_of BadTag offset = refl
offset_of-fault_of OutOfRange offset = refl
offset_of-fault_of BadByte offset = refl

reading_within : (payload : List ℕ) (r : Result (List Mutation) Stop) → Within (length payload) (reading_fault payload r)
reading_within payload (Ok ms) = tt
reading_within payload (Err stop) = omega (arith, offset_of-fault_of stop.kind (length payload - length stop.left))

within_more : (few many : ℕ) (found : Option RecordFault) → few ≤ many → Within few found → Within many found
within_more few many None le within = tt
within_more few many (Some fault) le within = omega arith

within_limit : (n : ℕ) (found : Option RecordFault) → most_group_bytes ≤ n → Within n found → Within n (or_too_long true found)
within_limit n None long within = long
within_limit n (Some (Short at)) long within = long
within_limit n (Some (Tag at)) long within = within
within_limit n (Some (Range at)) long within = within
within_limit n (Some (Name at)) long within = within
within_limit n (Some NoMemory) long within = within

payload_within : (payload : List ℕ) → Within (length payload) (group_fault payload)
payload_within payload =
    let first = take most_group_bytes payload in
    elim (cases_lt most_group_bytes (length payload)) [
      | inl long ↦
          subst (Within (length payload)) (sym (long_fault payload long))
          (within_limit (length payload) (bytes_fault first) (omega arith) (within_more (length first) (length payload) (bytes_fault first) (omega (arith, length-take most_group_bytes payload)) (reading_within first (group_at first))))
      | inr short ↦ subst (Within (length payload)) (sym (short_fault payload short)) (reading_within payload (group_at payload))
    ]

-- a fault of a payload lies in it, or at its end
pub group_fault_within : (payload : List ℕ) (fault : RecordFault) → group_fault payload ≡ Some fault → offset_of fault ≤ length payload
group_fault_within payload fault is = within_at (length payload) (group_fault payload) fault (payload_within payload) is

within_check : (n : ℕ) (b : Bool) (fault : RecordFault) (checks : List (Bool × RecordFault)) → offset_of fault ≤ n → Within n (first_failed checks) → Within n (first_failed ((b, fault) ∷ checks))
within_check n true fault checks here rest = rest
within_check n false fault checks here rest = here

abbrev AllWithin : ℕ → List (Bool × RecordFault) → Type 0
AllWithin n [] = ⊤
AllWithin n (check ∷ checks) = (offset_of check.1 ≤ n) × AllWithin n checks

checks_within : (n : ℕ) (checks : List (Bool × RecordFault)) → AllWithin n checks → Within n (first_failed checks)
checks_within n [] all = tt
checks_within n ((b, fault) ∷ checks) all = within_check n b fault checks all.0 (checks_within n checks all.1)

-- a fault of a header lies in its fields
pub header_fault_within : (text : List ℕ) (fault : RecordFault) → header_fault text ≡ Some fault → offset_of fault ≤ 28
header_fault_within text fault is =
    within_at 28 (header_fault text) fault
    (checks_within 28 (header_checks text (header_in text)) (omega arith, (omega arith, (omega arith, (omega arith, (omega arith, (omega arith, (omega arith, tt))))))))
    is
