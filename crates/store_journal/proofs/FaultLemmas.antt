-- A store has no fault, and what is damaged is so at one offset.
use Rattle.std.proofs.Common.{◌≡◌, inl, inr, ℕ, ◌+◌, Bool, true, false, cond, ◌&&◌, nat_lt, nat_le, List, [], ◌∷◌, ◌++◌, length, take, drop, Option, None, Some, ◌⊎◌, ⊎_elim, refl, sym, ◌∙◌, ap, subst, arith, append_assoc, length-append}
use Rattle.std.specs.Prelude.{◌==◌}
use Rattle.std.proofs.lemmas.List.{take_at, drop_at}
use Rattle.std.proofs.lemmas.Bool.{le-leb, le-ltb, eq-eqb}
use Rattle.byte_fields.specs.Numbers.{big_endian, bytes32, number_in}
use Rattle.byte_fields.specs.Counted.{counted32_text}
use Rattle.byte_fields.proofs.NumbersLemmas.{length-bytes_of, big_endian-bytes_of}
use Rattle.byte_fields.proofs.CountedLemmas.{counted_text-injective, length-counted_text}
use Rattle.cache_key.specs.declared.request.Mutation.{Mutation}
use Rattle.record_form.specs.declared.fault.RecordFault.{RecordFault}
use Rattle.record_form.specs.declared.header.Header.{Header}
use Rattle.record_form.specs.HeaderFault.{header_in, header_fault}
use Rattle.record_form.proofs.HeaderLemmas.{header_fault-header_text, header_in-header_text}
use Rattle.record_form.specs.GroupText.{IsGroup, group_text, most_group_bytes}
use Rattle.record_form.specs.GroupFault.{group_fault}
use Rattle.record_form.proofs.GroupFaultLemmas.{group_found, group_text-injective}
use Rattle.record_form.proofs.GroupLengthLemmas.{group_size}
use Rattle.store_journal.specs.Text.{IsText, Records, end_of}
use Rattle.store_journal.specs.Fault.{offset_if_fault, shifted, ◌or_earlier◌, payload_fault_offset, tail_fault_offset, header_fault_offset, record_fault_offset, IsRecordFault, IsDamagedAt}
use Rattle.store_journal.proofs.TextOnce.{group_fits}
use Rattle.store_journal.proofs.StandsLemmas.{within_head}

payload_passes : (fault : Option RecordFault) (whole : Bool) (end : ℕ) → fault ≡ None → whole ≡ true → offset_if_fault fault or_earlier cond whole None (Some end) ≡ None
payload_passes None true end none is = refl
payload_passes None false end none is = absurd cc
payload_passes (Some fault) whole end none is = absurd cc

tail_passes : (short within : Bool) (end : ℕ) (offset : Option ℕ) → short ≡ false → within ≡ true → offset ≡ None → cond short (Some end) (cond within (shifted 4 offset) (Some 0)) ≡ None
tail_passes true within end offset long is none = absurd cc
tail_passes false false end offset long is none = absurd cc
tail_passes false true end None long is none = refl
tail_passes false true end (Some at) long is none = absurd cc

record_tail_passes : (closed : Bool) (offset : Option ℕ) → offset ≡ None → cond closed None (shifted 1 offset) ≡ None
record_tail_passes true offset none = refl
record_tail_passes false None none = refl
record_tail_passes false (Some at) none = absurd cc

both : (a b : Bool) → a ≡ true → b ≡ true → (a && b) ≡ true
both true true a b = refl
both true false a b = absurd cc
both false b a is = absurd cc

module _ (group : List Mutation) (next : List ℕ) (is : IsGroup group) where
  abbrev payload : List ℕ
  payload = group_text group

  abbrev text : List ℕ
  text = counted32_text payload ++ next

  parts : text ≡ bytes32 (length payload) ++ (payload ++ next)
  parts = append_assoc (bytes32 (length payload)) payload next

  size_there : number_in text 0 4 ≡ length payload
  size_there =
      ap (λ (l : List ℕ). big_endian (take 4 l)) parts
      ∙ ap big_endian (take_at (bytes32 (length payload)) (payload ++ next) 4 (length-bytes_of 4 (length payload)))
      ∙ big_endian-bytes_of 4 (length payload) (group_fits group is)

  rest_there : drop 4 text ≡ payload ++ next
  rest_there = ap (λ (l : List ℕ). drop 4 l) parts ∙ drop_at (bytes32 (length payload)) (payload ++ next) 4 (length-bytes_of 4 (length payload))

  payload_there : payload_fault_offset (length payload) (payload ++ next) ≡ None
  payload_there =
      let found = group_found payload group (record { group = is; spelled = refl }) in
      payload_passes (group_fault (take (length payload) (payload ++ next))) (nat_le (length payload) (length (payload ++ next))) (length (payload ++ next))
      (ap group_fault (take_at payload next (length payload) refl) ∙ found.0)
      (le-leb (length payload) (length (payload ++ next)) (omega (arith, length-append payload next)))

  -- a record has no fault
  pub record_passes : (gate : ℕ) → record_fault_offset (gate ∷ text) ≡ None
  record_passes gate =
      let size = group_size group is in
      record_tail_passes (gate == 0) (tail_fault_offset text)
      (tail_passes (nat_lt (length text) 4) (nat_le 1 (number_in text 0 4) && nat_le (number_in text 0 4) most_group_bytes) (length text) (payload_fault_offset (number_in text 0 4) (drop 4 text))
      (le-ltb (length text) 4 (omega (arith, length-append (counted32_text payload) next, length-counted_text 4 payload)))
      (both (nat_le 1 (number_in text 0 4)) (nat_le (number_in text 0 4) most_group_bytes)
      (le-leb 1 (number_in text 0 4) (omega (arith, size_there, size.0)))
      (le-leb (number_in text 0 4) most_group_bytes (omega (arith, size_there, size.1))))
      ((λ i. payload_fault_offset (size_there i) (rest_there i)) ∙ payload_there))

-- an offset is none
no_offset : (offset : Option ℕ) (at : ℕ) → offset ≡ None → offset ≡ Some at → ⊥
no_offset offset at none some = absurd cc

-- whole records end at one offset, where what follows has a fault
records_once : (groups others : List (List Mutation)) (rest following after : List ℕ) (at offset : ℕ) → Records rest groups following → Records rest others after → record_fault_offset following ≡ Some at → record_fault_offset after ≡ Some offset → (groups ≡ others) × (following ≡ after)
records_once [] [] rest following after at offset is also fault other = (refl, sym is ∙ also)
records_once [] (h ∷ others) rest following after at offset is also fault other =
    absurd (no_offset (record_fault_offset following) at (ap record_fault_offset (sym is ∙ also.4) ∙ record_passes h also.1 also.3 also.0) fault)
records_once (g ∷ groups) [] rest following after at offset is also fault other =
    absurd (no_offset (record_fault_offset after) offset (ap record_fault_offset (sym also ∙ is.4) ∙ record_passes g is.1 is.3 is.0) other)
records_once (g ∷ groups) (h ∷ others) rest following after at offset is also fault other =
    let payloads = counted_text-injective 4 (group_text g) (group_text h) is.1 also.1 (group_fits g is.3) (group_fits h also.3) (ap (λ (l : List ℕ). drop 1 l) (sym is.4 ∙ also.4)) in
    let same : g ≡ h = group_text-injective g h is.3 also.3 payloads.0 in
    let next = records_once groups others is.1 following after at offset is.5 (subst (λ (l : List ℕ). Records l others after) (sym payloads.1) also.5) fault other in
    (λ i. same i ∷ next.0 i, next.1)

-- nor has what begins with a closed gate
closed_passes : (groups others : List (List Mutation)) (rest following after : List ℕ) (at : ℕ) → Records rest groups (0 ∷ following) → Records rest others after → record_fault_offset after ≡ Some at → ⊥
closed_passes [] [] rest following after at records is fault = no_offset (record_fault_offset after) at (ap record_fault_offset (sym is ∙ records)) fault
closed_passes [] (h ∷ others) rest following after at records is fault =
    let e : 0 ∷ following ≡ is.0 ∷ counted32_text (group_text h) ++ is.1 = sym records ∙ is.4 in is.2 (cc e)
closed_passes (g ∷ groups) [] rest following after at records is fault = no_offset (record_fault_offset after) at (ap record_fault_offset (sym is ∙ records.4) ∙ record_passes g records.1 records.3 records.0) fault
closed_passes (g ∷ groups) (h ∷ others) rest following after at records is fault =
    let payloads = counted_text-injective 4 (group_text g) (group_text h) records.1 is.1 (group_fits g records.3) (group_fits h is.3) (ap (λ (l : List ℕ). drop 1 l) (sym records.4 ∙ is.4)) in
    closed_passes groups others records.1 following after at records.5 (subst (λ (l : List ℕ). Records l others after) (sym payloads.1) is.5) fault

some_same : (a b : ℕ) → Some a ≡ Some b → a ≡ b
some_same a b is = cc

-- a record's fault is at one offset
record_fault_once : (bytes : List ℕ) (offset other : ℕ) → IsRecordFault bytes offset → IsRecordFault bytes other → offset ≡ other
record_fault_once bytes offset other is also =
    let same = records_once is.groups also.groups (drop 41 bytes) is.following also.following is.at also.at is.whole also.whole is.fault also.fault in
    let at : Some is.at ≡ Some also.at = sym is.fault ∙ ap record_fault_offset same.1 ∙ also.fault in
    is.there ∙ (λ i. end_of (same.0 i) + is.at) ∙ ap (λ (n : ℕ). end_of also.groups + n) (some_same is.at also.at at) ∙ sym also.there

first_once : (head : Option ℕ) (bytes : List ℕ) (offset other : ℕ) → (head ≡ Some offset) ⊎ ((head ≡ None) × IsRecordFault bytes offset) → (head ≡ Some other) ⊎ ((head ≡ None) × IsRecordFault bytes other) → offset ≡ other
first_once head bytes offset other (inl is) (inl also) = some_same offset other (sym is ∙ also)
first_once head bytes offset other (inl is) (inr also) = absurd (no_offset head offset also.0 is)
first_once head bytes offset other (inr is) (inl also) = absurd (no_offset head other is.0 also)
first_once head bytes offset other (inr is) (inr also) = record_fault_once bytes offset other is.1 also.1

-- and so is that of a file
pub damaged_once : (bytes : List ℕ) (partition partitions offset other : ℕ) → IsDamagedAt bytes partition partitions offset → IsDamagedAt bytes partition partitions other → offset ≡ other
damaged_once bytes partition partitions offset other is also = first_once (header_fault_offset bytes partition partitions) bytes offset other is.first also.first

head_judged : (fault : Option RecordFault) (same also : Bool) (a b : ℕ) → fault ≡ None → same ≡ true → also ≡ true
    → shifted 1 (offset_if_fault fault) or_earlier cond same None (Some a) or_earlier cond also None (Some b) ≡ None
head_judged None true true a b none is other = refl
head_judged None true false a b none is other = absurd cc
head_judged None false also a b none is other = absurd cc
head_judged (Some fault) same also a b none is other = absurd cc

head_passes : (header : Header) (groups : List (List Mutation)) (bytes : List ℕ) → IsText header groups bytes → header_fault_offset bytes header.id.partition header.partitions ≡ None
head_passes header groups bytes text =
    let head : List ℕ = take 40 (drop 1 bytes) in
    let found : header_in head ≡ header = ap header_in text.named ∙ header_in-header_text header text.limits in
    let one : number_in bytes 7 2 ≡ header.id.partition = ap big_endian (within_head bytes 6 2 (omega arith)) ∙ ap (λ (h : Header). h.id.partition) found in
    let two : number_in bytes 27 2 ≡ header.partitions = ap big_endian (within_head bytes 26 2 (omega arith)) ∙ ap (λ (h : Header). h.partitions) found in
    head_judged (header_fault head) (number_in bytes 7 2 == header.id.partition) (number_in bytes 27 2 == header.partitions) 7 27
    (ap header_fault text.named ∙ header_fault-header_text header text.limits)
    (eq-eqb (number_in bytes 7 2) header.id.partition one)
    (eq-eqb (number_in bytes 27 2) header.partitions two)

-- a store isn't damaged
pub text_is_whole : (header : Header) (groups : List (List Mutation)) (bytes : List ℕ) (offset : ℕ) → IsText header groups bytes → IsDamagedAt bytes header.id.partition header.partitions offset → ⊥
text_is_whole header groups bytes offset text damaged = ⊎_elim
    (λ head. no_offset (header_fault_offset bytes header.id.partition header.partitions) offset (head_passes header groups bytes text) head)
    (λ records. closed_passes groups records.1.groups (drop 41 bytes) text.records.0 records.1.following records.1.at text.records.1 records.1.whole records.1.fault)
    damaged.first
