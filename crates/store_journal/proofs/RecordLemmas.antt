-- ClosedRecords that are read one after the other.
use Rattle.std.proofs.Common.{◌≡◌, ◌≢◌, ◌↔◌, ◌⊎◌, inl, inr, ℕ, ◌+◌, ◌<◌, ◌≤◌, Bool, true, false, cond, ◌&&◌, nat_lt, nat_le, List, [], ◌∷◌, ◌++◌, length, take, drop, min, Option, None, Some, Result, Ok, Err, IsErrOf, MatchResult, refl, sym, ◌∙◌, ap, subst, arith, append_assoc, length-take, length-drop, take-append-drop}
use Rattle.std.specs.Prelude.{slice_index}
use Rattle.std.specs.List.{flat_map}
use Rattle.std.proofs.lemmas.Bool.{lt-ltb, le-ltb, le-leb, lt-leb, ne_eqb, and_left, and_right}
use Rattle.std.proofs.lemmas.Grind.{flat_map-append}
use Rattle.std.proofs.lemmas.List.{drop_more, drop_at, drop_all, drop-drop, take_all, append-nil}
use Rattle.byte_fields.specs.Numbers.{bytes_of, number_in}
use Rattle.byte_fields.specs.Counted.{counted32_text}
use Rattle.byte_fields.proofs.NumbersLemmas.{AreBytes}
use Rattle.cache_key.specs.declared.request.Mutation.{Mutation}
use Rattle.cache_model.specs.Change.{Change, changes_of}
use Rattle.partition_map.specs.After.{Maps, AgreesWith}
use Rattle.record_form.specs.declared.fault.RecordFault.{RecordFault}
use Rattle.record_form.specs.declared.fault.RecordFault.TheVariants as faults
use Rattle.record_form.specs.GroupText.{IsGroup, IsGroupText, group_text, most_group_bytes}
use Rattle.record_form.specs.GroupFault.{group_fault}
use Rattle.record_form.proofs.HeaderLemmas.{spelled_on}
use Rattle.record_form.proofs.GroupFaultLemmas.{group_found}
use Rattle.store_journal.specs.ContentsOf.{HasContentsOf}
use Rattle.store_journal.specs.Text.{Records, end_of}
use Rattle.record_form.specs.FaultOffset.{offset_of}
use Rattle.store_journal.specs.Fault.{offset_if_fault, shifted, ◌or_earlier◌, payload_fault_offset, tail_fault_offset, record_fault_offset, IsRecordFault}
use Rattle.store_journal.specs.Loading.{IsFaultAt, IsRecordsFault, IsRecordAt, AreBefore}
use Rattle.store_journal.specs.declared.fault.LoadFault.{LoadFault}
use Rattle.store_journal.specs.declared.fault.LoadFault.TheVariants.{NotSealed, Damaged, Failed, NoMemory}
use Rattle.record_form.proofs.FaultBounds.{group_fault_within}
use Rattle.store_journal.proofs.ContentsLemmas.{agrees_more}

shifted_twice : (a b : ℕ) (offset : Option ℕ) → shifted a (shifted b offset) ≡ shifted (a + b) offset
shifted_twice a b None = refl
shifted_twice a b (Some offset) = ap Some (omega arith)

moved : (a b : Option ℕ) (fault : LoadFault) → a ≡ b → IsFaultAt b fault → IsFaultAt a fault
moved a b fault same is = subst (λ (o : Option ℕ). IsFaultAt o fault) (sym same) is

-- the three parts of what stands after an open gate
short_tail : (short within : Bool) (end offset : Option ℕ) → short ≡ true → cond short end (cond within offset (Some 0)) ≡ end
short_tail true within end offset is = refl
short_tail false within end offset is = absurd cc

unsized_tail : (short within : Bool) (end offset : Option ℕ) → short ≡ false → within ≡ false → cond short end (cond within offset (Some 0)) ≡ Some 0
unsized_tail true within end offset is not = absurd cc
unsized_tail false true end offset is not = absurd cc
unsized_tail false false end offset is not = refl

sized_tail : (short within : Bool) (end offset : Option ℕ) → short ≡ false → within ≡ true → cond short end (cond within offset (Some 0)) ≡ offset
sized_tail true within end offset is fits = absurd cc
sized_tail false true end offset is fits = refl
sized_tail false false end offset is fits = absurd cc

both : (a b : Bool) → a ≡ true → b ≡ true → (a && b) ≡ true
both true true a b = refl
both true false a b = absurd cc
both false b a is = absurd cc

module _ (rest : List ℕ) where
  abbrev size_there : ℕ
  size_there = number_in rest 0 4

  abbrev is_sized : Bool
  is_sized = nat_le 1 size_there && nat_le size_there most_group_bytes

  abbrev payload_there : Option ℕ
  payload_there = shifted 4 (payload_fault_offset size_there (drop 4 rest))

  tail_of_few : length rest < 4 → tail_fault_offset rest ≡ Some (length rest)
  tail_of_few few = short_tail (nat_lt (length rest) 4) is_sized (Some (length rest)) payload_there (lt-ltb (length rest) 4 few)

  tail_of_zero : 4 ≤ length rest → size_there < 1 → tail_fault_offset rest ≡ Some 0
  tail_of_zero long none = unsized_tail (nat_lt (length rest) 4) is_sized (Some (length rest)) payload_there (le-ltb (length rest) 4 long)
      (and_left (nat_le 1 size_there) (nat_le size_there most_group_bytes) (lt-leb 1 size_there none))

  tail_of_many : 4 ≤ length rest → most_group_bytes < size_there → tail_fault_offset rest ≡ Some 0
  tail_of_many long many = unsized_tail (nat_lt (length rest) 4) is_sized (Some (length rest)) payload_there (le-ltb (length rest) 4 long)
      (and_right (nat_le 1 size_there) (nat_le size_there most_group_bytes) (lt-leb size_there most_group_bytes many))

  tail_of_size : 4 ≤ length rest → 1 ≤ size_there → size_there ≤ most_group_bytes → tail_fault_offset rest ≡ payload_there
  tail_of_size long least most = sized_tail (nat_lt (length rest) 4) is_sized (Some (length rest)) payload_there (le-ltb (length rest) 4 long)
      (both (nat_le 1 size_there) (nat_le size_there most_group_bytes) (le-leb 1 size_there least) (le-leb size_there most_group_bytes most))

module _ (bytes : List ℕ) (offset : ℕ) (there : offset ≤ length bytes) where
  pub tail_short : length bytes < offset + 4 → shifted offset (tail_fault_offset (drop offset bytes)) ≡ Some (length bytes)
  tail_short few =
      ap (shifted offset) (tail_of_few (drop offset bytes) (omega (arith, length-drop offset bytes))) ∙ ap Some (omega (arith, length-drop offset bytes))

  pub tail_zero : offset + 4 ≤ length bytes → number_in bytes offset 4 < 1 → shifted offset (tail_fault_offset (drop offset bytes)) ≡ Some offset
  tail_zero long none =
      ap (shifted offset) (tail_of_zero (drop offset bytes) (omega (arith, length-drop offset bytes)) none) ∙ ap Some (omega arith)

  pub tail_many : offset + 4 ≤ length bytes → most_group_bytes < number_in bytes offset 4 → shifted offset (tail_fault_offset (drop offset bytes)) ≡ Some offset
  tail_many long many =
      ap (shifted offset) (tail_of_many (drop offset bytes) (omega (arith, length-drop offset bytes)) many) ∙ ap Some (omega arith)

-- a payload's first fault, where its bytes are all there and where they aren't
whole_part : (whole : Bool) (found : Option ℕ) (end : ℕ) → whole ≡ true → found or_earlier cond whole None (Some end) ≡ found
whole_part true None end is = refl
whole_part true (Some at) end is = refl
whole_part false found end is = absurd cc

cut_part : (whole : Bool) (found : Option RecordFault) (end : ℕ) → whole ≡ false → found ≡ None → offset_if_fault found or_earlier cond whole None (Some end) ≡ Some end
cut_part true found end is none = absurd cc
cut_part false None end is none = refl
cut_part false (Some fault) end is none = absurd cc

cut_before : (whole : Bool) (found : Option RecordFault) (end : ℕ) (at : ℕ) (offset : ℕ) → whole ≡ false → ((fault : RecordFault) → found ≡ Some fault → offset_of fault ≤ end)
    → shifted offset (offset_if_fault found) ≡ Some at → shifted offset (offset_if_fault found or_earlier cond whole None (Some end)) ≡ Some at
cut_before true found end at offset is within here = absurd cc
cut_before false None end at offset is within here = absurd cc
cut_before false (Some fault) end at offset is within here =
    let least : min (offset_of fault) end ≡ offset_of fault = let low = within fault refl in omega arith in
    ap (λ (n : ℕ). Some (offset + n)) least ∙ here

pub whole_fails : (rest : List ℕ) (size offset : ℕ) (fault : LoadFault) → size ≤ length rest → IsFaultAt (shifted offset (offset_if_fault (group_fault (take size rest)))) fault → IsFaultAt (shifted offset (payload_fault_offset size rest)) fault
whole_fails rest size offset fault whole is =
    moved _ _ fault (ap (shifted offset) (whole_part (nat_le size (length rest)) (offset_if_fault (group_fault (take size rest))) (length rest) (le-leb size (length rest) whole))) is

pub cut_is_short : (rest : List ℕ) (size offset : ℕ) (group : List Mutation) → length rest < size → IsGroupText rest group → shifted offset (payload_fault_offset size rest) ≡ Some (offset + length rest)
cut_is_short rest size offset group few is =
    let same : take size rest ≡ rest = take_all size rest (omega (arith, few)) in
    let none : group_fault (take size rest) ≡ None = ap group_fault same ∙ (group_found rest group is).0 in
    ap (shifted offset) (cut_part (nat_le size (length rest)) (group_fault (take size rest)) (length rest) (lt-leb size (length rest) few) none)

pub cut_fails : (rest : List ℕ) (size offset : ℕ) (fault : LoadFault) → length rest < size → IsFaultAt (shifted offset (offset_if_fault (group_fault rest))) fault → IsFaultAt (shifted offset (payload_fault_offset size rest)) fault
cut_fails rest size offset (Damaged at) few is =
    let same : take size rest ≡ rest = take_all size rest (omega (arith, few)) in
    cut_before (nat_le size (length rest)) (group_fault (take size rest)) (length rest) at offset (lt-leb size (length rest) few)
    (λ fault has. group_fault_within rest fault (ap group_fault (sym same) ∙ has))
    (ap (λ (l : List ℕ). shifted offset (offset_if_fault (group_fault l))) same ∙ is)
cut_fails rest size offset NoMemory few is = tt
cut_fails rest size offset NotSealed few is = absurd is
cut_fails rest size offset Failed few is = absurd is

-- the same as answers
pub cut_answer : (r inner : Result (List Mutation) LoadFault) (fault : LoadFault) (P : List Mutation → Type 0) (payload rest : List ℕ) (size offset : ℕ) → r ≡ Err fault → inner ≡ Err fault → payload ≡ rest → length rest < size
    → MatchResult inner (λ group. IsGroupText payload group) (λ fault. IsFaultAt (shifted offset (offset_if_fault (group_fault payload))) fault) → MatchResult r P (λ fault. IsFaultAt (shifted offset (payload_fault_offset size rest)) fault)
cut_answer r inner fault P payload rest size offset is was same few at =
    let known : MatchResult (Err fault) (λ group. IsGroupText payload group) (λ fault. IsFaultAt (shifted offset (offset_if_fault (group_fault payload))) fault) =
    subst (λ (o : Result (List Mutation) LoadFault). MatchResult o (λ group. IsGroupText payload group) (λ fault. IsFaultAt (shifted offset (offset_if_fault (group_fault payload))) fault)) was at in
    subst (λ (o : Result (List Mutation) LoadFault). MatchResult o P (λ f. IsFaultAt (shifted offset (payload_fault_offset size rest)) f)) (sym is)
    (cut_fails rest size offset fault few (subst (λ (l : List ℕ). IsFaultAt (shifted offset (offset_if_fault (group_fault l))) fault) same known))

pub whole_answer : (r : Result (List Mutation) LoadFault) (payload rest : List ℕ) (size offset end : ℕ) → payload ≡ take size rest → size ≤ length rest → offset + size ≤ end
    → MatchResult r (λ group. IsGroupText payload group) (λ fault. IsFaultAt (shifted offset (offset_if_fault (group_fault payload))) fault)
    → MatchResult r (λ group. IsGroupText (take size rest) group × (offset + size ≤ end)) (λ fault. IsFaultAt (shifted offset (payload_fault_offset size rest)) fault)
whole_answer (Ok group) payload rest size offset end same whole within is = (subst (λ (l : List ℕ). IsGroupText l group) same is, within)
whole_answer (Err fault) payload rest size offset end same whole within is =
    whole_fails rest size offset fault whole (subst (λ (l : List ℕ). IsFaultAt (shifted offset (offset_if_fault (group_fault l))) fault) same is)

-- a refused payload has its fault, or memory ran out
pub refused : (found : Option RecordFault) (r : Result (List Mutation) RecordFault) (fault : RecordFault) → ((other : RecordFault) → other ≢ faults.NoMemory → (IsErrOf r other ↔ (found ≡ Some other))) → r ≡ Err fault
    → (fault ≡ faults.NoMemory) ⊎ (found ≡ Some fault)
refused found r (faults.Short at) tells is = inr ((tells (faults.Short at) (λ e. cc)).0 is)
refused found r (faults.Tag at) tells is = inr ((tells (faults.Tag at) (λ e. cc)).0 is)
refused found r (faults.Range at) tells is = inr ((tells (faults.Range at) (λ e. cc)).0 is)
refused found r (faults.Name at) tells is = inr ((tells (faults.Name at) (λ e. cc)).0 is)
refused found r faults.NoMemory tells is = inl refl

pub refused_within : (payload : List ℕ) (fault : RecordFault) → (fault ≡ faults.NoMemory) ⊎ (group_fault payload ≡ Some fault) → offset_of fault ≤ length payload
refused_within payload fault (inl is) = subst (λ (f : RecordFault). offset_of f ≤ length payload) (sym is) (omega arith)
refused_within payload fault (inr is) = group_fault_within payload fault is

pub refused_at : (payload : List ℕ) (fault : RecordFault) (offset : ℕ) (answer : LoadFault) → (fault ≡ faults.NoMemory) ⊎ (group_fault payload ≡ Some fault)
    → IsFaultAt (shifted offset (offset_if_fault (Some fault))) answer → (fault ≡ faults.NoMemory → answer ≡ NoMemory) → IsFaultAt (shifted offset (offset_if_fault (group_fault payload))) answer
refused_at payload fault offset answer (inl is) at memory = subst (λ (f : LoadFault). IsFaultAt (shifted offset (offset_if_fault (group_fault payload))) f) (sym (memory is)) tt
refused_at payload fault offset answer (inr is) at memory = moved _ _ answer (ap (λ (o : Option RecordFault). shifted offset (offset_if_fault o)) is) at

-- what stands after an open gate
closed_or : (gate : ℕ) (rest : List ℕ) → gate ≢ 0 → record_fault_offset (gate ∷ rest) ≡ shifted 1 (tail_fault_offset rest)
closed_or gate rest is = ap (λ (b : Bool). cond b None (shifted 1 (tail_fault_offset rest))) (ne_eqb gate 0 is)

module _ (bytes : List ℕ) (offset : ℕ) (there : offset < length bytes) (is_open : slice_index bytes offset ≢ 0) where
  begins : drop offset bytes ≡ slice_index bytes offset ∷ drop (offset + 1) bytes
  begins = drop_more bytes offset 0 there

  record_there_at : shifted offset (record_fault_offset (drop offset bytes)) ≡ shifted (offset + 1) (tail_fault_offset (drop (offset + 1) bytes))
  record_there_at =
      ap (λ (l : List ℕ). shifted offset (record_fault_offset l)) begins
      ∙ ap (shifted offset) (closed_or (slice_index bytes offset) (drop (offset + 1) bytes) is_open)
      ∙ shifted_twice offset 1 (tail_fault_offset (drop (offset + 1) bytes))

  pub record_of_tail : (fault : LoadFault) → IsFaultAt (shifted (offset + 1) (tail_fault_offset (drop (offset + 1) bytes))) fault → IsFaultAt (shifted offset (record_fault_offset (drop offset bytes))) fault
  record_of_tail fault is = moved _ _ fault record_there_at is

  module _ (size : ℕ) (long : offset + 1 + 4 ≤ length bytes) (least : 1 ≤ size) (most : size ≤ most_group_bytes) (sized : size ≡ number_in bytes (offset + 1) 4) where
    five : offset + 1 + 4 ≡ offset + 5
    five = omega arith

    after_size : drop 4 (drop (offset + 1) bytes) ≡ drop (offset + 5) bytes
    after_size = drop-drop 4 (offset + 1) bytes ∙ ap (λ (n : ℕ). drop n bytes) five

    payload_at : shifted (offset + 1) (tail_fault_offset (drop (offset + 1) bytes)) ≡ shifted (offset + 5) (payload_fault_offset size (drop (offset + 5) bytes))
    payload_at =
        let rest = drop (offset + 1) bytes in
        ap (shifted (offset + 1)) (tail_of_size rest (omega (arith, length-drop (offset + 1) bytes, long)) (omega (arith, sized, least)) (omega (arith, sized, most)))
        ∙ shifted_twice (offset + 1) 4 (payload_fault_offset (number_in bytes (offset + 1) 4) (drop 4 rest))
        ∙ (λ i. shifted (five i) (payload_fault_offset (sym sized i) (after_size i)))

    pub record_of_payload : (fault : LoadFault) → IsFaultAt (shifted (offset + 5) (payload_fault_offset size (drop (offset + 5) bytes))) fault → IsFaultAt (shifted offset (record_fault_offset (drop offset bytes))) fault
    record_of_payload fault is = moved _ _ fault (record_there_at ∙ payload_at) is

    pub record_there : (group : List Mutation) → AreBytes bytes → offset + 5 + size ≤ length bytes → IsGroupText (take size (drop (offset + 5) bytes)) group → IsRecordAt bytes offset group (offset + 5 + size)
    record_there group are within is =
        let payload = group_text group in
        let prefix = take (offset + 1) bytes in
        let following = drop (offset + 5) bytes in
        let counted : prefix ++ bytes_of 4 size ≡ take (offset + 5) bytes = spelled_on bytes prefix (offset + 1) 4 size are long refl (sym sized) ∙ ap (λ (n : ℕ). take n bytes) five in
        let whole : bytes ≡ prefix ++ (bytes_of 4 size ++ following) =
        sym (take-append-drop (offset + 5) bytes) ∙ ap (λ (l : List ℕ). l ++ following) (sym counted) ∙ append_assoc prefix (bytes_of 4 size) following in
        let tail : drop (offset + 1) bytes ≡ bytes_of 4 size ++ following =
        ap (λ (l : List ℕ). drop (offset + 1) l) whole ∙ drop_at prefix (bytes_of 4 size ++ following) (offset + 1) (omega (arith, length-take (offset + 1) bytes, long)) in
        let as_long : length payload ≡ size = ap length (sym is.spelled) ∙ omega (arith, length-take size following, length-drop (offset + 5) bytes, within) in
        let split : following ≡ payload ++ drop (offset + 5 + size) bytes =
        sym (take-append-drop size following) ∙ (λ i. is.spelled i ++ drop-drop size (offset + 5) bytes i) in
        let text : bytes_of 4 size ++ following ≡ counted32_text payload ++ drop (offset + 5 + size) bytes =
        (λ i. bytes_of 4 (sym as_long i) ++ split i) ∙ sym (append_assoc (bytes_of 4 (length payload)) payload (drop (offset + 5 + size) bytes)) in
        record {
          gate = slice_index bytes offset;
          is_open = is_open;
          group = is.group;
          spelled = begins ∙ ap (λ (l : List ℕ). slice_index bytes offset ∷ l) (tail ∙ text);
          there = omega (arith, as_long);
          within = within;
        }

-- the records so far: none, and one more
pub none_before : (bytes : List ℕ) (maps : Maps) → AgreesWith [] maps → HasContentsOf (AreBefore bytes 41) maps
none_before bytes maps agrees = record { mutations = []; so = record { groups = []; joined = refl; whole = refl; there = refl }; agrees = agrees }

one_record : (groups : List (List Mutation)) (group : List Mutation) (rest following next : List ℕ) (gate : ℕ) → gate ≢ 0 → IsGroup group → Records rest groups following → following ≡ gate ∷ counted32_text (group_text group) ++ next → Records rest (groups ++ group ∷ []) next
one_record [] group rest following next gate is_open is so_far spelled = (gate, next, is_open, is, so_far ∙ spelled, refl)
one_record (first ∷ groups) group rest following next gate is_open is so_far spelled =
    (so_far.0, so_far.1, so_far.2, so_far.3, so_far.4, one_record groups group so_far.1 following next gate is_open is so_far.5 spelled)

end_more : (groups : List (List Mutation)) (group : List Mutation) → end_of (groups ++ group ∷ []) ≡ end_of groups + 5 + length (group_text group)
end_more [] group = refl
end_more (first ∷ groups) group = omega (arith, end_more groups group)

joined_more : (groups : List (List Mutation)) (group : List Mutation) → flat_map (λ group. group) (groups ++ group ∷ []) ≡ flat_map (λ group. group) groups ++ group
joined_more groups group = flat_map-append (λ group. group) groups (group ∷ []) ∙ ap (λ (l : List Mutation). flat_map (λ group. group) groups ++ l) (append-nil group)

before_more : (bytes : List ℕ) (offset : ℕ) (mutations group : List Mutation) (end : ℕ) → AreBefore bytes offset mutations → IsRecordAt bytes offset group end → AreBefore bytes end (mutations ++ group)
before_more bytes offset mutations group end before is = record {
  groups = before.groups ++ group ∷ [];
  joined = ap (λ (l : List Mutation). l ++ group) before.joined ∙ sym (joined_more before.groups group);
  whole = one_record before.groups group (drop 41 bytes) (drop offset bytes) (drop end bytes) is.gate is.is_open is.group before.whole is.spelled;
  there = omega (arith, is.there, before.there, end_more before.groups group);
}

pub one_more : (bytes : List ℕ) (offset : ℕ) (group : List Mutation) (end : ℕ) (old new : Maps) → HasContentsOf (AreBefore bytes offset) old → IsRecordAt bytes offset group end
    → ((changes : List Change) → AgreesWith changes old → AgreesWith (changes ++ changes_of group) new) → HasContentsOf (AreBefore bytes end) new
one_more bytes offset group end old new before is goes = record {
  mutations = before.mutations ++ group;
  so = before_more bytes offset before.mutations group end before.so is;
  agrees = agrees_more before.mutations group new (goes (changes_of before.mutations) before.agrees);
}

-- what fails after them
shifted_some : (from at : ℕ) (offset : Option ℕ) → shifted from offset ≡ Some at → (inner : ℕ) × (offset ≡ Some inner) × (at ≡ from + inner)
shifted_some from at None is = absurd cc
shifted_some from at (Some inner) is = (inner, refl, cc)

pub record_fails : (bytes : List ℕ) (offset : ℕ) (maps : Maps) (fault : LoadFault) → HasContentsOf (AreBefore bytes offset) maps → IsFaultAt (shifted offset (record_fault_offset (drop offset bytes))) fault → IsRecordsFault bytes fault
record_fails bytes offset maps (Damaged at) before is =
    let inner = shifted_some offset at (record_fault_offset (drop offset bytes)) is in
    record {
      groups = before.so.groups;
      following = drop offset bytes;
      whole = before.so.whole;
      at = inner.0;
      fault = inner.1;
      there = omega (arith, inner.2, before.so.there);
    }
record_fails bytes offset maps NoMemory before is = tt
record_fails bytes offset maps NotSealed before is = absurd is
record_fails bytes offset maps Failed before is = absurd is

-- a refusal of a record that is handed on
pub refused_so : {T : Type 0} (r : Result T LoadFault) (P : T → Type 0) (bytes : List ℕ) (fault other : LoadFault) → r ≡ Err fault → fault ≡ other → IsRecordsFault bytes other → MatchResult r P (λ f. IsRecordsFault bytes f)
refused_so r P bytes fault other is same has = subst (λ x. MatchResult x P (λ f. IsRecordsFault bytes f)) (sym (is ∙ ap Err same)) has

pub ends_there : (bytes : List ℕ) (offset : ℕ) (maps : Maps) → HasContentsOf (AreBefore bytes offset) maps → length bytes ≤ offset → IsRecordFault bytes offset
ends_there bytes offset maps before end = record {
  groups = before.so.groups;
  following = drop offset bytes;
  whole = before.so.whole;
  at = 0;
  fault = ap record_fault_offset (drop_all offset bytes end);
  there = omega (arith, before.so.there);
}

pub closed_there : (bytes : List ℕ) (offset : ℕ) → offset < length bytes → slice_index bytes offset ≡ 0 → drop offset bytes ≡ 0 ∷ drop (offset + 1) bytes
closed_there bytes offset there closed = drop_more bytes offset 0 there ∙ ap (λ (n : ℕ). n ∷ drop (offset + 1) bytes) closed
