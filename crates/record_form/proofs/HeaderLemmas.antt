-- A header is spelled by its numbers, and its numbers are those that are spelled.
use Rattle.std.proofs.Common.{◌≡◌, ℕ, ◌+◌, ◌^◌, ◌<◌, ◌≤◌, Bool, true, false, cond, ◌&&◌, List, [], ◌∷◌, ◌++◌, length, take, drop, refl, sym, ap, ◌∙◌, arith, inl, inr, Ok, IfOk, Option, None, Some}
use Rattle.std.specs.Prelude.{◌==◌}
use Rattle.std.proofs.Math.Nat.{pow-le-pow_right}
use Rattle.std.proofs.lemmas.Bool.{cases_lt, eqb-true, ltb-true, leb-true, lt-ltb, le-leb}
use Rattle.std.proofs.lemmas.List.{take-append-drop, take-append-le, drop-take, length-take-le, take_all, get_or-take, get_or_past, get_or-drop, length-take, length-drop}
use Rattle.byte_fields.specs.Numbers as numbers
use Rattle.byte_fields.specs.Numbers.{big_endian, bytes_of, bytes16, bytes32, bytes64, number_in}
use Rattle.byte_fields.proofs.NumbersLemmas.{AreBytes, big_endian-bytes_of, bytes_of-big_endian, big_endian-lt}
use Rattle.record_form.specs.declared.header.Header.{Header}
use Rattle.record_form.specs.declared.fault.RecordFault.{RecordFault}
use Rattle.record_form.specs.HeaderText.{store_magic, store_format, IsHeader, header_text}
use Rattle.record_form.specs.HeaderFault.{header_in, header_checks, first_failed, header_fault, unless}

pub AreBytes-take : (n : ℕ) (bytes : List ℕ) → AreBytes bytes → AreBytes (take n bytes)
AreBytes-take n bytes are i =
    elim (cases_lt i n) [
      | inl below ↦ rw (get_or-take n bytes i 0 below) (are i)
      | inr past ↦ rw (get_or_past (take n bytes) i 0 (omega (arith, length-take n bytes))) (omega arith)
    ]

pub AreBytes-drop : (n : ℕ) (bytes : List ℕ) → AreBytes bytes → AreBytes (drop n bytes)
AreBytes-drop n bytes are i = rw get_or-drop (are (n + i))

pub take_prefix : (text : List ℕ) (offset size : ℕ) → take offset (take (offset + size) text) ≡ take offset text
take_prefix text offset size =
    elim (cases_lt (length text) (offset + size)) [
      | inl past ↦ ap (take offset) (take_all (offset + size) text (omega arith))
      | inr within ↦
          sym (take-append-le offset (take (offset + size) text) (drop (offset + size) text) (omega (arith, length-take-le (offset + size) text within)))
          ∙ ap (take offset) (take-append-drop (offset + size) text)
    ]

pub take_on : (text : List ℕ) (offset size : ℕ) → take (offset + size) text ≡ take offset text ++ take size (drop offset text)
take_on text offset size =
    let whole = sym (take-append-drop offset (take (offset + size) text)) in
    let prefix : take offset (take (offset + size) text) ≡ take offset text = take_prefix text offset size in
    whole ∙ ap (λ (first : List ℕ). first ++ drop offset (take (offset + size) text)) prefix ∙ ap (λ (last : List ℕ). take offset text ++ last) (drop-take offset size text)

-- the next field of a text
pub spelled_on : (text prefix : List ℕ) (offset size n : ℕ) → AreBytes text → offset + size ≤ length text → prefix ≡ take offset text → number_in text offset size ≡ n → prefix ++ bytes_of size n ≡ take (offset + size) text
spelled_on text prefix offset size n are within so_far is =
    let bytes = take size (drop offset text) in
    let long : length bytes ≡ size = length-take-le size (drop offset text) (omega (arith, length-drop offset text)) in
    let spelled : bytes_of size (big_endian bytes) ≡ bytes = ap (λ (k : ℕ). bytes_of k (big_endian bytes)) (sym long) ∙ bytes_of-big_endian bytes (AreBytes-take size (drop offset text) (AreBytes-drop offset text are)) in
    let number : bytes_of size n ≡ bytes = ap (bytes_of size) (sym is) ∙ spelled in
    ap (λ (first : List ℕ). first ++ bytes_of size n) so_far ∙ ap (λ (last : List ℕ). take offset text ++ last) number ∙ sym (take_on text offset size)

header_spelled : (text : List ℕ) → AreBytes text → length text ≡ 40 → number_in text 0 4 ≡ store_magic → number_in text 4 2 ≡ store_format → number_in text 28 8 ≡ 0 → number_in text 36 4 ≡ 0 → text ≡ header_text (header_in text)
header_spelled text are long magic format zeros others =
    let a = spelled_on text [] 0 4 store_magic are (omega arith) refl magic in
    let b = spelled_on text _ 4 2 store_format are (omega arith) a format in
    let c = spelled_on text _ 6 2 _ are (omega arith) b refl in
    let d = spelled_on text _ 8 8 _ are (omega arith) c refl in
    let e = spelled_on text _ 16 8 _ are (omega arith) d refl in
    let f = spelled_on text _ 24 2 _ are (omega arith) e refl in
    let g = spelled_on text _ 26 2 _ are (omega arith) f refl in
    let h = spelled_on text _ 28 8 0 are (omega arith) g zeros in
    let i = spelled_on text _ 36 4 0 are (omega arith) h others in
    sym (i ∙ take_all 40 text (omega arith))

abbrev pub AllPass : List (Bool × RecordFault) → Type 0
AllPass [] = Unit {0}
AllPass (check ∷ checks) = (check.0 ≡ true) × AllPass checks

passed_one : {T : Type 0} (b : Bool) (fault : RecordFault) (checks : List (Bool × RecordFault)) (value : T) (P : T → Type 0) → ((b ≡ true) × AllPass checks → P value)
    → ((AllPass checks → P value) → IfOk (unless (first_failed checks) value) P) → IfOk (unless (cond b (first_failed checks) (Some fault)) value) P
passed_one true fault checks value P law others = others (λ all. law (refl, all))
passed_one false fault checks value P law others = tt

-- what follows where all checks pass holds of the value
passed : {T : Type 0} (checks : List (Bool × RecordFault)) (value : T) (P : T → Type 0) → (AllPass checks → P value) → IfOk (unless (first_failed checks) value) P
passed [] value P law = law tt
passed (check ∷ checks) value P law = passed_one check.0 check.1 checks value P law (passed checks value P)

pub all_pass : {T : Type 0} (checks : List (Bool × RecordFault)) (value : T) → AllPass checks → unless (first_failed checks) value ≡ Ok value
all_pass [] value all = refl
all_pass (check ∷ checks) value all = rw all.0 (all_pass checks value all.1)

pub both_true : (a b : Bool) → (a && b) ≡ true → (a ≡ true) × (b ≡ true)
both_true true b is = (refl, is)
both_true false b is = absurd cc

pub are_both : (a b : Bool) → a ≡ true → b ≡ true → (a && b) ≡ true
are_both a b one other = rw one other

below16 : (text : List ℕ) (offset : ℕ) → AreBytes text → number_in text offset 2 < 2 ^ 16
below16 text offset are =
    let bytes = take 2 (drop offset text) in
    let below = big_endian-lt bytes (AreBytes-take 2 (drop offset text) (AreBytes-drop offset text are)) in
    let bound : 256 ^ length bytes ≤ 256 ^ 2 = pow-le-pow_right {n = 256} (omega arith) {i = length bytes} {j = 2} (omega (arith, length-take 2 (drop offset text))) in
    omega arith

-- what is decoded is spelled so
pub header_found : (text : List ℕ) → AreBytes text → length text ≡ 40 → IfOk (unless (header_fault text) (header_in text)) (λ header. IsHeader header × (text ≡ header_text header))
header_found text are long =
    passed (header_checks text (header_in text)) (header_in text) (λ header. IsHeader header × (text ≡ header_text header)) (λ all.
    let version = both_true _ _ all.1.1.1.0 in
    let epoch = both_true _ _ all.1.1.1.1.0 in
    let count = both_true _ _ all.1.1.1.1.1.0 in
    let zeros = both_true _ _ all.1.1.1.1.1.1.0 in (
      record {
        partition = ltb-true _ _ count.0;
        least_version = leb-true _ _ version.0;
        version = ltb-true _ _ version.1;
        least_epoch = leb-true _ _ epoch.0;
        epoch = ltb-true _ _ epoch.1;
        host = below16 text 24 are;
        partitions = leb-true _ _ count.1;
      },
      header_spelled text are long (eqb-true _ _ all.0) (eqb-true _ _ all.1.0) (eqb-true _ _ zeros.0) (eqb-true _ _ zeros.1),
    ))

pub number_again : (text : List ℕ) (offset size : ℕ) (all : List ℕ) (n : ℕ) → n < 256 ^ size → text ≡ all → take size (drop offset all) ≡ bytes_of size n → number_in text offset size ≡ n
number_again text offset size all n fits here is = ap (λ (bytes : List ℕ). big_endian (take size (drop offset bytes))) here ∙ ap big_endian is ∙ big_endian-bytes_of size n fits

-- what is spelled so is decoded
pub header_again : (header : Header) (text : List ℕ) → IsHeader header → text ≡ header_text header → unless (header_fault text) (header_in text) ≡ Ok header
unfolding numbers.bytes_of
header_again header text is here =
    let magic = number_again text 0 4 (header_text header) store_magic (omega arith) here refl in
    let format = number_again text 4 2 (header_text header) store_format (omega arith) here refl in
    let partition = number_again text 6 2 (header_text header) header.id.partition (omega (arith, is.partition, is.partitions)) here refl in
    let version = number_again text 8 8 (header_text header) header.id.version (omega (arith, is.version)) here refl in
    let epoch = number_again text 16 8 (header_text header) header.id.epoch (omega (arith, is.epoch)) here refl in
    let host = number_again text 24 2 (header_text header) header.id.host (omega (arith, is.host)) here refl in
    let partitions = number_again text 26 2 (header_text header) header.partitions (omega (arith, is.partitions)) here refl in
    let zeros = number_again text 28 8 (header_text header) 0 (omega arith) here refl in
    let others = number_again text 36 4 (header_text header) 0 (omega arith) here refl in
    let same : header_in text ≡ header = λ i. record { id = record { partition = partition i; version = version i; epoch = epoch i; host = host i }; partitions = partitions i } in
    let checks : AllPass (header_checks text header) = (
      ap (λ (n : ℕ). n == store_magic) magic,
      (
        ap (λ (n : ℕ). n == store_format) format,
        (
          lt-ltb _ _ (omega (arith, is.partition, is.partitions)),
          (
            are_both _ _ (le-leb _ _ is.least_version) (lt-ltb _ _ is.version),
            (
              are_both _ _ (le-leb _ _ is.least_epoch) (lt-ltb _ _ is.epoch),
              (
                are_both _ _ (lt-ltb _ _ is.partition) (le-leb _ _ is.partitions),
                (
                  are_both _ _ (ap (λ (n : ℕ). n == 0) zeros) (ap (λ (n : ℕ). n == 0) others),
                  tt,
                ),
              ),
            ),
          ),
        ),
      ),
    ) in
    ap (λ (h : Header). unless (first_failed (header_checks text h)) h) same ∙ all_pass (header_checks text header) header checks

-- where there is no fault
unless_ok : (fault : Option RecordFault) (value wanted : Header) → unless fault value ≡ Ok wanted → (fault ≡ None) × (value ≡ wanted)
unless_ok None value wanted is = (refl, cc)
unless_ok (Some fault) value wanted is = absurd cc

again : (header : Header) → IsHeader header → (header_fault (header_text header) ≡ None) × (header_in (header_text header) ≡ header)
again header is = unless_ok (header_fault (header_text header)) (header_in (header_text header)) header (header_again header (header_text header) is refl)

-- a header's bytes have no fault, and spell its numbers
pub header_fault-header_text : (header : Header) → IsHeader header → header_fault (header_text header) ≡ None
header_fault-header_text header is = (again header is).0

pub header_in-header_text : (header : Header) → IsHeader header → header_in (header_text header) ≡ header
header_in-header_text header is = (again header is).1

-- so a header has one spelling
pub header_text-injective : (a b : Header) → IsHeader a → IsHeader b → header_text a ≡ header_text b → a ≡ b
header_text-injective a b is also same = sym (header_in-header_text a is) ∙ ap header_in same ∙ header_in-header_text b also
