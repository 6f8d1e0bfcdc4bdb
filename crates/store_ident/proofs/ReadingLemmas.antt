-- Laws of the results of reading: each result comes exactly with its cause.
use Rattle.std.proofs.Common.{◌≡◌, ℕ, ◌-◌, ◌^◌, ◌≤◌, ◌↔◌, Bool, true, false, IsTrue, if◌then◌else◌, List, ◌∷◌, ◌++◌, Option, Some, None, Result, Ok, Err, IsErrOf, refl, sym, ap, ◌∙◌, subst, arith}
use Rattle.std.proofs.lemmas.Bool.Decides.{nat_tests}
use Rattle.std.specs.Fmt.{decimal}
use Rattle.std.specs.Str.Parse.{digits_value}
use Rattle.store_ident.specs.Faults.{IsFormFault, IsRangeFault, first_out_of_range}
use Rattle.store_ident.specs.Ident.{hexadecimal, ident_text, is_number16, is_counter, IsInRanges}
use Rattle.store_ident.specs.Numbers.{NumberTexts, AreNumbersOf, HasForm, version_start, epoch_start, host_start}
use Rattle.store_ident.specs.Reading.{IsReading, id_of}
use Rattle.store_ident.specs.declared.fault.IdFault.{IdFault}
use Rattle.store_ident.specs.declared.fault.IdFault.TheVariants.{Form, Range}
use Rattle.store_ident.specs.declared.ident.StoreId.{StoreId}
use Rattle.store_ident.proofs.DigitLemmas.{IsNumberText-digits, digits_value-digits, decimal-value, hexadecimal-value}
use Rattle.store_ident.proofs.LeavesLemmas.{LeavesAt-unique}
use Rattle.store_ident.proofs.NumberLemmas.{same_before_dash}

-- ---- the first number out of its range

-- the offset of the first of four tests that fails
abbrev pub chosen : Bool → Bool → Bool → Bool → ℕ → ℕ → ℕ → Option ℕ
chosen a b c d second third fourth = if a then (if b then (if c then (if d then None else Some fourth) else Some third) else Some second) else Some 0

chosen_none : (a b c d : Bool) (second third fourth : ℕ) → chosen a b c d second third fourth ≡ None → (a ≡ true) × (b ≡ true) × (c ≡ true) × (d ≡ true)
chosen_none true true true true second third fourth is = (refl, refl, refl, refl)
chosen_none true true true false second third fourth is = cc
chosen_none true true false d second third fourth is = cc
chosen_none true false c d second third fourth is = cc
chosen_none false b c d second third fourth is = cc

-- ---- the numbers of a text

-- a text has the form by one list of numbers
numbers_unique : (text : List ℕ) (ms ns : NumberTexts) → AreNumbersOf text ms → AreNumbersOf text ns → ms ≡ ns
numbers_unique text ms ns p q =
    let a = same_before_dash 10 (omega arith) ms.partition ns.partition _ _ p.partition.digits q.partition.digits (sym p.whole ∙ q.whole) in
    let b = same_before_dash 16 (omega arith) ms.version ns.version _ _ p.version.digits q.version.digits a.1 in
    let c = same_before_dash 16 (omega arith) ms.epoch ns.epoch _ _ p.epoch.digits q.epoch.digits b.1 in
    (λ i. record { partition = a.0 i; version = b.0 i; epoch = c.0 i; host = c.1 i })

abbrev texts_of : StoreId → NumberTexts
texts_of id = record { partition = decimal id.partition; version = hexadecimal id.version; epoch = hexadecimal id.epoch; host = decimal id.host }

number_most : (n : ℕ) → IsTrue (is_number16 n) → n ≤ 65535
number_most n is = grind (arith, nat_tests)

count_most : (n : ℕ) → IsTrue (is_counter n) → n ≤ 2 ^ 58 - 1
count_most n is = grind (arith, nat_tests)

-- the spelling of an identifier in its ranges has the form, by the texts of its numbers
spelling_has_form : (text : List ℕ) (id : StoreId) → text ≡ ident_text id → IsInRanges id → AreNumbersOf text (texts_of id)
spelling_has_form text id is within = record {
  whole = is;
  partition = IsNumberText-digits 10 (omega arith) (omega arith) id.partition (omega (arith, number_most id.partition within.partition));
  version = IsNumberText-digits 16 (omega arith) (omega arith) id.version (omega (arith, count_most id.version within.version));
  epoch = IsNumberText-digits 16 (omega arith) (omega arith) id.epoch (omega (arith, count_most id.epoch within.epoch));
  host = IsNumberText-digits 10 (omega arith) (omega arith) id.host (omega (arith, number_most id.host within.host));
}

id_of-texts_of : (id : StoreId) → IsInRanges id → id_of (texts_of id) ≡ id
id_of-texts_of id within =
    let p = digits_value-digits 10 (omega arith) (omega arith) id.partition (omega (arith, number_most id.partition within.partition)) in
    let v = digits_value-digits 16 (omega arith) (omega arith) id.version (omega (arith, count_most id.version within.version)) in
    let e = digits_value-digits 16 (omega arith) (omega arith) id.epoch (omega (arith, count_most id.epoch within.epoch)) in
    let h = digits_value-digits 10 (omega arith) (omega arith) id.host (omega (arith, number_most id.host within.host)) in
    (λ i. record { partition = p i; version = v i; epoch = e i; host = h i })

-- each number of a spelling is in its range
spelling_in_range : (id : StoreId) → IsInRanges id → first_out_of_range (texts_of id) ≡ None
spelling_in_range id within =
    let same = id_of-texts_of id within in
    let p : is_number16 (id_of (texts_of id)).partition ≡ true = ap (λ x. is_number16 x.partition) same ∙ within.partition in
    let v : is_counter (id_of (texts_of id)).version ≡ true = ap (λ x. is_counter x.version) same ∙ within.version in
    let e : is_counter (id_of (texts_of id)).epoch ≡ true = ap (λ x. is_counter x.epoch) same ∙ within.epoch in
    let h : is_number16 (id_of (texts_of id)).host ≡ true = ap (λ x. is_number16 x.host) same ∙ within.host in
    (λ i. chosen (p i) (v i) (e i) (h i) (version_start (texts_of id)) (epoch_start (texts_of id)) (host_start (texts_of id)))

-- the numbers of a text, each in its range, are those of the identifier that it spells
numbers_spell : (text : List ℕ) (ns : NumberTexts) → AreNumbersOf text ns → first_out_of_range ns ≡ None → (text ≡ ident_text (id_of ns)) × IsInRanges (id_of ns)
numbers_spell text ns are in_range =
    let t = chosen_none (is_number16 (digits_value 10 ns.partition)) (is_counter (digits_value 16 ns.version)) (is_counter (digits_value 16 ns.epoch)) (is_number16 (digits_value 10 ns.host)) _ _ _ in_range in
    let p = decimal-value ns.partition are.partition (omega (arith, number_most (digits_value 10 ns.partition) t.0)) in
    let v = hexadecimal-value ns.version are.version (omega (arith, count_most (digits_value 16 ns.version) t.1)) in
    let e = hexadecimal-value ns.epoch are.epoch (omega (arith, count_most (digits_value 16 ns.epoch) t.2)) in
    let h = decimal-value ns.host are.host (omega (arith, number_most (digits_value 10 ns.host) t.3)) in
    (are.whole ∙ sym (λ i. p i ++ 45 ∷ (v i ++ 45 ∷ (e i ++ 45 ∷ h i))), record { partition = t.0; version = t.1; epoch = t.2; host = t.3 })

-- ---- each result and its cause

pub value_exact : (text : List ℕ) (r : Result StoreId IdFault) → IsReading text r → (id : StoreId) → (r ≡ Ok id) ↔ ((text ≡ ident_text id) × IsInRanges id)
value_exact text r reading id = (to r reading, from r reading)
  where
    to : (r : Result StoreId IdFault) → IsReading text r → r ≡ Ok id → (text ≡ ident_text id) × IsInRanges id
    to (Ok found) reading is =
        let same : id_of reading.numbers ≡ id = sym reading.is ∙ (cc) in
        subst (λ x. (text ≡ ident_text x) × IsInRanges x) same (numbers_spell text reading.numbers reading.are reading.in_range)
    to (Err fault) reading is = cc

    from : (r : Result StoreId IdFault) → IsReading text r → (text ≡ ident_text id) × IsInRanges id → r ≡ Ok id
    from (Ok found) reading spelled =
        let same : reading.numbers ≡ texts_of id = numbers_unique text reading.numbers (texts_of id) reading.are (spelling_has_form text id spelled.0 spelled.1) in
        ap (λ x. Ok x) (reading.is ∙ ap id_of same ∙ id_of-texts_of id spelled.1)
    from (Err (Form at)) reading spelled = absurd (reading.other (texts_of id, spelling_has_form text id spelled.0 spelled.1))
    from (Err (Range at)) reading spelled =
        let same : reading.0 ≡ texts_of id = numbers_unique text reading.0 (texts_of id) reading.1 (spelling_has_form text id spelled.0 spelled.1) in
        let none : first_out_of_range reading.0 ≡ None = ap first_out_of_range same ∙ spelling_in_range id spelled.1 in
        cc (none, reading.2)

pub form_exact : (text : List ℕ) (r : Result StoreId IdFault) → IsReading text r → (at : ℕ) → IsErrOf r (Form at) ↔ IsFormFault text at
form_exact text r reading at = (to r reading, from r reading)
  where
    to : (r : Result StoreId IdFault) → IsReading text r → IsErrOf r (Form at) → IsFormFault text at
    to r reading is = subst (IsReading text) is reading

    from : (r : Result StoreId IdFault) → IsReading text r → IsFormFault text at → IsErrOf r (Form at)
    from (Ok found) reading leaves = absurd (leaves.other (reading.numbers, reading.are))
    from (Err (Form other)) reading leaves = ap (λ x. Err (Form x)) (LeavesAt-unique HasForm text other at reading leaves)
    from (Err (Range other)) reading leaves = absurd (leaves.other (reading.0, reading.1))

pub range_exact : (text : List ℕ) (r : Result StoreId IdFault) → IsReading text r → (at : ℕ) → IsErrOf r (Range at) ↔ IsRangeFault text at
range_exact text r reading at = (to r reading, from r reading)
  where
    to : (r : Result StoreId IdFault) → IsReading text r → IsErrOf r (Range at) → IsRangeFault text at
    to r reading is = subst (IsReading text) is reading

    from : (r : Result StoreId IdFault) → IsReading text r → IsRangeFault text at → IsErrOf r (Range at)
    from (Ok found) reading out =
        let same : reading.numbers ≡ out.0 = numbers_unique text reading.numbers out.0 reading.are out.1 in
        let none : first_out_of_range out.0 ≡ None = sym (ap first_out_of_range same) ∙ reading.in_range in
        cc (none, out.2)
    from (Err (Form other)) reading out = absurd (reading.other (out.0, out.1))
    from (Err (Range other)) reading out =
        let same : reading.0 ≡ out.0 = numbers_unique text reading.0 out.0 reading.1 out.1 in
        let places : Some other ≡ Some at = sym reading.2 ∙ ap first_out_of_range same ∙ out.2 in
        let same_offset : other ≡ at = cc in
        ap (λ x. Err (Range x)) same_offset
