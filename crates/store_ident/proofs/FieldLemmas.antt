-- Laws of the four numbers of a text: they make up the text, or the text is refused.
use Rattle.std.proofs.Common.{◌≡◌, ℕ, ◌+◌, ◌-◌, ◌^◌, ◌≤◌, ◌<◌, inl, inr, min, Bool, true, false, List, [], ◌∷◌, ◌++◌, length, get_or, take, drop, Option, Some, Result, Ok, Err, refl, sym, ap, ◌∙◌, subst, arith}
use Rattle.std.proofs.lemmas.Bool.{cases_lt}
use Rattle.std.proofs.lemmas.Bool.Decides.{nat_tests}
use Rattle.std.proofs.lemmas.List.{take_rest, take-append-drop, drop-drop, drop_more, length-drop, length-take-le}
use Rattle.std.specs.Int.{is_in_range}
use Rattle.std.specs.Str.Parse.{digits_value}
use Rattle.store_ident.specs.Faults.{LeavesAt}
use Rattle.store_ident.specs.Ident.{is_number16, is_counter}
use Rattle.store_ident.specs.Numbers.{IsNumberText, NumberTexts, AreNumbersOf, HasForm, version_start, epoch_start, host_start}
use Rattle.store_ident.specs.Reading.{held_value, IsLeading, IsField, IsNoField, IsLastField, IsNoLastField, IsWithin, IsNotWithin, IsReading}
use Rattle.store_ident.specs.declared.fault.IdFault.{IdFault}
use Rattle.store_ident.specs.declared.fault.IdFault.TheVariants.{Form, Range}
use Rattle.store_ident.specs.declared.fields.Field.{Field}
use Rattle.store_ident.specs.declared.ident.StoreId.{StoreId}
use Rattle.store_ident.specs.declared.number.Leading.{Leading}
use Rattle.store_ident.proofs.ReadingLemmas.{chosen}
use Rattle.store_ident.proofs.LeavesLemmas.{NumberThen, number_front, LeavesAt-same, last_leaves, field_leaves, leaves_after}

-- ---- a number and its range

-- a value that is held is judged as the value itself
held_in_range : (least most v : ℕ) → most < 2 ^ 64 - 1 → is_in_range least most (min v (2 ^ 64 - 1)) ≡ is_in_range least most v
held_in_range least most v fits =
    elim (cases_lt v (2 ^ 64)) [
      | inl small ↦ let same : min v (2 ^ 64 - 1) ≡ v = omega arith in ap (is_in_range least most) same
      | inr great ↦
          let same : min v (2 ^ 64 - 1) ≡ 2 ^ 64 - 1 = omega arith in
          ap (is_in_range least most) same ∙ out (2 ^ 64 - 1) (omega arith) ∙ sym (out v (omega arith))
    ]
  where
    out : (n : ℕ) → most < n → is_in_range least most n ≡ false
    out n over = grind (arith, nat_tests)

judged : (base least most value : ℕ) (numeral : List ℕ) (b : Bool) → most < 2 ^ 64 - 1 → value ≡ held_value base numeral → is_in_range least most value ≡ b → is_in_range least most (digits_value base numeral) ≡ b
judged base least most value numeral b fits is found = sym (held_in_range least most (digits_value base numeral) fits) ∙ sym (ap (is_in_range least most) is) ∙ found

not_held : (least most v : ℕ) → most < 2 ^ 64 - 1 → is_in_range least most v ≡ true → min v (2 ^ 64 - 1) ≡ v
not_held least most v fits found = let within : v ≤ most = grind (arith, nat_tests) in omega arith

-- a number with a dash after it is a field
pub IsField-found : (base : ℕ) (text : List ℕ) (from : ℕ) (number : Leading) → from ≤ length text → IsLeading base (take (length text - from) (drop from text)) number → (number.length ≡ 0 → ⊥)
    → (from + number.length ≡ length text → ⊥) → get_or text (from + number.length) 0 ≡ 45 → IsField base text from (record { from = from; next = from + number.length + 1; value = number.value })
IsField-found base text from number fits found some more dash =
    let k : ℕ = number.length in
    let leading : IsLeading base (drop from text) number = subst (λ xs. IsLeading base xs number) (take_rest text from) found in
    let count : length (drop from text) ≡ length text - from = length-drop from text in
    let prefix : length (take k (drop from text)) ≡ k = length-take-le k (drop from text) leading.within in
    record {
      numeral = take k (drop from text);
      is = number_front base (drop from text) number leading (omega arith);
      whole = sym (take-append-drop k (drop from text))
          ∙ ap (λ xs. take k (drop from text) ++ xs) (drop-drop k from text ∙ drop_more text (from + k) 0 (omega (arith, leading.within)) ∙ ap (λ b. b ∷ drop (from + k + 1) text) dash);
      starts = refl;
      next = omega arith;
      within = omega (arith, leading.within);
      value = leading.prefix.value;
    }

-- a refusal that is handed on
pub handed_on : (text : List ℕ) (r : Result StoreId IdFault) (last fault : IdFault) → r ≡ Err last → last ≡ fault → IsReading text (Err fault) → IsReading text r
handed_on text r last fault is same reading = subst (IsReading text) (sym (is ∙ ap Err same)) reading

-- ---- the form, number by number

abbrev IsHostText : List ℕ → Type 0
IsHostText = IsNumberText 10

abbrev IsEpochText : List ℕ → Type 0
IsEpochText = NumberThen 16 IsHostText

abbrev IsVersionText : List ℕ → Type 0
IsVersionText = NumberThen 16 IsEpochText

abbrev IsWholeText : List ℕ → Type 0
IsWholeText = NumberThen 10 IsVersionText

to_form : (text : List ℕ) → IsWholeText text → HasForm text
to_form text p =
    let v = p.follows in
    let e = v.follows in (
      record { partition = p.numeral; version = v.numeral; epoch = e.numeral; host = e.rest },
      record {
        whole = p.whole ∙ ap (λ xs. p.numeral ++ 45 ∷ xs) (v.whole ∙ ap (λ xs. v.numeral ++ 45 ∷ xs) e.whole);
        partition = p.is;
        version = v.is;
        epoch = e.is;
        host = e.follows;
      },
    )

from_form : (text : List ℕ) → HasForm text → IsWholeText text
from_form text h =
    let ns = h.0 in
    record {
      numeral = ns.partition;
      rest = ns.version ++ 45 ∷ (ns.epoch ++ 45 ∷ ns.host);
      whole = h.1.whole;
      is = h.1.partition;
      follows = record { numeral = ns.version; rest = ns.epoch ++ 45 ∷ ns.host; whole = refl; is = h.1.version; follows = record { numeral = ns.epoch; rest = ns.host; whole = refl; is = h.1.epoch; follows = h.1.host } };
    }

-- after an offset the text leaves a language
LeavesFrom : (List ℕ → Type 0) → List ℕ → ℕ → ℕ → Type 0
LeavesFrom IsOf text from at = (j : ℕ) × (at ≡ from + j) × LeavesAt IsOf (drop from text) j

-- what leaves the language after a number and its dash leaves it with them
after_field : (base : ℕ) → 2 ≤ base → base ≤ 16 → (IsRest : List ℕ → Type 0) (text : List ℕ) (from at : ℕ) (field : Field) → IsField base text from field → LeavesFrom IsRest text field.next at → LeavesFrom (NumberThen base IsRest) text from at
unfolding LeavesFrom
after_field base low high IsRest text from at field is leaves =
    (length is.numeral + 1 + leaves.0, omega (arith, leaves.1, is.next), subst (λ xs. LeavesAt (NumberThen base IsRest) xs (length is.numeral + 1 + leaves.0)) (sym is.whole) (leaves_after base low high IsRest is.numeral (drop field.next text) leaves.0 is.is leaves.2))

bad_field : (base : ℕ) → 2 ≤ base → base ≤ 16 → (IsRest : List ℕ → Type 0) (some_rest text : List ℕ) (from : ℕ) (fault : IdFault) → IsRest some_rest → IsNoField base text from fault → (at : ℕ) × (fault ≡ Form at) × LeavesFrom (NumberThen base IsRest) text from at
unfolding LeavesFrom
bad_field base low high IsRest some_rest text from fault follows bad =
    (from + bad.number.length, bad.is, (bad.number.length, refl, field_leaves base low high IsRest some_rest (drop from text) bad.number follows bad.leading bad.lacks))

bad_last : (text : List ℕ) (from : ℕ) (fault : IdFault) → IsNoLastField 10 text from fault → (at : ℕ) × (fault ≡ Form at) × LeavesFrom IsHostText text from at
unfolding LeavesFrom
bad_last text from fault bad =
    (from + bad.number.length, bad.is, (bad.number.length, refl, last_leaves 10 (omega arith) (omega arith) (drop from text) bad.number bad.leading bad.lacks))

-- a text that leaves the form from its beginning on is refused there
refused : (text : List ℕ) (fault : IdFault) (at : ℕ) → fault ≡ Form at → LeavesFrom IsWholeText text 0 at → IsReading text (Err fault)
unfolding LeavesFrom
refused text fault at is leaves =
    let same : leaves.0 ≡ at = omega (arith, leaves.1) in
    subst (λ f. IsReading text (Err f)) (sym is) (LeavesAt-same IsWholeText HasForm text at to_form from_form (subst (LeavesAt IsWholeText text) same leaves.2))

one_text : (base : ℕ) → 2 ≤ base → IsNumberText base (49 ∷ [])
one_text base low = record { some = omega arith; digits = ((omega arith, refl), tt); no_leading_zero = λ is. refl }

abbrev one_epoch : IsEpochText (49 ∷ 45 ∷ 49 ∷ [])
one_epoch = record { numeral = 49 ∷ []; rest = 49 ∷ []; whole = refl; is = one_text 16 (omega arith); follows = one_text 10 (omega arith) }

abbrev one_version : IsVersionText (49 ∷ 45 ∷ 49 ∷ 45 ∷ 49 ∷ [])
one_version = record { numeral = 49 ∷ []; rest = 49 ∷ 45 ∷ 49 ∷ []; whole = refl; is = one_text 16 (omega arith); follows = one_epoch }

pub no_partition : (text : List ℕ) (fault : IdFault) → IsNoField 10 text 0 fault → IsReading text (Err fault)
no_partition text fault bad =
    let b = bad_field 10 (omega arith) (omega arith) IsVersionText (49 ∷ 45 ∷ 49 ∷ 45 ∷ 49 ∷ []) text 0 fault one_version bad in
    refused text fault b.0 b.1 b.2

module _ (text : List ℕ) (partition : Field) (p : IsField 10 text 0 partition) where
  after_partition : (at : ℕ) → LeavesFrom IsVersionText text partition.next at → LeavesFrom IsWholeText text 0 at
  after_partition at = after_field 10 (omega arith) (omega arith) IsVersionText text 0 at partition p

  pub no_version : (fault : IdFault) → IsNoField 16 text partition.next fault → IsReading text (Err fault)
  no_version fault bad =
      let b = bad_field 16 (omega arith) (omega arith) IsEpochText (49 ∷ 45 ∷ 49 ∷ []) text partition.next fault one_epoch bad in
      refused text fault b.0 b.1 (after_partition b.0 b.2)

  module _ (version : Field) (v : IsField 16 text partition.next version) where
    after_version : (at : ℕ) → LeavesFrom IsEpochText text version.next at → LeavesFrom IsWholeText text 0 at
    after_version at leaves = after_partition at (after_field 16 (omega arith) (omega arith) IsEpochText text partition.next at version v leaves)

    pub no_epoch : (fault : IdFault) → IsNoField 16 text version.next fault → IsReading text (Err fault)
    no_epoch fault bad =
        let b = bad_field 16 (omega arith) (omega arith) IsHostText (49 ∷ []) text version.next fault (one_text 10 (omega arith)) bad in
        refused text fault b.0 b.1 (after_version b.0 b.2)

    module _ (epoch : Field) (e : IsField 16 text version.next epoch) where
      pub no_host : (fault : IdFault) → IsNoLastField 10 text epoch.next fault → IsReading text (Err fault)
      no_host fault bad =
          let b = bad_last text epoch.next fault bad in
          refused text fault b.0 b.1 (after_version b.0 (after_field 16 (omega arith) (omega arith) IsHostText text version.next b.0 epoch e b.2))

      -- ---- the ranges, if the text has the form
      module _ (host : Field) (h : IsLastField 10 text epoch.next host) where
        abbrev numbers : NumberTexts
        numbers = record { partition = p.numeral; version = v.numeral; epoch = e.numeral; host = drop epoch.next text }

        are : AreNumbersOf text numbers
        are = record {
          whole = p.whole ∙ ap (λ xs. p.numeral ++ 45 ∷ xs) (v.whole ∙ ap (λ xs. v.numeral ++ 45 ∷ xs) e.whole);
          partition = p.is;
          version = v.is;
          epoch = e.is;
          host = h.is;
        }

        abbrev partition_within : Bool
        partition_within = is_number16 (digits_value 10 numbers.partition)

        abbrev version_count : Bool
        version_count = is_counter (digits_value 16 numbers.version)

        abbrev epoch_count : Bool
        epoch_count = is_counter (digits_value 16 numbers.epoch)

        abbrev host_within : Bool
        host_within = is_number16 (digits_value 10 numbers.host)

        abbrev first : Bool → Bool → Bool → Bool → Option ℕ
        first a b c d = chosen a b c d (version_start numbers) (epoch_start numbers) (host_start numbers)

        out_at : (fault : IdFault) (at : ℕ) → fault ≡ Range at → first partition_within version_count epoch_count host_within ≡ Some at → IsReading text (Err fault)
        out_at fault at is found = subst (λ f. IsReading text (Err f)) (sym is) (numbers, are, found)

        number_is : (b : Bool) → is_in_range 0 65535 partition.value ≡ b → partition_within ≡ b
        number_is b = judged 10 0 65535 partition.value p.numeral b (omega arith) p.value

        version_is : (b : Bool) → is_in_range 1 (2 ^ 58 - 1) version.value ≡ b → version_count ≡ b
        version_is b = judged 16 1 (2 ^ 58 - 1) version.value v.numeral b (omega arith) v.value

        epoch_is : (b : Bool) → is_in_range 1 (2 ^ 58 - 1) epoch.value ≡ b → epoch_count ≡ b
        epoch_is b = judged 16 1 (2 ^ 58 - 1) epoch.value e.numeral b (omega arith) e.value

        host_is : (b : Bool) → is_in_range 0 65535 host.value ≡ b → host_within ≡ b
        host_is b = judged 10 0 65535 host.value (drop epoch.next text) b (omega arith) h.value

        pub partition_out : (fault : IdFault) → IsNotWithin partition 0 65535 fault → IsReading text (Err fault)
        partition_out fault bad = out_at fault 0 (bad.1 ∙ ap Range p.starts) (λ i. first (number_is false bad.0 i) version_count epoch_count host_within)

        module _ (p_value : ℕ) (p_in : IsWithin partition 0 65535 p_value) where
          pub version_out : (fault : IdFault) → IsNotWithin version 1 (2 ^ 58 - 1) fault → IsReading text (Err fault)
          version_out fault bad = out_at fault (version_start numbers) (bad.1 ∙ ap Range (omega (arith, v.starts, p.next))) (λ i. first (number_is true p_in.0 i) (version_is false bad.0 i) epoch_count host_within)

          module _ (v_value : ℕ) (v_in : IsWithin version 1 (2 ^ 58 - 1) v_value) where
            pub epoch_out : (fault : IdFault) → IsNotWithin epoch 1 (2 ^ 58 - 1) fault → IsReading text (Err fault)
            epoch_out fault bad = out_at fault (epoch_start numbers) (bad.1 ∙ ap Range (omega (arith, e.starts, v.next, p.next))) (λ i. first (number_is true p_in.0 i) (version_is true v_in.0 i) (epoch_is false bad.0 i) host_within)

            module _ (e_value : ℕ) (e_in : IsWithin epoch 1 (2 ^ 58 - 1) e_value) where
              pub host_out : (fault : IdFault) → IsNotWithin host 0 65535 fault → IsReading text (Err fault)
              host_out fault bad =
                  out_at fault (host_start numbers) (bad.1 ∙ ap Range (omega (arith, h.starts, e.next, v.next, p.next))) (λ i. first (number_is true p_in.0 i) (version_is true v_in.0 i) (epoch_is true e_in.0 i) (host_is false bad.0 i))

              pub all_in : (h_value : ℕ) → IsWithin host 0 65535 h_value → IsReading text (Ok (record { partition = p_value; version = v_value; epoch = e_value; host = h_value }))
              all_in h_value h_in = record {
                numbers = numbers;
                are = are;
                in_range = λ i. first (number_is true p_in.0 i) (version_is true v_in.0 i) (epoch_is true e_in.0 i) (host_is true h_in.0 i);
                is =
                    let p_is : p_value ≡ digits_value 10 numbers.partition = p_in.1 ∙ p.value ∙ not_held 0 65535 (digits_value 10 numbers.partition) (omega arith) (number_is true p_in.0) in
                    let v_is : v_value ≡ digits_value 16 numbers.version = v_in.1 ∙ v.value ∙ not_held 1 (2 ^ 58 - 1) (digits_value 16 numbers.version) (omega arith) (version_is true v_in.0) in
                    let e_is : e_value ≡ digits_value 16 numbers.epoch = e_in.1 ∙ e.value ∙ not_held 1 (2 ^ 58 - 1) (digits_value 16 numbers.epoch) (omega arith) (epoch_is true e_in.0) in
                    let h_is : h_value ≡ digits_value 10 numbers.host = h_in.1 ∙ h.value ∙ not_held 0 65535 (digits_value 10 numbers.host) (omega arith) (host_is true h_in.0) in
                    (λ i. record { partition = p_is i; version = v_is i; epoch = e_is i; host = h_is i });
              }
