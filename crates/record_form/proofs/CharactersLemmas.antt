-- A text of so many bytes is a form, where its first bad byte is one.
use Rattle.std.proofs.Common.{◌≡◌, ℕ, ◌<◌, ◌≤◌, Bool, false, cond, ltb, List, [], ◌++◌, length, take, drop, Ok, Err, Option, None, Some, refl, sym, ap, subst, ◌∙◌, arith}
use Rattle.std.proofs.lemmas.Bool.{ltb-false, ltb-true, le-ltb}
use Rattle.std.proofs.lemmas.List.{take_at, drop_at, take-append-drop, append-nil, length-take-le, take_all, length-append}
use Rattle.std.proofs.lemmas.List.Concat.{flat_map-cons}
use Rattle.byte_fields.proofs.NumbersLemmas.{AreBytes}
use Rattle.record_form.specs.Form.{BadByte, Stop, FormField, field_text, Form, ends_early, characters_at, characters}
use Rattle.record_form.specs.Prefix.{Begins, IsPossible, end_stop, StopsWithin, IsCutOf, StopsWith}
use Rattle.record_form.proofs.FormLemmas.{IsForm, err_is}
use Rattle.record_form.proofs.HeadedLemmas.{short_ok, short_err}

module _ (field : List ℕ → FormField) (Is : List ℕ → Type 0) (first_bad : ℕ → List ℕ → Option ℕ) (extent count : ℕ) (small : extent ≤ 4)
    (passes : (text : List ℕ) → length text ≡ count → first_bad count text ≡ None → Is text)
    (again : (text : List ℕ) → length text ≡ count → Is text → first_bad count text ≡ None)
    (goes_on : (prefix : List ℕ) → length prefix < count → first_bad count prefix ≡ None → Begins (characters field Is first_bad extent count) prefix)
    (bad_at : (bytes : List ℕ) (offset : ℕ) → first_bad count (take count bytes) ≡ Some offset
    → Begins (characters field Is first_bad extent count) (take offset bytes) × (IsPossible (characters field Is first_bad extent count) (take offset bytes ++ take extent (drop offset bytes)) → ⊥))
    (is_text : (text : List ℕ) → field_text (field text) ≡ text)
    (uncut : (text : List ℕ) → IsCutOf (field text) [])
    (ends_within : (text bytes : List ℕ) → length bytes < length text → StopsWithin (field text) bytes end_stop)
    (bad_within : (text bytes : List ℕ) (offset : ℕ) → length text ≡ count → first_bad count (take count bytes) ≡ Some offset → StopsWithin (field text) bytes (record { kind = BadByte; size = extent; left = drop offset bytes }))
    (are_bytes : (text : List ℕ) → Is text → AreBytes text)
    (some : (text : List ℕ) × (length text ≡ count) × Is text) where
  abbrev a_text : Form (List ℕ)
  a_text = characters field Is first_bad extent count

  takes_at : (o : Option ℕ) (bytes x rest : List ℕ) → first_bad count (take count bytes) ≡ o → characters_at o extent count bytes ≡ Ok (x, rest) → (bytes ≡ x ++ rest) × (length x ≡ count) × Is x
  takes_at (Some offset) bytes x rest is e = absurd cc
  takes_at None bytes x rest is e =
      let g = short_ok (ltb (length bytes) count) (take count bytes, drop count bytes) (x, rest) e in
      let size : length (take count bytes) ≡ count = length-take-le count bytes (ltb-false (length bytes) count g.0) in
      subst (λ (y : List ℕ × List ℕ). (bytes ≡ y.0 ++ y.1) × (length y.0 ≡ count) × Is y.0) g.1 (sym (take-append-drop count bytes), size, passes (take count bytes) size is)

  again_at : (x rest : List ℕ) → (length x ≡ count) × Is x → a_text.read (x ++ rest) ≡ Ok (x, rest)
  again_at x rest h =
      let none : first_bad count (take count (x ++ rest)) ≡ None = ap (first_bad count) (take_at x rest count h.0) ∙ again x h.0 h.1 in
      let long = length-append x rest in
      let enough : ltb (length (x ++ rest)) count ≡ false = le-ltb (length (x ++ rest)) count (omega (arith, long, h.0)) in
      ap (λ (o : Option ℕ). characters_at o extent count (x ++ rest)) none
      ∙ ap (λ (b : Bool). cond b ends_early (Ok (take count (x ++ rest), drop count (x ++ rest)))) enough
      ∙ (λ i. Ok (take_at x rest count h.0 i, drop_at x rest count h.0 i))

  bad_stop : (bytes : List ℕ) (offset : ℕ) → first_bad count (take count bytes) ≡ Some offset → StopsWith a_text bytes (record { kind = BadByte; size = extent; left = drop offset bytes })
  bad_stop bytes offset is =
      let s = bad_at bytes offset is in
      record {
        earlier = [];
        field = field some.0;
        rest = bytes;
        has = (some.0, [], (some.1, some.2), refl);
        split = refl;
        within = bad_within some.0 bytes offset some.1 is;
        before = take offset bytes;
        cut = [];
        parts = sym (take-append-drop offset bytes);
        begins = s.0;
        early = λ no. absurd cc;
        nothing = λ wrong. (refl, small, s.1);
      }

  cut_stop : (bytes : List ℕ) → length bytes < count → first_bad count (take count bytes) ≡ None → StopsWith a_text bytes end_stop
  cut_stop bytes few is = record {
    earlier = [];
    field = field some.0;
    rest = bytes;
    has = (some.0, [], (some.1, some.2), refl);
    split = refl;
    within = ends_within some.0 bytes (omega (arith, some.1));
    before = bytes;
    cut = [];
    parts = sym (append-nil bytes);
    begins = goes_on bytes few (ap (first_bad count) (sym (take_all count bytes (omega arith))) ∙ is);
    early = λ yes. (refl, uncut some.0);
    nothing = λ wrong. absurd (wrong refl);
  }

  stops_at : (o : Option ℕ) (bytes : List ℕ) (stop : Stop) → first_bad count (take count bytes) ≡ o → characters_at o extent count bytes ≡ Err stop → StopsWith a_text bytes stop
  stops_at (Some offset) bytes stop is e = subst (StopsWith a_text bytes) (err_is (record { kind = BadByte; size = extent; left = drop offset bytes }) stop e) (bad_stop bytes offset is)
  stops_at None bytes stop is e =
      let g = short_err (ltb (length bytes) count) (take count bytes, drop count bytes) stop e in
      subst (StopsWith a_text bytes) g.1 (cut_stop bytes (ltb-true (length bytes) count g.0) is)

  pub characters_is : IsForm (characters field Is first_bad extent count)
  characters_is = record {
    takes = λ bytes x rest are e. let t = takes_at (first_bad count (take count bytes)) bytes x rest refl e in (t.0, (t.1, t.2));
    again = again_at;
    stops = λ bytes stop are e. stops_at (first_bad count (take count bytes)) bytes stop refl e;
    spelled = λ x h. flat_map-cons field_text (field x) [] ∙ ap (λ (l : List ℕ). l ++ []) (is_text x) ∙ append-nil x;
    bytes = λ x h. are_bytes x h.1;
    some = (some.0, (some.1, some.2));
  }
