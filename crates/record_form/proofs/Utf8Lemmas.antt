-- A text of UTF-8 of so many bytes is a form.
use Rattle.std.proofs.Common.{◌≡◌, ◌≢◌, ℕ, zero, suc, ◌+◌, ◌-◌, ◌<◌, ◌≤◌, Bool, true, false, cond, List, [], ◌∷◌, ◌++◌, length, take, drop, inl, inr, ◌⊎◌, ⊎_elim, nat_le, ◌||◌, None, Some, refl, sym, ap, subst, ◌∙◌, arith, append_assoc, length-append}
use Rattle.std.proofs.lemmas.Bool.{cases_lt, leb-true}
use Rattle.std.proofs.lemmas.List.{take_at, drop_at, take-append-drop, append-nil, length-take-le, nil_from_length, length-take, length-drop, drop_all}
use Rattle.std.proofs.lemmas.Str.{is_utf8-from_IsUtf8, IsUtf8-from_is_utf8, IsUtf8-from_ascii, IsUtf8-append, utf8_valid_len_le, utf8_valid_len-IsUtf8, IsUtf8-encode, IsUtf8-drop, IsCharBoundary-from_take}
use Rattle.std.proofs.lemmas.List.{take-append-le, take_all}
use Rattle.std.specs.Str.{IsUtf8, is_utf8}
use Rattle.std.specs.Str.Lossy as lossy
use Rattle.std.specs.Str.Lossy.{utf8_valid_len, valid_len_up_to}
use Rattle.record_form.specs.Form.{BadByte, Utf8Text, Form, characters}
use Rattle.record_form.specs.Prefix.{Begins, IsPossible, StopsWithin}
use Rattle.record_form.specs.Characters.{completes, may_continue, first_bad_in_utf8}
use Rattle.record_form.proofs.HeaderLemmas.{take_prefix, take_on, both_true}
use Rattle.record_form.proofs.BytesLemmas.{AreBytes-utf8}
use Rattle.record_form.proofs.CharacterEndLemmas.{character_may_continue, encode_some}
use lib.Utf8.{encode, encodes, scalar, scalars}
use Rattle.record_form.proofs.FormLemmas.{IsForm}
use Rattle.record_form.proofs.CharactersLemmas.{characters_is}
use Rattle.record_form.proofs.FilledLemmas.{filled, length-filled, filled_utf8}

cond_case : {A : Type 0} (P : A → Type 0) (b : Bool) (x y : A) → (b ≡ true → P x) → (b ≡ false → P y) → P (cond b x y)
cond_case P true x y one other = one refl
cond_case P false x y one other = other refl

-- the longest prefix that is UTF-8 is UTF-8
prefix_up_to : (bytes : List ℕ) (n : ℕ) → IsUtf8 (take (valid_len_up_to bytes n) bytes)
prefix_up_to bytes zero = IsUtf8-from_ascii [] (λ i. omega arith)
prefix_up_to bytes (suc n) =
    cond_case (λ (k : ℕ). IsUtf8 (take k bytes)) (is_utf8 (take (suc n) bytes)) (suc n) (valid_len_up_to bytes n) (λ is. IsUtf8-from_is_utf8 (take (suc n) bytes) is) (λ is. prefix_up_to bytes n)

prefix_is_utf8 : (bytes : List ℕ) → IsUtf8 (take (utf8_valid_len bytes) bytes)
unfolding lossy.utf8_valid_len
prefix_is_utf8 bytes = prefix_up_to bytes (length bytes)

abbrev a_utf8 : ℕ → Form (List ℕ)
a_utf8 count = characters Utf8Text IsUtf8 first_bad_in_utf8 4 count

utf8_begin : (count : ℕ) (prefix : List ℕ) → length prefix ≤ count → IsUtf8 prefix → Begins (a_utf8 count) prefix
utf8_begin count prefix short is =
    let more = filled (count - length prefix) in
    let long = length-append prefix more in
    let size = length-filled (count - length prefix) in
    (prefix ++ more, more, (omega (arith, long, size), IsUtf8-append prefix more is (filled_utf8 (count - length prefix))), refl)

-- bytes that may end do so with some bytes for which there is room
record Ends (bytes : List ℕ) (room : ℕ) : Type 0 where
  more : List ℕ
  fits : length bytes + length more ≤ room
  utf8 : IsUtf8 (bytes ++ more)

either_true : (a b : Bool) → (a || b) ≡ true → (a ≡ true) ⊎ (b ≡ true)
either_true true b is = inl refl
either_true false b is = inr is

ends_so : (bytes more : List ℕ) (room : ℕ) → completes (bytes ++ more) room ≡ true → Ends bytes room
ends_so bytes more room is =
    let a = both_true (nat_le (length (bytes ++ more)) room) (is_utf8 (bytes ++ more)) is in
    record { more = more; fits = omega (arith, leb-true (length (bytes ++ more)) room a.0, length-append bytes more); utf8 = IsUtf8-from_is_utf8 (bytes ++ more) a.1 }

ends : (bytes : List ℕ) (room : ℕ) → length bytes ≤ room → may_continue bytes room ≡ true → Ends bytes room
ends [] room short is = record { more = []; fits = omega arith; utf8 = IsUtf8-from_ascii [] (λ i. omega arith) }
ends (a ∷ []) room short is =
    ⊎_elim
    (λ h4. ⊎_elim
    (λ h3. ⊎_elim
    (λ h2. ⊎_elim
    (ends_so (a ∷ []) (128 ∷ []) room)
    (ends_so (a ∷ []) (128 ∷ 128 ∷ []) room)
    (either_true _ _ h2))
    (ends_so (a ∷ []) (160 ∷ 128 ∷ []) room)
    (either_true _ _ h3))
    (ends_so (a ∷ []) (128 ∷ 128 ∷ 128 ∷ []) room)
    (either_true _ _ h4))
    (ends_so (a ∷ []) (144 ∷ 128 ∷ 128 ∷ []) room)
    (either_true _ _ is)
ends (a ∷ b ∷ []) room short is = ⊎_elim (ends_so (a ∷ b ∷ []) (128 ∷ []) room) (ends_so (a ∷ b ∷ []) (128 ∷ 128 ∷ []) room) (either_true _ _ is)
ends (a ∷ b ∷ c ∷ []) room short is = ends_so (a ∷ b ∷ c ∷ []) (128 ∷ []) room is
ends (a ∷ b ∷ c ∷ d ∷ bytes) room short is = absurd cc

may_is : (b : Bool) (n : ℕ) → cond b None (Some n) ≡ None → b ≡ true
may_is true n e = refl
may_is false n e = absurd cc

may_not : (b : Bool) (n offset : ℕ) → cond b None (Some n) ≡ Some offset → (b ≡ false) × (n ≡ offset)
may_not true n offset e = absurd cc
may_not false n offset e = (refl, cc)

-- a prefix without a bad byte goes on to a text
utf8_goes_on : (count : ℕ) (prefix : List ℕ) → length prefix ≤ count → first_bad_in_utf8 count prefix ≡ None → Begins (a_utf8 count) prefix
utf8_goes_on count prefix short is =
    let valid = utf8_valid_len prefix in
    let left = drop valid prefix in
    let le = utf8_valid_len_le prefix in
    let size = length-drop valid prefix in
    let e = ends left (count - valid) (omega arith) (may_is (may_continue left (count - valid)) valid is) in
    let whole : take valid prefix ++ (left ++ e.more) ≡ prefix ++ e.more = sym (append_assoc (take valid prefix) left e.more) ∙ ap (λ (l : List ℕ). l ++ e.more) (take-append-drop valid prefix) in
    let good : IsUtf8 (prefix ++ e.more) = subst IsUtf8 whole (IsUtf8-append (take valid prefix) (left ++ e.more) (prefix_is_utf8 prefix) e.utf8) in
    let b = utf8_begin count (prefix ++ e.more) (omega (arith, e.fits, length-append prefix e.more)) good in
    (b.0, e.more ++ b.1, b.2, sym (append_assoc prefix e.more b.1) ∙ b.3)

utf8_passes : (count : ℕ) (text : List ℕ) → length text ≡ count → first_bad_in_utf8 count text ≡ None → IsUtf8 text
utf8_passes count text size is =
    let b = utf8_goes_on count text (omega arith) is in
    let long = length-append text b.1 in
    let none : b.1 ≡ [] = nil_from_length b.1 (omega (arith, ap length b.3, b.2.0)) in
    subst IsUtf8 (sym b.3 ∙ ap (λ (l : List ℕ). text ++ l) none ∙ append-nil text) b.2.1

utf8_again : (count : ℕ) (text : List ℕ) → length text ≡ count → IsUtf8 text → first_bad_in_utf8 count text ≡ None
utf8_again count text size is =
    let whole = utf8_valid_len-IsUtf8 text is in
    let none : drop (utf8_valid_len text) text ≡ [] = ap (λ (n : ℕ). drop n text) whole ∙ drop_all (length text) text (omega arith) in
    ap (λ (l : List ℕ). cond (may_continue l (count - utf8_valid_len text)) None (Some (utf8_valid_len text))) none

take_take : (a b : ℕ) (bytes : List ℕ) → a ≤ b → take a (take b bytes) ≡ take a bytes
take_take a b bytes le = let e : b ≡ a + (b - a) = omega arith in ap (λ (n : ℕ). take a (take n bytes)) e ∙ take_prefix bytes a (b - a)

-- the first bytes, as many as there are
short_take : (n : ℕ) (bytes : List ℕ) → take (length (take n bytes)) bytes ≡ take n bytes
short_take n bytes = ap (λ (l : List ℕ). take (length (take n bytes)) l) (sym (take-append-drop n bytes)) ∙ take_at (take n bytes) (drop n bytes) (length (take n bytes)) refl

-- no longer prefix is UTF-8
longest_up_to : (bytes : List ℕ) (n k : ℕ) → k ≤ n → IsUtf8 (take k bytes) → k ≤ valid_len_up_to bytes n
longest_up_to bytes zero k le is = le
longest_up_to bytes (suc n) k le is =
    cond_case (λ (r : ℕ). k ≤ r) (is_utf8 (take (suc n) bytes)) (suc n) (valid_len_up_to bytes n) (λ whole. le) (λ whole.
    elim (cases_lt n k) [
      | inl top ↦
          let same : k ≡ suc n = omega arith in
          let never : is_utf8 (take (suc n) bytes) ≡ true = is_utf8-from_IsUtf8 (take (suc n) bytes) (subst (λ (j : ℕ). IsUtf8 (take j bytes)) same is) in
          absurd cc
      | inr low ↦ longest_up_to bytes n k low is
    ])

longest : (bytes : List ℕ) (k : ℕ) → k ≤ length bytes → IsUtf8 (take k bytes) → k ≤ utf8_valid_len bytes
unfolding lossy.utf8_valid_len
longest bytes k le is = longest_up_to bytes (length bytes) k le is

-- characters that begin with what is left of a prefix, which begins with none, let it go on
left_may_continue : (left rest cs : List ℕ) (room : ℕ) → scalars cs ≡ true → encodes cs ≡ left ++ rest → length (left ++ rest) ≤ room
    → ((k : ℕ) → 0 < k → k ≤ length left → IsUtf8 (take k left) → ⊥) → may_continue left room ≡ true
left_may_continue [] rest cs room are e fits none = refl
left_may_continue (a ∷ left) rest [] room are e fits none = absurd cc
left_may_continue (a ∷ left) rest (c ∷ cs) room are e fits none =
    let both = both_true (scalar c) (scalars cs) are in
    let all = a ∷ left in
    let size = ap length e ∙ refl in
    let long = length-append (encode c) (encodes cs) in
    let long2 = length-append all rest in
    ⊎_elim
    (λ (short : length all < length (encode c)).
    let prefix : take (length all) (encode c) ≡ all =
    sym (take-append-le (length all) (encode c) (encodes cs) (omega arith)) ∙ ap (take (length all)) e ∙ take_at all rest (length all) refl in
    let parts : encode c ≡ all ++ drop (length all) (encode c) = sym (take-append-drop (length all) (encode c)) ∙ ap (λ (l : List ℕ). l ++ drop (length all) (encode c)) prefix in
    let some : drop (length all) (encode c) ≢ [] = λ nil. let zero_long = ap length nil in absurd (omega (arith, zero_long, length-drop (length all) (encode c))) in
    character_may_continue c room both.0 all (drop (length all) (encode c)) parts some (omega (arith, size, long)))
    (λ (enough : length (encode c) ≤ length all).
    let k = length (encode c) in
    let prefix : take k all ≡ encode c = sym (take-append-le k all rest enough) ∙ ap (take k) (sym e) ∙ take_at (encode c) (encodes cs) k refl in
    absurd (none k (encode_some c) enough (subst IsUtf8 (sym prefix) (IsUtf8-encode c both.0))))
    (cases_lt (length all) (length (encode c)))

utf8_never : (count : ℕ) (prefix x : List ℕ) → length prefix ≤ count → length x ≡ count → IsUtf8 x → take (length prefix) x ≡ prefix
    → may_continue (drop (utf8_valid_len prefix) prefix) (count - utf8_valid_len prefix) ≡ true
utf8_never count prefix x short size is begins =
    let valid = utf8_valid_len prefix in
    let le = utf8_valid_len_le prefix in
    let left = drop valid prefix in
    let rest = drop (length prefix) x in
    let same_prefix : take valid x ≡ take valid prefix = sym (take_take valid (length prefix) x le) ∙ ap (take valid) begins in
    let whole : x ≡ take valid prefix ++ (left ++ rest) =
    sym (take-append-drop (length prefix) x) ∙ ap (λ (l : List ℕ). l ++ rest) begins ∙ ap (λ (l : List ℕ). l ++ rest) (sym (take-append-drop valid prefix)) ∙ append_assoc (take valid prefix) left rest in
    let good : IsUtf8 (drop valid x) = IsUtf8-drop x valid is (IsCharBoundary-from_take x valid is (omega arith) (subst IsUtf8 (sym same_prefix) (prefix_is_utf8 prefix))) in
    let following : drop valid x ≡ left ++ rest = ap (drop valid) whole ∙ drop_at (take valid prefix) (left ++ rest) valid (length-take-le valid prefix le) in
    left_may_continue left rest good.0 (count - valid) good.1.0 (good.1.1 ∙ following) (omega (arith, ap length following, length-drop valid x)) (λ k some within u.
    let longer : IsUtf8 (take (valid + k) prefix) = subst IsUtf8 (sym (take_on prefix valid k)) (IsUtf8-append (take valid prefix) (take k left) (prefix_is_utf8 prefix) u) in
    let most = longest prefix (valid + k) (omega (arith, length-drop valid prefix)) longer in
    absurd (omega arith))

-- fewer bytes, but more than are UTF-8, have the same ones that are
shorter_valid : (bytes : List ℕ) (k : ℕ) → utf8_valid_len bytes ≤ k → k ≤ length bytes → utf8_valid_len (take k bytes) ≡ utf8_valid_len bytes
shorter_valid bytes k some within =
    let valid = utf8_valid_len bytes in
    let fewer = take k bytes in
    let size = length-take-le k bytes within in
    let short = utf8_valid_len_le fewer in
    let least = longest fewer valid (omega arith) (subst IsUtf8 (sym (take_take valid k bytes some)) (prefix_is_utf8 bytes)) in
    let most = longest bytes (utf8_valid_len fewer) (omega arith) (subst IsUtf8 (take_take (utf8_valid_len fewer) k bytes (omega arith)) (prefix_is_utf8 fewer)) in
    omega arith

never_long : (bytes : List ℕ) (room : ℕ) → 4 ≤ length bytes → may_continue bytes room ≡ false
never_long [] room long = absurd (omega arith)
never_long (a ∷ []) room long = absurd (omega arith)
never_long (a ∷ b ∷ []) room long = absurd (omega arith)
never_long (a ∷ b ∷ c ∷ []) room long = absurd (omega arith)
never_long (a ∷ b ∷ c ∷ d ∷ bytes) room long = refl

-- four bytes after those that are UTF-8 show that no character begins there
four_show : (prefix : List ℕ) (count : ℕ) → may_continue (drop (utf8_valid_len prefix) prefix) (count - utf8_valid_len prefix) ≡ false
    → may_continue (drop (utf8_valid_len (take (utf8_valid_len prefix + 4) prefix)) (take (utf8_valid_len prefix + 4) prefix)) (count - utf8_valid_len (take (utf8_valid_len prefix + 4) prefix)) ≡ false
four_show prefix count is =
    let valid = utf8_valid_len prefix in
    let seen = take (valid + 4) prefix in
    elim (cases_lt (valid + 4) (length prefix)) [
      | inl more ↦
          let same = shorter_valid prefix (valid + 4) (omega arith) (omega arith) in
          let size = length-take-le (valid + 4) prefix (omega arith) in
          never_long (drop (utf8_valid_len seen) seen) (count - utf8_valid_len seen) (omega (arith, same, size, length-drop (utf8_valid_len seen) seen))
      | inr all ↦ subst (λ (l : List ℕ). may_continue (drop (utf8_valid_len l) l) (count - utf8_valid_len l) ≡ false) (sym (take_all (valid + 4) prefix all)) is
    ]

utf8_bad : (count : ℕ) (bytes : List ℕ) (offset : ℕ) → first_bad_in_utf8 count (take count bytes) ≡ Some offset
    → Begins (a_utf8 count) (take offset bytes) × (IsPossible (a_utf8 count) (take offset bytes ++ take 4 (drop offset bytes)) → ⊥)
utf8_bad count bytes offset is =
    let prefix = take count bytes in
    let valid = utf8_valid_len prefix in
    let s = may_not (may_continue (drop valid prefix) (count - valid)) valid offset is in
    let le = utf8_valid_len_le prefix in
    let bounds = length-take count bytes in
    let same : take offset prefix ≡ take offset bytes = take_take offset count bytes (omega (arith, s.1)) in (
      utf8_begin count (take offset bytes) (omega (arith, length-take offset bytes, s.1)) (subst (λ (n : ℕ). IsUtf8 (take n bytes)) s.1 (subst IsUtf8 (take_take valid count bytes (omega arith)) (prefix_is_utf8 prefix))),
      λ m.
          let x = m.0 in
          let seen = take (valid + 4) prefix in
          let k = length seen in
          let size = length-take (valid + 4) prefix in
          let four : take offset bytes ++ take 4 (drop offset bytes) ≡ take (offset + 4) bytes = sym (take_on bytes offset 4) in
          let long = length-take (offset + 4) bytes in
          let cut : take k (take (offset + 4) bytes) ≡ seen = take_take k (offset + 4) bytes (omega (arith, size, s.1)) ∙ sym (take_take k count bytes (omega (arith, size, bounds))) ∙ short_take (valid + 4) prefix in
          let begins : take k x ≡ seen =
          sym (take-append-le k x m.2 (omega (arith, m.3.0, size, bounds))) ∙ ap (take k) (sym m.4) ∙ ap (λ (l : List ℕ). take k (l ++ m.1)) four ∙ take-append-le k (take (offset + 4) bytes) m.1 (omega (arith, size, bounds, long, s.1)) ∙ cut in
          let goes_on = utf8_never count seen x (omega (arith, size, bounds)) m.3.0 m.3.1 begins in
          let ends_there = four_show prefix count s.0 in
          absurd cc,
    )

utf8_within : (count : ℕ) (text bytes : List ℕ) (offset : ℕ) → length text ≡ count → first_bad_in_utf8 count (take count bytes) ≡ Some offset
    → StopsWithin (Utf8Text text) bytes (record { kind = BadByte; size = 4; left = drop offset bytes })
utf8_within count text bytes offset size is =
    let prefix = take count bytes in
    let valid = utf8_valid_len prefix in
    let s = may_not (may_continue (drop valid prefix) (count - valid)) valid offset is in
    let le = utf8_valid_len_le prefix in
    let bounds = length-take count bytes in
    let within : valid < length prefix =
    ⊎_elim (λ low. low) (λ (all : length prefix ≤ valid). let never = ap (λ (l : List ℕ). may_continue l (count - valid)) (drop_all valid prefix all) in absurd cc) (cases_lt valid (length prefix)) in
    inr (
      offset,
      omega (arith, s.1, bounds, size),
      omega (arith, s.1, bounds),
      refl,
      subst (λ (n : ℕ). IsUtf8 (take n bytes)) s.1 (subst IsUtf8 (take_take valid count bytes (omega (arith, bounds))) (prefix_is_utf8 prefix)),
      λ longer most there good. let most_valid = longest prefix longer (omega (arith, bounds, size)) (subst IsUtf8 (sym (take_take longer count bytes (omega (arith, size)))) good) in omega (arith, most_valid, s.1),
    )

pub utf8_text_is : (count : ℕ) → IsForm (a_utf8 count)
utf8_text_is count =
    characters_is Utf8Text IsUtf8 first_bad_in_utf8 4 count (omega arith) (utf8_passes count) (utf8_again count) (λ prefix short is. utf8_goes_on count prefix (omega arith) is) (utf8_bad count) (λ text. refl) (λ text. refl) (λ text bytes few. inl (few, refl)) (utf8_within count) AreBytes-utf8
    (filled count, length-filled count, filled_utf8 count)

false_unless : (b : Bool) → (b ≡ true → ⊥) → b ≡ false
false_unless true never = absurd (never refl)
false_unless false never = refl

pub not_utf8 : (bytes : List ℕ) → (IsUtf8 bytes → ⊥) → is_utf8 bytes ≡ false
not_utf8 bytes never = false_unless (is_utf8 bytes) (λ is. never (IsUtf8-from_is_utf8 bytes is))

pub are_utf8 : (bytes : List ℕ) → IsUtf8 bytes → is_utf8 bytes ≡ true
are_utf8 bytes is = is_utf8-from_IsUtf8 bytes is

-- and so are those without a bad byte
pub unbroken_utf8 : (count : ℕ) (text : List ℕ) → length text ≡ count → may_continue (drop (utf8_valid_len text) text) (count - utf8_valid_len text) ≡ true → IsUtf8 text
unbroken_utf8 count text size is = utf8_passes count text size (ap (λ (b : Bool). cond b None (Some (utf8_valid_len text))) is)

pub valid_all : (bytes : List ℕ) → IsUtf8 bytes → length bytes ≡ utf8_valid_len bytes
valid_all bytes is = sym (utf8_valid_len-IsUtf8 bytes is)
