-- A name of so many bytes is a form.
use Rattle.std.proofs.Common.{◌≡◌, ℕ, zero, suc, ◌+◌, ◌-◌, ◌<◌, ◌≤◌, Bool, true, false, cond, ltb, List, [], ◌∷◌, ◌++◌, length, take, drop, get_or, All, inl, inr, None, Some, refl, sym, ap, ◌∙◌, arith, append_assoc, length-append}
use Rattle.std.proofs.lemmas.Bool.{cases_lt, ltb-false, ltb-true, le-ltb}
use Rattle.std.proofs.lemmas.List.{length-take, get_or_past, drop_more, drop_all, get_or-take, get_or_at, get_or_append_left}
use Rattle.std.proofs.lemmas.List.Elements.{All-append}
use Rattle.std.proofs.lemmas.Str.{IsUtf8-from_ascii}
use Rattle.std.specs.Str.{IsUtf8}
use Rattle.cache_key.specs.Names.{is_name_byte, IsNameByte}
use Rattle.record_form.specs.Form.{BadByte, NameText, Form, characters}
use Rattle.record_form.specs.Prefix.{Begins, IsPossible, StopsWithin}
use Rattle.record_form.specs.Characters as characters_of
use Rattle.record_form.specs.Characters.{name_prefix_length, first_bad_in_name, completes, may_continue, first_bad_in_utf8}
use Rattle.record_form.proofs.BytesLemmas.{AreBytes-utf8}
use Rattle.record_form.proofs.FormLemmas.{IsForm}
use Rattle.record_form.proofs.CharactersLemmas.{characters_is}
use Rattle.record_form.proofs.FilledLemmas.{filled, length-filled, filled_names}

pub prefix_more : (bytes : List ℕ) (i : ℕ) → i < length bytes → is_name_byte (get_or bytes i 0) ≡ true → name_prefix_length (drop i bytes) ≡ suc (name_prefix_length (drop (i + 1) bytes))
unfolding characters_of.name_prefix_length
prefix_more bytes i here is = ap name_prefix_length (drop_more bytes i 0 here) ∙ ap (λ (b : Bool). cond b (suc (name_prefix_length (drop (i + 1) bytes))) 0) is

pub prefix_stops : (bytes : List ℕ) (i : ℕ) → i < length bytes → is_name_byte (get_or bytes i 0) ≡ false → name_prefix_length (drop i bytes) ≡ 0
unfolding characters_of.name_prefix_length
prefix_stops bytes i here is = ap name_prefix_length (drop_more bytes i 0 here) ∙ ap (λ (b : Bool). cond b (suc (name_prefix_length (drop (i + 1) bytes))) 0) is

pub prefix_ends : (bytes : List ℕ) (i : ℕ) → length bytes ≤ i → name_prefix_length (drop i bytes) ≡ 0
unfolding characters_of.name_prefix_length
prefix_ends bytes i past = ap name_prefix_length (drop_all i bytes past)

holds_first : (b : Bool) (rest i : ℕ) (P : Type 0) → i < cond b (suc rest) 0 → ((b ≡ true) → i < suc rest → P) → P
holds_first true rest i P below law = law refl below
holds_first false rest i P below law = absurd (omega arith)

pub prefix_holds : (bytes : List ℕ) (i d : ℕ) → i < name_prefix_length bytes → is_name_byte (get_or bytes i d) ≡ true
unfolding characters_of.name_prefix_length
prefix_holds [] i d below = absurd (omega arith)
prefix_holds (byte ∷ bytes) zero d below = holds_first (is_name_byte byte) (name_prefix_length bytes) 0 (is_name_byte byte ≡ true) below (λ is within. is)
prefix_holds (byte ∷ bytes) (suc i) d below = holds_first (is_name_byte byte) (name_prefix_length bytes) (suc i) (is_name_byte (get_or bytes i d) ≡ true) below (λ is within. prefix_holds bytes i d (omega arith))

-- the byte following the prefix is no name's
bad_first : (b : Bool) (byte : ℕ) (bytes : List ℕ) → is_name_byte byte ≡ b → (name_prefix_length bytes < length bytes → is_name_byte (get_or bytes (name_prefix_length bytes) 0) ≡ false)
    → cond b (suc (name_prefix_length bytes)) 0 < suc (length bytes) → is_name_byte (get_or (byte ∷ bytes) (cond b (suc (name_prefix_length bytes)) 0) 0) ≡ false
bad_first true byte bytes is rest below = rest (omega arith)
bad_first false byte bytes is rest below = is

prefix_bad : (bytes : List ℕ) → name_prefix_length bytes < length bytes → is_name_byte (get_or bytes (name_prefix_length bytes) 0) ≡ false
unfolding characters_of.name_prefix_length
prefix_bad [] below = absurd (omega arith)
prefix_bad (byte ∷ bytes) below = bad_first (is_name_byte byte) byte bytes refl (prefix_bad bytes) below

pub name_byte_below : (byte : ℕ) → is_name_byte byte ≡ true → byte < 128
name_byte_below byte is = grind (arith, is)

pub name_is_utf8 : (bytes : List ℕ) → All IsNameByte bytes → IsUtf8 bytes
name_is_utf8 bytes all =
    IsUtf8-from_ascii bytes (λ i.
    elim (cases_lt i (length bytes)) [
      | inl within ↦ name_byte_below (get_or bytes i 0) (all i 0 within)
      | inr past ↦ rw (get_or_past bytes i 0 past) (omega arith)
    ])

some_is : (b : Bool) (n offset : ℕ) → cond b (Some n) None ≡ Some offset → (b ≡ true) × (n ≡ offset)
some_is true n offset e = (refl, cc)
some_is false n offset e = absurd cc

none_is : (b : Bool) (n : ℕ) → cond b (Some n) None ≡ None → b ≡ false
none_is true n e = absurd cc
none_is false n e = refl

abbrev a_name : ℕ → Form (List ℕ)
a_name count = characters NameText (All IsNameByte) first_bad_in_name 1 count

-- bytes of the alphabet begin a name that is no shorter
names_begin : (count : ℕ) (prefix : List ℕ) → length prefix ≤ count → All IsNameByte prefix → Begins (a_name count) prefix
names_begin count prefix short all =
    let more = filled (count - length prefix) in
    let long = length-append prefix more in
    let size = length-filled (count - length prefix) in
    (prefix ++ more, more, (omega (arith, long, size), All-append IsNameByte prefix more all (filled_names (count - length prefix))), refl)

name_passes : (count : ℕ) (text : List ℕ) → length text ≡ count → first_bad_in_name count text ≡ None → All IsNameByte text
name_passes count text size is i d within =
    let whole = ltb-false (name_prefix_length text) (length text) (none_is (ltb (name_prefix_length text) (length text)) (name_prefix_length text) is) in
    prefix_holds text i d (omega arith)

pub prefix_whole : (bytes : List ℕ) → All IsNameByte bytes → length bytes ≤ name_prefix_length bytes
unfolding characters_of.name_prefix_length
prefix_whole [] all = omega arith
prefix_whole (byte ∷ bytes) all =
    let rest = prefix_whole bytes (λ i d within. all (suc i) d (omega arith)) in
    let first : is_name_byte byte ≡ true = all 0 0 (omega arith) in
    rw first (omega (arith, rest))

name_again : (count : ℕ) (text : List ℕ) → length text ≡ count → All IsNameByte text → first_bad_in_name count text ≡ None
name_again count text size is = ap (λ (b : Bool). cond b (Some (name_prefix_length text)) None) (le-ltb (name_prefix_length text) (length text) (prefix_whole text is))

name_bad : (count : ℕ) (bytes : List ℕ) (offset : ℕ) → first_bad_in_name count (take count bytes) ≡ Some offset
    → Begins (a_name count) (take offset bytes) × (IsPossible (a_name count) (take offset bytes ++ take 1 (drop offset bytes)) → ⊥)
name_bad count bytes offset is =
    let prefix = take count bytes in
    let s = some_is (ltb (name_prefix_length prefix) (length prefix)) (name_prefix_length prefix) offset is in
    let within = ltb-true (name_prefix_length prefix) (length prefix) s.0 in
    let bounds = length-take count bytes in
    let short = length-take offset bytes in
    let good : All IsNameByte (take offset bytes) = λ i d below.
    let h = prefix_holds prefix i d (omega (arith, s.1, short)) in
    rw (get_or-take offset bytes i d (omega (arith, short))) (rw (get_or-take count bytes i d (omega (arith, bounds, short, s.1))) at h) in
    let bad : is_name_byte (get_or bytes offset 0) ≡ false = rw (← s.1) (rw (get_or-take count bytes (name_prefix_length prefix) 0 (omega (arith, bounds))) at (prefix_bad prefix within)) in
    let below : offset < length bytes = omega (arith, s.1, bounds) in
    let one : take 1 (drop offset bytes) ≡ get_or bytes offset 0 ∷ [] = ap (take 1) (drop_more bytes offset 0 below) in (
      names_begin count (take offset bytes) (omega (arith, short, bounds, s.1)) good,
      λ m.
          let x = m.0 in
          let same : take offset bytes ++ (get_or bytes offset 0 ∷ m.1) ≡ x ++ m.2 =
          sym (append_assoc (take offset bytes) (get_or bytes offset 0 ∷ []) m.1) ∙ ap (λ (l : List ℕ). (take offset bytes ++ l) ++ m.1) (sym one) ∙ m.4 in
          let here : get_or (x ++ m.2) offset 0 ≡ get_or bytes offset 0 = ap (λ (l : List ℕ). get_or l offset 0) (sym same) ∙ get_or_at (take offset bytes) (get_or bytes offset 0) m.1 0 offset (omega (arith, short)) in
          let inside : offset < length x = omega (arith, m.3.0, bounds, s.1) in
          let good_here : is_name_byte (get_or bytes offset 0) ≡ true = ap is_name_byte (sym here ∙ get_or_append_left x m.2 0 offset inside) ∙ m.3.1 offset 0 inside in
          absurd cc,
    )

name_within : (count : ℕ) (text bytes : List ℕ) (offset : ℕ) → length text ≡ count → first_bad_in_name count (take count bytes) ≡ Some offset
    → StopsWithin (NameText text) bytes (record { kind = BadByte; size = 1; left = drop offset bytes })
name_within count text bytes offset size is =
    let prefix = take count bytes in
    let s = some_is (ltb (name_prefix_length prefix) (length prefix)) (name_prefix_length prefix) offset is in
    let within = ltb-true (name_prefix_length prefix) (length prefix) s.0 in
    let bounds = length-take count bytes in
    inr (offset, omega (arith, s.1, bounds, size), omega (arith, s.1, bounds), refl)

pub name_text_is : (count : ℕ) → IsForm (a_name count)
name_text_is count =
    characters_is NameText (All IsNameByte) first_bad_in_name 1 count (omega arith) (name_passes count) (name_again count) (λ prefix short is. names_begin count prefix (omega arith) (name_passes (length prefix) prefix refl is)) (name_bad count) (λ text. refl) (λ text. refl) (λ text bytes few. inl (few, refl)) (name_within count) (λ text all. AreBytes-utf8 text (name_is_utf8 text all))
    (filled count, length-filled count, filled_names count)

-- bytes that are all of the alphabet are UTF-8
pub prefix_utf8 : (bytes : List ℕ) → length bytes ≤ name_prefix_length bytes → IsUtf8 bytes
prefix_utf8 bytes whole = name_is_utf8 bytes (λ i d within. prefix_holds bytes i d (omega arith))
