-- What a service disk holds while a roster is written to it, call by call.
use Rattle.std.proofs.Common.{◌≡◌, ◌≢◌, ◌⊎◌, inl, inr, ⊎_elim, ℕ, suc, ◌+◌, ◌-◌, ◌<◌, ◌≤◌, List, [], ◌∷◌, ◌++◌, length, take, drop, get_or, Option, Some, refl, sym, ◌∙◌, ap, subst, arith, length-drop}
use Rattle.std.proofs.lemmas.Bool.{cases_eq, cases_lt}
use Rattle.std.proofs.lemmas.List.{append-nil, drop_all, drop-drop, take_all}
use Rattle.disk_trait.specs.View.{Image, View, Tells}
use Rattle.disk_trait.specs.Calls.{written, Torn, Shorn, Moved, Follows, TimePasses}
use Rattle.disk_trait.specs.Moments.{Now, After, Throughout, CallsSoFar}
use Rattle.disk_trait.proofs.Runs.{begun, then, then_call, weakened, holds_now, joined}
use Rattle.seal_gate.specs.Seal.{IsSealed, ButFirst, Each}
use Rattle.store_journal.specs.Created.{IsUnsealed, IsBlank}
use Rattle.store_journal.specs.Stands.{version_in}
use Rattle.byte_fields.specs.Numbers as numbers
use Rattle.newest_store.specs.Newest.{IsNewest}
use Rattle.roster_form.proofs.ContainsLemmas.{contains_first}
use Rattle.roster_form.specs.RosterText.{IsRosterText}
use Rattle.roster_form.specs.Shown.{IsOther, IsWritingOver, FileShows, IsSeenAs}
use Rattle.roster_form.specs.declared.roster.Roster.{Roster}
use Rattle.roster_form.proofs.RosterTextLemmas.{numbers_of}
use Rattle.roster_form.proofs.ShownLemmas.{of_two, written_shows}
use Rattle.roster_book.specs.Writing.{IsSomeRoster, SameRest, IsOlderThan, HasFreeFirst}

-- ---- bytes

-- a first byte of zero is no seal
blank_is_unsealed : (bytes : List ℕ) → IsBlank bytes → IsUnsealed bytes
blank_is_unsealed bytes blank sealed = sealed.first (ap (λ (l : List ℕ). get_or l 0 0) blank.1)

-- what keeps a first byte of zero
stays_blank : (old new : List ℕ) → IsBlank old → take 1 new ≡ take 1 old → IsBlank new
stays_blank old [] blank same = let e : [] ≡ 0 ∷ [] = same ∙ ap (take 1) blank.1 in absurd cc
stays_blank old (byte ∷ rest) blank same =
    let e : byte ∷ [] ≡ 0 ∷ [] = same ∙ ap (take 1) blank.1 in
    let zero : byte ≡ 0 = cc e in
    (rest, ap (λ (first : ℕ). first ∷ rest) zero)

-- whether bytes are sealed
sealed_cases : (bytes : List ℕ) → IsUnsealed bytes ⊎ IsSealed bytes
sealed_cases bytes = ⊎_elim
    (λ zero. inl (λ sealed. sealed.first zero))
    (λ first. ⊎_elim (λ short. inl (λ sealed. let long = sealed.long in omega (arith, short, long))) (λ long. inr (record { first = first; long = long })) (cases_lt (length bytes) 41))
    (cases_eq (get_or bytes 0 0) 0)

same_version : (old new : List ℕ) → SameRest old new → version_in new ≡ version_in old
same_version old new same = ap (λ (l : List ℕ). version_of l) (sym (drop-drop 8 1 new) ∙ ap (drop 8) same ∙ drop-drop 8 1 old)
  where
    version_of : List ℕ → ℕ
    version_of l = numbers.big_endian (take 8 l)

-- a sealed file with the bytes of a roster's after the first one holds that roster
first_any : (roster : Roster) (text bytes : List ℕ) → IsRosterText roster text → SameRest text bytes → IsSealed bytes → IsRosterText roster bytes
first_any roster text [] is same sealed = absurd (let long = sealed.long in omega (arith, long))
first_any roster text (byte ∷ rest) is same sealed = record {
  limits = is.limits;
  first = byte;
  sealed = sealed.first;
  text = ap (λ (l : List ℕ). byte ∷ l) (same ∙ ap (drop 1) is.text);
}

-- ---- the other file stays the newest

still_newest : (m : Image) (file other : ℕ) → IsOther file other → IsOlderThan (m other) file other (m file) → IsNewest m other
still_newest m file other two older = record {
  one_of_two = two.2;
  sealed = older.sealed;
  greatest = λ f within ne is. ⊎_elim
      (λ e. subst (λ (k : ℕ). (version_in (m k) < version_in (m other)) ⊎ ((version_in (m k) ≡ version_in (m other)) × (other < k))) (sym e) older.less)
      (λ e. absurd (ne e))
      (of_two file other f two within);
}

-- where any first byte is harmless, so is the one that is there
pub free_over : (roster : Roster) (text : List ℕ) (file other : ℕ) (sights : List (Option Roster)) (o m : Image) → IsRosterText roster text → HasFreeFirst text file other m → IsWritingOver roster file other sights o → m other ≡ o other
    → IsWritingOver roster file other sights m
free_over roster text file other sights o m is free over there = record {
  two = over.two;
  shown = over.shown;
  listed = over.listed;
  earlier = over.earlier;
  there = subst (λ (l : List ℕ). FileShows l over.shown) (sym there) over.there;
  here = ⊎_elim
      (λ bare. inl bare)
      (λ sealed. ⊎_elim
      (λ older. inr (inl (still_newest m file other over.two older)))
      (λ same. inr (inr (first_any roster text (m file) is same sealed)))
      (free (m file) refl sealed))
      (sealed_cases (m file));
}

pub free_kept : (text : List ℕ) (file other : ℕ) (o m : Image) → HasFreeFirst text file other o → SameRest (o file) (m file) → m other ≡ o other → HasFreeFirst text file other m
free_kept text file other o m free same there bytes rest sealed =
    subst (λ (l : List ℕ). IsOlderThan l file other bytes ⊎ SameRest text bytes) (sym there) (free bytes (rest ∙ same) sealed)

-- a file with a zero as its first byte
pub blank_over : (roster : Roster) (file other : ℕ) (sights : List (Option Roster)) (o m : Image) → IsWritingOver roster file other sights o → IsBlank (m file) → m other ≡ o other → IsWritingOver roster file other sights m
blank_over roster file other sights o m over blank there = record {
  two = over.two;
  shown = over.shown;
  listed = over.listed;
  earlier = over.earlier;
  there = subst (λ (l : List ℕ). FileShows l over.shown) (sym there) over.there;
  here = inl (blank_is_unsealed (m file) blank);
}

-- the file has these bytes after a zero
pub laid_free : (text : List ℕ) (file other : ℕ) (m : Image) → m file ≡ 0 ∷ drop 1 text → HasFreeFirst text file other m
laid_free text file other m is bytes rest sealed = inr (rest ∙ ap (drop 1) is)

-- nothing is pending, and the first byte isn't zero: then any first byte is harmless
pub settled_free : (text bytes : List ℕ) (file other : ℕ) (m : Image) → (IsSealed (m file) → IsNewest m other) → IsOther file other → (IsBlank (m file) → ⊥) → HasFreeFirst text file other m
settled_free text none file other m newest two not bytes rest sealed = ⊎_elim
    (λ bare. absurd (go (m file) bare not rest))
    (λ is.
    let n = newest is in
    inl (record {
      sealed = n.sealed;
      less = subst (λ (v : ℕ). (v < version_in (m other)) ⊎ ((v ≡ version_in (m other)) × (other < file))) (sym (same_version (m file) bytes rest)) (n.greatest file two.1 two.0 is);
    }))
    (sealed_cases (m file))
  where
    go : (old : List ℕ) → IsUnsealed old → (IsBlank old → ⊥) → drop 1 bytes ≡ drop 1 old → ⊥
    go [] bare not same = let long = sealed.long in let a : length (drop 1 bytes) ≡ 0 = ap length same in let b = length-drop 1 bytes in omega (arith, long, a, b)
    go (byte ∷ old) bare not same =
        let long = sealed.long in
        let a : length (drop 1 bytes) ≡ length old = ap length same in
        let b = length-drop 1 bytes in
        ⊎_elim
        (λ zero. not (old, ap (λ (first : ℕ). first ∷ old) zero))
        (λ first. bare (record { first = first; long = omega (arith, long, a, b) }))
        (cases_eq byte 0)

-- ---- calls

pub zeroed_over : (a b : View) (roster : Roster) (text : List ℕ) (file other : ℕ) (sights : List (Option Roster)) → IsRosterText roster text → other ≢ file → Now a (HasFreeFirst text file other)
    → Throughout a b (After a (Moved file (Torn 0 1))) → Now a (IsWritingOver roster file other sights) → Throughout a b (IsWritingOver roster file other sights)
zeroed_over a b roster text file other sights is ne free all over =
    weakened a b (After a (Moved file (Torn 0 1))) (IsWritingOver roster file other sights) all (λ m has.
    let there = has.2.others other ne in
    free_over roster text file other sights has.0 m is (free_kept text file other has.0 m (free has.0 has.1) has.2.here.after there) (over has.0 has.1) there)

pub zeroed_free : (a b : View) (text : List ℕ) (file other : ℕ) → other ≢ file → Now a (HasFreeFirst text file other) → Throughout a b (After a (Moved file (Torn 0 1))) → Now b (HasFreeFirst text file other)
zeroed_free a b text file other ne free all m is =
    let has = holds_now a b (After a (Moved file (Torn 0 1))) all m is in
    free_kept text file other has.0 m (free has.0 has.1) has.2.here.after (has.2.others other ne)

pub zeroed_blank : (b : View) (file : ℕ) (old : List ℕ) → ((m : Image) → b.images m → m file ≡ written old 0 (0 ∷ [])) → Each b file IsBlank
zeroed_blank b file old all m is = (drop 1 old, all m is)

pub other_of : (file : ℕ) → file ≤ 1 → IsOther file (1 - file)
other_of file within = (λ e. omega (arith, e, within), within, omega arith)

-- after reads, which leave no new image
pub after_reading : (a b c : View) (P : Image → Type 0) → Now a P → Throughout a b a.images → (Now b P → Throughout b c P) → Throughout a c P
after_reading a b c P now read next =
    let first : Throughout a b P = weakened a b a.images P read now in
    joined a b c P first (next (holds_now a b P first))

pub read_only : (a b : View) (P : Image → Type 0) → Now a P → Throughout a b a.images → Throughout a b P
read_only a b P now read = weakened a b a.images P read now

-- the rest is laid after a first byte of zero
abbrev StaysBlank : View → ℕ → Image → Type 0
StaysBlank a file = After a (Moved file (λ old new. IsBlank new))

cut_so_far : (a b : View) (file : ℕ) → Each a file IsBlank → TimePasses a b → Follows (Moved file (Shorn 1)) a b → CallsSoFar a b (StaysBlank a file) (StaysBlank a file)
cut_so_far a b file blank time follows =
    then_call a a b (StaysBlank a file) (StaysBlank a file) (StaysBlank a file) (Moved file (Shorn 1))
    (begun a (StaysBlank a file) (StaysBlank a file) (λ m is. (m, is, record { here = blank m is; others = λ f ne. refl })) (λ m is. is)) time follows
    (λ o m has moved. (has.0, has.1, record { here = stays_blank (o file) (m file) has.2.here moved.here.before; others = λ f ne. moved.others f ne ∙ has.2.others f ne }))
    (λ m is. is)

pub cut_moments : (a b : View) (file : ℕ) → Each a file IsBlank → TimePasses a b → Follows (Moved file (Shorn 1)) a b → Throughout a b (StaysBlank a file)
cut_moments a b file blank time follows = (cut_so_far a b file blank time follows).moments

pub rest_moments : (a b c : View) (file size : ℕ) → Each a file IsBlank → TimePasses a b → Follows (Moved file (Shorn 1)) a b → Throughout b c (After b (Moved file (Torn 1 size))) → Throughout a c (StaysBlank a file)
rest_moments a b c file size blank time follows all =
    (then a b c (StaysBlank a file) (StaysBlank a file) (StaysBlank a file) (Moved file (Torn 1 size)) (cut_so_far a b file blank time follows) all
    (λ o m has moved. (has.0, has.1, record { here = stays_blank (o file) (m file) has.2.here moved.here.before; others = λ f ne. moved.others f ne ∙ has.2.others f ne }))
    (λ m is. is)).moments

pub rest_laid : (a b c : View) (file : ℕ) (rest : List ℕ) → Each a file IsBlank → Follows (Moved file (Shorn 1)) a b → Throughout b c (After b (Moved file (Torn 1 (length rest))))
    → (Tells a → b.seen file ≡ take 1 (a.seen file)) → ((m : Image) → c.images m → m file ≡ written (b.seen file) 1 rest) → Each c file (λ bytes. bytes ≡ 0 ∷ rest)
rest_laid a b c file rest blank follows all cut durable m is =
    let from_b = holds_now b c (After b (Moved file (Torn 1 (length rest)))) all m is in
    let from_a = follows from_b.0 from_b.1 in
    let tells = a.told from_a.0 from_a.1 in
    let one : b.seen file ≡ 0 ∷ [] = cut tells ∙ ap (take 1) (blank a.seen tells).1 in
    durable m is ∙ ap (λ (l : List ℕ). written l 1 rest) one ∙ ap (λ (l : List ℕ). (0 ∷ []) ++ rest ++ l) (drop_all (1 + length rest) (0 ∷ []) (omega arith)) ∙ append-nil (0 ∷ rest)

-- ---- the whole write

pub laid_over : (a b : View) (roster : Roster) (file other : ℕ) (sights : List (Option Roster)) → other ≢ file → Throughout a b (StaysBlank a file) → Now a (IsWritingOver roster file other sights) → Throughout a b (IsWritingOver roster file other sights)
laid_over a b roster file other sights ne all over =
    weakened a b (StaysBlank a file) (IsWritingOver roster file other sights) all (λ m has. blank_over roster file other sights has.0 m (over has.0 has.1) has.2.here (has.2.others other ne))

pub sealing_over : (a b : View) (roster : Roster) (text : List ℕ) (file other : ℕ) (sights : List (Option Roster)) → IsRosterText roster text → other ≢ file → Each a file (λ bytes. bytes ≡ 0 ∷ drop 1 text) → Throughout a b (After a (Moved file ButFirst))
    → Now a (IsWritingOver roster file other sights) → Throughout a b (IsWritingOver roster file other sights)
sealing_over a b roster text file other sights is ne laid all over =
    weakened a b (After a (Moved file ButFirst)) (IsWritingOver roster file other sights) all (λ m has.
    let there = has.2.others other ne in
    free_over roster text file other sights has.0 m is (free_kept text file other has.0 m (laid_free text file other has.0 (laid has.0 has.1)) has.2.here.rest there) (over has.0 has.1) there)

pub sealing_free : (a b : View) (text : List ℕ) (file other : ℕ) → other ≢ file → Each a file (λ bytes. bytes ≡ 0 ∷ drop 1 text) → Throughout a b (After a (Moved file ButFirst)) → Now b (HasFreeFirst text file other)
sealing_free a b text file other ne laid all m is =
    let has = holds_now a b (After a (Moved file ButFirst)) all m is in
    free_kept text file other has.0 m (laid_free text file other has.0 (laid has.0 has.1)) has.2.here.rest (has.2.others other ne)

pub laid_long : (a : View) (text : List ℕ) (file : ℕ) → IsSomeRoster text → Each a file (λ bytes. bytes ≡ 0 ∷ drop 1 text) → Each a file (λ bytes. 41 ≤ length bytes)
laid_long a text file some laid m is =
    let long = (numbers_of some.0 text some.1).long in
    let size : length (m file) ≡ suc (length (drop 1 text)) = ap length (laid m is) in
    let less = length-drop 1 text in
    omega (arith, long, size, less)

pub sealed_shows : (a b : View) (roster : Roster) (text : List ℕ) (file other : ℕ) (sights : List (Option Roster)) → IsRosterText roster text → Each a file (λ bytes. bytes ≡ 0 ∷ drop 1 text) → Throughout a b (After a (Moved file ButFirst))
    → ((m : Image) → b.images m → m file ≡ 1 ∷ drop 1 (a.seen file)) → Now b (IsWritingOver roster file other sights) → IsSeenAs b (Some roster ∷ [])
sealed_shows a b roster text file other sights is laid all sealed over m here =
    let from = holds_now a b (After a (Moved file ButFirst)) all m here in
    let bytes : m file ≡ 1 ∷ drop 1 text = sealed m here ∙ ap (λ (l : List ℕ). 1 ∷ drop 1 l) (laid a.seen (a.told from.0 from.1)) in
    let whole = numbers_of roster text is in
    let size : length (m file) ≡ suc (length (drop 1 text)) = ap length bytes in
    let less = length-drop 1 text in
    let is_sealed : IsSealed (m file) = record { first = λ zero. let one : get_or (m file) 0 0 ≡ 1 = ap (λ (l : List ℕ). get_or l 0 0) bytes in omega (arith, zero, one); long = (let long = whole.long in omega (arith, long, size, less)) } in
    (Some roster, written_shows roster file other sights m (over m here) (first_any roster text (m file) is (ap (drop 1) bytes) is_sealed), contains_first (Some roster) [])

pub other_apart : (file : ℕ) → file ≤ 1 → (1 - file) ≢ file
other_apart file within e = (other_of file within).0 (sym e)

-- all that stands after the first byte of a text
pub whole_rest : (a : View) (text : List ℕ) (file : ℕ) → Each a file (λ bytes. bytes ≡ 0 ∷ take (length text - 1) (drop 1 text)) → Each a file (λ bytes. bytes ≡ 0 ∷ drop 1 text)
whole_rest a text file laid m is = laid m is ∙ ap (λ (l : List ℕ). 0 ∷ l) (take_all (length text - 1) (drop 1 text) (let less = length-drop 1 text in omega (arith, less)))
