-- The calls of a creation, over what the disk tells.
use Rattle.std.proofs.Common.{◌≡◌, inl, inr, ⊎_elim, ℕ, List, [], ◌∷◌, take, drop, refl, ◌∙◌, ap, subst}
use Rattle.disk_trait.specs.View.{Image, View, Tells}
use Rattle.disk_trait.specs.Calls.{written, Torn, Shorn, Moved, Follows, TimePasses}
use Rattle.disk_trait.specs.Moments.{After, Throughout, CallsSoFar}
use Rattle.disk_trait.proofs.Runs.{begun, then, then_call, weakened, holds_now, followed_in, followed_same}
use Rattle.record_form.specs.declared.header.Header.{Header}
use Rattle.record_form.specs.HeaderText.{IsHeader, header_text}
use Rattle.seal_gate.specs.Seal.{ButFirst, StaysShort, Each}
use Rattle.seal_gate.proofs.SealLemmas.{short_is_unsealed}
use Rattle.store_journal.specs.Created.{IsBlank, IsFreed, IsBegun, empty_text}
use Rattle.store_journal.proofs.CreatedLemmas.{blank_is_unsealed, stays_blank, empty_written, torn_seal}

-- the header and the gate are laid after a first byte of zero
module _ (a : View) (file : ℕ) (blank : Each a file IsBlank) where
  -- an image of the start, in which the first byte has stayed
  abbrev Blank : Image → Type 0
  Blank = After a (Moved file (λ old new. IsBlank new))

  start : CallsSoFar a a Blank Blank
  start = begun a Blank Blank (λ m is. (m, is, record { here = blank m is; others = λ f ne. refl })) (λ m is. is)

  on : (step : List ℕ → List ℕ → Type 0) → ((old new : List ℕ) → IsBlank old → step old new → IsBlank new) → (o m : Image) → Blank o → Moved file step o m → Blank m
  on step keeps o m has moved = (has.0, has.1, record { here = keeps (o file) (m file) has.2.here moved.here; others = λ f ne. moved.others f ne ∙ has.2.others f ne })

  pub cut_run : (b : View) → TimePasses a b → Follows (Moved file (Shorn 1)) a b → CallsSoFar a b Blank Blank
  cut_run b time follows = then_call a a b Blank Blank Blank (Moved file (Shorn 1)) start time follows
      (on (Shorn 1) (λ old new is shorn. stays_blank 0 old new is shorn.before)) (λ m is. is)

  pub header_run : (b c : View) (size : ℕ) → CallsSoFar a b Blank Blank → TimePasses b c → Follows (Moved file (Torn 1 size)) b c → CallsSoFar a c Blank Blank
  header_run b c size so_far time follows = then_call a b c Blank Blank Blank (Moved file (Torn 1 size)) so_far time follows
      (on (Torn 1 size) (λ old new is torn. stays_blank 0 old new is torn.before)) (λ m is. is)

  pub gate_run : (c d : View) → CallsSoFar a c Blank Blank → Throughout c d (After c (Moved file (Torn 41 1))) → CallsSoFar a d Blank Blank
  gate_run c d so_far all = then a c d Blank Blank Blank (Moved file (Torn 41 1)) so_far all
      (on (Torn 41 1) (λ old new is torn. stays_blank 40 old new is torn.before)) (λ m is. is)

  -- they are there
  pub laid : (b c d : View) (header : Header) (text : List ℕ) (size : ℕ) → text ≡ header_text header
      → Follows (Moved file (Shorn 1)) a b → Follows (Moved file (Torn 1 size)) b c → Throughout c d (After c (Moved file (Torn 41 1)))
      → (Tells a → b.seen file ≡ take 1 (a.seen file)) → (Tells b → c.seen file ≡ written (b.seen file) 1 text) → Each d file (λ bytes. bytes ≡ written (c.seen file) 41 (0 ∷ []))
      → Each d file (λ bytes. bytes ≡ empty_text 0 header)
  laid b c d header text size is_text first second third cut wrote durable m is =
      let from_c = holds_now c d (After c (Moved file (Torn 41 1))) third m is in
      let from_b = second from_c.0 from_c.1 in
      let from_a = first from_b.0 from_b.1 in
      let tells_b = b.told from_b.0 from_b.1 in
      let tells_a = a.told from_a.0 from_a.1 in
      durable m is ∙ empty_written (a.seen file) (b.seen file) (c.seen file) header text (blank a.seen tells_a) (cut tells_a) is_text (wrote tells_b)

-- a file is made free
pub cleared : (a b c : View) (file : ℕ) → Throughout a b (After a (Moved file ButFirst)) → Throughout b c b.images → Throughout a c (After a (Moved file IsFreed))
cleared a b c file first second = weakened a c _ _ (followed_same a b c _ first second) (λ m has. (has.0, has.1, record { here = inr has.2.here; others = has.2.others }))

pub blanked : (a b c d : View) (file : ℕ) → Throughout a b (After a (Moved file ButFirst)) → Throughout b c b.images → Throughout c d (After c (Moved file StaysShort)) → Throughout a d (After a (Moved file IsFreed))
blanked a b c d file first second third =
    followed_in a c d file ButFirst StaysShort IsFreed (followed_same a b c _ first second) third
    (λ o m is r. inr r) (λ o m n is mid r s. inl (short_is_unsealed (n file) s.short))

-- it is laid
pub begun_store : (a b c : View) (file : ℕ) (header : Header) → Throughout a b (After a (Moved file IsFreed)) → Throughout b c (After b (Moved file (λ old new. IsBlank new))) → Throughout a c (After a (Moved file (IsBegun header)))
begun_store a b c file header first second =
    followed_in a b c file IsFreed (λ old new. IsBlank new) (IsBegun header) first second
    (λ o m is r. inl r) (λ o m n is mid r s. inl (inl (blank_is_unsealed (n file) s)))

-- it is sealed
pub sealed_store : (a b c d : View) (file : ℕ) (header : Header) → IsHeader header → Throughout a b (After a (Moved file IsFreed)) → Throughout b c (After b (Moved file (λ old new. IsBlank new)))
    → Each c file (λ bytes. bytes ≡ empty_text 0 header) → Throughout c d (After c (Moved file ButFirst)) → Throughout a d (After a (Moved file (IsBegun header)))
sealed_store a b c d file header limits first second laid third =
    followed_in a c d file (IsBegun header) ButFirst (IsBegun header) (begun_store a b c file header first second) third
    (λ o m is r. r)
    (λ o m n is mid r s. ⊎_elim (λ unsealed. inl (inl unsealed)) inr
    (torn_seal header (n file) limits (subst (λ (l : List ℕ). ButFirst l (n file)) (laid m mid) s)))

-- and is then the seal, the header and the gate
pub sealed_bytes : (a b : View) (file : ℕ) (header : Header) → Each a file (λ bytes. bytes ≡ empty_text 0 header) → Throughout a b (After a (Moved file ButFirst))
    → Each b file (λ bytes. bytes ≡ 1 ∷ drop 1 (a.seen file)) → Each b file (λ bytes. bytes ≡ empty_text 1 header)
sealed_bytes a b file header laid all sealed m is =
    let from = holds_now a b _ all m is in
    sealed m is ∙ ap (λ (l : List ℕ). 1 ∷ drop 1 l) (laid a.seen (a.told from.0 from.1))
