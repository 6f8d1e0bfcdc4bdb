-- What is spelled are bytes.
use Rattle.std.proofs.Common.{◌≡◌, ℕ, zero, suc, ◌+◌, ◌/◌, ◌<◌, Bool, true, false, cond, List, [], ◌∷◌, ◌++◌, length, All, refl, subst, arith, inl, inr}
use Rattle.std.proofs.lemmas.Bool.{cases_lt, ltb-true}
use Rattle.std.proofs.lemmas.List.{get_or_past}
use Rattle.std.specs.Str.{IsUtf8}
use Rattle.byte_fields.proofs.NumbersLemmas.{AreBytes}
use Rattle.record_form.proofs.HeaderLemmas.{both_true}
use lib.Utf8 as utf8
use lib.Utf8.{scalar, scalars, scalar_cases, encode, encodes, next}
use lib.Dec.{ltb}

AreBytes-cons : (byte : ℕ) (bytes : List ℕ) → byte < 256 → AreBytes bytes → AreBytes (byte ∷ bytes)
AreBytes-cons byte bytes below are zero = omega arith
AreBytes-cons byte bytes below are (suc i) = are i

pub AreBytes-append : (xs ys : List ℕ) → AreBytes xs → AreBytes ys → AreBytes (xs ++ ys)
AreBytes-append [] ys are also = also
AreBytes-append (x ∷ xs) ys are also = AreBytes-cons x (xs ++ ys) (omega (arith, are 0)) (AreBytes-append xs ys (λ i. are (suc i)) also)

pub AreBytes-nil : AreBytes []
AreBytes-nil i = omega arith

either : (b : Bool) (xs ys : List ℕ) → (b ≡ true → AreBytes xs) → AreBytes ys → AreBytes (cond b xs ys)
either true xs ys one other = one refl
either false xs ys one other = other

next_byte : (bits : ℕ) (bytes : List ℕ) → AreBytes bytes → AreBytes (next bits ∷ bytes)
next_byte bits bytes are = AreBytes-cons (next bits) bytes (omega arith) are

AreBytes-encode : (c : ℕ) → c < 1114112 → AreBytes (encode c)
unfolding utf8.encode
AreBytes-encode c below =
    let last = next c ∷ [] in
    let last_two = next (c / 64) ∷ last in
    let last_three = next (c / 4096) ∷ last_two in
    let one = next_byte c [] AreBytes-nil in
    let two = next_byte (c / 64) last one in
    let three = next_byte (c / 4096) last_two two in
    either (ltb c 128) _ _ (λ is. AreBytes-cons c [] (omega (arith, ltb-true c 128 is)) AreBytes-nil)
    (either (ltb c 2048) _ _ (λ is. AreBytes-cons (192 + c / 64) last (omega (arith, ltb-true c 2048 is)) one)
    (either (ltb c 65536) _ _ (λ is. AreBytes-cons (224 + c / 4096) last_two (omega (arith, ltb-true c 65536 is)) two)
    (AreBytes-cons (240 + c / 262144) last_three (omega arith) three)))

below_end : (c : ℕ) → scalar c ≡ true → c < 1114112
below_end c is =
    elim (scalar_cases c is) [
      | inl low ↦ omega arith
      | inr high ↦ high.1
    ]

AreBytes-encodes : (cs : List ℕ) → scalars cs ≡ true → AreBytes (encodes cs)
AreBytes-encodes [] are = AreBytes-nil
AreBytes-encodes (c ∷ cs) are =
    let both = both_true (scalar c) (scalars cs) are in
    AreBytes-append (encode c) (encodes cs) (AreBytes-encode c (below_end c both.0)) (AreBytes-encodes cs both.1)

pub AreBytes-utf8 : (text : List ℕ) → IsUtf8 text → AreBytes text
AreBytes-utf8 text (characters, (are, spelled)) = subst AreBytes spelled (AreBytes-encodes characters are)

-- bytes, as a law says it
pub are_bytes : (bytes : List ℕ) → All (λ byte. byte < 256) bytes → AreBytes bytes
are_bytes bytes are i =
    elim (cases_lt i (length bytes)) [
      | inl here ↦ omega (arith, are i 0 here)
      | inr past ↦ rw (get_or_past bytes i 0 past) (omega arith)
    ]
