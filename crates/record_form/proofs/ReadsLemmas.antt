-- How readers of fields follow one another.
use Rattle.std.proofs.Common.{◌≡◌, ℕ, suc, ◌+◌, ◌-◌, ◌^◌, ◌<◌, ◌≤◌, Bool, true, false, List, [], ◌∷◌, ◌++◌, length, inl, inr, ◌⊎◌, Result, Ok, Err, Some, refl, sym, ap, subst, ◌∙◌, arith, nat_le, ◌&&◌, append_assoc, length-drop}
use Rattle.std.proofs.lemmas.Bool.{le-leb, lt-leb}
use Rattle.std.proofs.lemmas.List.{append-nil}
use Rattle.byte_fields.specs.Numbers.{bytes_of}
use Rattle.byte_fields.specs.Reading.{Reading, rest_of, Passes}
use Rattle.record_form.specs.declared.fault.RecordFault.{RecordFault}
use Rattle.record_form.specs.Form.{FaultKind, Stop, ◌>>=◌, number_at, fault_of, reading_fault, read_many}
use Rattle.record_form.specs.Reads.{Refuses, head_at}
use Rattle.record_form.proofs.HeadedLemmas.{number_again}

pub head_ok : (size : ℕ) (kind : FaultKind) (allowed : ℕ → Bool) (old new : Reading) (n : ℕ) → n < 256 ^ size → Passes old new (bytes_of size n) → allowed n ≡ true
    → (head_at size kind allowed (rest_of old) ≡ Ok (n, rest_of new)) × (new.text ≡ old.text)
head_ok size kind allowed old new n fits read is =
    (ap (head_at size kind allowed) read.passed ∙ rw (number_again size n (rest_of new) fits, is) refl, read.same_text)

pub head_refused : (size : ℕ) (kind : FaultKind) (allowed : ℕ → Bool) (old new : Reading) (n : ℕ) → n < 256 ^ size → Passes old new (bytes_of size n) → allowed n ≡ false → old.offset ≤ length old.text
    → reading_fault old.text (head_at size kind allowed (rest_of old)) ≡ Some (fault_of kind old.offset)
head_refused size kind allowed old new n fits read is within =
    let here : length old.text - length (rest_of old) ≡ old.offset = omega (arith, length-drop old.offset old.text) in
    let number : number_at size (rest_of old) ≡ Ok (n, rest_of new) = ap (number_at size) read.passed ∙ number_again size n (rest_of new) fits in
    rw (number, is) (ap (λ (k : ℕ). Some (fault_of kind k)) here)

-- a step that fails is where the whole fails
pub first_fails : {A B : Type 0} (fault : RecordFault) (text : List ℕ) (r : Result A Stop) (f : A → Result B Stop) → Refuses fault text r → Refuses fault text (r >>= f)
first_fails fault text (Ok x) f (inl is) = inl is
first_fails fault text (Ok x) f (inr is) = absurd cc
first_fails fault text (Err stop) f (inl is) = inl is
first_fails fault text (Err stop) f (inr is) = inr is

false_second : (a b : Bool) → b ≡ false → (a && b) ≡ false
false_second true b is = is
false_second false b is = refl

pub outside : (least most n : ℕ) → (n < least) ⊎ (most < n) → (nat_le least n && nat_le n most) ≡ false
outside least most n (inl low) = rw (lt-leb least n low) refl
outside least most n (inr high) = false_second (nat_le least n) (nat_le n most) (lt-leb n most high)

pub inside : (least most n : ℕ) → least ≤ n → n ≤ most → (nat_le least n && nat_le n most) ≡ true
inside least most n low high = rw (le-leb least n low, le-leb n most high) refl

-- what was read before, and what is still read
abbrev pub with_earlier : {A : Type 0} → List A → Result (List A × List ℕ) Stop → Result (List A × List ℕ) Stop
with_earlier earlier read = read >>= λ x. Ok (earlier ++ x.0, x.1)

earlier_none : {A : Type 0} (r : Result (List A × List ℕ) Stop) → with_earlier [] r ≡ r
earlier_none (Ok x) = refl
earlier_none (Err stop) = refl

regroup : {A : Type 0} (earlier : List A) (x : A) (read : Result (List A × List ℕ) Stop) → with_earlier earlier (read >>= λ xs. Ok (x ∷ xs.0, xs.1)) ≡ with_earlier (earlier ++ x ∷ []) read
regroup earlier x (Ok xs) = ap (λ ys. Ok (ys, xs.1)) (sym (append_assoc earlier (x ∷ []) xs.0))
regroup earlier x (Err stop) = refl

module _ {A : Type 0} (read : List ℕ → Result (A × List ℕ) Stop) where
  pub none_yet : (count : ℕ) (bytes : List ℕ) → with_earlier [] (read_many read (count - 0) bytes) ≡ read_many read count bytes
  none_yet count bytes = let k : count - 0 ≡ count = omega arith in ap (λ (n : ℕ). with_earlier [] (read_many read n bytes)) k ∙ earlier_none (read_many read count bytes)

  pub goes_on : (earlier : List A) (count i : ℕ) (bytes : List ℕ) (x : A) (after : List ℕ) (total : Result (List A × List ℕ) Stop) → i < count → read bytes ≡ Ok (x, after)
      → with_earlier earlier (read_many read (count - i) bytes) ≡ total → with_earlier (earlier ++ x ∷ []) (read_many read (count - (i + 1)) after) ≡ total
  unfolding read_many
  goes_on earlier count i bytes x after total lt h so_far =
      let k : count - i ≡ suc (count - (i + 1)) = omega arith in
      let one : with_earlier earlier (read_many read (count - i) bytes) ≡ with_earlier (earlier ++ x ∷ []) (read_many read (count - (i + 1)) after) = rw (k, h) (regroup earlier x (read_many read (count - (i + 1)) after)) in
      sym one ∙ so_far

  pub ends : (fault : RecordFault) (text : List ℕ) (earlier : List A) (count i : ℕ) (bytes : List ℕ) (total : Result (List A × List ℕ) Stop) → i < count → Refuses fault text (read bytes)
      → with_earlier earlier (read_many read (count - i) bytes) ≡ total → Refuses fault text total
  unfolding read_many
  ends fault text earlier count i bytes total lt is so_far =
      let k : count - i ≡ suc (count - (i + 1)) = omega arith in
      let first : Refuses fault text (read_many read (suc (count - (i + 1))) bytes) = first_fails fault text (read bytes) (λ x. read_many read (count - (i + 1)) x.1 >>= λ xs. Ok (x.0 ∷ xs.0, xs.1)) is in
      let all : Refuses fault text (with_earlier earlier (read_many read (suc (count - (i + 1))) bytes)) = first_fails fault text (read_many read (suc (count - (i + 1))) bytes) (λ x. Ok (earlier ++ x.0, x.1)) first in
      subst (λ r. Refuses fault text r) (ap (λ (n : ℕ). with_earlier earlier (read_many read n bytes)) (sym k) ∙ so_far) all

  pub is_done : (earlier : List A) (count i : ℕ) (bytes : List ℕ) (total : Result (List A × List ℕ) Stop) → count ≤ i → with_earlier earlier (read_many read (count - i) bytes) ≡ total → total ≡ Ok (earlier, bytes)
  unfolding read_many
  is_done earlier count i bytes total le so_far =
      let k : count - i ≡ 0 = omega arith in
      let one : with_earlier earlier (read_many read (count - i) bytes) ≡ Ok (earlier, bytes) = rw k (ap (λ xs. Ok (xs, bytes)) (append-nil earlier)) in
      sym so_far ∙ one
