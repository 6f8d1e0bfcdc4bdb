-- A form so many times is a form.
use Rattle.std.proofs.Common.{◌≡◌, ℕ, zero, suc, List, [], ◌∷◌, ◌++◌, length, Result, Ok, Err, refl, subst, arith}
use Rattle.std.specs.List.{flat_map, AllByRecursion}
use Rattle.std.proofs.lemmas.List.Concat.{flat_map-cons}
use Rattle.byte_fields.proofs.NumbersLemmas.{AreBytes}
use Rattle.record_form.specs.Form.{Stop, fields_text, Form, ◌>>=◌, ◌then◌, read_many, many}
use Rattle.record_form.proofs.BytesLemmas.{AreBytes-nil}
use Rattle.record_form.proofs.FormLemmas.{IsForm, ok_is}
use Rattle.record_form.proofs.ThenLemmas.{then_is, like_is}

bind_twice : {A B C : Type 0} (r : Result A Stop) (f : A → Result B Stop) (g : B → Result C Stop) → ((r >>= f) >>= g) ≡ (r >>= λ x. f x >>= g)
bind_twice (Ok x) f g = refl
bind_twice (Err stop) f g = refl

abbrev with_first : {A : Type 0} → A → List A × List ℕ → Result (List A × List ℕ) Stop
with_first a xs = Ok (a ∷ xs.0, xs.1)

abbrev paired : {A : Type 0} → A → List A × List ℕ → Result ((A × List A) × List ℕ) Stop
paired a xs = Ok ((a, xs.0), xs.1)

abbrev as_list : {A : Type 0} → (A × List A) × List ℕ → Result (List A × List ℕ) Stop
as_list x = Ok (x.0.0 ∷ x.0.1, x.1)

cons_again : {A : Type 0} (a : A) (q : Result (List A × List ℕ) Stop) → (q >>= with_first a) ≡ ((q >>= paired a) >>= as_list)
cons_again a (Ok x) = refl
cons_again a (Err stop) = refl

reads_again : {A : Type 0} (r : Result (A × List ℕ) Stop) (more : List ℕ → Result (List A × List ℕ) Stop)
    → (r >>= λ x. more x.1 >>= with_first x.0) ≡ ((r >>= λ x. more x.1 >>= paired x.0) >>= as_list)
reads_again (Ok x) more = cons_again x.0 (more x.1)
reads_again (Err stop) more = refl

module _ {A : Type 0} (f : Form A) (is : IsForm f) where
  none_again : (xs : List A) (rest : List ℕ) → length xs ≡ 0 → read_many f.read 0 (flat_map f.text xs ++ rest) ≡ Ok (xs, rest)
  unfolding read_many
  none_again [] rest h = refl
  none_again (x ∷ xs) rest h = absurd (omega arith)

  none_bytes : (xs : List A) → length xs ≡ 0 → AreBytes (flat_map f.text xs)
  none_bytes [] h = AreBytes-nil
  none_bytes (x ∷ xs) h = absurd (omega arith)

  none_spelled : (xs : List A) → length xs ≡ 0 → fields_text (flat_map f.fields xs) ≡ flat_map f.text xs
  none_spelled [] h = refl
  none_spelled (x ∷ xs) h = absurd (omega arith)

  none_is : IsForm (many f 0)
  unfolding read_many
  none_is = record {
    takes = λ bytes xs rest are e. subst (λ (y : List A × List ℕ). (bytes ≡ flat_map f.text y.0 ++ y.1) × ((length y.0 ≡ 0) × AllByRecursion f.Fits y.0)) (ok_is ([], bytes) (xs, rest) e) (refl, (refl, tt));
    again = λ xs rest h. none_again xs rest h.0;
    stops = λ bytes stop are e. absurd cc;
    spelled = λ xs h. none_spelled xs h.0;
    bytes = λ xs h. none_bytes xs h.0;
    some = ([], (refl, tt));
  }

  abbrev first_of : List A → A × List A
  first_of [] = (is.some.0, [])
  first_of (x ∷ xs) = (x, xs)

  more_text : (n : ℕ) (xs : List A) → (many f (suc n)).Fits xs → flat_map f.text xs ≡ f.text (first_of xs).0 ++ flat_map f.text (first_of xs).1
  more_text n [] h = absurd (omega (arith, h.0))
  more_text n (x ∷ xs) h = flat_map-cons f.text x xs

  more_fields : (n : ℕ) (xs : List A) → (many f (suc n)).Fits xs → flat_map f.fields xs ≡ f.fields (first_of xs).0 ++ flat_map f.fields (first_of xs).1
  more_fields n [] h = absurd (omega (arith, h.0))
  more_fields n (x ∷ xs) h = flat_map-cons f.fields x xs

  more_fits : (n : ℕ) (xs : List A) → (many f (suc n)).Fits xs → (f then many f n).Fits (first_of xs) × (xs ≡ (first_of xs).0 ∷ (first_of xs).1)
  more_fits n [] h = absurd (omega (arith, h.0))
  more_fits n (x ∷ xs) h = ((h.1.0, (omega (arith, h.0), h.1.1)), refl)

  more_made : (n : ℕ) (x : A × List A) → (f then many f n).Fits x → (many f (suc n)).Fits (x.0 ∷ x.1) × (first_of (x.0 ∷ x.1) ≡ x)
  more_made n x h = ((omega (arith, h.1.0), (h.0, h.1.1)), refl)

  more_reads : (n : ℕ) (bytes : List ℕ) → (many f (suc n)).read bytes ≡ ((f then many f n).read bytes >>= λ x. Ok (x.0.0 ∷ x.0.1, x.1))
  unfolding read_many
  more_reads n bytes = reads_again (f.read bytes) (read_many f.read n)

  pub many_is : (n : ℕ) → IsForm (many f n)
  many_is zero = none_is
  many_is (suc n) = like_is (f then many f n) (many f (suc n)) (λ x. x.0 ∷ x.1) first_of (then_is f (many f n) is (many_is n)) (more_text n) (more_fields n) (more_fits n) (more_made n) (more_reads n)
