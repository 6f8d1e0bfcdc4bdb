-- A number that decides what follows makes a form.
use Rattle.std.proofs.Common.{◌≡◌, ◌≢◌, inl, inr, ℕ, ◌^◌, ◌<◌, ◌≤◌, Bool, true, false, cond, ltb, List, [], ◌∷◌, ◌++◌, length, take, drop, Ok, Err, refl, sym, ap, subst, ◌∙◌, arith, append_assoc}
use Rattle.std.proofs.lemmas.Bool.{ltb-false, ltb-true, le-ltb}
use Rattle.std.proofs.lemmas.List.{take_at, drop_at, take-append-drop, append-nil, length-take-le, length-append}
use Rattle.std.proofs.lemmas.List.Concat.{flat_map-cons}
use Rattle.byte_fields.specs.Numbers.{big_endian, bytes_of}
use Rattle.byte_fields.proofs.NumbersLemmas.{AreBytes, AreBytes-bytes_of, big_endian-lt, big_endian-bytes_of, length-bytes_of, bytes_of-big_endian, bytes_of-injective}
use Rattle.record_form.specs.Form.{FaultKind, TooShort, Stop, FormField, Number, field_text, fields_text, Form, ends_early, number_at, headed}
use Rattle.record_form.specs.Prefix.{Begins, IsPossible, HasField, end_stop, StopsWith}
use Rattle.record_form.proofs.BytesLemmas.{AreBytes-append}
use Rattle.record_form.proofs.HeaderLemmas.{AreBytes-take}
use Rattle.record_form.proofs.FormLemmas.{IsForm, bind_ok, bind_err, First, Second, AreBytes-rest, guard_ok, guard_err, Refused, Passed}

pub short_ok : {A : Type 0} (b : Bool) (x y : A) → cond b ends_early (Ok x) ≡ Ok y → (b ≡ false) × (x ≡ y)
short_ok true x y e = absurd cc
short_ok false x y e = (refl, cc)

pub short_err : {A : Type 0} (b : Bool) (x : A) (stop : Stop) → cond b ends_early (Ok x) ≡ Err stop → (b ≡ true) × (end_stop ≡ stop)
short_err true x stop e = (refl, cc)
short_err false x stop e = absurd cc

pub number_takes : (size : ℕ) (bytes : List ℕ) (n : ℕ) (rest : List ℕ) → AreBytes bytes → number_at size bytes ≡ Ok (n, rest) → (bytes ≡ bytes_of size n ++ rest) × (n < 256 ^ size)
number_takes size bytes n rest are e =
    let g = short_ok (ltb (length bytes) size) (big_endian (take size bytes), drop size bytes) (n, rest) e in
    let long : size ≤ length bytes = ltb-false (length bytes) size g.0 in
    let is_size : length (take size bytes) ≡ size = length-take-le size bytes long in
    let prefix = AreBytes-take size bytes are in
    let spelled : bytes_of size (big_endian (take size bytes)) ≡ take size bytes = ap (λ (k : ℕ). bytes_of k (big_endian (take size bytes))) (sym is_size) ∙ bytes_of-big_endian (take size bytes) prefix in
    let below : big_endian (take size bytes) < 256 ^ size = subst (λ (k : ℕ). big_endian (take size bytes) < 256 ^ k) is_size (big_endian-lt (take size bytes) prefix) in
    subst (λ (y : ℕ × List ℕ). (bytes ≡ bytes_of size y.0 ++ y.1) × (y.0 < 256 ^ size)) g.1
    (sym (ap (λ (l : List ℕ). l ++ drop size bytes) spelled ∙ take-append-drop size bytes), below)

pub number_again : (size n : ℕ) (rest : List ℕ) → n < 256 ^ size → number_at size (bytes_of size n ++ rest) ≡ Ok (n, rest)
number_again size n rest fits =
    let long = length-append (bytes_of size n) rest in
    let is_size = length-bytes_of size n in
    rw (le-ltb (length (bytes_of size n ++ rest)) size (omega (arith, long, is_size)), take_at (bytes_of size n) rest size is_size, drop_at (bytes_of size n) rest size is_size, big_endian-bytes_of size n fits) refl

module _ {A : Type 0} (size : ℕ) (kind : FaultKind) (allowed : ℕ → Bool) (head : A → ℕ) (following : ℕ → Form A) (small : size ≤ 4) (not_short : kind ≢ TooShort)
    (fits : (n : ℕ) → allowed n ≡ true → n < 256 ^ size)
    (each : (n : ℕ) → allowed n ≡ true → IsForm (following n))
    (right : (n : ℕ) (x : A) → allowed n ≡ true → (following n).Fits x → head x ≡ n)
    (one : ℕ) (is_one : allowed one ≡ true) where
  abbrev whole : Form A
  whole = headed size kind allowed head following

  whole_text : (n : ℕ) (x : A) → allowed n ≡ true → (following n).Fits x → bytes_of size n ++ (following n).text x ≡ whole.text x
  whole_text n x is fit = ap (λ (m : ℕ). bytes_of size m ++ (following m).text x) (sym (right n x is fit))

  whole_fits : (n : ℕ) (x : A) → allowed n ≡ true → (following n).Fits x → whole.Fits x
  whole_fits n x is fit = subst (λ (m : ℕ). (allowed m ≡ true) × (following m).Fits x) (sym (right n x is fit)) (is, fit)

  abbrev refused : List ℕ → Stop
  refused bytes = record { kind = kind; size = size; left = bytes }

  head_takes : (bytes : List ℕ) (x : A) (rest : List ℕ) → AreBytes bytes → whole.read bytes ≡ Ok (x, rest) → (bytes ≡ whole.text x ++ rest) × whole.Fits x
  head_takes bytes x rest are e =
      let a = bind_ok (number_at size bytes) (λ n. cond (allowed n.0) ((following n.0).read n.1) (Err (refused bytes))) (x, rest) e in
      let g = guard_ok (allowed a.0.0) ((following a.0.0).read a.0.1) (refused bytes) (x, rest) a.2 in
      let num = number_takes size bytes a.0.0 a.0.1 are a.1 in
      let t = (each a.0.0 g.0).takes a.0.1 x rest (AreBytes-rest bytes (bytes_of size a.0.0) a.0.1 are num.0) g.1 in (
        num.0 ∙ ap (λ (l : List ℕ). bytes_of size a.0.0 ++ l) t.0 ∙ sym (append_assoc (bytes_of size a.0.0) ((following a.0.0).text x) rest) ∙ ap (λ (l : List ℕ). l ++ rest) (whole_text a.0.0 x g.0 t.1),
        whole_fits a.0.0 x g.0 t.1,
      )

  head_again : (x : A) (rest : List ℕ) → whole.Fits x → whole.read (whole.text x ++ rest) ≡ Ok (x, rest)
  head_again x rest h =
      ap whole.read (append_assoc (bytes_of size (head x)) ((following (head x)).text x) rest)
      ∙ rw (number_again size (head x) ((following (head x)).text x ++ rest) (fits (head x) h.0), h.0, (each (head x) h.0).again x rest h.1) refl

  head_some : (x : A) × whole.Fits x
  head_some = let s = (each one is_one).some in (s.0, whole_fits one s.0 is_one s.1)

  begins_none : Begins whole []
  begins_none = (head_some.0, whole.text head_some.0, head_some.1, refl)

  begins_following : (n : ℕ) (prefix : List ℕ) → allowed n ≡ true → Begins (following n) prefix → Begins whole (bytes_of size n ++ prefix)
  begins_following n prefix is b =
      (b.0, b.1, whole_fits n b.0 is b.2, append_assoc (bytes_of size n) prefix b.1 ∙ ap (λ (l : List ℕ). bytes_of size n ++ l) b.3 ∙ whole_text n b.0 is b.2)

  whole_fields : (n : ℕ) (x : A) → allowed n ≡ true → (following n).Fits x → Number kind size n ∷ (following n).fields x ≡ whole.fields x
  whole_fields n x is fit = ap (λ (m : ℕ). Number kind size m ∷ (following m).fields x) (sym (right n x is fit))

  head_spelled : (x : A) → whole.Fits x → fields_text (whole.fields x) ≡ whole.text x
  head_spelled x h = flat_map-cons field_text (Number kind size (head x)) ((following (head x)).fields x) ∙ ap (λ (l : List ℕ). bytes_of size (head x) ++ l) ((each (head x) h.0).spelled x h.1)

  has_number : HasField whole [] (Number kind size (head head_some.0))
  has_number = (head_some.0, (following (head head_some.0)).fields head_some.0, head_some.1, refl)

  has_following : (n : ℕ) (earlier : List FormField) (field : FormField) → allowed n ≡ true → HasField (following n) earlier field → HasField whole (Number kind size n ∷ earlier) field
  has_following n earlier field is h = (h.0, h.1, whole_fits n h.0 is h.2, sym (whole_fields n h.0 is h.2) ∙ ap (λ (l : List FormField). Number kind size n ∷ l) h.3)

  split_following : (n : ℕ) (bytes rest last : List ℕ) (earlier : List FormField) → bytes ≡ bytes_of size n ++ rest → rest ≡ fields_text earlier ++ last → bytes ≡ fields_text (Number kind size n ∷ earlier) ++ last
  split_following n bytes rest last earlier here split =
      here ∙ ap (λ (l : List ℕ). bytes_of size n ++ l) split ∙ sym (append_assoc (bytes_of size n) (fields_text earlier) last) ∙ ap (λ (l : List ℕ). l ++ last) (sym (flat_map-cons field_text (Number kind size n) earlier))

  possible_following : (n : ℕ) (prefix : List ℕ) → allowed n ≡ true → IsPossible whole (bytes_of size n ++ prefix) → IsPossible (following n) prefix
  possible_following n prefix is m =
      let x = m.0 in
      let grouped : bytes_of size n ++ (prefix ++ m.1) ≡ bytes_of size (head x) ++ ((following (head x)).text x ++ m.2) =
      sym (append_assoc (bytes_of size n) prefix m.1) ∙ m.4 ∙ append_assoc (bytes_of size (head x)) ((following (head x)).text x) m.2 in
      let same = bytes_of-injective size n (head x) (prefix ++ m.1) ((following (head x)).text x ++ m.2) (fits n is) (fits (head x) m.3.0) grouped in
      (x, m.1, m.2, subst (λ (k : ℕ). (following k).Fits x) (sym same.0) m.3.1, same.1 ∙ ap (λ (k : ℕ). (following k).text x ++ m.2) (sym same.0))

  never_refused : (n : ℕ) (bytes rest : List ℕ) → n < 256 ^ size → allowed n ≡ false → bytes ≡ bytes_of size n ++ rest → IsPossible whole (take size bytes) → ⊥
  never_refused n bytes rest below denied here m =
      let x = m.0 in
      let prefix : take size bytes ≡ bytes_of size n = ap (take size) here ∙ take_at (bytes_of size n) rest size (length-bytes_of size n) in
      let grouped : bytes_of size n ++ m.1 ≡ bytes_of size (head x) ++ ((following (head x)).text x ++ m.2) =
      ap (λ (l : List ℕ). l ++ m.1) (sym prefix) ∙ m.4 ∙ append_assoc (bytes_of size (head x)) ((following (head x)).text x) m.2 in
      let same = bytes_of-injective size n (head x) m.1 ((following (head x)).text x ++ m.2) below (fits (head x) m.3.0) grouped in
      let yes : allowed n ≡ true = ap allowed same.0 ∙ m.3.0 in
      absurd cc

  stops_cut : (bytes : List ℕ) → length bytes < size → StopsWith whole bytes end_stop
  stops_cut bytes few = record {
    earlier = [];
    field = Number kind size (head head_some.0);
    rest = bytes;
    has = has_number;
    split = refl;
    within = inl (few, refl);
    before = [];
    cut = bytes;
    parts = sym (append-nil bytes);
    begins = begins_none;
    early = λ is. (refl, tt);
    nothing = λ wrong. absurd (wrong refl);
  }

  stops_refused : (n : ℕ) (bytes rest : List ℕ) → n < 256 ^ size → allowed n ≡ false → bytes ≡ bytes_of size n ++ rest → StopsWith whole bytes (refused bytes)
  stops_refused n bytes rest below denied here = record {
    earlier = [];
    field = Number kind size (head head_some.0);
    rest = bytes;
    has = has_number;
    split = refl;
    within = inr (omega (arith, ap length here, length-append (bytes_of size n) rest, length-bytes_of size n), not_short, refl);
    before = [];
    cut = [];
    parts = refl;
    begins = begins_none;
    early = λ is. absurd (not_short is);
    nothing = λ wrong. (refl, small, never_refused n bytes rest below denied here);
  }

  stops_following : (n : ℕ) (bytes rest : List ℕ) (stop : Stop) → allowed n ≡ true → bytes ≡ bytes_of size n ++ rest → StopsWith (following n) rest stop → StopsWith whole bytes stop
  stops_following n bytes rest stop is here s = record {
    earlier = Number kind size n ∷ s.earlier;
    field = s.field;
    rest = s.rest;
    has = has_following n s.earlier s.field is s.has;
    split = split_following n bytes rest s.rest s.earlier here s.split;
    within = s.within;
    before = bytes_of size n ++ s.before;
    cut = s.cut;
    parts = here ∙ ap (λ (l : List ℕ). bytes_of size n ++ l) s.parts ∙ sym (append_assoc (bytes_of size n) s.before (s.cut ++ stop.left));
    begins = begins_following n s.before is s.begins;
    early = s.early;
    nothing = λ wrong. ((s.nothing wrong).0, (s.nothing wrong).1, λ m. (s.nothing wrong).2 (possible_following n (s.before ++ take stop.size stop.left) is (subst (IsPossible whole) (append_assoc (bytes_of size n) s.before (take stop.size stop.left)) m)));
  }

  head_stops : (bytes : List ℕ) (stop : Stop) → AreBytes bytes → whole.read bytes ≡ Err stop → StopsWith whole bytes stop
  head_stops bytes stop are e =
      elim (bind_err (number_at size bytes) (λ n. cond (allowed n.0) ((following n.0).read n.1) (Err (refused bytes))) stop e) [
        | First first ↦
            let s = short_err (ltb (length bytes) size) (big_endian (take size bytes), drop size bytes) stop first in
            subst (StopsWith whole bytes) s.1 (stops_cut bytes (ltb-true (length bytes) size s.0))
        | Second n ok later ↦
            let num = number_takes size bytes n.0 n.1 are ok in
            elim (guard_err (allowed n.0) ((following n.0).read n.1) (refused bytes) stop later) [
              | Refused denied same ↦ subst (StopsWith whole bytes) same (stops_refused n.0 bytes n.1 num.1 denied num.0)
              | Passed granted wrong ↦ stops_following n.0 bytes n.1 stop granted num.0 ((each n.0 granted).stops n.1 stop (AreBytes-rest bytes (bytes_of size n.0) n.1 are num.0) wrong)
            ]
      ]

  pub headed_is : IsForm (headed size kind allowed head following)
  headed_is = record { takes = head_takes; again = head_again; stops = head_stops; spelled = head_spelled; bytes = λ x h. AreBytes-append (bytes_of size (head x)) ((following (head x)).text x) (AreBytes-bytes_of size (head x)) ((each (head x) h.0).bytes x h.1); some = head_some }
