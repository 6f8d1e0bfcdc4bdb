-- One form and then another is a form, and so is a form whose values are seen as others.
use Rattle.std.proofs.Common.{◌≡◌, ℕ, List, ◌∷◌, ◌++◌, take, Result, Ok, Err, refl, sym, ap, subst, ◌∙◌, append_assoc}
use Rattle.std.proofs.lemmas.List.Concat.{flat_map-append}
use Rattle.byte_fields.proofs.NumbersLemmas.{AreBytes}
use Rattle.record_form.specs.Form.{Stop, FormField, field_text, fields_text, Form, ◌>>=◌, ◌then◌, seen_as}
use Rattle.record_form.specs.Prefix.{Begins, IsPossible, HasField, StopsWith}
use Rattle.record_form.proofs.BytesLemmas.{AreBytes-append}
use Rattle.record_form.proofs.FormLemmas.{IsForm, bind_ok, bind_err, First, Second, done, ok_is, AreBytes-rest}

module _ {A B : Type 0} (f : Form A) (g : Form B) (is : IsForm f) (also : IsForm g) where
  abbrev both : Form (A × B)
  both = f then g

  then_takes : (bytes : List ℕ) (x : A × B) (rest : List ℕ) → AreBytes bytes → both.read bytes ≡ Ok (x, rest) → (bytes ≡ both.text x ++ rest) × both.Fits x
  then_takes bytes x rest are e =
      let a = bind_ok (f.read bytes) (λ x. g.read x.1 >>= λ y. Ok ((x.0, y.0), y.1)) (x, rest) e in
      let b = bind_ok (g.read a.0.1) (λ y. Ok ((a.0.0, y.0), y.1)) (x, rest) a.2 in
      let first = is.takes bytes a.0.0 a.0.1 are a.1 in
      let second = also.takes a.0.1 b.0.0 b.0.1 (AreBytes-rest bytes (f.text a.0.0) a.0.1 are first.0) b.1 in
      let whole : bytes ≡ (f.text a.0.0 ++ g.text b.0.0) ++ b.0.1 = first.0 ∙ ap (λ (l : List ℕ). f.text a.0.0 ++ l) second.0 ∙ sym (append_assoc (f.text a.0.0) (g.text b.0.0) b.0.1) in
      subst (λ (y : (A × B) × List ℕ). (bytes ≡ both.text y.0 ++ y.1) × both.Fits y.0) (ok_is ((a.0.0, b.0.0), b.0.1) (x, rest) b.2) (whole, (first.1, second.1))

  then_again : (x : A × B) (rest : List ℕ) → both.Fits x → both.read (both.text x ++ rest) ≡ Ok (x, rest)
  then_again x rest fits =
      ap both.read (append_assoc (f.text x.0) (g.text x.1) rest) ∙ rw (is.again x.0 (g.text x.1 ++ rest) fits.0, also.again x.1 rest fits.1) refl

  -- what begins the first form begins both
  begins_first : (prefix : List ℕ) → Begins f prefix → Begins both prefix
  begins_first prefix b = (
    (b.0, also.some.0),
    b.1 ++ g.text also.some.0,
    (b.2, also.some.1),
    sym (append_assoc prefix b.1 (g.text also.some.0)) ∙ ap (λ (l : List ℕ). l ++ g.text also.some.0) b.3,
  )

  begins_second : (x : A) (prefix : List ℕ) → f.Fits x → Begins g prefix → Begins both (f.text x ++ prefix)
  begins_second x prefix fits b = ((x, b.0), b.1, (fits, b.2), append_assoc (f.text x) prefix b.1 ∙ ap (λ (l : List ℕ). f.text x ++ l) b.3)

  possible_first : (prefix : List ℕ) → IsPossible both prefix → IsPossible f prefix
  possible_first prefix m = (m.0.0, m.1, g.text m.0.1 ++ m.2, m.3.0, m.4 ∙ append_assoc (f.text m.0.0) (g.text m.0.1) m.2)

  possible_second : (x : A) (prefix : List ℕ) → f.Fits x → IsPossible both (f.text x ++ prefix) → IsPossible g prefix
  possible_second x prefix fits m =
      let grouped : f.text x ++ (prefix ++ m.1) ≡ f.text m.0.0 ++ (g.text m.0.1 ++ m.2) = sym (append_assoc (f.text x) prefix m.1) ∙ m.4 ∙ append_assoc (f.text m.0.0) (g.text m.0.1) m.2 in
      let same = ok_is (x, prefix ++ m.1) (m.0.0, g.text m.0.1 ++ m.2) (sym (is.again x (prefix ++ m.1) fits) ∙ ap f.read grouped ∙ is.again m.0.0 (g.text m.0.1 ++ m.2) m.3.0) in
      (m.0.1, m.1, m.2, m.3.1, ap (λ (y : A × List ℕ). y.1) same)

  then_spelled : (x : A × B) → both.Fits x → fields_text (both.fields x) ≡ both.text x
  then_spelled x fits = flat_map-append field_text (f.fields x.0) (g.fields x.1) ∙ (λ i. is.spelled x.0 fits.0 i ++ also.spelled x.1 fits.1 i)

  has_first : (earlier : List FormField) (field : FormField) → HasField f earlier field → HasField both earlier field
  has_first earlier field h = (
    (h.0, also.some.0),
    h.1 ++ g.fields also.some.0,
    (h.2, also.some.1),
    ap (λ (l : List FormField). l ++ g.fields also.some.0) h.3 ∙ append_assoc earlier (field ∷ h.1) (g.fields also.some.0),
  )

  has_second : (x : A) (earlier : List FormField) (field : FormField) → f.Fits x → HasField g earlier field → HasField both (f.fields x ++ earlier) field
  has_second x earlier field fits h = ((x, h.0), h.1, (fits, h.2), ap (λ (l : List FormField). f.fields x ++ l) h.3 ∙ sym (append_assoc (f.fields x) earlier (field ∷ h.1)))

  split_second : (bytes : List ℕ) (x : A) (rest last : List ℕ) (earlier : List FormField) → f.Fits x → bytes ≡ f.text x ++ rest → rest ≡ fields_text earlier ++ last → bytes ≡ fields_text (f.fields x ++ earlier) ++ last
  split_second bytes x rest last earlier fits here split =
      let spelled : fields_text (f.fields x ++ earlier) ≡ f.text x ++ fields_text earlier = flat_map-append field_text (f.fields x) earlier ∙ ap (λ (l : List ℕ). l ++ fields_text earlier) (is.spelled x fits) in
      here ∙ ap (λ (l : List ℕ). f.text x ++ l) split ∙ sym (append_assoc (f.text x) (fields_text earlier) last) ∙ ap (λ (l : List ℕ). l ++ last) (sym spelled)

  stops_first : (bytes : List ℕ) (stop : Stop) → StopsWith f bytes stop → StopsWith both bytes stop
  stops_first bytes stop s = record {
    earlier = s.earlier;
    field = s.field;
    rest = s.rest;
    has = has_first s.earlier s.field s.has;
    split = s.split;
    within = s.within;
    before = s.before;
    cut = s.cut;
    parts = s.parts;
    begins = begins_first s.before s.begins;
    early = s.early;
    nothing = λ wrong. ((s.nothing wrong).0, (s.nothing wrong).1, λ m. (s.nothing wrong).2 (possible_first (s.before ++ take stop.size stop.left) m));
  }

  stops_second : (bytes : List ℕ) (x : A) (rest : List ℕ) (stop : Stop) → f.Fits x → bytes ≡ f.text x ++ rest → StopsWith g rest stop → StopsWith both bytes stop
  stops_second bytes x rest stop fits here s = record {
    earlier = f.fields x ++ s.earlier;
    field = s.field;
    rest = s.rest;
    has = has_second x s.earlier s.field fits s.has;
    split = split_second bytes x rest s.rest s.earlier fits here s.split;
    within = s.within;
    before = f.text x ++ s.before;
    cut = s.cut;
    parts = here ∙ ap (λ (l : List ℕ). f.text x ++ l) s.parts ∙ sym (append_assoc (f.text x) s.before (s.cut ++ stop.left));
    begins = begins_second x s.before fits s.begins;
    early = s.early;
    nothing = λ wrong. ((s.nothing wrong).0, (s.nothing wrong).1, λ m. (s.nothing wrong).2 (possible_second x (s.before ++ take stop.size stop.left) fits (subst (IsPossible both) (append_assoc (f.text x) s.before (take stop.size stop.left)) m)));
  }

  then_stops : (bytes : List ℕ) (stop : Stop) → AreBytes bytes → both.read bytes ≡ Err stop → StopsWith both bytes stop
  then_stops bytes stop are e =
      elim (bind_err (f.read bytes) (λ x. g.read x.1 >>= λ y. Ok ((x.0, y.0), y.1)) stop e) [
        | First first ↦ stops_first bytes stop (is.stops bytes stop are first)
        | Second x ok second ↦
            let t = is.takes bytes x.0 x.1 are ok in
            elim (bind_err (g.read x.1) (λ y. Ok ((x.0, y.0), y.1)) stop second) [
              | First later ↦ stops_second bytes x.0 x.1 stop t.1 t.0 (also.stops x.1 stop (AreBytes-rest bytes (f.text x.0) x.1 are t.0) later)
              | Second y found never ↦ absurd cc
            ]
      ]

  pub then_is : IsForm (f then g)
  then_is = record { takes = then_takes; again = then_again; stops = then_stops; spelled = then_spelled; bytes = λ x h. AreBytes-append (f.text x.0) (g.text x.1) (is.bytes x.0 h.0) (also.bytes x.1 h.1); some = ((is.some.0, also.some.0), (is.some.1, also.some.1)) }

module _ {A B : Type 0} (f : Form A) (g : Form B) (to : A → B) (back : B → A) (is : IsForm f)
    (texts : (y : B) → g.Fits y → g.text y ≡ f.text (back y))
    (listed : (y : B) → g.Fits y → g.fields y ≡ f.fields (back y))
    (fits : (y : B) → g.Fits y → f.Fits (back y) × (y ≡ to (back y)))
    (made : (x : A) → f.Fits x → g.Fits (to x) × (back (to x) ≡ x))
    (reads : (bytes : List ℕ) → g.read bytes ≡ (f.read bytes >>= λ x. Ok (to x.0, x.1))) where
  text_made : (x : A) → f.Fits x → g.text (to x) ≡ f.text x
  text_made x is_fit = texts (to x) (made x is_fit).0 ∙ ap f.text (made x is_fit).1

  like_takes : (bytes : List ℕ) (y : B) (rest : List ℕ) → AreBytes bytes → g.read bytes ≡ Ok (y, rest) → (bytes ≡ g.text y ++ rest) × g.Fits y
  like_takes bytes y rest are e =
      let a = bind_ok (f.read bytes) (λ x. Ok (to x.0, x.1)) (y, rest) (sym (reads bytes) ∙ e) in
      let t = is.takes bytes a.0.0 a.0.1 are a.1 in
      subst (λ (z : B × List ℕ). (bytes ≡ g.text z.0 ++ z.1) × g.Fits z.0) (ok_is (to a.0.0, a.0.1) (y, rest) a.2)
      (t.0 ∙ ap (λ (l : List ℕ). l ++ a.0.1) (sym (text_made a.0.0 t.1)), (made a.0.0 t.1).0)

  like_again : (y : B) (rest : List ℕ) → g.Fits y → g.read (g.text y ++ rest) ≡ Ok (y, rest)
  like_again y rest is_fit =
      let was = fits y is_fit in
      reads (g.text y ++ rest)
      ∙ ap (λ (l : List ℕ). f.read (l ++ rest) >>= λ x. Ok (to x.0, x.1)) (texts y is_fit)
      ∙ ap (λ (r : Result (A × List ℕ) Stop). r >>= λ x. Ok (to x.0, x.1)) (is.again (back y) rest was.0)
      ∙ ap (λ (z : B). done (z, rest)) (sym was.1)

  like_begins : (prefix : List ℕ) → Begins f prefix → Begins g prefix
  like_begins prefix b = (to b.0, b.1, (made b.0 b.2).0, b.3 ∙ sym (text_made b.0 b.2))

  like_possible : (prefix : List ℕ) → IsPossible g prefix → IsPossible f prefix
  like_possible prefix m = (back m.0, m.1, m.2, (fits m.0 m.3).0, m.4 ∙ ap (λ (l : List ℕ). l ++ m.2) (texts m.0 m.3))

  like_spelled : (y : B) → g.Fits y → fields_text (g.fields y) ≡ g.text y
  like_spelled y is_fit = ap fields_text (listed y is_fit) ∙ is.spelled (back y) (fits y is_fit).0 ∙ sym (texts y is_fit)

  like_has : (earlier : List FormField) (field : FormField) → HasField f earlier field → HasField g earlier field
  like_has earlier field h = (to h.0, h.1, (made h.0 h.2).0, listed (to h.0) (made h.0 h.2).0 ∙ ap f.fields (made h.0 h.2).1 ∙ h.3)

  like_stops : (bytes : List ℕ) (stop : Stop) → AreBytes bytes → g.read bytes ≡ Err stop → StopsWith g bytes stop
  like_stops bytes stop are e =
      elim (bind_err (f.read bytes) (λ x. Ok (to x.0, x.1)) stop (sym (reads bytes) ∙ e)) [
        | First first ↦
            let s = is.stops bytes stop are first in
            record {
              earlier = s.earlier;
              field = s.field;
              rest = s.rest;
              has = like_has s.earlier s.field s.has;
              split = s.split;
              within = s.within;
              before = s.before;
              cut = s.cut;
              parts = s.parts;
              begins = like_begins s.before s.begins;
              early = s.early;
              nothing = λ wrong. ((s.nothing wrong).0, (s.nothing wrong).1, λ m. (s.nothing wrong).2 (like_possible (s.before ++ take stop.size stop.left) m));
            }
        | Second x ok never ↦ absurd cc
      ]

  pub like_is : IsForm g
  like_is = record { takes = like_takes; again = like_again; stops = like_stops; spelled = like_spelled; bytes = λ y h. subst AreBytes (sym (texts y h)) (is.bytes (back y) (fits y h).0); some = (to is.some.0, (made is.some.0 is.some.1).0) }

pub seen_is : {A B : Type 0} (f : Form A) (to : A → B) (back : B → A) → IsForm f → ((x : A) → back (to x) ≡ x) → IsForm (seen_as to back f)
seen_is f to back is same =
    like_is f (seen_as to back f) to back is (λ y h. refl) (λ y h. refl) (λ y h. h) (λ x h. ((subst f.Fits (sym (same x)) h, ap to (sym (same x))), same x)) (λ bytes. refl)
