-- Laws of the first offset at which a text leaves its form, number by number.
use Rattle.std.proofs.Common.{◌≡◌, ℕ, zero, suc, ◌+◌, ◌≤◌, ◌<◌, ◌⊎◌, inl, inr, List, [], ◌∷◌, ◌++◌, length, get_or, take, drop, refl, sym, ap, ◌∙◌, subst, arith, append_assoc}
use Rattle.std.proofs.lemmas.Bool.{cases_lt}
use Rattle.std.proofs.lemmas.List.{take_at, length-take-le, take-append-le, take-append-drop, take-take, length-append, get_or_at, get_or-take, get_or_append_left, append-nil}
use Rattle.store_ident.specs.Faults.{LeavesAt}
use Rattle.store_ident.specs.Numbers.{IsDigit, IsNumberText}
use Rattle.store_ident.specs.Reading.{IsLeading}
use Rattle.store_ident.specs.declared.number.Leading.{Leading}
use Rattle.store_ident.proofs.NumberLemmas.{dash_no_digit, digit_at, IsNumberText-take, same_before_dash}

-- a number, a dash, and then a text of another language
pub record NumberThen (base : ℕ) (IsRest : List ℕ → Type 0) (text : List ℕ) : Type 0 where
  pub numeral : List ℕ
  pub rest : List ℕ
  pub whole : text ≡ numeral ++ 45 ∷ rest
  pub is : IsNumberText base numeral
  pub follows : IsRest rest

-- ---- languages

-- the offset is the same in two languages that have the same texts
pub LeavesAt-same : (IsOf IsOther : List ℕ → Type 0) (text : List ℕ) (at : ℕ) → ((t : List ℕ) → IsOf t → IsOther t) → ((t : List ℕ) → IsOther t → IsOf t) → LeavesAt IsOf text at → LeavesAt IsOther text at
LeavesAt-same IsOf IsOther text at to from leaves = record {
  within = leaves.within;
  begins = (leaves.begins.0, to _ leaves.begins.1);
  stops = λ more begun. leaves.stops more (begun.0, from _ begun.1);
  other = λ is. leaves.other (from text is);
}

-- a text leaves its form at one offset
pub LeavesAt-unique : (IsOf : List ℕ → Type 0) (text : List ℕ) (i j : ℕ) → LeavesAt IsOf text i → LeavesAt IsOf text j → i ≡ j
LeavesAt-unique IsOf text i j p q =
    elim (cases_lt i j) [
      | inl less ↦ absurd (later i j less p q)
      | inr more ↦ elim (cases_lt j i) [ inl less ↦ absurd (later j i less q p) | inr same ↦ omega arith ]
    ]
  where
    later : (i j : ℕ) → i < j → LeavesAt IsOf text i → LeavesAt IsOf text j → ⊥
    later i j less p q =
        let shorter : take (i + 1) (take j text) ≡ take (i + 1) text = take-take (i + 1) j text (omega arith) in
        let whole : take (i + 1) text ++ drop (i + 1) (take j text) ≡ take j text = ap (λ xs. xs ++ drop (i + 1) (take j text)) (sym shorter) ∙ take-append-drop (i + 1) (take j text) in
        p.stops (omega (arith, q.within)) (drop (i + 1) (take j text) ++ q.begins.0, subst IsOf (sym (sym (append_assoc (take (i + 1) text) (drop (i + 1) (take j text)) q.begins.0) ∙ ap (λ xs. xs ++ q.begins.0) whole)) q.begins.1)

-- ---- one number

-- the number's text, if there is one
pub number_front : (base : ℕ) (text : List ℕ) (number : Leading) → IsLeading base text number → 1 ≤ number.length → IsNumberText base (take number.length text)
number_front base text number leading some =
    let count : length (take number.length text) ≡ number.length = length-take-le number.length text leading.within in
    record { some = omega arith; digits = leading.prefix.digits; no_leading_zero = λ zero_first. let most : length (take number.length text) ≤ 1 = leading.prefix.no_leading_zero zero_first in omega arith }

one_text : (base : ℕ) → 2 ≤ base → IsNumberText base (49 ∷ [])
one_text base low = record { some = omega arith; digits = ((omega arith, refl), tt); no_leading_zero = λ is. refl }

-- the text of a longer number doesn't begin with the bytes up to the stop
no_longer : (base : ℕ) (text : List ℕ) (number : Leading) (more : List ℕ) → IsLeading base text number → number.length < length text → IsNumberText base (take (number.length + 1) text ++ more) → ⊥
no_longer base text number more leading room is =
    let count : length (take (number.length + 1) text) ≡ number.length + 1 = length-take-le (number.length + 1) text (omega arith) in
    leading.longest room
    (subst (IsNumberText base) (take_at (take (number.length + 1) text) more (number.length + 1) count)
    (IsNumberText-take base (number.length + 1) (take (number.length + 1) text ++ more) (omega arith) (omega (arith, length-append (take (number.length + 1) text) more)) is))

-- what begins with no number begins with nothing
empty_front : (k : ℕ) (text : List ℕ) → k < 1 → take k text ≡ []
empty_front zero text none = refl
empty_front (suc k) text none = absurd (omega arith)

module _ (base : ℕ) (low : 2 ≤ base) (high : base ≤ 16) where
  -- the number at the end: it is empty, or another byte follows
  pub last_leaves : (text : List ℕ) (number : Leading) → IsLeading base text number → (number.length ≡ 0) ⊎ (number.length < length text) → LeavesAt (IsNumberText base) text number.length
  last_leaves text number leading lacks = record {
    within = leading.within;
    begins = elim (cases_lt number.length 1) [
      | inl none ↦ (49 ∷ [], subst (λ prefix. IsNumberText base (prefix ++ 49 ∷ [])) (sym (empty_front number.length text none)) (one_text base low))
      | inr some ↦ ([], subst (IsNumberText base) (sym (append-nil (take number.length text))) (number_front base text number leading some))
    ];
    stops = λ room begun. no_longer base text number begun.0 leading room begun.1;
    other = λ is.
        let some : 1 ≤ length text = is.some in
        let room : number.length < length text = elim lacks [ inl none ↦ omega arith | inr more ↦ more ] in
        no_longer base text number (drop (number.length + 1) text) leading room (subst (IsNumberText base) (sym (take-append-drop (number.length + 1) text)) is);
  }

  -- no dash stands among the digits
  dash_before : (text : List ℕ) (number : Leading) (j : ℕ) → IsLeading base text number → j < number.length → get_or text j 0 ≡ 45 → ⊥
  dash_before text number j leading before dash =
      let count : length (take number.length text) ≡ number.length = length-take-le number.length text leading.within in
      dash_no_digit base high (subst (IsDigit base) (get_or-take number.length text j 0 before ∙ dash) (digit_at base (take number.length text) j leading.prefix.digits (omega arith)))

  -- a number and a dash that begin with the bytes up to the stop
  no_dash : (text : List ℕ) (number : Leading) (more numeral rest : List ℕ) → IsLeading base text number → (number.length ≡ 0) ⊎ (number.length ≡ length text) ⊎ (get_or text number.length 0 ≡ 45 → ⊥)
      → number.length < length text → take (number.length + 1) text ++ more ≡ numeral ++ 45 ∷ rest → IsNumberText base numeral → ⊥
  no_dash text number more numeral rest leading lacks room whole is =
      let k : ℕ = number.length in
      let j : ℕ = length numeral in
      let count : length (take (k + 1) text) ≡ k + 1 = length-take-le (k + 1) text (omega arith) in
      elim (cases_lt k j) [
        | inl less ↦
            let prefix : take (k + 1) text ≡ take (k + 1) numeral = sym (take_at (take (k + 1) text) more (k + 1) count) ∙ ap (take (k + 1)) whole ∙ take-append-le (k + 1) numeral (45 ∷ rest) (omega arith) in
            leading.longest room (subst (IsNumberText base) (sym prefix) (IsNumberText-take base (k + 1) numeral (omega arith) (omega arith) is))
        | inr within ↦
            let dash : get_or text j 0 ≡ 45 =
            sym (get_or-take (k + 1) text j 0 (omega arith)) ∙ sym (get_or_append_left (take (k + 1) text) more 0 j (omega arith)) ∙ ap (λ xs. get_or xs j 0) whole ∙ get_or_at numeral 45 rest 0 j refl in
            elim (cases_lt j k) [
              | inl before ↦ dash_before text number j leading before dash
              | inr after ↦
                  let same : j ≡ k = omega arith in
                  elim lacks [
                    | inl none ↦ omega (arith, is.some)
                    | inr other ↦ elim other [ inl end ↦ omega arith | inr other_byte ↦ other_byte (subst (λ i. get_or text i 0 ≡ 45) same dash) ]
                  ]
            ]
      ]

  -- the number before a dash: it is empty, or no dash follows
  pub field_leaves : (IsRest : List ℕ → Type 0) (some_rest text : List ℕ) (number : Leading) → IsRest some_rest → IsLeading base text number
      → (number.length ≡ 0) ⊎ (number.length ≡ length text) ⊎ (get_or text number.length 0 ≡ 45 → ⊥) → LeavesAt (NumberThen base IsRest) text number.length
  field_leaves IsRest some_rest text number follows leading lacks = record {
    within = leading.within;
    begins = elim (cases_lt number.length 1) [
      | inl none ↦ (49 ∷ 45 ∷ some_rest, record { numeral = 49 ∷ []; rest = some_rest; whole = ap (λ prefix. prefix ++ 49 ∷ 45 ∷ some_rest) (empty_front number.length text none); is = one_text base low; follows = follows })
      | inr some ↦ (45 ∷ some_rest, record { numeral = take number.length text; rest = some_rest; whole = refl; is = number_front base text number leading some; follows = follows })
    ];
    stops = λ room begun. no_dash text number begun.0 begun.1.numeral begun.1.rest leading lacks room begun.1.whole begun.1.is;
    other = λ is.
        elim (cases_lt number.length (length text)) [
          | inl room ↦ no_dash text number (drop (number.length + 1) text) is.numeral is.rest leading lacks room (take-append-drop (number.length + 1) text ∙ is.whole) is.is
          | inr all ↦
              let count : length text ≡ length is.numeral + suc (length is.rest) = ap length is.whole ∙ length-append is.numeral (45 ∷ is.rest) in
              dash_before text number (length is.numeral) leading (omega arith) (ap (λ xs. get_or xs (length is.numeral) 0) is.whole ∙ get_or_at is.numeral 45 is.rest 0 (length is.numeral) refl)
        ];
  }

  -- after a number and its dash
  pub leaves_after : (IsRest : List ℕ → Type 0) (numeral text : List ℕ) (at : ℕ) → IsNumberText base numeral → LeavesAt IsRest text at → LeavesAt (NumberThen base IsRest) (numeral ++ 45 ∷ text) (length numeral + 1 + at)
  leaves_after IsRest numeral text at is leaves = record {
    within = omega (arith, length-append numeral (45 ∷ text), leaves.within);
    begins = (leaves.begins.0, record { numeral = numeral; rest = take at text ++ leaves.begins.0; whole = begun at leaves.begins.0 leaves.within; is = is; follows = leaves.begins.1 });
    stops = λ more begun_there.
        let room : at < length text = omega (arith, length-append numeral (45 ∷ text)) in
        let found = begun_there.1 in
        let reached : length numeral + 1 + (at + 1) ≡ length numeral + 1 + at + 1 = omega arith in
        let same : numeral ++ 45 ∷ (take (at + 1) text ++ begun_there.0) ≡ found.numeral ++ 45 ∷ found.rest =
        sym (begun (at + 1) begun_there.0 (omega arith)) ∙ ap (λ k. take k (numeral ++ 45 ∷ text) ++ begun_there.0) reached ∙ found.whole in
        let rests = same_before_dash base high numeral found.numeral (take (at + 1) text ++ begun_there.0) found.rest is.digits found.is.digits same in
        leaves.stops room (begun_there.0, subst IsRest (sym rests.1) found.follows);
    other = λ found. let rests = same_before_dash base high numeral found.numeral text found.rest is.digits found.is.digits found.whole in leaves.other (subst IsRest (sym rests.1) found.follows);
  }
    where
      begun : (k : ℕ) (more : List ℕ) → k ≤ length text → take (length numeral + 1 + k) (numeral ++ 45 ∷ text) ++ more ≡ numeral ++ 45 ∷ (take k text ++ more)
      begun k more fits =
          let prefix : List ℕ = numeral ++ 45 ∷ take k text in
          let count : length prefix ≡ length numeral + 1 + k = omega (arith, length-append numeral (45 ∷ take k text), length-take-le k text fits) in
          let parts : prefix ++ drop k text ≡ numeral ++ 45 ∷ text = append_assoc numeral (45 ∷ take k text) (drop k text) ∙ ap (λ xs. numeral ++ 45 ∷ xs) (take-append-drop k text) in
          ap (λ xs. take (length numeral + 1 + k) xs ++ more) (sym parts)
          ∙ ap (λ xs. xs ++ more) (take_at prefix (drop k text) (length numeral + 1 + k) count)
          ∙ append_assoc numeral (45 ∷ take k text) more
