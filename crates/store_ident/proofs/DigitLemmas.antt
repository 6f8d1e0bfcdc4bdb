-- Laws of the digits that are printed: they are the text of their number, and no other text has that number.
use Rattle.std.proofs.Common.{◌≡◌, ℕ, zero, suc, ◌+◌, ◌*◌, ◌/◌, ◌%◌, ◌^◌, ◌≤◌, ◌<◌, ◌⊎◌, inl, inr, Bool, true, false, cond, List, [], ◌∷◌, ◌++◌, length, get_or, refl, sym, ap, ◌∙◌, arith, append_assoc, eqb, eq-eqb, ne_eqb}
use Rattle.std.proofs.Math.Nat.{pow-suc, pow-zero}
use Rattle.std.proofs.lemmas.Bool.{cases_lt}
use Rattle.std.proofs.lemmas.Bool.Decides.{nat_tests}
use Rattle.std.proofs.lemmas.Fmt.{digits_is_IsNumeral, decimal-digits_value}
use Rattle.std.proofs.lemmas.Str.Parse.{numerals_by_value, tells_digits}
use Rattle.std.proofs.lemmas.Nat.{mod_below, div_below, div-add-mod'}
use Rattle.std.specs.Char.{digit_value, is_ascii_uppercase}
use Rattle.std.specs.Fmt.{digits, digits_onto, digit_glyph, decimal}
use Rattle.std.specs.List.{AllByRecursion}
use Rattle.std.specs.Str.Parse.{AllDigits, digits_value, digits_value_after}
use Rattle.store_ident.specs.Ident.{hexadecimal}
use Rattle.store_ident.specs.Numbers.{IsDigit, IsNumberText}

-- ---- what is printed is a number's text

abbrev IsNoUpper : ℕ → Type 0
IsNoUpper byte = is_ascii_uppercase byte ≡ false

glyph_no_upper : (d : ℕ) → d < 16 → IsNoUpper (digit_glyph false d)
glyph_no_upper d small = grind (arith, nat_tests)

module _ (base : ℕ) (low : 2 ≤ base) (high : base ≤ 16) where
  onto_no_upper : (k n : ℕ) (acc : List ℕ) → AllByRecursion IsNoUpper acc → AllByRecursion IsNoUpper (digits_onto k base false n acc)
  onto_no_upper zero n acc all = all
  onto_no_upper (suc k) n acc all =
      let more : AllByRecursion IsNoUpper (digit_glyph false (n % base) ∷ acc) = (glyph_no_upper (n % base) (omega (arith, mod_below n base)), all) in
      either (eqb (n / base) 0) _ _ more (onto_no_upper k (n / base) _ more)
    where
      either : (b : Bool) (xs ys : List ℕ) → AllByRecursion IsNoUpper xs → AllByRecursion IsNoUpper ys → AllByRecursion IsNoUpper (cond b xs ys)
      either true xs ys p q = p
      either false xs ys p q = q

  onto_last : (k n : ℕ) (acc : List ℕ) → n / base ≡ 0 → digits_onto (suc k) base false n acc ≡ digit_glyph false (n % base) ∷ acc
  onto_last k n acc e = ap (λ t. cond t (digit_glyph false (n % base) ∷ acc) (digits_onto k base false (n / base) (digit_glyph false (n % base) ∷ acc))) (eq-eqb (n / base) 0 e)

  onto_next : (k n : ℕ) (acc : List ℕ) → (n / base ≡ 0 → ⊥) → digits_onto (suc k) base false n acc ≡ digits_onto k base false (n / base) (digit_glyph false (n % base) ∷ acc)
  onto_next k n acc ne = ap (λ t. cond t (digit_glyph false (n % base) ∷ acc) (digits_onto k base false (n / base) (digit_glyph false (n % base) ∷ acc))) (ne_eqb (n / base) 0 ne)

  last_of_small : (n : ℕ) → n / base ≡ 0 → n % base ≡ n
  last_of_small n e = sym (ap (λ q. q * base + n % base) e ∙ omega arith) ∙ div-add-mod' n base

  glyph_not_zero : (d : ℕ) → d < 16 → 0 < d → digit_glyph false d ≡ 48 → ⊥
  glyph_not_zero d small some is = grind (arith, nat_tests)

  -- the digits of a number above 0 don't begin with a zero
  onto_first : (k n : ℕ) (acc : List ℕ) → 0 < n → n < base ^ k → get_or (digits_onto k base false n acc) 0 0 ≡ 48 → ⊥
  onto_first zero n acc some fits is = omega (arith, pow-zero base)
  onto_first (suc k) n acc some fits is =
      let above : 0 < base = omega arith in
      elim (cases_lt (n / base) 1) [
        | inl small ↦
            let none : n / base ≡ 0 = omega arith in
            let same : n % base ≡ n = last_of_small n none in
            glyph_not_zero (n % base) (omega (arith, mod_below n base)) (omega arith) (sym (ap (λ xs. get_or xs 0 0) (onto_last k n acc none)) ∙ is)
        | inr more ↦ onto_first k (n / base) (digit_glyph false (n % base) ∷ acc) more (div_below n base (base ^ k) above (omega (arith, pow-suc base k)))
            (sym (ap (λ xs. get_or xs 0 0) (onto_next k n acc (λ e. omega arith))) ∙ is)
      ]

  both : (ds : List ℕ) → AllDigits base ds → AllByRecursion IsNoUpper ds → AllByRecursion (IsDigit base) ds
  both [] p q = tt
  both (d ∷ ds) p q = ((p.0, q.0), both ds p.1 q.1)

  one_digit : (n : ℕ) → 0 < n ⊎ (digits base false n ≡ digit_glyph false (n % base) ∷ [])
  unfolding digits
  one_digit zero = inr (onto_last 63 0 [] (omega (arith, div_below 0 base 1 (omega arith) (omega arith))))
  one_digit (suc n) = inl (omega arith)

  first_digit : (n : ℕ) → 0 < n → n < base ^ 64 → get_or (digits base false n) 0 0 ≡ 48 → ⊥
  unfolding digits
  first_digit n some fits is = onto_first 64 n [] some fits is

  no_upper : (n : ℕ) → AllByRecursion IsNoUpper (digits base false n)
  unfolding digits
  no_upper n = onto_no_upper 64 n [] tt

  -- the digits of a number are its text
  pub IsNumberText-digits : (n : ℕ) → n < base ^ 64 → IsNumberText base (digits base false n)
  IsNumberText-digits n fits =
      let read = digits_is_IsNumeral base false low high n fits in
      record {
        some = read.0.0;
        digits = both (digits base false n) read.0.1 (no_upper n);
        no_leading_zero = λ is. elim (one_digit n) [ inl some ↦ absurd (first_digit n some fits is) | inr one ↦ ap length one ];
      }

  pub digits_value-digits : (n : ℕ) → n < base ^ 64 → digits_value base (digits base false n) ≡ n
  digits_value-digits n fits = (digits_is_IsNumeral base false low high n fits).1

-- ---- a number's text is what is printed of it

to_AllDigits : (base : ℕ) (ds : List ℕ) → AllByRecursion (IsDigit base) ds → AllDigits base ds
to_AllDigits base [] all = tt
to_AllDigits base (d ∷ ds) all = (all.0.0, to_AllDigits base ds all.1)

pub decimal-value : (text : List ℕ) → IsNumberText 10 text → digits_value 10 text < 2 ^ 64 → decimal (digits_value 10 text) ≡ text
decimal-value text is small = decimal-digits_value (numerals_by_value _ tells_digits) text (to_AllDigits 10 text is.digits) is.some is.no_leading_zero small

abbrev spell : ℕ → ℕ → List ℕ → List ℕ
spell k n acc = digits_onto k 16 false n acc

abbrev last_glyph : ℕ → ℕ
last_glyph n = digit_glyph false (n % 16)

spell_last : (k n : ℕ) (acc : List ℕ) → n < 16 → spell (suc k) n acc ≡ last_glyph n ∷ acc
spell_last k n acc h = onto_last 16 (omega arith) (omega arith) k n acc (omega arith)

spell_next : (k n : ℕ) (acc : List ℕ) → 16 ≤ n → spell (suc k) n acc ≡ spell k (n / 16) (last_glyph n ∷ acc)
spell_next k n acc h = onto_next 16 (omega arith) (omega arith) k n acc (λ e. omega arith)

spell-append : (k n : ℕ) (acc : List ℕ) → spell k n acc ≡ spell k n [] ++ acc
spell-append zero n acc = refl
spell-append (suc k) n acc =
    elim (cases_lt n 16) [
      | inl l ↦ spell_last k n acc l ∙ ap (λ x. x ++ acc) (sym (spell_last k n [] l))
      | inr l ↦ spell_next k n acc l ∙ spell-append k (n / 16) (last_glyph n ∷ acc) ∙ sym (append_assoc (spell k (n / 16) []) (last_glyph n ∷ []) acc)
          ∙ ap (λ x. x ++ acc) (sym (spell_next k n [] l ∙ spell-append k (n / 16) (last_glyph n ∷ [])))
    ]

-- the bound on the digits does not matter once it is large enough
spell_enough : (j k n : ℕ) (acc : List ℕ) → n < 16 ^ suc j → n < 16 ^ suc k → spell (suc j) n acc ≡ spell (suc k) n acc
spell_enough zero k n acc p q = spell_last zero n acc (omega arith) ∙ sym (spell_last k n acc (omega arith))
spell_enough (suc j) zero n acc p q = spell_last (suc j) n acc (omega arith) ∙ sym (spell_last zero n acc (omega arith))
spell_enough (suc j) (suc k) n acc p q =
    elim (cases_lt n 16) [
      | inl l ↦ spell_last (suc j) n acc l ∙ sym (spell_last (suc k) n acc l)
      | inr l ↦ spell_next (suc j) n acc l ∙ spell_enough j k (n / 16) (last_glyph n ∷ acc) (omega arith) (omega arith) ∙ sym (spell_next (suc k) n acc l)
    ]

hexadecimal_step : (n : ℕ) → 16 ≤ n → n < 2 ^ 64 → hexadecimal n ≡ hexadecimal (n / 16) ++ last_glyph n ∷ []
unfolding digits
hexadecimal_step n h small = spell_next 63 n [] h ∙ spell_enough 62 63 (n / 16) (last_glyph n ∷ []) (omega arith) (omega arith) ∙ spell-append 64 (n / 16) (last_glyph n ∷ [])

hexadecimal_digit : (n : ℕ) → n < 16 → hexadecimal n ≡ digit_glyph false n ∷ []
unfolding digits
hexadecimal_digit n small = spell_last 63 n [] small ∙ ap (λ d. digit_glyph false d ∷ []) (omega arith)

glyph-value : (c : ℕ) → IsDigit 16 c → digit_glyph false (digit_value c) ≡ c
glyph-value c is = let value = is.0 in let case = is.1 in grind (arith, nat_tests)

le_value_after : (n : ℕ) (ds : List ℕ) → n ≤ digits_value_after 16 n ds
le_value_after n [] = omega arith
le_value_after n (c ∷ cs) = omega (arith, le_value_after (n * 16 + digit_value c) cs)

hexadecimal_value_after : (n : ℕ) (ds : List ℕ) → 0 < n → AllByRecursion (IsDigit 16) ds → digits_value_after 16 n ds < 2 ^ 64 → hexadecimal (digits_value_after 16 n ds) ≡ hexadecimal n ++ ds
hexadecimal_value_after n [] some all small = append_nil_of (hexadecimal n)
  where
    append_nil_of : (xs : List ℕ) → xs ≡ xs ++ []
    append_nil_of [] = refl
    append_nil_of (x ∷ xs) = ap (λ ys. x ∷ ys) (append_nil_of xs)
hexadecimal_value_after n (c ∷ cs) some all small =
    let m : ℕ = n * 16 + digit_value c in
    let below : digit_value c < 16 = all.0.0 in
    let prefix : m / 16 ≡ n = omega arith in
    let last : digit_glyph false (m % 16) ≡ c = ap (digit_glyph false) {x = m % 16} {y = digit_value c} (omega arith) ∙ glyph-value c all.0 in
    hexadecimal_value_after m cs (omega arith) all.1 small
    ∙ ap (λ x. x ++ cs) (hexadecimal_step m (omega arith) (omega (arith, le_value_after m cs)) ∙ (λ i. hexadecimal (prefix i) ++ (last i ∷ [])))
    ∙ append_assoc (hexadecimal n) (c ∷ []) cs

zero_digit : (c : ℕ) → IsDigit 16 c → digit_value c ≡ 0 → c ≡ 48
zero_digit c is none = sym (glyph-value c is) ∙ ap (digit_glyph false) none

pub hexadecimal-value : (text : List ℕ) → IsNumberText 16 text → digits_value 16 text < 2 ^ 64 → hexadecimal (digits_value 16 text) ≡ text
hexadecimal-value [] is small = absurd (omega (arith, is.some))
hexadecimal-value (c ∷ []) is small =
    let same : 0 * 16 + digit_value c ≡ digit_value c = omega arith in
    ap hexadecimal same ∙ hexadecimal_digit (digit_value c) is.digits.0.0 ∙ ap (λ d. d ∷ []) (glyph-value c is.digits.0)
hexadecimal-value (c ∷ d ∷ text) is small =
    let same : 0 * 16 + digit_value c ≡ digit_value c = omega arith in
    let some : 0 < digit_value c = above_zero (digit_value c) (λ none. let one : length (c ∷ d ∷ text) ≡ 1 = is.no_leading_zero (zero_digit c is.digits.0 none) in omega arith) in
    hexadecimal_value_after (0 * 16 + digit_value c) (d ∷ text) (omega arith) is.digits.1 small
    ∙ ap (λ x. x ++ (d ∷ text)) (ap hexadecimal same ∙ hexadecimal_digit (digit_value c) is.digits.0.0 ∙ ap (λ e. e ∷ []) (glyph-value c is.digits.0))
  where
    above_zero : (n : ℕ) → (n ≡ 0 → ⊥) → 0 < n
    above_zero n some = omega arith
