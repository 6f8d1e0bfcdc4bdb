-- Compact JSON has no control byte: texts are escaped, and all else is printed.
use Rattle.std.proofs.Common.{◌≡◌, ℕ, zero, suc, ◌/◌, ◌%◌, ◌<◌, ◌≤◌, Bool, true, false, cond, ltb, ◌==◌, List, [], ◌∷◌, ◌++◌, pos, negsuc, refl, arith, decimal}
use Rattle.std.proofs.lemmas.Bool.Decides.{nat_tests}
use Rattle.std.proofs.lemmas.List.Elements.{All-from_recursion}
use Rattle.std.specs.Char.{digit_char}
use Rattle.std.specs.Fmt.{digits, digits_onto, digit_glyph}
use Rattle.std.specs.List.{AllByRecursion}
use Rattle.json.specs.Print.{escape_letter, escape_byte, escape, quoted}
use Rattle.serde_json.specs.Data.{Num, unsigned, negative, float, Data, null, boolean, number, string, array, object, Items, no_items, item, Members, no_members, member}
use Rattle.serde_json.specs.Written.{number_text, comma_if, compact_text, items_text, members_text}
use Rattle.script_lines.specs.declared.answer.Answer.{Answer}
use Rattle.report_lines.specs.declared.fault.Fault.{Fault}
use Rattle.report_lines.specs.Line.{answer_data, answer_line, fault_data, fault_line}
use Rattle.report_lines.specs.OneLine.{IsOneLine}

-- no control byte
abbrev IsPlain : List ℕ → Type 0
IsPlain bytes = AllByRecursion (λ byte. 32 ≤ byte) bytes

IsPlain-append : (first second : List ℕ) → IsPlain first → IsPlain second → IsPlain (first ++ second)
IsPlain-append [] second a b = b
IsPlain-append (byte ∷ first) second a b = (a.0, IsPlain-append first second a.1 b)

IsPlain-cond : (test : Bool) (first second : List ℕ) → IsPlain first → IsPlain second → IsPlain (cond test first second)
IsPlain-cond true first second a b = a
IsPlain-cond false first second a b = b

-- ---- numbers

digit_glyph_plain : (d : ℕ) → 32 ≤ digit_glyph false d
digit_glyph_plain d = grind (arith, nat_tests)

digit_char_plain : (d : ℕ) → 32 ≤ digit_char d
digit_char_plain d = grind (arith, nat_tests)

IsPlain-digits_onto : (k n : ℕ) (last : List ℕ) → IsPlain last → IsPlain (digits_onto k 10 false n last)
IsPlain-digits_onto zero n last a = a
IsPlain-digits_onto (suc k) n last a =
    let digit = digit_glyph false (n % 10) in
    IsPlain-cond (n / 10 == 0) (digit ∷ last) _ (digit_glyph_plain (n % 10), a) (IsPlain-digits_onto k (n / 10) (digit ∷ last) (digit_glyph_plain (n % 10), a))

IsPlain-decimal : (n : ℕ) → IsPlain (decimal n)
unfolding digits
IsPlain-decimal n =
    let digit = digit_glyph false (n % 10) in
    IsPlain-cond (n / 10 == 0) (digit ∷ []) (digits_onto 63 10 false (n / 10) (digit ∷ [])) (digit_glyph_plain (n % 10), tt) (IsPlain-digits_onto 63 (n / 10) (digit ∷ []) (digit_glyph_plain (n % 10), tt))

IsPlain-number_text : (n : Num) → IsPlain (number_text n)
IsPlain-number_text (unsigned n) = IsPlain-decimal n
IsPlain-number_text (negative (pos n)) = IsPlain-decimal n
IsPlain-number_text (negative (negsuc n)) = (omega arith, IsPlain-decimal (suc n))
IsPlain-number_text (float x) = tt

-- ---- texts

letter_plain : (x : ℕ) → 0 < escape_letter x → 32 ≤ escape_letter x
letter_plain x some = grind (arith, nat_tests)

escaped_plain : (x : ℕ) (short control : Bool) → ltb 0 (escape_letter x) ≡ short → ltb x 32 ≡ control
    → IsPlain (cond short (92 ∷ escape_letter x ∷ []) (cond control (92 ∷ 117 ∷ 48 ∷ 48 ∷ digit_char (x / 16) ∷ digit_char (x % 16) ∷ []) (x ∷ [])))
escaped_plain x true control is_short is_control = (omega arith, (letter_plain x (grind (arith, nat_tests)), tt))
escaped_plain x false true is_short is_control =
    (omega arith, (omega arith, (omega arith, (omega arith, (digit_char_plain (x / 16), (digit_char_plain (x % 16), tt))))))
escaped_plain x false false is_short is_control = (grind (arith, nat_tests), tt)

IsPlain-escape_byte : (x : ℕ) → IsPlain (escape_byte x)
unfolding escape_byte
IsPlain-escape_byte x = escaped_plain x (ltb 0 (escape_letter x)) (ltb x 32) refl refl

IsPlain-escape : (text : List ℕ) → IsPlain (escape text)
IsPlain-escape [] = tt
IsPlain-escape (x ∷ text) = IsPlain-append (escape_byte x) (escape text) (IsPlain-escape_byte x) (IsPlain-escape text)

IsPlain-quoted : (text : List ℕ) → IsPlain (quoted text)
IsPlain-quoted text = (omega arith, IsPlain-append (escape text) (34 ∷ []) (IsPlain-escape text) (omega arith, tt))

-- ---- values

IsPlain-comma_if : (later : Bool) → IsPlain (comma_if later)
IsPlain-comma_if true = (omega arith, tt)
IsPlain-comma_if false = tt

mutual
  IsPlain-compact_text : (d : Data) → IsPlain (compact_text d)
  IsPlain-compact_text null = (omega arith, (omega arith, (omega arith, (omega arith, tt))))
  IsPlain-compact_text (boolean true) = (omega arith, (omega arith, (omega arith, (omega arith, tt))))
  IsPlain-compact_text (boolean false) = (omega arith, (omega arith, (omega arith, (omega arith, (omega arith, tt)))))
  IsPlain-compact_text (number n) = IsPlain-number_text n
  IsPlain-compact_text (string s) = IsPlain-quoted s
  IsPlain-compact_text (array ds) = (omega arith, IsPlain-items_text false ds)
  IsPlain-compact_text (object ms) = (omega arith, IsPlain-members_text false ms)

  IsPlain-items_text : (later : Bool) (ds : Items) → IsPlain (items_text later ds)
  IsPlain-items_text later no_items = (omega arith, tt)
  IsPlain-items_text later (item d ds) =
      IsPlain-append (comma_if later) _ (IsPlain-comma_if later) (IsPlain-append (compact_text d) _ (IsPlain-compact_text d) (IsPlain-items_text true ds))

  IsPlain-members_text : (later : Bool) (ms : Members) → IsPlain (members_text later ms)
  IsPlain-members_text later no_members = (omega arith, tt)
  IsPlain-members_text later (member k d ms) =
      IsPlain-append (comma_if later) _ (IsPlain-comma_if later)
      (IsPlain-append (quoted k) _ (IsPlain-quoted k) (omega arith, IsPlain-append (compact_text d) _ (IsPlain-compact_text d) (IsPlain-members_text true ms)))

IsOneLine-compact_text : (d : Data) → IsOneLine (compact_text d ++ 10 ∷ [])
IsOneLine-compact_text d = (compact_text d, refl, All-from_recursion (λ byte. 32 ≤ byte) (compact_text d) (IsPlain-compact_text d))

pub IsOneLine-answer_line : (answer : Answer) → IsOneLine (answer_line answer)
IsOneLine-answer_line answer = IsOneLine-compact_text (answer_data answer)

pub IsOneLine-fault_line : (fault : Fault) → IsOneLine (fault_line fault)
IsOneLine-fault_line fault = IsOneLine-compact_text (fault_data fault)
