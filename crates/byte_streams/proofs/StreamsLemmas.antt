-- How the writing of a text goes on from write to write, and what was added so far.
use Rattle.std.proofs.Common.{◌≡◌, ℕ, ◌+◌, ◌-◌, ◌<◌, List, [], ◌++◌, length, take, drop, length-drop, Some, refl, sym, ap, ◌∙◌, append_assoc, arith}
use Rattle.std.specs.Option.{ForSome}
use Rattle.std.specs.declared.option.Option.{Option}
use Rattle.std.proofs.Math.Seq.{take-add}
use Rattle.std.proofs.lemmas.Grind.{common_steps}
use Rattle.std.proofs.lemmas.List.{append-nil, take-append-drop}
use Rattle.byte_streams.specs.Streams.{Adds, AddsPrefix, AddsPart}

-- the bytes of a slice from an offset on
following : (text : List ℕ) (done : ℕ) → take (length text - done) (drop done text) ≡ drop done text
following text done = grind (arith, common_steps)

-- a prefix of the text stands there, and then some of the bytes after it
pub writes_on : (before mid after : Option (List ℕ)) (text : List ℕ) (done n : ℕ)
    → ForSome before (λ bytes. mid ≡ Some (bytes ++ take done text))
    → ForSome mid (λ bytes. after ≡ Some (bytes ++ take n (take (length text - done) (drop done text))))
    → ForSome before (λ bytes. after ≡ Some (bytes ++ take (done + n) text))
writes_on before mid after text done n so_far more bytes told =
    more (bytes ++ take done text) (so_far bytes told)
    ∙ ap (λ (l : List ℕ). Some l) (append_assoc bytes (take done text) (take n (take (length text - done) (drop done text)))
    ∙ ap (λ (l : List ℕ). bytes ++ (take done text ++ take n l)) (following text done)
    ∙ ap (λ (l : List ℕ). bytes ++ l) (sym (take-add done n text)))

-- ---- what was added

pub adds_none : (old : Option (List ℕ)) → Adds old [] old
adds_none old = λ bytes is. is ∙ ap (λ (l : List ℕ). Some l) (sym (append-nil bytes))

-- nothing of the text was added
pub no_prefix : (old : Option (List ℕ)) (text : List ℕ) → AddsPrefix old text old
no_prefix old text = record { prefix = []; rest = text; text_is = refl; added = adds_none old }

pub adds_joined : (old mid new : Option (List ℕ)) (a b : List ℕ) → Adds old a mid → Adds mid b new → Adds old (a ++ b) new
adds_joined old mid new a b first then_ = λ bytes is. then_ (bytes ++ a) (first bytes is) ∙ ap (λ (l : List ℕ). Some l) (append_assoc bytes a b)

pub whole_prefix : (old new : Option (List ℕ)) (text : List ℕ) → Adds old text new → AddsPrefix old text new
whole_prefix old new text added = record { prefix = text; rest = []; text_is = sym (append-nil text); added = added }

-- ---- a text that isn't written whole

-- bytes that are fewer than the text has
pub part_of : (old new : Option (List ℕ)) (text : List ℕ) (done : ℕ) → done < length text → Adds old (take done text) new → AddsPart old text new
part_of old new text done less added = record {
  part = record { prefix = take done text; rest = drop done text; text_is = sym (take-append-drop done text); added = added };
  missing = λ none. (let sizes : length (drop done text) ≡ 0 = ap length none in omega (arith, sizes, length-drop done text));
}

-- what is written as before
pub part_kept : (old mid new : Option (List ℕ)) (text : List ℕ) (done : ℕ) → done < length text → Adds old (take done text) mid → ForSome mid (λ bytes. new ≡ Some bytes) → AddsPart old text new
part_kept old mid new text done less added same = part_of old new text done less (λ bytes is. same (bytes ++ take done text) (added bytes is))
