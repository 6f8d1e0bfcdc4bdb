-- Lists of entries whose keys rise, of which one is taken out or of which each is weighed.
use Rattle.std.proofs.Common.{◌≡◌, ◌⊎◌, ℕ, ◌+◌, ◌≤◌, List, [], ◌∷◌, ◌++◌, Bool, true, false, cond, Option, Some, None, sum_by, ap, ◌∙◌, sym, refl, subst, arith, inl, inr}
use Rattle.std.specs.declared.cmp.Ordering.TheVariants.{Less}
use Rattle.std.specs.Ordering.{nat_cmp}
use Rattle.std.specs.Cmp.Lexicographic.{slice_cmp, texts_ties, bytes_decides, nat_list_eq_equiv}
use Rattle.std.specs.List.{AllByRecursion, IsDistinct}
use Rattle.std.specs.List.Sorted.{IsStrictlySortedBy}
use Rattle.std.specs.Map.{lookup, keys_of, remove_entry}
use Rattle.std.proofs.lemmas.Bool.{false≢true}
use Rattle.std.proofs.lemmas.List.Sums.{sum_by-cons}
use Rattle.std.proofs.lemmas.Map.{lookup-remove_entry}
use Rattle.std.proofs.lemmas.Map.Keys.{sorted_head, sorted_tail, IsDistinct-from_sorted}
use Rattle.cache_model.specs.Caches.{same}
use Rattle.cache_model.specs.Contents.{IsRising}
use Rattle.cache_model.proofs.ListLemmas.{same_from_lookups}

pub rising_none : IsRising []
unfolding IsStrictlySortedBy
rising_none = tt

pub IsDistinct-from_rising : (keys : List (List ℕ)) → IsRising keys → IsDistinct same keys
IsDistinct-from_rising keys rise = subst (λ (eq : List ℕ → List ℕ → Bool). IsDistinct eq keys) (λ i a b. sym (texts_ties a b) i) (IsDistinct-from_sorted (slice_cmp nat_cmp) keys rise)

-- ---- without one entry

all_but : {X : Type 0} (P : List ℕ → Type 0) (test : List ℕ → Bool) (es : List (List ℕ × X)) → AllByRecursion P (keys_of es) → AllByRecursion P (keys_of (remove_entry test es))
all_but P test [] all = all
all_but P test (e ∷ es) all = elim (test e.0) as (λ b. AllByRecursion P (keys_of (cond b es (e ∷ remove_entry test es)))) [ true ↦ all.1 | false ↦ (all.0, all_but P test es all.1) ]

pub rising_cons : (key : List ℕ) (keys : List (List ℕ)) → AllByRecursion (λ other. slice_cmp nat_cmp key other ≡ Less) keys → IsRising keys → IsRising (key ∷ keys)
unfolding IsStrictlySortedBy
rising_cons key keys below rise = (below, rise)

pub rising-remove_entry : {X : Type 0} (test : List ℕ → Bool) (es : List (List ℕ × X)) → IsRising (keys_of es) → IsRising (keys_of (remove_entry test es))
rising-remove_entry test [] rise = rise
rising-remove_entry test (e ∷ es) rise =
    let head = sorted_head (slice_cmp nat_cmp) e.0 (keys_of es) rise in
    let tail = sorted_tail (slice_cmp nat_cmp) e.0 (keys_of es) rise in
    elim (test e.0) as (λ b. IsRising (keys_of (cond b es (e ∷ remove_entry test es)))) [
      | true ↦ tail
      | false ↦ rising_cons e.0 (keys_of (remove_entry test es)) (all_but (λ other. slice_cmp nat_cmp e.0 other ≡ Less) test es head) (rising-remove_entry test es tail)
    ]

pub lookup_without : {X : Type 0} (key : List ℕ) (es : List (List ℕ × X)) → IsRising (keys_of es) → (other : List ℕ) → lookup (same other) (remove_entry (same key) es) ≡ cond (same key other) None (lookup (same other) es)
lookup_without key es rise other = lookup-remove_entry nat_list_eq_equiv (same key) (nat_list_eq_equiv.congr key) other es (IsDistinct-from_rising (keys_of es) rise)

-- ---- the weight of all entries

-- the weight of an entry that may not be there
abbrev pub weight_at : {X : Type 0} → (List ℕ → X → ℕ) → List ℕ → Option X → ℕ
weight_at weight key None = 0
weight_at weight key (Some x) = weight key x

abbrev pub weight_of : {X : Type 0} → (List ℕ → X → ℕ) → List (List ℕ × X) → ℕ
weight_of weight es = sum_by (λ e. weight e.0 e.1) es

-- one entry is weighed by itself
pub weight_apart : {X : Type 0} (weight : List ℕ → X → ℕ) (key : List ℕ) (es : List (List ℕ × X)) → weight_of weight es ≡ weight_at weight key (lookup (same key) es) + weight_of weight (remove_entry (same key) es)
weight_apart weight key [] = refl
weight_apart {X = X} weight key (e ∷ es) =
    sum_by-cons (λ (f : List ℕ × X). weight f.0 f.1) e es
    ∙ split (same key e.0) (λ is. ap (λ (k : List ℕ). weight k e.1) (sym ((bytes_decides key e.0).0 is))) (weight_apart weight key es)
  where
    split : (b : Bool) → (b ≡ true → weight e.0 e.1 ≡ weight key e.1) → weight_of weight es ≡ weight_at weight key (lookup (same key) es) + weight_of weight (remove_entry (same key) es) → weight e.0 e.1 + weight_of weight es ≡ weight_at weight key (cond b (Some e.1) (lookup (same key) es)) + weight_of weight (cond b es (e ∷ remove_entry (same key) es))
    split true is rest = ap (λ (n : ℕ). n + weight_of weight es) (is refl)
    split false is rest =
        let more : weight_of weight (e ∷ remove_entry (same key) es) ≡ weight e.0 e.1 + weight_of weight (remove_entry (same key) es) = sum_by-cons (λ (f : List ℕ × X). weight f.0 f.1) e (remove_entry (same key) es) in
        omega arith

-- where two lists differ at one key only, so do their weights
same_without : {X : Type 0} (key : List ℕ) (es fs : List (List ℕ × X)) → IsRising (keys_of es) → IsRising (keys_of fs) → ((other : List ℕ) → same key other ≡ false → lookup (same other) fs ≡ lookup (same other) es) → remove_entry (same key) fs ≡ remove_entry (same key) es
same_without {X = X} key es fs rise others_rise alike =
    same_from_lookups (remove_entry (same key) fs) (remove_entry (same key) es) (rising-remove_entry (same key) fs others_rise) (rising-remove_entry (same key) es rise)
    (λ other. lookup_without key fs others_rise other ∙ split (same key other) (lookup (same other) fs) (lookup (same other) es) (alike other) ∙ sym (lookup_without key es rise other))
  where
    split : (b : Bool) (x y : Option X) → (b ≡ false → x ≡ y) → cond b None x ≡ cond b None y
    split true x y is = refl
    split false x y is = is refl

pub weight-changed : {X : Type 0} (weight : List ℕ → X → ℕ) (key : List ℕ) (es fs : List (List ℕ × X)) → IsRising (keys_of es) → IsRising (keys_of fs) → ((other : List ℕ) → same key other ≡ false → lookup (same other) fs ≡ lookup (same other) es) → weight_of weight fs + weight_at weight key (lookup (same key) es) ≡ weight_of weight es + weight_at weight key (lookup (same key) fs)
weight-changed weight key es fs rise others_rise alike =
    let before = weight_apart weight key es in
    let after = weight_apart weight key fs in
    let rest : weight_of weight (remove_entry (same key) fs) ≡ weight_of weight (remove_entry (same key) es) = ap (weight_of weight) (same_without key es fs rise others_rise alike) in
    omega arith

-- ---- entries that are all among others

-- the entry is one of these
abbrev pub Has : {X : Type 0} → List (List ℕ × X) → List ℕ → X → Type 0
Has [] key x = ⊥
Has (e ∷ es) key x = ((e.0 ≡ key) × (e.1 ≡ x)) ⊎ Has es key x

pub Has-append_left : {X : Type 0} (es fs : List (List ℕ × X)) (key : List ℕ) (x : X) → Has es key x → Has (es ++ fs) key x
Has-append_left [] fs key x none = absurd none
Has-append_left (e ∷ es) fs key x (inl here) = inl here
Has-append_left (e ∷ es) fs key x (inr later) = inr (Has-append_left es fs key x later)

pub Has-append_right : {X : Type 0} (es fs : List (List ℕ × X)) (key : List ℕ) (x : X) → Has fs key x → Has (es ++ fs) key x
Has-append_right [] fs key x has = has
Has-append_right (e ∷ es) fs key x has = inr (Has-append_right es fs key x has)

-- what a look-up finds is one of them
found_first : {X : Type 0} (b : Bool) (e : List ℕ × X) (es : List (List ℕ × X)) (key : List ℕ) (x : X) → (b ≡ true → e.0 ≡ key) → (lookup (same key) es ≡ Some x → Has es key x) → cond b (Some e.1) (lookup (same key) es) ≡ Some x → Has (e ∷ es) key x
found_first true e es key x at later is = inl (at refl, cc)
found_first false e es key x at later is = inr (later is)

pub Has-from_lookup : {X : Type 0} (es : List (List ℕ × X)) (key : List ℕ) (x : X) → lookup (same key) es ≡ Some x → Has es key x
Has-from_lookup [] key x is = cc
Has-from_lookup (e ∷ es) key x is = found_first (same key e.0) e es key x (λ at. sym ((bytes_decides key e.0).0 at)) (Has-from_lookup es key x) is

-- each of the first entries is one of the second
abbrev pub AreAmong : List (List ℕ × List ℕ) → List (List ℕ × List ℕ) → Type 0
AreAmong es fs = (key value : List ℕ) → lookup (same key) es ≡ Some value → Has fs key value

-- an entry that isn't among the first may be left out of the second
skipped : (f : List ℕ × List ℕ) (fs es : List (List ℕ × List ℕ)) → AreAmong es (f ∷ fs) → (lookup (same f.0) es ≡ Some f.1 → ⊥) → AreAmong es fs
skipped f fs es among apart key value is =
    elim (among key value is) as (λ _. Has fs key value) [
      | inl here ↦ absurd (apart (ap (λ (k : List ℕ). lookup (same k) es) here.0 ∙ is ∙ ap Some (sym here.1)))
      | inr later ↦ later
    ]

-- and one that is may be left out of both
taken_out : (f : List ℕ × List ℕ) (fs es : List (List ℕ × List ℕ)) → IsRising (keys_of es) → AreAmong es (f ∷ fs) → AreAmong (remove_entry (same f.0) es) fs
taken_out f fs es rise among key value is = split (same f.0 key) refl (sym (lookup_without f.0 es rise key) ∙ is)
  where
    split : (b : Bool) → same f.0 key ≡ b → cond b None (lookup (same key) es) ≡ Some value → Has fs key value
    split true at is = cc
    split false at is =
        elim (among key value is) as (λ _. Has fs key value) [
          | inl here ↦ absurd (false≢true (sym at ∙ (bytes_decides f.0 key).1 here.0))
          | inr later ↦ later
        ]

first_found : (e : List ℕ × List ℕ) (es : List (List ℕ × List ℕ)) → lookup (same e.0) (e ∷ es) ≡ Some e.1
first_found e es = ap (λ (b : Bool). cond b (Some e.1) (lookup (same e.0) es)) ((bytes_decides e.0 e.0).1 refl)

none_among : (weight : List ℕ → List ℕ → ℕ) (es : List (List ℕ × List ℕ)) → AreAmong es [] → weight_of weight es ≤ 0
none_among weight [] among = omega arith
none_among weight (e ∷ es) among = absurd (among e.0 e.1 (first_found e es))

among_more : (weight : List ℕ → List ℕ → ℕ) (f : List ℕ × List ℕ) (fs es : List (List ℕ × List ℕ)) → IsRising (keys_of es) → AreAmong es (f ∷ fs) → ((others : List (List ℕ × List ℕ)) → IsRising (keys_of others) → AreAmong others fs → weight_of weight others ≤ weight_of weight fs) → (at : Option (List ℕ)) → lookup (same f.0) es ≡ at → weight_of weight es ≤ weight_of weight (f ∷ fs)
among_more weight f fs es rise among rest None is =
    let cons : weight_of weight (f ∷ fs) ≡ weight f.0 f.1 + weight_of weight fs = sum_by-cons (λ (e : List ℕ × List ℕ). weight e.0 e.1) f fs in
    let less : weight_of weight es ≤ weight_of weight fs = rest es rise (skipped f fs es among (λ there. cc)) in
    omega arith
among_more weight f fs es rise among rest (Some value) is = split (same value f.1) refl
  where
    cons : weight_of weight (f ∷ fs) ≡ weight f.0 f.1 + weight_of weight fs
    cons = sum_by-cons (λ (e : List ℕ × List ℕ). weight e.0 e.1) f fs

    split : (b : Bool) → same value f.1 ≡ b → weight_of weight es ≤ weight_of weight (f ∷ fs)
    split true at =
        let apart : weight_of weight es ≡ weight_at weight f.0 (lookup (same f.0) es) + weight_of weight (remove_entry (same f.0) es) = weight_apart weight f.0 es in
        let here : weight_at weight f.0 (lookup (same f.0) es) ≡ weight f.0 f.1 = ap (weight_at weight f.0) is ∙ ap (weight f.0) ((bytes_decides value f.1).0 at) in
        let less : weight_of weight (remove_entry (same f.0) es) ≤ weight_of weight fs = rest (remove_entry (same f.0) es) (rising-remove_entry (same f.0) es rise) (taken_out f fs es rise among) in
        omega (arith, cons)
    split false at =
        let less : weight_of weight es ≤ weight_of weight fs = rest es rise (skipped f fs es among (λ there. false≢true (sym at ∙ (bytes_decides value f.1).1 cc))) in
        omega (arith, cons)

-- entries with rising keys weigh at most what those weigh among which they are
pub weight_of-among : (weight : List ℕ → List ℕ → ℕ) (fs es : List (List ℕ × List ℕ)) → IsRising (keys_of es) → AreAmong es fs → weight_of weight es ≤ weight_of weight fs
weight_of-among weight [] es rise among = none_among weight es among
weight_of-among weight (f ∷ fs) es rise among = among_more weight f fs es rise among (weight_of-among weight fs) (lookup (same f.0) es) refl
