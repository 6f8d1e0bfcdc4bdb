-- Laws of specs/Shown.antt, and of a map of maps in which one cache is replaced.
use Rattle.std.proofs.Common.{◌≡◌, ℕ, List, [], ◌∷◌, map, Bool, true, false, cond, Option, Some, None, option_map, is_some, unwrap_or, ap, ◌∙◌, sym, refl, subst}
use Rattle.std.specs.declared.cmp.Ordering.TheVariants.{Less, Equal, Greater}
use Rattle.std.specs.Ordering.{nat_cmp, match_ordering}
use Rattle.std.specs.Cmp.Lexicographic.{slice_cmp, texts_ties}
use Rattle.std.specs.Map.{lookup, remove_entry}
use Rattle.std.specs.BTreeMap.{BTreeMap, get, is_at, insert_entry, IsOrdered, UpdatesBy}
use Rattle.std.proofs.lemmas.Map.Made.{lookup-map_values, keys_of-map_values}
use Rattle.cache_model.specs.Caches.{same, Pairs}
use Rattle.cache_model.specs.Contents.{IsRising, KeysRise}
use Rattle.cache_model.specs.Shown.{caches_shown}
use Rattle.cache_model.specs.Step.{IsReplaced}
use Rattle.cache_model.proofs.StepLemmas.{found}

abbrev PairMap : Type 0
PairMap = BTreeMap (List ℕ) (List ℕ)

abbrev CacheMap : Type 0
CacheMap = BTreeMap (List ℕ) PairMap

-- what the map holds at a text
abbrev at : {X : Type 0} → BTreeMap (List ℕ) X → List ℕ → Option X
at m text = get (slice_cmp nat_cmp) m text

-- the test by bytes is the test by order
pub same-is_at : (text : List ℕ) → same text ≡ is_at (slice_cmp nat_cmp text)
same-is_at text = λ i other. texts_ties text other i

at-lookup : {X : Type 0} (m : BTreeMap (List ℕ) X) (text : List ℕ) → at m text ≡ lookup (same text) m.entries
at-lookup m text = ap (λ test. lookup test m.entries) (sym (same-is_at text))

-- the pairs of a cache that is shown
pub lookup-caches_shown : (m : CacheMap) (cache : List ℕ) → lookup (same cache) (caches_shown m) ≡ option_map (λ (n : PairMap). n.entries) (at m cache)
lookup-caches_shown m cache =
    lookup-map_values (λ (n : PairMap). n.entries) (same cache) m.entries
    ∙ ap (option_map (λ (n : PairMap). n.entries)) (sym (at-lookup m cache))

is_some-option_map : {A B : Type 0} (f : A → B) (o : Option A) → is_some (option_map f o) ≡ is_some o
is_some-option_map f None = refl
is_some-option_map f (Some x) = refl

pub presence-caches_shown : (m : CacheMap) (cache : List ℕ) → is_some (lookup (same cache) (caches_shown m)) ≡ is_some (at m cache)
presence-caches_shown m cache = ap is_some (lookup-caches_shown m cache) ∙ is_some-option_map (λ (n : PairMap). n.entries) (at m cache)

-- ---- the order of keys in each cache, through the steps of a change

abbrev KeysRiseIn : List (List ℕ × PairMap) → Type 0
KeysRiseIn entries = KeysRise (map (λ (e : List ℕ × PairMap). (e.0, e.1.entries)) entries)

KeysRise-remove_entry : (test : List ℕ → Bool) (entries : List (List ℕ × PairMap)) → KeysRiseIn entries → KeysRiseIn (remove_entry test entries)
KeysRise-remove_entry test [] rise = rise
KeysRise-remove_entry test (e ∷ es) rise =
    elim (test e.0) as (λ b. KeysRiseIn (cond b es (e ∷ remove_entry test es))) [
      | true ↦ rise.1
      | false ↦ (rise.0, KeysRise-remove_entry test es rise.1)
    ]

KeysRise-insert_entry : (entries : List (List ℕ × PairMap)) (cache : List ℕ) (pairs : PairMap) → IsRising (map (λ p. p.0) pairs.entries) → KeysRiseIn entries → KeysRiseIn (insert_entry (slice_cmp nat_cmp) entries cache pairs)
KeysRise-insert_entry [] cache pairs rises rise = (rises, rise)
KeysRise-insert_entry (e ∷ es) cache pairs rises rise =
    elim (slice_cmp nat_cmp cache e.0) as (λ o. KeysRiseIn (match_ordering o ((cache, pairs) ∷ e ∷ es) ((e.0, pairs) ∷ es) (e ∷ insert_entry (slice_cmp nat_cmp) es cache pairs))) [
      | Less ↦ (rises, rise)
      | Equal ↦ (rises, rise.1)
      | Greater ↦ (rise.0, KeysRise-insert_entry es cache pairs rises rise.1)
    ]

-- ---- one cache is replaced

option_map-cond : {A B : Type 0} (f : A → B) (b : Bool) (x y : Option A) → option_map f (cond b x y) ≡ cond b (option_map f x) (option_map f y)
option_map-cond f true x y = refl
option_map-cond f false x y = refl

-- the caches of a map in which w stands at one cache
lookup-updated_shown : (cache : List ℕ) (old new : CacheMap) (w : Option PairMap) → UpdatesBy (slice_cmp nat_cmp) (slice_cmp nat_cmp cache) old new w → (c : List ℕ) → lookup (same c) (caches_shown new) ≡ cond (same cache c) (option_map (λ (n : PairMap). n.entries) w) (lookup (same c) (caches_shown old))
lookup-updated_shown cache old new w updates c =
    lookup-caches_shown new c
    ∙ ap (option_map (λ (n : PairMap). n.entries)) (updates.0 c)
    ∙ option_map-cond (λ (n : PairMap). n.entries) (is_at (slice_cmp nat_cmp cache) c) w (at old c)
    ∙ ap (λ test. cond (test c) (option_map (λ (n : PairMap). n.entries) w) (option_map (λ (n : PairMap). n.entries) (at old c))) (sym (same-is_at cache))
    ∙ ap (cond (same cache c) (option_map (λ (n : PairMap). n.entries) w)) (sym (lookup-caches_shown old c))

pub IsReplaced-remove : (cache : List ℕ) (old new : CacheMap) → new.entries ≡ remove_entry (is_at (slice_cmp nat_cmp cache)) old.entries → UpdatesBy (slice_cmp nat_cmp) (slice_cmp nat_cmp cache) old new None → IsOrdered (slice_cmp nat_cmp) new → IsReplaced cache None (caches_shown old) (caches_shown new)
IsReplaced-remove cache old new removed updates ordered = record {
  names_rise = λ rise. subst IsRising (sym (keys_of-map_values (λ (n : PairMap). n.entries) new.entries)) ordered;
  keys_rise = λ rise. subst KeysRiseIn (sym removed) (KeysRise-remove_entry (is_at (slice_cmp nat_cmp cache)) old.entries rise);
  caches = lookup-updated_shown cache old new None updates;
}

pub IsReplaced-insert : (cache : List ℕ) (pairs : PairMap) (old new : CacheMap) → IsRising (map (λ p. p.0) pairs.entries) → new.entries ≡ insert_entry (slice_cmp nat_cmp) old.entries cache pairs → UpdatesBy (slice_cmp nat_cmp) (slice_cmp nat_cmp cache) old new (Some pairs) → IsOrdered (slice_cmp nat_cmp) new → IsReplaced cache (Some pairs.entries) (caches_shown old) (caches_shown new)
IsReplaced-insert cache pairs old new rises inserted updates ordered = record {
  names_rise = λ rise. subst IsRising (sym (keys_of-map_values (λ (n : PairMap). n.entries) new.entries)) ordered;
  keys_rise = λ rise. subst KeysRiseIn (sym inserted) (KeysRise-insert_entry old.entries cache pairs rises rise);
  caches = lookup-updated_shown cache old new (Some pairs) updates;
}

-- two replacements of one cache are the second
twice : {X : Type 0} (b : Bool) (x y z : X) → cond b x (cond b y z) ≡ cond b x z
twice true x y z = refl
twice false x y z = refl

pub IsReplaced-again : (cache : List ℕ) (first next : Option Pairs) (old between new : List (List ℕ × Pairs)) → IsReplaced cache first old between → IsReplaced cache next between new → IsReplaced cache next old new
IsReplaced-again cache first next old between new a b = record {
  names_rise = λ rise. b.names_rise (a.names_rise rise);
  keys_rise = λ rise. b.keys_rise (a.keys_rise rise);
  caches = λ c. b.caches c ∙ ap (cond (same cache c) next) (a.caches c) ∙ twice (same cache c) next first (lookup (same c) old);
}

-- ---- the pairs of one cache, in which w stands at one key

pub lookup-updated : (key : List ℕ) (before after : PairMap) (w : Option (List ℕ)) → UpdatesBy (slice_cmp nat_cmp) (slice_cmp nat_cmp key) before after w → (k : List ℕ) → lookup (same k) after.entries ≡ cond (same key k) w (lookup (same k) before.entries)
lookup-updated key before after w updates k =
    sym (at-lookup after k)
    ∙ updates.0 k
    ∙ ap (λ test. cond (test k) w (at before k)) (sym (same-is_at key))
    ∙ ap (cond (same key k) w) (at-lookup before k)

-- the pairs of a cache that was taken out, or none
pub lookup-unwrap_or : (taken : Option PairMap) (none : PairMap) (key : List ℕ) → none.entries ≡ [] → lookup (same key) (unwrap_or taken none).entries ≡ found key (option_map (λ (n : PairMap). n.entries) taken)
lookup-unwrap_or None none key empty = ap (lookup (same key)) empty
lookup-unwrap_or (Some pairs) none key empty = refl
