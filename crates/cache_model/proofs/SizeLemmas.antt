-- Laws of specs/Size.antt.
use Rattle.std.proofs.Common.{◌≡◌, ℕ, List, [], ◌∷◌, ◌++◌, reverse, length, Bool, true, false, cond, ◌&&◌, ◌||◌, Option, Some, None, option_map, option_and_then, unwrap_or, is_some, ap, ◌∙◌, sym, refl}
use Rattle.std.specs.Ordering.{nat_cmp}
use Rattle.std.specs.Cmp.Lexicographic.{slice_cmp, bytes_decides, nat_list_eq_equiv}
use Rattle.std.specs.List.{filter, flat_map}
use Rattle.std.specs.Map.{lookup, keys_of}
use Rattle.std.specs.Set.{is_member}
use Rattle.std.specs.BTreeMap.{BTreeMap, get}
use Rattle.std.proofs.lemmas.Bool.{false≢true}
use Rattle.std.proofs.lemmas.List.{reverse-append}
use Rattle.std.proofs.lemmas.List.Concat.{flat_map-append}
use Rattle.std.proofs.lemmas.Map.Entries.{length-keys_of}
use Rattle.std.proofs.lemmas.Map.Made.{length-from_keys, is_some-lookup, is_member-filter}
use Rattle.cache_model.specs.Caches.{same, Pairs, Caches, value_in}
use Rattle.cache_model.specs.Change.{Change, put, remove, ensure, truncate, destroy, batch, reset, writes, value_left}
use Rattle.cache_model.specs.Contents.{IsRising, value_looking_back, value_after, AreContentsAfter}
use Rattle.cache_model.specs.Shown.{caches_shown}
use Rattle.cache_model.specs.Size.{keys_named, size_after, pairs_in}
use Rattle.cache_model.proofs.EntriesLemmas.{rising_none, IsDistinct-from_rising}
use Rattle.cache_model.proofs.ListLemmas.{KeysRiseHere, KeysRise-lookup}
use Rattle.cache_model.proofs.PairsLemmas.{is_some_lookup-reverse}
use Rattle.cache_model.proofs.ShownLemmas.{lookup-caches_shown}

-- ---- a key that has a value is named

or_assoc : (a b c : Bool) → ((a || b) || c) ≡ (a || (b || c))
or_assoc true b c = refl
or_assoc false b c = refl

or_swap : (a b : Bool) → (a || (b || false)) ≡ (b || a)
or_swap true true = refl
or_swap true false = refl
or_swap false true = refl
or_swap false false = refl

or_left : (a b : Bool) → a ≡ true → (a || b) ≡ true
or_left a b is = ap (λ (x : Bool). x || b) is

or_right : (a b : Bool) → b ≡ true → (a || b) ≡ true
or_right true b is = refl
or_right false b is = is

and_right : (a b : Bool) → (a && b) ≡ true → b ≡ true
and_right true b is = is
and_right false b is = absurd (false≢true is)

is_member-append : (xs ys : List (List ℕ)) (key : List ℕ) → is_member same (xs ++ ys) key ≡ (is_member same xs key || is_member same ys key)
is_member-append [] ys key = refl
is_member-append (x ∷ xs) ys key = ap (λ (b : Bool). same key x || b) (is_member-append xs ys key) ∙ sym (or_assoc (same key x) (is_member same xs key) (is_member same ys key))

-- the keys that are named by changes backwards are those that are named by them
named-reverse : (changes : List Change) (key : List ℕ) → is_member same (flat_map keys_named (reverse changes)) key ≡ is_member same (flat_map keys_named changes) key
named-reverse [] key = refl
named-reverse (x ∷ xs) key =
    ap (λ (cs : List Change). is_member same (flat_map keys_named cs) key) (reverse-append (x ∷ []) xs)
    ∙ ap (λ (keys : List (List ℕ)). is_member same keys key) (flat_map-append keys_named (reverse xs) (x ∷ []))
    ∙ is_member-append (flat_map keys_named (reverse xs)) (keys_named x ++ []) key
    ∙ ap (λ (b : Bool). is_member same (flat_map keys_named (reverse xs)) key || b) (is_member-append (keys_named x) [] key)
    ∙ or_swap (is_member same (flat_map keys_named (reverse xs)) key) (is_member same (keys_named x) key)
    ∙ ap (λ (b : Bool). is_member same (keys_named x) key || b) (named-reverse xs key)
    ∙ sym (is_member-append (keys_named x) (flat_map keys_named xs) key)

-- a key of a cache is a key of some cache
among_all : (caches : Caches) (cache key : List ℕ) → is_some (value_in caches cache key) ≡ true → is_member same (flat_map (λ c. keys_of c.1) caches) key ≡ true
among_all [] cache key there = absurd (false≢true there)
among_all (c ∷ cs) cache key there =
    is_member-append (keys_of c.1) (flat_map (λ d. keys_of d.1) cs) key
    ∙ elim (same cache c.0) as (λ b. is_some (option_and_then (lookup (same key)) (cond b (Some c.1) (lookup (same cache) cs))) ≡ true → (is_member same (keys_of c.1) key || is_member same (flat_map (λ d. keys_of d.1) cs) key) ≡ true) [
      | true ↦ λ here. or_left _ _ (sym (is_some-lookup (same key) c.1) ∙ here)
      | false ↦ λ later. or_right _ _ (among_all cs cache key later)
    ] there

left_is_named : (change : Change) (cache key : List ℕ) → writes change cache key ≡ true → is_some (value_left change cache key) ≡ true → is_member same (keys_named change) key ≡ true
left_is_named (put c k v) cache key is there = or_left (same key k) false (nat_list_eq_equiv.symm key k ∙ and_right (same c cache) (same k key) is)
left_is_named (remove c k) cache key is there = absurd (false≢true there)
left_is_named (ensure c) cache key is there = absurd (false≢true there)
left_is_named (truncate c) cache key is there = absurd (false≢true there)
left_is_named (destroy c) cache key is there = absurd (false≢true there)
left_is_named (batch c pairs) cache key is there = sym (is_some-lookup (same key) pairs) ∙ sym (is_some_lookup-reverse (same key) pairs) ∙ there
left_is_named (reset caches) cache key is there = among_all caches cache key there

chosen : {X : Type 0} (b x y : Bool) (left rest : Option X) → (b ≡ true → is_some left ≡ true → x ≡ true) → (is_some rest ≡ true → y ≡ true) → is_some (cond b left rest) ≡ true → (x || y) ≡ true
chosen true x y left rest here later there = or_left x y (here refl there)
chosen false x y left rest here later there = or_right x y (later there)

back_is_named : (back : List Change) (cache key : List ℕ) → is_some (value_looking_back back cache key) ≡ true → is_member same (flat_map keys_named back) key ≡ true
back_is_named [] cache key there = absurd (false≢true there)
back_is_named (newest ∷ older) cache key there =
    is_member-append (keys_named newest) (flat_map keys_named older) key
    ∙ chosen (writes newest cache key) (is_member same (keys_named newest) key) (is_member same (flat_map keys_named older) key) (value_left newest cache key) (value_looking_back older cache key) (left_is_named newest cache key) (back_is_named older cache key) there

value_is_named : (changes : List Change) (cache key : List ℕ) → is_some (value_after changes cache key) ≡ true → is_member same (flat_map keys_named changes) key ≡ true
value_is_named changes cache key there = sym (named-reverse changes key) ∙ back_is_named (reverse changes) cache key there

-- ---- the size is the number of pairs in the contents

both : (has : Bool) (named : Bool) → (has ≡ true → named ≡ true) → (named && has) ≡ has
both true named only = ap (λ (b : Bool). b && true) (only refl)
both false true only = refl
both false false only = refl

rising_here : (pairs : Option Pairs) → KeysRiseHere pairs → IsRising (keys_of (unwrap_or pairs []))
rising_here None rise = rising_none
rising_here (Some pairs) rise = rise

found_here : (pairs : Option Pairs) (key : List ℕ) → is_some (lookup (same key) (unwrap_or pairs [])) ≡ is_some (option_and_then (lookup (same key)) pairs)
found_here None key = refl
found_here (Some pairs) key = refl

pub size_after-contents : (changes : List Change) (caches : Caches) (cache : List ℕ) → AreContentsAfter changes caches → size_after changes cache ≡ length (pairs_in caches cache)
size_after-contents changes caches cache are =
    let pairs : Pairs = pairs_in caches cache in
    let named : List (List ℕ) = flat_map keys_named changes in
    let has : List ℕ → Bool = λ key. is_some (value_after changes cache key) in
    let keys_have : (key : List ℕ) → is_member same (keys_of pairs) key ≡ has key =
    λ key. sym (is_some-lookup (same key) pairs) ∙ found_here (lookup (same cache) caches) key ∙ ap is_some (are.values cache key) in
    let named_have : (key : List ℕ) → is_member same (filter has named) key ≡ has key =
    λ key. is_member-filter nat_list_eq_equiv has key (λ x is. ap has ((bytes_decides key x).0 is)) named ∙ both (has key) (is_member same named key) (value_is_named changes cache key) in
    sym (length-from_keys nat_list_eq_equiv (keys_of pairs) (filter has named) (IsDistinct-from_rising (keys_of pairs) (rising_here (lookup (same cache) caches) (KeysRise-lookup cache caches are.keys_rise))) (λ key. keys_have key ∙ sym (named_have key)))
    ∙ length-keys_of pairs

-- the same, read from a map of maps
pub size_after-shown : (changes : List Change) (caches : Caches) (m : BTreeMap (List ℕ) (BTreeMap (List ℕ) (List ℕ))) (cache : List ℕ) (pairs : Option (BTreeMap (List ℕ) (List ℕ))) → AreContentsAfter changes caches → caches_shown m ≡ caches → pairs ≡ get (slice_cmp nat_cmp) m cache → size_after changes cache ≡ length (unwrap_or (option_map (λ (n : BTreeMap (List ℕ) (List ℕ)). n.entries) pairs) [])
size_after-shown changes caches m cache pairs are shows is =
    size_after-contents changes caches cache are
    ∙ ap (λ (o : Option Pairs). length (unwrap_or o [])) (ap (lookup (same cache)) (sym shows) ∙ lookup-caches_shown m cache ∙ ap (option_map (λ (n : BTreeMap (List ℕ) (List ℕ)). n.entries)) (sym is))
