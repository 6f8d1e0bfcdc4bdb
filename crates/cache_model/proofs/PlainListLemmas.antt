-- The plain list of contents leaves these contents: each key is put once, and nothing is removed.
use Rattle.std.proofs.Common.{◌≡◌, ℕ, List, [], ◌∷◌, ◌++◌, reverse, Bool, true, false, cond, ◌&&◌, ◌||◌, Option, Some, None, option_and_then, is_some, ap, ◌∙◌, sym, refl}
use Rattle.std.specs.declared.cmp.Ordering.TheVariants.{Less}
use Rattle.std.specs.Option.{option_or}
use Rattle.std.specs.Ordering.{nat_cmp, is_eq}
use Rattle.std.specs.Cmp.Lexicographic.{slice_cmp, texts_ties, bytes_decides, nat_list_eq_equiv}
use Rattle.std.specs.List.{AllByRecursion}
use Rattle.std.specs.Map.{lookup, keys_of}
use Rattle.std.proofs.lemmas.Bool.{false≢true}
use Rattle.std.proofs.lemmas.List.{reverse-append, map-append}
use Rattle.std.proofs.lemmas.Map.Keys.{sorted_head, sorted_tail}
use Rattle.cache_model.specs.Caches.{same, Pairs, Caches, value_in}
use Rattle.cache_model.specs.Change.{Change, put, ensure, change_of, changes_of, writes, value_left, rules, presence_left}
use Rattle.cache_model.specs.Contents.{IsRising, value_looking_back, value_after, presence_looking_back, is_present_after, NamesRise, KeysRise, AreContentsAfter}
use Rattle.cache_model.specs.PlainList.{puts_of, plain_cache, plain_list}

-- ---- changes that only add: each later one, or each earlier one

-- where the change decides, it leaves a value or the cache there
record IsAdding (change : Change) : Type 0 where
  value : (cache key : List ℕ) → writes change cache key ≡ true → is_some (value_left change cache key) ≡ true
  there : (cache : List ℕ) → rules change cache ≡ true → presence_left change cache ≡ true

abbrev OnlyAdd : List Change → Type 0
OnlyAdd changes = AllByRecursion IsAdding changes

OnlyAdd-append : (xs ys : List Change) → OnlyAdd xs → OnlyAdd ys → OnlyAdd (xs ++ ys)
OnlyAdd-append [] ys first next = next
OnlyAdd-append (x ∷ xs) ys first next = (first.0, OnlyAdd-append xs ys first.1 next)

OnlyAdd-reverse : (xs : List Change) → OnlyAdd xs → OnlyAdd (reverse xs)
OnlyAdd-reverse [] all = all
OnlyAdd-reverse (x ∷ xs) all = rw (reverse-append (x ∷ []) xs) (OnlyAdd-append (reverse xs) (x ∷ []) (OnlyAdd-reverse xs all.1) (all.0, tt))

value_first : {X : Type 0} (b : Bool) (left rest later : Option X) → (b ≡ true → is_some left ≡ true) → cond b left (option_or rest later) ≡ option_or (cond b left rest) later
value_first true None rest later some = absurd (false≢true (some refl))
value_first true (Some x) rest later some = refl
value_first false left rest later some = refl

value_looking_back-append : (xs ys : List Change) (cache key : List ℕ) → OnlyAdd xs → value_looking_back (xs ++ ys) cache key ≡ option_or (value_looking_back xs cache key) (value_looking_back ys cache key)
value_looking_back-append [] ys cache key all = refl
value_looking_back-append (x ∷ xs) ys cache key all =
    ap (cond (writes x cache key) (value_left x cache key)) (value_looking_back-append xs ys cache key all.1)
    ∙ value_first (writes x cache key) (value_left x cache key) (value_looking_back xs cache key) (value_looking_back ys cache key) (all.0.value cache key)

presence_first : (b left rest later : Bool) → (b ≡ true → left ≡ true) → cond b left (rest || later) ≡ (cond b left rest || later)
presence_first true true rest later some = refl
presence_first true false rest later some = absurd (false≢true (some refl))
presence_first false left rest later some = refl

presence_looking_back-append : (xs ys : List Change) (cache : List ℕ) → OnlyAdd xs → presence_looking_back (xs ++ ys) cache ≡ (presence_looking_back xs cache || presence_looking_back ys cache)
presence_looking_back-append [] ys cache all = refl
presence_looking_back-append (x ∷ xs) ys cache all =
    ap (cond (rules x cache) (presence_left x cache)) (presence_looking_back-append xs ys cache all.1)
    ∙ presence_first (rules x cache) (presence_left x cache) (presence_looking_back xs cache) (presence_looking_back ys cache) (all.0.there cache)

-- of two lists the later one is asked first
value_after-append : (xs ys : List Change) (cache key : List ℕ) → OnlyAdd ys → value_after (xs ++ ys) cache key ≡ option_or (value_after ys cache key) (value_after xs cache key)
value_after-append xs ys cache key all =
    ap (λ (back : List Change). value_looking_back back cache key) (reverse-append xs ys)
    ∙ value_looking_back-append (reverse ys) (reverse xs) cache key (OnlyAdd-reverse ys all)

is_present_after-append : (xs ys : List Change) (cache : List ℕ) → OnlyAdd ys → is_present_after (xs ++ ys) cache ≡ (is_present_after ys cache || is_present_after xs cache)
is_present_after-append xs ys cache all =
    ap (λ (back : List Change). presence_looking_back back cache) (reverse-append xs ys)
    ∙ presence_looking_back-append (reverse ys) (reverse xs) cache (OnlyAdd-reverse ys all)

-- ---- one cache

put_adds : (cache key value : List ℕ) → IsAdding (put cache key value)
put_adds cache key value = record { value = λ _ _ _. refl; there = λ _ _. refl }

ensure_adds : (cache : List ℕ) → IsAdding (ensure cache)
ensure_adds cache = record { value = λ _ _ never. absurd (false≢true never); there = λ _ _. refl }

puts_add : (cache : List ℕ) (pairs : Pairs) → OnlyAdd (changes_of (puts_of cache pairs))
puts_add cache [] = tt
puts_add cache (p ∷ ps) = (put_adds cache p.0 p.1, puts_add cache ps)

cache_adds : (cache : List ℕ) (pairs : Pairs) → OnlyAdd (changes_of (plain_cache cache pairs))
cache_adds cache [] = (ensure_adds cache, tt)
cache_adds cache (p ∷ ps) = puts_add cache (p ∷ ps)

-- a key below all others isn't among them
lookup_below : {X : Type 0} (key : List ℕ) (es : List (List ℕ × X)) → AllByRecursion (λ other. slice_cmp nat_cmp key other ≡ Less) (keys_of es) → lookup (same key) es ≡ None
lookup_below key [] below = refl
lookup_below key (e ∷ es) below =
    ap (λ (b : Bool). cond b (Some e.1) (lookup (same key) es)) (texts_ties key e.0 ∙ ap is_eq below.0) ∙ lookup_below key es below.1

-- a key that stands first is in no later entry
lookup_later : {X : Type 0} (e : List ℕ × X) (es : List (List ℕ × X)) (key : List ℕ) → IsRising (keys_of (e ∷ es)) → same e.0 key ≡ true → lookup (same key) es ≡ None
lookup_later e es key rise is =
    ap (λ (k : List ℕ). lookup (same k) es) (sym ((bytes_decides e.0 key).0 is)) ∙ lookup_below e.0 es (sorted_head (slice_cmp nat_cmp) e.0 (keys_of es) rise)

put_before : {X : Type 0} (b more : Bool) (value : X) (later : Option X) → (more ≡ true → later ≡ None) → option_or (cond b later None) (cond (b && more) (Some value) None) ≡ cond b (cond more (Some value) later) None
put_before {X = X} true true value later none = ap (λ (o : Option X). option_or o (Some value)) (none refl)
put_before true false value None none = refl
put_before true false value (Some x) none = refl
put_before false more value later none = refl

none_twice : {X : Type 0} (b : Bool) (o : Option X) → o ≡ None → o ≡ cond b None None
none_twice true o is = is
none_twice false o is = is

puts_value : (cache : List ℕ) (pairs : Pairs) → IsRising (keys_of pairs) → (other key : List ℕ) → value_after (changes_of (puts_of cache pairs)) other key ≡ cond (same cache other) (lookup (same key) pairs) None
puts_value cache [] rise other key = none_twice (same cache other) None refl
puts_value cache (p ∷ ps) rise other key =
    value_after-append (put cache p.0 p.1 ∷ []) (changes_of (puts_of cache ps)) other key (puts_add cache ps)
    ∙ ap (λ (o : Option (List ℕ)). option_or o (cond (same cache other && same p.0 key) (Some p.1) None)) (puts_value cache ps (sorted_tail (slice_cmp nat_cmp) p.0 (keys_of ps) rise) other key)
    ∙ put_before (same cache other) (same p.0 key) p.1 (lookup (same key) ps) (lookup_later p ps key rise)
    ∙ ap (λ (b : Bool). cond (same cache other) (cond b (Some p.1) (lookup (same key) ps)) None) (nat_list_eq_equiv.symm p.0 key)

cache_value : (cache : List ℕ) (pairs : Pairs) → IsRising (keys_of pairs) → (other key : List ℕ) → value_after (changes_of (plain_cache cache pairs)) other key ≡ cond (same cache other) (lookup (same key) pairs) None
cache_value cache [] rise other key = puts_value cache [] rise other key
cache_value cache (p ∷ ps) rise other key = puts_value cache (p ∷ ps) rise other key

itself : (b : Bool) → cond b true false ≡ b
itself true = refl
itself false = refl

either : (b : Bool) → (b || cond b true false) ≡ b
either true = refl
either false = refl

puts_presence : (cache : List ℕ) (p : List ℕ × List ℕ) (ps : Pairs) (other : List ℕ) → is_present_after (changes_of (puts_of cache (p ∷ ps))) other ≡ same cache other
puts_presence cache p [] other = itself (same cache other)
puts_presence cache p (q ∷ qs) other =
    is_present_after-append (put cache p.0 p.1 ∷ []) (changes_of (puts_of cache (q ∷ qs))) other (puts_add cache (q ∷ qs))
    ∙ ap (λ (b : Bool). b || cond (same cache other) true false) (puts_presence cache q qs other)
    ∙ either (same cache other)

cache_presence : (cache : List ℕ) (pairs : Pairs) (other : List ℕ) → is_present_after (changes_of (plain_cache cache pairs)) other ≡ same cache other
cache_presence cache [] other = itself (same cache other)
cache_presence cache (p ∷ ps) other = puts_presence cache p ps other

-- ---- all caches

list_adds : (caches : Caches) → OnlyAdd (changes_of (plain_list caches))
list_adds [] = tt
list_adds (c ∷ cs) = rw (map-append change_of (plain_cache c.0 c.1) (plain_list cs)) (OnlyAdd-append (changes_of (plain_cache c.0 c.1)) (changes_of (plain_list cs)) (cache_adds c.0 c.1) (list_adds cs))

value_before : (b : Bool) (key : List ℕ) (pairs : Pairs) (later : Option Pairs) → (b ≡ true → later ≡ None) → option_or (option_and_then (lookup (same key)) later) (cond b (lookup (same key) pairs) None) ≡ option_and_then (lookup (same key)) (cond b (Some pairs) later)
value_before true key pairs later none = ap (λ (o : Option Pairs). option_or (option_and_then (lookup (same key)) o) (lookup (same key) pairs)) (none refl)
value_before false key pairs None none = refl
value_before false key pairs (Some later) none = nothing_more (lookup (same key) later)
  where
    nothing_more : (o : Option (List ℕ)) → option_or o None ≡ o
    nothing_more None = refl
    nothing_more (Some x) = refl

list_value : (caches : Caches) → NamesRise caches → KeysRise caches → (cache key : List ℕ) → value_after (changes_of (plain_list caches)) cache key ≡ value_in caches cache key
list_value [] names keys cache key = refl
list_value (c ∷ cs) names keys cache key =
    ap (λ (changes : List Change). value_after changes cache key) (map-append change_of (plain_cache c.0 c.1) (plain_list cs))
    ∙ value_after-append (changes_of (plain_cache c.0 c.1)) (changes_of (plain_list cs)) cache key (list_adds cs)
    ∙ (λ i. option_or (list_value cs (sorted_tail (slice_cmp nat_cmp) c.0 (keys_of cs) names) keys.1 cache key i) (cache_value c.0 c.1 keys.0 cache key i))
    ∙ value_before (same c.0 cache) key c.1 (lookup (same cache) cs) (lookup_later c cs cache names)
    ∙ ap (λ (b : Bool). option_and_then (lookup (same key)) (cond b (Some c.1) (lookup (same cache) cs))) (nat_list_eq_equiv.symm c.0 cache)

presence_before : (b : Bool) (pairs : Pairs) (later : Option Pairs) → (is_some later || b) ≡ is_some (cond b (Some pairs) later)
presence_before true pairs None = refl
presence_before true pairs (Some later) = refl
presence_before false pairs None = refl
presence_before false pairs (Some later) = refl

list_presence : (caches : Caches) → (cache : List ℕ) → is_present_after (changes_of (plain_list caches)) cache ≡ is_some (lookup (same cache) caches)
list_presence [] cache = refl
list_presence (c ∷ cs) cache =
    ap (λ (changes : List Change). is_present_after changes cache) (map-append change_of (plain_cache c.0 c.1) (plain_list cs))
    ∙ is_present_after-append (changes_of (plain_cache c.0 c.1)) (changes_of (plain_list cs)) cache (list_adds cs)
    ∙ (λ i. list_presence cs cache i || cache_presence c.0 c.1 cache i)
    ∙ presence_before (same c.0 cache) c.1 (lookup (same cache) cs)
    ∙ ap (λ (b : Bool). is_some (cond b (Some c.1) (lookup (same cache) cs))) (nat_list_eq_equiv.symm c.0 cache)

pub AreContentsAfter-plain_list : (changes : List Change) (caches : Caches) → AreContentsAfter changes caches → AreContentsAfter (changes_of (plain_list caches)) caches
AreContentsAfter-plain_list changes caches are = record {
  names_rise = are.names_rise;
  keys_rise = are.keys_rise;
  presence = λ c. sym (list_presence caches c);
  values = λ c k. sym (list_value caches are.names_rise are.keys_rise c k);
}
