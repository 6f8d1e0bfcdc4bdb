-- Laws of specs/PlainList.antt: by how much a mutation may lengthen the plain list.
use Rattle.std.proofs.Common.{◌≡◌, ℕ, ◌+◌, ◌*◌, ◌/◌, ◌≤◌, List, [], ◌∷◌, ◌++◌, reverse, length, Bool, true, false, cond, ◌&&◌, Option, Some, None, unwrap_or, is_some, sum_by, ap, ◌∙◌, sym, refl, arith, inl, inr}
use Rattle.std.specs.Cmp.Lexicographic.{bytes_decides}
use Rattle.std.specs.List.{flat_map}
use Rattle.std.specs.Map.{lookup}
use Rattle.std.proofs.lemmas.Bool.{false≢true}
use Rattle.std.proofs.lemmas.List.Sorted.{IsPermutation-reverse, sum_by-IsPermutation}
use Rattle.std.proofs.lemmas.List.Sums.{sum_by-cons, sum_by-append}
use Rattle.cache_key.specs.Names.{most_pairs}
use Rattle.cache_key.specs.declared.request.Mutation.{Mutation}
use Rattle.cache_key.specs.declared.request.Mutation.TheVariants.{Put, Remove, Ensure, Truncate, Destroy, Batch}
use Rattle.cache_model.specs.Caches.{same, Pairs, Caches}
use Rattle.cache_model.specs.Change.{Change, change_of, rules, presence_left, writes, value_left}
use Rattle.cache_model.specs.Contents.{AreContentsAfter, NamesRise, KeysRise}
use Rattle.cache_model.specs.PlainList.{puts_of, plain_cache, plain_list, spelled_length, live, growth_of, pairs_of, HasPairs}
use Rattle.cache_model.specs.Step.{IsChangedBy}
use Rattle.cache_model.proofs.ContentsLemmas.{same-itself, IsChangedBy-from_contents}
use Rattle.cache_model.proofs.EntriesLemmas.{weight_at, weight_of, weight-changed, Has, Has-append_left, Has-append_right, Has-from_lookup, weight_of-among}
use Rattle.cache_model.proofs.ListLemmas.{KeysRiseHere, KeysRise-lookup, same_pairs}
use Rattle.cache_model.proofs.StepLemmas.{found}

-- ---- a measure of mutations, summed over the plain list

-- the measure of a cache with these pairs
abbrev pub measured : (Mutation → ℕ) → List ℕ → Pairs → ℕ
measured m cache pairs = sum_by m (plain_cache cache pairs)

-- an ensure has at most the measure of a put
abbrev IsMeasure : (Mutation → ℕ) → Type 0
IsMeasure m = (cache key value : List ℕ) → m (Ensure cache) ≤ m (Put cache key value)

pub sum_by-flat_map : {X Y : Type 0} (f : Y → ℕ) (g : X → List Y) (xs : List X) → sum_by f (flat_map g xs) ≡ sum_by (λ x. sum_by f (g x)) xs
sum_by-flat_map f g [] = refl
sum_by-flat_map f g (x ∷ xs) = sum_by-append f (g x) (flat_map g xs) ∙ ap (λ (n : ℕ). sum_by f (g x) + n) (sum_by-flat_map f g xs) ∙ sym (sum_by-cons (λ y. sum_by f (g y)) x xs)

pub sum_by-puts_of : (m : Mutation → ℕ) (cache : List ℕ) (pairs : Pairs) → sum_by m (puts_of cache pairs) ≡ weight_of (λ k v. m (Put cache k v)) pairs
sum_by-puts_of m cache [] = refl
sum_by-puts_of m cache (p ∷ ps) = sum_by-cons m (Put cache p.0 p.1) (puts_of cache ps) ∙ ap (λ (n : ℕ). m (Put cache p.0 p.1) + n) (sum_by-puts_of m cache ps) ∙ sym (sum_by-cons (λ (q : List ℕ × List ℕ). m (Put cache q.0 q.1)) p ps)

-- ---- one cache

-- the pairs that were there measure no more than the cache
pairs_within : (m : Mutation → ℕ) (cache : List ℕ) (was : Option Pairs) → weight_of (λ k v. m (Put cache k v)) (unwrap_or was []) ≤ weight_at (measured m) cache was
pairs_within m cache None = omega arith
pairs_within m cache (Some []) = omega arith
pairs_within m cache (Some (p ∷ ps)) = omega (arith, sum_by-puts_of m cache (p ∷ ps))

-- a cache that has only pairs that it had, and some others, measures at most so much more
grown : (m : Mutation → ℕ) (cache : List ℕ) (was is : Option Pairs) (others : Pairs) (extra : ℕ) → KeysRiseHere is → (is_some is ≡ true → m (Ensure cache) ≤ weight_at (measured m) cache was + extra) → ((key value : List ℕ) → found key is ≡ Some value → Has (others ++ unwrap_or was []) key value) → sum_by m (puts_of cache others) ≤ extra → weight_at (measured m) cache is ≤ weight_at (measured m) cache was + extra
grown m cache was None others extra rise least among few = omega arith
grown m cache was (Some []) others extra rise least among few = omega (arith, least refl)
grown m cache was (Some (p ∷ ps)) others extra rise least among few =
    let weight : List ℕ → List ℕ → ℕ = λ k v. m (Put cache k v) in
    let all = sum_by-puts_of m cache (p ∷ ps) in
    let both = sum_by-append (λ (q : List ℕ × List ℕ). weight q.0 q.1) others (unwrap_or was []) in
    let more = sum_by-puts_of m cache others in
    let within = weight_of-among weight (others ++ unwrap_or was []) (p ∷ ps) rise among in
    let kept = pairs_within m cache was in
    omega (arith, all, both, more, within, kept)

Has-from_found : (was : Option Pairs) (key value : List ℕ) → found key was ≡ Some value → Has (unwrap_or was []) key value
Has-from_found None key value is = cc
Has-from_found (Some pairs) key value is = Has-from_lookup pairs key value is

-- a cache that was there measures at least its ensure
least_there : (m : Mutation → ℕ) → IsMeasure m → (cache : List ℕ) (was : Option Pairs) → is_some was ≡ true → m (Ensure cache) ≤ weight_at (measured m) cache was
least_there m least cache None there = absurd (false≢true there)
least_there m least cache (Some []) there = omega arith
least_there m least cache (Some (p ∷ ps)) there =
    let all = sum_by-cons m (Put cache p.0 p.1) (puts_of cache ps) in
    let one = least cache p.0 p.1 in
    omega (arith, all, one)

-- ---- what each mutation adds to the measure of its cache

-- the test on the cache itself is passed
at_itself : {X : Type 0} (cache : List ℕ) (x y : X) → cond (same cache cache) x y ≡ x
at_itself cache x y = ap (λ (b : Bool). cond b x y) (same-itself cache)

at_itself_and : {X : Type 0} (cache : List ℕ) (b : Bool) (x y : X) → cond (same cache cache && b) x y ≡ cond b x y
at_itself_and cache b x y = ap (λ (a : Bool). cond (a && b) x y) (same-itself cache)

-- what a put leaves is the new pair or one of the old
put_among : (b : Bool) (key value : List ℕ) (was : Option Pairs) (k v : List ℕ) → (b ≡ true → key ≡ k) → cond b (Some value) (found k was) ≡ Some v → Has ((key, value) ∷ unwrap_or was []) k v
put_among true key value was k v at is = inl (at refl, cc)
put_among false key value was k v at is = inr (Has-from_found was k v is)

-- what a removal leaves is one of the old
left_among : (b : Bool) (was : Option Pairs) (k v : List ℕ) → cond b None (found k was) ≡ Some v → Has (unwrap_or was []) k v
left_among true was k v is = cc
left_among false was k v is = Has-from_found was k v is

-- what a batch leaves is one of its pairs or one of the old
batch_among : (b : Bool) (pairs : Pairs) (was : Option Pairs) (k v : List ℕ) → cond b (lookup (same k) (reverse pairs)) (found k was) ≡ Some v → Has (reverse pairs ++ unwrap_or was []) k v
batch_among true pairs was k v is = Has-append_left (reverse pairs) (unwrap_or was []) k v (Has-from_lookup (reverse pairs) k v is)
batch_among false pairs was k v is = Has-append_right (reverse pairs) (unwrap_or was []) k v (Has-from_found was k v is)

-- the mutations that are put into records of their own after this one
abbrev added : Mutation → List Mutation
added (Put cache key value) = Put cache key value ∷ []
added (Remove cache key) = []
added (Ensure cache) = Ensure cache ∷ []
added (Truncate cache) = []
added (Destroy cache) = []
added (Batch cache pairs) = puts_of cache pairs

abbrev pub cache_of : Mutation → List ℕ
cache_of (Put cache key value) = cache
cache_of (Remove cache key) = cache
cache_of (Ensure cache) = cache
cache_of (Truncate cache) = cache
cache_of (Destroy cache) = cache
cache_of (Batch cache pairs) = cache

batch_least : (m : Mutation → ℕ) → IsMeasure m → (cache : List ℕ) (pairs : Pairs) → 1 ≤ length pairs → m (Ensure cache) ≤ sum_by m (puts_of cache pairs)
batch_least m least cache [] some = absurd (omega (arith, some))
batch_least m least cache (p ∷ ps) some =
    let all = sum_by-cons m (Put cache p.0 p.1) (puts_of cache ps) in
    let one = least cache p.0 p.1 in
    omega (arith, all, one)

sum_by-reverse : (m : Mutation → ℕ) (cache : List ℕ) (pairs : Pairs) → sum_by m (puts_of cache (reverse pairs)) ≡ sum_by m (puts_of cache pairs)
sum_by-reverse m cache pairs = sum_by-puts_of m cache (reverse pairs) ∙ sum_by-IsPermutation (λ (q : List ℕ × List ℕ). m (Put cache q.0 q.1)) pairs (reverse pairs) (IsPermutation-reverse pairs) ∙ sym (sum_by-puts_of m cache pairs)

gone_measure : (m : Mutation → ℕ) (cache : List ℕ) (is : Option Pairs) (most : ℕ) → is_some is ≡ false → weight_at (measured m) cache is ≤ most
gone_measure m cache None most gone = omega arith
gone_measure m cache (Some pairs) most gone = absurd (false≢true (sym gone))

-- by how much the measure of the mutation's cache may grow
cache_grown : (m : Mutation → ℕ) → IsMeasure m → (mutation : Mutation) → HasPairs mutation → (old new : Caches) → KeysRise new → IsChangedBy (change_of mutation) old new → weight_at (measured m) (cache_of mutation) (lookup (same (cache_of mutation)) new) ≤ weight_at (measured m) (cache_of mutation) (lookup (same (cache_of mutation)) old) + sum_by m (added mutation)
cache_grown m least (Put cache key value) within old new rise changed =
    let was = lookup (same cache) old in
    grown m cache was (lookup (same cache) new) ((key, value) ∷ []) (sum_by m (added (Put cache key value))) (KeysRise-lookup cache new rise)
    (λ there. omega (arith, least cache key value))
    (λ k v is. put_among (same key k) key value was k v (bytes_decides key k).0 (sym (at_itself_and cache (same key k) (Some value) (found k was)) ∙ sym (changed.values cache k) ∙ is))
    (omega arith)
cache_grown m least (Remove cache key) within old new rise changed =
    let was = lookup (same cache) old in
    grown m cache was (lookup (same cache) new) [] 0 (KeysRise-lookup cache new rise)
    (λ there. omega (arith, least_there m least cache was (sym (changed.presence cache) ∙ there)))
    (λ k v is. left_among (same key k) was k v (sym (at_itself_and cache (same key k) None (found k was)) ∙ sym (changed.values cache k) ∙ is))
    (omega arith)
cache_grown m least (Ensure cache) within old new rise changed =
    let was = lookup (same cache) old in
    grown m cache was (lookup (same cache) new) [] (sum_by m (added (Ensure cache))) (KeysRise-lookup cache new rise)
    (λ there. omega arith)
    (λ k v is. Has-from_found was k v (sym (changed.values cache k) ∙ is))
    (omega arith)
cache_grown m least (Truncate cache) within old new rise changed =
    let was = lookup (same cache) old in
    grown m cache was (lookup (same cache) new) [] 0 (KeysRise-lookup cache new rise)
    (λ there. omega (arith, least_there m least cache was (sym (changed.presence cache) ∙ there)))
    (λ k v is. left_among true was k v (sym (at_itself cache None (found k was)) ∙ sym (changed.values cache k) ∙ is))
    (omega arith)
cache_grown m least (Destroy cache) within old new rise changed =
    gone_measure m cache (lookup (same cache) new) _ (changed.presence cache ∙ at_itself cache false (is_some (lookup (same cache) old)))
cache_grown m least (Batch cache pairs) within old new rise changed =
    let was = lookup (same cache) old in
    grown m cache was (lookup (same cache) new) (reverse pairs) (sum_by m (puts_of cache pairs)) (KeysRise-lookup cache new rise)
    (λ there. omega (arith, batch_least m least cache pairs within))
    (λ k v is. batch_among (is_some (lookup (same k) pairs)) pairs was k v (sym (at_itself_and cache (is_some (lookup (same k) pairs)) (lookup (same k) (reverse pairs)) (found k was)) ∙ sym (changed.values cache k) ∙ is))
    (omega (arith, sum_by-reverse m cache pairs))

-- ---- the other caches stay

pub not_ruled : (mutation : Mutation) (other : List ℕ) → same (cache_of mutation) other ≡ false → rules (change_of mutation) other ≡ false
not_ruled (Put cache key value) other apart = apart
not_ruled (Remove cache key) other apart = refl
not_ruled (Ensure cache) other apart = apart
not_ruled (Truncate cache) other apart = refl
not_ruled (Destroy cache) other apart = apart
not_ruled (Batch cache pairs) other apart = apart

pub not_written : (mutation : Mutation) (other key : List ℕ) → same (cache_of mutation) other ≡ false → writes (change_of mutation) other key ≡ false
not_written (Put cache k value) other key apart = ap (λ (b : Bool). b && same k key) apart
not_written (Remove cache k) other key apart = ap (λ (b : Bool). b && same k key) apart
not_written (Ensure cache) other key apart = refl
not_written (Truncate cache) other key apart = apart
not_written (Destroy cache) other key apart = apart
not_written (Batch cache pairs) other key apart = ap (λ (b : Bool). b && is_some (lookup (same key) pairs)) apart

others_same : (mutation : Mutation) (old new : Caches) → KeysRise old → KeysRise new → IsChangedBy (change_of mutation) old new → (other : List ℕ) → same (cache_of mutation) other ≡ false → lookup (same other) new ≡ lookup (same other) old
others_same mutation old new rise others_rise changed other apart =
    same_pairs (lookup (same other) new) (lookup (same other) old) (KeysRise-lookup other new others_rise) (KeysRise-lookup other old rise)
    (changed.presence other ∙ ap (λ (b : Bool). cond b (presence_left (change_of mutation) other) (is_some (lookup (same other) old))) (not_ruled mutation other apart))
    (λ key. changed.values other key ∙ ap (λ (b : Bool). cond b (value_left (change_of mutation) other key) (found key (lookup (same other) old))) (not_written mutation other key apart))

-- ---- the whole list

list_grown : (m : Mutation → ℕ) → IsMeasure m → (mutation : Mutation) → HasPairs mutation → (old new : Caches) → NamesRise old → NamesRise new → KeysRise old → KeysRise new → IsChangedBy (change_of mutation) old new → sum_by m (plain_list new) ≤ sum_by m (plain_list old) + sum_by m (added mutation)
list_grown m least mutation within old new names new_names keys new_keys changed =
    let before = sum_by-flat_map m (λ (c : List ℕ × Pairs). plain_cache c.0 c.1) old in
    let after = sum_by-flat_map m (λ (c : List ℕ × Pairs). plain_cache c.0 c.1) new in
    let one = cache_grown m least mutation within old new new_keys changed in
    let both = weight-changed (measured m) (cache_of mutation) old new names new_names (others_same mutation old new keys new_keys changed) in
    omega (arith, before, after, one, both)

pub length_is_sum : (mutations : List Mutation) → length mutations ≡ sum_by (λ _. 1) mutations
length_is_sum [] = refl
length_is_sum (x ∷ xs) = omega (arith, sum_by-cons (λ (_ : Mutation). 1) x xs, length_is_sum xs)

store_longer : (t u n k e c : ℕ) → u ≤ t + e → k ≤ n + c → c ≤ 64 → 42 + u + 6 * ((k + 63) / 64) ≤ 42 + t + 6 * ((n + 63) / 64) + (6 + e)
store_longer t u n k e c lengths counts few = omega arith

store_as_long : (t u n k : ℕ) → u ≤ t + 0 → k ≤ n + 0 → 42 + u + 6 * ((k + 63) / 64) ≤ 42 + t + 6 * ((n + 63) / 64) + 0
store_as_long t u n k lengths counts = omega arith

-- the lengths of the lists, in bytes and in mutations
lengths_grown : (mutation : Mutation) → HasPairs mutation → (old new : Caches) → NamesRise old → NamesRise new → KeysRise old → KeysRise new → IsChangedBy (change_of mutation) old new → (sum_by spelled_length (plain_list new) ≤ sum_by spelled_length (plain_list old) + sum_by spelled_length (added mutation)) × (length (plain_list new) ≤ length (plain_list old) + length (added mutation))
lengths_grown mutation within old new names new_names keys new_keys changed =
    let counts = list_grown (λ _. 1) (λ _ _ _. omega arith) mutation within old new names new_names keys new_keys changed in (
      list_grown spelled_length (λ _ _ _. omega arith) mutation within old new names new_names keys new_keys changed,
      omega (arith, counts, length_is_sum (plain_list new), length_is_sum (plain_list old), length_is_sum (added mutation)),
    )

pub length-puts_of : (cache : List ℕ) (pairs : Pairs) → length (puts_of cache pairs) ≡ length pairs
length-puts_of cache [] = refl
length-puts_of cache (p ∷ ps) = omega (arith, length-puts_of cache ps)

pub live_grown : (mutation : Mutation) → HasPairs mutation → length (pairs_of mutation) ≤ most_pairs → (old new : Caches) → NamesRise old → NamesRise new → KeysRise old → KeysRise new → IsChangedBy (change_of mutation) old new → live new ≤ live old + growth_of mutation
live_grown (Put cache key value) within few old new names new_names keys new_keys changed =
    let both = lengths_grown (Put cache key value) within old new names new_names keys new_keys changed in
    store_longer (sum_by spelled_length (plain_list old)) (sum_by spelled_length (plain_list new)) (length (plain_list old)) (length (plain_list new)) (spelled_length (Put cache key value)) 1 (omega (arith, both)) (omega (arith, both)) (omega arith)
live_grown (Remove cache key) within few old new names new_names keys new_keys changed =
    let both = lengths_grown (Remove cache key) within old new names new_names keys new_keys changed in
    store_as_long _ _ _ _ both.0 both.1
live_grown (Ensure cache) within few old new names new_names keys new_keys changed =
    let both = lengths_grown (Ensure cache) within old new names new_names keys new_keys changed in
    store_longer (sum_by spelled_length (plain_list old)) (sum_by spelled_length (plain_list new)) (length (plain_list old)) (length (plain_list new)) (spelled_length (Ensure cache)) 1 (omega (arith, both)) (omega (arith, both)) (omega arith)
live_grown (Truncate cache) within few old new names new_names keys new_keys changed =
    let both = lengths_grown (Truncate cache) within old new names new_names keys new_keys changed in
    store_as_long _ _ _ _ both.0 both.1
live_grown (Destroy cache) within few old new names new_names keys new_keys changed =
    let both = lengths_grown (Destroy cache) within old new names new_names keys new_keys changed in
    store_as_long _ _ _ _ both.0 both.1
live_grown (Batch cache pairs) within few old new names new_names keys new_keys changed =
    let both = lengths_grown (Batch cache pairs) within old new names new_names keys new_keys changed in
    store_longer _ _ _ _ (sum_by spelled_length (puts_of cache pairs)) (length (puts_of cache pairs)) both.0 both.1 (omega (arith, length-puts_of cache pairs, few))

pub live-growth : (changes : List Change) (mutation : Mutation) (before after : Caches) → HasPairs mutation → length (pairs_of mutation) ≤ most_pairs → AreContentsAfter changes before → AreContentsAfter (changes ++ change_of mutation ∷ []) after → live after ≤ live before + growth_of mutation
live-growth changes mutation before after within few were are =
    live_grown mutation within few before after were.names_rise are.names_rise were.keys_rise are.keys_rise (IsChangedBy-from_contents changes (change_of mutation) before after were are)
