-- How long the spellings of mutations are.
use Rattle.std.proofs.Common.{◌≡◌, ℕ, ◌+◌, List, [], ◌∷◌, ◌++◌, length, take, get_or, All, refl, ap, ◌∙◌, arith, ◌<◌, ◌≤◌, length-append, append_assoc}
use Rattle.std.specs.List.{flat_map, AllByRecursion}
use Rattle.std.specs.Prelude.{sum_by}
use Rattle.std.proofs.lemmas.List.{take_more}
use Rattle.std.proofs.lemmas.List.Sums.{sum_by-cons}
use Rattle.std.proofs.lemmas.List.Concat.{flat_map-cons, flat_map-append}
use Rattle.byte_fields.specs.Numbers.{bytes_of}
use Rattle.byte_fields.specs.Counted.{counted_text}
use Rattle.byte_fields.proofs.NumbersLemmas.{length-bytes_of}
use Rattle.byte_fields.proofs.CountedLemmas.{length-counted_text}
use Rattle.cache_key.specs.declared.request.Mutation.{Mutation}
use Rattle.cache_key.specs.declared.request.Mutation.TheVariants.{Put, Remove, Ensure, Truncate, Destroy, Batch}
use Rattle.std.proofs.lemmas.List.Elements.{recursion_from_All}
use Rattle.cache_key.specs.Names.{IsPair}
use Rattle.cache_model.specs.PlainList.{pair_length, spelled_length}
use Rattle.record_form.specs.GroupText.{pair_form, mutation_text, group_text, tail_text, IsMutation, IsGroup, most_group_bytes}

abbrev pair_text : List ℕ × List ℕ → List ℕ
pair_text pair = pair_form.text pair

pub length_pair : (pair : List ℕ × List ℕ) → length (pair_text pair) ≡ 6 + length pair.0 + length pair.1
length_pair pair = omega (arith, length-append (counted_text 2 pair.0) (counted_text 4 pair.1), length-counted_text 2 pair.0, length-counted_text 4 pair.1)

pub length_put : (cache key value : List ℕ) → length (mutation_text (Put cache key value)) ≡ 8 + length cache + length key + length value
length_put cache key value =
    let a = length-append (bytes_of 1 1) (counted_text 1 cache ++ pair_text (key, value)) in
    let b = length-append (counted_text 1 cache) (pair_text (key, value)) in
    omega (arith, a, b, length_pair (key, value), length-bytes_of 1 1, length-counted_text 1 cache)

pub length_remove : (cache key : List ℕ) → length (mutation_text (Remove cache key)) ≡ 4 + length cache + length key
length_remove cache key =
    let a = length-append (bytes_of 1 2) (counted_text 1 cache ++ counted_text 2 key) in
    let b = length-append (counted_text 1 cache) (counted_text 2 key) in
    omega (arith, a, b, length-bytes_of 1 2, length-counted_text 1 cache, length-counted_text 2 key)

pub length_name : (tag : ℕ) (cache : List ℕ) → length (bytes_of 1 tag ++ counted_text 1 cache) ≡ 2 + length cache
length_name tag cache = omega (arith, length-append (bytes_of 1 tag) (counted_text 1 cache), length-bytes_of 1 tag, length-counted_text 1 cache)

pub length_batch : (cache : List ℕ) (pairs : List (List ℕ × List ℕ)) → length (mutation_text (Batch cache pairs)) ≡ 3 + length cache + length (flat_map pair_text pairs)
length_batch cache pairs =
    let all = bytes_of 1 (length pairs) ++ flat_map pair_text pairs in
    let a = length-append (bytes_of 1 6) (counted_text 1 cache ++ all) in
    let b = length-append (counted_text 1 cache) all in
    let c = length-append (bytes_of 1 (length pairs)) (flat_map pair_text pairs) in
    omega (arith, a, b, c, length-bytes_of 1 6, length-counted_text 1 cache, length-bytes_of 1 (length pairs))

-- ---- the lengths that the model of contents counts

pairs_spelled : (pairs : List (List ℕ × List ℕ)) → length (flat_map pair_text pairs) ≡ sum_by pair_length pairs
pairs_spelled [] = refl
pairs_spelled (pair ∷ pairs) =
    let first = ap length (flat_map-cons pair_text pair pairs) ∙ length-append (pair_text pair) (flat_map pair_text pairs) in
    omega (arith, first, length_pair pair, pairs_spelled pairs, sum_by-cons pair_length pair pairs)

pub length-mutation_text : (mutation : Mutation) → length (mutation_text mutation) ≡ spelled_length mutation
length-mutation_text (Put cache key value) = omega (arith, length_put cache key value)
length-mutation_text (Remove cache key) = omega (arith, length_remove cache key)
length-mutation_text (Ensure cache) = omega (arith, length_name 3 cache)
length-mutation_text (Truncate cache) = omega (arith, length_name 4 cache)
length-mutation_text (Destroy cache) = omega (arith, length_name 5 cache)
length-mutation_text (Batch cache pairs) = omega (arith, length_batch cache pairs, pairs_spelled pairs)

-- ---- one more

-- one pair more
pub pairs_more : (pairs : List (List ℕ × List ℕ)) (i : ℕ) (d : List ℕ × List ℕ) → i < length pairs
    → length (flat_map pair_text (take (i + 1) pairs)) ≡ length (flat_map pair_text (take i pairs)) + (6 + length (get_or pairs i d).0 + length (get_or pairs i d).1)
pairs_more pairs i d here =
    let x = get_or pairs i d in
    let e = ap (λ ps. length (flat_map pair_text ps)) (take_more pairs i d here) ∙ ap length (flat_map-append pair_text (take i pairs) (x ∷ [])) ∙ length-append (flat_map pair_text (take i pairs)) (flat_map pair_text (x ∷ [])) in
    let one = ap length (flat_map-cons pair_text x []) ∙ length-append (pair_text x) [] in
    omega (arith, e, one, length_pair x)

-- one mutation more
pub length_group : (ms : List Mutation) → length (group_text ms) ≡ 1 + length (flat_map mutation_text ms)
length_group ms = omega (arith, length-append (bytes_of 1 (length ms)) (flat_map mutation_text ms), length-bytes_of 1 (length ms))

pub group_more : (ms : List Mutation) (m : Mutation) → length (group_text (ms ++ m ∷ [])) ≡ length (group_text ms) + length (mutation_text m)
group_more ms m =
    let e = ap length (flat_map-append mutation_text ms (m ∷ [])) ∙ length-append (flat_map mutation_text ms) (flat_map mutation_text (m ∷ [])) in
    let one = ap length (flat_map-cons mutation_text m []) ∙ length-append (mutation_text m) [] in
    omega (arith, e, one, length_group ms, length_group (ms ++ m ∷ []))

all_push : (ms : List Mutation) (m : Mutation) → AllByRecursion IsMutation ms → IsMutation m → AllByRecursion IsMutation (ms ++ m ∷ [])
all_push [] m all is = (is, tt)
all_push (first ∷ ms) m all is = (all.0, all_push ms m all.1 is)

pub group_pushed : (ms : List Mutation) (m : Mutation) → IsGroup ms → IsMutation m → length ms < 64 → length (group_text (ms ++ m ∷ [])) ≤ most_group_bytes → IsGroup (ms ++ m ∷ [])
group_pushed ms m is also few short = record {
  are = record { least = omega (arith, length-append ms (m ∷ [])); most = omega (arith, length-append ms (m ∷ [])); all = all_push ms m is.are.all also };
  size = short;
}

pub by_recursion : (pairs : List (List ℕ × List ℕ)) → All IsPair pairs → AllByRecursion IsPair pairs
by_recursion pairs all = recursion_from_All IsPair pairs all

pub length_of_one : (m : Mutation) → length (group_text (m ∷ [])) ≡ 1 + length (mutation_text m)
length_of_one m = omega (arith, length_group (m ∷ []), ap length (flat_map-cons mutation_text m []), length-append (mutation_text m) [])

pub group_of_one : (m : Mutation) → IsMutation m → length (mutation_text m) ≤ 4260291 → IsGroup (m ∷ [])
group_of_one m is short = record { are = record { least = omega arith; most = omega arith; all = (is, tt) }; size = omega (arith, length_of_one m) }

-- a group has at least its count
pub group_size : (ms : List Mutation) → IsGroup ms → (1 ≤ length (group_text ms)) × (length (group_text ms) ≤ most_group_bytes)
group_size ms is = (omega (arith, length_group ms), is.size)

-- the parts of a tail, as they are added
pub tail_is : (ms : List Mutation) (size : ℕ) → size ≡ length (group_text ms) → (((bytes_of 4 size ++ bytes_of 1 (length ms)) ++ flat_map mutation_text ms) ++ bytes_of 1 0) ≡ tail_text ms
tail_is ms size is =
    ap (λ (l : List ℕ). l ++ bytes_of 1 0) (append_assoc (bytes_of 4 size) (bytes_of 1 (length ms)) (flat_map mutation_text ms))
    ∙ ap (λ (n : ℕ). (bytes_of 4 n ++ group_text ms) ++ bytes_of 1 0) is
