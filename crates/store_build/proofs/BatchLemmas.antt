-- Batches of items, and how long their records are.
use Rattle.std.proofs.Common.{◌≡◌, ℕ, ◌+◌, ◌*◌, ◌≤◌, List, [], ◌∷◌, ◌++◌, length, take, drop, refl, sym, ◌∙◌, ap, subst, arith, append_assoc, length-append, length-drop, sum_by}
use Rattle.std.specs.List.{flat_map, AllByRecursion}
use Rattle.std.proofs.lemmas.List.{append-nil, take-append-drop}
use Rattle.std.proofs.lemmas.List.Concat.{flat_map-cons}
use Rattle.std.proofs.lemmas.List.Sums.{sum_by-cons, sum_by-append}
use Rattle.cache_key.specs.declared.request.Mutation.{Mutation}
use Rattle.cache_model.specs.Caches.{Pairs, Caches}
use Rattle.cache_model.specs.PlainList.{puts_of, plain_cache, plain_list, spelled_length, build_length, records_for}
use Rattle.record_form.specs.GroupText.{mutation_text}
use Rattle.record_form.proofs.GroupLengthLemmas.{length_group, length-mutation_text}
use Rattle.store_journal.specs.Text.{end_of}
use Rattle.store_build.specs.Batches.{AreBatches, IsPlainItem}

-- one after the other, and then what is left
pub batches_joined : (items : List Mutation) (batches : List (List Mutation)) (left : List Mutation) → AreBatches items batches left → flat_map (λ batch. batch) batches ++ left ≡ items
batches_joined items [] left are = sym are
batches_joined items (batch ∷ batches) left are =
    append_assoc batch (flat_map (λ b. b) batches) left
    ∙ ap (λ (l : List Mutation). batch ++ l) (batches_joined (drop 64 items) batches left are.2)
    ∙ ap (λ (l : List Mutation). l ++ drop 64 items) are.1
    ∙ take-append-drop 64 items

-- one batch more
pub batches_pushed : (items : List Mutation) (batches : List (List Mutation)) (left : List Mutation) → AreBatches items batches left → 1 ≤ length left
    → AreBatches items (batches ++ take 64 left ∷ []) (drop 64 left)
batches_pushed items [] left are some = subst (λ (l : List Mutation). AreBatches l (take 64 left ∷ []) (drop 64 left)) (sym are) (some, refl, refl)
batches_pushed items (batch ∷ batches) left are some = (are.0, are.1, batches_pushed (drop 64 items) batches left are.2 some)

-- how many there are
pub length-batches : (items : List Mutation) (batches : List (List Mutation)) → AreBatches items batches [] → length batches ≡ records_for (length items)
length-batches items [] are = let none : length items ≡ 0 = ap length are in omega (arith, none)
length-batches items (batch ∷ batches) are =
    let some = are.0 in
    let rest = length-batches (drop 64 items) batches are.2 in
    let short = length-drop 64 items in
    omega (arith, some, rest, short)

-- the lengths of mutations, one after the other
pub length-spellings : (ms : List Mutation) → length (flat_map mutation_text ms) ≡ sum_by spelled_length ms
length-spellings [] = refl
length-spellings (m ∷ ms) =
    let first = ap length (flat_map-cons mutation_text m ms) ∙ length-append (mutation_text m) (flat_map mutation_text ms) in
    omega (arith, first, length-mutation_text m, length-spellings ms, sum_by-cons spelled_length m ms)

length-records_of : (batches : List (List Mutation)) → end_of batches ≡ 41 + 6 * length batches + sum_by spelled_length (flat_map (λ batch. batch) batches)
length-records_of [] = refl
length-records_of (batch ∷ batches) =
    let rest = length-records_of batches in
    let here = length_group batch in
    let spelled = length-spellings batch in
    let both = sum_by-append spelled_length batch (flat_map (λ b. b) batches) in
    omega (arith, rest, here, spelled, both)

-- a store in such batches is as long as the model counts
pub length-plain_build : (items : List Mutation) (batches : List (List Mutation)) → AreBatches items batches [] → end_of batches + 1 ≡ build_length items
length-plain_build items batches are =
    let all : flat_map (λ (b : List Mutation). b) batches ≡ items = sym (append-nil (flat_map (λ (b : List Mutation). b) batches)) ∙ batches_joined items batches [] are in
    let spelled : sum_by spelled_length (flat_map (λ (b : List Mutation). b) batches) ≡ sum_by spelled_length items = ap (sum_by spelled_length) all in
    omega (arith, length-records_of batches, length-batches items batches are, spelled)

-- each item of a plain list is a put or an ensure
puts_plain : (cache : List ℕ) (pairs : Pairs) → AllByRecursion IsPlainItem (puts_of cache pairs)
puts_plain cache [] = tt
puts_plain cache (p ∷ pairs) = (tt, puts_plain cache pairs)

cache_plain : (cache : List ℕ) (pairs : Pairs) → AllByRecursion IsPlainItem (plain_cache cache pairs)
cache_plain cache [] = (tt, tt)
cache_plain cache (p ∷ pairs) = puts_plain cache (p ∷ pairs)

all_joined : {X : Type 0} (P : X → Type 0) (xs ys : List X) → AllByRecursion P xs → AllByRecursion P ys → AllByRecursion P (xs ++ ys)
all_joined P [] ys first second = second
all_joined P (x ∷ xs) ys first second = (first.0, all_joined P xs ys first.1 second)

pub all_pushed : {X : Type 0} (P : X → Type 0) (xs : List X) (x : X) → AllByRecursion P xs → P x → AllByRecursion P (xs ++ x ∷ [])
all_pushed P xs x all is = all_joined P xs (x ∷ []) all (is, tt)

pub list_plain : (caches : Caches) → AllByRecursion IsPlainItem (plain_list caches)
list_plain [] = tt
list_plain (c ∷ caches) = all_joined IsPlainItem (plain_cache c.0 c.1) (plain_list caches) (cache_plain c.0 c.1) (list_plain caches)

pub all_first : {X : Type 0} (P : X → Type 0) (xs ys : List X) → AllByRecursion P (xs ++ ys) → AllByRecursion P xs
all_first P [] ys all = tt
all_first P (x ∷ xs) ys all = (all.0, all_first P xs ys all.1)

pub all_second : {X : Type 0} (P : X → Type 0) (xs ys : List X) → AllByRecursion P (xs ++ ys) → AllByRecursion P ys
all_second P [] ys all = all
all_second P (x ∷ xs) ys all = all_second P xs ys all.1

pub all_taken : {X : Type 0} (P : X → Type 0) (n : ℕ) (xs : List X) → AllByRecursion P xs → AllByRecursion P (take n xs)
all_taken P n xs all = all_first P (take n xs) (drop n xs) (subst (λ (l : List _). AllByRecursion P l) (sym (take-append-drop n xs)) all)
