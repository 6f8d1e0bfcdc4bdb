-- Over one partition a request has one part, itself, or none.
use Rattle.std.proofs.Common.{◌≡◌, ℕ, ◌+◌, zero, suc, List, [], ◌∷◌, ◌++◌, map, refl, ◌∙◌, ap, arith}
use Rattle.std.specs.Prelude.{◌==◌, if◌then◌else◌}
use Rattle.cache_key.specs.Partition.{hash_partition}
use Rattle.cache_key.specs.declared.request.Request.{Request}
use Rattle.cache_key.specs.declared.request.Request.TheVariants.{Get, Put, Remove, Ensure, Truncate, Destroy, PutAll, Size}
use Rattle.cache_key.specs.declared.request.Reply.TheVariants.{Count}
use Rattle.cache_model.specs.Caches.{Pairs}
use Rattle.cache_model.specs.Change.{Change}
use Rattle.cache_model.specs.Parts.{HasPart, pairs_in_partition, where_key, some_pairs, parts_below, parts_of, joined_reply}
use Rattle.cache_model.specs.Reply.{reply_after}
use Rattle.cache_model.specs.Size.{size_after}

-- there is one partition
only_partition : (key : List ℕ) → hash_partition key 1 ≡ 0
only_partition key = omega arith

key_here : (key : List ℕ) (request : Request) → where_key 1 0 key request ≡ request ∷ []
key_here key request = ap (λ (n : ℕ). if n == 0 then request ∷ [] else []) (only_partition key)

all_pairs : (pairs : Pairs) → pairs_in_partition 1 0 pairs ≡ pairs
all_pairs [] = refl
all_pairs (pair ∷ pairs) =
    ap (λ (n : ℕ). if n == 0 then pair ∷ pairs_in_partition 1 0 pairs else pairs_in_partition 1 0 pairs) (only_partition pair.0)
    ∙ ap (λ (ps : Pairs). pair ∷ ps) (all_pairs pairs)

abbrev placed : List Request → List (ℕ × Request)
placed requests = map (λ part. (0, part)) requests

pub one_part : (request : Request) → HasPart request → parts_of 1 request ≡ (0, request) ∷ []
one_part (Get cache key) some = ap placed (key_here key (Get cache key))
one_part (Put cache key value) some = ap placed (key_here key (Put cache key value))
one_part (Remove cache key) some = ap placed (key_here key (Remove cache key))
one_part (Ensure cache) some = refl
one_part (Truncate cache) some = refl
one_part (Destroy cache) some = refl
one_part (PutAll cache []) some = absurd (some cache refl)
one_part (PutAll cache (pair ∷ pairs)) some = ap (λ (ps : Pairs). placed (some_pairs cache ps)) (all_pairs (pair ∷ pairs))
one_part (Size cache) some = refl

none_below : (cache : List ℕ) (count below : ℕ) → parts_below count below (PutAll cache []) ≡ []
none_below cache count zero = refl
none_below cache count (suc below) = ap (λ (parts : List (ℕ × Request)). parts ++ []) (none_below cache count below)

pub no_part : (cache : List ℕ) (count : ℕ) → parts_of count (PutAll cache []) ≡ []
no_part cache count = none_below cache count count

none_more : (n : ℕ) → 0 + n ≡ n
none_more n = omega arith

-- the reply of one part is the reply
pub joined_alone : (changes : List Change) (request : Request) → joined_reply request (reply_after changes request ∷ []) ≡ reply_after changes request
joined_alone changes (Get cache key) = refl
joined_alone changes (Put cache key value) = refl
joined_alone changes (Remove cache key) = refl
joined_alone changes (Ensure cache) = refl
joined_alone changes (Truncate cache) = refl
joined_alone changes (Destroy cache) = refl
joined_alone changes (PutAll cache pairs) = refl
joined_alone changes (Size cache) = ap (λ (n : ℕ). Count n) (none_more (size_after changes cache))
