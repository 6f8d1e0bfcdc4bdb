-- The contents of a partition as one list. Texts are their bytes.
use Rattle.std.specs.Prelude.{ℕ, List, Bool, Option, option_and_then, nat_eq}
use Rattle.std.specs.Map.{lookup}
use Rattle.std.specs.Cmp.Lexicographic.{pointwise}

-- whether two texts have the same bytes
abbrev pub same : List ℕ → List ℕ → Bool
same = pointwise nat_eq

-- the keys of a cache, each with its value
abbrev pub Pairs : Type 0
Pairs = List (List ℕ × List ℕ)

-- the caches of a partition, each by its name with its pairs
abbrev pub Caches : Type 0
Caches = List (List ℕ × Pairs)

-- what stands at a key of a cache
abbrev pub value_in : Caches → List ℕ → List ℕ → Option (List ℕ)
value_in caches cache key = option_and_then (lookup (same key)) (lookup (same cache) caches)
