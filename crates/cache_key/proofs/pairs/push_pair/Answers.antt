use Rattle.std.proofs.Common.{ℕ, zero, suc, List, [], ◌∷◌, ◌++◌, Bool, true, false, cond, All, is_ok, sym, subst, arith}
use Rattle.std.proofs.lemmas.List.Elements.{All-append}
use Rattle.cache_key.specs.Names.{IsPair}
use Rattle.cache_key.proofs.pairs.push_pair.Goals as goal

one : (pair : List ℕ × List ℕ) → IsPair pair → All IsPair (pair ∷ [])
one pair is zero d below = is
one pair is (suc k) d below = absurd (omega (arith, below))

pushed : (done : Bool) (pairs : List (List ℕ × List ℕ)) (pair : List ℕ × List ℕ) → All IsPair pairs → IsPair pair → All IsPair (cond done (pairs ++ pair ∷ []) pairs)
pushed true pairs pair all is = All-append IsPair pairs (pair ∷ []) all (one pair is)
pushed false pairs pair all is = all

pub returns-clause-limits : goal.returns-clause-limits
returns-clause-limits c =
    let pairs = c.args.pairs.now.items in
    subst (All IsPair) (sym c.push.ensures.items) (pushed (is_ok c.push.result) pairs (c.args.key, c.args.value) c.requires.limits (c.text-key.ensures.limits, c.text-value.ensures.limits))
