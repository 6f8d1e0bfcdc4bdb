-- The copy keeps the limits, since its pairs are the same.
use Rattle.std.proofs.Common.{◌≤◌, List, ℕ, length, All, subst, sym, ◌∙◌}
use Rattle.cache_key.specs.Names.{IsPair, most_pairs}
use Rattle.cache_key.proofs.pairs.Pairs.copy.Goals as goal

pub invariant_of-result : goal.invariant_of-result
invariant_of-result c =
    subst (λ (l : List (List ℕ × List ℕ)). (length l ≤ most_pairs) × All IsPair l) (sym (c.in_ok-pairs.ensures ∙ c.as_slice.ensures.value)) c.self.invariant
