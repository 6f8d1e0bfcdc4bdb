-- The pairs that a removal gives, and the caches that it leaves.
use Rattle.std.proofs.Common.{List, ℕ, option_map, ap, ◌∙◌, sym}
use Rattle.std.specs.BTreeMap.{BTreeMap}
use Rattle.cache_model.proofs.ShownLemmas.{lookup-caches_shown, IsReplaced-remove}
use Rattle.cache_model.proofs.contents.take_pairs.Goals as goal

pub returns-clause-pairs : goal.returns-clause-pairs
returns-clause-pairs c =
    ap (option_map (λ (n : BTreeMap (List ℕ) (List ℕ)). n.entries)) c.remove.ensures.value ∙ sym (lookup-caches_shown c.args.caches.now c.args.cache.now)

pub returns-clause-replaced : goal.returns-clause-replaced
returns-clause-replaced c =
    IsReplaced-remove c.args.cache.now c.args.caches.now c.remove.new.self c.remove.ensures.entries c.remove.ensures.updates c.remove.ensures.ordered
