-- A put takes the pairs of the cache, or none, and puts them back with one pair more.
use Rattle.std.proofs.Common.{List, ℕ, Some, cond, ap, ◌∙◌}
use Rattle.std.specs.Map.{lookup}
use Rattle.std.specs.BTreeMap.{BTreeMap}
use Rattle.std.proofs.lemmas.Result.{on_ok_weaker}
use Rattle.cache_model.specs.Caches.{same}
use Rattle.cache_model.specs.Shown.{caches_shown}
use Rattle.cache_model.proofs.ShownLemmas.{IsReplaced-again, lookup-updated, lookup-unwrap_or}
use Rattle.cache_model.proofs.StepLemmas.{IsChangedBy-put, found}
use Rattle.cache_model.proofs.contents.put_pair.Goals as goal

pub returns : goal.returns
returns c =
    let cache = c.args.cache.now in
    let key = c.args.key.now in
    let value = c.args.value.now in
    let updates = rw (c.in_ok-copy.ensures, c.in_ok-copy-2.ensures) at c.in_ok-insert.ensures.updates in
    on_ok_weaker c.put_back.result
    (λ replaced. IsChangedBy-put cache key value (caches_shown c.args.caches.now) (caches_shown c.put_back.new.caches) c.insert.new.self.entries
    (IsReplaced-again cache _ _ (caches_shown c.args.caches.now) (caches_shown c.take_pairs.new.caches) (caches_shown c.put_back.new.caches) c.take_pairs.ensures.replaced replaced)
    (λ k.
    lookup-updated key c.unwrap_or-pairs.result c.insert.new.self (Some value) updates k
    ∙ ap (cond (same key k) (Some value))
    (ap (λ (m : BTreeMap (List ℕ) (List ℕ)). lookup (same k) m.entries) c.unwrap_or-pairs.ensures
    ∙ lookup-unwrap_or c.take_pairs.result c.new.result k c.new.ensures.empty
    ∙ ap (found k) c.take_pairs.ensures.pairs)))
    c.put_back.ensures
