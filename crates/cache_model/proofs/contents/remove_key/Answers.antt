-- A removal takes the pairs of the cache and puts them back without the key.
use Rattle.std.proofs.Common.{List, ℕ, None, option_map, ap, ◌∙◌, sym}
use Rattle.std.specs.BTreeMap.{BTreeMap}
use Rattle.std.proofs.lemmas.Result.{on_ok_weaker}
use Rattle.cache_model.specs.Shown.{caches_shown}
use Rattle.cache_model.proofs.ShownLemmas.{IsReplaced-again, lookup-updated}
use Rattle.cache_model.proofs.StepLemmas.{IsChangedBy-remove}
use Rattle.cache_model.proofs.contents.remove_key.Goals as goal

pub returns-in-Some : goal.returns-in-Some
returns-in-Some c =
    let cache = c.args.cache.now in
    let key = c.args.key.now in
    on_ok_weaker c.put_back.result
    (λ replaced. IsChangedBy-remove cache key (caches_shown c.args.caches.now) (caches_shown c.put_back.new.caches) c.in-Some.pairs.entries c.remove.new.self.entries
    (sym c.take_pairs.ensures.pairs ∙ ap (option_map (λ (m : BTreeMap (List ℕ) (List ℕ)). m.entries)) c.in-Some.is)
    (IsReplaced-again cache _ _ (caches_shown c.args.caches.now) (caches_shown c.take_pairs.new.caches) (caches_shown c.put_back.new.caches) c.take_pairs.ensures.replaced replaced)
    (lookup-updated key c.in-Some.pairs c.remove.new.self None c.remove.ensures.updates))
    c.put_back.ensures
