-- A batch is an ensure and then its puts.
use Rattle.std.proofs.Common.{List, ℕ, [], ◌∷◌, ◌++◌, take, ap, ◌∙◌, sym, subst}
use Rattle.std.proofs.lemmas.List.{take_more}
use Rattle.cache_model.specs.Caches.{Pairs}
use Rattle.cache_model.specs.Change.{batch}
use Rattle.cache_model.specs.Shown.{caches_shown}
use Rattle.cache_model.specs.Step.{IsChangedBy}
use Rattle.cache_model.proofs.StepLemmas.{IsChangedBy-batch_none, IsChangedBy-batch_more}
use Rattle.cache_model.proofs.contents.put_pairs.Goals as goal

pub loop-pair-init : goal.loop-pair-init
loop-pair-init c = IsChangedBy-batch_none c.args.cache.now _ _ c.in_ok-ensure_cache.ensures

pub loop-pair-preserved : goal.loop-pair-preserved
loop-pair-preserved c =
    let before = take c.loop-pair.pair-index c.args.pairs.now in
    subst (λ (pairs : Pairs). IsChangedBy (batch c.args.cache.now pairs) (caches_shown c.args.caches.now) (caches_shown c.put_pair.new.caches))
    (sym (take_more c.args.pairs.now c.loop-pair.pair-index c.pair-item.result c.loop-pair-test.true ∙ ap (λ (pair : List ℕ × List ℕ). before ++ pair ∷ []) (sym c.pair-item.is)))
    (IsChangedBy-batch_more c.args.cache.now _ _ before _ _ _ c.loop-pair.invariant c.in_ok-put_pair.ensures)
