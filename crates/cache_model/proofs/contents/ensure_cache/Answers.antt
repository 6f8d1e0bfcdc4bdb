-- The cache is there already, or comes with no pairs.
use Rattle.std.proofs.Common.{◌∙◌, sym, subst, Some}
use Rattle.std.proofs.lemmas.Result.{on_ok_weaker}
use Rattle.cache_model.specs.Shown.{caches_shown}
use Rattle.cache_model.specs.Step.{IsReplaced}
use Rattle.cache_model.specs.Caches.{Pairs}
use Rattle.cache_model.proofs.ShownLemmas.{presence-caches_shown}
use Rattle.cache_model.proofs.StepLemmas.{IsChangedBy-ensure_present, IsChangedBy-ensure_absent}
use Rattle.cache_model.proofs.contents.ensure_cache.Goals as goal

pub returns-then-contains_key : goal.returns-then-contains_key
returns-then-contains_key c =
    IsChangedBy-ensure_present c.args.cache.now (caches_shown c.args.caches.now) (presence-caches_shown c.args.caches.now c.args.cache.now ∙ sym c.contains_key.ensures ∙ c.if-contains_key.true)

pub returns : goal.returns
returns c =
    on_ok_weaker c.put_back.result
    (λ replaced. IsChangedBy-ensure_absent c.args.cache.now (caches_shown c.args.caches.now) (caches_shown c.put_back.new.caches)
    (presence-caches_shown c.args.caches.now c.args.cache.now ∙ sym c.contains_key.ensures ∙ c.if-contains_key.false)
    (subst (λ (pairs : Pairs). IsReplaced c.args.cache.now (Some pairs) (caches_shown c.args.caches.now) (caches_shown c.put_back.new.caches)) c.new.ensures.empty replaced))
    c.put_back.ensures
