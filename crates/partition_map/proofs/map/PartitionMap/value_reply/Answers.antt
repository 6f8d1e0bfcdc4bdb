use Rattle.std.proofs.Common.{Some, ap, ◌∙◌, sym, subst}
use Rattle.cache_key.specs.declared.request.Reply.TheVariants.{Value}
use Rattle.partition_map.specs.After.{AgreesWith}
use Rattle.partition_map.proofs.ChangedLemmas.{value_held, value-agreed}
use Rattle.partition_map.proofs.map.PartitionMap.value_reply.Goals as goal

pub returns-in_ok-copy-in-Some : goal.returns-in_ok-copy-in-Some
returns-in_ok-copy-in-Some c = λ changes agrees.
    ap Value (ap Some c.in_ok-copy-in-Some.ensures ∙ c.in-Some.ensures ∙ ap (λ o. value_held o c.args.key.now) c.get.ensures.value ∙ value-agreed changes _ c.args.cache.now c.args.key.now c.self.invariant.0.rises c.self.invariant.0.whole (subst (AgreesWith changes) (sym c.self.view_is) agrees))

pub returns-in-None : goal.returns-in-None
returns-in-None c = λ changes agrees.
    ap Value (c.in-None.ensures ∙ ap (λ o. value_held o c.args.key.now) c.get.ensures.value ∙ value-agreed changes _ c.args.cache.now c.args.key.now c.self.invariant.0.rises c.self.invariant.0.whole (subst (AgreesWith changes) (sym c.self.view_is) agrees))
