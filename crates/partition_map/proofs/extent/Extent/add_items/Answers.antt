use Rattle.std.proofs.Common.{◌++◌, take, ap, ◌∙◌, sym, arith}
use Rattle.std.proofs.lemmas.Result.{on_ok_weaker}
use Rattle.cache_model.specs.PlainList.{puts_of}
use Rattle.partition_map.specs.Place.{pairs_shown}
use Rattle.partition_map.proofs.InOrderLemmas.{plain-none, plain-some, between-all}
use Rattle.partition_map.proofs.extent.Extent.add_items.Goals as goal

pub returns-then-count-eq0 : goal.returns-then-count-eq0
returns-then-count-eq0 c =
    on_ok_weaker c.add_ensure.result (λ is. is ∙ ap (λ t. take c.args.most (c.args.items.now.items ++ t)) (sym (plain-none c.args.name.now c.args.self.now c.if-not-self.false (omega (arith, c.count.ensures.count, c.if-count-eq0.true))))) c.add_ensure.ensures

pub returns : goal.returns
returns c =
    on_ok_weaker c.add_puts.result
    (λ is. is ∙ ap (λ t. take c.args.most (c.args.items.now.items ++ puts_of c.args.name.now (pairs_shown t))) (between-all c.args.self.now.places)
    ∙ ap (λ t. take c.args.most (c.args.items.now.items ++ t)) (sym (plain-some c.args.name.now c.args.self.now c.if-not-self.false (omega (arith, c.count.ensures.count, c.if-count-eq0.false)))))
    c.add_puts.ensures
