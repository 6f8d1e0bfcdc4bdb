use Rattle.std.proofs.Common.{◌++◌, [], take, unwrap_or, ap, ◌∙◌, sym}
use Rattle.std.proofs.lemmas.Result.{on_ok_weaker}
use Rattle.cache_model.specs.PlainList.{puts_of}
use Rattle.partition_map.specs.Items.{pairs_after}
use Rattle.partition_map.proofs.InOrderLemmas.{shown-there, pairs_shown-after}
use Rattle.partition_map.proofs.extent.Extent.add_items_after.Goals as goal

pub returns : goal.returns
returns c =
    on_ok_weaker c.add_puts.result
    (λ is. is ∙ ap (λ t. take c.args.most (c.args.items.now.items ++ puts_of c.args.name.now t))
    (pairs_shown-after c.args.key.now c.args.self.now.places ∙ ap (λ o. pairs_after c.args.key.now (unwrap_or o [])) (sym (shown-there c.args.self.now c.if-not-self.false))))
    c.add_puts.ensures
