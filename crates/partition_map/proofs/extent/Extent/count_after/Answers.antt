use Rattle.std.proofs.Common.{[], length, unwrap_or, ap, ◌∙◌, sym}
use Rattle.partition_map.specs.Items.{pairs_after}
use Rattle.partition_map.proofs.InOrderLemmas.{shown-there, pairs_shown-after}
use Rattle.partition_map.proofs.extent.Extent.count_after.Goals as goal

pub returns : goal.returns
returns c =
    c.count_after.ensures
    ∙ ap length (pairs_shown-after c.args.key.now c.args.self.now.places ∙ ap (λ o. pairs_after c.args.key.now (unwrap_or o [])) (sym (shown-there c.args.self.now c.if-not-self.false)))
