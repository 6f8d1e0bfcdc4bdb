use Rattle.std.proofs.Common.{◌∙◌, sym, arith}
use Rattle.partition_map.proofs.ShownLemmas.{items_none, items_some}
use Rattle.partition_map.proofs.extent.Extent.items.Goals as goal

pub returns-then-count-eq0 : goal.returns-then-count-eq0
returns-then-count-eq0 c = λ name. sym (items_none name c.args.self.now c.if-not-self.false (omega (arith, c.count-count.ensures.count, c.if-count-eq0.true))).0

pub returns-else-count-eq0 : goal.returns-else-count-eq0
returns-else-count-eq0 c = λ name. c.count-count.ensures.count ∙ sym (items_some name c.args.self.now c.if-not-self.false (omega (arith, c.count-count.ensures.count, c.if-count-eq0.false))).0
