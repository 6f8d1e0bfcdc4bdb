use Rattle.std.proofs.Common.{Less, Greater, sym, ◌∙◌}
use Rattle.std.specs.Cmp.{ranked}
use Rattle.cache_key.proofs.LeadingLemmas.{less-high, less-low, greater-high, greater-low}
use Rattle.cache_key.proofs.leading.Leading.order.Goals as goal

pub returns-then-self-other-clause-less : goal.returns-then-self-other-clause-less
returns-then-self-other-clause-less c =
    λ is xs ys leading other. less-high c.args.self.now c.args.other.now xs ys leading other (ranked _ _ Less (sym is ∙ c.cmp.ensures))

pub returns-then-self-other-clause-greater : goal.returns-then-self-other-clause-greater
returns-then-self-other-clause-greater c =
    λ is xs ys leading other. greater-high c.args.self.now c.args.other.now xs ys leading other (ranked _ _ Greater (sym is ∙ c.cmp.ensures))

pub returns-clause-less : goal.returns-clause-less
returns-clause-less c =
    λ is xs ys leading other. less-low c.args.self.now c.args.other.now xs ys leading other c.if-self-other.false (ranked _ _ Less (sym is ∙ c.cmp-2.ensures))

pub returns-clause-greater : goal.returns-clause-greater
returns-clause-greater c =
    λ is xs ys leading other. greater-low c.args.self.now c.args.other.now xs ys leading other c.if-self-other.false (ranked _ _ Greater (sym is ∙ c.cmp-2.ensures))
