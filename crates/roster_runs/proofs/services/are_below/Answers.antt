use Rattle.std.proofs.Common.{◌<◌, All, subst, arith}
use Rattle.std.proofs.lemmas.List.{take_all}
use Rattle.std.proofs.lemmas.List.Elements.{All-more}
use Rattle.roster_runs.proofs.services.are_below.Goals as goal

pub loop-number-preserved : goal.loop-number-preserved
loop-number-preserved c = All-more (λ number. number < c.args.end) c.args.numbers.now c.loop-number.number-index 0 c.loop-number-test.true c.loop-number.invariant (omega (arith, c.if-number-end.false))

pub returns : goal.returns
returns c = λ _. subst (All (λ number. number < c.args.end)) (take_all c.loop-number.number-index c.args.numbers.now (omega (arith, c.loop-number-test.false))) c.loop-number.invariant
