use Rattle.std.proofs.Common.{arith}
use Rattle.cache_key.proofs.LeadingLemmas.{word}
use Rattle.cache_key.proofs.leading.word_at.Goals as goal

pub returns : goal.returns
returns c = omega (arith, word c.args.at c.args.bytes.now, c.half_at.ensures.number, c.half_at-2.ensures.number)
