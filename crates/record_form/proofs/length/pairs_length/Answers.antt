use Rattle.std.proofs.Common.{arith, ◌≡◌, ℕ, List, length, get_or, ap}
use Rattle.record_form.proofs.GroupLengthLemmas.{pairs_more}
use Rattle.record_form.proofs.length.pairs_length.Goals as goal

pub loop-key-preserved : goal.loop-key-preserved
loop-key-preserved c =
    let item = c.loop-key-item.result in
    let key : length item.0 ≡ length (get_or c.args.pairs.now c.loop-key.key-index item).0 = ap (λ (p : List ℕ × List ℕ). length p.0) c.loop-key-item.is in
    let value : length item.1 ≡ length (get_or c.args.pairs.now c.loop-key.key-index item).1 = ap (λ (p : List ℕ × List ℕ). length p.1) c.loop-key-item.is in
    let more = pairs_more c.args.pairs.now c.loop-key.key-index item c.loop-key-test.true in
    record { so_far = omega (arith, more, key, value, c.pair_length-sum.ensures.length, c.loop-key.invariant.so_far); most = omega (arith, c.pair_length-sum.ensures.most, c.loop-key.invariant.most) }
