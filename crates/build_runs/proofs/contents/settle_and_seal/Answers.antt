use Rattle.std.proofs.Common.{length, ap, arith}
use Rattle.store_build.proofs.BuiltLemmas.{settled_built, length-whole}
use Rattle.build_runs.proofs.contents.settle_and_seal.Goals as goal

pub seal-requires-clause-long : goal.seal-requires-clause-long
seal-requires-clause-long g c m at =
    let has = c.requires.building in
    let done = c.in_ok-settle.ensures in
    let built = settled_built (g.D.Disk.view c.args.disk.now) (g.D.Disk.view c.settle.new.disk) c.args.build.now has.0 has.1 has.2 c.requires.whole done.moments done.settled (done.seen c.args.build.now.file) in
    let each = ap length (built.each m at) in
    let there = built.there in
    let some = c.args.build.now.some in
    omega (arith, each, length-whole has.0 built.batches, there, some)
