use Rattle.std.proofs.Common.{length, ap, arith}
use Rattle.store_build.proofs.BuiltLemmas.{built_store, built_length, length-whole}
use Rattle.store_build.proofs.laws.whole_builds_are_stores.Goals as goal

pub returns-clause-size : goal.returns-clause-size
returns-clause-size g c file header caches end is =
    let size = built_length (g.D.Disk.view c.args.disk.now) file header caches end is in
    (size, λ m at. let each = ap length (is.each m at) in let there = is.there in omega (arith, each, length-whole header is.batches, there, size))

pub returns-clause-store : goal.returns-clause-store
returns-clause-store g c file header caches end is m at bytes but sealed =
    built_store (g.D.Disk.view c.args.disk.now) file header caches end (m file) bytes is (is.each m at) but sealed
