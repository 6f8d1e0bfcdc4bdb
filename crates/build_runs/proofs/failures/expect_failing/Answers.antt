use Rattle.std.proofs.Common.{length, ap, arith}
use Rattle.build_runs.proofs.failures.expect_failing.Goals as goal

pub build_in-built-requires-clause-freeable : goal.build_in-built-requires-clause-freeable
build_in-built-requires-clause-freeable g c m at = let none = ap length (c.disk_failing-disk.ensures m at 0) in omega (arith, none)
