use Rattle.store_build.proofs.BuiltLemmas.{settled_built}
use Rattle.store_build.proofs.laws.settled_builds_are_whole.Goals as goal

pub returns : goal.returns
returns g c build header caches is whole same settled seen =
    settled_built (g.D.Disk.view c.args.before.now) (g.D.Disk.view c.args.after.now) build header caches is whole same settled seen
