use Rattle.partition_map.specs.Extents.{caches_in}
use Rattle.build_runs.proofs.contents.build_in.Goals as goal

pub write_all-requires : goal.write_all-requires
write_all-requires g c =
    let has = c.requires.contents in
    let caches = caches_in c.args.map.now.extents in
    record { building = (_, has.0, caches, has.1, has.1.contents, c.in_ok-build.ensures.begun caches) }
