use Rattle.std.proofs.Common.{refl, arith}
use Rattle.store_build.proofs.BuildLemmas.{write_blank, at_end, closed}
use Rattle.store_build.proofs.build.Build.write_gate.Goals as goal

pub write_at-requires-clause-offset : goal.write_at-requires-clause-offset
write_at-requires-clause-offset g c tells = at_end _ _ _ _ c.requires.building.2 c.requires.open tells

pub returns-in_err-write_at-clause-moments : goal.returns-in_err-write_at-clause-moments
returns-in_err-write_at-clause-moments g c = write_blank _ _ _ c.requires.building.2.blank c.write_at.ensures.time _ _ (omega arith) c.write_at.ensures.images

pub returns-clause-moments : goal.returns-clause-moments
returns-clause-moments g c = write_blank _ _ _ c.requires.building.2.blank c.write_at.ensures.time _ _ (omega arith) c.write_at.ensures.images

pub returns-clause-built : goal.returns-clause-built
returns-clause-built g c header caches is none =
    closed _ _ c.args.self.now _
    (write_blank _ _ _ c.requires.building.2.blank c.write_at.ensures.time _ _ (omega arith) c.write_at.ensures.images)
    c.in_ok-write_at.ensures.written c.requires.open refl refl refl refl refl header caches is none
