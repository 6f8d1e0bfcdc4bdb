use Rattle.std.proofs.Common.{refl, arith}
use Rattle.store_build.proofs.BuildLemmas.{cut_blank, write_blank, blank_now, blank_on, begun}
use Rattle.store_build.proofs.build.Build.begin.Goals as goal

pub returns-in_err-cut-clause-moments : goal.returns-in_err-cut-clause-moments
returns-in_err-cut-clause-moments g c = cut_blank _ _ _ c.requires.blank c.cut.ensures.time c.cut.ensures.images

pub returns-in_err-write_at-clause-moments : goal.returns-in_err-write_at-clause-moments
returns-in_err-write_at-clause-moments g c =
    let first = cut_blank _ _ _ c.requires.blank c.cut.ensures.time c.cut.ensures.images in
    blank_on _ _ _ _ first (write_blank _ _ _ (blank_now _ _ _ first) c.write_at.ensures.time _ _ (omega arith) c.write_at.ensures.images)

pub returns-clause-moments : goal.returns-clause-moments
returns-clause-moments g c =
    let first = cut_blank _ _ _ c.requires.blank c.cut.ensures.time c.cut.ensures.images in
    blank_on _ _ _ _ first (write_blank _ _ _ (blank_now _ _ _ first) c.write_at.ensures.time _ _ (omega arith) c.write_at.ensures.images)

pub returns-clause-begun : goal.returns-clause-begun
returns-clause-begun g c caches =
    let first = cut_blank _ _ _ c.requires.blank c.cut.ensures.time c.cut.ensures.images in
    begun _ (g.D.Disk.view c.cut.new.self) _ _ _ _ _ _ c.requires.header c.requires.blank c.encode_header.ensures.text
    (blank_on _ _ _ _ first (write_blank _ _ _ (blank_now _ _ _ first) c.write_at.ensures.time _ _ (omega arith) c.write_at.ensures.images))
    c.cut.ensures.images c.write_at.ensures.images c.in_ok-cut.ensures.cut c.in_ok-write_at.ensures.written refl refl refl refl refl caches
