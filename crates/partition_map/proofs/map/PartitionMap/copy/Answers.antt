use Rattle.std.proofs.Common.{length, ap, sym, subst, arith}
use Rattle.std.specs.Map.{keys_of}
use Rattle.partition_map.specs.Extents.{Extents, AreKept}
use Rattle.partition_map.specs.Hidden.{AreHiddenBy}
use Rattle.partition_map.specs.Marks.{Marks, AreMarked}
use Rattle.partition_map.proofs.ChangedLemmas.{AreKept-again}
use Rattle.partition_map.proofs.MarkLemmas.{AreMarked-again}
use Rattle.partition_map.proofs.map.PartitionMap.copy.Goals as goal

pub invariant_of-result : goal.invariant_of-result
invariant_of-result c =
    let copied = c.in_ok-extents.extents.entries in
    let new = c.forget.new.extents.entries in
    let marks = c.self.inside.names.entries in
    let kept = subst (λ (es : Extents). AreKept es c.self.inside.items c.self.inside.bytes) (sym c.in_ok-extents.ensures) c.self.invariant.0 in
    let marked = subst (AreMarked marks) (sym c.in_ok-extents.ensures) c.self.invariant.3 in (
      AreKept-again copied new _ _ kept c.forget.ensures.shown,
      omega (arith, ap (λ (ns : Marks). length (keys_of ns)) c.in_ok-copy_names.ensures, c.self.invariant.1),
      c.forget.ensures.hidden (subst (AreHiddenBy c.self.inside.readied) (sym c.in_ok-extents.ensures) c.self.invariant.2),
      subst (λ (ns : Marks). AreMarked ns new) (sym c.in_ok-copy_names.ensures) (AreMarked-again marks copied new kept.whole kept.rises c.forget.ensures.shown marked),
    )
