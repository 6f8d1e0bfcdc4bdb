use Rattle.std.proofs.Common.{◌≡◌, ◌++◌, [], ap, ◌∙◌, sym, append-nil}
use Rattle.partition_map.specs.Extents.{Extents}
use Rattle.partition_map.proofs.InOrderLemmas.{copied-more}
use Rattle.partition_map.proofs.copy.copy_extents.Goals as goal

pub loop-name-preserved : goal.loop-name-preserved
loop-name-preserved c =
    let at = c.loop-name in
    let rest : Extents = c.next.new.self in
    copied-more at.copied.entries c.insert.new.self.entries c.in-Some.name.now _ c.in-Some.extent.now _ rest c.args.extents.now.entries (ap (λ t. at.copied.entries ++ t) (sym c.in-Some.ensures.steps) ∙ at.invariant) c.requires.rises c.in_ok-copy.ensures c.in_ok-copy-2.ensures c.in_ok-insert.ensures.entries

pub loop-name-preserved-in_ok-insert : goal.loop-name-preserved-in_ok-insert
loop-name-preserved-in_ok-insert c =
    let at = c.loop-name in
    let rest : Extents = c.next.new.self in
    copied-more at.copied.entries c.insert.new.self.entries c.in-Some.name.now _ c.in-Some.extent.now _ rest c.args.extents.now.entries (ap (λ t. at.copied.entries ++ t) (sym c.in-Some.ensures.steps) ∙ at.invariant) c.requires.rises c.in_ok-copy.ensures c.in_ok-copy-2.ensures c.in_ok-insert.ensures.entries

pub returns : goal.returns
returns c =
    let at = c.loop-name in
    let empty : at.name-iterator ≡ [] = c.in-None.ensures.steps.0 in
    sym (append-nil at.copied.entries) ∙ ap (λ t. at.copied.entries ++ t) (sym empty) ∙ at.invariant
