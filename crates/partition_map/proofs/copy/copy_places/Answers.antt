use Rattle.std.proofs.Common.{◌≡◌, ◌++◌, [], ap, ◌∙◌, sym, append-nil}
use Rattle.partition_map.specs.Place.{PlaceList}
use Rattle.partition_map.proofs.InOrderLemmas.{copied-more}
use Rattle.partition_map.proofs.copy.copy_places.Goals as goal

pub loop-key-preserved : goal.loop-key-preserved
loop-key-preserved c =
    let at = c.loop-key in
    let rest : PlaceList = c.next.new.self in
    copied-more at.copied.entries c.insert.new.self.entries c.in-Some.key.now _ c.in-Some.place.now _ rest c.args.places.now.entries (ap (λ t. at.copied.entries ++ t) (sym c.in-Some.ensures.steps) ∙ at.invariant) c.requires.rises c.in_ok-copy.ensures c.in_ok-copy_place.ensures c.in_ok-insert.ensures.entries

pub loop-key-preserved-in_ok-insert : goal.loop-key-preserved-in_ok-insert
loop-key-preserved-in_ok-insert c =
    let at = c.loop-key in
    let rest : PlaceList = c.next.new.self in
    copied-more at.copied.entries c.insert.new.self.entries c.in-Some.key.now _ c.in-Some.place.now _ rest c.args.places.now.entries (ap (λ t. at.copied.entries ++ t) (sym c.in-Some.ensures.steps) ∙ at.invariant) c.requires.rises c.in_ok-copy.ensures c.in_ok-copy_place.ensures c.in_ok-insert.ensures.entries

pub loop-key-preserved-in_ok-insert-2 : goal.loop-key-preserved-in_ok-insert-2
loop-key-preserved-in_ok-insert-2 c =
    let at = c.loop-key in
    let rest : PlaceList = c.next.new.self in
    copied-more at.copied.entries c.insert.new.self.entries c.in-Some.key.now _ c.in-Some.place.now _ rest c.args.places.now.entries (ap (λ t. at.copied.entries ++ t) (sym c.in-Some.ensures.steps) ∙ at.invariant) c.requires.rises c.in_ok-copy.ensures c.in_ok-copy_place.ensures c.in_ok-insert.ensures.entries

pub returns : goal.returns
returns c =
    let at = c.loop-key in
    let empty : at.key-iterator ≡ [] = c.in-None.ensures.steps.0 in
    sym (append-nil at.copied.entries) ∙ ap (λ t. at.copied.entries ++ t) (sym empty) ∙ at.invariant
