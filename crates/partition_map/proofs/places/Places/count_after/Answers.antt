use Rattle.std.proofs.Common.{◌≤◌, length, Some, ap, ◌∙◌, sym, subst, arith}
use Rattle.partition_map.specs.Place.{PlaceList, pairs_shown, places_after, value_count}
use Rattle.partition_map.proofs.CountLemmas.{value_count-after}
use Rattle.partition_map.proofs.ShownLemmas.{length-pairs_shown}
use Rattle.partition_map.proofs.places.Places.count_after.Goals as goal

pub count_values-requires : goal.count_values-requires
count_values-requires c =
    let es : PlaceList = c.self.inside.entries.entries in
    let few : value_count c.range.result ≤ value_count es = subst (λ (ps : PlaceList). value_count ps ≤ value_count es) (sym (c.range.ensures.between tt)) (value_count-after c.args.key.now es) in
    omega (arith, few, c.count-count.type_inv, c.count-count.ensures.count, ap value_count c.self.view_is)

pub returns-then-count-eq0 : goal.returns-then-count-eq0
returns-then-count-eq0 c =
    omega (arith, length-pairs_shown (places_after (Some c.args.key.now) c.args.self.now), value_count-after c.args.key.now c.args.self.now, c.count-count.ensures.count, c.if-count-eq0.true)

pub returns : goal.returns
returns c =
    let es : PlaceList = c.self.inside.entries.entries in
    c.count_values.ensures
    ∙ ap value_count (c.range.ensures.between tt)
    ∙ sym (length-pairs_shown (places_after (Some c.args.key.now) es))
    ∙ ap (λ (ps : PlaceList). length (pairs_shown (places_after (Some c.args.key.now) ps))) c.self.view_is
