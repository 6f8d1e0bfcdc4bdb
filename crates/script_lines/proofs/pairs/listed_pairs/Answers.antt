-- An item that is no pair makes the list none of pairs; a pair makes one pair more.
use Rattle.std.proofs.Common.{◌≡◌, All, length, sym, ap, ◌∙◌, subst, arith}
use Rattle.std.proofs.lemmas.Grind.{common_steps}
use Rattle.std.proofs.lemmas.List.Elements.{All-push}
use Rattle.serde_json.specs.Data.{array}
use Rattle.serde_json.specs.View.{view, items_view}
use Rattle.cache_key.specs.Names.{IsPair}
use Rattle.script_lines.specs.Form.{pair_items}
use Rattle.script_lines.specs.Reading.{IsPairOf, ArePairsOf}
use Rattle.script_lines.proofs.EventLemmas.{yielded_more}
use Rattle.script_lines.proofs.PairLemmas.{pair_next, pair_items-push, pairs_counted}
use Rattle.script_lines.proofs.ReadingLemmas.{Reads-handed_on}
use Rattle.script_lines.proofs.pairs.listed_pairs.Goals as goal

pub returns-in_err-key : goal.returns-in_err-key
returns-in_err-key c =
    Reads-handed_on (IsPairOf (view c.in-Some.item)) (ArePairsOf (array (items_view c.args.items.items))) c.pair_of.result c.from_residual.result c.in_err-key.field-0.0 c.pair_of.ensures c.in_err-key.was c.from_residual.ensures.1
    (pair_next _ _ _ _ _ c.loop-item.invariant.whole c.in-Some.ensures.steps.0)

pub loop-item-preserved : goal.loop-item-preserved
loop-item-preserved c =
    let pair : IsPairOf (view c.in-Some.item) (c.in_ok-key.key, c.in_ok-key.value) = c.in_ok-key.ensures in
    record {
      whole = yielded_more _ _ _ _ _ c.loop-item.invariant.whole c.in-Some.ensures.steps.0;
      are = pair_items-push c.loop-item.yielded c.loop-item.pairs c.in-Some.item (c.in_ok-key.key, c.in_ok-key.value) c.loop-item.invariant.are pair.is ∙ ap pair_items (sym c.in-Ok.ensures.ok);
      limits = subst (All IsPair) (sym c.in-Ok.ensures.ok) (All-push IsPair c.loop-item.pairs (c.in_ok-key.key, c.in_ok-key.value) c.loop-item.invariant.limits pair.limits);
    }

pub returns : goal.returns
returns c =
    let whole = c.loop-item.invariant.whole in
    let none = c.in-None.ensures.steps.0 in
    let all : c.args.items.items ≡ c.loop-item.yielded = grind (arith, common_steps) in
    let are : items_view c.args.items.items ≡ pair_items c.loop-item.pairs = ap items_view all ∙ c.loop-item.invariant.are in
    let count : length c.args.items.items ≡ length c.loop-item.pairs = pairs_counted c.args.items.items c.loop-item.pairs are in
    record { are = ap array are; limits = record { least = omega (arith, c.requires.least); most = omega (arith, c.requires.most); each = c.loop-item.invariant.limits } }
