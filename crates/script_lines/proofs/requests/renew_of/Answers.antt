-- Another number of items is no renewal, and another item is no partition's number.
use Rattle.std.proofs.Common.{◌≡◌, length, arith}
use Rattle.serde_json.specs.View.{items_view}
use Rattle.script_lines.specs.Reading.{IsAsked}
use Rattle.script_lines.specs.declared.reason.EventName.TheVariants as names
use Rattle.script_lines.proofs.AskedLemmas.{asked_by}
use Rattle.script_lines.proofs.ReadingLemmas.{refused}
use Rattle.script_lines.proofs.ShapeLemmas.{items_counted}
use Rattle.script_lines.proofs.requests.renew_of.Goals as goal
use Rattle.script_lines.proofs.requests.renew_of.Goals.{in_default-via-then-others-lt1, in_default-via-else-others-lt1+else-others-lt2}

pub returns-in_default : goal.returns-in_default
returns-in_default c =
    let other : length c.args.others.now ≡ 1 → ⊥ =
    elim c.in_default.branch [ in_default-via-then-others-lt1 w ↦ λ one. grind arith | in_default-via-else-others-lt1+else-others-lt2 w ↦ λ one. grind arith ] in
    refused (IsAsked names.Renew (items_view c.args.others.now)) c.item_count.result c.item_count.ensures
    (λ event is. other (items_counted c.args.others.now _ (asked_by names.Renew (items_view c.args.others.now) event is).items))
