-- Another number of items is not one cache.
use Rattle.std.proofs.Common.{◌≡◌, length, arith}
use Rattle.serde_json.specs.Data.{string, no_items, item}
use Rattle.serde_json.specs.View.{items_view}
use Rattle.script_lines.specs.Reading.{IsOneCache}
use Rattle.script_lines.proofs.ReadingLemmas.{refused}
use Rattle.script_lines.proofs.ShapeLemmas.{items_counted}
use Rattle.script_lines.proofs.requests.one_cache.Goals as goal
use Rattle.script_lines.proofs.requests.one_cache.Goals.{in_default-via-then-others-lt1, in_default-via-else-others-lt1+else-others-lt2}

pub returns-in_default : goal.returns-in_default
returns-in_default c =
    let other : length c.args.others.now ≡ 1 → ⊥ =
    elim c.in_default.branch [ in_default-via-then-others-lt1 w ↦ λ one. grind arith | in_default-via-else-others-lt1+else-others-lt2 w ↦ λ one. grind arith ] in
    refused (IsOneCache (items_view c.args.others.now)) c.item_count.result c.item_count.ensures
    (λ cache is. other (items_counted c.args.others.now (item (string cache) no_items) is.are))
