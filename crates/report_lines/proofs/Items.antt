-- Lists of outcomes and of dumps, item by item.
use Rattle.std.proofs.Common.{◌≡◌, List, [], ◌∷◌, map, refl, ap}
use Rattle.serde_json.specs.Data.{item}
use Rattle.serde_json.specs.View.{items_of}
use Rattle.script_lines.specs.declared.answer.Outcome.{Outcome}
use Rattle.script_lines.specs.declared.answer.PartitionDump.{PartitionDump}
use Rattle.report_lines.specs.Line.{dump_data, dumps_data, outcome_data, outcomes_data}

pub items_of-outcomes : (outcomes : List Outcome) → items_of (map outcome_data outcomes) ≡ outcomes_data outcomes
items_of-outcomes [] = refl
items_of-outcomes (outcome ∷ outcomes) = ap (item (outcome_data outcome)) (items_of-outcomes outcomes)

pub items_of-dumps : (dumps : List PartitionDump) → items_of (map dump_data dumps) ≡ dumps_data dumps
items_of-dumps [] = refl
items_of-dumps (dump ∷ dumps) = ap (item (dump_data dump)) (items_of-dumps dumps)
