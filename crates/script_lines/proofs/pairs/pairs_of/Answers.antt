-- There are 1 to 64 pairs.
use Rattle.std.proofs.Common.{ap, ◌∙◌, arith}
use Rattle.serde_json.specs.View.{view}
use Rattle.serde_json.proofs.Views.{view-Array}
use Rattle.script_lines.proofs.PairLemmas.{not_so_many}
use Rattle.script_lines.proofs.pairs.pairs_of.Goals as goal
use Rattle.script_lines.proofs.pairs.pairs_of.Goals.{then-count-lt-LEAST_PAIRS-via-then-count-lt-LEAST_PAIRS, then-count-lt-LEAST_PAIRS-via-else-count-lt-LEAST_PAIRS+then-count-gt-MOST_PAIRS}

pub returns-then-count-lt-LEAST_PAIRS : goal.returns-then-count-lt-LEAST_PAIRS
returns-then-count-lt-LEAST_PAIRS c =
    not_so_many (view c.args.value) c.in-Array.items.items (ap view c.in-Array.is ∙ view-Array c.in-Array.items)
    (elim c.then-count-lt-LEAST_PAIRS.branch [ then-count-lt-LEAST_PAIRS-via-then-count-lt-LEAST_PAIRS w ↦ λ least most. omega arith | then-count-lt-LEAST_PAIRS-via-else-count-lt-LEAST_PAIRS+then-count-gt-MOST_PAIRS w ↦ λ least most. omega arith ])
