use Rattle.std.proofs.Common.{◌≡◌, ◌++◌}
use Rattle.serde_json.specs.Data.{string}
use Rattle.serde_json.specs.View.{members_view}
use Rattle.cache_model.specs.Caches.{Pairs}
use Rattle.report_lines.proofs.Members.{listed}
use Rattle.report_lines.proofs.contents.pairs_members.Given as goal

-- the members are those of the pairs so far
abbrev pub invariant-loop-key : goal.invariant-loop-key
invariant-loop-key l =
    (done : Pairs) × (l.pairs.entries ≡ done ++ l.key-iterator) × (members_view l.members.entries ≡ listed string done)
