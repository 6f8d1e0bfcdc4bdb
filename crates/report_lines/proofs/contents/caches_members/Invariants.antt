use Rattle.std.proofs.Common.{◌≡◌, ℕ, List, ◌++◌}
use Rattle.std.specs.BTreeMap.{BTreeMap}
use Rattle.serde_json.specs.View.{members_view}
use Rattle.report_lines.proofs.Members.{listed, cache_data}
use Rattle.report_lines.proofs.contents.caches_members.Given as goal

-- the members are those of the caches so far
abbrev pub invariant-loop-name : goal.invariant-loop-name
invariant-loop-name l =
    (done : List (List ℕ × BTreeMap (List ℕ) (List ℕ))) × (l.caches.entries ≡ done ++ l.name-iterator) × (members_view l.members.entries ≡ listed cache_data done)
