use Rattle.std.proofs.Common.{◌≡◌, ℕ, List, [], Some, false, is_some, ap, ◌∙◌, sym, subst}
use Rattle.std.specs.Ordering.{nat_cmp}
use Rattle.std.specs.Cmp.Lexicographic.{slice_cmp}
use Rattle.std.specs.Map.{lookup}
use Rattle.std.specs.BTreeMap.{is_at}
use Rattle.partition_map.specs.Extents.{Extents}
use Rattle.partition_map.specs.Hidden.{HideOnlyOf}
use Rattle.partition_map.proofs.ChangedLemmas.{ShowsAgain-insert}
use Rattle.partition_map.proofs.HiddenLemmas.{HideOnlyOf-nothing, HideOnlyOf-inserted, lookup-updated}
use Rattle.partition_map.proofs.change.add_hidden.Goals as goal

pub returns-in_ok-insert-clause-shown : goal.returns-in_ok-insert-clause-shown
returns-in_ok-insert-clause-shown c =
    let absent : is_some (lookup (is_at (slice_cmp nat_cmp c.in_ok-copy.field-0)) c.args.extents.now.entries) ≡ false = ap (λ name. is_some (lookup (is_at (slice_cmp nat_cmp name)) c.args.extents.now.entries)) c.in_ok-copy.ensures ∙ sym c.contains_key.ensures ∙ c.if-not-contains_key.true in
    ShowsAgain-insert c.args.extents.now.entries c.insert.new.self.entries c.in_ok-copy.field-0 c.empty.result c.empty.ensures.whole c.empty.ensures.absent absent c.in_ok-insert.ensures.entries c.in_ok-insert.ensures.ordered

pub returns-in_ok-insert-clause-hidden : goal.returns-in_ok-insert-clause-hidden
returns-in_ok-insert-clause-hidden c = λ nothing.
    let old = c.args.extents.now.entries in
    let new = c.insert.new.self.entries in
    let name = c.in_ok-copy.field-0 in
    subst (λ (k : List ℕ). HideOnlyOf k [] new) c.in_ok-copy.ensures (HideOnlyOf-inserted name old new c.empty.result c.empty.ensures.none (lookup-updated name old new (Some c.empty.result) c.in_ok-insert.ensures.updates.0) nothing)

pub returns-in_err-copy-clause-hidden : goal.returns-in_err-copy-clause-hidden
returns-in_err-copy-clause-hidden c = HideOnlyOf-nothing c.args.cache.now [] c.args.extents.now.entries

pub returns-in_err-insert-clause-hidden : goal.returns-in_err-insert-clause-hidden
returns-in_err-insert-clause-hidden c = λ nothing.
    subst (λ (es : Extents). HideOnlyOf c.args.cache.now [] es) (sym c.in_err-insert.ensures.err) (HideOnlyOf-nothing c.args.cache.now [] c.args.extents.now.entries nothing)

pub returns-else-not-contains_key-clause-hidden : goal.returns-else-not-contains_key-clause-hidden
returns-else-not-contains_key-clause-hidden c = HideOnlyOf-nothing c.args.cache.now [] c.args.extents.now.entries
