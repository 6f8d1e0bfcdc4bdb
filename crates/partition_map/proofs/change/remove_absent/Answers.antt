use Rattle.std.proofs.Common.{◌≡◌, None, false, ap, ◌∙◌, sym}
use Rattle.std.specs.Ordering.{nat_cmp}
use Rattle.std.specs.Cmp.Lexicographic.{slice_cmp}
use Rattle.std.specs.Map.{lookup}
use Rattle.std.specs.BTreeMap.{is_at}
use Rattle.cache_model.proofs.ShownLemmas.{same-is_at}
use Rattle.partition_map.specs.Extents.{presence_held}
use Rattle.partition_map.proofs.HiddenLemmas.{ShowsAgain-remove, lookup-updated, left_there-removed, left_there-kept}
use Rattle.partition_map.proofs.change.remove_absent.Goals as goal

pub returns-then-not-is_present-clause-shown : goal.returns-then-not-is_present-clause-shown
returns-then-not-is_present-clause-shown c =
    let es = c.args.extents.now.entries in
    let absent : presence_held (lookup (is_at (slice_cmp nat_cmp c.args.cache.now)) es) ≡ false = ap (λ test. presence_held (lookup test es)) (sym (same-is_at c.args.cache.now)) ∙ sym c.requires.presence ∙ c.if-not-is_present.true in
    ShowsAgain-remove (is_at (slice_cmp nat_cmp c.args.cache.now)) es c.remove.new.self.entries absent c.remove.ensures.entries c.remove.ensures.ordered

pub returns-then-not-is_present-clause-left : goal.returns-then-not-is_present-clause-left
returns-then-not-is_present-clause-left c =
    let name = c.args.cache.now in
    let es = c.args.extents.now.entries in
    left_there-removed name es c.remove.new.self.entries (sym c.requires.presence ∙ c.if-not-is_present.true) (lookup-updated name es c.remove.new.self.entries None c.remove.ensures.updates.0)

pub returns-else-not-is_present-clause-left : goal.returns-else-not-is_present-clause-left
returns-else-not-is_present-clause-left c =
    left_there-kept c.args.cache.now c.args.extents.now.entries (sym c.requires.presence ∙ c.if-not-is_present.false)
