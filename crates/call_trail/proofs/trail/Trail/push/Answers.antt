use Rattle.std.proofs.Common.{length, length-append, ◌∷◌, [], List, sym, subst, arith, ◌≡◌, ◌<◌, ◌≤◌}
use Rattle.cache_model.specs.Reply.{reply_after}
use Rattle.partition_map.specs.Extents.{caches_in}
use Rattle.call_trail.specs.Trails.{Trail, IsLegal, trail_changes, most_entries}
use Rattle.call_trail.specs.declared.entry.Entry.{Entry}
use Rattle.call_trail.proofs.TrailLemmas.{legal_more}
use Rattle.call_trail.proofs.trail.Trail.push.Goals as goal

pub invariant_of-self : goal.invariant_of-self
invariant_of-self c =
    let base = caches_in c.self.inside.base.extents in
    let entries = c.self.inside.entries.items in
    let right = subst (λ (t : Trail). c.args.entry.reply ≡ reply_after (trail_changes t.base t.entries) c.args.entry.request) (sym c.self.view_is) c.requires.right in
    let more = subst (λ (t : Trail). length t.entries < most_entries) (sym c.self.view_is) c.requires.more in
    let many = length-append entries (c.args.entry ∷ []) in
    subst (λ (l : List Entry). IsLegal base l × (length l ≤ most_entries)) (sym c.push_reserved.ensures.items) (
      legal_more base entries c.args.entry c.self.invariant.0 right,
      omega (arith, more, many),
    )
