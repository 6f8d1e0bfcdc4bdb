use Rattle.std.proofs.Common.{length, ap, ◌∙◌}
use Rattle.cache_key.specs.declared.request.Request.{Request}
use Rattle.cache_key.specs.declared.request.Reply.{Reply}
use Rattle.call_trail.specs.Trails.{trail_changes}
use Rattle.call_trail.proofs.TrailLemmas.{reply_same}
use Rattle.partition_cell.specs.Cells.{caches_of}
use Rattle.kept_cell.proofs.KeptLemmas.{receipt_is}
use Rattle.kept_cell.proofs.kept.Kept.spell.Goals as goal

pub returns-clause-spelled : goal.returns-clause-spelled
returns-clause-spelled g c =
    let agrees = c.contents.ensures.agrees in
    let trail = c.self.inside.trail in
    let same = reply_same agrees.0 (trail_changes trail.base trail.entries) (caches_of c.self.inside.cell) c.args.request agrees.1.contents c.self.invariant in
    let many = c.len.ensures.many ∙ ap length c.reserve.ensures.kept.1 in
    rw (← c.self.view_is) (
      receipt_is (record { cell = c.self.inside.cell; trail = trail }) c.args.client c.args.number c.args.request c.partition.result c.len.result c.in_ok-reply.reply
          c.partition.ensures many (c.in_ok-reply.ensures agrees.0 agrees.1 ∙ same),
      ap (λ (r : Request). record { client = c.args.client; number = c.args.number; request = r; reply = c.in_ok-copy-2.field-0 }) c.in_ok-copy.ensures
          ∙ ap (λ (r : Reply). record { client = c.args.client; number = c.args.number; request = c.args.request; reply = r }) c.in_ok-copy-2.ensures,
    )
