use Rattle.std.proofs.Common.{sym, subst}
use Rattle.std.proofs.lemmas.Result.{IfOk-weaker}
use Rattle.cache_model.specs.Contents.{AreContentsAfter}
use Rattle.partition_cell.specs.Cells.{Cell, caches_of}
use Rattle.partition_map.specs.After.{AgreesWith}
use Rattle.cluster_commands.proofs.CommandLemmas.{shown_as}
use Rattle.cluster_commands.proofs.command.dump.Goals as goal

pub returns : goal.returns
returns g c = IfOk-weaker c.dump_with.result _ _
    (λ answer is seen at.
    let agrees = c.contents.ensures.agrees in (
      c.in_ok-caches.caches,
      shown_as agrees.0 seen.changes (caches_of c.args.cluster.now.kept.cell) c.in_ok-caches.caches (subst (λ (x : Cell _). AreContentsAfter agrees.0 (caches_of x)) c.cell.ensures agrees.1.contents) at.contents
          (c.in_ok-caches.ensures agrees.0 (subst (AgreesWith agrees.0) (sym c.contents.ensures.contents) agrees.1)),
      is seen at,
    ))
    c.dump_with.ensures
