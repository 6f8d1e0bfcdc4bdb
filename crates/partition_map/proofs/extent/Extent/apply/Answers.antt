use Rattle.std.proofs.Common.{◌∙◌, true, ap, sym, cond, ◌&&◌, is_some, reverse}
use Rattle.std.specs.Map.{lookup}
use Rattle.cache_model.specs.Caches.{same}
use Rattle.cache_model.proofs.ContentsLemmas.{same-itself}
use Rattle.partition_map.specs.Place.{value_at}
use Rattle.partition_map.proofs.BatchLemmas.{value_put-is}
use Rattle.partition_map.proofs.extent.Extent.apply.Goals as goal

-- a batch; the others are found
pub returns-in-Batch-clause-after : goal.returns-in-Batch-clause-after
returns-in-Batch-clause-after c =
    let pairs = c.in-Batch.pairs in
    let here = same-itself c.in-Batch.cache in
    let was = c.args.self.now in
    rw c.in-Batch.is (record {
      presence = sym (ap (λ b. cond b true was.present) here);
      values = λ key. c.put_pairs.ensures.values key ∙ value_put-is pairs key (value_at was.places key) ∙ sym (ap (λ b. cond (b && is_some (lookup (same key) pairs)) (lookup (same key) (reverse pairs)) (value_at was.places key)) here);
      rises = c.put_pairs.ensures.ordered;
      hidden = c.put_pairs.ensures.hidden;
    })
