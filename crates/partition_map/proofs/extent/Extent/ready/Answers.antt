use Rattle.std.proofs.Common.{◌≡◌, ℕ, List, ◌∷◌, [], true, length, ap, sym, subst, arith}
use Rattle.std.specs.List.{AllByRecursion, list_any}
use Rattle.std.specs.Map.{keys_of}
use Rattle.std.proofs.lemmas.Result.{on_ok_weaker}
use Rattle.cache_model.specs.Caches.{same}
use Rattle.cache_model.specs.Change.{change_of}
use Rattle.partition_map.specs.Extents.{pair_bytes}
use Rattle.partition_map.specs.Hidden.{keys_put}
use Rattle.partition_map.specs.Place.{HasPlace}
use Rattle.partition_map.proofs.HiddenLemmas.{HidesOnly-more, key-among, keys-among}
use Rattle.partition_map.proofs.extent.Extent.ready.Goals as goal

pub returns-in_err-check_sums-in-Put-clause-hidden : goal.returns-in_err-check_sums-in-Put-clause-hidden
returns-in_err-check_sums-in-Put-clause-hidden c = HidesOnly-more (keys_put (change_of c.args.mutation.now)) c.args.self.now.places

pub returns-in_err-bytes_of_pairs-in-Batch-clause-hidden : goal.returns-in_err-bytes_of_pairs-in-Batch-clause-hidden
returns-in_err-bytes_of_pairs-in-Batch-clause-hidden c = HidesOnly-more (keys_put (change_of c.args.mutation.now)) c.args.self.now.places

pub returns-in_err-check_sums-in-Batch-clause-hidden : goal.returns-in_err-check_sums-in-Batch-clause-hidden
returns-in_err-check_sums-in-Batch-clause-hidden c = HidesOnly-more (keys_put (change_of c.args.mutation.now)) c.args.self.now.places

pub returns-in_ok-check_sums-in-Put-clause-hidden : goal.returns-in_ok-check_sums-in-Put-clause-hidden
returns-in_ok-check_sums-in-Put-clause-hidden c =
    let key = c.in-Put.key in
    rw c.in-Put.is (λ only. c.ready.ensures.hidden (key ∷ []) (key-among key) (HidesOnly-more (key ∷ []) c.args.self.now.places only))

pub returns-in_ok-check_sums-in-Batch-clause-ready : goal.returns-in_ok-check_sums-in-Batch-clause-ready
returns-in_ok-check_sums-in-Batch-clause-ready c =
    let slice = c.as_slice-pairs.ensures.pairs in
    rw c.in-Batch.is (on_ok_weaker c.ready_pairs.result (λ has. record {
      has = subst (AllByRecursion (λ (p : List ℕ × List ℕ). HasPlace c.ready_pairs.new.places p.0)) slice has;
      counts = omega (arith, c.in_ok-check_sums-in-Batch.ensures.counts, c.ready_pairs.ensures.values.count, ap length slice);
      bytes = omega (arith, c.in_ok-check_sums-in-Batch.ensures.bytes, c.ready_pairs.ensures.values.bytes, c.in_ok-bytes_of_pairs-in-Batch.ensures.ok, ap pair_bytes slice);
    }) c.ready_pairs.ensures.places)

pub returns-in_ok-check_sums-in-Batch-clause-hidden : goal.returns-in_ok-check_sums-in-Batch-clause-hidden
returns-in_ok-check_sums-in-Batch-clause-hidden c =
    let pairs = c.in-Batch.pairs in
    let all = subst (AllByRecursion (λ (p : List ℕ × List ℕ). list_any (same p.0) (keys_of pairs) ≡ true)) (sym c.as_slice-pairs.ensures.pairs) (keys-among pairs) in
    rw c.in-Batch.is (λ only. c.ready_pairs.ensures.hidden (keys_of pairs) all (HidesOnly-more (keys_of pairs) c.args.self.now.places only))
