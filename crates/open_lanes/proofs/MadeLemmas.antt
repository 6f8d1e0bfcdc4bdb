-- Lanes whose first stores were made.
use Rattle.std.proofs.Common.{◌≡◌, inl, inr, ℕ, ◌<◌, ◌≤◌, List, [], ◌∷◌, ◌++◌, length, slice_get, Some, reverse, vec_capacity, refl, sym, ◌∙◌, ap, subst, arith}
use Rattle.std.proofs.lemmas.List.{length-map}
use Rattle.std.proofs.lemmas.Option.{slice_get_within}
use Rattle.disk_lane.proofs.LaneLemmas.{some_same, disk_there}
use Rattle.disk_trait.specs.View.{View}
use Rattle.kept_cell.specs.KeptCells.{KeptCell}
use Rattle.partition_cell.specs.Made.{IsMakingFault}
use Rattle.partition_cell.specs.declared.refusal.CellRefusal.{CellRefusal}
use Rattle.open_lanes.specs.Opened.{lanes_of_kept, IsFirstKept, MakesLane, MakesLanes, IsMakingRefusal}
use Rattle.open_lanes.proofs.PlacesLemmas.{mapped_from}
use Rattle.open_lanes.proofs.WayLemmas.{IsPartWay, next_there, as_many_back, refused_there, each_back, all_begun}

-- a partition's cell was made from these disks
pub record IsMadeFrom {D : Type 0} (view : D → View) (partitions host partition : ℕ) (before : List D) (kept : KeptCell D) : Type 0 where
  pub first : IsFirstKept view host partition partitions kept
  pub event : MakesLane view partitions host partition before kept.cell.disks

module _ {D : Type 0} (view : D → View) (partitions host : ℕ) (old : List (List D)) where
  module _ (left : List (List D)) (kept : List (KeptCell D)) (way : IsPartWay (IsMadeFrom view partitions host) old left kept) where
    -- all are made
    module _ (none : length left ≡ 0) where
      -- in each lane the first store is made
      pub all_made : MakesLanes view partitions host old (lanes_of_kept kept)
      all_made =
          let all = all_begun (IsMadeFrom view partitions host) old left kept way none in
          record {
            as_many = length-map kept (λ each. each.cell.disks) ∙ all.0;
            each = λ p before after was is.
                let one = mapped_from (λ (each : KeptCell D). each.cell.disks) kept p after is in
                subst (MakesLane view partitions host p before) one.2 (all.1 p before one.0 was one.1).event;
          }

      -- and its cell has it
      pub each_made : (p : ℕ) (one : KeptCell D) → slice_get kept p ≡ Some one → IsFirstKept view host p partitions one
      each_made p one is =
          let all = all_begun (IsMadeFrom view partitions host) old left kept way none in
          let there = disk_there old p (let within = slice_get_within kept p one is in omega (arith, within, all.0)) in
          (all.1 p there.0 one there.1 is).first

    -- the partition after the cells was refused, and all lanes are back
    module _ (rest : List (List D)) (before : List D) (next : left ≡ rest ++ before ∷ []) (new : List (List D)) (after : List D) (back : new ≡ lanes_of_kept kept ++ after ∷ reverse rest) where
      -- in each lane the first store is made, or it is as it was
      pub made_back : MakesLane view partitions host (length kept) before after → MakesLanes view partitions host old new
      made_back makes = record {
        as_many = as_many_back (IsMadeFrom view partitions host) old left rest kept way before next new after back;
        each = each_back (IsMadeFrom view partitions host) old left rest kept way before next new after back (MakesLane view partitions host) (λ p b one lt made. made.event) makes (λ p b gt was. inl refl);
      }

      -- and the refused one is at its place, with the cause
      pub making_refused : (refusal : CellRefusal) → IsMakingFault view host before after refusal → IsMakingRefusal view host old new (length kept) refusal
      making_refused refusal fault = inr (
        before,
        after,
        next_there (IsMadeFrom view partitions host) old left rest kept way before next,
        refused_there (IsMadeFrom view partitions host) old left rest kept way before next new after back,
        fault,
      )
