-- Lanes whose newest store was loaded.
use Rattle.std.proofs.Common.{◌≡◌, inl, inr, ℕ, ◌<◌, ◌≤◌, List, [], ◌∷◌, ◌++◌, length, slice_get, Some, reverse, refl, sym, ◌∙◌, ap, subst, arith}
use Rattle.std.specs.Prelude.{Contains}
use Rattle.std.specs.List.{flat_map}
use Rattle.std.proofs.lemmas.List.{length-map}
use Rattle.disk_lane.proofs.LaneLemmas.{some_same}
use Rattle.disk_trait.specs.View.{View}
use Rattle.file_kinds.specs.Kinds.{PartitionNumber}
use Rattle.kept_cell.specs.KeptCells.{KeptCell}
use Rattle.newest_store.specs.Choice.{OnlyReadsLane}
use Rattle.newest_store.proofs.ChoiceLemmas.{none_so_far}
use Rattle.seal_gate.specs.Seal.{IsSettled}
use Rattle.partition_cell.specs.Cells.{Cell}
use Rattle.partition_cell.specs.Loaded.{IsLoadRefusal, IsLoadedCell, KeepsNewest, StandsThroughout, ErasesBesideNewest}
use Rattle.partition_cell.specs.declared.refusal.CellRefusal.{CellRefusal}
use Rattle.partition_cell.proofs.ThroughoutLemmas.{read_throughout}
use Rattle.open_lanes.specs.Opened.{lanes_of_kept, IsLoadedKept, KeepNewest, StandInAll, AreLoadedBefore, IsLoadingRefusal}
use Rattle.open_lanes.proofs.PlacesLemmas.{mapped_from}
use Rattle.open_lanes.proofs.WayLemmas.{IsPartWay, next_there, as_many_back, refused_there, each_back, all_begun}

-- what was erased beside the store that the cell has
pub erases_beside : {D : Type 0} (view : D → View) (hosts : List ℕ) (number : PartitionNumber) (old : List D) (cell : Cell D) → IsLoadedCell view hosts number old cell → cell.store.id.partition ≡ number.partition
    → ErasesBesideNewest view hosts number old cell.disks
erases_beside view hosts number old cell loaded of_partition = record {
  host = cell.owner;
  file = cell.store.file;
  erases = loaded.erases;
  headed = loaded.headed;
  newest = loaded.newest;
  whole = λ tell. (
    cell.store.id.version,
    record {
      header = record { id = cell.store.id; partitions = number.partitions };
      mutations = flat_map (λ group. group) loaded.groups;
      store = record { groups = loaded.groups; joined = refl; text = (loaded.read tell).text };
      of_partition = of_partition;
      of_partitions = refl;
      as_told = refl;
    },
  );
}

-- nothing was read of these disks
pub none_read : {D : Type 0} (view : D → View) (disks : List D) → OnlyReadsLane view disks disks
none_read view disks = (none_so_far view disks).reads

-- so the newest store is as it was
pub none_lost : {D : Type 0} (view : D → View) (hosts : List ℕ) (number : PartitionNumber) (disks : List D) → KeepsNewest view hosts number disks disks
none_lost view hosts number disks = inl (none_read view disks)

-- and the files stand for what they stood for
pub none_changed : {D : Type 0} (view : D → View) (hosts : List ℕ) (number : PartitionNumber) (disks : List D) → ((h : ℕ) → Contains hosts h → h < length disks)
    → ((h f : ℕ) (disk : D) → Contains hosts h → f ≤ 1 → slice_get disks h ≡ Some disk → IsSettled (view disk) f)
    → StandsThroughout view hosts number disks disks
none_changed view hosts number disks there settled = read_throughout view hosts disks disks there settled number (none_read view disks)

-- a partition's cell was loaded from these disks
pub record IsLoadedFrom {D : Type 0} (view : D → View) (hosts : List ℕ) (partitions partition : ℕ) (before : List D) (kept : KeptCell D) : Type 0 where
  pub loaded : IsLoadedKept view hosts (record { partition = partition; partitions = partitions }) before kept
  pub beside : ErasesBesideNewest view hosts (record { partition = partition; partitions = partitions }) before kept.cell.disks

module _ {D : Type 0} (view : D → View) (hosts : List ℕ) (partitions : ℕ) (old : List (List D)) where
  -- no lane has changed, so that the files of each stand for what they stood for
  pub none_stood : ((p : ℕ) (lane : List D) → slice_get old p ≡ Some lane → (h : ℕ) → Contains hosts h → h < length lane)
      → ((p h : ℕ) (lane : List D) (disk : D) → slice_get old p ≡ Some lane → Contains hosts h → slice_get lane h ≡ Some disk → (f : ℕ) → f ≤ 1 → IsSettled (view disk) f)
      → StandInAll view hosts partitions old old
  none_stood there settled p before after was is =
      subst (StandsThroughout view hosts (record { partition = p; partitions = partitions }) before) (some_same before after (slice_get old p) was is)
      (none_changed view hosts (record { partition = p; partitions = partitions }) before (there p before was) (λ h f disk listed le on. settled p h before disk was listed on f le))

  module _ (left : List (List D)) (kept : List (KeptCell D)) (way : IsPartWay (IsLoadedFrom view hosts partitions) old left kept) where
    -- all are loaded
    module _ (none : length left ≡ 0) where
      -- the newest store of each is as it was
      pub all_kept : KeepNewest view hosts partitions old (lanes_of_kept kept)
      all_kept =
          let all = all_begun (IsLoadedFrom view hosts partitions) old left kept way none in
          record {
            as_many = length-map kept (λ each. each.cell.disks) ∙ all.0;
            each = λ p before after was is.
                let one = mapped_from (λ (each : KeptCell D). each.cell.disks) kept p after is in
                subst (KeepsNewest view hosts (record { partition = p; partitions = partitions }) before) one.2 (inr (all.1 p before one.0 was one.1).beside);
          }

      -- and its cell has it
      pub each_loaded : (p : ℕ) (one : KeptCell D) → slice_get kept p ≡ Some one → (before : List D) → slice_get old p ≡ Some before → IsLoadedKept view hosts (record { partition = p; partitions = partitions }) before one
      each_loaded p one is before was = ((all_begun (IsLoadedFrom view hosts partitions) old left kept way none).1 p before one was is).loaded

    -- the partition after the cells was refused, and all lanes are back
    module _ (rest : List (List D)) (before : List D) (next : left ≡ rest ++ before ∷ []) (new : List (List D)) (after : List D) (back : new ≡ lanes_of_kept kept ++ after ∷ reverse rest) where
      -- the newest store of each is as it was
      pub kept_back : KeepsNewest view hosts (record { partition = length kept; partitions = partitions }) before after → KeepNewest view hosts partitions old new
      kept_back keeps = record {
        as_many = as_many_back (IsLoadedFrom view hosts partitions) old left rest kept way before next new after back;
        each = each_back (IsLoadedFrom view hosts partitions) old left rest kept way before next new after back (λ p. KeepsNewest view hosts (record { partition = p; partitions = partitions }))
            (λ p b one lt loaded. inr loaded.beside) keeps (λ p b gt was. none_lost view hosts (record { partition = p; partitions = partitions }) b);
      }

      -- the files of each stand for what they stood for
      pub stand_back : ((p : ℕ) (lane : List D) → slice_get old p ≡ Some lane → (h : ℕ) → Contains hosts h → h < length lane)
          → ((p h : ℕ) (lane : List D) (disk : D) → slice_get old p ≡ Some lane → Contains hosts h → slice_get lane h ≡ Some disk → (f : ℕ) → f ≤ 1 → IsSettled (view disk) f)
          → StandsThroughout view hosts (record { partition = length kept; partitions = partitions }) before after → StandInAll view hosts partitions old new
      stand_back there settled stands =
          each_back (IsLoadedFrom view hosts partitions) old left rest kept way before next new after back (λ p. StandsThroughout view hosts (record { partition = p; partitions = partitions }))
          (λ p b one lt loaded. loaded.loaded.loaded.stands) stands
          (λ p b gt was. none_changed view hosts (record { partition = p; partitions = partitions }) b (there p b was) (λ h f disk listed le on. settled p h b disk was listed on f le))

      -- those below the refused one were loaded
      pub loaded_before : AreLoadedBefore view hosts partitions (length kept) old new
      loaded_before =
          each_back (IsLoadedFrom view hosts partitions) old left rest kept way before next new after back (λ p b a. p < length kept → ErasesBesideNewest view hosts (record { partition = p; partitions = partitions }) b a)
          (λ p b one lt loaded below. loaded.beside) (λ below. absurd (omega (arith, below))) (λ p b gt was below. absurd (omega (arith, gt, below)))

      -- and the refused one is at its place, with the cause
      pub loading_refused : (refusal : CellRefusal) → IsLoadRefusal view hosts (record { partition = length kept; partitions = partitions }) before after refusal → IsLoadingRefusal view hosts partitions old new (length kept) refusal
      loading_refused refusal why = inr (
        before,
        after,
        next_there (IsLoadedFrom view hosts partitions) old left rest kept way before next,
        refused_there (IsLoadedFrom view hosts partitions) old left rest kept way before next new after back,
        why,
      )
