-- What the files of an open cluster hold.
use Rattle.std.proofs.Common.{◌≡◌, ◌≢◌, ◌⊎◌, inl, inr, ⊎_elim, ℕ, ◌<◌, ◌≤◌, zero, suc, arith, List, [], ◌∷◌, ◌++◌, length, refl, sym, ◌∙◌, ap, subst, Some, slice_get}
use Rattle.std.specs.Prelude.{IsTrue}
use Rattle.cache_model.specs.Change.{Change, changes_of}
use Rattle.cache_model.specs.Contents.{SameContents}
use Rattle.cache_model.proofs.SameLemmas.{same_joined, same_after_more}
use Rattle.disk_lane.specs.Lanes.{LaneImage, IsLaneImage}
use Rattle.disk_trait.specs.View.{Image, View}
use Rattle.file_kinds.specs.Kinds.{PartitionNumber, IsVersion}
use Rattle.file_kinds.specs.Order.{IsRecorded, AreRecorded, SurvivesIn}
use Rattle.newest_store.specs.Newest.{files_of, IsHeaded, IsNewest}
use Rattle.newest_store.proofs.NewestLemmas.{identified_is_headed}
use Rattle.partition_cell.specs.Cells.{Cell, caches_of, list_of, flight_of, IsSoundCell}
use Rattle.partition_cell.specs.Standing.{IsCurrentIn, IsLone}
use Rattle.partition_cell.proofs.ListLemmas.{reset_same}
use Rattle.seal_gate.specs.Seal.{IsSealed}
use Rattle.slot_board.specs.declared.board.Board.{Board}
use Rattle.slot_board.specs.Slots.{slot_at, told_by}
use Rattle.store_ident.specs.declared.ident.StoreId.{StoreId}
use Rattle.store_journal.specs.AtRest.{IsKeptIn}
use Rattle.store_journal.specs.Created.{IsUnsealed}
use Rattle.store_journal.specs.Stands.{version_in, StandsFor}
use Rattle.store_journal.specs.Text.{IsText}
use Rattle.store_journal.specs.declared.store.Store.{Store}
use Rattle.record_form.specs.declared.header.Header.{Header}
use Rattle.cluster_commands.specs.State.{OpenCluster, known_of, store_in}
use Rattle.cluster_commands.specs.OnDisk.{lane_view, disks_in, IsClusterOf, IsServing, IsSurely, HoldsKnown, FilesHold}
use Rattle.cluster_commands.specs.declared.cluster.Opened.{Opened}

-- the one host
only_zero : (k h : ℕ) → slice_get (0 ∷ []) k ≡ Some h → (k ≡ 0) × (h ≡ 0)
only_zero zero h is = (refl, (let same : h ≡ 0 = cc in same))
only_zero (suc k) h is = absurd cc

alone_recorded : (board : Board) (owner : ℕ) → owner ≡ 0 → IsRecorded board owner → AreRecorded board owner (0 ∷ [])
alone_recorded board owner zero_is recorded = record {
  recorded = λ k h is. subst (IsRecorded board) (zero_is ∙ sym (only_zero k h is).1) recorded;
  once = λ k j h one two. (only_zero k h one).0 ∙ sym (only_zero j h two).0;
  with_owner = (0, ap Some (sym zero_is));
}

-- the one disk
lane_image : {D : Type 0} (view : D → View) (disk : D) (m : Image) → (view disk).images m → IsLaneImage view (disk ∷ []) (λ h. m)
lane_image {D} view disk m image zero d is = let same : disk ≡ d = cc in subst (λ (x : D). (view x).images m) same image
lane_image view disk m image (suc h) d is = absurd cc

-- they stand for other changes that leave the same
pub stands_as : (files : List (List ℕ)) (changes others : List Change) → SameContents changes others → StandsFor files 0 1 changes → StandsFor files 0 1 others
stands_as files changes others same is = record {
  before = is.before;
  newest = is.newest;
  after = is.after;
  offset = is.offset;
  others_before = is.others_before;
  others_after = is.others_after;
  header = is.header;
  mutations = is.mutations;
  store = is.store;
  of_partition = is.of_partition;
  of_partitions = is.of_partitions;
  contents = same_joined (changes_of is.mutations) changes others is.contents same;
}

-- what the law of a cell says
pub record HasLaw {D : Type 0} (view : D → View) (cell : Cell D) : Type 0 where
  pub recorded : IsRecorded cell.board cell.owner
  pub survives : (ms : LaneImage) → IsLaneImage view cell.disks ms → SurvivesIn cell.board cell.owner cell.number (list_of cell) (flight_of cell) ms
  pub whole : (ms : LaneImage) → IsLaneImage view cell.disks ms → (h f : ℕ) → IsRecorded cell.board h → f ≤ 1 → IsSealed (ms h f) → IsVersion cell.number (slot_at cell.board h f).version (ms h f)
  pub most : (ms : LaneImage) → IsLaneImage view cell.disks ms → (h f : ℕ) → IsRecorded cell.board h → f ≤ 1 → IsSealed (ms h f) → version_in (ms h f) ≤ told_by cell.board
  pub current : IsSoundCell cell → (ms : LaneImage) → IsLaneImage view cell.disks ms → IsCurrentIn cell ms
  pub lone : IsLone cell → (ms : LaneImage) → IsLaneImage view cell.disks ms → (h f : ℕ) → IsRecorded cell.board h → f ≤ 1 → ((h ≡ cell.owner) × (f ≡ cell.store.file) → ⊥) → IsUnsealed (ms h f)

-- it is said of the same cell
pub law_at : {D : Type 0} (view : D → View) (seen cell : Cell D) → seen ≡ cell → HasLaw view seen → HasLaw view cell
law_at view seen cell same law = subst (HasLaw view) same law

module _ {D : Type 0} (view : D → View) (cell : Cell D) (cluster : OpenCluster) (disk : D)
    (file : cluster.file ≡ cell.store.file) (id : cluster.id ≡ cell.store.id) (end : cluster.end ≡ cell.store.end) (told : cluster.told ≡ told_by cell.board)
    (same : SameContents (list_of cell) cluster.changes) (flight : cluster.flight ≡ flight_of cell) (sound : IsTrue cluster.sound → IsSoundCell cell) (lone : IsTrue cluster.lone → IsLone cell)
    (number : cell.number ≡ record { partition = 0; partitions = 1 }) (owner : cell.owner ≡ 0) (recorded : IsRecorded cell.board cell.owner)
    (survives : (ms : LaneImage) → IsLaneImage view cell.disks ms → SurvivesIn cell.board cell.owner cell.number (list_of cell) (flight_of cell) ms)
    (whole : (ms : LaneImage) → IsLaneImage view cell.disks ms → (h f : ℕ) → IsRecorded cell.board h → f ≤ 1 → IsSealed (ms h f) → IsVersion cell.number (slot_at cell.board h f).version (ms h f))
    (most : (ms : LaneImage) → IsLaneImage view cell.disks ms → (h f : ℕ) → IsRecorded cell.board h → f ≤ 1 → IsSealed (ms h f) → version_in (ms h f) ≤ told_by cell.board)
    (one : cell.disks ≡ disk ∷ [])
    (current : IsSoundCell cell → (ms : LaneImage) → IsLaneImage view cell.disks ms → IsCurrentIn cell ms)
    (unsealed : IsLone cell → (ms : LaneImage) → IsLaneImage view cell.disks ms → (h f : ℕ) → IsRecorded cell.board h → f ≤ 1 → ((h ≡ cell.owner) × (f ≡ cell.store.file) → ⊥) → IsUnsealed (ms h f))
    (m : Image) (image : (view disk).images m) where
  abbrev ms : LaneImage
  ms = λ h. m

  is_image : IsLaneImage view cell.disks ms
  is_image = subst (λ (disks : List D). IsLaneImage view disks ms) (sym one) (lane_image view disk m image)

  zero_recorded : IsRecorded cell.board 0
  zero_recorded = subst (IsRecorded cell.board) owner recorded

  headed : (f : ℕ) → f ≤ 1 → IsHeaded (m f)
  headed f le = λ sealed.
      let is = whole ms is_image 0 f zero_recorded le sealed in
      identified_is_headed (m f) (Some is.header.id) (is.store.text.sealed, is.header, is.store.text.limits, is.store.text.named, refl) sealed

  below : (f : ℕ) → f ≤ 1 → IsSealed (m f) → version_in (m f) ≤ cluster.told
  below f le sealed = let least = most ms is_image 0 f zero_recorded le sealed in omega (arith, least, told)

  beside : IsTrue cluster.lone → (f : ℕ) → f ≤ 1 → f ≢ cluster.file → IsUnsealed (m f)
  beside so f le ne = unsealed (lone so) ms is_image 0 f zero_recorded le (λ same. ne (same.1 ∙ sym file))

  surely : IsTrue cluster.sound → IsSurely (known_of cluster) m
  surely so =
      let is = current (sound so) ms is_image in
      let header : record { id = cell.store.id; partitions = cell.number.partitions } ≡ record { id = cluster.id; partitions = 1 } =
      ap (λ (p : PartitionNumber). record { id = cell.store.id; partitions = p.partitions }) number ∙ ap (λ (i : StoreId). record { id = i; partitions = 1 }) (sym id) in
      record {
        newest = record {
          one_of_two = (let le = is.one_of_two in omega (arith, le, file));
          sealed = subst (λ (k : ℕ). IsSealed (m k)) (sym file) is.kept.text.sealed;
          greatest = λ f le ne sealed. ⊎_elim
              (λ both. absurd (ne (both.1 ∙ sym file)))
              (λ less. inl (subst (λ (k : ℕ). version_in (m f) < version_in (m k)) (sym file) less))
              (is.greatest 0 f zero_recorded le sealed);
        };
        groups = is.groups;
        text = subst (λ (k : ℕ). IsText (record { id = cluster.id; partitions = 1 }) is.groups (m k)) (sym file) (subst (λ (h : Header). IsText h is.groups (m cell.store.file)) header is.kept.text);
        gate = end ∙ is.kept.gate;
      }

  standing : StandsFor (files_of m) 0 1 cluster.changes ⊎ StandsFor (files_of m) 0 1 (cluster.changes ++ cluster.flight)
  standing =
      let both = subst (λ (p : PartitionNumber). StandsFor (files_of m) p.partition p.partitions (list_of cell) ⊎ StandsFor (files_of m) p.partition p.partitions (list_of cell ++ flight_of cell)) number
      (survives ms is_image (0 ∷ []) (alone_recorded cell.board cell.owner owner recorded)) in
      ⊎_elim
      (λ one. inl (stands_as (files_of m) (list_of cell) cluster.changes same one))
      (λ two. inr (subst (λ (fs : List Change). StandsFor (files_of m) 0 1 (cluster.changes ++ fs)) (sym flight)
      (stands_as (files_of m) (list_of cell ++ flight_of cell) (cluster.changes ++ flight_of cell) (same_after_more (list_of cell) cluster.changes (flight_of cell) same) two)))
      both

  pub held : HoldsKnown (known_of cluster) cluster.changes m ⊎ HoldsKnown (known_of cluster) (cluster.changes ++ cluster.flight) m
  held = ⊎_elim
      (λ first. inl (record { stands = first; headed = headed; most = below; lone = beside; sure = surely }))
      (λ two. inr (record { stands = two; headed = headed; most = below; lone = beside; sure = surely }))
      standing

-- so it is on the one disk of the lane
pub on_one : {D : Type 0} (view : D → View) (disks : List D) (P : View → Type 0) → length disks ≡ 1 → ((disk : D) → disks ≡ disk ∷ [] → P (view disk)) → P (lane_view view disks)
on_one view [] P one all = absurd (omega (arith, one))
on_one view (disk ∷ []) P one all = all disk refl
on_one view (disk ∷ other ∷ rest) P one all = absurd (omega (arith, one))
