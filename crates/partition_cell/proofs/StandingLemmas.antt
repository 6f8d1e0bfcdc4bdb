-- Where the current store of a cell stands among the files of its lane.
use Rattle.std.proofs.Common.{◌≡◌, ◌≢◌, ◌⊎◌, inl, inr, ⊎_elim, ℕ, ◌<◌, ◌≤◌, List, length, refl, sym, ◌∙◌, subst, arith, slice_get, Some}
use Rattle.std.proofs.lemmas.Bool.{cases_eq}
use Rattle.cache_model.specs.Change.{Change}
use Rattle.disk_trait.specs.View.{View}
use Rattle.disk_lane.specs.Lanes.{LaneImage, IsLaneImage}
use Rattle.disk_lane.proofs.LaneLemmas.{disk_there}
use Rattle.file_kinds.specs.Kinds.{PartitionNumber, MayCount}
use Rattle.file_kinds.specs.Order.{IsOrdered, IsRecorded, AreOfKind}
use Rattle.file_kinds.proofs.KindLemmas.{sealed_shows}
use Rattle.file_kinds.proofs.SurviveLemmas.{lane_fits}
use Rattle.seal_gate.specs.Seal.{IsSealed}
use Rattle.slot_board.specs.declared.board.Board.{Board}
use Rattle.slot_board.specs.declared.board.SlotKind.{SlotKind}
use Rattle.slot_board.specs.declared.board.SlotKind.TheVariants.{Empty, Blank, Stale, Doubt, Current, Unknown}
use Rattle.slot_board.specs.Slots.{slot_at, hosts_of, told_by}
use Rattle.store_journal.specs.Created.{IsUnsealed}
use Rattle.store_journal.specs.Stands.{version_in}
use Rattle.partition_cell.specs.Cells.{Cell, ByHost, IsKept, IsSoundCell, list_of, flight_of}
use Rattle.partition_cell.specs.Standing.{IsCurrentIn, IsLone}
use Rattle.partition_cell.proofs.MakeLemmas.{free_counts}

-- the owner is recorded
pub owner_recorded : (board : Board) (owner file : ℕ) → IsOrdered board owner file → ByHost board → IsRecorded board owner
owner_recorded board owner file ordered by_host = record {
  there = ordered.there;
  known = λ f le unknown. let wrong = by_host owner f file le ordered.one_of_two unknown in let is = ordered.current in cc;
}

-- what may count, and is neither current nor in doubt, is stale
stale_left : (kind : SlotKind) → MayCount kind → kind ≢ Current → kind ≢ Doubt → kind ≡ Stale
stale_left Empty may current doubt = absurd may
stale_left Blank may current doubt = absurd may
stale_left Stale may current doubt = refl
stale_left Doubt may current doubt = absurd (doubt refl)
stale_left Current may current doubt = absurd (current refl)
stale_left Unknown may current doubt = absurd may

module _ {D : Type 0} (view : D → View) (cell : Cell D) (kept : IsKept view cell) (ms : LaneImage) (is : IsLaneImage view cell.disks ms) where
  shown : (h f : ℕ) → h < hosts_of cell.board → f ≤ 1 → (slot_at cell.board h f).kind ≢ Unknown → IsSealed (ms h f)
      → MayCount (slot_at cell.board h f).kind × (version_in (ms h f) ≡ (slot_at cell.board h f).version)
  shown h f lt le known sealed = sealed_shows cell.number (list_of cell) (flight_of cell) (slot_at cell.board h f).kind (slot_at cell.board h f).version (ms h f)
      (lane_fits view cell.disks cell.board cell.number (list_of cell) (flight_of cell) kept.hosts kept.kinds ms is h f lt le) sealed known

  -- no version is above the greatest that was told
  pub told_most : (h f : ℕ) → IsRecorded cell.board h → f ≤ 1 → IsSealed (ms h f) → version_in (ms h f) ≤ told_by cell.board
  told_most h f recorded le sealed =
      let here = shown h f recorded.there le (recorded.known f le) sealed in
      let most = kept.ordered.told h f le here.0 in
      omega (arith, most, here.1)

  -- beside a lone store no file is sealed
  pub lone_unsealed : IsLone cell → (h f : ℕ) → IsRecorded cell.board h → f ≤ 1 → ((h ≡ cell.owner) × (f ≡ cell.store.file) → ⊥) → IsUnsealed (ms h f)
  lone_unsealed lone h f recorded le other sealed =
      let here = shown h f recorded.there le (recorded.known f le) sealed in
      free_counts (slot_at cell.board h f).kind (lone.free h f recorded le other) here.0

  module _ (sound : IsSoundCell cell) (sealed : IsSealed (ms cell.owner cell.store.file)) where
    -- another file is stale
    lesser : (h f : ℕ) → IsRecorded cell.board h → f ≤ 1 → IsSealed (ms h f) → ((h ≡ cell.owner) × (f ≡ cell.store.file) → ⊥) → version_in (ms h f) < version_in (ms cell.owner cell.store.file)
    lesser h f recorded le other_sealed other =
        let here = shown h f recorded.there le (recorded.known f le) other_sealed in
        let stale = stale_left (slot_at cell.board h f).kind here.0 (λ current. other (kept.ordered.alone h f le current)) (sound.no_doubt h f le) in
        let less = kept.ordered.stale h f le stale in
        let owner = owner_recorded cell.board cell.owner cell.store.file kept.ordered kept.by_host in
        let there = shown cell.owner cell.store.file owner.there kept.ordered.one_of_two (owner.known cell.store.file kept.ordered.one_of_two) sealed in
        omega (arith, less, here.1, there.1)

    greatest : (h f : ℕ) → IsRecorded cell.board h → f ≤ 1 → IsSealed (ms h f) → ((h ≡ cell.owner) × (f ≡ cell.store.file)) ⊎ (version_in (ms h f) < version_in (ms cell.owner cell.store.file))
    greatest h f recorded le other = ⊎_elim
        (λ host. ⊎_elim (λ file. inl (host, file)) (λ ne. inr (lesser h f recorded le other (λ both. ne both.1))) (cases_eq f cell.store.file))
        (λ ne. inr (lesser h f recorded le other (λ both. ne both.0)))
        (cases_eq h cell.owner)

  -- the current store has the greatest version
  pub is_current : IsSoundCell cell → IsCurrentIn cell ms
  is_current sound =
      let at = disk_there cell.disks cell.owner (let there = kept.ordered.there in let many = kept.hosts in omega (arith, there, many)) in
      let rests = kept.rests sound.none at.0 at.1 in
      let text = rests.at_rest (ms cell.owner) (is cell.owner at.0 at.1) in
      record { one_of_two = kept.ordered.one_of_two; groups = rests.groups; kept = text; greatest = greatest sound text.text.sealed }
