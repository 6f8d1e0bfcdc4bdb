-- The first store of a partition, in the files of its host.
use Rattle.std.proofs.Common.{◌≡◌, ℕ, ◌≤◌, List, [], ◌∷◌, length, refl, sym, ◌∙◌, ap, subst, arith}
use Rattle.cache_key.specs.declared.request.Mutation.{Mutation}
use Rattle.disk_lane.specs.Lanes.{LaneImage, IsLaneImage}
use Rattle.disk_trait.specs.View.{View}
use Rattle.file_kinds.specs.Order.{IsRecorded}
use Rattle.record_form.specs.GroupText.{record_head, group_text}
use Rattle.record_form.specs.declared.header.Header.{Header}
use Rattle.store_ident.specs.declared.ident.StoreId.{StoreId}
use Rattle.store_journal.specs.Created.{IsUnsealed}
use Rattle.store_journal.specs.Text.{IsText, end_of}
use Rattle.kept_cell.specs.KeptCells.{KeptCell}
use Rattle.partition_cell.specs.Cells.{Cell, caches_of, IsSoundCell}
use Rattle.partition_cell.specs.Made.{first_header, IsFirst}
use Rattle.partition_cell.specs.Standing.{IsCurrentIn, IsLone}
use Rattle.open_lanes.specs.Opened.{HasFirst, HasNewTrail, IsFirstKept}

-- the records begin after the header
past_header : (groups : List (List Mutation)) → 41 ≤ end_of groups
past_header [] = omega arith
past_header (group ∷ groups) = let before = past_header groups in omega (arith, before)

-- a store that ends with its header has no group
no_group : (groups : List (List Mutation)) → end_of groups ≡ 41 → groups ≡ []
no_group [] ends = refl
no_group (group ∷ groups) ends = let before = past_header groups in absurd (omega (arith, before, ends))

-- a new cell's host has the first store, and no other
pub has_first : {D : Type 0} (cell : Cell D) (host partition partitions : ℕ) (ms : LaneImage) → IsFirst cell host partition partitions → IsCurrentIn cell ms
    → ((h f : ℕ) → IsRecorded cell.board h → f ≤ 1 → ((h ≡ cell.owner) × (f ≡ cell.store.file) → ⊥) → IsUnsealed (ms h f)) → IsRecorded cell.board cell.owner → HasFirst host partition partitions ms
has_first cell host partition partitions ms first current others recorded =
    let groups = current.groups in
    let none : groups ≡ [] = no_group groups (sym current.kept.gate ∙ first.end) in
    let header : record { id = cell.store.id; partitions = cell.number.partitions } ≡ first_header partition partitions host =
    ap (λ (id : StoreId). record { id = id; partitions = cell.number.partitions }) first.id ∙ ap (λ (number : _). record { id = (first_header partition partitions host).id; partitions = number.partitions }) first.number in
    record {
      text =
          subst (λ (gs : List (List Mutation)). IsText (first_header partition partitions host) gs (ms host 0)) none
          (subst (λ (h : Header). IsText h groups (ms host 0)) header
          (subst (λ (f : ℕ). IsText (record { id = cell.store.id; partitions = cell.number.partitions }) groups (ms host f)) first.file
          (subst (λ (h : ℕ). IsText (record { id = cell.store.id; partitions = cell.number.partitions }) groups (ms h cell.store.file)) first.owner current.kept.text)));
      other = subst (λ (h : ℕ). IsUnsealed (ms h 1)) first.owner (others cell.owner 1 recorded (omega arith) (λ both. omega (arith, both.1, first.file)));
    }

-- A new cell with a new trail; the laws of the cell say what its files hold.
pub first_kept : {D : Type 0} (view : D → View) (host partition partitions : ℕ) (kept : KeptCell D) (cell seen : Cell D) → kept.cell ≡ cell → seen ≡ kept.cell → IsFirst cell host partition partitions → IsLone cell
    → (kept.trail.base ≡ caches_of cell) × (kept.trail.entries ≡ [])
    → IsRecorded seen.board seen.owner
    → (IsSoundCell seen → (ms : LaneImage) → IsLaneImage view seen.disks ms → IsCurrentIn seen ms)
    → (IsLone seen → (ms : LaneImage) → IsLaneImage view seen.disks ms → (h f : ℕ) → IsRecorded seen.board h → f ≤ 1 → ((h ≡ seen.owner) × (f ≡ seen.store.file) → ⊥) → IsUnsealed (ms h f))
    → IsFirstKept view host partition partitions kept
first_kept {D} view host partition partitions kept cell seen is same first lone trail recorded current others =
    let here = sym is in
    let now : IsFirst kept.cell host partition partitions = subst (λ (x : Cell D). IsFirst x host partition partitions) here first in
    let alone : IsLone kept.cell = subst (λ (x : Cell D). IsLone x) here lone in
    let there : IsFirst seen host partition partitions = subst (λ (x : Cell D). IsFirst x host partition partitions) (sym same) now in
    let apart : IsLone seen = subst (λ (x : Cell D). IsLone x) (sym same) alone in
    record {
      first = now;
      lone = alone;
      trail = record { base = trail.0 ∙ ap caches_of here; none = trail.1 };
      stored = λ ms image.
          let image_seen : IsLaneImage view seen.disks ms = subst (λ (x : Cell D). IsLaneImage view x.disks ms) (sym same) image in
          has_first seen host partition partitions ms there (current there.sound ms image_seen) (others apart ms image_seen) recorded;
    }
