-- A group is added to a sound cell's store.
use Rattle.std.proofs.Common.{◌≡◌, ◌≢◌, inl, inr, ⊎_elim, ℕ, ◌≤◌, List, [], ◌∷◌, ◌++◌, refl, sym, ◌∙◌, ap, subst, slice_get, slice_set, Some, None, Option, length-set}
use Rattle.std.specs.List.{flat_map}
use Rattle.std.proofs.lemmas.List.{map-append}
use Rattle.std.proofs.lemmas.Grind.{flat_map-append}
use Rattle.std.proofs.lemmas.Bool.{cases_eq}
use Rattle.cache_key.specs.declared.request.Mutation.{Mutation}
use Rattle.cache_model.specs.Change.{Change, change_of, changes_of, reset}
use Rattle.cache_model.specs.Contents.{SameContents}
use Rattle.disk_trait.specs.View.{View}
use Rattle.disk_trait.specs.Calls.{Moved}
use Rattle.disk_trait.specs.Moments.{Now, After, Throughout, Onward}
use Rattle.disk_trait.proofs.Runs.{reached, holds_now}
use Rattle.record_form.specs.declared.header.Header.{Header}
use Rattle.store_ident.specs.declared.ident.StoreId.{StoreId}
use Rattle.slot_board.specs.declared.board.SlotKind.{SlotKind}
use Rattle.slot_board.specs.Slots.{slot_at}
use Rattle.store_journal.specs.AtRest.{AtRest, OldOrNew}
use Rattle.store_journal.specs.Text.{IsText}
use Rattle.store_journal.specs.declared.store.Store.{Store}
use Rattle.disk_lane.specs.Lanes.{LaneEvent}
use Rattle.file_kinds.specs.Kinds.{PartitionNumber, IsListOr, IsGood, IsOfKind}
use Rattle.partition_cell.specs.Cells.{Cell, caches_of, list_of, in_flight, IsResting, IsKept, IsSoundCell}
use Rattle.file_kinds.specs.Order.{IsOrdered, HostIsOfKind, AreOfKind, SurvivesIn}
use Rattle.cache_model.proofs.SameLemmas.{same_joined, same_after_more}
use Rattle.partition_cell.proofs.ListLemmas.{reset_more}
use Rattle.partition_map.specs.After.{AgreesWith}
use Rattle.partition_map.specs.Extents.{Maps, caches_in}
use Rattle.file_kinds.proofs.KindLemmas.{fits_more, fits_other}
use Rattle.partition_cell.proofs.EventLemmas.{kinds_event, all_fit, host_moved, disk_now}

-- a group of one more
pub one_more : (groups : List (List Mutation)) (mutation : Mutation) (changes : List Change) → SameContents (changes_of (flat_map (λ group. group) groups)) changes
    → SameContents (changes_of (flat_map (λ group. group) (groups ++ (mutation ∷ []) ∷ []))) (changes ++ change_of mutation ∷ [])
one_more groups mutation changes same =
    let all : flat_map (λ group. group) (groups ++ (mutation ∷ []) ∷ []) ≡ flat_map (λ group. group) groups ++ mutation ∷ [] = flat_map-append (λ group. group) groups ((mutation ∷ []) ∷ []) in
    let pushed : changes_of (flat_map (λ group. group) (groups ++ (mutation ∷ []) ∷ [])) ≡ changes_of (flat_map (λ group. group) groups) ++ change_of mutation ∷ [] =
    ap changes_of all ∙ map-append change_of (flat_map (λ group. group) groups) (mutation ∷ []) in
    subst (λ (l : List Change). SameContents l (changes ++ change_of mutation ∷ [])) (sym pushed) (same_after_more (changes_of (flat_map (λ group. group) groups)) changes (change_of mutation ∷ []) same)

-- a text of a store is a good file
pub text_good : (number : PartitionNumber) (changes flight : List Change) (version : ℕ) (header : Header) (groups : List (List Mutation)) (bytes : List ℕ) → IsText header groups bytes
    → header.id.partition ≡ number.partition → header.partitions ≡ number.partitions → header.id.version ≡ version → IsListOr changes flight (changes_of (flat_map (λ group. group) groups)) → IsGood number changes flight version bytes
text_good number changes flight version header groups bytes text of_partition of_partitions as_told contents = record {
  whole = record {
    header = header;
    mutations = flat_map (λ group. group) groups;
    store = record { groups = groups; joined = refl; text = text };
    of_partition = of_partition;
    of_partitions = of_partitions;
    as_told = as_told;
  };
  contents = contents;
}

module _ {D : Type 0} (view : D → View) (cell : Cell D) (kept : IsKept view cell) (sound : IsSoundCell cell) (still : cell.moving ≡ None) (mutation : Mutation) (disk : D) (was : slice_get cell.disks cell.owner ≡ Some disk) (now : D) where
  pub resting : IsResting (view disk) cell.number cell.store (list_of cell)
  resting = kept.rests sound.none disk was

  abbrev pub header : Header
  header = record { id = cell.store.id; partitions = cell.number.partitions }

  abbrev slot_kind : ℕ → ℕ → SlotKind
  slot_kind h f = (slot_at cell.board h f).kind

  -- what held before, with nothing in flight
  had : AreOfKind view cell.disks cell.board cell.number (list_of cell) []
  had = subst (λ (o : Option Mutation). AreOfKind view cell.disks cell.board cell.number (list_of cell) (in_flight o)) sound.none kept.kinds

  current_fits : (changes flight : List Change) (bytes : List ℕ) → IsGood cell.number changes flight cell.store.id.version bytes
      → IsOfKind cell.number changes flight (slot_at cell.board cell.owner cell.store.file).kind (slot_at cell.board cell.owner cell.store.file).version bytes
  current_fits changes flight bytes good =
      subst (λ (k : SlotKind). IsOfKind cell.number changes flight k (slot_at cell.board cell.owner cell.store.file).version bytes) (sym kept.ordered.current)
      (subst (λ (v : ℕ). IsGood cell.number changes flight v bytes) (sym kept.version) good)

  old_good : (flight : List Change) (bytes : List ℕ) → IsText header resting.groups bytes → IsGood cell.number (list_of cell) flight cell.store.id.version bytes
  old_good flight bytes text = text_good cell.number (list_of cell) flight cell.store.id.version header resting.groups bytes text kept.of_partition refl refl (inl resting.contents)

  others_more : (h : ℕ) (other : D) → h ≢ cell.owner → slice_get cell.disks h ≡ Some other → Now (view other) (HostIsOfKind cell.board cell.number (list_of cell) (change_of mutation ∷ []) h)
  others_more h other ne at m is f le = fits_more cell.number (list_of cell) (change_of mutation ∷ []) (slot_kind h f) (slot_at cell.board h f).version (m f) (had h other at m is f le)

  module _ (all : Throughout (view disk) (view now) (After (view disk) (Moved cell.store.file (λ old new. OldOrNew header resting.groups (mutation ∷ []) new)))) where
    -- at every moment, with the group in flight
    in_moments : Throughout (view disk) (view now) (HostIsOfKind cell.board cell.number (list_of cell) (change_of mutation ∷ []) cell.owner)
    in_moments =
        reached (view disk) (view now) (HostIsOfKind cell.board cell.number (list_of cell) [] cell.owner) (HostIsOfKind cell.board cell.number (list_of cell) (change_of mutation ∷ []) cell.owner)
        (Moved cell.store.file (λ old new. OldOrNew header resting.groups (mutation ∷ []) new)) (had cell.owner disk was) all
        (λ o n kinds moved.
        host_moved cell.board cell.board cell.number (list_of cell) [] (list_of cell) (change_of mutation ∷ []) cell.owner cell.store.file (λ old new. OldOrNew header resting.groups (mutation ∷ []) new) o n kinds moved
        (λ le old new fit step. current_fits (list_of cell) (change_of mutation ∷ []) new (⊎_elim
        (old_good (change_of mutation ∷ []) new)
        (λ text. text_good cell.number (list_of cell) (change_of mutation ∷ []) cell.store.id.version header (resting.groups ++ (mutation ∷ []) ∷ []) new text kept.of_partition refl refl
        (inr (one_more resting.groups mutation (list_of cell) resting.contents)))
        step))
        (λ f bytes le ne fit. fits_more cell.number (list_of cell) (change_of mutation ∷ []) (slot_kind cell.owner f) (slot_at cell.board cell.owner f).version bytes fit))

    pub committing : Onward (view disk) (view now) → LaneEvent view cell.owner cell.disks (slice_set cell.disks cell.owner now) (SurvivesIn cell.board cell.owner cell.number (list_of cell) (change_of mutation ∷ []))
    committing on = kinds_event view cell.disks cell.owner disk now was cell.board cell.number (list_of cell) (change_of mutation ∷ []) others_more cell.owner cell.store.file kept.ordered kept.hosts in_moments on

    -- refused: the group is in flight
    pub kept_in_flight : (store : Store) → store ≡ cell.store → (flight : Option Mutation) → flight ≡ Some mutation → IsKept view (record {
      disks = slice_set cell.disks cell.owner now;
      board = cell.board;
      number = cell.number;
      owner = cell.owner;
      store = store;
      maps = cell.maps;
      flight = flight;
      moving = cell.moving;
    })
    kept_in_flight store same flight is = record {
      hosts = length-set cell.disks cell.owner now ∙ kept.hosts;
      least = kept.least;
      most = kept.most;
      by_host = kept.by_host;
      ordered = subst (λ (s : Store). IsOrdered cell.board cell.owner s.file) (sym same) kept.ordered;
      version = subst (λ (s : Store). (slot_at cell.board cell.owner s.file).version ≡ s.id.version) (sym same) kept.version;
      of_partition = ap (λ (s : Store). s.id.partition) same ∙ kept.of_partition;
      kinds = subst (λ (o : Option Mutation). AreOfKind view (slice_set cell.disks cell.owner now) cell.board cell.number (list_of cell) (in_flight o)) (sym is)
          (all_fit view cell.disks cell.owner disk now was cell.board cell.number (list_of cell) (change_of mutation ∷ []) others_more (holds_now (view disk) (view now) (HostIsOfKind cell.board cell.number (list_of cell) (change_of mutation ∷ []) cell.owner) in_moments));
      changes = kept.changes;
      agrees = kept.agrees;
      rests = λ none. let wrong : Some mutation ≡ None = sym is ∙ none in absurd (cc wrong);
      moves = λ moving at. let wrong : Some moving ≡ None = sym at ∙ still in absurd (cc wrong);
    }

    -- done
    module _ (store : Store) (file : store.file ≡ cell.store.file) (id : store.id ≡ cell.store.id) (rests : AtRest (view now) store header (resting.groups ++ (mutation ∷ []) ∷ []))
        (maps : Maps) (later : AgreesWith (kept.changes ++ change_of mutation ∷ []) maps) where
      abbrev longer : List Change
      longer = reset (caches_in maps.extents) ∷ []

      -- the new contents are the old ones and the mutation
      joined : SameContents (changes_of (flat_map (λ group. group) (resting.groups ++ (mutation ∷ []) ∷ []))) longer
      joined =
          same_joined (changes_of (flat_map (λ group. group) (resting.groups ++ (mutation ∷ []) ∷ []))) (list_of cell ++ change_of mutation ∷ []) longer
          (one_more resting.groups mutation (list_of cell) resting.contents)
          (reset_more kept.changes (caches_of cell) (caches_in maps.extents) (change_of mutation) kept.agrees.contents later.contents)

      sure : (h f : ℕ) (flight : List Change) (bytes : List ℕ) → f ≤ 1 → ((h ≡ cell.owner) × (f ≡ cell.store.file) → ⊥) → IsOfKind cell.number (list_of cell) flight (slot_kind h f) (slot_at cell.board h f).version bytes → IsOfKind cell.number longer [] (slot_kind h f) (slot_at cell.board h f).version bytes
      sure h f flight bytes le apart kinds =
          fits_other cell.number (list_of cell) flight longer [] (slot_kind h f) (slot_at cell.board h f).version bytes (sound.no_doubt h f le) (λ is. apart (kept.ordered.alone h f le is)) kinds

      here : Now (view now) (HostIsOfKind cell.board cell.number longer [] cell.owner)
      here m is f le = ⊎_elim
          (λ e.
          let at = rests m is in
          let text : IsText header (resting.groups ++ (mutation ∷ []) ∷ []) (m cell.store.file) = subst (λ (k : ℕ). IsText header (resting.groups ++ (mutation ∷ []) ∷ []) (m k)) file at.text in
          let good = text_good cell.number longer [] cell.store.id.version header (resting.groups ++ (mutation ∷ []) ∷ []) (m cell.store.file) text kept.of_partition refl refl (inl joined) in
          subst (λ (j : ℕ). IsOfKind cell.number longer [] (slot_at cell.board cell.owner j).kind (slot_at cell.board cell.owner j).version (m j)) (sym e) (current_fits longer [] (m cell.store.file) good))
          (λ ne. sure cell.owner f (change_of mutation ∷ []) (m f) le (λ same. ne same.1) (holds_now (view disk) (view now) (HostIsOfKind cell.board cell.number (list_of cell) (change_of mutation ∷ []) cell.owner) in_moments m is f le))
          (cases_eq f cell.store.file)

      pub kept_longer : (flight : Option Mutation) → flight ≡ None → IsKept view (record {
        disks = slice_set cell.disks cell.owner now;
        board = cell.board;
        number = cell.number;
        owner = cell.owner;
        store = store;
        maps = maps;
        flight = flight;
        moving = cell.moving;
      })
      kept_longer flight none = record {
        hosts = length-set cell.disks cell.owner now ∙ kept.hosts;
        least = kept.least;
        most = kept.most;
        by_host = kept.by_host;
        ordered = subst (λ (k : ℕ). IsOrdered cell.board cell.owner k) (sym file) kept.ordered;
        version = ap (λ (k : ℕ). (slot_at cell.board cell.owner k).version) file ∙ kept.version ∙ sym (ap (λ (i : StoreId). i.version) id);
        of_partition = ap (λ (i : StoreId). i.partition) id ∙ kept.of_partition;
        kinds = subst (λ (o : Option Mutation). AreOfKind view (slice_set cell.disks cell.owner now) cell.board cell.number longer (in_flight o)) (sym none)
            (all_fit view cell.disks cell.owner disk now was cell.board cell.number longer []
            (λ h other ne at m is f le. sure h f [] (m f) le (λ same. ne same.0) (had h other at m is f le)) here);
        changes = kept.changes ++ change_of mutation ∷ [];
        agrees = later;
        rests = λ _ last at.
            let same : now ≡ last = disk_now view cell.disks cell.owner disk now was last at in
            let again : record { id = store.id; partitions = cell.number.partitions } ≡ header = ap (λ (i : StoreId). record { id = i; partitions = cell.number.partitions }) id in
            record {
              groups = resting.groups ++ (mutation ∷ []) ∷ [];
              at_rest = subst (λ (d : D). AtRest (view d) store (record { id = store.id; partitions = cell.number.partitions }) (resting.groups ++ (mutation ∷ []) ∷ [])) same
                  (subst (λ (h : Header). AtRest (view now) store h (resting.groups ++ (mutation ∷ []) ∷ [])) (sym again) rests);
              contents = joined;
            };
        moves = λ moving is. let wrong : Some moving ≡ None = sym is ∙ still in absurd (cc wrong);
      }
