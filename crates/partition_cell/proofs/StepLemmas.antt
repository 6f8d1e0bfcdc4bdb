-- The steps of a build on one host's disk, and what the type keeps over them.
use Rattle.std.proofs.Common.{◌≡◌, ◌≢◌, ◌⊎◌, inl, inr, ⊎_elim, ℕ, ◌+◌, ◌^◌, ◌<◌, ◌≤◌, List, [], ◌∷◌, length, drop, Bool, true, false, refl, sym, ◌∙◌, ap, subst, arith, slice_get, slice_set, Some, None, Option, length-set, Result}
use Rattle.std.proofs.lemmas.Bool.{cases_eq}
use Rattle.std.proofs.lemmas.List.{length-drop}
use Rattle.cache_key.specs.declared.request.Mutation.{Mutation}
use Rattle.cache_model.specs.Caches.{Caches}
use Rattle.cache_model.specs.Change.{Change, reset}
use Rattle.partition_map.specs.Extents.{Maps, caches_in}
use Rattle.disk_trait.specs.View.{View, Tells}
use Rattle.disk_trait.specs.Calls.{Moved, Cause}
use Rattle.disk_trait.specs.Moments.{Now, After, Throughout, Onward}
use Rattle.disk_trait.proofs.Runs.{reached, holds_now, weakened}
use Rattle.disk_trait.specs.declared.DiskRefusal.{DiskRefusal}
use Rattle.record_form.specs.declared.header.Header.{Header}
use Rattle.seal_gate.specs.Seal.{Each}
use Rattle.slot_board.specs.declared.board.Board.{Board}
use Rattle.slot_board.specs.declared.board.Slot.{Slot}
use Rattle.slot_board.specs.declared.board.SlotKind.{SlotKind}
use Rattle.slot_board.specs.declared.board.SlotKind.TheVariants.{Blank, Stale, Doubt, Current, Unknown}
use Rattle.slot_board.specs.Slots.{slot_at, hosts_of, told_by, target_of, IsSet}
use Rattle.store_journal.specs.AtRest.{IsKeptIn}
use Rattle.store_journal.specs.Created.{IsBlank}
use Rattle.store_ident.specs.declared.ident.StoreId.{StoreId}
use Rattle.store_build.specs.declared.build.Build.{Build}
use Rattle.store_build.specs.Built.{IsBuilding, IsBuilt}
use Rattle.store_build.specs.OwnMemory.{OwnCause}
use Rattle.partition_cell.specs.declared.moving.Moving.{Moving}
use Rattle.disk_lane.specs.Lanes.{LaneImage, Beside, LaneEvent}
use Rattle.file_kinds.specs.Kinds.{PartitionNumber, IsOfKind}
use Rattle.file_kinds.specs.Freeing.{IsFreedFrom}
use Rattle.partition_cell.specs.Cells.{Cell, caches_of, list_of, flight_of, IsResting, IsTarget, target_header, IsKept, ByHost, Surviving, SurvivingBefore, SameList, NoneForgotten, BuildGoesOn, in_flight}
use Rattle.file_kinds.specs.Order.{IsOrdered, HostIsOfKind, IsRecorded, SurvivesIn}
use Rattle.file_kinds.proofs.KindLemmas.{freed_fits}
use Rattle.partition_cell.proofs.EventLemmas.{kinds_event, all_fit, host_moved, disk_now}
use Rattle.disk_lane.proofs.LaneLemmas.{written_other, some_same, events_joined}
use Rattle.partition_cell.proofs.BoardLemmas.{blank_is_not_current, blank_is_not_unknown, by_host_set, at_slot, ordered_free, target_sure, survives_on, known_joined}

-- a header by its parts
same_header : (header : Header) (id : StoreId) (partitions : ℕ) → id ≡ header.id → header.partitions ≡ partitions → header ≡ record { id = id; partitions = partitions }
same_header header id partitions e p =
    let first : header ≡ record { id = id; partitions = header.partitions } = ap (λ (i : StoreId). record { id = i; partitions = header.partitions }) (sym e) in
    let second : record { id = id; partitions = header.partitions } ≡ record { id = id; partitions = partitions } = ap (λ (n : ℕ). record { id = id; partitions = n }) p in
    first ∙ second

-- less is said of an event
pub event_weaker : {D : Type 0} (view : D → View) (host : ℕ) (a b : List D) (P Q : LaneImage → Type 0) → ((ms : LaneImage) → P ms → Q ms) → LaneEvent view host a b P → LaneEvent view host a b Q
event_weaker view host a b P Q less is = record {
  there = is.there;
  as_many = is.as_many;
  others = is.others;
  moments = λ before now was at. weakened (view before) (view now) (Beside view a host P) (Beside view a host Q) (is.moments before now was at) (λ m has ms same elsewhere. less ms (has ms same elsewhere));
  onward = is.onward;
}

-- the file that is chosen on a recorded host may be made free, and isn't the current one
pub chosen : (board : Board) (owner current host : ℕ) → IsOrdered board owner current → IsRecorded board host
    → (target_of (slot_at board host 0).kind (slot_at board host 1).kind ≤ 1)
    × ((slot_at board host (target_of (slot_at board host 0).kind (slot_at board host 1).kind)).kind ≢ Current)
    × ((slot_at board host (target_of (slot_at board host 0).kind (slot_at board host 1).kind)).kind ≢ Unknown)
chosen board owner current host ordered recorded =
    let once : (slot_at board host 0).kind ≡ Current → (slot_at board host 1).kind ≡ Current → ⊥ = λ first second.
    let a = ordered.alone host 0 (omega arith) first in
    let b = ordered.alone host 1 (omega arith) second in
    omega (arith, a.1, b.1) in
    let is = target_sure (slot_at board host 0).kind (slot_at board host 1).kind once in
    let file = target_of (slot_at board host 0).kind (slot_at board host 1).kind in (
      is.2,
      ⊎_elim
          (λ zero. subst (λ (f : ℕ). (slot_at board host f).kind ≢ Current) (sym zero) (is.0 zero))
          (λ ne. let one : file ≡ 1 = omega (arith, ne, is.2) in subst (λ (f : ℕ). (slot_at board host f).kind ≢ Current) (sym one) (is.1 one))
          (cases_eq file 0),
      recorded.known file is.2,
    )

module _ {D : Type 0} (view : D → View) (cell : Cell D) (kept : IsKept view cell) (host : ℕ) (disk : D) (was : slice_get cell.disks host ≡ Some disk) (now : D) where
  -- the facts of the other hosts, over a board that has changed on this one alone
  pub others_fit : (later : Board) → ((h f : ℕ) → f ≤ 1 → h ≢ host → slot_at later h f ≡ slot_at cell.board h f)
      → (h : ℕ) (other : D) → h ≢ host → slice_get cell.disks h ≡ Some other → Now (view other) (HostIsOfKind later cell.number (list_of cell) (flight_of cell) h)
  others_fit later same h other ne at m is f le =
      subst (λ (s : Slot). IsOfKind cell.number (list_of cell) (flight_of cell) s.kind s.version (m f)) (sym (same h f le ne)) (kept.kinds h other at m is f le)

  -- one file of the host has gone a step, and it isn't the current one
  module _ (file : ℕ) (step : List ℕ → List ℕ → Type 0) (all : Throughout (view disk) (view now) (After (view disk) (Moved file step))) (apart : (cell.owner ≡ host) × (cell.store.file ≡ file) → ⊥) where
    pub rests_on : cell.flight ≡ None → (last : D) → slice_get (slice_set cell.disks host now) cell.owner ≡ Some last → IsResting (view last) cell.number cell.store (list_of cell)
    rests_on none last at = ⊎_elim
        (λ e.
        let here : slice_get (slice_set cell.disks host now) host ≡ Some last = subst (λ (k : ℕ). slice_get (slice_set cell.disks host now) k ≡ Some last) e at in
        let same : now ≡ last = disk_now view cell.disks host disk now was last here in
        let r = kept.rests none disk (subst (λ (k : ℕ). slice_get cell.disks k ≡ Some disk) (sym e) was) in
        let ne : cell.store.file ≢ file = λ f. apart (e, f) in
        subst (λ (d : D). IsResting (view d) cell.number cell.store (list_of cell)) same (record {
          groups = r.groups;
          at_rest = λ m is.
              let from = holds_now (view disk) (view now) (After (view disk) (Moved file step)) all m is in
              subst (λ (l : List ℕ). IsKeptIn cell.store (record { id = cell.store.id; partitions = cell.number.partitions }) r.groups l) (sym (from.2.others cell.store.file ne)) (r.at_rest from.0 from.1);
          contents = r.contents;
        }))
        (λ ne. kept.rests none last (sym (written_other cell.disks host cell.owner now ne) ∙ at))
        (cases_eq cell.owner host)

    -- the type's facts, over a board that has changed on this host alone
    pub kept_on : (later : Board) → ((h f : ℕ) → f ≤ 1 → h ≢ host → slot_at later h f ≡ slot_at cell.board h f) → ByHost later → IsOrdered later cell.owner cell.store.file
        → (slot_at later cell.owner cell.store.file).version ≡ cell.store.id.version → hosts_of later ≡ hosts_of cell.board
        → Now (view now) (HostIsOfKind later cell.number (list_of cell) (flight_of cell) host) → (moving : Option Moving)
        → ((m : Moving) → moving ≡ Some m → IsTarget view (record {
          disks = slice_set cell.disks host now;
          board = later;
          number = cell.number;
          owner = cell.owner;
          store = cell.store;
          maps = cell.maps;
          flight = cell.flight;
          moving = moving;
        }) m)
        → IsKept view (record {
          disks = slice_set cell.disks host now;
          board = later;
          number = cell.number;
          owner = cell.owner;
          store = cell.store;
          maps = cell.maps;
          flight = cell.flight;
          moving = moving;
        })
    kept_on later same by_host ordered version many here moving moves = record {
      hosts = length-set cell.disks host now ∙ kept.hosts ∙ sym many;
      least = kept.least;
      most = kept.most;
      by_host = by_host;
      ordered = ordered;
      version = version;
      of_partition = kept.of_partition;
      kinds = all_fit view cell.disks host disk now was later cell.number (list_of cell) (flight_of cell) (others_fit later same) here;
      changes = kept.changes;
      agrees = kept.agrees;
      rests = rests_on;
      moves = moves;
    }

  -- A file is made free.
  module _ (file : ℕ) (past : (slot_at cell.board host file).kind ≢ Current)
      (all : Throughout (view disk) (view now) (After (view disk) (Moved file (IsFreedFrom (slot_at cell.board host file).kind)))) where
    free_apart : (cell.owner ≡ host) × (cell.store.file ≡ file) → ⊥
    free_apart same = past (ap (λ (k : ℕ). (slot_at cell.board k file).kind) (sym same.0) ∙ ap (λ (j : ℕ). (slot_at cell.board cell.owner j).kind) (sym same.1) ∙ kept.ordered.current)

    freeing_fits : Throughout (view disk) (view now) (HostIsOfKind cell.board cell.number (list_of cell) (flight_of cell) host)
    freeing_fits =
        reached (view disk) (view now) (HostIsOfKind cell.board cell.number (list_of cell) (flight_of cell) host) (HostIsOfKind cell.board cell.number (list_of cell) (flight_of cell) host)
        (Moved file (IsFreedFrom (slot_at cell.board host file).kind)) (kept.kinds host disk was) all
        (λ o n kinds moved.
        host_moved cell.board cell.board cell.number (list_of cell) (flight_of cell) (list_of cell) (flight_of cell) host file (IsFreedFrom (slot_at cell.board host file).kind) o n kinds moved
        (λ le old new fit step. freed_fits cell.number (list_of cell) (flight_of cell) (slot_at cell.board host file).kind (slot_at cell.board host file).version old new past fit step)
        (λ f bytes le ne fit. fit))

    pub freeing : Onward (view disk) (view now) → LaneEvent view host cell.disks (slice_set cell.disks host now) (SurvivesIn cell.board cell.owner cell.number (list_of cell) (flight_of cell))
    freeing on = kinds_event view cell.disks host disk now was cell.board cell.number (list_of cell) (flight_of cell) (λ h other ne at. kept.kinds h other at) cell.owner cell.store.file kept.ordered kept.hosts freeing_fits on

    pub free_refused : cell.moving ≡ None → IsKept view (record {
      disks = slice_set cell.disks host now;
      board = cell.board;
      number = cell.number;
      owner = cell.owner;
      store = cell.store;
      maps = cell.maps;
      flight = cell.flight;
      moving = cell.moving;
    })
    free_refused still =
        kept_on file (IsFreedFrom (slot_at cell.board host file).kind) all free_apart cell.board (λ h f le ne. refl) kept.by_host kept.ordered kept.version refl
        (holds_now (view disk) (view now) (HostIsOfKind cell.board cell.number (list_of cell) (flight_of cell) host) freeing_fits) cell.moving
        (λ m is. let wrong : Some m ≡ None = sym is ∙ still in absurd (cc wrong))

    pub free_done : (slot_at cell.board host file).kind ≢ Unknown → cell.moving ≡ None → (later : Board) → IsSet cell.board later host file (record { kind = Blank; version = 0 }) → Each (view now) file IsBlank → IsKept view (record {
      disks = slice_set cell.disks host now;
      board = later;
      number = cell.number;
      owner = cell.owner;
      store = cell.store;
      maps = cell.maps;
      flight = cell.flight;
      moving = cell.moving;
    })
    free_done known still later set blank =
        let stale : Blank ≢ Stale = λ e. cc in
        let doubt : Blank ≢ Doubt = λ e. cc in
        kept_on file (IsFreedFrom (slot_at cell.board host file).kind) all free_apart later
        (λ h f le ne. set.others h f le (λ same. ne same.0))
        (by_host_set cell.board later host file (record { kind = Blank; version = 0 }) set blank_is_not_unknown known kept.by_host)
        (ordered_free cell.board later host file (record { kind = Blank; version = 0 }) set cell.owner cell.store.file kept.ordered (λ may. may) blank_is_not_current stale doubt free_apart)
        (ap (λ (s : Slot). s.version) (set.others cell.owner cell.store.file kept.ordered.one_of_two free_apart) ∙ kept.version)
        set.hosts
        (λ m is f le. at_slot cell.board later host file (record { kind = Blank; version = 0 }) set (λ s. IsOfKind cell.number (list_of cell) (flight_of cell) s.kind s.version (m f)) host f le
        (λ same. subst (λ (j : ℕ). IsBlank (m j)) (sym same.1) (blank m is))
        (λ apart. holds_now (view disk) (view now) (HostIsOfKind cell.board cell.number (list_of cell) (flight_of cell) host) freeing_fits m is f le))
        cell.moving
        (λ m is. let wrong : Some m ≡ None = sym is ∙ still in absurd (cc wrong))

  -- A store is built in a file whose first byte is zero, and stays so.
  module _ (file : ℕ) (blank : (slot_at cell.board host file).kind ≡ Blank) (all : Throughout (view disk) (view now) (After (view disk) (Moved file (λ old new. IsBlank new)))) where
    blank_apart : (cell.owner ≡ host) × (cell.store.file ≡ file) → ⊥
    blank_apart same =
        let is : (slot_at cell.board host file).kind ≡ Current = ap (λ (k : ℕ). (slot_at cell.board k file).kind) (sym same.0) ∙ ap (λ (j : ℕ). (slot_at cell.board cell.owner j).kind) (sym same.1) ∙ kept.ordered.current in
        let e : Blank ≡ Current = sym blank ∙ is in
        blank_is_not_current e

    building_fits : Throughout (view disk) (view now) (HostIsOfKind cell.board cell.number (list_of cell) (flight_of cell) host)
    building_fits =
        reached (view disk) (view now) (HostIsOfKind cell.board cell.number (list_of cell) (flight_of cell) host) (HostIsOfKind cell.board cell.number (list_of cell) (flight_of cell) host)
        (Moved file (λ old new. IsBlank new)) (kept.kinds host disk was) all
        (λ o n kinds moved.
        host_moved cell.board cell.board cell.number (list_of cell) (flight_of cell) (list_of cell) (flight_of cell) host file (λ old new. IsBlank new) o n kinds moved
        (λ le old new fit step. subst (λ (k : SlotKind). IsOfKind cell.number (list_of cell) (flight_of cell) k (slot_at cell.board host file).version new) (sym blank) step)
        (λ f bytes le ne fit. fit))

    pub building : Onward (view disk) (view now) → LaneEvent view host cell.disks (slice_set cell.disks host now) (SurvivesIn cell.board cell.owner cell.number (list_of cell) (flight_of cell))
    building on = kinds_event view cell.disks host disk now was cell.board cell.number (list_of cell) (flight_of cell) (λ h other ne at. kept.kinds h other at) cell.owner cell.store.file kept.ordered kept.hosts building_fits on

    pub built_on : (moving : Option Moving)
        → ((m : Moving) → moving ≡ Some m → IsTarget view (record {
          disks = slice_set cell.disks host now;
          board = cell.board;
          number = cell.number;
          owner = cell.owner;
          store = cell.store;
          maps = cell.maps;
          flight = cell.flight;
          moving = moving;
        }) m)
        → IsKept view (record {
          disks = slice_set cell.disks host now;
          board = cell.board;
          number = cell.number;
          owner = cell.owner;
          store = cell.store;
          maps = cell.maps;
          flight = cell.flight;
          moving = moving;
        })
    built_on moving moves =
        kept_on file (λ old new. IsBlank new) all blank_apart cell.board (λ h f le ne. refl) kept.by_host kept.ordered kept.version refl
        (holds_now (view disk) (view now) (HostIsOfKind cell.board cell.number (list_of cell) (flight_of cell) host) building_fits) moving moves

    -- no build goes on
    pub build_ended : (moving : Option Moving) → moving ≡ None → IsKept view (record {
      disks = slice_set cell.disks host now;
      board = cell.board;
      number = cell.number;
      owner = cell.owner;
      store = cell.store;
      maps = cell.maps;
      flight = cell.flight;
      moving = moving;
    })
    build_ended moving none = built_on moving (λ m is. let wrong : Some m ≡ None = sym is ∙ none in absurd (cc wrong))

    -- it has begun
    pub build_begun : (build : Build) (header : Header) (moving : Moving) → header.partitions ≡ cell.number.partitions → header.id.partition ≡ cell.number.partition → header.id.version ≡ told_by cell.board + 1 → header.id.version < 2 ^ 58 → host < hosts_of cell.board → file ≤ 1
        → ((caches : Caches) → IsBuilding (view now) build header caches) → build.file ≡ file → build.id ≡ header.id → moving ≡ record { host = host; build = build; settled = false } → IsKept view (record {
          disks = slice_set cell.disks host now;
          board = cell.board;
          number = cell.number;
          owner = cell.owner;
          store = cell.store;
          maps = cell.maps;
          flight = cell.flight;
          moving = Some moving;
        })
    build_begun build header moving partitions partition version below there le is same id made =
        built_on (Some moving) (λ m at.
        let first : moving ≡ m = cc at in
        let e : record { host = host; build = build; settled = false } ≡ m = sym made ∙ first in
        subst (λ (x : Moving). IsTarget view (record {
          disks = slice_set cell.disks host now;
          board = cell.board;
          number = cell.number;
          owner = cell.owner;
          store = cell.store;
          maps = cell.maps;
          flight = cell.flight;
          moving = Some moving;
        }) x) e (record {
          there = there;
          one_of_two = omega (arith, same, le);
          blank = ap (λ (f : ℕ). (slot_at cell.board host f).kind) same ∙ blank;
          next = ap (λ (i : StoreId). i.version) id ∙ version;
          below = let v : build.id.version ≡ header.id.version = ap (λ (i : StoreId). i.version) id in omega (arith, v, below);
          of_partition = ap (λ (i : StoreId). i.partition) id ∙ partition;
          building = λ d got.
              let mine = disk_now view cell.disks host disk now was d got in
              let head : header ≡ record { id = build.id; partitions = cell.number.partitions } = same_header header build.id cell.number.partitions id partitions in
              subst (λ (h : Header). IsBuilding (view d) build h (caches_of cell)) head (subst (λ (x : D). IsBuilding (view x) build header (caches_of cell)) mine (is (caches_of cell)));
          built = λ yes. let wrong : false ≡ true = yes in absurd (cc wrong);
        }))

    -- it goes on
    pub build_goes : (old : Moving) → IsTarget view cell old → old.host ≡ host → old.build.file ≡ file → (new : Moving) → new.host ≡ host → new.build.file ≡ old.build.file → new.build.id ≡ old.build.id
        → IsBuilding (view now) new.build (target_header cell.number old) (caches_of cell)
        → (new.settled ≡ true → IsBuilt (view now) new.build.file (target_header cell.number old) (caches_of cell) new.build.end) → IsKept view (record {
          disks = slice_set cell.disks host now;
          board = cell.board;
          number = cell.number;
          owner = cell.owner;
          store = cell.store;
          maps = cell.maps;
          flight = cell.flight;
          moving = Some new;
        })
    build_goes old target at_host at_file new new_host new_file new_id is done =
        built_on (Some new) (λ m at.
        let e : new ≡ m = cc at in
        let head : target_header cell.number old ≡ target_header cell.number new = ap (λ (i : StoreId). record { id = i; partitions = cell.number.partitions }) (sym new_id) in
        let mine : (d : D) → slice_get (slice_set cell.disks host now) new.host ≡ Some d → now ≡ d = λ d got. disk_now view cell.disks host disk now was d (subst (λ (k : ℕ). slice_get (slice_set cell.disks host now) k ≡ Some d) new_host got) in
        subst (λ (x : Moving). IsTarget view (record {
          disks = slice_set cell.disks host now;
          board = cell.board;
          number = cell.number;
          owner = cell.owner;
          store = cell.store;
          maps = cell.maps;
          flight = cell.flight;
          moving = Some new;
        }) x) e (record {
          there = omega (arith, target.there, at_host, new_host);
          one_of_two = omega (arith, target.one_of_two, new_file);
          blank = ap (λ (k : ℕ). (slot_at cell.board k new.build.file).kind) new_host ∙ ap (λ (f : ℕ). (slot_at cell.board host f).kind) (new_file ∙ at_file) ∙ blank;
          next = ap (λ (i : StoreId). i.version) new_id ∙ target.next;
          below = let v : new.build.id.version ≡ old.build.id.version = ap (λ (i : StoreId). i.version) new_id in omega (arith, v, target.below);
          of_partition = ap (λ (i : StoreId). i.partition) new_id ∙ target.of_partition;
          building = λ d got. subst (λ (h : Header). IsBuilding (view d) new.build h (caches_of cell)) head (subst (λ (x : D). IsBuilding (view x) new.build (target_header cell.number old) (caches_of cell)) (mine d got) is);
          built = λ yes d got. subst (λ (h : Header). IsBuilt (view d) new.build.file h (caches_of cell) new.build.end) head (subst (λ (x : D). IsBuilt (view x) new.build.file (target_header cell.number old) (caches_of cell) new.build.end) (mine d got) (done yes));
        }))

-- no image is new, so none of a blank file
pub same_blank : (a b : View) (file : ℕ) → Each a file IsBlank → Throughout a b a.images → Throughout a b (After a (Moved file (λ old new. IsBlank new)))
same_blank a b file blank same = weakened a b a.images (After a (Moved file (λ old new. IsBlank new))) same (λ m is. (m, is, record { here = blank m is; others = λ f ne. refl }))

-- a build stays on its host
pub goes_host : (old new : Option Moving) → BuildGoesOn old new → (a b : Moving) → old ≡ Some a → new ≡ Some b → b.host ≡ a.host
goes_host old new goes a b was is =
    let first : goes.before ≡ a = some_same goes.before a old goes.was was in
    let last : goes.after ≡ b = some_same goes.after b new goes.is is in
    sym (ap (λ (m : Moving). m.host) last) ∙ goes.host ∙ ap (λ (m : Moving). m.host) first

pub goes_id : (old new : Option Moving) → BuildGoesOn old new → (a b : Moving) → old ≡ Some a → new ≡ Some b → b.build.id ≡ a.build.id
goes_id old new goes a b was is =
    let first : goes.before ≡ a = some_same goes.before a old goes.was was in
    let last : goes.after ≡ b = some_same goes.after b new goes.is is in
    sym (ap (λ (m : Moving). m.build.id) last) ∙ goes.id ∙ ap (λ (m : Moving). m.build.id) first

-- an event of a cell behind another on the same host, by which the list and what is in flight stay
pub cells_joined : {D : Type 0} (view : D → View) (host : ℕ) (a b : Cell D) (last : List D) → ((ms : LaneImage) → Surviving b ms → Surviving a ms) → LaneEvent view host a.disks b.disks (Surviving a) → (other : ℕ) → other ≡ host → LaneEvent view other b.disks last (Surviving b)
    → LaneEvent view host a.disks last (Surviving a)
cells_joined view host a b last back first other same second =
    events_joined view a.disks b.disks last host (Surviving a) first
    (event_weaker view host b.disks last (Surviving b) (Surviving a) back (subst (λ (h : ℕ). LaneEvent view h b.disks last (Surviving b)) same second))

-- the files survive as those of the cell before, where no host is forgotten
pub same_list_survives : {D : Type 0} (a b : Cell D) → SameList a b → (ms : LaneImage) → Surviving b ms → Surviving a ms
same_list_survives a b same ms survives =
    survives_on a.board b.board a.owner a.number (list_of a) (flight_of a) ms same.known
    (subst (λ (o : ℕ). SurvivesIn b.board o a.number (list_of a) (flight_of a) ms) same.owner
    (subst (λ (p : PartitionNumber). SurvivesIn b.board b.owner p (list_of a) (flight_of a) ms) same.number
    (subst (λ (l : Maps). SurvivesIn b.board b.owner b.number (reset (caches_in l.extents) ∷ []) (flight_of a) ms) same.maps
    (subst (λ (o : Option Mutation). SurvivesIn b.board b.owner b.number (list_of b) (in_flight o) ms) same.flight survives))))

pub known_itself : (board : Board) → NoneForgotten board board
known_itself board = record { as_many = refl; known = λ h f le is. is }

-- only the disks and the build have changed
pub same_list_built : {D : Type 0} (a b : Cell D) → b ≡ record a { disks = b.disks; moving = b.moving } → SameList a b
same_list_built a b kept = record {
  known = subst (λ (k : Board). NoneForgotten a.board k) (sym (ap (λ (c : Cell _). c.board) kept)) (known_itself a.board);
  told = ap (λ (c : Cell _). told_by c.board) kept;
  number = ap (λ (c : Cell _). c.number) kept;
  owner = ap (λ (c : Cell _). c.owner) kept;
  store = ap (λ (c : Cell _). c.store) kept;
  maps = ap (λ (c : Cell _). c.maps) kept;
  flight = ap (λ (c : Cell _). c.flight) kept;
}

pub same_list_joined : {D : Type 0} (a b c : Cell D) → SameList a b → SameList b c → SameList a c
same_list_joined a b c first second = record {
  known = known_joined a.board b.board c.board first.known second.known;
  told = second.told ∙ first.told;
  number = second.number ∙ first.number;
  owner = second.owner ∙ first.owner;
  store = second.store ∙ first.store;
  maps = second.maps ∙ first.maps;
  flight = second.flight ∙ first.flight;
}

-- only the disks and a file's kind have changed
pub same_list_set : {D : Type 0} (a b : Cell D) → b ≡ record a { disks = b.disks; board = b.board } → NoneForgotten a.board b.board → told_by b.board ≡ told_by a.board → SameList a b
same_list_set a b kept known told = record {
  known = known;
  told = told;
  number = ap (λ (c : Cell _). c.number) kept;
  owner = ap (λ (c : Cell _). c.owner) kept;
  store = ap (λ (c : Cell _). c.store) kept;
  maps = ap (λ (c : Cell _). c.maps) kept;
  flight = ap (λ (c : Cell _). c.flight) kept;
}

-- a renewal, and then a commit
pub enter_event : {D : Type 0} (view : D → View) (a b : Cell D) (last : List D) (change : Change) → LaneEvent view a.owner a.disks b.disks (Surviving a) → NoneForgotten a.board b.board → b.owner ≡ a.owner → b.number ≡ a.number → b.maps ≡ a.maps
    → LaneEvent view b.owner b.disks last (SurvivingBefore b change) → LaneEvent view a.owner a.disks last (λ ms. Surviving a ms ⊎ SurvivingBefore a change ms)
enter_event view a b last change first known owner number maps second =
    events_joined view a.disks b.disks last a.owner (λ ms. Surviving a ms ⊎ SurvivingBefore a change ms)
    (event_weaker view a.owner a.disks b.disks (Surviving a) (λ ms. Surviving a ms ⊎ SurvivingBefore a change ms) (λ ms survives. inl survives) first)
    (event_weaker view a.owner b.disks last (SurvivingBefore b change) (λ ms. Surviving a ms ⊎ SurvivingBefore a change ms)
    (λ ms survives. inr (survives_on a.board b.board a.owner a.number (list_of a) (change ∷ []) ms known
    (subst (λ (o : ℕ). SurvivesIn b.board o a.number (list_of a) (change ∷ []) ms) owner
    (subst (λ (p : PartitionNumber). SurvivesIn b.board b.owner p (list_of a) (change ∷ []) ms) number
    (subst (λ (l : Maps). SurvivesIn b.board b.owner b.number (reset (caches_in l.extents) ∷ []) (change ∷ []) ms) maps survives)))))
    (subst (λ (h : ℕ). LaneEvent view h b.disks last (SurvivingBefore b change)) owner second))

-- a call that takes memory of its own goes on as others do
pub own_onward : {T : Type 0} (a b : View) (result : Result T DiskRefusal) → OwnCause a b result → (Tells a → Tells b) → Onward a b
own_onward a b result cause tells = record { faults = cause.later; restarts = cause.restarts; spares = cause.spares; tells = tells }

pub call_onward : {T : Type 0} (a b : View) (result : Result T DiskRefusal) → Cause a b result → (Tells a → Tells b) → Onward a b
call_onward a b result cause tells = record { faults = cause.later; restarts = cause.restarts; spares = cause.spares; tells = tells }

-- a build is as far as before where it is made durable
pub settled_building : (a b : View) (build : Build) (header : Header) (caches : Caches) → IsBuilding a build header caches → Throughout a b a.images → b.seen build.file ≡ a.seen build.file → IsBuilding b build header caches
settled_building a b build header caches is same seen = record {
  batches = is.batches;
  cut = is.cut;
  limits = is.limits;
  of_header = is.of_header;
  named = is.named;
  there = is.there;
  all = is.all;
  blank = λ m at. is.blank m (holds_now a b a.images same m at);
  seen = λ tells. seen ∙ is.seen (a.told b.seen (holds_now a b a.images same b.seen tells));
}

-- a batch more leaves fewer items, where it wasn't the closed gate that was written
pub fewer_left : (before after : List Mutation) (whole : Bool) → after ≡ drop 64 before → (before ≡ [] → whole ≡ true) → (whole ≡ true → ⊥) → length after < length before
fewer_left [] after whole is all more = absurd (more (all refl))
fewer_left (item ∷ before) after whole is all more =
    let size = ap length is in
    let dropped = length-drop 64 (item ∷ before) in
    omega (arith, size, dropped)
