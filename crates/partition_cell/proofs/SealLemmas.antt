-- A build is sealed: at every moment its file is in doubt, and then it is the current one.
use Rattle.std.proofs.Common.{◌≡◌, ◌≢◌, inl, ⊎_elim, ℕ, ◌<◌, ◌≤◌, List, [], ◌∷◌, length, drop, get_or, true, refl, sym, ◌∙◌, ap, subst, arith, slice_get, slice_set, Some, None, Option, length-set}
use Rattle.std.specs.List.{flat_map}
use Rattle.std.proofs.lemmas.Bool.{cases_eq}
use Rattle.std.proofs.lemmas.List.{append-nil}
use Rattle.cache_key.specs.declared.request.Mutation.{Mutation}
use Rattle.cache_model.specs.Caches.{Caches}
use Rattle.cache_model.specs.Change.{Change, changes_of}
use Rattle.cache_model.specs.Contents.{SameContents}
use Rattle.disk_trait.specs.View.{Image, View}
use Rattle.disk_trait.specs.Calls.{Moved}
use Rattle.disk_trait.specs.Moments.{Now, After, Throughout, Onward}
use Rattle.disk_trait.proofs.Runs.{reached, holds_now, weakened}
use Rattle.record_form.specs.declared.header.Header.{Header}
use Rattle.seal_gate.specs.Seal.{Each, ButFirst}
use Rattle.slot_board.specs.declared.board.Board.{Board}
use Rattle.slot_board.specs.declared.board.Slot.{Slot}
use Rattle.slot_board.specs.declared.board.SlotKind.{SlotKind}
use Rattle.slot_board.specs.declared.board.SlotKind.TheVariants.{Blank, Doubt, Current, Unknown}
use Rattle.slot_board.specs.Slots.{slot_at, hosts_of, told_by, aged, superseded, IsSet, IsSuperseded}
use Rattle.store_build.specs.Built.{built_text, IsBuilt}
use Rattle.store_build.proofs.BatchLemmas.{batches_joined}
use Rattle.store_build.proofs.BuiltLemmas.{built_sealed, length-whole}
use Rattle.store_ident.specs.declared.ident.StoreId.{StoreId}
use Rattle.store_journal.specs.Text.{IsText}
use Rattle.store_journal.specs.declared.store.Store.{Store}
use Rattle.partition_cell.specs.declared.moving.Moving.{Moving}
use Rattle.disk_lane.specs.Lanes.{LaneEvent}
use Rattle.file_kinds.specs.Kinds.{IsGood, IsOfKind}
use Rattle.partition_cell.specs.Cells.{Cell, caches_of, list_of, flight_of, ByHost, NoneForgotten, IsResting, IsTarget, target_header, IsKept, in_flight}
use Rattle.file_kinds.specs.Order.{IsOrdered, HostIsOfKind, AreOfKind, SurvivesIn}
use Rattle.cache_model.specs.Contents.{AreContentsAfter}
use Rattle.cache_model.specs.PlainList.{plain_list}
use Rattle.partition_cell.proofs.ListLemmas.{plain_same}
use Rattle.file_kinds.proofs.KindLemmas.{aged_fits}
use Rattle.partition_cell.proofs.EventLemmas.{kinds_event, all_fit, host_moved, disk_now}
use Rattle.partition_cell.proofs.BoardLemmas.{set_known, ordered_doubt, ordered_sealed, none_in_doubt, survives_on, blank_is_not_current, blank_is_not_unknown, by_host_set, by_host_aged, aged_known, known_joined, sealed_known}
use Rattle.partition_cell.proofs.CommitLemmas.{text_good}
use Rattle.partition_cell.proofs.StepLemmas.{others_fit, kept_on, event_weaker}

-- the step of a seal over what is built
abbrev Sealing : List ℕ → List ℕ → List ℕ → Type 0
Sealing whole old new = (old ≡ whole) × ButFirst old new

module _ {D : Type 0} (view : D → View) (cell : Cell D) (kept : IsKept view cell) (moving : Moving) (target : IsTarget view cell moving) (disk : D) (was : slice_get cell.disks moving.host ≡ Some disk) (now : D)
    (built : IsBuilt (view disk) moving.build.file (target_header cell.number moving) (caches_of cell) moving.build.end)
    (plain : (changes : List Change) (caches : Caches) → AreContentsAfter changes caches → AreContentsAfter (changes_of (plain_list caches)) caches)
    (doubted : Board) (set : IsSet cell.board doubted moving.host moving.build.file (record { kind = Doubt; version = moving.build.id.version }))
    (all : Throughout (view disk) (view now) (After (view disk) (Moved moving.build.file ButFirst))) where
  abbrev host : ℕ
  host = moving.host

  abbrev file : ℕ
  file = moving.build.file

  abbrev version : ℕ
  version = moving.build.id.version

  abbrev header : Header
  header = target_header cell.number moving

  abbrev text : List ℕ
  text = 1 ∷ drop 1 (built_text header built.batches true)

  built_done : (bytes : List ℕ) → bytes ≡ text → IsText header built.batches bytes
  built_done bytes is =
      let first : get_or bytes 0 0 ≡ 1 = ap (λ (l : List ℕ). get_or l 0 0) is in
      let long = ap length is in
      let size = length-whole header built.batches in
      let there = built.there in
      let some = moving.build.some in
      built_sealed header built.batches bytes built.of_header built.limits (record { rest = ap (λ (l : List ℕ). drop 1 l) is; as_long = long })
      (record { first = λ zero. omega (arith, first, zero); long = omega (arith, long, size, there, some) })

  is_text : IsText header built.batches text
  is_text = built_done text refl

  -- the records have the plain list
  joined : flat_map (λ group. group) built.batches ≡ plain_list (caches_of cell)
  joined = sym (append-nil (flat_map (λ (b : List Mutation). b) built.batches)) ∙ batches_joined (plain_list (caches_of cell)) built.batches [] built.cut

  same_contents : SameContents (changes_of (flat_map (λ group. group) built.batches)) (list_of cell)
  same_contents =
      subst (λ (l : List Mutation). SameContents (changes_of l) (list_of cell)) (sym joined)
      (plain_same kept.changes (caches_of cell) kept.agrees.contents (plain kept.changes (caches_of cell) kept.agrees.contents))

  good : (flight : List Change) (bytes : List ℕ) → IsText header built.batches bytes → IsGood cell.number (list_of cell) flight version bytes
  good flight bytes is = text_good cell.number (list_of cell) flight version header built.batches bytes is target.of_partition refl refl (inl same_contents)

  apart : (cell.owner ≡ host) × (cell.store.file ≡ file) → ⊥
  apart same =
      let is : (slot_at cell.board host file).kind ≡ Current = ap (λ (k : ℕ). (slot_at cell.board k file).kind) (sym same.0) ∙ ap (λ (j : ℕ). (slot_at cell.board cell.owner j).kind) (sym same.1) ∙ kept.ordered.current in
      let e : Blank ≡ Current = sym target.blank ∙ is in
      blank_is_not_current e

  elsewhere : (h f : ℕ) → f ≤ 1 → h ≢ host → slot_at doubted h f ≡ slot_at cell.board h f
  elsewhere h f le ne = set.others h f le (λ same. ne same.0)

  sharp : Throughout (view disk) (view now) (After (view disk) (Moved file (Sealing (built_text header built.batches true))))
  sharp = weakened (view disk) (view now) (After (view disk) (Moved file ButFirst)) (After (view disk) (Moved file (Sealing (built_text header built.batches true)))) all
      (λ m has. (has.0, has.1, record { here = (built.each has.0 has.1, has.2.here); others = has.2.others }))

  doubt_fits : Throughout (view disk) (view now) (HostIsOfKind doubted cell.number (list_of cell) (flight_of cell) host)
  doubt_fits =
      reached (view disk) (view now) (HostIsOfKind cell.board cell.number (list_of cell) (flight_of cell) host) (HostIsOfKind doubted cell.number (list_of cell) (flight_of cell) host)
      (Moved file (Sealing (built_text header built.batches true))) (kept.kinds host disk was) sharp
      (λ o n kinds moved.
      host_moved cell.board doubted cell.number (list_of cell) (flight_of cell) (list_of cell) (flight_of cell) host file (Sealing (built_text header built.batches true)) o n kinds moved
      (λ le old new fit step.
      let rest : ButFirst text new = record {
        rest = step.1.rest ∙ ap (λ (l : List ℕ). drop 1 l) step.0;
        as_long = step.1.as_long ∙ ap length step.0;
      } in
      subst (λ (s : Slot). IsOfKind cell.number (list_of cell) (flight_of cell) s.kind s.version new) (sym set.here) (record { text = text; whole = good (flight_of cell) text is_text; rest = rest }))
      (λ f bytes le ne fit. subst (λ (s : Slot). IsOfKind cell.number (list_of cell) (flight_of cell) s.kind s.version bytes) (sym (set.others host f le (λ same. ne same.1))) fit))

  doubt_ordered : IsOrdered doubted cell.owner cell.store.file
  doubt_ordered = ordered_doubt cell.board doubted host file version set target.next cell.owner cell.store.file kept.ordered target.blank

  doubt_is_known : Doubt ≢ Unknown
  doubt_is_known e = cc

  doubt_by_host : ByHost doubted
  doubt_by_host =
      by_host_set cell.board doubted host file (record { kind = Doubt; version = version }) set doubt_is_known
      (subst (λ (k : SlotKind). k ≢ Unknown) (sym target.blank) blank_is_not_unknown) kept.by_host

  pub sealing : Onward (view disk) (view now) → LaneEvent view host cell.disks (slice_set cell.disks host now) (SurvivesIn cell.board cell.owner cell.number (list_of cell) (flight_of cell))
  sealing on =
      event_weaker view host cell.disks (slice_set cell.disks host now) (SurvivesIn doubted cell.owner cell.number (list_of cell) (flight_of cell)) (SurvivesIn cell.board cell.owner cell.number (list_of cell) (flight_of cell))
      (λ ms survives. survives_on cell.board doubted cell.owner cell.number (list_of cell) (flight_of cell) ms (set_known cell.board doubted host file (record { kind = Doubt; version = version }) set doubt_is_known) survives)
      (kinds_event view cell.disks host disk now was doubted cell.number (list_of cell) (flight_of cell) (others_fit view cell kept host disk was now doubted elsewhere) cell.owner cell.store.file doubt_ordered (kept.hosts ∙ sym set.hosts) doubt_fits on)

  pub refused_known : NoneForgotten cell.board doubted
  refused_known = set_known cell.board doubted host file (record { kind = Doubt; version = version }) set doubt_is_known

  -- refused: the file is in doubt
  pub seal_refused : (moved : Option Moving) → moved ≡ None → IsKept view (record {
    disks = slice_set cell.disks host now;
    board = doubted;
    number = cell.number;
    owner = cell.owner;
    store = cell.store;
    maps = cell.maps;
    flight = cell.flight;
    moving = moved;
  })
  seal_refused moved none =
      kept_on view cell kept host disk was now file ButFirst all apart doubted elsewhere doubt_by_host doubt_ordered
      (ap (λ (s : Slot). s.version) (set.others cell.owner cell.store.file kept.ordered.one_of_two apart) ∙ kept.version)
      set.hosts
      (holds_now (view disk) (view now) (HostIsOfKind doubted cell.number (list_of cell) (flight_of cell) host) doubt_fits)
      moved (λ m is. let wrong : Some m ≡ None = sym is ∙ none in absurd (cc wrong))

  -- done: it is the current one
  module _ (old later : Board) (super : IsSuperseded doubted old) (last : IsSet old later host file (record { kind = Current; version = version }))
      (sealed : Each (view now) file (λ bytes. bytes ≡ 1 ∷ drop 1 ((view disk).seen file)))
      (store : Store) (store_file : store.file ≡ file) (store_id : store.id ≡ moving.build.id) (store_end : store.end ≡ moving.build.end) where
    newest : told_by doubted ≡ version
    newest = omega (arith, set.told, target.next)

    there : host < hosts_of doubted
    there = omega (arith, target.there, set.hosts)

    now_ordered : IsOrdered later host file
    now_ordered = ordered_sealed doubted old later host file version super last cell.owner cell.store.file doubt_ordered set.here newest there target.one_of_two

    bytes_are : (m : Image) → (view now).images m → IsText header built.batches (m file)
    bytes_are m is =
        let from = holds_now (view disk) (view now) (After (view disk) (Moved file ButFirst)) all m is in
        let seen = built.each (view disk).seen ((view disk).told from.0 from.1) in
        built_done (m file) (sealed m is ∙ ap (λ (l : List ℕ). 1 ∷ drop 1 l) seen)

    here : Now (view now) (HostIsOfKind later cell.number (list_of cell) [] host)
    here m is f le = ⊎_elim
        (λ e.
        let slot : slot_at later host f ≡ record { kind = Current; version = version } = ap (λ (j : ℕ). slot_at later host j) e ∙ last.here in
        subst (λ (s : Slot). IsOfKind cell.number (list_of cell) [] s.kind s.version (m f)) (sym slot) (subst (λ (j : ℕ). IsGood cell.number (list_of cell) [] version (m j)) (sym e) (good [] (m file) (bytes_are m is))))
        (λ ne.
        let slot : slot_at later host f ≡ superseded (slot_at doubted host f) = last.others host f le (λ same. ne same.1) ∙ super.slots host f in
        subst (λ (s : Slot). IsOfKind cell.number (list_of cell) [] s.kind s.version (m f)) (sym slot)
        (aged_fits cell.number (list_of cell) (flight_of cell) (list_of cell) [] (slot_at doubted host f).kind (slot_at doubted host f).version (m f)
        (holds_now (view disk) (view now) (HostIsOfKind doubted cell.number (list_of cell) (flight_of cell) host) doubt_fits m is f le)))
        (cases_eq f file)

    others : (h : ℕ) (other : D) → h ≢ host → slice_get cell.disks h ≡ Some other → Now (view other) (HostIsOfKind later cell.number (list_of cell) [] h)
    others h other ne at m is f le =
        let slot : slot_at later h f ≡ superseded (slot_at cell.board h f) = last.others h f le (λ same. ne same.0) ∙ super.slots h f ∙ ap superseded (elsewhere h f le ne) in
        subst (λ (s : Slot). IsOfKind cell.number (list_of cell) [] s.kind s.version (m f)) (sym slot)
        (aged_fits cell.number (list_of cell) (flight_of cell) (list_of cell) [] (slot_at cell.board h f).kind (slot_at cell.board h f).version (m f) (kept.kinds h other at m is f le))

    pub seal_done : (flight : Option Mutation) → flight ≡ None → (moved : Option Moving) → moved ≡ None → IsKept view (record {
      disks = slice_set cell.disks host now;
      board = later;
      number = cell.number;
      owner = host;
      store = store;
      maps = cell.maps;
      flight = flight;
      moving = moved;
    })
    seal_done flight none moved ended = record {
      hosts = length-set cell.disks host now ∙ kept.hosts ∙ sym set.hosts ∙ sym super.hosts ∙ sym last.hosts;
      least = kept.least;
      most = kept.most;
      by_host =
          let e : Current ≢ Unknown = λ e. cc in
          let doubt_known : (slot_at old host file).kind ≢ Unknown = λ is.
          let was : aged Doubt ≡ Unknown = sym (ap (λ (s : Slot). s.kind) (super.slots host file ∙ ap superseded set.here)) ∙ is in
          doubt_is_known (aged_known Doubt was) in
          by_host_set old later host file (record { kind = Current; version = version }) last e doubt_known (by_host_aged doubted old super doubt_by_host);
      ordered = subst (λ (f : ℕ). IsOrdered later host f) (sym store_file) now_ordered;
      version = ap (λ (f : ℕ). (slot_at later host f).version) store_file ∙ ap (λ (s : Slot). s.version) last.here ∙ sym (ap (λ (i : StoreId). i.version) store_id);
      of_partition = ap (λ (i : StoreId). i.partition) store_id ∙ target.of_partition;
      kinds = subst (λ (o : Option Mutation). AreOfKind view (slice_set cell.disks host now) later cell.number (list_of cell) (in_flight o)) (sym none)
          (all_fit view cell.disks host disk now was later cell.number (list_of cell) [] others here);
      changes = kept.changes;
      agrees = kept.agrees;
      rests = λ _ d at.
          let same : now ≡ d = disk_now view cell.disks host disk now was d at in
          let again : record { id = store.id; partitions = cell.number.partitions } ≡ header = ap (λ (i : StoreId). record { id = i; partitions = cell.number.partitions }) store_id in
          subst (λ (x : D). IsResting (view x) cell.number store (list_of cell)) same (record {
            groups = built.batches;
            at_rest = λ m is. record {
              text = subst (λ (f : ℕ). IsText (record { id = store.id; partitions = cell.number.partitions }) built.batches (m f)) (sym store_file)
                  (subst (λ (h : Header). IsText h built.batches (m file)) (sym again) (bytes_are m is));
              gate = store_end ∙ built.there;
              named = refl;
            };
            contents = same_contents;
          });
      moves = λ m is. let wrong : Some m ≡ None = sym is ∙ ended in absurd (cc wrong);
    }

    pub seal_sound : (h f : ℕ) → f ≤ 1 → (slot_at later h f).kind ≢ Doubt
    seal_sound = none_in_doubt doubted old later host file version super last cell.owner cell.store.file doubt_ordered set.here newest there target.one_of_two

    pub done_known : NoneForgotten cell.board later
    done_known =
        known_joined cell.board doubted later refused_known
        (sealed_known doubted old later host file version super last cell.owner cell.store.file doubt_ordered set.here newest there target.one_of_two)
