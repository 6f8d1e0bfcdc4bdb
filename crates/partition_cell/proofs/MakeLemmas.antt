-- The first store of a partition.
use Rattle.std.proofs.Common.{◌≡◌, ◌≢◌, inl, inr, ⊎_elim, ℕ, ◌<◌, ◌≤◌, List, [], ◌∷◌, length, refl, sym, ◌∙◌, ap, subst, arith, slice_get, slice_set, Some, None, length-set, true, false}
use Rattle.std.proofs.lemmas.Bool.{cases_eq}
use Rattle.cache_model.specs.Change.{Change, reset}
use Rattle.cache_model.specs.Contents.{SameContents}
use Rattle.store_ident.specs.declared.ident.StoreId.{StoreId}
use Rattle.disk_trait.specs.View.{Image, View}
use Rattle.disk_trait.specs.Calls.{Moved}
use Rattle.disk_trait.specs.Moments.{Now, After, Throughout, Onward}
use Rattle.disk_trait.proofs.Runs.{holds_now, followed, weakened}
use Rattle.seal_gate.proofs.SealLemmas.{but_first_none}
use Rattle.store_journal.specs.Created.{IsFreed, IsBegun}
use Rattle.partition_cell.specs.Made.{IsMaking, MakingOn}
use Rattle.record_form.specs.declared.header.Header.{Header}
use Rattle.seal_gate.specs.Seal.{Each, IsSettled}
use Rattle.slot_board.specs.declared.board.Board.{Board}
use Rattle.slot_board.specs.declared.board.Slot.{Slot}
use Rattle.slot_board.specs.declared.board.SlotKind.{SlotKind}
use Rattle.slot_board.specs.declared.board.SlotKind.TheVariants.{Empty, Blank, Stale, Doubt, Current, Unknown}
use Rattle.slot_board.specs.Slots.{slot_at, hosts_of, told_by, unknown_slot, is_free, IsSet}
use Rattle.store_journal.specs.AtRest.{AtRest}
use Rattle.store_journal.specs.declared.store.Store.{Store}
use Rattle.file_kinds.specs.Freeing.{IsFreeable}
use Rattle.file_kinds.specs.Kinds.{PartitionNumber, IsGood, IsOfKind, MayCount}
use Rattle.partition_cell.specs.Cells.{ByHost, IsKept}
use Rattle.file_kinds.specs.Order.{IsOrdered, HostIsOfKind}
use Rattle.cache_model.proofs.SameLemmas.{same_turned}
use Rattle.partition_cell.proofs.ListLemmas.{reset_same}
use Rattle.partition_map.specs.After.{AgreesWith}
use Rattle.partition_map.specs.Extents.{Maps, caches_in}
use Rattle.disk_lane.specs.Lanes.{Beside, LaneEvent}
use Rattle.disk_lane.proofs.LaneLemmas.{some_same, event}
use Rattle.partition_cell.proofs.EventLemmas.{all_fit, disk_now}
use Rattle.partition_cell.proofs.CommitLemmas.{text_good}

abbrev first_slot : Slot
first_slot = record { kind = Current; version = 1 }

abbrev second_slot : SlotKind → Slot
second_slot kind = record { kind = kind; version = 0 }

-- a free file doesn't count, and is known
pub free_counts : (kind : SlotKind) → is_free kind ≡ true → MayCount kind → ⊥
free_counts Empty free may = may
free_counts Blank free may = may
free_counts Stale free may = cc free
free_counts Doubt free may = cc free
free_counts Current free may = cc free
free_counts Unknown free may = may

pub free_known : (kind : SlotKind) → is_free kind ≡ true → kind ≢ Unknown
free_known kind free is = let wrong : false ≡ true = ap is_free (sym is) ∙ free in cc wrong

free_fresh : (kind other : SlotKind) → is_free kind ≡ true → MayCount other → kind ≡ other → ⊥
free_fresh kind other free may is = free_counts kind free (subst MayCount (sym is) may)

-- and holds what its kind says
pub free_is : (number : PartitionNumber) (changes : List Change) (kind : SlotKind) (bytes : List ℕ) → is_free kind ≡ true → IsFreeable kind bytes → IsOfKind number changes [] kind 0 bytes
free_is number changes Empty bytes free is = is
free_is number changes Blank bytes free is = is
free_is number changes Stale bytes free is = absurd (cc free)
free_is number changes Doubt bytes free is = absurd (cc free)
free_is number changes Current bytes free is = absurd (cc free)
free_is number changes Unknown bytes free is = absurd (cc free)

module _ (kind : SlotKind) (free : is_free kind ≡ true) (none one board : Board) (host : ℕ) (unknown : (h f : ℕ) → slot_at none h f ≡ unknown_slot) (untold : told_by none ≡ 0) (there : host < hosts_of none) (first : IsSet none one host 0 first_slot) (second : IsSet one board host 1 (second_slot kind)) where
  at_first : slot_at board host 0 ≡ first_slot
  at_first = second.others host 0 (omega arith) (λ same. let e : 0 ≡ 1 = same.1 in omega (arith, e)) ∙ first.here

  at_second : slot_at board host 1 ≡ second_slot kind
  at_second = second.here

  elsewhere : (h f : ℕ) → f ≤ 1 → h ≢ host → slot_at board h f ≡ unknown_slot
  elsewhere h f le ne = second.others h f le (λ same. ne same.0) ∙ first.others h f le (λ same. ne same.0) ∙ unknown h f

  -- what is so of each of the three
  by_slot : (P : ℕ → ℕ → Slot → Type 0) → P host 0 first_slot → P host 1 (second_slot kind) → ((h f : ℕ) → h ≢ host → P h f unknown_slot) → (h f : ℕ) → f ≤ 1 → P h f (slot_at board h f)
  by_slot P a b c h f le = ⊎_elim
      (λ e. subst (λ (k : ℕ). P k f (slot_at board k f)) (sym e) (⊎_elim
      (λ zero. subst (λ (j : ℕ). P host j (slot_at board host j)) (sym zero) (subst (λ (s : Slot). P host 0 s) (sym at_first) a))
      (λ other. let is : f ≡ 1 = omega (arith, le, other) in subst (λ (j : ℕ). P host j (slot_at board host j)) (sym is) (subst (λ (s : Slot). P host 1 s) (sym at_second) b))
      (cases_eq f 0)))
      (λ ne. subst (λ (s : Slot). P h f s) (sym (elsewhere h f le ne)) (c h f ne))
      (cases_eq h host)

  only : (h f : ℕ) → f ≤ 1 → MayCount (slot_at board h f).kind → (h ≡ host) × (f ≡ 0)
  only = by_slot (λ h f s. MayCount s.kind → (h ≡ host) × (f ≡ 0)) (λ may. (refl, refl)) (λ may. absurd (free_counts kind free may)) (λ h f ne may. absurd may)

  abbrev version_here : ℕ
  version_here = (slot_at board host 0).version

  version_is : (slot_at board host 0).version ≡ 1
  version_is = ap (λ (s : Slot). s.version) at_first

  pub made_ordered : IsOrdered board host 0
  made_ordered = record {
    one_of_two = omega arith;
    there = omega (arith, there, first.hosts, second.hosts);
    current = ap (λ (s : Slot). s.kind) at_first;
    alone = λ h f le is. only h f le (subst MayCount (sym is) tt);
    stale = by_slot (λ h f s. s.kind ≡ Stale → s.version < (slot_at board host 0).version)
        (λ is. let e : Current ≡ Stale = is in absurd (cc e)) (λ is. absurd (free_fresh kind Stale free tt is)) (λ h f ne is. let e : Unknown ≡ Stale = is in absurd (cc e));
    doubt = by_slot (λ h f s. s.kind ≡ Doubt → (slot_at board host 0).version < s.version)
        (λ is. let e : Current ≡ Doubt = is in absurd (cc e)) (λ is. absurd (free_fresh kind Doubt free tt is)) (λ h f ne is. let e : Unknown ≡ Doubt = is in absurd (cc e));
    differ = λ h f k j le le' a b equal. let x = only h f le a in let y = only k j le' b in (x.0 ∙ sym y.0, x.1 ∙ sym y.1);
    told = by_slot (λ h f s. MayCount s.kind → s.version ≤ told_by board) (λ may. omega (arith, first.told, second.told)) (λ may. absurd (free_counts kind free may)) (λ h f ne may. absurd may);
  }

  -- beside it no file is sealed
  pub made_lone : (h f : ℕ) → ((j : ℕ) → j ≤ 1 → (slot_at board h j).kind ≢ Unknown) → f ≤ 1 → ((h ≡ host) × (f ≡ 0) → ⊥) → is_free (slot_at board h f).kind ≡ true
  made_lone h f known le other = by_slot (λ k j s. ((k ≡ host) × (j ≡ 0) → ⊥) → s.kind ≢ Unknown → is_free s.kind ≡ true)
      (λ other known. absurd (other (refl, refl))) (λ other known. free) (λ k j ne other known. absurd (known refl)) h f le other (known f le)

  pub made_by_host : ByHost board
  made_by_host h f j le le' is = ⊎_elim
      (λ e. absurd (subst (λ (k : ℕ). (slot_at board k f).kind ≡ Unknown → ⊥) (sym e)
      (by_slot (λ k i s. k ≡ host → s.kind ≡ Unknown → ⊥) (λ same is. let e : Current ≡ Unknown = is in cc e) (λ same is. free_known kind free is) (λ k i ne same is. ne same) host f le refl) is))
      (λ ne. ap (λ (s : Slot). s.kind) (elsewhere h j le' ne))
      (cases_eq h host)

  module _ {D : Type 0} (view : D → View) (disks : List D) (number : PartitionNumber) (many : length disks ≡ hosts_of none) (least : number.partition < number.partitions) (most : number.partitions ≤ 257)
      (disk : D) (was : slice_get disks host ≡ Some disk) (now : D) (header : Header) (of_partition : header.id.partition ≡ number.partition) (of_partitions : header.partitions ≡ number.partitions) (version : header.id.version ≡ 1)
      (spare : Each (view now) 1 (IsFreeable kind))
      (maps : Maps) (empty : AgreesWith [] maps)
      (store : Store) (rests : AtRest (view now) store header []) (file : store.file ≡ 0) (id : store.id ≡ header.id) where
    abbrev list : List Change
    list = reset (caches_in maps.extents) ∷ []

    nothing : SameContents [] list
    nothing = same_turned list [] (reset_same [] (caches_in maps.extents) empty.contents)

    host_fits : Now (view now) (HostIsOfKind board number list [] host)
    host_fits m is f le = ⊎_elim
        (λ zero.
        let kept = rests m is in
        let good = text_good number list [] 1 header [] (m store.file) kept.text of_partition of_partitions version (inl nothing) in
        subst (λ (j : ℕ). IsOfKind number list [] (slot_at board host j).kind (slot_at board host j).version (m j)) (sym zero)
        (subst (λ (s : Slot). IsOfKind number list [] s.kind s.version (m 0)) (sym at_first) (subst (λ (j : ℕ). IsGood number list [] 1 (m j)) file good)))
        (λ other.
        let e : f ≡ 1 = omega (arith, le, other) in
        subst (λ (j : ℕ). IsOfKind number list [] (slot_at board host j).kind (slot_at board host j).version (m j)) (sym e)
        (subst (λ (s : Slot). IsOfKind number list [] s.kind s.version (m 1)) (sym at_second) (free_is number list kind (m 1) free (spare m is))))
        (cases_eq f 0)

    others : (h : ℕ) (other : D) → h ≢ host → slice_get disks h ≡ Some other → Now (view other) (HostIsOfKind board number list [] h)
    others h other ne at m is f le = subst (λ (s : Slot). IsOfKind number list [] s.kind s.version (m f)) (sym (elsewhere h f le ne)) tt

    pub made_kept : IsKept view (record {
      disks = slice_set disks host now;
      board = board;
      number = number;
      owner = host;
      store = store;
      maps = maps;
      flight = None;
      moving = None;
    })
    made_kept = record {
      hosts = length-set disks host now ∙ many ∙ sym first.hosts ∙ sym second.hosts;
      least = least;
      most = most;
      by_host = made_by_host;
      ordered = subst (λ (k : ℕ). IsOrdered board host k) (sym file) made_ordered;
      version = ap (λ (k : ℕ). (slot_at board host k).version) file ∙ version_is ∙ sym version ∙ sym (ap (λ (i : StoreId). i.version) id);
      of_partition = ap (λ (i : StoreId). i.partition) id ∙ of_partition;
      kinds = all_fit view disks host disk now was board number list [] others host_fits;
      changes = [];
      agrees = empty;
      rests = λ _ d at.
          let same : now ≡ d = disk_now view disks host disk now was d at in
          let first_part : header ≡ record { id = store.id; partitions = header.partitions } = ap (λ (i : StoreId). record { id = i; partitions = header.partitions }) (sym id) in
          let again : header ≡ record { id = store.id; partitions = number.partitions } = first_part ∙ ap (λ (n : ℕ). record { id = store.id; partitions = n }) of_partitions in
          record {
            groups = [];
            at_rest = subst (λ (x : D). AtRest (view x) store (record { id = store.id; partitions = number.partitions }) []) same (subst (λ (h : Header). AtRest (view now) store h []) again rests);
            contents = nothing;
          };
      moves = λ m is. let wrong : Some m ≡ None = sym is in absurd (cc wrong);
    }

-- a disk's settled file stays so while another is written
pub settled_elsewhere : (a b : View) (file other : ℕ) (step : List ℕ → List ℕ → Type 0) → other ≢ file → Throughout a b (After a (Moved file step)) → b.seen other ≡ a.seen other → IsSettled a other → IsSettled b other
settled_elsewhere a b file other step ne all seen settled m is =
    let from = holds_now a b (After a (Moved file step)) all m is in
    from.2.others other ne ∙ settled from.0 from.1 ∙ sym seen

-- the one file is made free, and then the store is made in the other
pub making : (a b c : View) (header : Header) → Throughout a b (After a (Moved 1 IsFreed)) → Throughout b c (After b (Moved 0 (IsBegun header))) → Throughout a c (After a (IsMaking header))
making a b c header first second =
    followed a b c (Moved 1 IsFreed) (Moved 0 (IsBegun header)) (IsMaking header) first second
    (λ o m is moved. record {
      first = subst (λ (l : List ℕ). IsBegun header (o 0) l) (sym (moved.others 0 (λ (e : 0 ≡ 1). omega (arith, e)))) (inl (inr (but_first_none (o 0))));
      second = moved.here;
      others = λ f two. moved.others f (λ e. omega (arith, e, two));
    })
    (λ o m n is mid moved then. record {
      first = subst (λ (l : List ℕ). IsBegun header l (n 0)) (moved.others 0 (λ (e : 0 ≡ 1). omega (arith, e))) then.here;
      second = subst (λ (l : List ℕ). IsFreed (o 1) l) (sym (then.others 1 (λ (e : 1 ≡ 0). omega (arith, e)))) moved.here;
      others = λ f two. then.others f (λ e. omega (arith, e, two)) ∙ moved.others f (λ e. omega (arith, e, two));
    })

-- file 1 was freed, and no store was begun
pub making_none : (a b : View) (header : Header) → Throughout a b (After a (Moved 1 IsFreed)) → Throughout a b (After a (IsMaking header))
making_none a b header all = weakened a b (After a (Moved 1 IsFreed)) (After a (IsMaking header)) all
    (λ m has. (
      has.0,
      has.1,
      record {
        first = subst (λ (l : List ℕ). IsBegun header (has.0 0) l) (sym (has.2.others 0 (λ (e : 0 ≡ 1). omega (arith, e)))) (inl (inr (but_first_none (has.0 0))));
        second = has.2.here;
        others = λ f two. has.2.others f (λ e. omega (arith, e, two));
      },
    ))

-- so it is in the whole lane
pub made_event : {D : Type 0} (view : D → View) (disks : List D) (host : ℕ) (before now : D) (was : slice_get disks host ≡ Some before) (header : Header) → Throughout (view before) (view now) (After (view before) (IsMaking header)) → Onward (view before) (view now)
    → LaneEvent view host disks (slice_set disks host now) (MakingOn view host disks header)
made_event view disks host before now was header all on =
    event view disks host before now was (MakingOn view host disks header)
    (weakened (view before) (view now) (After (view before) (IsMaking header)) (Beside view disks host (MakingOn view host disks header)) all
    (λ m has ms same elsewhere first at.
    let one : before ≡ first = some_same before first (slice_get disks host) was at in
    subst (λ d. (o : Image) × (view d).images o × IsMaking header o (ms host)) one (has.0, has.1, subst (λ (i : Image). IsMaking header has.0 i) (sym same) has.2)))
    on
