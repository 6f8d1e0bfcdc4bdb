-- A cell of the newest store among several hosts.
use Rattle.std.proofs.Common.{◌≡◌, ◌≢◌, inl, inr, ⊎_elim, ℕ, ◌<◌, ◌≤◌, List, [], ◌∷◌, ◌++◌, take, drop, length, refl, sym, ◌∙◌, ap, subst, arith, slice_get, slice_set, Some, None, Option, true}
use Rattle.std.specs.Prelude.{Contains}
use Rattle.std.specs.List.{flat_map}
use Rattle.std.specs.Option.{option_map_or}
use Rattle.std.proofs.lemmas.Option.{slice_get_within}
use Rattle.std.proofs.Math.Seq.{take-append_seam}
use Rattle.cache_key.specs.declared.request.Mutation.{Mutation}
use Rattle.cache_model.specs.Change.{Change, changes_of, reset}
use Rattle.cache_model.specs.Contents.{SameContents}
use Rattle.cache_model.proofs.SameLemmas.{same_joined, same_turned}
use Rattle.disk_lane.proofs.LaneLemmas.{some_same, disk_there, written_same}
use Rattle.disk_trait.specs.View.{View, Tells}
use Rattle.disk_trait.specs.Calls.{Rose}
use Rattle.disk_trait.specs.Moments.{After}
use Rattle.disk_trait.proofs.Runs.{holds_now}
use Rattle.file_kinds.specs.Kinds.{PartitionNumber, IsOfKind, MayCount}
use Rattle.file_kinds.specs.Order.{IsOrdered, AreOfKind}
use Rattle.newest_store.specs.Choice.{seen_on, AllTell, OnlyReadsLane, IsNewestAmong, AreHeaded, IsChoiceFault}
use Rattle.newest_store.specs.declared.choice.ChoiceFault.{ChoiceFault}
use Rattle.newest_store.specs.declared.choice.ChoiceFault.TheVariants as choices
use Rattle.newest_store.proofs.ChoiceLemmas.{reads_joined, host_read}
use Rattle.partition_map.specs.After.{AgreesWith}
use Rattle.partition_map.specs.Extents.{Maps, caches_in}
use Rattle.record_form.specs.declared.header.Header.{Header}
use Rattle.seal_gate.specs.Seal.{IsSealed, IsSettled}
use Rattle.slot_board.specs.declared.board.Board.{Board}
use Rattle.slot_board.specs.declared.board.Slot.{Slot}
use Rattle.slot_board.specs.declared.board.SlotKind.{SlotKind}
use Rattle.slot_board.specs.declared.board.SlotKind.TheVariants.{Empty, Blank, Stale, Doubt, Current, Unknown}
use Rattle.slot_board.specs.Slots.{slot_at, told_by, is_free, IsSet}
use Rattle.store_journal.specs.AtRest.{AtRest, IsKeptIn}
use Rattle.store_journal.specs.ContentsOf.{HasContentsOf}
use Rattle.store_journal.specs.Created.{IsUnsealed}
use Rattle.store_journal.specs.Fault.{IsDamagedAt}
use Rattle.store_journal.specs.Loading.{IsLoaded, OnlyReads}
use Rattle.store_journal.specs.declared.fault.LoadFault.{LoadFault}
use Rattle.store_journal.specs.declared.fault.LoadFault.TheVariants as loads
use Rattle.store_journal.specs.declared.store.Store.{Store}
use Rattle.partition_cell.specs.Cells.{Cell, ByHost, IsKept}
use Rattle.partition_cell.specs.Loaded.{IsNewestFound, IsLoadRefusal, IsLoadedCell, ErasesBesideNewest, StandsThroughout, load_refusal, choice_refusal}
use Rattle.partition_cell.specs.Older.{IsOlderFile, ErasesOnly, ErasesOlderIn, AreFreed, IsErasureFault}
use Rattle.partition_cell.specs.declared.refusal.CellRefusal.{CellRefusal}
use Rattle.partition_cell.specs.declared.refusal.CellRefusal.TheVariants as cells
use Rattle.partition_cell.proofs.BoardLemmas.{same_or, at_slot}
use Rattle.partition_cell.proofs.CommitLemmas.{text_good}
use Rattle.partition_cell.proofs.ListLemmas.{reset_same}
use Rattle.partition_cell.proofs.OlderLemmas.{lane_read, lane_joined, fault_later}
use Rattle.partition_cell.proofs.ThroughoutLemmas.{listed_or, read_throughout, erased_throughout, stood_for}

-- ---- the search

-- a host of the list has a disk after the reads too
pub chosen_there : {D : Type 0} (view : D → View) (hosts : List ℕ) (old new : List D) (host : ℕ) → ((h : ℕ) → Contains hosts h → h < length old) → Contains hosts host → OnlyReadsLane view old new → host < length new
chosen_there view hosts old new host there listed reads = let many = reads.as_many in let within = there host listed in omega (arith, many, within)

module _ {D : Type 0} (view : D → View) (hosts : List ℕ) (old mid : List D) (reads : OnlyReadsLane view old mid) (host file : ℕ) (listed : Contains hosts host) (there : host < length old)
    (headed : AllTell view old hosts → AreHeaded (seen_on view old) hosts)
    (one_of_two : file ≤ 1) (newest : AllTell view old hosts → IsNewestAmong (seen_on view old) hosts host file) (before now : D) (was : slice_get mid host ≡ Some before) (loading : OnlyReads (view before) (view now)) where
  first : (d : D) × (slice_get old host ≡ Some d)
  first = disk_there old host there

  so_far : OnlyReads (view first.0) (view before)
  so_far = reads.each host first.0 before first.1 was

  seen_first : (f : ℕ) → seen_on view old host f ≡ (view before).seen f
  seen_first f = ap (λ (disk : Option D). option_map_or (λ (d : D). (view d).seen) disk (λ k. []) f) first.1 ∙ sym (so_far.same.seen f)

  tells : AllTell view old hosts → Tells (view before)
  tells all = so_far.onward.tells (all host first.0 listed first.1)

  pub all_reads : OnlyReadsLane view old (slice_set mid host now)
  all_reads = reads_joined view old mid reads (slice_set mid host now) (host_read view mid host before now was loading)

  pub store_found : (partitions : ℕ) (store : Store) (maps : Maps) → store.file ≡ file → ((disk : D) → slice_get old host ≡ Some disk → IsSettled (view disk) file)
      → HasContentsOf (IsLoaded (view before) (view now) partitions store) maps → HasContentsOf (IsNewestFound view hosts partitions old (slice_set mid host now) host store) maps
  store_found partitions store maps same settled has = record {
    mutations = has.mutations;
    so = record {
      groups = has.so.groups;
      joined = has.so.joined;
      headed = headed;
      newest = λ all. subst (IsNewestAmong (seen_on view old) hosts host) (sym same) (newest all);
      read = λ all. subst (IsKeptIn store (record { id = store.id; partitions = partitions }) has.so.groups) (sym (seen_first store.file)) (has.so.seen (tells all));
      at_rest = λ disk at.
          let one : now ≡ disk = some_same now disk (slice_get (slice_set mid host now) host) (written_same mid host now (slice_get_within mid host before was)) at in
          let still : IsSettled (view before) store.file = λ m is. subst (λ (k : ℕ). m k ≡ (view before).seen k) (sym same) (settled first.0 first.1 m (so_far.same.fewer m is) ∙ sym (so_far.same.seen file)) in
          subst (λ (d : D). AtRest (view d) store (record { id = store.id; partitions = partitions }) has.so.groups) one (has.so.at_rest still);
    };
    agrees = has.agrees;
  }

  pub load_refused : (number : PartitionNumber) (fault : LoadFault)
      → (fault ≡ loads.Failed → Rose (view before).faults (view now).faults)
      → (fault ≡ loads.NotSealed → Tells (view before) → IsUnsealed ((view before).seen file))
      → ((at : ℕ) → fault ≡ loads.Damaged at → Tells (view before) → IsDamagedAt ((view before).seen file) number.partition number.partitions at)
      → IsLoadRefusal view hosts number old (slice_set mid host now) (load_refusal host file fault)
  load_refused number loads.NotSealed failed unsealed damaged =
      (all_reads, λ all. absurd (unsealed refl (tells all) (subst IsSealed (seen_first file) (newest all).sealed)))
  load_refused number (loads.Damaged at) failed unsealed damaged =
      (all_reads, listed, one_of_two, λ all. inr (headed all, newest all, subst (λ (l : List ℕ). IsDamagedAt l number.partition number.partitions at) (sym (seen_first file)) (damaged at refl (tells all))))
  load_refused number loads.Failed failed unsealed damaged = (
    listed,
    record {
      before = first.0;
      now = now;
      was = first.1;
      is = written_same mid host now (slice_get_within mid host before was);
      rose = λ below. let rose = failed refl below in let more = so_far.onward.faults in omega (arith, rose, more);
    },
  )
  load_refused number loads.NoMemory failed unsealed damaged = tt

-- none was chosen
pub choice_refused : {D : Type 0} (view : D → View) (hosts : List ℕ) (number : PartitionNumber) (old new : List D) (fault : ChoiceFault) → OnlyReadsLane view old new → IsChoiceFault view old new hosts fault
    → IsLoadRefusal view hosts number old new (choice_refusal fault)
choice_refused view hosts number old new (choices.Failed h) reads is = is
choice_refused view hosts number old new (choices.Damaged h f at) reads is = (reads, is.0, is.1, λ all. inl (is.2 all))
choice_refused view hosts number old new choices.NoMemory reads is = tt

-- ---- the refusals

-- an erasure failed
pub erasure_refused : {D : Type 0} (view : D → View) (hosts : List ℕ) (number : PartitionNumber) (host file : ℕ) (old mid new : List D) (fault : CellRefusal) → OnlyReadsLane view old mid → IsErasureFault view hosts mid new fault
    → IsLoadRefusal view hosts number old new fault
erasure_refused view hosts number host file old mid new (cells.Fault h) reads is = fault_later view hosts host file old mid new (cells.Fault h) (lane_read view hosts host file old mid reads) is
erasure_refused view hosts number host file old mid new cells.NoStore reads is = absurd is
erasure_refused view hosts number host file old mid new (cells.Damaged h f at) reads is = absurd is
erasure_refused view hosts number host file old mid new cells.NoMemory reads is = tt

-- an erasure failed, beside the newest
pub beside_newest : {D : Type 0} (view : D → View) (hosts : List ℕ) (number : PartitionNumber) (old mid new : List D) (host : ℕ) (store : Store) (maps : Maps) → store.id.partition ≡ number.partition
    → HasContentsOf (IsNewestFound view hosts number.partitions old mid host store) maps → ErasesOlderIn view hosts host store.file old new → ErasesBesideNewest view hosts number old new
beside_newest view hosts number old mid new host store maps of_partition has erases = record {
  host = host;
  file = store.file;
  erases = erases;
  headed = has.so.headed;
  newest = has.so.newest;
  whole = λ all. (
    store.id.version,
    record {
      header = record { id = store.id; partitions = number.partitions };
      mutations = flat_map (λ group. group) has.so.groups;
      store = record { groups = has.so.groups; joined = refl; text = (has.so.read all).text };
      of_partition = of_partition;
      of_partitions = refl;
      as_told = refl;
    },
  );
}

-- ---- the cell

-- a file that doesn't count, and is known, is free
free_or : (kind : SlotKind) → (MayCount kind → ⊥) → kind ≢ Unknown → is_free kind ≡ true
free_or Empty none known = refl
free_or Blank none known = refl
free_or Stale none known = absurd (none tt)
free_or Doubt none known = absurd (none tt)
free_or Current none known = absurd (none tt)
free_or Unknown none known = absurd (known refl)

module _ {D : Type 0} (view : D → View) (hosts : List ℕ) (number : PartitionNumber) (old mid now : List D) (reads : OnlyReadsLane view old mid) (host : ℕ) (store : Store) (maps : Maps) (listed : Contains hosts host) (there : host < length old)
    (has : HasContentsOf (IsNewestFound view hosts number.partitions old mid host store) maps) (board later : Board) (are : AreFreed view hosts host store.file (λ h f. Contains hosts h) mid now board)
    (set : IsSet board later host store.file (record { kind = Current; version = store.id.version })) where
  abbrev slot : Slot
  slot = record { kind = Current; version = store.id.version }

  abbrev list : List Change
  list = reset (caches_in maps.extents) ∷ []

  abbrev header : Header
  header = record { id = store.id; partitions = number.partitions }

  abbrev changes : List Change
  changes = changes_of (flat_map (λ group. group) has.so.groups)

  agrees_so : AgreesWith changes maps
  agrees_so = subst (λ (l : List Mutation). AgreesWith (changes_of l) maps) has.so.joined has.agrees

  same_list : SameContents changes list
  same_list = same_turned list changes (reset_same changes (caches_in maps.extents) agrees_so.contents)

  only : (h f : ℕ) → f ≤ 1 → MayCount (slot_at later h f).kind → (h ≡ host) × (f ≡ store.file)
  only h f le may = ⊎_elim
      (λ same. same)
      (λ apart. absurd (are.none h f le (subst (λ (s : Slot). MayCount s.kind) (set.others h f le apart) may)))
      (same_or h f host store.file)

  is_current : (h f : ℕ) → f ≤ 1 → MayCount (slot_at later h f).kind → slot_at later h f ≡ slot
  is_current h f le may = let same = only h f le may in ap (λ (k : ℕ). slot_at later k f) same.0 ∙ ap (λ (j : ℕ). slot_at later host j) same.1 ∙ set.here

  told_is : told_by later ≡ store.id.version
  told_is = let untold = are.untold in omega (arith, untold, set.told)

  ordered : IsOrdered later host store.file
  ordered = record {
    one_of_two = are.one_of_two;
    there = let many = are.as_many in let as_many = reads.as_many in omega (arith, there, many, as_many, set.hosts);
    current = ap (λ (s : Slot). s.kind) set.here;
    alone = λ h f le is. only h f le (subst MayCount (sym is) tt);
    stale = λ h f le is. let e : Current ≡ Stale = sym (ap (λ (s : Slot). s.kind) (is_current h f le (subst MayCount (sym is) tt))) ∙ is in absurd (cc e);
    doubt = λ h f le is. let e : Current ≡ Doubt = sym (ap (λ (s : Slot). s.kind) (is_current h f le (subst MayCount (sym is) tt))) ∙ is in absurd (cc e);
    differ = λ h f k j le le' a b equal. let x = only h f le a in let y = only k j le' b in (x.0 ∙ sym y.0, x.1 ∙ sym y.1);
    told = λ h f le may. let v : (slot_at later h f).version ≡ store.id.version = ap (λ (s : Slot). s.version) (is_current h f le may) in let t = told_is in omega (arith, v, t);
  }

  known_now : (h f : ℕ) → f ≤ 1 → Contains hosts h → (slot_at later h f).kind ≢ Unknown
  known_now h f le is = at_slot board later host store.file slot set (λ s. s.kind ≢ Unknown) h f le
      (λ same e. let wrong : Current ≡ Unknown = e in cc wrong)
      (λ apart. are.known h f le is apart)

  unknown_now : (h f : ℕ) → f ≤ 1 → (Contains hosts h → ⊥) → (slot_at later h f).kind ≡ Unknown
  unknown_now h f le none = at_slot board later host store.file slot set (λ s. s.kind ≡ Unknown) h f le
      (λ same. absurd (none (subst (Contains hosts) (sym same.0) listed)))
      (λ apart. are.unknown h f le none)

  free_now : (h f : ℕ) → f ≤ 1 → Contains hosts h → ((h ≡ host) × (f ≡ store.file) → ⊥) → is_free (slot_at later h f).kind ≡ true
  free_now h f le is apart = free_or (slot_at later h f).kind (λ may. apart (only h f le may)) (known_now h f le is)

  by_host : ByHost later
  by_host h f j le le' is = ⊎_elim
      (λ inside. absurd (known_now h f le inside is))
      (λ none. unknown_now h j le' none)
      (listed_or hosts h)

  -- the store's file is as it was
  rests_now : (disk : D) → slice_get now host ≡ Some disk → AtRest (view disk) store header has.so.groups
  rests_now disk at m is =
      let before = disk_there mid host (let as_many = reads.as_many in omega (arith, there, as_many)) in
      let from = holds_now (view before.0) (view disk) (After (view before.0) (ErasesOnly (IsOlderFile hosts host store.file host))) (are.lane.moments host before.0 disk before.1 at) m is in
      subst (IsKeptIn store header has.so.groups) (sym (from.2.others store.file (λ older. older.other (refl, refl)))) (has.so.at_rest before.0 before.1 from.0 from.1)

  kinds_now : (of_partition : store.id.partition ≡ number.partition) → AreOfKind view now later number list []
  kinds_now of_partition h disk at m is f le = ⊎_elim
      (λ same.
      let here : slice_get now host ≡ Some disk = subst (λ (k : ℕ). slice_get now k ≡ Some disk) same.0 at in
      let kept = rests_now disk here m is in
      let good = text_good number list [] store.id.version header has.so.groups (m store.file) kept.text of_partition refl refl (inl same_list) in
      subst (λ (k : ℕ). IsOfKind number list [] (slot_at later k f).kind (slot_at later k f).version (m f)) (sym same.0)
      (subst (λ (j : ℕ). IsOfKind number list [] (slot_at later host j).kind (slot_at later host j).version (m j)) (sym same.1)
      (subst (λ (s : Slot). IsOfKind number list [] s.kind s.version (m store.file)) (sym set.here) good)))
      (λ apart. subst (λ (s : Slot). IsOfKind number list [] s.kind s.version (m f)) (sym (set.others h f le apart)) (are.kinds number list h disk at m is f le))
      (same_or h f host store.file)

  abbrev cell_now : Cell D
  cell_now = record {
    disks = now;
    board = later;
    number = number;
    owner = host;
    store = store;
    maps = maps;
    flight = None;
    moving = None;
  }

  pub loaded_kept : number.partition < number.partitions → number.partitions ≤ 257 → store.id.partition ≡ number.partition → IsKept view cell_now
  loaded_kept least most of_partition = record {
    hosts = are.lane.as_many ∙ sym are.as_many ∙ sym set.hosts;
    least = least;
    most = most;
    by_host = by_host;
    ordered = ordered;
    version = ap (λ (s : Slot). s.version) set.here;
    of_partition = of_partition;
    kinds = kinds_now of_partition;
    changes = changes;
    agrees = agrees_so;
    rests = λ _ disk at. record { groups = has.so.groups; at_rest = rests_now disk at; contents = same_list };
    moves = λ m is. let wrong : Some m ≡ None = sym is in absurd (cc wrong);
  }

  pub loaded_cell : store.id.partition ≡ number.partition → ((h : ℕ) → Contains hosts h → h < length old)
      → ((h f : ℕ) (disk : D) → Contains hosts h → f ≤ 1 → slice_get old h ≡ Some disk → IsSettled (view disk) f) → IsLoadedCell view hosts number old cell_now
  loaded_cell of_partition all_there settled =
      let erases = lane_joined view hosts host store.file old mid now (lane_read view hosts host store.file old mid reads) are.lane in
      record {
        sound = record {
          none = refl;
          no_doubt = λ h f le is. let e : Current ≡ Doubt = sym (ap (λ (s : Slot). s.kind) (is_current h f le (subst MayCount (sym is) tt))) ∙ is in cc e;
        };
        still = refl;
        number = refl;
        told = told_is;
        alone = record { listed = listed; known = known_now; free = free_now; unknown = unknown_now };
        headed = has.so.headed;
        newest = has.so.newest;
        groups = has.so.groups;
        read = has.so.read;
        contents = agrees_so;
        erases = erases;
        stands = erased_throughout view hosts old now all_there settled host store.file erases has.so.newest number;
        stood = λ all some leave alike is.
            same_joined leave changes list
            (stood_for (seen_on view old) hosts host store.file (has.so.newest all) some alike number leave is header has.so.groups (has.so.read all).text of_partition refl)
            same_list;
      }

-- ---- a slice of the lane

-- what is written back from a slice of all elements is the slice
slice_back : {X : Type 0} (old new : List X) (len : ℕ) → len ≡ length new → take len (new ++ drop (length new) old) ≡ new
slice_back old new len full = ap (λ (n : ℕ). take n (new ++ drop (length new) old)) full ∙ take-append_seam new (drop (length new) old)

module _ {D : Type 0} (view : D → View) (hosts : List ℕ) (number : PartitionNumber) (old first mid : List D) (len : ℕ) (full : len ≡ length old) (one : first ≡ old) (reads : OnlyReadsLane view first mid)
    (there : (h : ℕ) → Contains hosts h → h < length old) (settled : (h f : ℕ) (disk : D) → Contains hosts h → f ≤ 1 → slice_get old h ≡ Some disk → IsSettled (view disk) f) where
  abbrev left : List D
  left = take len (mid ++ drop (length mid) old)

  read_old : OnlyReadsLane view old mid
  read_old = subst (λ (l : List D). OnlyReadsLane view l mid) one reads

  left_is : left ≡ mid
  left_is = slice_back old mid len (let many = read_old.as_many in omega (arith, many, full))

  pub read_back : OnlyReadsLane view old left
  read_back = subst (λ (l : List D). OnlyReadsLane view old l) (sym left_is) read_old

  pub refused_back : (refusal : CellRefusal) → IsLoadRefusal view hosts number first mid refusal → IsLoadRefusal view hosts number old left refusal
  refused_back refusal is = subst (λ (l : List D). IsLoadRefusal view hosts number old l refusal) (sym left_is) (subst (λ (l : List D). IsLoadRefusal view hosts number l mid refusal) one is)

  pub stands_back : StandsThroughout view hosts number old left
  stands_back = read_throughout view hosts old left there settled number read_back

  module _ (second : List D) (two : second ≡ left) where
    second_is : second ≡ mid
    second_is = two ∙ left_is

    pub there_again : (h : ℕ) → Contains hosts h → h < length second
    there_again h listed = subst (λ (l : List D). h < length l) (sym second_is) (chosen_there view hosts old mid h there listed read_old)

    pub settled_again : (h f : ℕ) (disk : D) → Contains hosts h → f ≤ 1 → slice_get second h ≡ Some disk → IsSettled (view disk) f
    settled_again h f disk listed le at m is =
        let was = disk_there old h (there h listed) in
        let same = (read_old.each h was.0 disk was.1 (subst (λ (l : List D). slice_get l h ≡ Some disk) second_is at)).same in
        settled h f was.0 listed le was.1 m (same.fewer m is) ∙ sym (same.seen f)

    module _ (now : List D) (host : ℕ) (store : Store) (maps : Maps) (listed : Contains hosts host) (of_partition : store.id.partition ≡ number.partition)
        (found : HasContentsOf (IsNewestFound view hosts number.partitions first mid host store) maps) (erases : ErasesOlderIn view hosts host store.file second now) where
      abbrev after : List D
      after = take len (now ++ drop (length now) left)

      after_is : after ≡ now
      after_is = slice_back left now len (let many = erases.as_many in let same = ap (λ (l : List D). length l) second_is in let more = read_old.as_many in omega (arith, many, same, more, full))

      has : HasContentsOf (IsNewestFound view hosts number.partitions old mid host store) maps
      has = subst (λ (l : List D). HasContentsOf (IsNewestFound view hosts number.partitions l mid host store) maps) one found

      erased : ErasesOlderIn view hosts host store.file old now
      erased = lane_joined view hosts host store.file old mid now (lane_read view hosts host store.file old mid read_old) (subst (λ (l : List D). ErasesOlderIn view hosts host store.file l now) second_is erases)

      pub erasure_back : (refusal : CellRefusal) → IsErasureFault view hosts second now refusal → IsLoadRefusal view hosts number old after refusal
      erasure_back refusal is = subst (λ (l : List D). IsLoadRefusal view hosts number old l refusal) (sym after_is)
          (erasure_refused view hosts number host store.file old mid now refusal read_old (subst (λ (l : List D). IsErasureFault view hosts l now refusal) second_is is))

      pub beside_back : ErasesBesideNewest view hosts number old after
      beside_back = subst (λ (l : List D). ErasesBesideNewest view hosts number old l) (sym after_is) (beside_newest view hosts number old mid now host store maps of_partition has erased)

      pub erased_back : StandsThroughout view hosts number old after
      erased_back = subst (λ (l : List D). StandsThroughout view hosts number old l) (sym after_is) (erased_throughout view hosts old now there settled host store.file erased has.so.newest number)

      module _ (board later : Board) (are : AreFreed view hosts host store.file (λ h f. Contains hosts h) second now board) (set : IsSet board later host store.file (record { kind = Current; version = store.id.version })) where
        are_mid : AreFreed view hosts host store.file (λ h f. Contains hosts h) mid now board
        are_mid = subst (λ (l : List D). AreFreed view hosts host store.file (λ h f. Contains hosts h) l now board) second_is are

        abbrev cell_after : List D → Cell D
        cell_after disks = record {
          disks = disks;
          board = later;
          number = number;
          owner = host;
          store = store;
          maps = maps;
          flight = None;
          moving = None;
        }

        pub kept_back : number.partition < number.partitions → number.partitions ≤ 257 → IsKept view (cell_after after)
        kept_back least most = subst (λ (l : List D). IsKept view (cell_after l)) (sym after_is)
            (loaded_kept view hosts number old mid now read_old host store maps listed (there host listed) has board later are_mid set least most of_partition)

        pub loaded_back : IsLoadedCell view hosts number old (cell_after after)
        loaded_back = subst (λ (l : List D). IsLoadedCell view hosts number old (cell_after l)) (sym after_is)
            (loaded_cell view hosts number old mid now read_old host store maps listed (there host listed) has board later are_mid set of_partition there settled)
