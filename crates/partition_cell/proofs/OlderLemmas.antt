-- Older stores are erased, one file after another.
use Rattle.std.proofs.Common.{◌≡◌, ◌≢◌, ◌⊎◌, inl, inr, ⊎_elim, ℕ, ◌+◌, ◌<◌, ◌≤◌, List, [], ◌∷◌, take, get_or, length, refl, sym, ◌∙◌, ap, subst, arith, slice_get, slice_set, Some, length-set, Result, Ok, Err, OnOk, true}
use Rattle.std.specs.Prelude.{Contains}
use Rattle.std.proofs.lemmas.Bool.{cases_eq}
use Rattle.std.proofs.lemmas.List.{take_more, take_all}
use Rattle.std.proofs.lemmas.List.Elements.{Contains-push_cases}
use Rattle.std.proofs.lemmas.Option.{slice_get_within}
use Rattle.cache_model.specs.Change.{Change}
use Rattle.disk_lane.specs.Lanes.{OnHost}
use Rattle.disk_lane.proofs.LaneLemmas.{some_same, disk_there, written_other, written_same, on_host, failed_on}
use Rattle.disk_trait.specs.View.{Image, View}
use Rattle.disk_trait.specs.Calls.{Moved, Rose}
use Rattle.disk_trait.specs.Moments.{After, Throughout, Onward}
use Rattle.disk_trait.specs.declared.DiskRefusal.{DiskRefusal}
use Rattle.disk_trait.specs.declared.DiskRefusal.TheVariants as refusals
use Rattle.disk_trait.proofs.Runs.{started, weakened, followed, holds_now, onward_none, onward_joined}
use Rattle.file_kinds.specs.Freeing.{IsFreeable}
use Rattle.file_kinds.specs.Kinds.{PartitionNumber, IsOfKind, MayCount}
use Rattle.file_kinds.specs.Order.{AreOfKind}
use Rattle.newest_store.specs.Choice.{OnlyReadsLane}
use Rattle.newest_store.specs.Clearing.{MayLoseSeal}
use Rattle.seal_gate.specs.Seal.{IsSealed, ButFirst, IsSettled, Each}
use Rattle.seal_gate.proofs.SealLemmas.{but_first_joined}
use Rattle.slot_board.specs.declared.board.Board.{Board}
use Rattle.slot_board.specs.declared.board.Slot.{Slot}
use Rattle.slot_board.specs.declared.board.SlotKind.{SlotKind}
use Rattle.slot_board.specs.declared.board.SlotKind.TheVariants.{Unknown}
use Rattle.slot_board.specs.Slots.{slot_at, hosts_of, told_by, unknown_slot, is_free, IsSet}
use Rattle.partition_cell.specs.declared.refusal.CellRefusal.{CellRefusal}
use Rattle.partition_cell.specs.declared.refusal.CellRefusal.TheVariants as cells
use Rattle.partition_cell.specs.Older.{IsOlderFile, ErasesOnly, ErasesOlderIn, AreFreed, IsDoneTo, IsErasureFault}
use Rattle.partition_cell.specs.Refusals.{cell_refusal}
use Rattle.partition_cell.proofs.BoardLemmas.{at_slot}
use Rattle.partition_cell.proofs.EventLemmas.{all_fit, host_moved}
use Rattle.partition_cell.proofs.MakeLemmas.{free_counts, free_known, free_is, settled_elsewhere}

-- ---- one file, one disk

seal_joined : (x y z : List ℕ) → MayLoseSeal x y → MayLoseSeal y z → MayLoseSeal x z
seal_joined x y z first second = ⊎_elim
    (λ same. ⊎_elim
    (λ again. inl (again ∙ same))
    (λ lost. inr (subst IsSealed same lost.0, subst (λ (l : List ℕ). ButFirst l z) same lost.1))
    second)
    (λ lost. ⊎_elim
    (λ again. inr (lost.0, subst (ButFirst x) (sym again) lost.1))
    (λ more. inr (lost.0, but_first_joined x y z lost.1 more.1))
    second)
    first

erases_none : (erased : ℕ → Type 0) (m : Image) → ErasesOnly erased m m
erases_none erased m = record { files = λ f. inl refl; others = λ f none. refl }

erases_joined : (erased : ℕ → Type 0) (o m n : Image) → ErasesOnly erased o m → ErasesOnly erased m n → ErasesOnly erased o n
erases_joined erased o m n first second = record {
  files = λ f. seal_joined (o f) (m f) (n f) (first.files f) (second.files f);
  others = λ f none. second.others f none ∙ first.others f none;
}

-- one file has lost its seal
erases_one : (erased : ℕ → Type 0) (file : ℕ) (o m : Image) → erased file → Moved file MayLoseSeal o m → ErasesOnly erased o m
erases_one erased file o m is moved = record {
  files = λ f. ⊎_elim
      (λ e. subst (λ (k : ℕ). MayLoseSeal (o k) (m k)) (sym e) moved.here)
      (λ ne. inl (moved.others f ne))
      (cases_eq f file);
  others = λ f none. moved.others f (λ e. none (subst erased (sym e) is));
}

-- an answer
pub on_ok : {T E : Type 0} (r : Result T E) (P Q : Type 0) → (P → Q) → OnOk r P → OnOk r Q
on_ok (Ok x) P Q less has = less has
on_ok (Err y) P Q less has = tt

-- the fault of one host is one of all
pub fault_among : {D : Type 0} (view : D → View) (hosts : List ℕ) (host : ℕ) (old new : List D) (fault : CellRefusal) → Contains hosts host → IsErasureFault view (host ∷ []) old new fault → IsErasureFault view hosts old new fault
fault_among view hosts host old new (cells.Fault h) listed is = (
  ⊎_elim (λ (none : Contains [] h). absurd (omega (arith, none.1))) (λ same. subst (Contains hosts) same listed) (Contains-push_cases [] host h is.0),
  is.1,
)
fault_among view hosts host old new cells.NoStore listed is = absurd is
fault_among view hosts host old new (cells.Damaged h f at) listed is = absurd is
fault_among view hosts host old new cells.NoMemory listed is = tt

-- ---- a lane

module _ {D : Type 0} (view : D → View) (hosts : List ℕ) (host file : ℕ) where
  abbrev Step : ℕ → Image → Image → Type 0
  Step h = ErasesOnly (IsOlderFile hosts host file h)

  pub lane_none : (disks : List D) → ErasesOlderIn view hosts host file disks disks
  lane_none disks = record {
    as_many = refl;
    moments = λ h before now was is.
        subst (λ (d : D). Throughout (view before) (view d) (After (view before) (Step h))) (some_same before now (slice_get disks h) was is)
        (started (view before) (After (view before) (Step h)) (λ m image. (m, image, erases_none (IsOlderFile hosts host file h) m)));
    onward = λ h before now was is. subst (λ (d : D). Onward (view before) (view d)) (some_same before now (slice_get disks h) was is) (onward_none (view before));
  }

  pub lane_joined : (a b c : List D) → ErasesOlderIn view hosts host file a b → ErasesOlderIn view hosts host file b c → ErasesOlderIn view hosts host file a c
  lane_joined a b c first second = record {
    as_many = second.as_many ∙ first.as_many;
    moments = λ h before now was is.
        let mid = disk_there b h (let within = slice_get_within a h before was in let many = first.as_many in omega (arith, within, many)) in
        followed (view before) (view mid.0) (view now) (Step h) (Step h) (Step h) (first.moments h before mid.0 was mid.1) (second.moments h mid.0 now mid.1 is)
        (λ o m image r. r)
        (λ o m n image also r s. erases_joined (IsOlderFile hosts host file h) o m n r s);
    onward = λ h before now was is.
        let mid = disk_there b h (let within = slice_get_within a h before was in let many = first.as_many in omega (arith, within, many)) in
        onward_joined (view before) (view mid.0) (view now) (first.onward h before mid.0 was mid.1) (second.onward h mid.0 now mid.1 is);
  }

  pub lane_read : (a b : List D) → OnlyReadsLane view a b → ErasesOlderIn view hosts host file a b
  lane_read a b reads = record {
    as_many = reads.as_many;
    moments = λ h before now was is.
        weakened (view before) (view now) (view before).images (After (view before) (Step h)) (reads.each h before now was is).moments
        (λ m image. (m, image, erases_none (IsOlderFile hosts host file h) m));
    onward = λ h before now was is. (reads.each h before now was is).onward;
  }

  -- the count of faults doesn't fall
  pub fault_later : (a b c : List D) (fault : CellRefusal) → ErasesOlderIn view hosts host file a b → IsErasureFault view hosts b c fault → IsErasureFault view hosts a c fault
  fault_later a b c (cells.Fault h) erases is =
      let failed = is.1 in
      let first = disk_there a h (let within = slice_get_within b h failed.before failed.was in let many = erases.as_many in omega (arith, within, many)) in (
        is.0,
        record {
          before = first.0;
          now = failed.now;
          was = first.1;
          is = failed.is;
          rose = λ below.
              let more = (erases.onward h first.0 failed.before first.1 failed.was).faults in
              let rose = failed.rose below in
              omega (arith, rose, more);
        },
      )
  fault_later a b c cells.NoStore erases is = absurd is
  fault_later a b c (cells.Damaged h f at) erases is = absurd is
  fault_later a b c cells.NoMemory erases is = tt

  -- one file of one host is freed, and it isn't the newest store's
  module _ (disks : List D) (k j : ℕ) (before now : D) (was : slice_get disks k ≡ Some before) (older : IsOlderFile hosts host file k j)
      (all : Throughout (view before) (view now) (After (view before) (Moved j MayLoseSeal))) (on : Onward (view before) (view now)) where
    each_host : (R : ℕ → D → D → Type 0) → R k before now → ((h : ℕ) (d : D) → R h d d) → (h : ℕ) → OnHost h disks (slice_set disks k now) (R h)
    each_host R here still h first last is_first is_last = ⊎_elim
        (λ e. subst (λ (x : ℕ). OnHost x disks (slice_set disks k now) (R x)) (sym e) (on_host view disks k before now was (R k) here) first last is_first is_last)
        (λ ne.
        let same : first ≡ last = some_same first last (slice_get disks h) is_first (sym (written_other disks k h now ne) ∙ is_last) in
        subst (λ (d : D). R h first d) same (still h first))
        (cases_eq h k)

    pub lane_one : ErasesOlderIn view hosts host file disks (slice_set disks k now)
    lane_one = record {
      as_many = length-set disks k now;
      moments = each_host (λ h a b. Throughout (view a) (view b) (After (view a) (Step h)))
          (weakened (view before) (view now) (After (view before) (Moved j MayLoseSeal)) (After (view before) (Step k)) all
          (λ m has. (has.0, has.1, erases_one (IsOlderFile hosts host file k) j has.0 m older has.2)))
          (λ h d. started (view d) (After (view d) (Step h)) (λ m image. (m, image, erases_none (IsOlderFile hosts host file h) m)));
      onward = each_host (λ h a b. Onward (view a) (view b)) on (λ h d. onward_none (view d));
    }

    pub erasure_fault : (r : DiskRefusal) → (r ≡ refusals.Failed → Rose (view before).faults (view now).faults) → IsErasureFault view hosts disks (slice_set disks k now) (cell_refusal k r)
    erasure_fault refusals.Failed rose = (older.listed, failed_on view disks k before now was (rose refl))
    erasure_fault refusals.NoMemory rose = tt

    pub disk_after : (last : D) → slice_get (slice_set disks k now) k ≡ Some last → now ≡ last
    disk_after last at = some_same now last (slice_get (slice_set disks k now) k) (written_same disks k now (slice_get_within disks k before was)) at

    -- settled files stay so
    pub settles : IsSettled (view now) j → ((f : ℕ) → f ≢ j → (view now).seen f ≡ (view before).seen f) → (f : ℕ) → OnHost k disks (slice_set disks k now) (λ a b. f ≤ 1 → IsSettled (view a) f → IsSettled (view b) f)
    settles settled seen f = on_host view disks k before now was (λ a b. f ≤ 1 → IsSettled (view a) f → IsSettled (view b) f)
        (λ le was_settled. ⊎_elim
        (λ one. subst (IsSettled (view now)) (sym one) settled)
        (λ ne. settled_elsewhere (view before) (view now) j f MayLoseSeal ne all (seen f ne) was_settled)
        (cases_eq f j))

    -- what is known of the files then
    module _ (kind : SlotKind) (free : is_free kind ≡ true) (spare : Each (view now) j (IsFreeable kind)) (settled : IsSettled (view now) j) (seen : (f : ℕ) → f ≢ j → (view now).seen f ≡ (view before).seen f)
        (board later : Board) (set : IsSet board later k j (record { kind = kind; version = 0 })) (freed : ℕ → ℕ → Type 0) (start : List D) (are : AreFreed view hosts host file freed start disks board) where
      abbrev slot : Slot
      slot = record { kind = kind; version = 0 }

      settled_now : (h f : ℕ) (disk : D) → Contains hosts h → f ≤ 1 → slice_get (slice_set disks k now) h ≡ Some disk → IsSettled (view disk) f
      settled_now h f disk listed le at = ⊎_elim
          (λ e.
          let same : now ≡ disk = disk_after disk (subst (λ (x : ℕ). slice_get (slice_set disks k now) x ≡ Some disk) e at) in
          subst (λ (d : D). IsSettled (view d) f) same (⊎_elim
          (λ one. subst (IsSettled (view now)) (sym one) settled)
          (λ ne. settled_elsewhere (view before) (view now) j f MayLoseSeal ne all (seen f ne) (are.settled k f before older.listed le was))
          (cases_eq f j)))
          (λ ne. are.settled h f disk listed le (sym (written_other disks k h now ne) ∙ at))
          (cases_eq h k)

      kinds_now : (number : PartitionNumber) (changes : List Change) → AreOfKind view (slice_set disks k now) later number changes []
      kinds_now number changes =
          all_fit view disks k before now was later number changes []
          (λ h disk ne at m is f le. subst (λ (s : Slot). IsOfKind number changes [] s.kind s.version (m f)) (sym (set.others h f le (λ same. ne same.0))) (are.kinds number changes h disk at m is f le))
          (λ m is.
          let from = holds_now (view before) (view now) (After (view before) (Moved j MayLoseSeal)) all m is in
          host_moved board later number changes [] changes [] k j (λ old new. IsFreeable kind new) from.0 m (are.kinds number changes k before was from.0 from.1)
          (record { here = spare m is; others = from.2.others })
          (λ le old new fit fine. subst (λ (s : Slot). IsOfKind number changes [] s.kind s.version new) (sym set.here) (free_is number changes kind new free fine))
          (λ f bytes le ne fit. subst (λ (s : Slot). IsOfKind number changes [] s.kind s.version bytes) (sym (set.others k f le (λ same. ne same.1))) fit))

      pub one_freed : AreFreed view hosts host file (λ h f. freed h f ⊎ ((h ≡ k) × (f ≡ j))) start (slice_set disks k now) later
      one_freed = record {
        lane = lane_joined start disks (slice_set disks k now) are.lane lane_one;
        settled = settled_now;
        as_many = set.hosts ∙ are.as_many;
        untold = let was_untold = are.untold in omega (arith, was_untold, set.told);
        none = λ h f le. at_slot board later k j slot set (λ s. MayCount s.kind → ⊥) h f le (λ same may. free_counts kind free may) (λ apart may. are.none h f le may);
        kinds = kinds_now;
        known = λ h f le is other. at_slot board later k j slot set (λ s. s.kind ≢ Unknown) h f le
            (λ same. free_known kind free)
            (λ apart. ⊎_elim (λ earlier. are.known h f le earlier other) (λ same. absurd (apart same)) is);
        unknown = λ h f le unlisted. at_slot board later k j slot set (λ s. s.kind ≡ Unknown) h f le
            (λ same. absurd (unlisted (subst (Contains hosts) (sym same.0) older.listed)))
            (λ apart. are.unknown h f le unlisted);
        one_of_two = are.one_of_two;
        newest = ap (λ (s : Slot). s.kind) (set.others host file are.one_of_two (λ same. older.other (sym same.0, sym same.1))) ∙ are.newest;
      }

  -- fewer files are named
  pub freed_weaker : (more fewer : ℕ → ℕ → Type 0) (start disks : List D) (board : Board) → ((h f : ℕ) → f ≤ 1 → fewer h f → ((h ≡ host) × (f ≡ file) → ⊥) → more h f) → AreFreed view hosts host file more start disks board → AreFreed view hosts host file fewer start disks board
  freed_weaker more fewer start disks board less are = record {
    lane = are.lane;
    settled = are.settled;
    as_many = are.as_many;
    untold = are.untold;
    none = are.none;
    kinds = are.kinds;
    known = λ h f le is other. are.known h f le (less h f le is other) other;
    unknown = are.unknown;
    one_of_two = are.one_of_two;
    newest = are.newest;
  }

  -- the newest store's file is left
  pub newest_left : (freed : ℕ → ℕ → Type 0) (start disks : List D) (board : Board) (k j : ℕ) → k ≡ host → j ≡ file → AreFreed view hosts host file freed start disks board
      → AreFreed view hosts host file (λ h f. freed h f ⊎ ((h ≡ k) × (f ≡ j))) start disks board
  newest_left freed start disks board k j one two are =
      freed_weaker freed (λ h f. freed h f ⊎ ((h ≡ k) × (f ≡ j))) start disks board
      (λ h f le is other. ⊎_elim (λ earlier. earlier) (λ same. absurd (other (same.0 ∙ one, same.1 ∙ two))) is)
      are

  -- one file more of a host
  pub one_more : (start disks : List D) (board : Board) (done : List ℕ) (k j : ℕ) → AreFreed view hosts host file (λ h f. IsDoneTo done k j h f ⊎ ((h ≡ k) × (f ≡ j))) start disks board
      → AreFreed view hosts host file (IsDoneTo done k (j + 1)) start disks board
  one_more start disks board done k j are =
      freed_weaker (λ h f. IsDoneTo done k j h f ⊎ ((h ≡ k) × (f ≡ j))) (IsDoneTo done k (j + 1)) start disks board
      (λ h f le is other. ⊎_elim
      (λ earlier. inl (inl earlier))
      (λ same. ⊎_elim (λ e. inr (same.0, e)) (λ ne. inl (inr (same.0, omega (arith, same.1, ne)))) (cases_eq f j))
      is)
      are

  -- before the first host
  pub none_freed : (disks : List D) (board : Board) → ((h f : ℕ) (disk : D) → Contains hosts h → f ≤ 1 → slice_get disks h ≡ Some disk → IsSettled (view disk) f) → ((h f : ℕ) → slot_at board h f ≡ unknown_slot) → hosts_of board ≡ length disks
      → told_by board ≡ 0 → file ≤ 1 → AreFreed view hosts host file (λ h f. Contains (take 0 hosts) h) disks disks board
  none_freed disks board settled unknown many untold one_of_two = record {
    lane = lane_none disks;
    settled = settled;
    as_many = many;
    untold = untold;
    none = λ h f le may. subst (λ (s : Slot). MayCount s.kind) (unknown h f) may;
    kinds = λ number changes h disk at m is f le. subst (λ (s : Slot). IsOfKind number changes [] s.kind s.version (m f)) (sym (unknown h f)) tt;
    known = λ h f le is other. absurd (omega (arith, is.1));
    unknown = λ h f le unlisted. ap (λ (s : Slot). s.kind) (unknown h f);
    one_of_two = one_of_two;
    newest = ap (λ (s : Slot). s.kind) (unknown host file);
  }

  -- one host more
  pub host_begun : (start disks : List D) (board : Board) (index k : ℕ) → AreFreed view hosts host file (λ h f. Contains (take index hosts) h) start disks board → AreFreed view hosts host file (IsDoneTo (take index hosts) k 0) start disks board
  host_begun start disks board index k are =
      freed_weaker (λ h f. Contains (take index hosts) h) (IsDoneTo (take index hosts) k 0) start disks board
      (λ h f le is other. ⊎_elim (λ earlier. earlier) (λ same. absurd (omega (arith, same.1))) is)
      are

  pub host_freed : (index d : ℕ) (start disks : List D) (board : Board) → index < length hosts → AreFreed view hosts host file (IsDoneTo (take index hosts) (get_or hosts index d) 2) start disks board
      → AreFreed view hosts host file (λ h f. Contains (take (index + 1) hosts) h) start disks board
  host_freed index d start disks board within are =
      freed_weaker (IsDoneTo (take index hosts) (get_or hosts index d) 2) (λ h f. Contains (take (index + 1) hosts) h) start disks board
      (λ h f le is other. ⊎_elim
      (λ earlier. inl earlier)
      (λ same. inr (sym same, omega (arith, le)))
      (Contains-push_cases (take index hosts) (get_or hosts index d) h (subst (λ (l : List ℕ). Contains l h) (take_more hosts index d within) is)))
      are

  -- after the last one
  pub all_freed : (index : ℕ) (start disks : List D) (board : Board) → length hosts ≤ index → AreFreed view hosts host file (λ h f. Contains (take index hosts) h) start disks board
      → AreFreed view hosts host file (λ h f. Contains hosts h) start disks board
  all_freed index start disks board past are = subst (λ (l : List ℕ). AreFreed view hosts host file (λ h f. Contains l h) start disks board) (take_all index hosts past) are
