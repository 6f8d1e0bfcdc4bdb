-- What is known of the files of the one disk: after a refusal, and of a cluster that is opened.
use Rattle.std.proofs.Common.{◌≡◌, ◌⊎◌, inl, inr, ⊎_elim, ℕ, zero, suc, ◌≤◌, arith, List, [], ◌∷◌, ◌++◌, length, slice_get, Some, refl, sym, ◌∙◌, ap, subst, Bool, true, false}
use Rattle.std.specs.Prelude.{IsTrue, Contains}
use Rattle.std.specs.List.{flat_map}
use Rattle.std.proofs.lemmas.Bool.{cases_eq}
use Rattle.cache_key.specs.declared.request.Mutation.{Mutation}
use Rattle.cache_model.specs.Change.{Change, changes_of}
use Rattle.cache_model.specs.Contents.{AreContentsAfter}
use Rattle.cache_model.proofs.SameLemmas.{same_joined}
use Rattle.disk_lane.proofs.LaneLemmas.{some_same}
use Rattle.disk_trait.specs.View.{Image, View, Tells}
use Rattle.disk_trait.specs.Moments.{After, Onward}
use Rattle.disk_trait.proofs.Runs.{holds_now}
use Rattle.file_kinds.specs.Kinds.{PartitionNumber}
use Rattle.newest_store.specs.Choice.{seen_on, AllTell, OnlyReadsLane, IsNewestAmong}
use Rattle.newest_store.specs.Clearing.{MayLoseSeal}
use Rattle.newest_store.specs.Newest.{files_of, IsNewest}
use Rattle.newest_store.proofs.NewestLemmas.{file_cases, newest_once}
use Rattle.partition_cell.specs.Cells.{Cell, caches_of, list_of, in_flight}
use Rattle.partition_cell.specs.Loaded.{IsLoadedCell, AreKnownAlone, KeepsNewest, StandsThroughout, IsLaneMoment, SameHosts}
use Rattle.partition_cell.specs.Older.{IsOlderFile, ErasesOnly, ErasesOlderIn}
use Rattle.partition_cell.specs.Standing.{IsLone}
use Rattle.partition_cell.proofs.ListLemmas.{reset_same}
use Rattle.seal_gate.specs.Seal.{IsSettled}
use Rattle.store_journal.specs.Stands.{StandsFor}
use Rattle.store_journal.specs.Text.{IsText, end_of}
use Rattle.cluster_commands.specs.Commands.{IsRecoveredAt, IsAsKnown}
use Rattle.cluster_commands.specs.OnDisk.{lane_view, IsClusterOf, HoldsKnown, FilesHold}
use Rattle.cluster_commands.specs.State.{OpenCluster, KnownStore, KnownFiles, unknown, no_store, store_in}
use Rattle.cluster_commands.specs.declared.cluster.Opened.{Opened}
use Rattle.cluster_commands.proofs.FilesLemmas.{onward_first, contents_of_same}
use Rattle.cluster_commands.proofs.FoundLemmas.{only_host, host_listed, newest_alone, KeepsItsNewest, was_sealed, holds_still, version_given, surely_found}

-- the one partition
abbrev pub the_partition : PartitionNumber
the_partition = record { partition = 0; partitions = 1 }

-- the one disk tells
pub all_tell : {D : Type 0} (view : D → View) (disk : D) → Tells (view disk) → AllTell view (disk ∷ []) (0 ∷ [])
all_tell {D} view disk tells h other listed at =
    let same : disk ≡ other = some_same disk other (slice_get (disk ∷ []) 0) refl (subst (λ (k : ℕ). slice_get (disk ∷ []) k ≡ Some other) (only_host h listed) at) in
    subst (λ (d : D). Tells (view d)) same tells

same_hosts : SameHosts (0 ∷ []) (0 ∷ [])
same_hosts h = (λ is. is, λ is. is)

-- ---- after a refusal

-- Nothing was written, or no file has changed but older ones beside the newest.
abbrev pub IsBesideNewest : {D : Type 0} → (D → View) → List D → List D → Type 0
IsBesideNewest view old new =
    OnlyReadsLane view old new ⊎ (host : ℕ) × (file : ℕ) × ErasesOlderIn view (0 ∷ []) host file old new × (AllTell view old (0 ∷ []) → IsNewestAmong (seen_on view old) (0 ∷ []) host file)

module _ {D : Type 0} (view : D → View) (before now : D) (first : IsSettled (view before) 0) (second : IsSettled (view before) 1) (keeps : IsBesideNewest view (before ∷ []) (now ∷ []))
    (stands : StandsThroughout view (0 ∷ []) the_partition (before ∷ []) (now ∷ [])) where
  abbrev v : View
  v = view before

  abbrev w : View
  w = view now

  settled : (f : ℕ) → f ≤ 1 → IsSettled v f
  settled f le = file_cases (λ k. IsSettled v k) f le first second

  later : v.clock ≤ w.clock
  later = ⊎_elim (λ reads. (reads.each 0 before now refl refl).moments.later) (λ erases. (erases.2.moments 0 before now refl refl).later) keeps

  -- an image of the disk now tells of it before
  stays : (m : Image) → w.images m → Tells v × KeepsItsNewest v.seen m
  stays m image = ⊎_elim
      (λ reads.
      let was = (reads.each 0 before now refl refl).same.fewer m image in
      (v.told m was, record { files = λ f le. inl (settled f le m was); newest = λ f is. settled f is.one_of_two m was }))
      (λ erases.
      let from = holds_now v w (After v (ErasesOnly (IsOlderFile (0 ∷ []) erases.0 erases.1 0))) (erases.2.moments 0 before now refl refl) m image in
      let tells = v.told from.0 from.1 in
      let best = erases.3 (all_tell view before tells) in (
        tells,
        record {
          files = λ f le. subst (λ (l : List ℕ). MayLoseSeal l (m f)) (settled f le from.0 from.1) (from.2.files f);
          newest = λ f is.
              let same = newest_once v.seen f erases.1 is (newest_alone (seen_on view (before ∷ [])) erases.0 erases.1 best) in
              from.2.others f (λ older. older.other (sym (only_host erases.0 best.listed), same)) ∙ settled f is.one_of_two from.0 from.1;
        },
      ))
      keeps

  moment : (m : Image) → w.images m → IsLaneMoment view (before ∷ []) (now ∷ []) (λ h. m)
  moment m image zero a b was is =
      let one : before ≡ a = cc in
      let two : now ≡ b = cc in
      subst (λ (d : D). (view b).since (view d).clock m) one (subst (λ (d : D). (view d).since v.clock m) two (w.counts_now v.clock m later image))
  moment m image (suc h) a b was is = absurd cc

  stands_still : (changes : List Change) (m : Image) → w.images m → StandsFor (files_of v.seen) 0 1 changes → StandsFor (files_of m) 0 1 changes
  stands_still changes m image is = stands (0 ∷ []) changes (λ h. m) same_hosts (moment m image) is

  stays_known : (files : KnownFiles) → FilesHold files v → FilesHold files w
  stays_known unknown hold = tt
  stays_known no_store hold = λ m image f le sealed. let is = stays m image in hold v.seen is.0 f le (was_sealed v.seen m is.1 f le sealed)
  stays_known (store_in known) hold = λ m image.
      let is = stays m image in
      ⊎_elim
      (λ old. inl (holds_still v.seen m is.1 known known.changes (stands_still known.changes m image old.stands) old))
      (λ new. inr (holds_still v.seen m is.1 known (known.changes ++ known.flight) (stands_still (known.changes ++ known.flight) m image new.stands) new))
      (hold v.seen is.0)

-- so the files hold what was known of them
beside_known : {D : Type 0} (view : D → View) (old new : List D) (files : KnownFiles) → length old ≡ 1 → length new ≡ length old → IsSettled (lane_view view old) 0 × IsSettled (lane_view view old) 1
    → IsBesideNewest view old new → StandsThroughout view (0 ∷ []) the_partition old new → FilesHold files (lane_view view old) → FilesHold files (lane_view view new)
beside_known view [] new files one two settled keeps stands hold = absurd (omega (arith, one))
beside_known view (a ∷ b ∷ rest) new files one two settled keeps stands hold = absurd (omega (arith, one))
beside_known view (before ∷ []) [] files one two settled keeps stands hold = absurd (omega (arith, two))
beside_known view (before ∷ []) (a ∷ b ∷ rest) files one two settled keeps stands hold = absurd (omega (arith, two))
beside_known view (before ∷ []) (now ∷ []) files one two settled keeps stands hold = stays_known view before now settled.0 settled.1 keeps stands files hold

module _ {D : Type 0} (view : D → View) (old new : List D) (one : length old ≡ 1) where
  as_many : KeepsNewest view (0 ∷ []) the_partition old new → length new ≡ length old
  as_many keeps = ⊎_elim (λ reads. reads.as_many) (λ erases. erases.erases.as_many) keeps

  module _ (keeps : KeepsNewest view (0 ∷ []) the_partition old new) where
    -- after a refusal
    pub refused_known : IsSettled (lane_view view old) 0 × IsSettled (lane_view view old) 1 → StandsThroughout view (0 ∷ []) the_partition old new
        → (files : KnownFiles) → FilesHold files (lane_view view old) → FilesHold files (lane_view view new)
    refused_known settled stands files hold =
        beside_known view old new files one (as_many keeps) settled (⊎_elim (λ reads. inl reads) (λ erases. inr (erases.host, erases.file, erases.erases, erases.newest)) keeps) stands hold

    pub refused_lane : (length new ≡ 1) × Onward (lane_view view old) (lane_view view new)
    refused_lane = (
      as_many keeps ∙ one,
      onward_first view old new one (as_many keeps) (⊎_elim (λ reads a b was is. (reads.each 0 a b was is).onward) (λ erases. erases.erases.onward 0) keeps),
    )

  -- the same where a cell was loaded
  module _ (cell : Cell D) (here : new ≡ cell.disks) (loaded : IsLoadedCell view (0 ∷ []) the_partition old cell) where
    pub loaded_known : IsSettled (lane_view view old) 0 × IsSettled (lane_view view old) 1 → (files : KnownFiles) → FilesHold files (lane_view view old) → FilesHold files (lane_view view new)
    loaded_known settled files hold = subst (λ (disks : List D). FilesHold files (lane_view view disks)) (sym here)
        (beside_known view old cell.disks files one loaded.erases.as_many settled (inr (cell.owner, cell.store.file, loaded.erases, loaded.newest)) loaded.stands hold)

    pub loaded_lane : (length new ≡ 1) × Onward (lane_view view old) (lane_view view new)
    loaded_lane = subst (λ (disks : List D). (length disks ≡ 1) × Onward (lane_view view old) (lane_view view disks)) (sym here)
        (loaded.erases.as_many ∙ one, onward_first view old cell.disks one loaded.erases.as_many (loaded.erases.onward 0))

-- ---- what is opened

-- the cluster that a recovery opens at this host, with this history
abbrev pub recovered_with : {D : Type 0} → List ℕ → Cell D → ℕ → List Change → OpenCluster
recovered_with host cell told changes = record {
  host = host;
  file = cell.store.file;
  id = cell.store.id;
  end = cell.store.end;
  told = told;
  changes = changes;
  flight = [];
  sound = true;
  lone = true;
  trail = 0;
}

-- a history that the cell has the contents of, which is that of the store that was known
abbrev pub IsHistoryOf : {D : Type 0} → List ℕ → Cell D → ℕ → KnownFiles → Bool → List Change → Type 0
IsHistoryOf host cell told files tells changes = AreContentsAfter changes (caches_of cell) × (IsTrue tells → IsAsKnown files (recovered_with host cell told changes))

module _ {D : Type 0} (view : D → View) (disk : D) (cell : Cell D) (loaded : IsLoadedCell view (0 ∷ []) the_partition (disk ∷ []) cell) (host : List ℕ) where
  abbrev seen : Image
  seen = (view disk).seen

  abbrev read_changes : List Change
  read_changes = changes_of (flat_map (λ group. group) loaded.groups)

  -- whatever the files stand for, the cell has its contents
  stood_contents : Tells (view disk) → (changes : List Change) → StandsFor (files_of seen) 0 1 changes → AreContentsAfter changes (caches_of cell)
  stood_contents tells changes is =
      let same = loaded.stood (all_tell view disk tells) (0 ∷ []) changes same_hosts is in
      contents_of_same changes read_changes (caches_of cell) (same_joined changes (list_of cell) read_changes same (reset_same read_changes (caches_of cell) loaded.contents.contents)) loaded.contents.contents

  newest_here : Tells (view disk) → IsNewest seen cell.store.file
  newest_here tells = newest_alone (seen_on view (disk ∷ [])) cell.owner cell.store.file (loaded.newest (all_tell view disk tells))

  text_here : Tells (view disk) → IsText (record { id = cell.store.id; partitions = 1 }) loaded.groups (seen cell.store.file)
  text_here tells = subst (λ (k : ℕ). IsText (record { id = cell.store.id; partitions = 1 }) loaded.groups (seen_on view (disk ∷ []) k cell.store.file)) (only_host cell.owner loaded.alone.listed) (loaded.read (all_tell view disk tells)).text

  with_known : Tells (view disk) → (known : KnownStore) (changes : List Change) → (changes ≡ known.changes) ⊎ (changes ≡ known.changes ++ known.flight) → HoldsKnown known changes seen
      → (found : List Change) × AreContentsAfter found (caches_of cell) × IsAsKnown (store_in known) (recovered_with host cell cell.store.id.version found)
  with_known tells known changes which has =
      let gate = (loaded.read (all_tell view disk tells)).gate in (
        changes,
        stood_contents tells changes has.stands,
        record {
          changes = which;
          told = version_given seen cell.store.file cell.store.end cell.store.id loaded.groups (newest_here tells) (text_here tells) gate known changes has;
          same = surely_found seen cell.store.file cell.store.end cell.store.id loaded.groups (newest_here tells) (text_here tells) gate known changes has;
        },
      )

  history : (files : KnownFiles) (tells : Bool) → (IsTrue tells → Tells (view disk)) → FilesHold files (view disk) → (changes : List Change) × IsHistoryOf host cell cell.store.id.version files tells changes
  history unknown tells does hold = (read_changes, (loaded.contents.contents, λ is. tt))
  history no_store tells does hold = (
    read_changes,
    (loaded.contents.contents, λ is. let newest = newest_here (does is) in hold seen (does is) cell.store.file newest.one_of_two newest.sealed),
  )
  history (store_in known) true does hold =
      let found = ⊎_elim (λ old. with_known (does refl) known known.changes (inl refl) old) (λ new. with_known (does refl) known (known.changes ++ known.flight) (inr refl) new) (hold seen (does refl)) in
      (found.0, (found.1, λ is. found.2))
  history (store_in known) false does hold = (read_changes, (loaded.contents.contents, λ is. absurd (cc is)))

-- so it is on the one disk of the lane
pub found_history : {D : Type 0} (view : D → View) (disks : List D) (cell : Cell D) (host : List ℕ) (files : KnownFiles) (tells : Bool) → length disks ≡ 1 → IsLoadedCell view (0 ∷ []) the_partition disks cell
    → (IsTrue tells → Tells (lane_view view disks)) → FilesHold files (lane_view view disks) → (changes : List Change) × IsHistoryOf host cell cell.store.id.version files tells changes
found_history view [] cell host files tells one loaded does hold = absurd (omega (arith, one))
found_history view (a ∷ b ∷ rest) cell host files tells one loaded does hold = absurd (omega (arith, one))
found_history view (disk ∷ []) cell host files tells one loaded does hold = history view disk cell loaded host files tells does hold

-- beside what was loaded no other file is sealed
lone_alone : {D : Type 0} (cell : Cell D) → AreKnownAlone (0 ∷ []) cell → IsLone cell
lone_alone cell alone = record {
  free = λ h f recorded le other. ⊎_elim
      (λ (e : h ≡ 0). alone.free h f le (subst (λ (k : ℕ). Contains (0 ∷ []) k) (sym e) host_listed) other)
      (λ ne. absurd (recorded.known f le (alone.unknown h f le (λ listed. ne (only_host h listed)))))
      (cases_eq h 0);
}

-- the code has that cluster
pub is_recovered : {D : Type 0} (view : D → View) (disks : List D) (open_ : Opened D) (changes : List Change) → IsLoadedCell view (0 ∷ []) the_partition disks open_.kept.cell → open_.kept.trail.entries ≡ [] → AreContentsAfter changes (caches_of open_.kept.cell)
    → IsClusterOf open_ (recovered_with open_.host open_.kept.cell open_.kept.cell.store.id.version changes)
is_recovered view disks open_ changes loaded none are = record {
  host = refl;
  file = refl;
  id = refl;
  end = refl;
  told = sym loaded.told;
  contents = are;
  flight = sym (ap in_flight loaded.sound.none);
  sound = (λ is. loaded.sound, λ is. refl);
  lone = λ is. lone_alone open_.kept.cell loaded.alone;
  trail = sym (ap length none);
}

pub recovered_at : {D : Type 0} (host named : List ℕ) (cell : Cell D) (changes : List Change) → named ≡ host → IsRecoveredAt host (recovered_with named cell cell.store.id.version changes)
recovered_at host named cell changes same = record { host_is = same; told = refl; none = refl; sound = refl; lone = refl; trail = refl }
