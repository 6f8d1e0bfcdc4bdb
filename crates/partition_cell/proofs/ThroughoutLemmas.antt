-- While older stores are erased, the files of a lane stand for what they stood for.
use Rattle.std.proofs.Common.{◌≡◌, ◌≢◌, ◌⊎◌, inl, inr, ⊎_elim, ℕ, ◌<◌, ◌≤◌, List, [], ◌∷◌, ◌++◌, take, drop, length, slice_get, Some, Option, refl, sym, ◌∙◌, ap, subst, arith}
use Rattle.std.specs.Prelude.{Contains, All}
use Rattle.std.specs.List.{flat_map}
use Rattle.std.specs.Option.{option_map_or}
use Rattle.std.proofs.lemmas.Bool.{cases_eq}
use Rattle.std.proofs.lemmas.List.{drop-drop}
use Rattle.std.proofs.lemmas.List.Elements.{All-nil, All-cons, All-head, All-tail, All-contains, Contains-append_left, Contains-append_right, Contains-append_cases, Contains-push, Contains-push_cases}
use Rattle.byte_fields.specs.Numbers.{big_endian}
use Rattle.cache_key.specs.declared.request.Mutation.{Mutation}
use Rattle.cache_model.specs.Change.{Change, changes_of}
use Rattle.cache_model.specs.Contents.{SameContents}
use Rattle.cache_model.proofs.SameLemmas.{same_itself}
use Rattle.disk_lane.specs.Lanes.{LaneImage, files_on}
use Rattle.disk_lane.proofs.LaneLemmas.{disk_there}
use Rattle.disk_trait.specs.View.{Image, View}
use Rattle.disk_trait.specs.Moments.{After}
use Rattle.file_kinds.specs.Kinds.{PartitionNumber}
use Rattle.newest_store.specs.Choice.{seen_on, AllTell, OnlyReadsLane, IsNewestAmong}
use Rattle.newest_store.specs.Clearing.{MayLoseSeal}
use Rattle.record_form.specs.declared.header.Header.{Header}
use Rattle.seal_gate.specs.Seal.{IsSealed, ButFirst, IsSettled}
use Rattle.store_journal.specs.Stands.{version_in, IsOlder, StandsFor}
use Rattle.store_journal.specs.Text.{IsText}
use Rattle.store_journal.proofs.StandsLemmas.{stands_once}
use Rattle.partition_cell.specs.Loaded.{IsLaneMoment, SameHosts, StandOn, StandsThroughout}
use Rattle.partition_cell.specs.Older.{IsOlderFile, ErasesOnly, ErasesOlderIn}
use Rattle.partition_cell.proofs.BoardLemmas.{same_or}

-- ---- hosts of a list

-- the only host of a list of one
sole_host : (host other : ℕ) → Contains (host ∷ []) other → host ≡ other
sole_host host other there = ⊎_elim (λ (none : Contains [] other). absurd (omega (arith, none.1))) (λ is. is) (Contains-push_cases [] host other there)

-- the first of a list is in it, and what is in the rest
first_in : {X : Type 0} (x : X) (xs : List X) → Contains (x ∷ xs) x
first_in x xs = Contains-append_left (x ∷ []) xs x (Contains-push [] x)

later_in : {X : Type 0} (x y : X) (xs : List X) → Contains xs y → Contains (x ∷ xs) y
later_in x y xs is = Contains-append_right (x ∷ []) xs y is

in_cases : (x y : ℕ) (xs : List ℕ) → Contains (x ∷ xs) y → (x ≡ y) ⊎ Contains xs y
in_cases x y xs is = ⊎_elim (λ first. inl (sole_host x y first)) inr (Contains-append_cases (x ∷ []) xs y is)

-- a host is in the list, or it isn't
pub listed_or : (hosts : List ℕ) (h : ℕ) → Contains hosts h ⊎ (Contains hosts h → ⊥)
listed_or [] h = inr (λ there. absurd (omega (arith, there.1)))
listed_or (x ∷ hosts) h = ⊎_elim
    (λ e. inl (subst (λ (y : ℕ). Contains (y ∷ hosts) h) e (first_in h hosts)))
    (λ ne. ⊎_elim
    (λ later. inl (later_in x h hosts later))
    (λ none. inr (λ there. ⊎_elim (λ first. ne (sym first)) none (in_cases x h hosts there)))
    (listed_or hosts h))
    (cases_eq h x)

-- one of two files
two_files : (P : ℕ → Type 0) (f : ℕ) → f ≤ 1 → P 0 → P 1 → P f
two_files P f le zero one = ⊎_elim
    (λ e. subst P (sym e) zero)
    (λ ne. let e : 1 ≡ f = omega (arith, le, ne) in subst P e one)
    (cases_eq f 0)

file_in : (ms : LaneImage) (hosts : List ℕ) (h f : ℕ) → Contains hosts h → f ≤ 1 → Contains (files_on ms hosts) (ms h f)
file_in ms [] h f is le = absurd (omega (arith, is.1))
file_in ms (k ∷ hosts) h f is le = ⊎_elim
    (λ same. subst (λ (x : ℕ). Contains (ms k 0 ∷ ms k 1 ∷ files_on ms hosts) (ms x f)) same
    (two_files (λ j. Contains (ms k 0 ∷ ms k 1 ∷ files_on ms hosts) (ms k j)) f le
    (first_in (ms k 0) (ms k 1 ∷ files_on ms hosts))
    (later_in (ms k 0) (ms k 1) (ms k 1 ∷ files_on ms hosts) (first_in (ms k 1) (files_on ms hosts)))))
    (λ later. later_in (ms k 0) (ms h f) (ms k 1 ∷ files_on ms hosts) (later_in (ms k 1) (ms h f) (files_on ms hosts) (file_in ms hosts h f later le)))
    (in_cases k h hosts is)

-- the same bytes on each host
alike_files : (os ms : LaneImage) (list : List ℕ) → ((h f : ℕ) → Contains list h → f ≤ 1 → ms h f ≡ os h f) → files_on ms list ≡ files_on os list
alike_files os ms [] same = refl
alike_files os ms (k ∷ list) same =
    ap (λ (l : List ℕ). l ∷ ms k 1 ∷ files_on ms list) (same k 0 (first_in k list) (omega arith))
    ∙ ap (λ (l : List ℕ). os k 0 ∷ l ∷ files_on ms list) (same k 1 (first_in k list) (omega arith))
    ∙ ap (λ (ls : List (List ℕ)). os k 0 ∷ os k 1 ∷ ls) (alike_files os ms list (λ h f is le. same h f (later_in k h list is) le))

-- ---- one image and the next

-- the version stands after the first byte
pub version_unsealed : (old new : List ℕ) → ButFirst old new → version_in new ≡ version_in old
version_unsealed old new but = ap (λ (l : List ℕ). big_endian (take 8 l)) (sym (drop-drop 8 1 new) ∙ ap (λ (l : List ℕ). drop 8 l) but.rest ∙ drop-drop 8 1 old)

-- a file that was older is so still
older_stays : (version : ℕ) (old new : List ℕ) → MayLoseSeal old new → IsOlder version old → IsOlder version new
older_stays version old new moved older sealed = ⊎_elim
    (λ e. let less = older (subst IsSealed e sealed) in omega (arith, less, ap version_in e))
    (λ lost. let less = older lost.0 in omega (arith, less, version_unsealed old new lost.1))
    moved

-- the newest of some files, and the others
record NewestAt (files : List (List ℕ)) (text : List ℕ) : Type 0 where
  before : List (List ℕ)
  after : List (List ℕ)
  offset : files ≡ before ++ text ∷ after
  others_before : All (IsOlder (version_in text)) before
  others_after : All (IsOlder (version_in text)) after

module _ (os ms : LaneImage) (hosts : List ℕ) (host file : ℕ) (newest : IsNewestAmong os hosts host file) (loses : (h f : ℕ) → Contains hosts h → f ≤ 1 → MayLoseSeal (os h f) (ms h f)) (same : ms host file ≡ os host file) where
  none_newer : (h f : ℕ) → Contains hosts h → f ≤ 1 → IsSealed (os h f) → IsOlder (version_in (os h f)) (os host file) → ⊥
  none_newer h f listed le sealed older =
      let less : version_in (os host file) < version_in (os h f) = older newest.sealed in
      ⊎_elim
      (λ greater. omega (arith, less, greater))
      (λ equal. omega (arith, less, equal.0))
      (newest.greatest h f listed le sealed)

  -- a file beside which each other is older is the newest
  is_newest : (h f : ℕ) (text : List ℕ) → Contains hosts h → f ≤ 1 → os h f ≡ text → IsSealed text → (((h ≡ host) × (f ≡ file) → ⊥) → IsOlder (version_in text) (os host file)) → (ms h f ≡ text) × (text ≡ os host file)
  is_newest h f text listed le is sealed others = ⊎_elim
      (λ here.
      let there : os host file ≡ os h f = ap (λ (k : ℕ). os k file) (sym here.0) ∙ ap (λ (j : ℕ). os h j) (sym here.1) in
      let moved : ms h f ≡ ms host file = ap (λ (k : ℕ). ms k f) here.0 ∙ ap (λ (j : ℕ). ms host j) here.1 in
      (moved ∙ same ∙ there ∙ is, sym is ∙ sym there))
      (λ apart. absurd (none_newer h f listed le (subst IsSealed (sym is) sealed) (subst (λ (l : List ℕ). IsOlder (version_in l) (os host file)) (sym is) (others apart))))
      (same_or h f host file)

  all_stay : (version : ℕ) (list : List ℕ) → ((h : ℕ) → Contains list h → Contains hosts h) → All (IsOlder version) (files_on os list) → All (IsOlder version) (files_on ms list)
  all_stay version [] inside all = All-nil (IsOlder version)
  all_stay version (k ∷ list) inside all =
      let listed = inside k (first_in k list) in
      let rest = All-tail (IsOlder version) (os k 0) (os k 1 ∷ files_on os list) all in
      All-cons (IsOlder version) (ms k 0) (ms k 1 ∷ files_on ms list)
      (older_stays version (os k 0) (ms k 0) (loses k 0 listed (omega arith)) (All-head (IsOlder version) (os k 0) (os k 1 ∷ files_on os list) all))
      (All-cons (IsOlder version) (ms k 1) (files_on ms list)
      (older_stays version (os k 1) (ms k 1) (loses k 1 listed (omega arith)) (All-head (IsOlder version) (os k 1) (files_on os list) rest))
      (all_stay version list (λ h is. inside h (later_in k h list is)) (All-tail (IsOlder version) (os k 1) (files_on os list) rest)))

  -- the file of the newest store is older, if it stands before; or it is in the rest of the list
  module _ (text : List ℕ) (sealed : IsSealed text) where
    abbrev Old : List ℕ → Type 0
    Old = IsOlder (version_in text)

    found : (list : List ℕ) → ((h : ℕ) → Contains list h → Contains hosts h) → (before after : List (List ℕ)) → files_on os list ≡ before ++ text ∷ after → All Old before → All Old after → Old (os host file) ⊎ Contains list host
        → NewestAt (files_on ms list) text × (text ≡ os host file)
    found [] inside [] after place first last at = let e : [] ≡ text ∷ after = place in absurd (cc e)
    found [] inside (b ∷ before) after place first last at = let e : [] ≡ b ∷ (before ++ text ∷ after) = place in absurd (cc e)
    found (k ∷ list) inside [] after place first last at =
        let e : os k 0 ∷ os k 1 ∷ files_on os list ≡ text ∷ after = place in
        let here : os k 0 ≡ text = cc in
        let rest : os k 1 ∷ files_on os list ≡ after = cc in
        let later : All Old (os k 1 ∷ files_on os list) = subst (All Old) (sym rest) last in
        let listed = inside k (first_in k list) in
        let one = is_newest k 0 text listed (omega arith) here sealed (λ apart. ⊎_elim
        (λ older. older)
        (λ there. ⊎_elim
        (λ first_host.
        let second : 1 ≡ file = let le = newest.one_of_two in let ne : file ≢ 0 = λ zero. apart (first_host, sym zero) in omega (arith, le, ne) in
        subst (λ (h : ℕ). Old (os h file)) first_host (subst (λ (j : ℕ). Old (os k j)) second (All-head Old (os k 1) (files_on os list) later)))
        (λ inner. All-contains Old (files_on os list) (os host file) (All-tail Old (os k 1) (files_on os list) later) (file_in os list host file inner newest.one_of_two))
        (in_cases k host list there))
        at) in (
          record {
            before = [];
            after = ms k 1 ∷ files_on ms list;
            offset = ap (λ (l : List ℕ). l ∷ ms k 1 ∷ files_on ms list) one.0;
            others_before = All-nil Old;
            others_after = All-cons Old (ms k 1) (files_on ms list)
                (older_stays (version_in text) (os k 1) (ms k 1) (loses k 1 listed (omega arith)) (All-head Old (os k 1) (files_on os list) later))
                (all_stay (version_in text) list (λ h is. inside h (later_in k h list is)) (All-tail Old (os k 1) (files_on os list) later));
          },
          one.1,
        )
    found (k ∷ list) inside (b ∷ []) after place first last at =
        let e : os k 0 ∷ os k 1 ∷ files_on os list ≡ b ∷ text ∷ after = place in
        let zeroth : b ≡ os k 0 = cc in
        let here : os k 1 ≡ text = cc in
        let rest : files_on os list ≡ after = cc in
        let later : All Old (files_on os list) = subst (All Old) (sym rest) last in
        let lower : Old (os k 0) = subst Old zeroth (All-head Old b [] first) in
        let listed = inside k (first_in k list) in
        let one = is_newest k 1 text listed (omega arith) here sealed (λ apart. ⊎_elim
        (λ older. older)
        (λ there. ⊎_elim
        (λ first_host.
        let zero : 0 ≡ file = let le = newest.one_of_two in let ne : file ≢ 1 = λ is. apart (first_host, sym is) in omega (arith, le, ne) in
        subst (λ (h : ℕ). Old (os h file)) first_host (subst (λ (j : ℕ). Old (os k j)) zero lower))
        (λ inner. All-contains Old (files_on os list) (os host file) later (file_in os list host file inner newest.one_of_two))
        (in_cases k host list there))
        at) in (
          record {
            before = ms k 0 ∷ [];
            after = files_on ms list;
            offset = ap (λ (l : List ℕ). ms k 0 ∷ l ∷ files_on ms list) one.0;
            others_before = All-cons Old (ms k 0) [] (older_stays (version_in text) (os k 0) (ms k 0) (loses k 0 listed (omega arith)) lower) (All-nil Old);
            others_after = all_stay (version_in text) list (λ h is. inside h (later_in k h list is)) later;
          },
          one.1,
        )
    found (k ∷ list) inside (b ∷ c ∷ before) after place first last at =
        let e : os k 0 ∷ os k 1 ∷ files_on os list ≡ b ∷ c ∷ (before ++ text ∷ after) = place in
        let zeroth : b ≡ os k 0 = cc in
        let second : c ≡ os k 1 = cc in
        let rest : files_on os list ≡ before ++ text ∷ after = cc in
        let lower : Old (os k 0) = subst Old zeroth (All-head Old b (c ∷ before) first) in
        let higher : Old (os k 1) = subst Old second (All-head Old c before (All-tail Old b (c ∷ before) first)) in
        let listed = inside k (first_in k list) in
        let more = found list (λ h is. inside h (later_in k h list is)) before after rest (All-tail Old c before (All-tail Old b (c ∷ before) first)) last
        (⊎_elim inl (λ there. ⊎_elim
        (λ first_host. inl (subst (λ (h : ℕ). Old (os h file)) first_host (two_files (λ j. Old (os k j)) file newest.one_of_two lower higher)))
        inr
        (in_cases k host list there)) at) in (
          record {
            before = ms k 0 ∷ ms k 1 ∷ more.0.before;
            after = more.0.after;
            offset = ap (λ (ls : List (List ℕ)). ms k 0 ∷ ms k 1 ∷ ls) more.0.offset;
            others_before = All-cons Old (ms k 0) (ms k 1 ∷ more.0.before) (older_stays (version_in text) (os k 0) (ms k 0) (loses k 0 listed (omega arith)) lower)
                (All-cons Old (ms k 1) more.0.before (older_stays (version_in text) (os k 1) (ms k 1) (loses k 1 listed (omega arith)) higher) more.0.others_before);
            others_after = more.0.others_after;
          },
          more.1,
        )

  -- the newest store of a list is that of these hosts, and it still is
  newest_of : (list : List ℕ) → SameHosts hosts list → (number : PartitionNumber) (changes : List Change) (is : StandOn os list number changes) → NewestAt (files_on ms list) is.newest × (is.newest ≡ os host file)
  newest_of list alike number changes is =
      found is.newest is.store.text.sealed list (λ h there. (alike h).1 there) is.before is.after is.offset is.others_before is.others_after (inr ((alike host).0 newest.listed))

  pub stands_still : (list : List ℕ) → SameHosts hosts list → (number : PartitionNumber) (changes : List Change) → StandOn os list number changes → StandOn ms list number changes
  stands_still list alike number changes is =
      let still = (newest_of list alike number changes is).0 in
      record {
        before = still.before;
        newest = is.newest;
        after = still.after;
        offset = still.offset;
        others_before = still.others_before;
        others_after = still.others_after;
        header = is.header;
        mutations = is.mutations;
        store = is.store;
        of_partition = is.of_partition;
        of_partitions = is.of_partitions;
        contents = is.contents;
      }

-- the files stand for the contents of the newest
pub stood_for : (os : LaneImage) (hosts : List ℕ) (host file : ℕ) → IsNewestAmong os hosts host file → (list : List ℕ) → SameHosts hosts list → (number : PartitionNumber) (changes : List Change) → StandOn os list number changes
    → (header : Header) (groups : List (List Mutation)) → IsText header groups (os host file) → header.id.partition ≡ number.partition → header.partitions ≡ number.partitions → SameContents changes (changes_of (flat_map (λ group. group) groups))
stood_for os hosts host file newest list alike number changes is header groups text of_partition of_partitions =
    let there = (newest_of os os hosts host file newest (λ h f listed le. inl refl) refl list alike number changes is).1 in
    stands_once (files_on os list) number.partition number.partitions changes (changes_of (flat_map (λ group. group) groups)) is (record {
      before = is.before;
      newest = is.newest;
      after = is.after;
      offset = is.offset;
      others_before = is.others_before;
      others_after = is.others_after;
      header = header;
      mutations = flat_map (λ group. group) groups;
      store = record { groups = groups; joined = refl; text = subst (IsText header groups) (sym there) text };
      of_partition = of_partition;
      of_partitions = of_partitions;
      contents = same_itself (changes_of (flat_map (λ group. group) groups));
    })

-- ---- a lane

module _ {D : Type 0} (view : D → View) (hosts : List ℕ) (old new : List D) (there : (h : ℕ) → Contains hosts h → h < length old)
    (settled : (h f : ℕ) (disk : D) → Contains hosts h → f ≤ 1 → slice_get old h ≡ Some disk → IsSettled (view disk) f) where
  -- what a read gave of a settled file
  was_seen : (h f : ℕ) (listed : Contains hosts h) (le : f ≤ 1) (disk : D) → slice_get old h ≡ Some disk → (m : Image) → (view disk).images m → m f ≡ seen_on view old h f
  was_seen h f listed le disk was m is = settled h f disk listed le was m is ∙ sym (ap (λ (d : Option D). option_map_or (λ (x : D). (view x).seen) d (λ k. []) f) was)

  pub read_throughout : (number : PartitionNumber) → OnlyReadsLane view old new → StandsThroughout view hosts number old new
  read_throughout number reads list changes ms alike at is =
      let same : (h f : ℕ) → Contains list h → f ≤ 1 → ms h f ≡ seen_on view old h f = λ h f listed le.
      let inside = (alike h).1 listed in
      let first = disk_there old h (there h inside) in
      let last = disk_there new h (let many = reads.as_many in let within = there h inside in omega (arith, many, within)) in
      was_seen h f inside le first.0 first.1 (ms h) ((reads.each h first.0 last.0 first.1 last.1).moments.each (ms h) (at h first.0 last.0 first.1 last.1)) in
      subst (λ (files : List (List ℕ)). StandsFor files number.partition number.partitions changes) (sym (alike_files (seen_on view old) ms list same)) is

  module _ (host file : ℕ) (erases : ErasesOlderIn view hosts host file old new) (newest : AllTell view old hosts → IsNewestAmong (seen_on view old) hosts host file) where
    module _ (ms : LaneImage) (at : IsLaneMoment view old new ms) where
      gone : (h : ℕ) → Contains hosts h → (disk : D) → slice_get old h ≡ Some disk → After (view disk) (ErasesOnly (IsOlderFile hosts host file h)) (ms h)
      gone h listed disk was =
          let last = disk_there new h (let many = erases.as_many in let within = there h listed in omega (arith, many, within)) in
          (erases.moments h disk last.0 was last.1).each (ms h) (at h disk last.0 was last.1)

      all_tell : AllTell view old hosts
      all_tell h disk listed was = let from = gone h listed disk was in (view disk).told from.0 from.1

      may_lose : (h f : ℕ) → Contains hosts h → f ≤ 1 → MayLoseSeal (seen_on view old h f) (ms h f)
      may_lose h f listed le =
          let first = disk_there old h (there h listed) in
          let from = gone h listed first.0 first.1 in
          subst (λ (l : List ℕ). MayLoseSeal l (ms h f)) (was_seen h f listed le first.0 first.1 from.0 from.1) (from.2.files f)

      still_there : ms host file ≡ seen_on view old host file
      still_there =
          let best = newest all_tell in
          let first = disk_there old host (there host best.listed) in
          let from = gone host best.listed first.0 first.1 in
          from.2.others file (λ older. older.other (refl, refl)) ∙ was_seen host file best.listed best.one_of_two first.0 first.1 from.0 from.1

    pub erased_throughout : (number : PartitionNumber) → StandsThroughout view hosts number old new
    erased_throughout number list changes ms alike at is =
        stands_still (seen_on view old) ms hosts host file (newest (all_tell ms at)) (may_lose ms at) (still_there ms at) list alike number changes is
