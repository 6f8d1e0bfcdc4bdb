-- From what the kinds say of each file, and how versions are ordered: the files stand for the list, or for it and what is in flight.
use Rattle.std.proofs.Common.{◌≡◌, ◌≢◌, ◌⊎◌, inl, inr, ⊎_elim, ℕ, zero, suc, ◌<◌, ◌≤◌, List, [], ◌∷◌, ◌++◌, length, All, refl, sym, ◌∙◌, ap, subst, arith, Some, slice_get}
use Rattle.std.proofs.lemmas.Bool.{cases_eq, cases_lt}
use Rattle.std.proofs.lemmas.List.Elements.{All-nil, All-cons, All-append, All-weaker}
use Rattle.cache_model.specs.Change.{Change, changes_of}
use Rattle.cache_model.specs.Contents.{SameContents}
use Rattle.seal_gate.specs.Seal.{IsSealed}
use Rattle.slot_board.specs.declared.board.Board.{Board}
use Rattle.slot_board.specs.declared.board.SlotKind.{SlotKind}
use Rattle.slot_board.specs.declared.board.SlotKind.TheVariants.{Stale, Unknown}
use Rattle.slot_board.specs.Slots.{slot_at, hosts_of}
use Rattle.store_journal.specs.Created.{IsUnsealed}
use Rattle.store_journal.specs.Stands.{version_in, IsOlder, StandsFor, Survives}
use Rattle.disk_trait.specs.View.{View}
use Rattle.disk_lane.specs.Lanes.{LaneImage, IsLaneImage, files_on}
use Rattle.disk_lane.proofs.LaneLemmas.{disk_there}
use Rattle.file_kinds.specs.Kinds.{PartitionNumber, IsGood, IsOfKind, MayCount}
use Rattle.file_kinds.specs.Order.{IsOrdered, IsRecorded, AreRecorded, AreOfKind}
use Rattle.file_kinds.proofs.KindLemmas.{sealed_or, sealed_shows, sealed_good}

-- of the slots in the set, whose bytes are these files, this one is the newest that is sealed
record Best (board : Board) (owner current : ℕ) (ms : LaneImage) (Set : ℕ → ℕ → Type 0) (files : List (List ℕ)) : Type 0 where
  host : ℕ
  file : ℕ
  in_set : Set host file
  there : host < hosts_of board
  one_of_two : file ≤ 1
  known : (slot_at board host file).kind ≢ Unknown
  sealed : IsSealed (ms host file)
  before : List (List ℕ)
  after : List (List ℕ)
  split : files ≡ before ++ ms host file ∷ after
  others_before : All (IsOlder (slot_at board host file).version) before
  others_after : All (IsOlder (slot_at board host file).version) after
  above : Set owner current → (slot_at board owner current).version ≤ (slot_at board host file).version

-- none of them is sealed, so the current one isn't among them
record Nothing (owner current : ℕ) (Set : ℕ → ℕ → Type 0) (files : List (List ℕ)) : Type 0 where
  unsealed : All IsUnsealed files
  without : Set owner current → ⊥

-- the slots of these hosts
abbrev On : List ℕ → ℕ → ℕ → Type 0
On [] k j = ⊥
On (h ∷ hosts) k j = (On hosts k j ⊎ ((k ≡ h) × (j ≡ 1))) ⊎ ((k ≡ h) × (j ≡ 0))

on_among : (hosts : List ℕ) (k j : ℕ) → On hosts k j → (i : ℕ) × (slice_get hosts i ≡ Some k)
on_among [] k j on = absurd on
on_among (h ∷ hosts) k j on = ⊎_elim
    (λ deep. ⊎_elim (λ deeper. let at = on_among hosts k j deeper in (suc at.0, at.1)) (λ here. (0, ap Some (sym here.0))) deep)
    (λ here. (0, ap Some (sym here.0)))
    on

on_owner : (hosts : List ℕ) (k j i : ℕ) → j ≤ 1 → slice_get hosts i ≡ Some k → On hosts k j
on_owner [] k j i le at = absurd cc
on_owner (h ∷ hosts) k j zero le at =
    let same : k ≡ h = cc in
    ⊎_elim (λ e. inr (same, e)) (λ ne. let one : j ≡ 1 = omega (arith, le, ne) in inl (inr (same, one))) (cases_eq j 0)
on_owner (h ∷ hosts) k j (suc i) le at = inl (inl (on_owner hosts k j i le at))

module _ (board : Board) (owner current : ℕ) (number : PartitionNumber) (changes flight : List Change) (ms : LaneImage) (ordered : IsOrdered board owner current)
    (fits : (h f : ℕ) → h < hosts_of board → f ≤ 1 → IsOfKind number changes flight (slot_at board h f).kind (slot_at board h f).version (ms h f)) where
  abbrev Found : (ℕ → ℕ → Type 0) → List (List ℕ) → Type 0
  Found Set files = Nothing owner current Set files ⊎ Best board owner current ms Set files

  current_good : IsGood number changes flight (slot_at board owner current).version (ms owner current)
  current_good = subst (λ (k : SlotKind). IsOfKind number changes flight k (slot_at board owner current).version (ms owner current)) ordered.current (fits owner current ordered.there ordered.one_of_two)

  -- one file more
  module _ (Set : ℕ → ℕ → Type 0) (files : List (List ℕ)) (h f : ℕ) (there : h < hosts_of board) (le : f ≤ 1) (known : (slot_at board h f).kind ≢ Unknown) (new : Set h f → ⊥) where
    abbrev More : ℕ → ℕ → Type 0
    More k j = Set k j ⊎ ((k ≡ h) × (j ≡ f))

    -- it isn't sealed
    module _ (unsealed : IsUnsealed (ms h f)) where
      other : (owner ≡ h) × (current ≡ f) → ⊥
      other same =
          let good : IsSealed (ms h f) = subst (λ (k : ℕ). IsSealed (ms k f)) same.0 (subst (λ (j : ℕ). IsSealed (ms owner j)) same.1 current_good.whole.store.text.sealed) in
          unsealed good

      passed : Found Set files → Found More (ms h f ∷ files)
      passed found = ⊎_elim
          (λ none. inl (record { unsealed = All-cons IsUnsealed _ _ unsealed none.unsealed; without = λ on. ⊎_elim none.without other on }))
          (λ best. inr (record {
            host = best.host;
            file = best.file;
            in_set = inl best.in_set;
            there = best.there;
            one_of_two = best.one_of_two;
            known = best.known;
            sealed = best.sealed;
            before = ms h f ∷ best.before;
            after = best.after;
            split = ap (λ (l : List (List ℕ)). ms h f ∷ l) best.split;
            others_before = All-cons (IsOlder (slot_at board best.host best.file).version) _ _ (λ sealed. absurd (unsealed sealed)) best.others_before;
            others_after = best.others_after;
            above = λ on. ⊎_elim best.above (λ same. absurd (other same)) on;
          }))
          found

    -- it is sealed
    module _ (sealed : IsSealed (ms h f)) where
      shown : MayCount (slot_at board h f).kind × (version_in (ms h f) ≡ (slot_at board h f).version)
      shown = sealed_shows number changes flight (slot_at board h f).kind (slot_at board h f).version (ms h f) (fits h f there le) sealed known

      same_version : (owner ≡ h) × (current ≡ f) → (slot_at board owner current).version ≡ (slot_at board h f).version
      same_version same = ap (λ (k : ℕ). (slot_at board k current).version) same.0 ∙ ap (λ (j : ℕ). (slot_at board h j).version) same.1

      first : Nothing owner current Set files → Best board owner current ms More (ms h f ∷ files)
      first none = record {
        host = h;
        file = f;
        in_set = inr (refl, refl);
        there = there;
        one_of_two = le;
        known = known;
        sealed = sealed;
        before = [];
        after = files;
        split = refl;
        others_before = All-nil (IsOlder (slot_at board h f).version);
        others_after = All-weaker IsUnsealed (IsOlder (slot_at board h f).version) (λ x not sealed. absurd (not sealed)) files none.unsealed;
        above = λ on. ⊎_elim (λ old. absurd (none.without old)) (λ same. omega (arith, same_version same)) on;
      }

      module _ (best : Best board owner current ms Set files) where
        kept : (slot_at board h f).version < (slot_at board best.host best.file).version → Best board owner current ms More (ms h f ∷ files)
        kept less = record {
          host = best.host;
          file = best.file;
          in_set = inl best.in_set;
          there = best.there;
          one_of_two = best.one_of_two;
          known = best.known;
          sealed = best.sealed;
          before = ms h f ∷ best.before;
          after = best.after;
          split = ap (λ (l : List (List ℕ)). ms h f ∷ l) best.split;
          others_before = All-cons (IsOlder (slot_at board best.host best.file).version) _ _ (λ _. omega (arith, shown.1, less)) best.others_before;
          others_after = best.others_after;
          above = λ on. ⊎_elim best.above (λ same. omega (arith, same_version same, less)) on;
        }

        best_shown : MayCount (slot_at board best.host best.file).kind × (version_in (ms best.host best.file) ≡ (slot_at board best.host best.file).version)
        best_shown = sealed_shows number changes flight (slot_at board best.host best.file).kind (slot_at board best.host best.file).version (ms best.host best.file) (fits best.host best.file best.there best.one_of_two) best.sealed best.known

        differs : (slot_at board best.host best.file).version ≢ (slot_at board h f).version
        differs equal =
            let same = ordered.differ best.host best.file h f best.one_of_two le best_shown.0 shown.0 equal in
            new (subst (λ (k : ℕ). Set k f) same.0 (subst (λ (j : ℕ). Set best.host j) same.1 best.in_set))

        taken : (slot_at board best.host best.file).version < (slot_at board h f).version → Best board owner current ms More (ms h f ∷ files)
        taken more =
            let older : (x : List ℕ) → IsOlder (slot_at board best.host best.file).version x → IsOlder (slot_at board h f).version x = λ x old sealed. omega (arith, old sealed, more) in
            record {
              host = h;
              file = f;
              in_set = inr (refl, refl);
              there = there;
              one_of_two = le;
              known = known;
              sealed = sealed;
              before = [];
              after = files;
              split = refl;
              others_before = All-nil (IsOlder (slot_at board h f).version);
              others_after = subst (λ (l : List (List ℕ)). All (IsOlder (slot_at board h f).version) l) (sym best.split)
                  (All-append (IsOlder (slot_at board h f).version) best.before (ms best.host best.file ∷ best.after)
                  (All-weaker (IsOlder (slot_at board best.host best.file).version) (IsOlder (slot_at board h f).version) older best.before best.others_before)
                  (All-cons (IsOlder (slot_at board h f).version) (ms best.host best.file) best.after (λ _. omega (arith, best_shown.1, more))
                  (All-weaker (IsOlder (slot_at board best.host best.file).version) (IsOlder (slot_at board h f).version) older best.after best.others_after)));
              above = λ on. ⊎_elim (λ old. let up = best.above old in omega (arith, up, more)) (λ same. omega (arith, same_version same)) on;
            }

        compared : Best board owner current ms More (ms h f ∷ files)
        compared = ⊎_elim kept
            (λ ge. let ne = differs in taken (omega (arith, ge, ne)))
            (cases_lt (slot_at board h f).version (slot_at board best.host best.file).version)

    added : Found Set files → Found More (ms h f ∷ files)
    added found = ⊎_elim
        (λ sealed. inr (⊎_elim (first sealed) (compared sealed) found))
        (λ unsealed. passed unsealed found)
        (sealed_or (ms h f))

  -- all files of these hosts
  walked : (hosts : List ℕ) → ((k h : ℕ) → slice_get hosts k ≡ Some h → IsRecorded board h)
      → ((k j h : ℕ) → slice_get hosts k ≡ Some h → slice_get hosts j ≡ Some h → k ≡ j) → Found (On hosts) (files_on ms hosts)
  walked [] recorded once = inl (record { unsealed = All-nil IsUnsealed; without = λ on. on })
  walked (h ∷ hosts) recorded once =
      let here = recorded 0 h refl in
      let alone : (i : ℕ) → slice_get hosts i ≡ Some h → ⊥ = λ i at. let same = once 0 (suc i) h refl at in omega (arith, same) in
      let rest = walked hosts (λ k g at. recorded (suc k) g at) (λ k j g a b. let same = once (suc k) (suc j) g a b in omega (arith, same)) in
      let not_one : On hosts h 1 → ⊥ = λ on. let at = on_among hosts h 1 on in alone at.0 at.1 in
      let not_zero : On hosts h 0 ⊎ ((h ≡ h) × (0 ≡ 1)) → ⊥ = λ on. ⊎_elim (λ old. let at = on_among hosts h 0 old in alone at.0 at.1) (λ same. let e : 0 ≡ 1 = same.1 in omega (arith, e)) on in
      added (λ k j. On hosts k j ⊎ ((k ≡ h) × (j ≡ 1))) (ms h 1 ∷ files_on ms hosts) h 0 here.there (omega arith) (here.known 0 (omega arith)) not_zero
      (added (On hosts) (files_on ms hosts) h 1 here.there (omega arith) (here.known 1 (omega arith)) not_one rest)

  -- so the files stand for the changes, or for these and the flight
  pub survive : (hosts : List ℕ) → AreRecorded board owner hosts → Survives (files_on ms hosts) number.partition number.partitions changes flight
  survive hosts recorded = ⊎_elim
      (λ none. absurd (none.without (on_owner hosts owner current recorded.with_owner.0 ordered.one_of_two recorded.with_owner.1)))
      (λ best.
      let above = best.above (on_owner hosts owner current recorded.with_owner.0 ordered.one_of_two recorded.with_owner.1) in
      let fresh : (slot_at board best.host best.file).kind ≢ Stale = λ is. let less = ordered.stale best.host best.file best.one_of_two is in omega (arith, less, above) in
      let good = sealed_good number changes flight (slot_at board best.host best.file).kind (slot_at board best.host best.file).version (ms best.host best.file) (fits best.host best.file best.there best.one_of_two) best.sealed best.known fresh in
      let shown = sealed_shows number changes flight (slot_at board best.host best.file).kind (slot_at board best.host best.file).version (ms best.host best.file) (fits best.host best.file best.there best.one_of_two) best.sealed best.known in
      let stands : (all : List Change) → SameContents (changes_of good.whole.mutations) all → StandsFor (files_on ms hosts) number.partition number.partitions all = λ all same. record {
        before = best.before;
        newest = ms best.host best.file;
        after = best.after;
        offset = best.split;
        others_before = subst (λ (v : ℕ). All (IsOlder v) best.before) (sym shown.1) best.others_before;
        others_after = subst (λ (v : ℕ). All (IsOlder v) best.after) (sym shown.1) best.others_after;
        header = good.whole.header;
        mutations = good.whole.mutations;
        store = good.whole.store;
        of_partition = good.whole.of_partition;
        of_partitions = good.whole.of_partitions;
        contents = same;
      } in
      ⊎_elim (λ same. inl (stands changes same)) (λ same. inr (stands (changes ++ flight) same)) good.contents)
      (walked hosts recorded.recorded recorded.once)

-- what the kinds say of an image of the lane
pub lane_fits : {D : Type 0} (view : D → View) (disks : List D) (board : Board) (number : PartitionNumber) (changes flight : List Change) → length disks ≡ hosts_of board → AreOfKind view disks board number changes flight
    → (ms : LaneImage) → IsLaneImage view disks ms → (h f : ℕ) → h < hosts_of board → f ≤ 1 → IsOfKind number changes flight (slot_at board h f).kind (slot_at board h f).version (ms h f)
lane_fits view disks board number changes flight many all ms is h f lt le =
    let at = disk_there disks h (omega (arith, lt, many)) in
    all h at.0 at.1 (ms h) (is h at.0 at.1) f le
