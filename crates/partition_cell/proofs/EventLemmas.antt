-- An event on one host's disk, seen in the whole lane: what the kinds of its files say at every moment.
use Rattle.std.proofs.Common.{◌≡◌, ◌≢◌, ⊎_elim, ℕ, ◌<◌, ◌≤◌, List, length, sym, ◌∙◌, subst, arith, slice_get, slice_set, Some}
use Rattle.std.proofs.lemmas.Bool.{cases_eq}
use Rattle.cache_model.specs.Change.{Change}
use Rattle.disk_trait.specs.View.{Image, View}
use Rattle.disk_trait.specs.Calls.{Moved}
use Rattle.disk_trait.specs.Moments.{Now, Throughout, Onward}
use Rattle.disk_trait.proofs.Runs.{weakened}
use Rattle.slot_board.specs.declared.board.Board.{Board}
use Rattle.slot_board.specs.Slots.{slot_at, hosts_of}
use Rattle.disk_lane.specs.Lanes.{Beside, LaneEvent}
use Rattle.disk_lane.proofs.LaneLemmas.{some_same, disk_there, written_other, written_same, no_event, event}
use Rattle.std.proofs.lemmas.Option.{slice_get_within}
use Rattle.file_kinds.specs.Kinds.{PartitionNumber, IsOfKind}
use Rattle.file_kinds.specs.Order.{IsOrdered, HostIsOfKind, AreOfKind, SurvivesIn}
use Rattle.file_kinds.proofs.SurviveLemmas.{survive, lane_fits}

module _ {D : Type 0} (view : D → View) (disks : List D) (host : ℕ) (before now : D) (was : slice_get disks host ≡ Some before) where
  -- the host's disk afterwards
  pub disk_now : (last : D) → slice_get (slice_set disks host now) host ≡ Some last → now ≡ last
  disk_now last at = some_same now last (slice_get (slice_set disks host now) host) (written_same disks host now (slice_get_within disks host before was)) at

  -- Over one board, whose facts hold of the other hosts' disks, and of this one at every moment:
  module _ (board : Board) (number : PartitionNumber) (changes flight : List Change) (others : (h : ℕ) (disk : D) → h ≢ host → slice_get disks h ≡ Some disk → Now (view disk) (HostIsOfKind board number changes flight h)) where
    pub kinds_event : (owner file : ℕ) → IsOrdered board owner file → length disks ≡ hosts_of board → Throughout (view before) (view now) (HostIsOfKind board number changes flight host) → Onward (view before) (view now)
        → LaneEvent view host disks (slice_set disks host now) (SurvivesIn board owner number changes flight)
    kinds_event owner file ordered many all on =
        event view disks host before now was (SurvivesIn board owner number changes flight)
        (weakened (view before) (view now) (HostIsOfKind board number changes flight host) (Beside view disks host (SurvivesIn board owner number changes flight)) all
        (λ m kinds ms same elsewhere.
        survive board owner file number changes flight ms ordered (λ h f lt le. ⊎_elim
        (λ e.
        let mine : HostIsOfKind board number changes flight host (ms host) = subst (λ (image : Image). HostIsOfKind board number changes flight host image) (sym same) kinds in
        subst (λ (k : ℕ). IsOfKind number changes flight (slot_at board k f).kind (slot_at board k f).version (ms k f)) (sym e) (mine f le))
        (λ ne.
        let at = disk_there disks h (omega (arith, lt, many)) in
        others h at.0 ne at.1 (ms h) (elsewhere h at.0 ne at.1) f le)
        (cases_eq h host))))
        on

    pub all_fit : Now (view now) (HostIsOfKind board number changes flight host) → AreOfKind view (slice_set disks host now) board number changes flight
    all_fit here h disk at = ⊎_elim
        (λ e.
        let same : now ≡ disk = disk_now disk (subst (λ (k : ℕ). slice_get (slice_set disks host now) k ≡ Some disk) e at) in
        subst (λ (k : ℕ). Now (view disk) (HostIsOfKind board number changes flight k)) (sym e) (subst (λ (d : D). Now (view d) (HostIsOfKind board number changes flight host)) same here))
        (λ ne. others h disk ne (sym (written_other disks host h now ne) ∙ at))
        (cases_eq h host)

-- what a step of one file makes of a host's facts
pub host_moved : (board later : Board) (number : PartitionNumber) (changes flight others other_flight : List Change) (host file : ℕ) (step : List ℕ → List ℕ → Type 0) (o n : Image) → HostIsOfKind board number changes flight host o → Moved file step o n
    → (file ≤ 1 → (old new : List ℕ) → IsOfKind number changes flight (slot_at board host file).kind (slot_at board host file).version old → step old new
    → IsOfKind number others other_flight (slot_at later host file).kind (slot_at later host file).version new)
    → ((f : ℕ) (bytes : List ℕ) → f ≤ 1 → f ≢ file → IsOfKind number changes flight (slot_at board host f).kind (slot_at board host f).version bytes → IsOfKind number others other_flight (slot_at later host f).kind (slot_at later host f).version bytes)
    → HostIsOfKind later number others other_flight host n
host_moved board later number changes flight others other_flight host file step o n had moved goes stays f le = ⊎_elim
    (λ e.
    let at : file ≤ 1 = omega (arith, le, e) in
    subst (λ (j : ℕ). IsOfKind number others other_flight (slot_at later host j).kind (slot_at later host j).version (n j)) (sym e) (goes at (o file) (n file) (had file at) moved.here))
    (λ ne. subst (λ (l : List ℕ). IsOfKind number others other_flight (slot_at later host f).kind (slot_at later host f).version l) (sym (moved.others f ne)) (stays f (o f) le ne (had f le)))
    (cases_eq f file)

-- no call was made
pub kinds_stay : {D : Type 0} (view : D → View) (disks : List D) (host : ℕ) (board : Board) (owner file : ℕ) (number : PartitionNumber) (changes flight : List Change) → IsOrdered board owner file → length disks ≡ hosts_of board
    → AreOfKind view disks board number changes flight → host < length disks → LaneEvent view host disks disks (SurvivesIn board owner number changes flight)
kinds_stay view disks host board owner file number changes flight ordered many all there =
    no_event view disks host (SurvivesIn board owner number changes flight) there
    (λ ms is hosts recorded. survive board owner file number changes flight ms ordered (lane_fits view disks board number changes flight many all ms is) hosts recorded)
