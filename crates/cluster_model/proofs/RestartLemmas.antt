-- Whatever image a restart takes of the disks, there is a picked state that it keeps.
use Rattle.std.proofs.Common.{◌≡◌, ◌⊎◌, inl, inr, ⊎_elim, ℕ, zero, suc, ◌≤◌, List, [], ◌∷◌, ◌++◌, slice_get, Option, Some, None, refl, sym, ◌∙◌, ap, subst, arith}
use Rattle.std.specs.Prelude.{Contains}
use Rattle.std.proofs.lemmas.List.Elements.{Contains-append_cases}
use Rattle.disk_lane.specs.Lanes.{LaneImage}
use Rattle.file_kinds.specs.Kinds.{PartitionNumber}
use Rattle.roster_form.specs.Membership.{Host}
use Rattle.roster_form.specs.declared.roster.Roster.{Roster}
use Rattle.roster_form.specs.Shown.{Sights, MayShow, Shows}
use Rattle.roster_form.specs.Choice.{Sighting, MayOpenBy}
use Rattle.roster_form.specs.Succession.{Rosters, KeepsRosters, MayPass, IsGivenTo, IsInFirst, listed, listed_with, last_finished}
use Rattle.roster_form.proofs.PassLemmas.{some_is, only_two_pass}
use Rattle.roster_form.proofs.ContainsLemmas.{contains_first, contains_same, contains_later, contains_cases, contains_none}
use Rattle.roster_form.proofs.ShownLemmas.{shows_once}
use Rattle.roster_form.proofs.SuccessionLemmas.{unseen}
use Rattle.cluster_model.specs.Lane.{HostedStore, HoldsStore, Opens, LaneStanding, choices, KeepsLane}
use Rattle.cluster_model.specs.LaneSteps.{standing_for}
use Rattle.cluster_model.specs.Site.{SiteShape, partition_of, numbers_of, DiskOf, service_disk, SiteImage, SiteView, lane_in}
use Rattle.cluster_model.specs.Agreement.{hosts_in, some_of, IsInEach, IsShownOn, Durable, KeepsSite, IsSaved}
use Rattle.cluster_model.specs.Restart.{later_roster, counting_roster, IsSeenOrNot, AreTaken, AreTakenBy, IsShownBySome, Picks, AreRestarted}
use Rattle.cluster_model.proofs.LaneLemmas.{lane_opens, recorded_anew, strictly}
use Rattle.cluster_model.proofs.SiteLemmas.{more_numbers, has_a_number}
use Rattle.cluster_model.proofs.AgreementLemmas.{host_in, some_in}
use Rattle.cluster_model.proofs.PicksLemmas.{picked_keeps}

-- ---- one lane

-- the newest store over these hosts is what the files then stand for
opened_keeps : (number : PartitionNumber) (recorded hosts : List ℕ) (standing : LaneStanding) (files : LaneImage) (store : HostedStore) → KeepsLane number recorded standing files → ((host : ℕ) → Contains hosts host → Contains recorded host)
    → Contains (choices standing) store → Opens number hosts files store → KeepsLane number hosts (standing_for store) files
opened_keeps number recorded hosts standing files store keeps are choice opens = record {
  file = opens.file;
  one_of_two = opens.newest.one_of_two;
  current = (store, contains_first store [], refl, refl, opens.holds);
  newer = λ other none. absurd (contains_none other none);
  slots = λ host f is low. ⊎_elim
      (λ bare. inl bare)
      (⊎_elim
      (λ older. inr (inl (let least = no_older in omega (arith, older, least))))
      (λ has. ⊎_elim
      (λ same. inr (inr (store, contains_first store [], sym same.0, subst (λ (k : ℕ). HoldsStore number store (files host k)) (sym same.1) (subst (λ (h : ℕ). HoldsStore number store (files h opens.file)) (sym same.0) opens.holds))))
      (λ older. inr (inl older))
      (strictly number hosts files store opens host f is low has.3.text.text.sealed)))
      (keeps.slots host f (are host is) low);
  apart = λ host other f g is also low high sealed too equal least. ⊎_elim
      (λ same. ⊎_elim
      (λ like. (same.0 ∙ sym like.0, same.1 ∙ sym like.1))
      (λ older. absurd (omega (arith, older, equal, least)))
      (strictly number hosts files store opens other g also high too))
      (λ older. absurd (omega (arith, older, least)))
      (strictly number hosts files store opens host f is low sealed);
}
  where
    no_older : standing.store.id.version ≤ store.id.version
    no_older = ⊎_elim (λ here. subst (λ (s : HostedStore). standing.store.id.version ≤ s.id.version) (sym here) (omega arith)) (λ there. keeps.newer store there) (contains_cases standing.store standing.perhaps store choice)

-- ---- all lanes

taken_list : (numbers : ℕ → PartitionNumber) (recorded hosts : List ℕ) (lanes : ℕ → LaneImage) (standings : List LaneStanding)
    → ((index : ℕ) (standing : LaneStanding) → slice_get standings index ≡ Some standing → KeepsLane (numbers index) recorded standing (lanes index))
    → ((index : ℕ) (standing : LaneStanding) → slice_get standings index ≡ Some standing → Contains hosts standing.store.host) → ((host : ℕ) → Contains hosts host → Contains recorded host)
    → (news : List LaneStanding) × AreTaken hosts standings news × ((index : ℕ) (new : LaneStanding) → slice_get news index ≡ Some new → KeepsLane (numbers index) hosts new (lanes index) × Contains hosts new.store.host)
taken_list numbers recorded hosts lanes [] keep owners are = ([], tt, λ index new e. absurd (let n : None ≡ Some new = e in cc))
taken_list numbers recorded hosts lanes (first ∷ standings) keep owners are =
    let opened = lane_opens (numbers 0) recorded hosts first (lanes 0) (keep 0 first refl) are (owners 0 first refl) in
    let rest = taken_list (λ index. numbers (suc index)) recorded hosts (λ index. lanes (suc index)) standings (λ index standing e. keep (suc index) standing e) (λ index standing e. owners (suc index) standing e) are in
    let here = opened_keeps (numbers 0) recorded hosts first (lanes 0) opened.0 (keep 0 first refl) are opened.1 opened.2 in (
      standing_for opened.0 ∷ rest.0,
      ((opened.1, opened.2.newest.listed, refl), rest.1),
      λ index new e. at (standing_for opened.0) rest.0 (here, opened.2.newest.listed) rest.2 index new e,
    )
  where
    at : (head : LaneStanding) (tail : List LaneStanding) → KeepsLane (numbers 0) hosts head (lanes 0) × Contains hosts head.store.host
        → ((index : ℕ) (new : LaneStanding) → slice_get tail index ≡ Some new → KeepsLane (numbers (suc index)) hosts new (lanes (suc index)) × Contains hosts new.store.host)
        → (index : ℕ) (new : LaneStanding) → slice_get (head ∷ tail) index ≡ Some new → KeepsLane (numbers index) hosts new (lanes index) × Contains hosts new.store.host
    at head tail one more zero new e = subst (λ (s : LaneStanding). KeepsLane (numbers 0) hosts s (lanes 0) × Contains hosts s.store.host) (some_is head new e) one
    at head tail one more (suc index) new e = more index new e

-- ---- the whole site

-- what each host shows
abbrev SightsOf : (shape : SiteShape) (image : SiteImage) (sights : Sights) → ((host : Host) → (shown : Option Roster) × MayShow sights host shown × IsShownOn shape image host shown) → Sights
SightsOf shape image sights shown = λ host. (shown host).0 ∷ []

-- a roster that counts is one of these
counting_in : (writing last : Option Roster) (roster : Roster) (passing : List Roster) → ((new : Roster) → writing ≡ Some new → Contains passing new) → (writing ≡ None → (r : Roster) → last ≡ Some r → Contains passing r) → later_roster writing last ≡ Some roster → Contains passing roster
counting_in None last roster passing news lasts e = lasts refl roster e
counting_in (Some new) last roster passing news lasts e = news roster e

no_more : (hosts : List Host) (host : Host) → Contains (hosts ++ []) host → Contains hosts host
no_more hosts host is = ⊎_elim (λ here. here) (λ none. absurd (contains_none host none)) (Contains-append_cases hosts [] host is)

-- a host that was given a roster is a host of one of these
host_of_given : (rosters : List Roster) (roster : Roster) (host : Host) → IsGivenTo rosters roster host → (one : Roster) × Contains rosters one × Contains one.hosts host
host_of_given [] roster host given = absurd given
host_of_given (new ∷ older) roster host given = ⊎_elim
    (λ here. ⊎_elim (λ is. (new, contains_first new older, is)) (λ before. in_older older before) here.1)
    (λ there. let r = host_of_given older roster host there in (r.0, contains_later new older r.0 r.1, r.2))
    given
  where
    in_older : (others : List Roster) → IsInFirst host others → (one : Roster) × Contains (new ∷ others) one × Contains one.hosts host
    in_older [] none = absurd none
    in_older (first ∷ others) is = (first, contains_later new (first ∷ others) first (contains_first first others), is)

-- the roster that counts once each host shows one thing: no other may pass
only_counting : (rosters : Rosters) (sights : Sights) → KeepsRosters rosters sights → ((host : Host) → (one : Option Roster) × (sights host ≡ one ∷ [])) → ((new : Roster) → rosters.writing ≡ Some new → IsShownBySome sights (Some new))
    → (sightings : List Sighting) (roster : Roster) → ((each : Sighting) → Contains sightings each → MayShow sights each.host each.shown) → MayOpenBy sightings roster → counting_roster rosters ≡ Some roster
only_counting rosters sights keeps single seen sightings roster may passes = go rosters.writing refl (only_two_pass rosters sights sightings roster keeps may passes)
  where
    single_is : (one : Option Roster) (shown : Option Roster) → Contains (one ∷ []) shown → shown ≡ one
    single_is one shown is = ⊎_elim (λ x. x) (λ none. absurd (contains_none shown none)) (contains_cases one [] shown is)

    one_thing : (each : Sighting) (shown : Option Roster) → Contains sightings each → MayShow sights each.host shown → shown ≡ each.shown
    one_thing each shown is here =
        let one = single each.host in
        single_is one.0 shown (subst (λ (l : List (Option Roster)). Contains l shown) one.1 here) ∙ sym (single_is one.0 each.shown (subst (λ (l : List (Option Roster)). Contains l each.shown) one.1 (may each is)))

    go : (writing : Option Roster) → rosters.writing ≡ writing → MayPass rosters roster → counting_roster rosters ≡ Some roster
    go None e which = ap (λ (w : Option Roster). later_roster w (last_finished rosters)) e ∙ ⊎_elim (λ last. last) (λ writes. absurd (let n : None ≡ Some roster = sym e ∙ writes in cc)) which
    go (Some new) e which = ap (λ (w : Option Roster). later_roster w (last_finished rosters)) e ∙ ⊎_elim
        (λ last. let s = seen new e in absurd (unseen rosters sights sightings roster new keeps last e may one_thing passes s.0 s.1))
        (λ writes. sym e ∙ writes)
        which

-- with these rosters
restart_with : (shape : SiteShape) (old : Durable) (image : SiteImage) (rosters : Rosters) (passing : List Roster) (keeps : KeepsSite shape old passing image)
    → ((roster : Roster) → counting_roster rosters ≡ Some roster → Contains passing roster) → rosters.finished ≡ old.rosters.finished → ((roster : Roster) → Contains (listed rosters) roster → Contains (listed old.rosters) roster)
    → ((rosters.writing ≡ old.rosters.writing) × ((roster : Roster) → old.rosters.writing ≡ Some roster → IsShownBySome (SightsOf shape image old.sights keeps.shown) (Some roster)))
    ⊎ ((rosters.writing ≡ None) × ((roster : Roster) → old.rosters.writing ≡ Some roster → IsShownBySome (SightsOf shape image old.sights keeps.shown) (Some roster) → ⊥))
    → (new : Durable) × Picks shape old new × KeepsSite shape new (some_of (counting_roster new.rosters)) image
restart_with shape old image rosters passing keeps in_two finished fewer writing = go (counting_roster rosters) refl
  where
    sights : Sights
    sights = SightsOf shape image old.sights keeps.shown

    shown_now : (host : Host) → (one : Option Roster) × (sights host ≡ one ∷ []) × MayShow old.sights host one
    shown_now host = ((keeps.shown host).0, refl, (keeps.shown host).1)

    picks : (standings : List LaneStanding) → AreTakenBy shape (counting_roster rosters) old.standings standings → Picks shape old (record { rosters = rosters; sights = sights; standings = standings })
    picks standings each = record { shown = shown_now; finished = finished; writing = writing; each = each }

    seen : (new : Roster) → rosters.writing ≡ Some new → IsShownBySome sights (Some new)
    seen new e = ⊎_elim (λ kept. kept.1 new (sym kept.0 ∙ e)) (λ gone. absurd (let n : None ≡ Some new = sym gone.0 ∙ e in cc)) writing

    keeps_so : (standings : List LaneStanding) → AreTakenBy shape (counting_roster rosters) old.standings standings
        → ((partition : ℕ) (new : LaneStanding) → slice_get standings partition ≡ Some new
        → KeepsLane (partition_of shape partition) (numbers_of shape.hosts (hosts_in (some_of (counting_roster rosters)))) new (lane_in image partition) × IsInEach shape.hosts (some_of (counting_roster rosters)) new.store.host)
        → KeepsSite shape (record { rosters = rosters; sights = sights; standings = standings }) (some_of (counting_roster rosters)) image
    keeps_so standings each lanes =
        let kept = picked_keeps shape old (record { rosters = rosters; sights = sights; standings = standings }) keeps.rosters (picks standings each) in
        record {
          rosters = kept;
          of_site = λ roster is. keeps.of_site roster (fewer roster is);
          only = λ sightings roster may passes. some_in (counting_roster rosters) roster (only_counting rosters sights kept (λ host. ((keeps.shown host).0, refl)) seen sightings roster may passes);
          shown = λ host. ((keeps.shown host).0, contains_first (keeps.shown host).0 [], (keeps.shown host).2);
          lanes = λ partition standing e. (lanes partition standing e).0;
          owners = λ partition standing e. (lanes partition standing e).1;
        }

    go : (counts : Option Roster) → counting_roster rosters ≡ counts → (new : Durable) × Picks shape old new × KeepsSite shape new (some_of (counting_roster new.rosters)) image
    go None e =
        let each : AreTakenBy shape (counting_roster rosters) old.standings [] = subst (λ (c : Option Roster). AreTakenBy shape c old.standings []) (sym e) refl in
        (record { rosters = rosters; sights = sights; standings = [] }, picks [] each, keeps_so [] each (λ partition new is. absurd (let n : None ≡ Some new = is in cc)))
    go (Some roster) e =
        let among = in_two roster e in
        let taken = taken_list (λ partition. partition_of shape partition) (numbers_of shape.hosts (hosts_in passing)) (numbers_of shape.hosts roster.hosts) (λ partition. lane_in image partition) old.standings
        keeps.lanes
        (λ partition standing is. keeps.owners partition standing is roster among)
        (more_numbers shape.hosts roster.hosts (hosts_in passing) (λ host is. host_in passing roster host among is)) in
        let each : AreTakenBy shape (counting_roster rosters) old.standings taken.0 = subst (λ (c : Option Roster). AreTakenBy shape c old.standings taken.0) (sym e) taken.1 in (
          record { rosters = rosters; sights = sights; standings = taken.0 },
          picks taken.0 each,
          keeps_so taken.0 each (λ partition new is. subst (λ (c : Option Roster). KeepsLane (partition_of shape partition) (numbers_of shape.hosts (hosts_in (some_of c))) new (lane_in image partition) × IsInEach shape.hosts (some_of c) new.store.host) (sym e) (so roster partition new (taken.2 partition new is))),
        )
      where
        so : (r : Roster) (partition : ℕ) (new : LaneStanding) → KeepsLane (partition_of shape partition) (numbers_of shape.hosts r.hosts) new (lane_in image partition) × Contains (numbers_of shape.hosts r.hosts) new.store.host
            → KeepsLane (partition_of shape partition) (numbers_of shape.hosts (r.hosts ++ [])) new (lane_in image partition) × IsInEach shape.hosts (r ∷ []) new.store.host
        so r partition new one = (
          recorded_anew (partition_of shape partition) (numbers_of shape.hosts r.hosts) (numbers_of shape.hosts (r.hosts ++ [])) new (lane_in image partition) one.0 (λ n is. inl (more_numbers shape.hosts (r.hosts ++ []) r.hosts (no_more r.hosts) n is)),
          λ other s. ⊎_elim (λ here. subst (λ (q : Roster). Contains (numbers_of shape.hosts q.hosts) new.store.host) (sym here) one.1) (λ none. absurd (contains_none other none)) (contains_cases r [] other s),
        )

-- a finished roster is listed
finished_listed : (writing : Option Roster) (finished : List Roster) (roster : Roster) → Contains finished roster → Contains (listed_with writing finished) roster
finished_listed None finished roster is = is
finished_listed (Some new) finished roster is = contains_later new finished roster is

-- whatever image a restart takes
pub restart_picks : (shape : SiteShape) (old : Durable) (passing : List Roster) (image : SiteImage) → KeepsSite shape old passing image → IsSeenOrNot shape old passing image
    → (new : Durable) × Picks shape old new × KeepsSite shape new (some_of (counting_roster new.rosters)) image
restart_picks shape old passing image keeps decided = ⊎_elim
    (λ seen. restart_with shape old image old.rosters passing keeps
    (λ roster e. counting_in old.rosters.writing (last_finished old.rosters) roster passing (λ new w. (seen.0 new w).1) seen.1 e)
    refl
    (λ roster is. is)
    (inl (
      refl,
      λ roster e.
          let s = (seen.0 roster e).0 in
          let shown = keeps.shown s.1 in
          (s.1, contains_same shown.0 [] (Some roster) (shows_once (image (service_disk s.0)) (Some roster) shown.0 s.3 (shown.2 s.0 s.2))),
    )))
    (λ none. restart_with shape old image (record { finished = old.rosters.finished; writing = None }) passing keeps (λ roster e. none.1 roster e) refl (λ roster is. finished_listed old.rosters.writing old.rosters.finished roster is) (inr (refl, λ roster e shown. unseen_so none.0 roster e shown.0 shown.1)))
    decided
  where
    -- a host that shows the roster is one of the site, since the roster was given to it
    unseen_so : ((roster : Roster) → old.rosters.writing ≡ Some roster → ((number : ℕ) × (host : Host) × (slice_get shape.hosts number ≡ Some host) × Shows (image (service_disk number)) (Some roster)) → ⊥)
        → (roster : Roster) → old.rosters.writing ≡ Some roster → (host : Host) → MayShow (SightsOf shape image old.sights keeps.shown) host (Some roster) → ⊥
    unseen_so none roster e host may =
        let shown = keeps.shown host in
        let it : Some roster ≡ shown.0 = ⊎_elim (λ is. is) (λ no. absurd (contains_none (Some roster) no)) (contains_cases shown.0 [] (Some roster) may) in
        let given = host_of_given (listed old.rosters) roster host (keeps.rosters.known host roster (subst (λ (s : Option Roster). MayShow old.sights host s) (sym it) shown.1)) in
        let number = has_a_number shape.hosts host ((keeps.of_site given.0 given.1).hosts host given.2) in
        none roster e (number.0, host, number.1, subst (λ (s : Option Roster). Shows (image (service_disk number.0)) s) (sym it) (shown.2 number.0 number.1))

-- ---- the disks

-- the image is the same at each disk
moved_image : (shape : SiteShape) (durable : Durable) (passing : List Roster) (image other : SiteImage) → ((disk : DiskOf) → other disk ≡ image disk) → KeepsSite shape durable passing image → KeepsSite shape durable passing other
moved_image shape durable passing image other same keeps =
    let all : image ≡ other = λ i disk. sym (same disk) i in
    subst (λ (m : SiteImage). KeepsSite shape durable passing m) all keeps

-- a stop of an open cluster, or of a recovery: once its disks were restarted, what they hold was picked
pub stop_is_stored : (shape : SiteShape) (durable : Durable) (passing : List Roster) (old new : SiteView) (image : SiteImage) → IsSaved shape durable passing old → AreRestarted old new image → IsSeenOrNot shape durable passing image
    → (picked : Durable) × Picks shape durable picked × IsSaved shape picked (some_of (counting_roster picked.rosters)) new
stop_is_stored shape durable passing old new image saved restarted decided =
    let r = restart_picks shape durable passing image (saved image restarted.fewer) decided in
    (r.0, r.1, λ other taken. moved_image shape r.0 (some_of (counting_roster r.0.rosters)) image other (restarted.one other taken) r.2)
