-- What the acts on one disk keep of a whole site.
use Rattle.std.proofs.Common.{◌≡◌, ◌≢◌, ◌≤◌, ◌⊎◌, inl, inr, ⊎_elim, ℕ, zero, suc, List, [], ◌∷◌, ◌++◌, slice_get, Option, Some, None, refl, sym, ◌∙◌, ap, subst}
use Rattle.std.specs.Prelude.{Contains}
use Rattle.std.proofs.lemmas.Bool.{cases_eq}
use Rattle.std.proofs.lemmas.List.Elements.{Contains-append_left, Contains-append_right, Contains-append_cases}
use Rattle.cache_model.specs.Caches.{same}
use Rattle.disk_lane.specs.Lanes.{LaneImage}
use Rattle.disk_trait.specs.View.{Image}
use Rattle.seal_gate.specs.Seal.{IsSealed}
use Rattle.store_journal.specs.Created.{IsUnsealed}
use Rattle.file_kinds.specs.Kinds.{PartitionNumber}
use Rattle.roster_form.specs.Membership.{Host}
use Rattle.roster_form.specs.declared.roster.Roster.{Roster}
use Rattle.roster_form.specs.Shown.{Sights, MayShow, Shows, ShowsOneOf}
use Rattle.roster_form.specs.Succession.{Succeeds, IsGoodRoster, Rosters, KeepsRosters, IsShownByAll, listed, first_listed}
use Rattle.roster_form.proofs.PassLemmas.{some_is}
use Rattle.roster_form.proofs.ContainsLemmas.{contains_first, contains_same, contains_cases, contains_none}
use Rattle.roster_form.proofs.SuccessionLemmas.{first_keeps, begin_keeps, finish_keeps}
use Rattle.cluster_model.specs.Lane.{HostedStore, HoldsStore, IsSlot, LaneStanding, KeepsLane}
use Rattle.cluster_model.specs.LaneSteps.{standing_for}
use Rattle.cluster_model.specs.Site.{SiteShape, partition_of, numbers_of, service_disk, SiteImage, lane_in}
use Rattle.cluster_model.specs.Agreement.{hosts_in, some_of, two_of, with_writing, with_finished, IsInEach, IsRosterOf, IsShownOn, Durable, KeepsSite}
use Rattle.cluster_model.specs.SiteSteps.{changed_at, with_standing, with_rosters, with_sights, ChangesLane, ChangesService, IsNumberOf, IsCleared}
use Rattle.cluster_model.proofs.LaneLemmas.{recorded_anew}
use Rattle.cluster_model.proofs.SiteLemmas.{same_or_other, host_of_number, number_of_host, more_numbers}
use Rattle.cluster_model.proofs.AgreementLemmas.{two_pass, begin_agrees, finish_agrees}

-- ---- one lane

changed_there : {T : Type 0} (items : List T) (index : ℕ) (change : T → T) (item : T) → slice_get (changed_at items index change) index ≡ Some item → (old : T) × (slice_get items index ≡ Some old) × (item ≡ change old)
changed_there [] index change item e = absurd cc
changed_there (first ∷ others) zero change item e = (first, refl, sym (some_is (change first) item e))
changed_there (first ∷ others) (suc index) change item e = changed_there others index change item e

changed_elsewhere : {T : Type 0} (items : List T) (index other : ℕ) (change : T → T) → other ≢ index → slice_get (changed_at items index change) other ≡ slice_get items other
changed_elsewhere [] index other change ne = refl
changed_elsewhere (first ∷ others) zero zero change ne = absurd (ne refl)
changed_elsewhere (first ∷ others) zero (suc other) change ne = refl
changed_elsewhere (first ∷ others) (suc index) zero change ne = refl
changed_elsewhere (first ∷ others) (suc index) (suc other) change ne = changed_elsewhere others index other change (λ e. ne (ap suc e))

-- what keeps the lane keeps the site
pub lane_step_keeps : (shape : SiteShape) (durable : Durable) (passing : List Roster) (old new : SiteImage) (partition : ℕ) (change : LaneStanding → LaneStanding) → KeepsSite shape durable passing old → ChangesLane partition old new
    → ((standing : LaneStanding) → slice_get durable.standings partition ≡ Some standing → KeepsLane (partition_of shape partition) (numbers_of shape.hosts (hosts_in passing)) standing (lane_in old partition)
    → KeepsLane (partition_of shape partition) (numbers_of shape.hosts (hosts_in passing)) (change standing) (lane_in new partition) × IsInEach shape.hosts passing (change standing).store.host)
    → KeepsSite shape (with_standing durable partition change) passing new
lane_step_keeps shape durable passing old new partition change keeps one step = record {
  rosters = keeps.rosters;
  of_site = keeps.of_site;
  only = keeps.only;
  shown = λ host. let s = keeps.shown host in (s.0, s.1, λ number at. subst (λ (m : Image). Shows m s.0) (sym (one.services number)) (s.2 number at));
  lanes = λ other standing e. ⊎_elim
      (λ here.
      let was = changed_there durable.standings partition change standing (subst (λ (p : ℕ). slice_get (changed_at durable.standings partition change) p ≡ Some standing) here e) in
      subst (λ (p : ℕ). KeepsLane (partition_of shape p) (numbers_of shape.hosts (hosts_in passing)) standing (lane_in new p)) (sym here)
      (subst (λ (s : LaneStanding). KeepsLane (partition_of shape partition) (numbers_of shape.hosts (hosts_in passing)) s (lane_in new partition)) (sym was.2) (step was.0 was.1 (keeps.lanes partition was.0 was.1)).0))
      (λ ne.
      subst (λ (l : LaneImage). KeepsLane (partition_of shape other) (numbers_of shape.hosts (hosts_in passing)) standing l) (sym (one.lanes other ne))
      (keeps.lanes other standing (sym (changed_elsewhere durable.standings partition other change ne) ∙ e)))
      (cases_eq other partition);
  owners = λ other standing e. ⊎_elim
      (λ here.
      let was = changed_there durable.standings partition change standing (subst (λ (p : ℕ). slice_get (changed_at durable.standings partition change) p ≡ Some standing) here e) in
      subst (λ (s : LaneStanding). IsInEach shape.hosts passing s.store.host) (sym was.2) (step was.0 was.1 (keeps.lanes partition was.0 was.1)).1)
      (λ ne. keeps.owners other standing (sym (changed_elsewhere durable.standings partition other change ne) ∙ e))
      (cases_eq other partition);
}

-- ---- one service disk

-- what keeps the rosters, and shows what they allow, keeps the site
pub service_step_keeps : (shape : SiteShape) (durable : Durable) (sights : Sights) (old new : SiteImage) (number : ℕ) (host : Host) → KeepsSite shape durable (two_of durable.rosters) old → ChangesService number old new → IsNumberOf shape host number
    → KeepsRosters durable.rosters sights → ((other : Host) (shown : Option Roster) → MayShow durable.sights other shown → (other ≡ host) ⊎ MayShow sights other shown) → ShowsOneOf (sights host) (new (service_disk number))
    → KeepsSite shape (with_sights durable sights) (two_of durable.rosters) new
service_step_keeps shape durable sights old new number host keeps one numbered rosters wider here = record {
  rosters = rosters;
  of_site = keeps.of_site;
  only = λ sightings roster may passes. two_pass durable.rosters sights sightings roster rosters may passes;
  shown = λ name. ⊎_elim (λ it. there name it) (λ ne. still name ne) (same_or_other (same name host) name host refl);
  lanes = λ partition standing e. subst (λ (l : LaneImage). KeepsLane (partition_of shape partition) (numbers_of shape.hosts (hosts_in (two_of durable.rosters))) standing l) (sym (one.lanes partition)) (keeps.lanes partition standing e);
  owners = keeps.owners;
}
  where
    there : (name : Host) → name ≡ host → (shown : Option Roster) × MayShow sights name shown × IsShownOn shape new name shown
    there name it = (
      here.0,
      subst (λ (h : Host). MayShow sights h here.0) (sym it) here.2,
      λ n at. subst (λ (k : ℕ). Shows (new (service_disk k)) here.0) (sym (numbered.1 n (at ∙ ap (λ (h : Host). Some h) it))) here.1,
    )

    still : (name : Host) → name ≢ host → (shown : Option Roster) × MayShow sights name shown × IsShownOn shape new name shown
    still name ne =
        let was = keeps.shown name in (
          was.0,
          ⊎_elim (λ it. absurd (ne it)) (λ may. may) (wider name was.0 was.1),
          λ n at. ⊎_elim
              (λ it. absurd (ne (some_is name host (sym at ∙ ap (λ (k : ℕ). slice_get shape.hosts k) it ∙ numbered.0))))
              (λ alike. subst (λ (m : Image). Shows m was.0) (sym alike) (was.2 n at))
              (one.services n),
        )

-- ---- a change of the roster begins and ends, with no call

-- it begins where each of its hosts is recorded already but perhaps one, whose files aren't sealed, and has each owner
pub begin_site : (shape : SiteShape) (last : Roster) (older : List Roster) (new : Roster) (joining : Host) (durable : Durable) (image : SiteImage) → durable.rosters ≡ record { finished = last ∷ older; writing = None }
    → KeepsSite shape durable (two_of durable.rosters) image → Succeeds last new → IsGoodRoster new → IsRosterOf shape new
    → ((host : Host) → Contains new.hosts host → Contains last.hosts host ⊎ (host ≡ joining)) → IsCleared shape image joining ⊎ Contains last.hosts joining
    → ((partition : ℕ) (standing : LaneStanding) → slice_get durable.standings partition ≡ Some standing → Contains (numbers_of shape.hosts new.hosts) standing.store.host)
    → KeepsSite shape (with_rosters durable (with_writing durable.rosters new)) (two_of (with_writing durable.rosters new)) image
begin_site shape last older new joining durable image is keeps after good of_shape hosts cleared owners =
    let kept : KeepsRosters (with_writing durable.rosters new) durable.sights =
    subst (λ (r : Rosters). KeepsRosters (with_writing r new) durable.sights) (sym is) (begin_keeps last older new durable.sights (subst (λ (r : Rosters). KeepsRosters r durable.sights) is keeps.rosters) after good) in
    record {
      rosters = kept;
      of_site = λ roster listed_. ⊎_elim
          (λ here. subst (λ (r : Roster). IsRosterOf shape r) (sym here) of_shape)
          (λ there. keeps.of_site roster (subst (λ (r : Rosters). Contains (listed r) roster) (sym is) there))
          (contains_cases new (last ∷ older) roster (subst (λ (r : Rosters). Contains (listed (with_writing r new)) roster) is listed_));
      only = λ sightings roster may passes. two_pass (with_writing durable.rosters new) durable.sights sightings roster kept may passes;
      shown = keeps.shown;
      lanes = λ partition standing e. subst (λ (r : Rosters). KeepsLane (partition_of shape partition) (numbers_of shape.hosts (hosts_in (two_of (with_writing r new)))) standing (lane_in image partition)) (sym is)
          (wide partition standing (subst (λ (r : Rosters). KeepsLane (partition_of shape partition) (numbers_of shape.hosts (hosts_in (two_of r))) standing (lane_in image partition)) is (keeps.lanes partition standing e)));
      owners = λ partition standing e. begin_agrees shape.hosts durable.rosters new standing.store.host (keeps.owners partition standing e) (owners partition standing e);
    }
  where
    old_or_joining : (host : Host) → Contains (last.hosts ++ (new.hosts ++ [])) host → Contains last.hosts host ⊎ (host ≡ joining)
    old_or_joining host i = ⊎_elim
        (λ old. inl old)
        (λ more. ⊎_elim (λ now. hosts host now) (λ none. absurd (contains_none host none)) (Contains-append_cases new.hosts [] host more))
        (Contains-append_cases last.hosts (new.hosts ++ []) host i)

    known : (partition number : ℕ) → Contains (numbers_of shape.hosts (last.hosts ++ (new.hosts ++ []))) number → Contains (numbers_of shape.hosts (last.hosts ++ [])) number ⊎ ((f : ℕ) → f ≤ 1 → IsUnsealed (lane_in image partition number f))
    known partition number among =
        let found = host_of_number shape.hosts (last.hosts ++ (new.hosts ++ [])) number among in
        let old = (λ (is_old : Contains last.hosts found.0). number_of_host shape.hosts (last.hosts ++ []) number found.0 found.1 (Contains-append_left last.hosts [] found.0 is_old)) in
        ⊎_elim
        (λ is_old. inl (old is_old))
        (λ it. ⊎_elim
        (λ bare. inr (λ f low. bare number partition f (found.1 ∙ ap (λ (h : Host). Some h) it) low))
        (λ member. inl (old (subst (λ (h : Host). Contains last.hosts h) (sym it) member)))
        cleared)
        (old_or_joining found.0 found.2)

    wide : (partition : ℕ) (standing : LaneStanding) → KeepsLane (partition_of shape partition) (numbers_of shape.hosts (last.hosts ++ [])) standing (lane_in image partition)
        → KeepsLane (partition_of shape partition) (numbers_of shape.hosts (last.hosts ++ (new.hosts ++ []))) standing (lane_in image partition)
    wide partition standing k = recorded_anew (partition_of shape partition) (numbers_of shape.hosts (last.hosts ++ [])) (numbers_of shape.hosts (last.hosts ++ (new.hosts ++ []))) standing (lane_in image partition) k (known partition)

-- it ends where each of its hosts shows it and nothing else
pub finish_site : (shape : SiteShape) (finished : List Roster) (new : Roster) (durable : Durable) (image : SiteImage) → durable.rosters ≡ record { finished = finished; writing = Some new } → KeepsSite shape durable (two_of durable.rosters) image
    → IsShownByAll durable.sights new → KeepsSite shape (with_rosters durable (with_finished durable.rosters new)) (two_of (with_finished durable.rosters new)) image
finish_site shape finished new durable image is keeps all =
    let writing : durable.rosters.writing ≡ Some new = ap (λ (r : Rosters). r.writing) is in
    let kept : KeepsRosters (with_finished durable.rosters new) durable.sights =
    subst (λ (r : Rosters). KeepsRosters (with_finished r new) durable.sights) (sym is) (finish_keeps finished new durable.sights (subst (λ (r : Rosters). KeepsRosters r durable.sights) is keeps.rosters) all) in
    record {
      rosters = kept;
      of_site = λ roster listed_. keeps.of_site roster (subst (λ (r : Rosters). Contains (listed r) roster) (sym is) (subst (λ (r : Rosters). Contains (listed (with_finished r new)) roster) is listed_));
      only = λ sightings roster may passes. two_pass (with_finished durable.rosters new) durable.sights sightings roster kept may passes;
      shown = keeps.shown;
      lanes = λ partition standing e. recorded_anew (partition_of shape partition) (numbers_of shape.hosts (hosts_in (two_of durable.rosters))) (numbers_of shape.hosts (new.hosts ++ [])) standing (lane_in image partition) (keeps.lanes partition standing e)
          (λ number among. inl (more_numbers shape.hosts (new.hosts ++ []) (hosts_in (two_of durable.rosters)) still number among));
      owners = λ partition standing e. finish_agrees shape.hosts durable.rosters new standing.store.host (keeps.owners partition standing e) writing;
    }
  where
    after_last : (last : Option Roster) (host : Host) → Contains (new.hosts ++ []) host → Contains (hosts_in (some_of last ++ (new ∷ []))) host
    after_last None host i = i
    after_last (Some roster) host i = Contains-append_right roster.hosts (new.hosts ++ []) host i

    still : (host : Host) → Contains (new.hosts ++ []) host → Contains (hosts_in (two_of durable.rosters)) host
    still host i = subst (λ (r : Rosters). Contains (hosts_in (two_of r)) host) (sym is) (after_last (first_listed finished) host i)

-- ---- a creation

-- a lane in which one store was made: the host's other file isn't sealed
pub made_lane : (number : PartitionNumber) (store : HostedStore) (files : LaneImage) (file : ℕ) → file ≤ 1 → HoldsStore number store (files store.host file) → ((f : ℕ) → f ≤ 1 → (f ≡ file) ⊎ IsUnsealed (files store.host f))
    → KeepsLane number (store.host ∷ []) (standing_for store) files
made_lane number store files file within has others = record {
  file = file;
  one_of_two = within;
  current = (store, contains_first store [], refl, refl, has);
  newer = λ other none. absurd (contains_none other none);
  slots = λ host f is low. subst (λ (h : ℕ). IsSlot number (standing_for store) h (files h f)) (sym (same host is))
      (⊎_elim (λ it. inr (inr (store, contains_first store [], refl, subst (λ (k : ℕ). HoldsStore number store (files store.host k)) (sym it) has))) (λ bare. inl bare) (others f low));
  apart = λ host other f g is also low high sealed too equal least.
      let one = same host is in
      let two = same other also in
      (one ∙ sym two, in_file host f one low sealed ∙ sym (in_file other g two high too));
}
  where
    same : (host : ℕ) → Contains (store.host ∷ []) host → host ≡ store.host
    same host is = ⊎_elim (λ here. here) (λ none. absurd (contains_none host none)) (contains_cases store.host [] host is)

    in_file : (host f : ℕ) → host ≡ store.host → f ≤ 1 → IsSealed (files host f) → f ≡ file
    in_file host f e low sealed = ⊎_elim (λ it. it) (λ bare. absurd (bare (subst (λ (h : ℕ). IsSealed (files h f)) e sealed))) (others f low)

-- the stores are made, and no host shows a roster: the first one may be written
pub create_site : (shape : SiteShape) (first : Roster) (number : ℕ) (host : Host) (sights : Sights) (standings : List LaneStanding) (image : SiteImage) → first.epoch ≡ 1 → IsGoodRoster first → IsRosterOf shape first → first.hosts ≡ host ∷ []
    → IsNumberOf shape host number → ((other : Host) (roster : Roster) → MayShow sights other (Some roster) → ⊥)
    → ((name : Host) → (shown : Option Roster) × MayShow sights name shown × IsShownOn shape image name shown)
    → ((partition : ℕ) (standing : LaneStanding) → slice_get standings partition ≡ Some standing → KeepsLane (partition_of shape partition) (number ∷ []) standing (lane_in image partition) × (standing.store.host ≡ number))
    → KeepsSite shape (record { rosters = record { finished = []; writing = Some first }; sights = sights; standings = standings }) (first ∷ []) image
create_site shape first number host sights standings image one good of_shape hosts numbered none shown lanes =
    let kept = first_keeps first sights one good none in
    record {
      rosters = kept;
      of_site = λ roster is. subst (λ (r : Roster). IsRosterOf shape r) (sym (is_first roster is)) of_shape;
      only = λ sightings roster may passes. two_pass (record { finished = []; writing = Some first }) sights sightings roster kept may passes;
      shown = shown;
      lanes = λ partition standing e. recorded_anew (partition_of shape partition) (number ∷ []) (numbers_of shape.hosts (first.hosts ++ [])) standing (lane_in image partition) (lanes partition standing e).0 (λ other among. inl (contains_same number [] other (only_one other among)));
      owners = λ partition standing e roster is. subst (λ (n : ℕ). Contains (numbers_of shape.hosts roster.hosts) n) (sym (lanes partition standing e).1)
          (number_of_host shape.hosts roster.hosts number host numbered.0 (subst (λ (r : Roster). Contains r.hosts host) (sym (is_first roster is)) (subst (λ (l : List Host). Contains l host) (sym hosts) (contains_first host []))));
    }
  where
    is_first : (roster : Roster) → Contains (first ∷ []) roster → roster ≡ first
    is_first roster is = ⊎_elim (λ here. here) (λ none_more. absurd (contains_none roster none_more)) (contains_cases first [] roster is)

    is_host : (name : Host) → Contains (host ∷ []) name → name ≡ host
    is_host name is = ⊎_elim (λ here. here) (λ none_more. absurd (contains_none name none_more)) (contains_cases host [] name is)

    only_one : (other : ℕ) → Contains (numbers_of shape.hosts (first.hosts ++ [])) other → other ≡ number
    only_one other among =
        let found = host_of_number shape.hosts (first.hosts ++ []) other among in
        let named = ⊎_elim (λ is. is) (λ none_more. absurd (contains_none found.0 none_more)) (Contains-append_cases first.hosts [] found.0 found.2) in
        numbered.1 other (found.1 ∙ ap (λ (h : Host). Some h) (is_host found.0 (subst (λ (l : List Host). Contains l found.0) hosts named)))
