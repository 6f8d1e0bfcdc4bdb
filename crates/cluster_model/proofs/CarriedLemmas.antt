-- What a whole plan keeps of a site, act by act.
use Rattle.std.proofs.Common.{◌≡◌, ◌≢◌, ◌≤◌, ◌⊎◌, inl, inr, ⊎_elim, ℕ, zero, suc, ◌==◌, List, [], ◌∷◌, map, slice_get, Option, Some, None, Bool, true, false, not, refl, sym, ◌∙◌, ap, subst, if◌then◌else◌}
use Rattle.std.specs.Prelude.{Contains}
use Rattle.std.specs.List.{filter}
use Rattle.std.specs.Cmp.Lexicographic.{bytes_decides}
use Rattle.std.proofs.lemmas.Bool.{ne_eqb, cases_eq}
use Rattle.cache_model.specs.Caches.{same}
use Rattle.disk_lane.specs.Lanes.{LaneImage}
use Rattle.disk_trait.specs.View.{Image}
use Rattle.seal_gate.specs.Seal.{IsSealed}
use Rattle.store_journal.specs.Created.{IsUnsealed}
use Rattle.file_kinds.specs.Kinds.{PartitionNumber}
use Rattle.roster_form.specs.Membership.{Host}
use Rattle.roster_form.specs.declared.roster.Roster.{Roster}
use Rattle.roster_form.specs.Shown.{Sights, MayShow, Shows, ShowsOneOf}
use Rattle.roster_form.specs.Succession.{KeepsRosters}
use Rattle.roster_form.proofs.PassLemmas.{some_is}
use Rattle.roster_form.proofs.ContainsLemmas.{contains_same, contains_later, contains_cases, contains_none}
use Rattle.cluster_model.specs.Lane.{HostedStore, LaneStanding, choices, KeepsLane}
use Rattle.cluster_model.specs.Site.{SiteShape, partition_of, numbers_of, lane_disk, service_disk, SiteImage, lane_in}
use Rattle.cluster_model.specs.Agreement.{hosts_in, two_of, Durable, KeepsSite}
use Rattle.cluster_model.specs.SiteSteps.{changed_at, with_standing, with_rosters, with_sights, IsCleared}
use Rattle.cluster_model.specs.Acts.{SiteHost, Act, quiet, appends, seals, writes, clears, begins, finishes, sights_with, without_host, written_to, perhaps_written_to, finished_with, done, tried, KeepsRostersAt, KeepsRostersThroughout}
use Rattle.cluster_model.specs.Carried.{MovesLane, MovesService, MovesRoster, ShowsTheSame, IsDoneOver, IsTriedOver, IsCarriedOver}
use Rattle.cluster_model.proofs.SiteStepLemmas.{lane_step_keeps, service_step_keeps, begin_site, finish_site}

-- one image of the site keeps what the disks keep, while two rosters may pass
abbrev KeepsNow : SiteShape → Durable → SiteImage → Type 0
KeepsNow shape durable image = KeepsSite shape durable (two_of durable.rosters) image

-- ---- sights

sights_after : (b : Bool) (sights : Sights) (host other : Host) (shown : List (Option Roster)) (one : Option Roster) → same host other ≡ b → MayShow sights other one → (other ≡ host) ⊎ Contains (if b then shown else sights other) one
sights_after true sights host other shown one e may = inl (sym ((bytes_decides host other).0 e))
sights_after false sights host other shown one e may = inr may

wider_with : (sights : Sights) (host : Host) (shown : List (Option Roster)) (other : Host) (one : Option Roster) → MayShow sights other one → (other ≡ host) ⊎ MayShow (sights_with sights host shown) other one
wider_with sights host shown other one may = sights_after (same host other) sights host other shown one refl may

own_case : (b : Bool) (shown others : List (Option Roster)) → b ≡ true → (if b then shown else others) ≡ shown
own_case true shown others e = refl
own_case false shown others e = absurd cc

own_sights : (sights : Sights) (host : Host) (shown : List (Option Roster)) → sights_with sights host shown host ≡ shown
own_sights sights host shown = own_case (same host host) shown (sights host) ((bytes_decides host host).1 refl)

service_keeps : (shape : SiteShape) (durable : Durable) (host : SiteHost) (shown : List (Option Roster)) (old new : SiteImage) → KeepsNow shape durable old → MovesService shape host shown old new
    → KeepsRosters durable.rosters (sights_with durable.sights host.name shown) → KeepsNow shape (with_sights durable (sights_with durable.sights host.name shown)) new
service_keeps shape durable host shown old new keeps moves rosters = service_step_keeps shape durable (sights_with durable.sights host.name shown) old new host.number host.name keeps moves.others moves.numbered rosters
    (wider_with durable.sights host.name shown)
    (subst (λ (l : List (Option Roster)). ShowsOneOf l (new (service_disk host.number))) (sym (own_sights durable.sights host.name shown)) moves.shows)

-- ---- quiet acts

changed_same : (items : List LaneStanding) (index : ℕ) → changed_at items index (λ standing. standing) ≡ items
changed_same [] index = refl
changed_same (first ∷ others) zero = refl
changed_same (first ∷ others) (suc index) = λ i. first ∷ changed_same others index i

quiet_lane : (shape : SiteShape) (durable : Durable) (partition : ℕ) (old new : SiteImage) → KeepsNow shape durable old → MovesLane shape durable partition (λ standing. standing) old new → KeepsNow shape durable new
quiet_lane shape durable partition old new keeps moves =
    let alike : with_standing durable partition (λ standing. standing) ≡ durable = λ i. record { rosters = durable.rosters; sights = durable.sights; standings = changed_same durable.standings partition i } in
    subst (λ (d : Durable). KeepsNow shape d new) alike (lane_step_keeps shape durable (two_of durable.rosters) old new partition (λ standing. standing) keeps moves.others moves.keeps)

quiet_service : (shape : SiteShape) (durable : Durable) (number : ℕ) (old new : SiteImage) → KeepsNow shape durable old → ShowsTheSame number old new → KeepsNow shape durable new
quiet_service shape durable number old new keeps moves = record {
  rosters = keeps.rosters;
  of_site = keeps.of_site;
  only = keeps.only;
  shown = λ host. let s = keeps.shown host in (
    s.0,
    s.1,
    λ n at. ⊎_elim
        (λ it. subst (λ (k : ℕ). Shows (new (service_disk k)) s.0) (sym it) (moves.same s.0 (subst (λ (k : ℕ). Shows (old (service_disk k)) s.0) it (s.2 n at))))
        (λ alike. subst (λ (m : Image). Shows m s.0) (sym alike) (s.2 n at))
        (moves.others.services n),
  );
  lanes = λ partition standing e. subst (λ (l : LaneImage). KeepsLane (partition_of shape partition) (numbers_of shape.hosts (hosts_in (two_of durable.rosters))) standing l) (sym (moves.others.lanes partition)) (keeps.lanes partition standing e);
  owners = keeps.owners;
}

-- ---- a host that is cleared

kept_in : (test : HostedStore → Bool) (stores : List HostedStore) (store : HostedStore) → Contains stores store → test store ≡ true → Contains (filter test stores) store
kept_in test [] store is e = absurd (contains_none store is)
kept_in test (first ∷ stores) store is e = go (test first) refl (contains_cases first stores store is) (λ there. kept_in test stores store there e)
  where
    go : (b : Bool) → test first ≡ b → (store ≡ first) ⊎ Contains stores store → (Contains stores store → Contains (filter test stores) store) → Contains (if b then first ∷ filter test stores else filter test stores) store
    go true t which later = ⊎_elim (λ here. contains_same first (filter test stores) store here) (λ there. contains_later first (filter test stores) store (later there)) which
    go false t which later = ⊎_elim (λ here. absurd (let no : true ≡ false = sym e ∙ (ap test here ∙ t) in cc)) later which

kept_from : (test : HostedStore → Bool) (stores : List HostedStore) (store : HostedStore) → Contains (filter test stores) store → Contains stores store
kept_from test [] store is = is
kept_from test (first ∷ stores) store is = go (test first) (λ there. kept_from test stores store there) is
  where
    go : (b : Bool) → (Contains (filter test stores) store → Contains stores store) → Contains (if b then first ∷ filter test stores else filter test stores) store → Contains (first ∷ stores) store
    go true later has = ⊎_elim (λ here. contains_same first stores store here) (λ there. contains_later first stores store (later there)) (contains_cases first (filter test stores) store has)
    go false later has = contains_later first stores store (later has)

without_keeps : (number : PartitionNumber) (recorded : List ℕ) (host : ℕ) (standing : LaneStanding) (lane : LaneImage) → KeepsLane number recorded standing lane → standing.store.host ≢ host → ((f : ℕ) → f ≤ 1 → IsUnsealed (lane host f))
    → KeepsLane number recorded (without_host host standing) lane
without_keeps number recorded host standing lane keeps apart bare = record {
  file = keeps.file;
  one_of_two = keeps.one_of_two;
  current = let c = keeps.current in (c.0, still c.0 (λ it. apart (sym c.2 ∙ it)) c.1, c.2, c.3, c.4);
  newer = λ store is. keeps.newer store (kept_from (λ s. not (host == s.host)) standing.perhaps store is);
  slots = λ h f is low. ⊎_elim
      (λ empty. inl empty)
      (⊎_elim
      (λ less. inr (inl less))
      (λ has. ⊎_elim
      (λ it. absurd (bare f low (subst (λ (k : ℕ). IsSealed (lane k f)) (sym has.2 ∙ it) has.3.text.text.sealed)))
      (λ ne. inr (inr (has.0, still has.0 ne has.1, has.2, has.3)))
      (cases_eq has.0.host host)))
      (keeps.slots h f is low);
  apart = keeps.apart;
}
  where
    still : (store : HostedStore) → store.host ≢ host → Contains (choices standing) store → Contains (choices (without_host host standing)) store
    still store ne is = ⊎_elim
        (λ it. contains_same standing.store (without_host host standing).perhaps store it)
        (λ there. contains_later standing.store (without_host host standing).perhaps store (kept_in (λ s. not (host == s.host)) standing.perhaps store there (ap not (ne_eqb host store.host (λ e. ne (sym e))))))
        (contains_cases standing.store standing.perhaps store is)

mapped : (change : LaneStanding → LaneStanding) (items : List LaneStanding) (index : ℕ) (item : LaneStanding) → slice_get (map change items) index ≡ Some item → (old : LaneStanding) × (slice_get items index ≡ Some old) × (item ≡ change old)
mapped change [] index item e = absurd cc
mapped change (first ∷ others) zero item e = (first, refl, sym (some_is (change first) item e))
mapped change (first ∷ others) (suc index) item e = mapped change others index item e

cleared_keeps : (shape : SiteShape) (durable : Durable) (host : SiteHost) (old new : SiteImage) → KeepsNow shape durable old → MovesService shape host (None ∷ []) old new → IsCleared shape old host.name
    → ((partition : ℕ) (standing : LaneStanding) → slice_get durable.standings partition ≡ Some standing → standing.store.host ≢ host.number) → KeepsRosters durable.rosters (sights_with durable.sights host.name (None ∷ []))
    → KeepsNow shape (done (clears host) durable) new
cleared_keeps shape durable host old new keeps moves cleared owners rosters =
    let k = service_keeps shape durable host (None ∷ []) old new keeps moves rosters in
    record {
      rosters = k.rosters;
      of_site = k.of_site;
      only = k.only;
      shown = k.shown;
      lanes = λ partition standing e.
          let was = mapped (without_host host.number) durable.standings partition standing e in
          subst (λ (s : LaneStanding). KeepsLane (partition_of shape partition) (numbers_of shape.hosts (hosts_in (two_of durable.rosters))) s (lane_in new partition)) (sym was.2)
          (without_keeps (partition_of shape partition) (numbers_of shape.hosts (hosts_in (two_of durable.rosters))) host.number was.0 (lane_in new partition) (k.lanes partition was.0 was.1) (owners partition was.0 was.1)
          (λ f low. subst (λ (l : LaneImage). IsUnsealed (l host.number f)) (sym (moves.others.lanes partition)) (cleared host.number partition f moves.numbered.0 low)));
      owners = λ partition standing e roster may.
          let was = mapped (without_host host.number) durable.standings partition standing e in
          subst (λ (s : LaneStanding). Contains (numbers_of shape.hosts roster.hosts) s.store.host) (sym was.2) (k.owners partition was.0 was.1 roster may);
    }

-- ---- a roster is written

written_keeps : (shape : SiteShape) (durable : Durable) (host : SiteHost) (old new : SiteImage) → KeepsNow shape durable old → MovesRoster shape durable host (λ roster. Some roster ∷ []) old new → KeepsRostersAt (done (writes host) durable) → KeepsNow shape (done (writes host) durable) new
written_keeps shape durable host old new keeps moves kept = subst (λ (w : Option Roster). KeepsRostersAt (written_to durable host.name w) → KeepsNow shape (written_to durable host.name w) new) (sym moves.writing)
    (λ rosters. service_keeps shape durable host (Some moves.roster ∷ []) old new keeps moves.moves rosters)
    kept

perhaps_written_keeps : (shape : SiteShape) (durable : Durable) (host : SiteHost) (old new : SiteImage) → KeepsNow shape durable old → MovesRoster shape durable host (λ roster. Some roster ∷ durable.sights host.name) old new → KeepsRostersAt (tried (writes host) durable) → KeepsNow shape (tried (writes host) durable) new
perhaps_written_keeps shape durable host old new keeps moves kept = subst (λ (w : Option Roster). KeepsRostersAt (perhaps_written_to durable host.name w) → KeepsNow shape (perhaps_written_to durable host.name w) new) (sym moves.writing)
    (λ rosters. service_keeps shape durable host (Some moves.roster ∷ durable.sights host.name) old new keeps moves.moves rosters)
    kept

-- ---- one act

done_keeps : (shape : SiteShape) (act : Act) (durable : Durable) (old new : SiteImage) → KeepsNow shape durable old → IsDoneOver shape act durable old new → KeepsRostersAt (done act durable) → KeepsNow shape (done act durable) new
done_keeps shape (quiet (lane_disk partition host)) durable old new keeps moves kept = quiet_lane shape durable partition old new keeps moves
done_keeps shape (quiet (service_disk number)) durable old new keeps moves kept = quiet_service shape durable number old new keeps moves
done_keeps shape (appends partition host group size) durable old new keeps moves kept = lane_step_keeps shape durable (two_of durable.rosters) old new partition _ keeps moves.others moves.keeps
done_keeps shape (seals partition store) durable old new keeps moves kept = lane_step_keeps shape durable (two_of durable.rosters) old new partition _ keeps moves.others moves.keeps
done_keeps shape (writes host) durable old new keeps moves kept = written_keeps shape durable host old new keeps moves kept
done_keeps shape (clears host) durable old new keeps moves kept = cleared_keeps shape durable host old new keeps moves.0 moves.1 moves.2 kept
done_keeps shape (begins roster) durable old new keeps moves kept =
    let may = moves.1 in
    subst (λ (m : SiteImage). KeepsNow shape (done (begins roster) durable) m) (sym moves.0) (begin_site shape may.last may.older roster may.joining durable old may.rosters keeps may.succeeds may.good may.of_site may.hosts may.cleared may.owners)
done_keeps shape finishes durable old new keeps moves kept =
    let may = moves.1 in
    let writing : durable.rosters.writing ≡ Some may.new = ap (λ r. r.writing) may.rosters in
    subst (λ (m : SiteImage). KeepsNow shape (done finishes durable) m) (sym moves.0)
    (subst (λ (w : Option Roster). KeepsNow shape (with_rosters durable (finished_with durable.rosters w)) old) (sym writing) (finish_site shape may.finished may.new durable old may.rosters keeps may.all))

tried_keeps : (shape : SiteShape) (act : Act) (durable : Durable) (old new : SiteImage) → KeepsNow shape durable old → IsTriedOver shape act durable old new → KeepsRostersAt (tried act durable) → KeepsNow shape (tried act durable) new
tried_keeps shape (quiet (lane_disk partition host)) durable old new keeps moves kept = quiet_lane shape durable partition old new keeps moves
tried_keeps shape (quiet (service_disk number)) durable old new keeps moves kept = quiet_service shape durable number old new keeps moves
tried_keeps shape (appends partition host group size) durable old new keeps moves kept = lane_step_keeps shape durable (two_of durable.rosters) old new partition _ keeps moves.others moves.keeps
tried_keeps shape (seals partition store) durable old new keeps moves kept = lane_step_keeps shape durable (two_of durable.rosters) old new partition _ keeps moves.others moves.keeps
tried_keeps shape (writes host) durable old new keeps moves kept = perhaps_written_keeps shape durable host old new keeps moves kept
tried_keeps shape (clears host) durable old new keeps moves kept = service_keeps shape durable host (None ∷ durable.sights host.name) old new keeps moves kept
tried_keeps shape (begins roster) durable old new keeps moves kept = subst (λ (m : SiteImage). KeepsNow shape durable m) (sym moves) keeps
tried_keeps shape finishes durable old new keeps moves kept = subst (λ (m : SiteImage). KeepsNow shape durable m) (sym moves) keeps

-- ---- several

at_its_start : (acts : List Act) (durable : Durable) → KeepsRostersThroughout acts durable → KeepsRostersAt durable
at_its_start [] durable keeps = keeps
at_its_start (act ∷ acts) durable keeps = keeps.0

stays : (shape : SiteShape) (durable kept : Durable) (old new : SiteImage) → KeepsNow shape durable old → kept ≡ durable → new ≡ old → KeepsNow shape kept new
stays shape durable kept old new keeps is alike = subst (λ (d : Durable). KeepsNow shape d new) (sym is) (subst (λ (m : SiteImage). KeepsNow shape durable m) (sym alike) keeps)

pub carried_keeps : (shape : SiteShape) (acts : List Act) (durable kept : Durable) (old new : SiteImage) → KeepsSite shape durable (two_of durable.rosters) old → KeepsRostersThroughout acts durable → IsCarriedOver shape acts durable kept old new
    → KeepsSite shape kept (two_of kept.rosters) new
carried_keeps shape [] durable kept old new keeps rosters carried = stays shape durable kept old new keeps carried.0 carried.1
carried_keeps shape (act ∷ acts) durable kept old new keeps rosters (inl none) = stays shape durable kept old new keeps none.0 none.1
carried_keeps shape (act ∷ acts) durable kept old new keeps rosters (inr (inl some)) = subst (λ (d : Durable). KeepsNow shape d new) (sym some.0) (tried_keeps shape act durable old new keeps some.1 rosters.1)
carried_keeps shape (act ∷ acts) durable kept old new keeps rosters (inr (inr more)) =
    carried_keeps shape acts (done act durable) kept more.0 new (done_keeps shape act durable old more.0 keeps more.1 (at_its_start acts (done act durable) rosters.2)) rosters.2 more.2
