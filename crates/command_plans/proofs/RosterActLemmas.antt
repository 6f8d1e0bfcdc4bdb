-- A change of the roster keeps the cluster, act by act: it begins, is written, and ends.
use Rattle.std.proofs.Common.{◌≡◌, ⊎_elim, ℕ, List, [], ◌∷◌, ◌++◌, slice_get, Option, Some, None, refl, sym, ◌∙◌, subst}
use Rattle.std.specs.Prelude.{⊤, Contains}
use Rattle.roster_form.specs.Membership.{Host}
use Rattle.roster_form.specs.Shown.{Sights}
use Rattle.roster_form.specs.declared.roster.Roster.{Roster}
use Rattle.roster_form.specs.Succession.{KeepsRosters, listed_with}
use Rattle.roster_form.proofs.ContainsLemmas.{contains_later, contains_cases}
use Rattle.cluster_model.specs.Lane.{LaneStanding}
use Rattle.cluster_model.specs.Site.{SiteShape, DiskOf, numbers_of}
use Rattle.cluster_model.specs.Agreement.{with_finished, IsRosterOf, Durable}
use Rattle.cluster_model.specs.SiteSteps.{with_rosters, with_sights}
use Rattle.cluster_model.specs.Memory.{MoveState, PartState}
use Rattle.cluster_model.specs.Acts.{Act, quiet, appends, seals, writes, clears, begins, finishes, disk_called, written_to, perhaps_written_to, finished_with, tried, done, all_done, KeepsRostersAt, KeepsRostersThroughout}
use Rattle.cluster_model.proofs.AgreementLemmas.{begin_agrees, finish_agrees}
use Rattle.command_plans.specs.Kept.{HoldsThroughout, HoldsWhereCalled, KeepsCluster}
use Rattle.command_plans.proofs.ThroughoutLemmas.{rosters_first}

-- ---- what changes

-- a roster fits a cluster: it is of the site, and has each owner and each target of a move
pub record Fits (shape : SiteShape) (parts : List PartState) (standings : List LaneStanding) (new : Roster) : Type 0 where
  pub of_site : IsRosterOf shape new
  pub owners : (partition : ℕ) (standing : LaneStanding) → slice_get standings partition ≡ Some standing → Contains (numbers_of shape.hosts new.hosts) standing.store.host
  pub targets : (partition : ℕ) (part : PartState) (move : MoveState) → slice_get parts partition ≡ Some part → part.move ≡ Some move → Contains (numbers_of shape.hosts new.hosts) move.to

-- hosts show something else
pub sights_keep : (shape : SiteShape) (parts : List PartState) (durable : Durable) (sights : Sights) → KeepsCluster shape parts durable → KeepsRosters durable.rosters sights → KeepsCluster shape parts (with_sights durable sights)
sights_keep shape parts durable sights keeps rosters = record {
  rosters = record { rosters = rosters; of_site = keeps.rosters.of_site };
  made = keeps.made;
  number = keeps.number;
  each = λ partition standing e. let one = keeps.each partition standing e in record { owner = one.owner; flight = one.flight; each = one.each };
  targets = keeps.targets;
}

in_listed : (writing : Option Roster) (finished : List Roster) (roster : Roster) → Contains finished roster → Contains (listed_with writing finished) roster
in_listed None finished roster is = is
in_listed (Some new) finished roster is = contains_later new finished roster is

-- a change begins
pub begun_keeps : (shape : SiteShape) (parts : List PartState) (durable : Durable) (new : Roster) → KeepsCluster shape parts durable → Fits shape parts durable.standings new → KeepsRostersAt (done (begins new) durable) → KeepsCluster shape parts (done (begins new) durable)
begun_keeps shape parts durable new keeps fits rosters = record {
  rosters = record {
    rosters = rosters;
    of_site = λ roster is. ⊎_elim
        (λ here. subst (λ (r : Roster). IsRosterOf shape r) (sym here) fits.of_site)
        (λ there. keeps.rosters.of_site roster (in_listed durable.rosters.writing durable.rosters.finished roster there))
        (contains_cases new durable.rosters.finished roster is);
  };
  made = keeps.made;
  number = keeps.number;
  each = λ partition standing e.
      let one = keeps.each partition standing e in
      record { owner = begin_agrees shape.hosts durable.rosters new standing.store.host one.owner (fits.owners partition standing e); flight = one.flight; each = one.each };
  targets = λ partition part move e f. begin_agrees shape.hosts durable.rosters new move.to (keeps.targets partition part move e f) (fits.targets partition part move e f);
}

-- it ends
finished_keeps : (shape : SiteShape) (parts : List PartState) (durable : Durable) (new : Roster) → KeepsCluster shape parts durable → durable.rosters.writing ≡ Some new → KeepsRostersAt (with_rosters durable (with_finished durable.rosters new))
    → KeepsCluster shape parts (with_rosters durable (with_finished durable.rosters new))
finished_keeps shape parts durable new keeps writing rosters = record {
  rosters = record {
    rosters = rosters;
    of_site = λ roster is. keeps.rosters.of_site roster (subst (λ (w : Option Roster). Contains (listed_with w durable.rosters.finished) roster) (sym writing) is);
  };
  made = (new, refl);
  number = keeps.number;
  each = λ partition standing e.
      let one = keeps.each partition standing e in
      record { owner = finish_agrees shape.hosts durable.rosters new standing.store.host one.owner writing; flight = one.flight; each = one.each };
  targets = λ partition part move e f. finish_agrees shape.hosts durable.rosters new move.to (keeps.targets partition part move e f) writing;
}

pub ended_keeps : (shape : SiteShape) (parts : List PartState) (durable : Durable) → KeepsCluster shape parts durable → KeepsRostersAt (done finishes durable) → KeepsCluster shape parts (done finishes durable)
ended_keeps shape parts durable keeps rosters = by durable.rosters.writing refl rosters
  where
    by : (writing : Option Roster) → durable.rosters.writing ≡ writing → KeepsRostersAt (with_rosters durable (finished_with durable.rosters writing)) → KeepsCluster shape parts (with_rosters durable (finished_with durable.rosters writing))
    by None e kept = keeps
    by (Some new) e kept = finished_keeps shape parts durable new keeps e kept

-- ---- several acts

-- acts that change rosters alone; each that begins has a roster that fits
abbrev pub AreRosterActs : SiteShape → List PartState → List LaneStanding → List Act → Type 0
AreRosterActs shape parts standings [] = ⊤
AreRosterActs shape parts standings (quiet disk ∷ acts) = AreRosterActs shape parts standings acts
AreRosterActs shape parts standings (appends partition host group size ∷ acts) = ⊥
AreRosterActs shape parts standings (seals partition store ∷ acts) = ⊥
AreRosterActs shape parts standings (writes host ∷ acts) = AreRosterActs shape parts standings acts
AreRosterActs shape parts standings (clears host ∷ acts) = ⊥
AreRosterActs shape parts standings (begins new ∷ acts) = Fits shape parts standings new × AreRosterActs shape parts standings acts
AreRosterActs shape parts standings (finishes ∷ acts) = AreRosterActs shape parts standings acts

tried_write : (shape : SiteShape) (parts : List PartState) (durable : Durable) (host : Host) (writing : Option Roster) → KeepsCluster shape parts durable → KeepsRostersAt (perhaps_written_to durable host writing) → KeepsCluster shape parts (perhaps_written_to durable host writing)
tried_write shape parts durable host None keeps rosters = keeps
tried_write shape parts durable host (Some new) keeps rosters = sights_keep shape parts durable _ keeps rosters

done_write : (shape : SiteShape) (parts : List PartState) (durable : Durable) (host : Host) (writing : Option Roster) → KeepsCluster shape parts durable → KeepsRostersAt (written_to durable host writing) → KeepsCluster shape parts (written_to durable host writing)
done_write shape parts durable host None keeps rosters = keeps
done_write shape parts durable host (Some new) keeps rosters = sights_keep shape parts durable _ keeps rosters

pub standings_stay : (durable : Durable) (host : Host) (writing : Option Roster) → (written_to durable host writing).standings ≡ durable.standings
standings_stay durable host None = refl
standings_stay durable host (Some new) = refl

pub rosters_stay : (durable : Durable) (host : Host) (writing : Option Roster) → (written_to durable host writing).rosters ≡ durable.rosters
rosters_stay durable host None = refl
rosters_stay durable host (Some new) = refl

pub roster_acts_keep : (shape : SiteShape) (parts : List PartState) (standings : List LaneStanding) (acts : List Act) (durable : Durable) → durable.standings ≡ standings → AreRosterActs shape parts standings acts → KeepsCluster shape parts durable → KeepsRostersThroughout acts durable
    → HoldsThroughout (KeepsCluster shape parts) acts durable
roster_acts_keep shape parts standings [] durable same are keeps rosters = keeps
roster_acts_keep shape parts standings (quiet disk ∷ acts) durable same are keeps rosters = (keeps, keeps, roster_acts_keep shape parts standings acts durable same are keeps rosters.2)
roster_acts_keep shape parts standings (appends partition host group size ∷ acts) durable same are keeps rosters = absurd are
roster_acts_keep shape parts standings (seals partition store ∷ acts) durable same are keeps rosters = absurd are
roster_acts_keep shape parts standings (writes host ∷ acts) durable same are keeps rosters =
    let after = done (writes host) durable in (
      keeps,
      tried_write shape parts durable host.name durable.rosters.writing keeps rosters.1,
      roster_acts_keep shape parts standings acts after (standings_stay durable host.name durable.rosters.writing ∙ same) are
          (done_write shape parts durable host.name durable.rosters.writing keeps (rosters_first acts after rosters.2)) rosters.2,
    )
roster_acts_keep shape parts standings (clears host ∷ acts) durable same are keeps rosters = absurd are
roster_acts_keep shape parts standings (begins new ∷ acts) durable same are keeps rosters =
    let after = done (begins new) durable in (
      keeps,
      keeps,
      roster_acts_keep shape parts standings acts after same are.1
          (begun_keeps shape parts durable new keeps (subst (λ (s : List LaneStanding). Fits shape parts s new) (sym same) are.0) (rosters_first acts after rosters.2)) rosters.2,
    )
roster_acts_keep shape parts standings (finishes ∷ acts) durable same are keeps rosters =
    let after = done finishes durable in (keeps, keeps, roster_acts_keep shape parts standings acts after same are (ended_keeps shape parts durable keeps (rosters_first acts after rosters.2)) rosters.2)

-- ---- one list after another

pub are_then : (shape : SiteShape) (parts : List PartState) (standings : List LaneStanding) (acts more : List Act) → AreRosterActs shape parts standings acts → AreRosterActs shape parts standings more → AreRosterActs shape parts standings (acts ++ more)
are_then shape parts standings [] more first next = next
are_then shape parts standings (quiet disk ∷ acts) more first next = are_then shape parts standings acts more first next
are_then shape parts standings (appends partition host group size ∷ acts) more first next = absurd first
are_then shape parts standings (seals partition store ∷ acts) more first next = absurd first
are_then shape parts standings (writes host ∷ acts) more first next = are_then shape parts standings acts more first next
are_then shape parts standings (clears host ∷ acts) more first next = absurd first
are_then shape parts standings (begins new ∷ acts) more first next = (first.0, are_then shape parts standings acts more first.1 next)
are_then shape parts standings (finishes ∷ acts) more first next = are_then shape parts standings acts more first next

-- ---- where a call fails

-- it is so where a call in one of these acts fails, and after the last
abbrev pub HoldsCalled : (Durable → Type 0) → List Act → Durable → Type 0
HoldsCalled P [] durable = P durable
HoldsCalled P (act ∷ acts) durable = ((disk : DiskOf) → disk_called act ≡ Some disk → P (tried act durable)) × HoldsCalled P acts (done act durable)

pub where_called : (P : Durable → Type 0) (acts : List Act) (durable : Durable) → HoldsCalled P acts durable → HoldsWhereCalled P acts durable
where_called P acts durable called = record {
  all = last acts durable called;
  fails = λ before after act disk whole calls. fails before after act durable disk calls (subst (λ (l : List Act). HoldsCalled P l durable) whole called);
}
  where
    last : (acts_ : List Act) (durable_ : Durable) → HoldsCalled P acts_ durable_ → P (all_done acts_ durable_)
    last [] durable_ holds = holds
    last (act ∷ acts_) durable_ holds = last acts_ (done act durable_) holds.1

    fails : (before after : List Act) (act : Act) (durable_ : Durable) (disk : DiskOf) → disk_called act ≡ Some disk → HoldsCalled P (before ++ act ∷ after) durable_ → P (tried act (all_done before durable_))
    fails [] after act durable_ disk calls holds = holds.0 disk calls
    fails (first ∷ before) after act durable_ disk calls holds = fails before after act (done first durable_) disk calls holds.1
