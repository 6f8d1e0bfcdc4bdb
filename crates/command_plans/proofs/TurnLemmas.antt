-- A change of the roster is written to its hosts in turn, and what it leaves where it is cut short.
use Rattle.std.proofs.Common.{◌≡◌, ◌≢◌, ◌⊎◌, inl, inr, ⊎_elim, List, [], ◌∷◌, ◌++◌, map, Option, Some, None, refl, sym, ◌∙◌, ap, subst}
use Rattle.std.specs.Prelude.{Contains}
use Rattle.std.specs.List.{filter}
use Rattle.std.proofs.lemmas.List.{append_assoc}
use Rattle.std.proofs.lemmas.List.Elements.{Contains-append_left, Contains-append_right}
use Rattle.roster_form.specs.Membership.{Host, joining_host}
use Rattle.roster_form.specs.declared.roster.Roster.{Roster}
use Rattle.roster_form.specs.Succession.{Rosters, last_finished}
use Rattle.roster_form.proofs.ContainsLemmas.{contains_first, contains_same, contains_later, contains_cases, contains_none}
use Rattle.cluster_model.specs.Lane.{LaneStanding}
use Rattle.cluster_model.specs.Site.{SiteShape}
use Rattle.cluster_model.specs.Agreement.{with_finished, Durable}
use Rattle.cluster_model.specs.Members.{is_other, joining_or_none}
use Rattle.cluster_model.specs.Memory.{PartState}
use Rattle.cluster_model.specs.Acts.{SiteHost, Act, writes, begins, finishes, perhaps_written_to, finished_with, done, all_done}
use Rattle.cluster_model.specs.Turns.{AreInTurn, ReachesAll, change_acts}
use Rattle.cluster_model.proofs.MembersLemmas.{in_filtered}
use Rattle.command_plans.specs.ChangePlans.{with_last, hosts_named}
use Rattle.command_plans.specs.Kept.{NoneJoins}
use Rattle.command_plans.specs.Plan.{host_named}
use Rattle.command_plans.proofs.NextRosterLemmas.{from_filtered, same_or_not}
use Rattle.command_plans.proofs.RecoveryLemmas.{contains_or_not}
use Rattle.command_plans.proofs.RosterActLemmas.{Fits, AreRosterActs, are_then, rosters_stay, HoldsCalled}
use Rattle.command_plans.proofs.ThroughoutLemmas.{all_done_then}

-- ---- to whom it is written

names_back : (shape : SiteShape) (names : List Host) → map (λ (each : SiteHost). each.name) (hosts_named shape names) ≡ names
names_back shape [] = refl
names_back shape (name ∷ names) = λ i. name ∷ names_back shape names i

pub reaches : (shape : SiteShape) (roster : Roster) (names : List Host) → ((host : Host) → Contains roster.hosts host → Contains names host) → ReachesAll roster (hosts_named shape names)
reaches shape roster names all = λ host is. subst (λ (l : List Host). Contains l host) (sym (names_back shape names)) (all host is)

pub with_last_has : (host : Host) (hosts : List Host) (other : Host) → Contains hosts other ⊎ (other ≡ host) → Contains (with_last host hosts) other
with_last_has host hosts other is = ⊎_elim
    (λ it. Contains-append_right (filter (is_other host) hosts) (host ∷ []) other (contains_same host [] other it))
    (λ ne. Contains-append_left (filter (is_other host) hosts) (host ∷ []) other (in_filtered host hosts other (⊎_elim (λ among. among) (λ it. absurd (ne it)) is) ne))
    (same_or_not other host)

in_turn : (shape : SiteShape) (last new : Roster) (names : List Host) (host : Host) (before : List Host) → ((name : Host) → Contains names name → Contains last.hosts name) → Contains new.hosts host ⊎ Contains last.hosts host
    → Contains last.hosts host ⊎ ((other : Host) → Contains last.hosts other → Contains names other ⊎ Contains before other) → AreInTurn last new before (map (host_named shape) (names ++ host ∷ []))
in_turn shape last new [] host before old either turn = (
  either,
  ⊎_elim (λ here. inl here) (λ all. inr (λ other is. ⊎_elim (λ none. absurd (contains_none other none)) (λ was. was) (all other is))) turn,
  tt,
)
in_turn shape last new (name ∷ names) host before old either turn = (
  inr (old name (contains_first name names)),
  inl (old name (contains_first name names)),
  in_turn shape last new names host (name ∷ before) (λ other is. old other (contains_later name names other is)) either
      (⊎_elim
      (λ here. inl here)
      (λ all. inr (λ other is. ⊎_elim
      (λ now. ⊎_elim (λ it. inr (contains_same name before other it)) (λ there. inl there) (contains_cases name names other now))
      (λ was. inr (contains_later name before other was))
      (all other is)))
      turn),
)

-- the hosts of the last roster come first, and then the one that changes
pub changing_turn : (shape : SiteShape) (last new : Roster) (host : Host) (hosts : List Host) → ((name : Host) → Contains hosts name → name ≢ host → Contains last.hosts name) → ((name : Host) → Contains last.hosts name → name ≢ host → Contains hosts name)
    → Contains new.hosts host ⊎ Contains last.hosts host → AreInTurn last new [] (hosts_named shape (with_last host hosts))
changing_turn shape last new host hosts old all either = in_turn shape last new (filter (is_other host) hosts) host []
    (λ name is. let from = from_filtered host hosts name is in old name from.0 from.1)
    either
    (⊎_elim
    (λ here. inl here)
    (λ apart. inr (λ other is. let ne : other ≢ host = λ it. apart (subst (λ (h : Host). Contains last.hosts h) it is) in inl (in_filtered host hosts other (all other is ne) ne)))
    (contains_or_not last.hosts host))

-- ---- rosters after acts

written_rosters : (hosts : List SiteHost) (durable : Durable) → (all_done (map writes hosts) durable).rosters ≡ durable.rosters
written_rosters [] durable = refl
written_rosters (host ∷ hosts) durable = written_rosters hosts (done (writes host) durable) ∙ rosters_stay durable host.name durable.rosters.writing

perhaps_stay : (durable : Durable) (host : Host) (writing : Option Roster) → (perhaps_written_to durable host writing).rosters ≡ durable.rosters
perhaps_stay durable host None = refl
perhaps_stay durable host (Some new) = refl

finished_rosters : (durable : Durable) (new : Roster) → durable.rosters.writing ≡ Some new → (done finishes durable).rosters ≡ with_finished durable.rosters new
finished_rosters durable new writing = ap (finished_with durable.rosters) writing

-- after a roster was written to these hosts it is finished
pub rest_ends : (hosts : List SiteHost) (durable : Durable) (new : Roster) → durable.rosters.writing ≡ Some new → (all_done (map writes hosts ++ finishes ∷ []) durable).rosters ≡ with_finished durable.rosters new
rest_ends hosts durable new writing =
    let after = all_done (map writes hosts) durable in
    ap (λ (d : Durable). d.rosters) (all_done_then (map writes hosts) (finishes ∷ []) durable)
    ∙ finished_rosters after new (ap (λ (r : Rosters). r.writing) (written_rosters hosts durable) ∙ writing)
    ∙ ap (λ (r : Rosters). with_finished r new) (written_rosters hosts durable)

pub change_ends : (hosts : List SiteHost) (durable : Durable) (new : Roster) → (all_done (change_acts new hosts) durable).rosters ≡ with_finished durable.rosters new
change_ends hosts durable new = rest_ends hosts (done (begins new) durable) new refl

-- ---- a change, and what follows it

writes_are : (shape : SiteShape) (parts : List PartState) (standings : List LaneStanding) (hosts : List SiteHost) → AreRosterActs shape parts standings (map writes hosts)
writes_are shape parts standings [] = tt
writes_are shape parts standings (host ∷ hosts) = writes_are shape parts standings hosts

pub rest_are : (shape : SiteShape) (parts : List PartState) (standings : List LaneStanding) (hosts : List SiteHost) → AreRosterActs shape parts standings (map writes hosts ++ finishes ∷ [])
rest_are shape parts standings hosts = are_then shape parts standings (map writes hosts) (finishes ∷ []) (writes_are shape parts standings hosts) tt

pub change_are : (shape : SiteShape) (parts : List PartState) (standings : List LaneStanding) (new : Roster) (hosts : List SiteHost) → Fits shape parts standings new → AreRosterActs shape parts standings (change_acts new hosts)
change_are shape parts standings new hosts fits = (fits, rest_are shape parts standings hosts)

-- ---- where a call fails nobody joins

writes_called : (hosts : List SiteHost) (more : List Act) (durable : Durable) (new : Roster) → durable.rosters.writing ≡ Some new → ((after : Durable) → after.rosters ≡ durable.rosters → HoldsCalled NoneJoins more after) → HoldsCalled NoneJoins (map writes hosts ++ more) durable
writes_called [] more durable new writing next = next durable refl
writes_called (host ∷ hosts) more durable new writing next = (
  λ disk e none. absurd (let no : Some new ≡ None = sym writing ∙ ap (λ (r : Rosters). r.writing) (sym (perhaps_stay durable host.name durable.rosters.writing)) ∙ none in cc),
  writes_called hosts more (done (writes host) durable) new (ap (λ (r : Rosters). r.writing) (rosters_stay durable host.name durable.rosters.writing) ∙ writing)
      (λ after e. next after (e ∙ rosters_stay durable host.name durable.rosters.writing)),
)

pub rest_called : (hosts : List SiteHost) (more : List Act) (durable : Durable) (new : Roster) → durable.rosters.writing ≡ Some new → ((after : Durable) → after.rosters ≡ with_finished durable.rosters new → HoldsCalled NoneJoins more after)
    → HoldsCalled NoneJoins ((map writes hosts ++ finishes ∷ []) ++ more) durable
rest_called hosts more durable new writing next =
    subst (λ (acts : List Act). HoldsCalled NoneJoins acts durable) (sym (append_assoc (map writes hosts) (finishes ∷ []) more))
    (writes_called hosts (finishes ∷ more) durable new writing
    (λ after e. (
      λ disk none. absurd cc,
      next (done finishes after) (finished_rosters after new (ap (λ (r : Rosters). r.writing) e ∙ writing) ∙ ap (λ (r : Rosters). with_finished r new) e),
    )))

pub change_called : (new : Roster) (hosts : List SiteHost) (more : List Act) (durable : Durable) → ((after : Durable) → after.rosters ≡ with_finished durable.rosters new → HoldsCalled NoneJoins more after) → HoldsCalled NoneJoins (change_acts new hosts ++ more) durable
change_called new hosts more durable next = (λ disk none. absurd cc, rest_called hosts more (done (begins new) durable) new refl next)

-- after a roster in which nobody joins
pub nobody_joins : (after : Durable) (rosters : Rosters) (new : Roster) → after.rosters ≡ with_finished rosters new → joining_host new ≡ None → NoneJoins after
nobody_joins after rosters new is joining = λ none. ap (λ (r : Rosters). joining_or_none (last_finished r)) is ∙ joining
