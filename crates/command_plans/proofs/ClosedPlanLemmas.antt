-- Plans that keep a closed cluster: one that only refuses, and one whose steady acts open it.
use Rattle.std.proofs.Common.{◌≡◌, inr, ⊎_elim, ℕ, zero, suc, List, [], ◌∷◌, ◌++◌, map, slice_get, length, All, Option, Some, None, true, refl, sym, ◌∙◌, ap, subst, arith}
use Rattle.std.specs.Prelude.{Contains}
use Rattle.std.proofs.lemmas.List.{length-map}
use Rattle.std.proofs.lemmas.List.Elements.{All-tail}
use Rattle.roster_form.specs.Membership.{joining_host}
use Rattle.roster_form.specs.declared.roster.Roster.{Roster}
use Rattle.roster_form.specs.Succession.{Rosters, last_finished}
use Rattle.roster_form.proofs.PassLemmas.{some_is}
use Rattle.roster_form.proofs.ContainsLemmas.{contains_cases, contains_none}
use Rattle.cluster_model.specs.Lane.{HostedStore, LaneStanding}
use Rattle.cluster_model.specs.Site.{SiteShape, numbers_of}
use Rattle.cluster_model.specs.Agreement.{some_of, Durable}
use Rattle.cluster_model.specs.Members.{joining_or_none}
use Rattle.cluster_model.specs.Memory.{PartState}
use Rattle.cluster_model.specs.Acts.{Act, tried, all_done, AreCutShort}
use Rattle.command_plans.specs.Asked.{SiteRefusal, SiteAnswer}
use Rattle.command_plans.specs.Stage.{opened_part, opened_memory, RunStage, unknown, found_as, closed, opened, RunState, Goes, goes_on, restarts, IsRestartOf, GoesTo}
use Rattle.command_plans.specs.Plan.{Plan, refused_or}
use Rattle.command_plans.specs.OpeningPlans.{opened_on}
use Rattle.command_plans.specs.Steps.{IsKeptAfter, FollowsPlan, BreaksPlan, stage_in}
use Rattle.command_plans.specs.Kept.{HoldsThroughout, KeepsRostersOf, KeepsOpen, MayBePicked, IsHeldAt, AreHeldBy, KeepsClosed, IsKeptStage, IsKeptAfterRestart}
use Rattle.command_plans.proofs.PickedLemmas.{restart_closes}
use Rattle.command_plans.proofs.SteadyLemmas.{IsSteady, kept_alike, alike_rosters, steady_picked}
use Rattle.command_plans.proofs.ThroughoutLemmas.{holds_last, holds_cut}

-- ---- where a run goes on

-- a restart may pick of what is kept there
abbrev pub IsPickable : SiteShape → RunStage → Type 0
IsPickable shape unknown = ⊥
IsPickable shape (found_as found) = ⊥
IsPickable shape (closed durable) = MayBePicked shape durable
IsPickable shape (opened site) = ⊥

-- the run goes on with what is kept, or after a restart that may pick it
abbrev pub IsKeptGoes : SiteShape → Goes → Type 0
IsKeptGoes shape (goes_on stage) = IsKeptStage shape stage
IsKeptGoes shape (restarts stage) = IsPickable shape stage

-- whatever such a restart picks is kept
picked_stage : (shape : SiteShape) (stage new : RunStage) → IsPickable shape stage → IsRestartOf shape stage new → IsKeptStage shape new
picked_stage shape unknown new may is = absurd may
picked_stage shape (found_as found) new may is = absurd may
picked_stage shape (closed durable) new may is = subst (λ (s : RunStage). IsKeptStage shape s) (sym is.2) (restart_closes shape durable is.0 may is.1)
picked_stage shape (opened site) new may is = absurd may

-- so it is kept where the run goes on
goes_kept : (shape : SiteShape) (goes : Goes) (new : RunStage) → IsKeptGoes shape goes → GoesTo shape goes new → IsKeptStage shape new
goes_kept shape (goes_on stage) new kept is = subst (λ (s : RunStage). IsKeptStage shape s) (sym is) kept
goes_kept shape (restarts stage) new kept is = picked_stage shape stage new kept is

-- ---- a plan

-- it goes on with what is kept: after all acts, and wherever they are cut short
pub record IsKeptPlan (shape : SiteShape) (plan : Plan) : Type 0 where
  pub whole : (kept : Durable) → IsKeptAfter plan.acts (all_done plan.acts plan.durable) kept → IsKeptGoes shape (plan.done_goes kept)
  pub failed : (acts : List Act) (computed kept : Durable) → AreCutShort plan.acts plan.durable computed → IsKeptAfter acts computed kept → IsKeptGoes shape (plan.failed_goes kept) × IsPickable shape (stage_in (plan.failed_goes kept))

-- such a plan is carried out, or a call of it fails
pub plan_runs : (shape : SiteShape) (plan : Plan) (old new : RunState) (answer : SiteAnswer) → IsKeptPlan shape plan → FollowsPlan shape plan old answer new → IsKeptStage shape new.stage
plan_runs shape plan old new answer keeps carried = ⊎_elim
    (λ all. goes_kept shape (plan.done_goes all.kept) new.stage (keeps.whole all.kept all.left) all.goes)
    (λ fault.
    let cut : AreCutShort plan.acts plan.durable (tried fault.act (all_done fault.before plan.durable)) = record {
      before = fault.before;
      after = fault.act ∷ fault.after;
      whole = fault.whole;
      next = inr (fault.act, fault.after, refl, refl);
    } in
    goes_kept shape (plan.failed_goes fault.kept) new.stage (keeps.failed (fault.before ++ fault.act ∷ []) (tried fault.act (all_done fault.before plan.durable)) fault.kept cut fault.left).0 fault.goes)
    carried.ends

-- such a plan is broken off
pub plan_breaks : (shape : SiteShape) (plan : Plan) (stage : RunStage) → IsKeptPlan shape plan → BreaksPlan plan stage → IsKeptAfterRestart shape stage
plan_breaks shape plan stage keeps breaks new is =
    picked_stage shape (stage_in (plan.failed_goes breaks.kept)) new (keeps.failed plan.acts breaks.computed breaks.kept breaks.cut breaks.left).1
    (subst (λ (s : RunStage). IsRestartOf shape s new) breaks.stage is)

-- ---- refusals

-- of a closed cluster a restart may pick
pub closed_picked : (shape : SiteShape) (durable : Durable) → KeepsClosed shape durable → MayBePicked shape durable
closed_picked shape durable keeps = record { rosters = keeps.rosters; number = λ roster e. (subst (λ (c : Option Roster). AreHeldBy shape c durable.standings) e keeps.held).0 }

-- nothing is done, or the disks are read alone, and the run goes on so
pub same_goes : (shape : SiteShape) (durable : Durable) (acts : List Act) (answer : SiteAnswer) (goes : Goes) → IsKeptGoes shape goes → IsPickable shape (stage_in goes)
    → IsKeptPlan shape (record { durable = durable; acts = acts; answer = answer; done_goes = λ after. goes; failed_goes = λ after. goes })
same_goes shape durable acts answer goes kept may = record { whole = λ after left. kept; failed = λ some computed after cut left. (kept, may) }

-- the plan is refused, or keeps it
pub refused_or_keeps : (shape : SiteShape) (refusal : Option SiteRefusal) (goes : Goes) (plan : Plan) → IsKeptGoes shape goes → IsPickable shape (stage_in goes) → (refusal ≡ None → IsKeptPlan shape plan) → IsKeptPlan shape (refused_or refusal goes plan)
refused_or_keeps shape None goes plan kept may keeps = keeps refl
refused_or_keeps shape (Some refusal) goes plan kept may keeps = same_goes shape plan.durable [] _ goes kept may

-- ---- a cluster that was just opened

-- of one partition
held_at : (hosts : List ℕ) (standings : List LaneStanding) (index : ℕ) (standing : LaneStanding) → All (IsHeldAt hosts) standings → slice_get standings index ≡ Some standing → IsHeldAt hosts standing
held_at hosts [] index standing held e = absurd cc
held_at hosts (first ∷ others) zero standing held e = subst (λ (s : LaneStanding). IsHeldAt hosts s) (some_is first standing e) (held 0 first (omega arith))
held_at hosts (first ∷ others) (suc index) standing held e = held_at hosts others index standing (All-tail (IsHeldAt hosts) first others held) e

-- what memory has of a partition that was just opened
part_opened : (standings : List LaneStanding) (index : ℕ) (standing : LaneStanding) (part : PartState) → slice_get standings index ≡ Some standing → slice_get (map opened_part standings) index ≡ Some part → part ≡ opened_part standing
part_opened [] index standing part e is = absurd cc
part_opened (first ∷ others) zero standing part e is = sym (some_is (opened_part first) part is) ∙ ap opened_part (some_is first standing e)
part_opened (first ∷ others) (suc index) standing part e is = part_opened others index standing part e is

-- no store moves
none_moves : (standings : List LaneStanding) (index : ℕ) (part : PartState) → slice_get (map opened_part standings) index ≡ Some part → part.move ≡ None
none_moves [] index part is = absurd cc
none_moves (first ∷ others) zero part is = ap (λ (p : PartState). p.move) (sym (some_is (opened_part first) part is))
none_moves (first ∷ others) (suc index) part is = none_moves others index part is

-- no other roster may pass than the last one
only_last : (finished writing : Option Roster) (last roster : Roster) → finished ≡ Some last → writing ≡ None → Contains (some_of finished ++ some_of writing) roster → roster ≡ last
only_last finished writing last roster e none is =
    let one : Contains (last ∷ []) roster = subst (λ (w : Option Roster). Contains (some_of (Some last) ++ some_of w) roster) none (subst (λ (f : Option Roster). Contains (some_of f ++ some_of writing) roster) e is) in
    ⊎_elim (λ it. it) (λ no. absurd (contains_none roster no)) (contains_cases last [] roster one)

-- one roster is finished, none is being written and no host is joining; its hosts hold each partition
pub record IsReady (shape : SiteShape) (standings : List LaneStanding) (rosters : Rosters) : Type 0 where
  pub last : Roster
  pub made : last_finished rosters ≡ Some last
  pub none : rosters.writing ≡ None
  pub joined : joining_host last ≡ None
  pub held : All (IsHeldAt (numbers_of shape.hosts last.hosts)) standings

-- a cluster that is ready is open
opens_so : (shape : SiteShape) (durable : Durable) → KeepsRostersOf shape durable → IsReady shape durable.standings durable.rosters → length durable.standings ≡ shape.partitions
    → KeepsOpen shape (record { durable = durable; memory = opened_memory durable.standings; known = true })
opens_so shape durable keeps ready number = record {
  cluster = record {
    rosters = keeps;
    made = (ready.last, ready.made);
    number = number;
    each = λ partition standing at.
        let held = held_at (numbers_of shape.hosts ready.last.hosts) durable.standings partition standing ready.held at in
        record {
          owner = λ roster is. subst (λ (r : Roster). Contains (numbers_of shape.hosts r.hosts) standing.store.host) (sym (only_last (last_finished durable.rosters) durable.rosters.writing ready.last roster ready.made ready.none is)) held.host;
          flight = [];
          each = λ store is. absurd (contains_none store (subst (λ (l : List HostedStore). Contains l store) held.one is));
        };
    targets = λ partition part move at moves. absurd (let n : None ≡ Some move = sym (none_moves durable.standings partition part at) ∙ moves in cc);
  };
  joined = λ none. ap joining_or_none ready.made ∙ ready.joined;
  known = refl;
  parts = length-map durable.standings opened_part ∙ number;
  trails = length-map durable.standings (λ standing. 0) ∙ number;
  told = λ partition standing part at is store has.
      let own = part_opened durable.standings partition standing part at is in
      let held = held_at (numbers_of shape.hosts ready.last.hosts) durable.standings partition standing ready.held at in
      ⊎_elim
      (λ here. let e : store.id.version ≡ part.told = ap (λ (s : HostedStore). s.id.version) here ∙ sym (ap (λ (p : PartState). p.told) own) in omega (arith, e))
      (λ there. absurd (contains_none store (subst (λ (l : List HostedStore). Contains l store) held.one there)))
      (contains_cases standing.store standing.perhaps store has);
}

-- steady acts open the cluster, or what they leave is restarted
pub opening_keeps : (shape : SiteShape) (standings : List LaneStanding) (durable : Durable) (acts : List Act) (answer : SiteAnswer) → length standings ≡ shape.partitions → HoldsThroughout (IsSteady shape standings) acts durable
    → IsReady shape standings (all_done acts durable).rosters
    → IsKeptPlan shape (record { durable = durable; acts = acts; answer = answer; done_goes = opened_on true; failed_goes = λ after. restarts (closed after) })
opening_keeps shape standings durable acts answer number holds ready = record {
  whole = λ kept left.
      let after = all_done acts durable in
      let is = holds_last (IsSteady shape standings) acts durable holds in
      let alike = kept_alike acts after kept left in
      opens_so shape kept (alike_rosters shape after kept alike is.rosters)
      (subst (λ (r : Rosters). IsReady shape kept.standings r) (sym alike.rosters) (record {
        last = ready.last;
        made = ready.made;
        none = ready.none;
        joined = ready.joined;
        held = alike.held (numbers_of shape.hosts ready.last.hosts) (subst (λ (l : List LaneStanding). All (IsHeldAt (numbers_of shape.hosts ready.last.hosts)) l) (sym is.still) ready.held);
      }))
      (alike.number ∙ ap length is.still ∙ number);
  failed = λ some computed kept cut left.
      let may = steady_picked shape standings some computed kept number (holds_cut (IsSteady shape standings) acts durable computed cut holds) left in
      (may, may);
}
