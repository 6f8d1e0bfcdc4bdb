-- A fault has its rise in its own command.
use Rattle.std.proofs.Common.{◌≡◌, ◌⊎◌, inl, inr, ⊎_elim, ℕ, ◌<◌, List, [], ◌∷◌, ◌++◌, Option, Some, None, refl, sym, ◌∙◌, ap, subst, arith}
use Rattle.std.specs.Prelude.{⊤, Contains}
use Rattle.cache_key.specs.declared.request.Reply.{Reply}
use Rattle.cache_key.specs.declared.request.Request.{Request}
use Rattle.cache_model.specs.Parts.{parts_of}
use Rattle.roster_form.specs.Membership.{Host}
use Rattle.roster_form.specs.Shown.{Sights}
use Rattle.roster_form.specs.declared.roster.Roster.{Roster}
use Rattle.roster_form.proofs.ContainsLemmas.{contains_cases, contains_none}
use Rattle.cluster_model.specs.Site.{SiteShape, FaultCounts, NoneFell, numbers_of}
use Rattle.cluster_model.specs.Agreement.{Durable}
use Rattle.cluster_model.specs.Memory.{Setting}
use Rattle.cluster_model.specs.Acts.{Act}
use Rattle.command_plans.specs.Asked.{SiteEvent, call, renew, begin, copy, settle, seal, drop_file, give_up, SiteCommand, create, recover, stop, dump, steps, join, leave, SiteRefusal, not_member, fault_of, SiteAnswer, refused, created, recovered, stopped, dumped, joined, left_by_host, replied, renewed, begun_to, copied, settled_at, sealed, dropped, given_up, CommandAnswer, answered, stepped}
use Rattle.command_plans.specs.Found.{FoundSite, RosterDamage, LaneFinding, finds_none, finds_damage, finds_store, lane_finding}
use Rattle.command_plans.specs.Stage.{OpenSite, RunStage, unknown, found_as, closed, opened, RunState, Goes}
use Rattle.command_plans.specs.Plan.{Plan, refused_or, name_of, host_of_disk, numbers_below}
use Rattle.command_plans.specs.OpeningPlans.{create_by, create_plan, recover_by, LanesFound, all_found, refused_at_lane, found_before, lanes_with, lanes_found, load_found, recover_found_by}
use Rattle.command_plans.specs.Steps.{found_plan, kept_plan, open_plan, call_plan, event_plan, FollowsPlan, IsOpenAnd, IsOutcomeAfter, UntilRefused, IsPlannedStep, EventRuns, EventsRun, FindsSomething, OpenRuns, RunsAt, CommandRuns, NamesFaultOf, HasRisenAt}
use Rattle.command_plans.proofs.CarriedOutLemmas.{answer_cases}
use Rattle.command_plans.proofs.AnsweredLemmas.{IsNoFault, HasNoFault, AnswersNoFault, if_no, by_no, refused_no, call_open, event_open, command_open}

-- ---- plans where no cluster is open

refused_or_no : (refusal : Option SiteRefusal) (goes : Goes) (plan : Plan) → HasNoFault refusal → AnswersNoFault plan.answer → AnswersNoFault (refused_or refusal goes plan).answer
refused_or_no None goes plan clean is = is
refused_or_no (Some refusal) goes plan clean is = refused_no refusal (λ host e. clean host (ap (λ (r : SiteRefusal). Some r) e))

created_no : (setting : Setting) (sights : Sights) (stage : RunStage) (host : Host) (earlier : Option Host) → AnswersNoFault (create_plan setting sights stage host earlier).answer
created_no setting sights stage host earlier = refused_or_no _ _ (create_by setting sights stage host earlier) (if_no _ _ (λ host e. absurd cc)) (by_earlier earlier)
  where
    by_earlier : (one : Option Host) → AnswersNoFault (create_by setting sights stage host one).answer
    by_earlier None host e = absurd cc
    by_earlier (Some other) host e = absurd cc

recovered_no : (setting : Setting) (durable : Durable) (reads : List Act) (chosen : Option Roster) (missing : List Host) → AnswersNoFault (recover_by setting durable reads chosen missing).answer
recovered_no setting durable reads None missing host e = absurd cc
recovered_no setting durable reads (Some chosen) [] host e = absurd cc
recovered_no setting durable reads (Some chosen) (first ∷ missing) host e = absurd cc

abbrev AreNoFault : LanesFound → Type 0
AreNoFault (all_found standings) = ⊤
AreNoFault (refused_at_lane count refusal) = IsNoFault refusal

before_no : (store : _) (lanes : LanesFound) → AreNoFault lanes → AreNoFault (found_before store lanes)
before_no store (all_found standings) is = tt
before_no store (refused_at_lane count refusal) is = is

with_no : (shape : SiteShape) (partition : ℕ) (finding : LaneFinding) (others : LanesFound) → AreNoFault others → AreNoFault (lanes_with shape partition finding others)
with_no shape partition finds_none others is = λ host e. absurd cc
with_no shape partition (finds_damage host file offset) others is = λ host e. absurd cc
with_no shape partition (finds_store store file) others is = before_no store others is

lanes_no : (shape : SiteShape) (found : FoundSite) (hosts partitions : List ℕ) → AreNoFault (lanes_found shape found hosts partitions)
lanes_no shape found hosts [] = tt
lanes_no shape found hosts (partition ∷ partitions) = with_no shape partition (lane_finding found hosts partition) (lanes_found shape found hosts partitions) (lanes_no shape found hosts partitions)

loaded_no : (setting : Setting) (found : FoundSite) (reads : List Act) (chosen : Roster) (lanes : LanesFound) → AreNoFault lanes → AnswersNoFault (load_found setting found reads chosen lanes).answer
loaded_no setting found reads chosen (all_found standings) is host e = absurd cc
loaded_no setting found reads chosen (refused_at_lane count refusal) is host e = refused_no refusal is host e

found_no : (setting : Setting) (found : FoundSite) (reads : List Act) (damage : Option RosterDamage) (chosen : Option Roster) (missing : List Host) → AnswersNoFault (recover_found_by setting found reads damage chosen missing).answer
found_no setting found reads (Some damage) chosen missing host e = absurd cc
found_no setting found reads None None missing host e = absurd cc
found_no setting found reads None (Some chosen) (first ∷ missing) host e = absurd cc
found_no setting found reads None (Some chosen) [] host e = loaded_no setting found reads chosen _ (lanes_no setting.shape found (numbers_of setting.shape.hosts chosen.hosts) (numbers_below setting.shape.partitions)) host e

kept_plan_no : (setting : Setting) (durable : Durable) (command : SiteCommand) → AnswersNoFault (kept_plan setting durable command).answer
kept_plan_no setting durable (create host) = created_no setting durable.sights (closed durable) host _
kept_plan_no setting durable (recover hosts) = refused_or_no _ _ _ (by_no _ not_member (λ t host e. absurd cc)) (recovered_no setting durable _ _ _)
kept_plan_no setting durable stop = λ host e. absurd cc
kept_plan_no setting durable dump = λ host e. absurd cc
kept_plan_no setting durable (steps events) = λ host e. absurd cc
kept_plan_no setting durable (join host) = λ host e. absurd cc
kept_plan_no setting durable (leave host) = λ host e. absurd cc

found_plan_no : (setting : Setting) (found : FoundSite) (command : SiteCommand) → AnswersNoFault (found_plan setting found command).answer
found_plan_no setting found (create host) = created_no setting found.sights (found_as found) host _
found_plan_no setting found (recover hosts) = refused_or_no _ _ _ (by_no _ not_member (λ t host e. absurd cc)) (found_no setting found _ _ _ _)
found_plan_no setting found stop = λ host e. absurd cc
found_plan_no setting found dump = λ host e. absurd cc
found_plan_no setting found (steps events) = λ host e. absurd cc
found_plan_no setting found (join host) = λ host e. absurd cc
found_plan_no setting found (leave host) = λ host e. absurd cc

-- ---- one plan

fault_host : (one other : Host) → refused (fault_of one) ≡ refused (fault_of other) → one ≡ other
fault_host one other e = cc

rises : (shape : SiteShape) (plan : Plan) (old new : RunState) (answer : SiteAnswer) (host : Host) → AnswersNoFault plan.answer → FollowsPlan shape plan old answer new → answer ≡ refused (fault_of host) → HasRisenAt shape old.faults new.faults host
rises shape plan old new answer host clean carried e = ⊎_elim
    (λ own. absurd (clean host (sym own ∙ e)))
    (λ fault. (fault.0, fault.1, fault_host host (name_of shape (host_of_disk fault.0)) (sym e ∙ fault.2)))
    (answer_cases shape plan old new answer carried)

-- ---- counts that don't fall

falls_not : (a b c : FaultCounts) → NoneFell a b → NoneFell b c → NoneFell a c
falls_not a b c first then_ disk = let one = first disk in let two = then_ disk in omega (arith, one, two)

rose_before : (shape : SiteShape) (a b c : FaultCounts) (host : Host) → HasRisenAt shape a b host → NoneFell b c → HasRisenAt shape a c host
rose_before shape a b c host (disk, rose, is) fell = (disk, λ low. (let later = fell disk in let up : a disk < b disk = rose (omega (arith, later, low)) in omega (arith, up, later)), is)

rose_after : (shape : SiteShape) (a b c : FaultCounts) (host : Host) → NoneFell a b → HasRisenAt shape b c host → HasRisenAt shape a c host
rose_after shape a b c host fell (disk, rose, is) = (disk, λ low. (let earlier = fell disk in let up : b disk < c disk = rose low in omega (arith, up, earlier)), is)

-- between these states no count falls, and where this is so a disk of the host has failed
abbrev RisesIf : SiteShape → RunState → RunState → (Host → Type 0) → Type 0
RisesIf shape old new P = NoneFell old.faults new.faults × ((host : Host) → P host → HasRisenAt shape old.faults new.faults host)

-- ---- events

when_open : (stage : RunStage) (P : OpenSite → Type 0) → IsOpenAnd stage P → (site : OpenSite) × P site
when_open unknown P is = absurd is
when_open (found_as found) P is = absurd is
when_open (closed durable) P is = absurd is
when_open (opened site) P is = (site, is)

pub outcome_cases : (found : SiteAnswer) (mid : RunState) (answer : SiteAnswer) (new : RunState) (next : Reply → Type 0) → IsOutcomeAfter found mid answer new next → ((reply : Reply) × (found ≡ replied reply) × next reply) ⊎ ((answer ≡ found) × (new ≡ mid))
outcome_cases (replied reply) mid answer new next is = inl (reply, refl, is)
outcome_cases (refused refusal) mid answer new next is = inr is
outcome_cases (created host) mid answer new next is = inr is
outcome_cases (recovered epoch hosts count) mid answer new next is = inr is
outcome_cases stopped mid answer new next is = inr is
outcome_cases (dumped all) mid answer new next is = inr is
outcome_cases (joined epoch host) mid answer new next is = inr is
outcome_cases (left_by_host epoch host) mid answer new next is = inr is
outcome_cases (renewed partition id) mid answer new next is = inr is
outcome_cases (begun_to partition host) mid answer new next is = inr is
outcome_cases (copied partition whole) mid answer new next is = inr is
outcome_cases (settled_at partition) mid answer new next is = inr is
outcome_cases (sealed partition id) mid answer new next is = inr is
outcome_cases (dropped partition) mid answer new next is = inr is
outcome_cases (given_up partition) mid answer new next is = inr is

stands_still : (old new : RunState) → new ≡ old → NoneFell old.faults new.faults
stands_still old new e disk = let same : new.faults disk ≡ old.faults disk = ap (λ (s : RunState). s.faults disk) e in omega (arith, same)

not_replied : (reply : Reply) (answer : SiteAnswer) (host : Host) → answer ≡ replied reply → answer ≡ refused (fault_of host) → ⊥
not_replied reply answer host e f = let clash : replied reply ≡ refused (fault_of host) = sym e ∙ f in absurd cc

parts_rise : (setting : Setting) (request : Request) (old : RunState) (parts : List (ℕ × Request)) (replies : List Reply) (answer : SiteAnswer) (new : RunState) → UntilRefused setting request old parts replies answer new
    → RisesIf setting.shape old new (λ host. answer ≡ refused (fault_of host))
parts_rise setting request old [] replies answer new is = (stands_still old new is.1, λ host e. absurd (not_replied _ answer host is.0 e))
parts_rise setting request old (part ∷ parts) replies answer new (found, mid, step, after) =
    let open_ = when_open old.stage _ step in
    let site = open_.0 in
    let carried : FollowsPlan setting.shape (call_plan setting site part) old found mid = open_.1 in
    ⊎_elim
    (λ more.
    let rest = parts_rise setting request mid parts (replies ++ more.0 ∷ []) answer new more.2 in
    (falls_not old.faults mid.faults new.faults carried.later rest.0, λ host e. rose_after setting.shape old.faults mid.faults new.faults host carried.later (rest.1 host e)))
    (λ ended. (
      falls_not old.faults mid.faults new.faults carried.later (stands_still mid new ended.1),
      λ host e. rose_before setting.shape old.faults mid.faults new.faults host (rises setting.shape (call_plan setting site part) old mid found host (call_open setting site part).0 carried (sym ended.0 ∙ e)) (stands_still mid new ended.1),
    ))
    (outcome_cases found mid answer new _ after)

planned_rise : (shape : SiteShape) (plan : Option Plan) (old new : RunState) (answer : SiteAnswer) → ((one : Plan) → plan ≡ Some one → AnswersNoFault one.answer) → IsPlannedStep shape plan old answer new → RisesIf shape old new (λ host. answer ≡ refused (fault_of host))
planned_rise shape None old new answer clean is = absurd is
planned_rise shape (Some plan) old new answer clean is = (is.later, λ host e. rises shape plan old new answer host (clean plan refl) is e)

one_event : (setting : Setting) (old new : RunState) (event : SiteEvent) (answer : SiteAnswer) → IsOpenAnd old.stage (λ site. IsPlannedStep setting.shape (event_plan setting site event) old answer new) → RisesIf setting.shape old new (λ host. answer ≡ refused (fault_of host))
one_event setting old new event answer is =
    let open_ = when_open old.stage _ is in
    planned_rise setting.shape (event_plan setting open_.0 event) old new answer (λ one e. (event_open setting open_.0 event one e).0) open_.1

event_rises : (setting : Setting) (old new : RunState) (event : SiteEvent) (answer : SiteAnswer) → EventRuns setting old event answer new → RisesIf setting.shape old new (λ host. answer ≡ refused (fault_of host))
event_rises setting old new (call request) answer is = parts_rise setting request old (parts_of setting.shape.partitions request) [] answer new is
event_rises setting old new (renew partition) answer is = one_event setting old new (renew partition) answer is
event_rises setting old new (begin partition host) answer is = one_event setting old new (begin partition host) answer is
event_rises setting old new (copy partition) answer is = one_event setting old new (copy partition) answer is
event_rises setting old new (settle partition) answer is = one_event setting old new (settle partition) answer is
event_rises setting old new (seal partition) answer is = one_event setting old new (seal partition) answer is
event_rises setting old new (drop_file partition) answer is = one_event setting old new (drop_file partition) answer is
event_rises setting old new (give_up partition) answer is = one_event setting old new (give_up partition) answer is

events_rise : (setting : Setting) (old new : RunState) (events : List SiteEvent) (outcomes : List SiteAnswer) → EventsRun setting old events outcomes new → RisesIf setting.shape old new (λ host. Contains outcomes (refused (fault_of host)))
events_rise setting old new [] [] is = (stands_still old new is, λ host has. absurd (contains_none _ has))
events_rise setting old new [] (outcome ∷ outcomes) is = absurd is
events_rise setting old new (event ∷ events) [] is = absurd is
events_rise setting old new (event ∷ events) (outcome ∷ outcomes) (mid, first, rest) =
    let here = event_rises setting old mid event outcome first in
    let there = events_rise setting mid new events outcomes rest in (
      falls_not old.faults mid.faults new.faults here.0 there.0,
      λ host has. ⊎_elim
          (λ it. rose_before setting.shape old.faults mid.faults new.faults host (here.1 host (sym it)) there.0)
          (λ later. rose_after setting.shape old.faults mid.faults new.faults host here.0 (there.1 host later))
          (contains_cases outcome outcomes (refused (fault_of host)) has),
    )

-- ---- commands

answered_rises : (shape : SiteShape) (plan : Plan) (old new : RunState) (one : SiteAnswer) (answer : CommandAnswer) (host : Host) → AnswersNoFault plan.answer → FollowsPlan shape plan old one new → answer ≡ answered one → NamesFaultOf answer host → HasRisenAt shape old.faults new.faults host
answered_rises shape plan old new one answer host clean carried e names = rises shape plan old new one host clean carried (subst (λ (x : CommandAnswer). NamesFaultOf x host) e names)

found_rises : (setting : Setting) (old new : RunState) (command : SiteCommand) (one : SiteAnswer) (answer : CommandAnswer) (host : Host) → FindsSomething setting old command one new → answer ≡ answered one → NamesFaultOf answer host → HasRisenAt setting.shape old.faults new.faults host
found_rises setting old new command one answer host finds e names =
    subst (λ (f : FaultCounts). HasRisenAt setting.shape old.faults f host) (sym finds.faults)
    (answered_rises setting.shape (found_plan setting finds.found command) old finds.then_ one answer host (found_plan_no setting finds.found command) finds.carried e names)

stepped_rises : (setting : Setting) (old new : RunState) (events : List SiteEvent) (outcomes : List SiteAnswer) (answer : CommandAnswer) (host : Host) → EventsRun setting old events outcomes new → answer ≡ stepped outcomes → NamesFaultOf answer host → HasRisenAt setting.shape old.faults new.faults host
stepped_rises setting old new events outcomes answer host run e names = (events_rise setting old new events outcomes run).1 host (subst (λ (x : CommandAnswer). NamesFaultOf x host) e names)

open_rises : (setting : Setting) (site : OpenSite) (old new : RunState) (command : SiteCommand) (answer : CommandAnswer) (host : Host) → OpenRuns setting (open_plan setting site command) old command answer new → NamesFaultOf answer host → HasRisenAt setting.shape old.faults new.faults host
open_rises setting site old new (create other) answer host is names = answered_rises setting.shape _ old new is.0 answer host (command_open setting site (create other) (λ e. absurd cc) _ refl).0 is.1 is.2 names
open_rises setting site old new (recover hosts) answer host is names = answered_rises setting.shape _ old new is.0 answer host (command_open setting site (recover hosts) (λ e. absurd cc) _ refl).0 is.1 is.2 names
open_rises setting site old new stop answer host is names = answered_rises setting.shape _ old new is.0 answer host (λ host e. absurd cc) is.1 is.2 names
open_rises setting site old new dump answer host is names = answered_rises setting.shape _ old new is.0 answer host (command_open setting site dump (λ e. absurd cc) _ refl).0 is.1 is.2 names
open_rises setting site old new (steps events) answer host is names = stepped_rises setting old new events is.0 answer host is.1 is.2 names
open_rises setting site old new (join other) answer host is names = answered_rises setting.shape _ old new is.0 answer host (command_open setting site (join other) (λ e. absurd cc) _ refl).0 is.1 is.2 names
open_rises setting site old new (leave other) answer host is names = answered_rises setting.shape _ old new is.0 answer host (command_open setting site (leave other) (λ e. absurd cc) _ refl).0 is.1 is.2 names

stage_rises : (setting : Setting) (stage : RunStage) (old new : RunState) (command : SiteCommand) (answer : CommandAnswer) (host : Host) → RunsAt setting stage old command answer new → NamesFaultOf answer host → HasRisenAt setting.shape old.faults new.faults host
stage_rises setting unknown old new command answer host is names = found_rises setting old new command is.0 answer host is.1 is.2 names
stage_rises setting (found_as found) old new command answer host is names = answered_rises setting.shape (found_plan setting found command) old new is.0 answer host (found_plan_no setting found command) is.1 is.2 names
stage_rises setting (closed durable) old new command answer host is names = answered_rises setting.shape (kept_plan setting durable command) old new is.0 answer host (kept_plan_no setting durable command) is.1 is.2 names
stage_rises setting (opened site) old new command answer host is names = open_rises setting site old new command answer host is names

pub command_rises : (setting : Setting) (old new : RunState) (command : SiteCommand) (answer : CommandAnswer) (host : Host) → CommandRuns setting old command answer new → NamesFaultOf answer host → HasRisenAt setting.shape old.faults new.faults host
command_rises setting old new command answer host is names = stage_rises setting old.stage old new command answer host is names
