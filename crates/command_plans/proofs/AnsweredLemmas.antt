-- Every command of an open cluster has an answer, and a fault has its rise in its own command.
use Rattle.std.proofs.Common.{◌≡◌, ℕ, List, [], ◌∷◌, ◌++◌, Option, Some, None, Bool, true, false, refl, sym, ap, subst, if◌then◌else◌}
use Rattle.cache_key.specs.declared.request.Mutation.{Mutation}
use Rattle.cache_key.specs.declared.request.Reply.{Reply}
use Rattle.cache_key.specs.declared.request.Request.{Request}
use Rattle.cache_model.specs.Parts.{parts_of, joined_reply}
use Rattle.cache_model.specs.Reply.{mutation_of}
use Rattle.roster_form.specs.Membership.{Host}
use Rattle.roster_form.specs.Choice.{is_host}
use Rattle.roster_form.specs.Succession.{last_finished}
use Rattle.roster_form.specs.declared.roster.Roster.{Roster}
use Rattle.roster_form.proofs.PassLemmas.{some_is}
use Rattle.cluster_model.specs.Site.{SiteShape, FaultCounts}
use Rattle.cluster_model.specs.Agreement.{Durable}
use Rattle.cluster_model.specs.Members.{pending_join, pending_leave}
use Rattle.cluster_model.specs.Memory.{Setting, MoveState}
use Rattle.cluster_model.specs.Acts.{all_done}
use Rattle.command_plans.specs.Asked.{SiteEvent, call, renew, begin, copy, settle, seal, drop_file, give_up, SiteCommand, create, recover, stop, dump, steps, join, leave, SiteRefusal, fault_of, pinned_to, busy_to, change_pending, owns_partition, SiteAnswer, refused, created, recovered, stopped, dumped, joined, left_by_host, replied, renewed, begun_to, copied, settled_at, sealed, dropped, given_up, CommandAnswer, answered, stepped}
use Rattle.command_plans.specs.Stage.{OpenSite, opened, RunState, goes_on}
use Rattle.command_plans.specs.Plan.{Plan, ◌or_first◌, refuses_if, refuses_by, refused_or}
use Rattle.command_plans.specs.PartPlans.{OpenPart, refused_at, asked_plan, renew_plan, begin_plan, copy_plan, settle_plan, seal_plan, moving_plan, drop_plan, plan_on}
use Rattle.command_plans.specs.ChangePlans.{going_on_plan, new_join_plan, join_plan, new_leave_plan, leave_again_plan, leave_plan}
use Rattle.command_plans.specs.Steps.{open_plan, part_at, call_plan, event_plan, FollowsPlan, IsOutcomeAfter, UntilRefused, IsPlannedStep, EventRuns, EventsRun, OpenRuns, CommandRuns}
use Rattle.command_plans.proofs.CarriedOutLemmas.{carried_somehow}

-- ---- refusals that are no faults

abbrev pub IsNoFault : SiteRefusal → Type 0
IsNoFault refusal = (host : Host) → refusal ≡ fault_of host → ⊥

abbrev pub HasNoFault : Option SiteRefusal → Type 0
HasNoFault refusal = (host : Host) → refusal ≡ Some (fault_of host) → ⊥

abbrev pub AnswersNoFault : SiteAnswer → Type 0
AnswersNoFault answer = (host : Host) → answer ≡ refused (fault_of host) → ⊥

pub both_no : (a b : Option SiteRefusal) → HasNoFault a → HasNoFault b → HasNoFault (a or_first b)
both_no None b one other = other
both_no (Some refusal) b one other = one

pub if_no : (b : Bool) (refusal : SiteRefusal) → IsNoFault refusal → HasNoFault (refuses_if b refusal)
if_no true refusal clean host e = clean host (some_is refusal (fault_of host) e)
if_no false refusal clean host e = absurd cc

pub by_no : {T : Type 0} (one : Option T) (refusal : T → SiteRefusal) → ((t : T) → IsNoFault (refusal t)) → HasNoFault (refuses_by one refusal)
by_no None refusal clean host e = absurd cc
by_no (Some t) refusal clean host e = clean t host (some_is (refusal t) (fault_of host) e)

pub refused_no : (refusal : SiteRefusal) → IsNoFault refusal → AnswersNoFault (refused refusal)
refused_no refusal clean host e = clean host (let same : refusal ≡ fault_of host = cc in same)

-- ---- plans of an open cluster

-- the plan's answer is no fault, and a cluster is open after it
abbrev pub IsOpenPlan : Plan → Type 0
IsOpenPlan plan = AnswersNoFault plan.answer × ((after : Durable) → (site : OpenSite) × (plan.done_goes after ≡ goes_on (opened site)))

refused_or_open : (refusal : Option SiteRefusal) (site : OpenSite) (plan : Plan) → HasNoFault refusal → IsOpenPlan plan → IsOpenPlan (refused_or refusal (goes_on (opened site)) plan)
refused_or_open None site plan clean is = is
refused_or_open (Some refusal) site plan clean is = (refused_no refusal (λ host e. clean host (ap (λ (r : SiteRefusal). Some r) e)), λ after. (site, refl))

refused_open : (site : OpenSite) (refusal : SiteRefusal) → IsNoFault refusal → IsOpenPlan (refused_at site refusal)
refused_open site refusal clean = (refused_no refusal clean, λ after. (site, refl))

if_open : (b : Bool) (one other : Plan) → IsOpenPlan one → IsOpenPlan other → IsOpenPlan (if b then one else other)
if_open true one other first clean = first
if_open false one other first clean = clean

asked_open : (setting : Setting) (site : OpenSite) (part : OpenPart) (request : Request) (mutation : Option Mutation) → IsOpenPlan (asked_plan setting site part request mutation)
asked_open setting site part request None = refused_or_open _ site _ (if_no _ _ (λ host e. absurd cc)) (λ host e. absurd cc, λ after. (_, refl))
asked_open setting site part request (Some mutation) = refused_or_open _ site _
    (both_no _ _ (both_no _ _ (both_no _ _ (by_no _ pinned_to (λ t host e. absurd cc)) (if_no _ _ (λ host e. absurd cc))) (if_no _ _ (λ host e. absurd cc))) (if_no _ _ (λ host e. absurd cc)))
    (λ host e. absurd cc, λ after. (_, refl))

renew_open : (setting : Setting) (site : OpenSite) (part : OpenPart) → IsOpenPlan (renew_plan setting site part)
renew_open setting site part = refused_or_open _ site _ (both_no _ _ (by_no _ busy_to (λ t host e. absurd cc)) (if_no _ _ (λ host e. absurd cc))) (λ host e. absurd cc, λ after. (_, refl))

begin_open : (setting : Setting) (site : OpenSite) (part : OpenPart) (host : Host) → IsOpenPlan (begin_plan setting site part host)
begin_open setting site part host = refused_or_open _ site _
    (both_no _ _ (both_no _ _ (both_no _ _ (if_no _ _ (λ host e. absurd cc)) (by_no _ busy_to (λ t host e. absurd cc))) (if_no _ _ (λ host e. absurd cc))) (if_no _ _ (λ host e. absurd cc)))
    (λ host e. absurd cc, λ after. (_, refl))

copy_open : (site : OpenSite) (part : OpenPart) (move : MoveState) → IsOpenPlan (copy_plan site part move)
copy_open site part move = (λ host e. absurd cc, λ after. (_, refl))

settle_open : (site : OpenSite) (part : OpenPart) (move : MoveState) → IsOpenPlan (settle_plan site part move)
settle_open site part move = refused_or_open _ site _ (if_no _ _ (λ host e. absurd cc)) (λ host e. absurd cc, λ after. (_, refl))

seal_open : (setting : Setting) (site : OpenSite) (part : OpenPart) (move : MoveState) → IsOpenPlan (seal_plan setting site part move)
seal_open setting site part move = refused_or_open _ site _ (both_no _ _ (if_no _ _ (λ host e. absurd cc)) (if_no _ _ (λ host e. absurd cc))) (λ host e. absurd cc, λ after. (_, refl))

moving_open : (site : OpenSite) (move : Option MoveState) (plan : MoveState → Plan) → ((m : MoveState) → IsOpenPlan (plan m)) → IsOpenPlan (moving_plan site move plan)
moving_open site None plan each = refused_open site _ (λ host e. absurd cc)
moving_open site (Some move) plan each = each move

drop_open : (site : OpenSite) (part : OpenPart) (waits : Option ℕ) → IsOpenPlan (drop_plan site part waits)
drop_open site part None = refused_open site _ (λ host e. absurd cc)
drop_open site part (Some host) = (λ host e. absurd cc, λ after. (_, refl))

on_open : (site : OpenSite) (partition : ℕ) (part : Option OpenPart) (plan : OpenPart → Plan) → ((at : OpenPart) → IsOpenPlan (plan at)) → IsOpenPlan (plan_on site partition part plan)
on_open site partition None plan each = refused_open site _ (λ host e. absurd cc)
on_open site partition (Some part) plan each = each part

pub call_open : (setting : Setting) (site : OpenSite) (part : ℕ × Request) → IsOpenPlan (call_plan setting site part)
call_open setting site part = on_open site part.0 (part_at site part.0) _ (λ at. asked_open setting site at part.1 (mutation_of part.1))

going_on_open : (setting : Setting) (site : OpenSite) (host : Host) (answer : SiteAnswer) (writing : Option Roster) → AnswersNoFault answer → IsOpenPlan (going_on_plan setting site host answer writing)
going_on_open setting site host answer None clean = (clean, λ after. (site, refl))
going_on_open setting site host answer (Some new) clean = (clean, λ after. (_, refl))

ends_no : (b : Bool) (epoch : ℕ) (host : Host) (refusal : SiteRefusal) → IsNoFault refusal → AnswersNoFault (if b then joined epoch host else refused refusal)
ends_no true epoch host refusal clean other e = absurd cc
ends_no false epoch host refusal clean other e = refused_no refusal clean other e

new_join_open : (setting : Setting) (site : OpenSite) (host : Host) (last : Option Roster) → IsOpenPlan (new_join_plan setting site host last)
new_join_open setting site host None = refused_open site _ (λ host e. absurd cc)
new_join_open setting site host (Some last) = (ends_no _ _ _ _ (λ host e. absurd cc), λ after. (_, refl))

join_open : (setting : Setting) (site : OpenSite) (host : Host) → IsOpenPlan (join_plan setting site host)
join_open setting site host = refused_or_open _ site _
    (both_no _ _ (both_no _ _ (both_no _ _ (if_no _ _ (λ host e. absurd cc)) (by_no _ change_pending (λ t host e. absurd cc))) (by_no _ change_pending (λ t host e. absurd cc))) (if_no _ _ (λ host e. absurd cc)))
    (if_open (is_host (pending_join site.durable.rosters) host) _ _ (going_on_open setting site host _ site.durable.rosters.writing (λ host e. absurd cc)) (new_join_open setting site host (last_finished site.durable.rosters)))

new_leave_open : (setting : Setting) (site : OpenSite) (host : Host) (last : Option Roster) → IsOpenPlan (new_leave_plan setting site host last)
new_leave_open setting site host None = refused_open site _ (λ host e. absurd cc)
new_leave_open setting site host (Some last) = refused_or_open _ site _ (both_no _ _ (both_no _ _ (if_no _ _ (λ host e. absurd cc)) (by_no _ owns_partition (λ t host e. absurd cc))) (if_no _ _ (λ host e. absurd cc))) (λ host e. absurd cc, λ after. (_, refl))

leave_again_open : (setting : Setting) (site : OpenSite) (host : Host) (writing : Option Roster) → IsOpenPlan (leave_again_plan setting site host writing)
leave_again_open setting site host None = refused_open site _ (λ host e. absurd cc)
leave_again_open setting site host (Some new) = (λ host e. absurd cc, λ after. (_, refl))

leave_open : (setting : Setting) (site : OpenSite) (host : Host) → IsOpenPlan (leave_plan setting site host)
leave_open setting site host = if_open (is_host (pending_leave site.durable.rosters) host) _ _ (leave_again_open setting site host site.durable.rosters.writing)
    (refused_or_open _ site _ (both_no _ _ (both_no _ _ (if_no _ _ (λ host e. absurd cc)) (by_no _ change_pending (λ t host e. absurd cc))) (by_no _ change_pending (λ t host e. absurd cc))) (new_leave_open setting site host (last_finished site.durable.rosters)))

-- the one plan of an event, or of a command but a stop
abbrev IsOpenIf : Option Plan → Type 0
IsOpenIf plan = (one : Plan) → plan ≡ Some one → IsOpenPlan one

this_one : (plan : Plan) → IsOpenPlan plan → IsOpenIf (Some plan)
this_one plan is one e = subst IsOpenPlan (some_is plan one e) is

pub event_open : (setting : Setting) (site : OpenSite) (event : SiteEvent) → IsOpenIf (event_plan setting site event)
event_open setting site (call request) = λ one e. absurd cc
event_open setting site (renew partition) = this_one _ (on_open site partition (part_at site partition) _ (renew_open setting site))
event_open setting site (begin partition host) = this_one _ (on_open site partition (part_at site partition) _ (λ at. begin_open setting site at host))
event_open setting site (copy partition) = this_one _ (on_open site partition (part_at site partition) _ (λ at. moving_open site at.state.move _ (copy_open site at)))
event_open setting site (settle partition) = this_one _ (on_open site partition (part_at site partition) _ (λ at. moving_open site at.state.move _ (settle_open site at)))
event_open setting site (seal partition) = this_one _ (on_open site partition (part_at site partition) _ (λ at. moving_open site at.state.move _ (seal_open setting site at)))
event_open setting site (drop_file partition) = this_one _ (on_open site partition (part_at site partition) _ (λ at. drop_open site at at.state.waits))
event_open setting site (give_up partition) = this_one _ (on_open site partition (part_at site partition) _ (λ at. moving_open site at.state.move _ (λ move. (λ host e. absurd cc, λ after. (_, refl)))))

pub command_open : (setting : Setting) (site : OpenSite) (command : SiteCommand) → (command ≡ stop → ⊥) → IsOpenIf (open_plan setting site command)
command_open setting site (create host) other = this_one _ (refused_open site _ (λ host e. absurd cc))
command_open setting site (recover hosts) other = this_one _ (refused_open site _ (λ host e. absurd cc))
command_open setting site stop other = absurd (other refl)
command_open setting site dump other = this_one _ (λ host e. absurd cc, λ after. (site, refl))
command_open setting site (steps events) other = λ one e. absurd cc
command_open setting site (join host) other = this_one _ (join_open setting site host)
command_open setting site (leave host) other = this_one _ (leave_open setting site host)

-- ---- every command has an answer

abbrev at : OpenSite → FaultCounts → RunState
at site faults = record { stage = opened site; faults = faults }

-- a plan of an open cluster is carried out somehow
somehow : (shape : SiteShape) (plan : Plan) (site : OpenSite) (faults : FaultCounts) → IsOpenPlan plan → (new : OpenSite) × FollowsPlan shape plan (at site faults) plan.answer (at new faults)
somehow shape plan site faults is =
    let goes = is.1 (all_done plan.acts plan.durable) in
    (goes.0, carried_somehow shape plan (at site faults) (opened goes.0) goes.1)

abbrev PartsEnd : Setting → Request → List (ℕ × Request) → List Reply → OpenSite → FaultCounts → Type 0
PartsEnd setting request parts replies site faults = (answer : SiteAnswer) × (new : OpenSite) × UntilRefused setting request (at site faults) parts replies answer (at new faults)

-- what a part was answered decides how the request goes on
abbrev GoesOnSomehow : SiteAnswer → OpenSite → FaultCounts → (SiteAnswer → RunState → Reply → Type 0) → Type 0
GoesOnSomehow found mid faults next = (answer : SiteAnswer) × (new : OpenSite) × IsOutcomeAfter found (at mid faults) answer (at new faults) (next answer (at new faults))

outcome_somehow : (found : SiteAnswer) (mid : OpenSite) (faults : FaultCounts) (next : SiteAnswer → RunState → Reply → Type 0) → ((reply : Reply) → (answer : SiteAnswer) × (new : OpenSite) × next answer (at new faults) reply) → GoesOnSomehow found mid faults next
outcome_somehow (replied reply) mid faults next more = more reply
outcome_somehow (refused refusal) mid faults next more = (refused refusal, mid, (refl, refl))
outcome_somehow (created host) mid faults next more = (created host, mid, (refl, refl))
outcome_somehow (recovered epoch hosts count) mid faults next more = (recovered epoch hosts count, mid, (refl, refl))
outcome_somehow stopped mid faults next more = (stopped, mid, (refl, refl))
outcome_somehow (dumped all) mid faults next more = (dumped all, mid, (refl, refl))
outcome_somehow (joined epoch host) mid faults next more = (joined epoch host, mid, (refl, refl))
outcome_somehow (left_by_host epoch host) mid faults next more = (left_by_host epoch host, mid, (refl, refl))
outcome_somehow (renewed partition id) mid faults next more = (renewed partition id, mid, (refl, refl))
outcome_somehow (begun_to partition host) mid faults next more = (begun_to partition host, mid, (refl, refl))
outcome_somehow (copied partition whole) mid faults next more = (copied partition whole, mid, (refl, refl))
outcome_somehow (settled_at partition) mid faults next more = (settled_at partition, mid, (refl, refl))
outcome_somehow (sealed partition id) mid faults next more = (sealed partition id, mid, (refl, refl))
outcome_somehow (dropped partition) mid faults next more = (dropped partition, mid, (refl, refl))
outcome_somehow (given_up partition) mid faults next more = (given_up partition, mid, (refl, refl))

parts_end : (setting : Setting) (request : Request) (parts : List (ℕ × Request)) (replies : List Reply) (site : OpenSite) (faults : FaultCounts) → PartsEnd setting request parts replies site faults
parts_end setting request [] replies site faults = (replied (joined_reply request replies), site, (refl, refl))
parts_end setting request (part ∷ parts) replies site faults =
    let first = somehow setting.shape (call_plan setting site part) site faults (call_open setting site part) in
    let rest = outcome_somehow (call_plan setting site part).answer first.0 faults (λ answer new reply. UntilRefused setting request (at first.0 faults) parts (replies ++ reply ∷ []) answer new) (λ reply. parts_end setting request parts (replies ++ reply ∷ []) first.0 faults) in
    (rest.0, rest.1, ((call_plan setting site part).answer, at first.0 faults, first.1, rest.2))

abbrev EventEnds : Setting → SiteEvent → OpenSite → FaultCounts → Type 0
EventEnds setting event site faults = (answer : SiteAnswer) × (new : OpenSite) × EventRuns setting (at site faults) event answer (at new faults)

planned_end : (shape : SiteShape) (plan : Option Plan) (one : Plan) (site : OpenSite) (faults : FaultCounts) → plan ≡ Some one → IsOpenPlan one → (answer : SiteAnswer) × (new : OpenSite) × IsPlannedStep shape plan (at site faults) answer (at new faults)
planned_end shape plan one site faults e is =
    let some = somehow shape one site faults is in
    (one.answer, some.0, subst (λ (p : Option Plan). IsPlannedStep shape p (at site faults) one.answer (at some.0 faults)) (sym e) some.1)

event_ends : (setting : Setting) (event : SiteEvent) (site : OpenSite) (faults : FaultCounts) → EventEnds setting event site faults
event_ends setting (call request) site faults = parts_end setting request (parts_of setting.shape.partitions request) [] site faults
event_ends setting (renew partition) site faults = planned_end setting.shape _ _ site faults refl (event_open setting site (renew partition) _ refl)
event_ends setting (begin partition host) site faults = planned_end setting.shape _ _ site faults refl (event_open setting site (begin partition host) _ refl)
event_ends setting (copy partition) site faults = planned_end setting.shape _ _ site faults refl (event_open setting site (copy partition) _ refl)
event_ends setting (settle partition) site faults = planned_end setting.shape _ _ site faults refl (event_open setting site (settle partition) _ refl)
event_ends setting (seal partition) site faults = planned_end setting.shape _ _ site faults refl (event_open setting site (seal partition) _ refl)
event_ends setting (drop_file partition) site faults = planned_end setting.shape _ _ site faults refl (event_open setting site (drop_file partition) _ refl)
event_ends setting (give_up partition) site faults = planned_end setting.shape _ _ site faults refl (event_open setting site (give_up partition) _ refl)

events_end : (setting : Setting) (events : List SiteEvent) (site : OpenSite) (faults : FaultCounts) → (outcomes : List SiteAnswer) × (new : OpenSite) × EventsRun setting (at site faults) events outcomes (at new faults)
events_end setting [] site faults = ([], site, refl)
events_end setting (event ∷ events) site faults =
    let first = event_ends setting event site faults in
    let rest = events_end setting events first.1 faults in
    (first.0 ∷ rest.0, rest.1, (at first.1 faults, first.2, rest.2))

abbrev CommandEnds : Setting → SiteCommand → OpenSite → FaultCounts → Type 0
CommandEnds setting command site faults = (answer : CommandAnswer) × (new : OpenSite) × CommandRuns setting (at site faults) command answer (at new faults)

one_end : (setting : Setting) (command : SiteCommand) (plan : Option Plan) (one : Plan) (site : OpenSite) (faults : FaultCounts) → plan ≡ Some one → IsOpenPlan one → (answer : CommandAnswer) × (new : OpenSite) × OpenRuns setting plan (at site faults) command answer (at new faults)
one_end setting command plan one site faults e is =
    let some = somehow setting.shape one site faults is in
    (answered one.answer, some.0, subst (λ (p : Option Plan). OpenRuns setting p (at site faults) command (answered one.answer) (at some.0 faults)) (sym e) (one.answer, some.1, refl))

pub command_ends : (setting : Setting) (command : SiteCommand) (site : OpenSite) (faults : FaultCounts) → (command ≡ stop → ⊥) → CommandEnds setting command site faults
command_ends setting (create host) site faults other = one_end setting (create host) _ _ site faults refl (command_open setting site (create host) other _ refl)
command_ends setting (recover hosts) site faults other = one_end setting (recover hosts) _ _ site faults refl (command_open setting site (recover hosts) other _ refl)
command_ends setting stop site faults other = absurd (other refl)
command_ends setting dump site faults other = one_end setting dump _ _ site faults refl (command_open setting site dump other _ refl)
command_ends setting (steps events) site faults other = let all = events_end setting events site faults in (stepped all.0, all.1, (all.0, all.2, refl))
command_ends setting (join host) site faults other = one_end setting (join host) _ _ site faults refl (command_open setting site (join host) other _ refl)
command_ends setting (leave host) site faults other = one_end setting (leave host) _ _ site faults refl (command_open setting site (leave host) other _ refl)
