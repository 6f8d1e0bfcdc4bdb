-- What a part of a request enters, by its answer.
use Rattle.std.proofs.Common.{◌≡◌, ◌≢◌, ◌⊎◌, inl, inr, ⊎_elim, ℕ, zero, suc, List, [], ◌∷◌, ◌++◌, slice_get, Option, Some, None, Bool, true, false, refl, sym, ◌∙◌, ap, subst, if◌then◌else◌}
use Rattle.std.specs.Prelude.{⊤}
use Rattle.std.proofs.lemmas.Bool.{cases_eq}
use Rattle.cache_key.specs.declared.request.Mutation.{Mutation}
use Rattle.cache_key.specs.declared.request.Reply.{Reply}
use Rattle.cache_key.specs.declared.request.Request.{Request}
use Rattle.cache_model.specs.Change.{Change, change_of}
use Rattle.cache_model.specs.Reply.{mutation_of, reply_after}
use Rattle.cluster_model.specs.Lane.{HostedStore, LaneStanding}
use Rattle.cluster_model.specs.LaneSteps.{standing_for, with_doubt}
use Rattle.cluster_model.specs.Site.{SiteShape}
use Rattle.cluster_model.specs.SiteSteps.{changed_at, with_standing}
use Rattle.cluster_model.specs.Agreement.{Durable}
use Rattle.cluster_model.specs.Memory.{Setting, PartState}
use Rattle.cluster_model.specs.Acts.{Act, quiet, appends, seals, writes, clears, begins, finishes, appended, perhaps_written_to, tried, done, all_done}
use Rattle.roster_form.specs.declared.roster.Roster.{Roster}
use Rattle.command_plans.specs.Asked.{SiteRefusal, SiteAnswer, refused, replied}
use Rattle.command_plans.specs.Kept.{answered_in, OthersAreAsAnswered}
use Rattle.command_plans.specs.Stage.{OpenMemory, OpenSite, opened, RunStage, RunState, goes_on}
use Rattle.command_plans.specs.Plan.{Plan, refused_or}
use Rattle.command_plans.specs.PartPlans.{OpenPart, refused_at, is_due, renewed_store, renewal_acts, asked_plan, part_with, plan_on}
use Rattle.command_plans.specs.Steps.{call_plan, AreLeft, IsKeptAfter, FollowsPlan, IsOpenAnd, PartFollows}
use Rattle.command_plans.proofs.CarriedOutLemmas.{refused_alone}
use Rattle.command_plans.proofs.ItemLemmas.{changed_item, others_stay}

-- ---- what was answered

-- the changes of a standing, if there is one
abbrev pub changes_in : Option LaneStanding → Option (List Change)
changes_in None = None
changes_in (Some standing) = Some standing.store.changes

-- what these disks keep as answered
abbrev pub answered_at : Durable → ℕ → Option (List Change)
answered_at durable partition = changes_in (slice_get durable.standings partition)

-- what was answered stands in the standings
by_standings : (durable : Durable) (memory : OpenMemory) (known : Bool) (standings : List LaneStanding) (partition : ℕ)
    → answered_in (record { durable = record { rosters = durable.rosters; sights = durable.sights; standings = standings }; memory = memory; known = known }) partition ≡ changes_in (slice_get standings partition)
by_standings durable memory known [] partition = refl
by_standings durable memory known (first ∷ standings) zero = refl
by_standings durable memory known (first ∷ standings) (suc partition) = by_standings durable memory known standings partition

-- so it is what the disks keep
pub answered_is : (site : OpenSite) (partition : ℕ) → answered_in site partition ≡ answered_at site.durable partition
answered_is site partition = by_standings site.durable site.memory site.known site.durable.standings partition

-- of each partition the same was answered
abbrev pub IsAsAnswered : Durable → Durable → Type 0
IsAsAnswered old new = (partition : ℕ) → answered_at new partition ≡ answered_at old partition

-- of each but this one
abbrev pub OthersAre : ℕ → Durable → Durable → Type 0
OthersAre partition old new = (other : ℕ) → (other ≡ partition) ⊎ (answered_at new other ≡ answered_at old other)

-- what is left of each standing has its changes
left_answered : (acts : List Act) (first : ℕ) (computed kept : List LaneStanding) → AreLeft acts first computed kept → (partition : ℕ) → changes_in (slice_get kept partition) ≡ changes_in (slice_get computed partition)
left_answered acts first [] [] left partition = refl
left_answered acts first [] (now ∷ kept) left partition = absurd left
left_answered acts first (was ∷ computed) [] left partition = absurd left
left_answered acts first (was ∷ computed) (now ∷ kept) left zero = ap (λ (s : HostedStore). Some s.changes) left.0.same
left_answered acts first (was ∷ computed) (now ∷ kept) left (suc partition) = left_answered acts (suc first) computed kept left.1 partition

-- stores in doubt that may have been erased leave what was answered
kept_answered : (acts : List Act) (computed kept : Durable) → IsKeptAfter acts computed kept → IsAsAnswered computed kept
kept_answered acts computed kept after partition = ⊎_elim
    (λ it. ap (λ (d : Durable). answered_at d partition) it)
    (λ less. left_answered acts 0 computed.standings kept.standings less.3 partition)
    after

-- so does a change of a standing that leaves its changes
changed_answered : (standings : List LaneStanding) (partition : ℕ) (change : LaneStanding → LaneStanding) → ((standing : LaneStanding) → slice_get standings partition ≡ Some standing → (change standing).store.changes ≡ standing.store.changes) → (other : ℕ)
    → changes_in (slice_get (changed_at standings partition change) other) ≡ changes_in (slice_get standings other)
changed_answered [] partition change same other = refl
changed_answered (first ∷ standings) zero change same zero = ap (λ (l : List Change). Some l) (same first refl)
changed_answered (first ∷ standings) zero change same (suc other) = refl
changed_answered (first ∷ standings) (suc partition) change same zero = refl
changed_answered (first ∷ standings) (suc partition) change same (suc other) = changed_answered standings partition change same other

-- so does an act that is only tried
written_answered : (durable : Durable) (host : List ℕ) (writing : Option Roster) → IsAsAnswered durable (perhaps_written_to durable host writing)
written_answered durable host None partition = refl
written_answered durable host (Some new) partition = refl

-- so does any act that is only tried
tried_answered : (act : Act) (durable : Durable) → IsAsAnswered durable (tried act durable)
tried_answered (quiet disk) durable partition = refl
tried_answered (appends at host group size) durable partition = changed_answered durable.standings at (λ standing. with_doubt standing (appended standing.store group size)) (λ standing e. refl) partition
tried_answered (seals at store) durable partition = changed_answered durable.standings at (λ standing. with_doubt standing store) (λ standing e. refl) partition
tried_answered (writes host) durable partition = written_answered durable host.name durable.rosters.writing partition
tried_answered (clears host) durable partition = refl
tried_answered (begins roster) durable partition = refl
tried_answered finishes durable partition = refl

-- ---- a commit

-- it is so before each of these acts
abbrev HoldsBefore : (Durable → Type 0) → List Act → Durable → Type 0
HoldsBefore P [] durable = ⊤
HoldsBefore P (act ∷ acts) durable = P durable × HoldsBefore P acts (done act durable)

-- it is so before an act among them
before_one : (P : Durable → Type 0) (before after : List Act) (act : Act) (durable : Durable) → HoldsBefore P (before ++ act ∷ after) durable → P (all_done before durable)
before_one P [] after act durable holds = holds.0
before_one P (first ∷ before) after act durable holds = before_one P before after act (done first durable) holds.1

-- the acts of a commit, where it is due or not
abbrev acts_if : Bool → Setting → OpenSite → OpenPart → Change → List Act
acts_if due setting site part change = (if due then renewal_acts setting site part else []) ++ appends part.partition part.standing.store.host (change ∷ []) (setting.taken change) ∷ []

-- a store built anew has the same changes
renewed_answered : (setting : Setting) (site : OpenSite) (part : OpenPart) → slice_get site.durable.standings part.partition ≡ Some part.standing → IsAsAnswered site.durable (with_standing site.durable part.partition (λ standing. standing_for (renewed_store setting site part)))
renewed_answered setting site part at partition = changed_answered site.durable.standings part.partition (λ standing. standing_for (renewed_store setting site part))
    (λ standing e. (let same : Some part.standing ≡ Some standing = sym at ∙ e in let one : part.standing ≡ standing = cc in ap (λ (s : LaneStanding). s.store.changes) one))
    partition

-- up to its last act the same is answered
commit_holds : (due : Bool) (setting : Setting) (site : OpenSite) (part : OpenPart) (change : Change) → slice_get site.durable.standings part.partition ≡ Some part.standing → HoldsBefore (IsAsAnswered site.durable) (acts_if due setting site part change) site.durable
commit_holds true setting site part change at = (λ partition. refl, (λ partition. refl, (renewed_answered setting site part at, tt)))
commit_holds false setting site part change at = (λ partition. refl, tt)

-- and then the change is the last
commit_enters : (due : Bool) (setting : Setting) (site : OpenSite) (part : OpenPart) (change : Change) → slice_get site.durable.standings part.partition ≡ Some part.standing
    → answered_at (all_done (acts_if due setting site part change) site.durable) part.partition ≡ Some (part.standing.store.changes ++ change ∷ [])
commit_enters true setting site part change at =
    let sealed = changed_item site.durable.standings part.partition (λ standing. standing_for (renewed_store setting site part)) part.standing at in
    ap changes_in (changed_item (changed_at site.durable.standings part.partition (λ standing. standing_for (renewed_store setting site part))) part.partition (λ standing. standing_for (appended standing.store (change ∷ []) (setting.taken change))) _ sealed)
commit_enters false setting site part change at =
    ap changes_in (changed_item site.durable.standings part.partition (λ standing. standing_for (appended standing.store (change ∷ []) (setting.taken change))) part.standing at)

-- of this partition alone
commit_others : (due : Bool) (setting : Setting) (site : OpenSite) (part : OpenPart) (change : Change) (other : ℕ) → other ≢ part.partition
    → answered_at (all_done (acts_if due setting site part change) site.durable) other ≡ answered_at site.durable other
commit_others true setting site part change other ne = ap changes_in
    (others_stay (changed_at site.durable.standings part.partition (λ standing. standing_for (renewed_store setting site part))) part.partition other (λ standing. standing_for (appended standing.store (change ∷ []) (setting.taken change))) ne
    ∙ others_stay site.durable.standings part.partition other (λ standing. standing_for (renewed_store setting site part)) ne)
commit_others false setting site part change other ne = ap changes_in (others_stay site.durable.standings part.partition other (λ standing. standing_for (appended standing.store (change ∷ []) (setting.taken change))) ne)

-- ---- a part of a request

-- the changes after this mutation, or after a read
abbrev pub entered_by : Option Mutation → List Change → List Change
entered_by None changes = changes
entered_by (Some mutation) changes = changes ++ change_of mutation ∷ []

-- it is replied to, and the changes of its partition are those before it, and its own
abbrev pub IsEntered : OpenSite → Durable → ℕ → Request → Option Mutation → SiteAnswer → Type 0
IsEntered site new partition request mutation answer =
    (changes : List Change) × (answered_at site.durable partition ≡ Some changes) × (answer ≡ replied (reply_after changes request)) × (answered_at new partition ≡ Some (entered_by mutation changes)) × OthersAre partition site.durable new

-- it isn't, and the changes of each partition stay
abbrev pub IsNotEntered : OpenSite → Durable → SiteAnswer → Type 0
IsNotEntered site new answer = ((reply : Reply) → answer ≡ replied reply → ⊥) × IsAsAnswered site.durable new

-- a cluster is open there, and the part is entered or not
abbrev pub EndsEntered : OpenSite → RunStage → ℕ → Request → Option Mutation → SiteAnswer → Type 0
EndsEntered site stage partition request mutation answer = (after : OpenSite) × (stage ≡ opened after) × (IsEntered site after.durable partition request mutation answer ⊎ IsNotEntered site after.durable answer)

-- a refusal is no reply
no_reply : (refusal : SiteRefusal) (answer : SiteAnswer) → answer ≡ refused refusal → (reply : Reply) → answer ≡ replied reply → ⊥
no_reply refusal answer e reply f = let clash : refused refusal ≡ replied reply = sym e ∙ f in absurd cc

-- what is refused enters nothing
refused_ends : (shape : SiteShape) (site : OpenSite) (refusal : SiteRefusal) (old new : RunState) (answer : SiteAnswer) (partition : ℕ) (request : Request) (mutation : Option Mutation) → FollowsPlan shape (refused_at site refusal) old answer new
    → EndsEntered site new.stage partition request mutation answer
refused_ends shape site refusal old new answer partition request mutation carried =
    let done_so = refused_alone shape (refused_at site refusal) old new answer refl carried in
    (site, done_so.1, inr (no_reply refusal answer done_so.0, λ other. refl))

-- so does the first refusal of a plan
or_ends : (shape : SiteShape) (site : OpenSite) (refusal : Option SiteRefusal) (plan : Plan) (old new : RunState) (answer : SiteAnswer) (partition : ℕ) (request : Request) (mutation : Option Mutation) → plan.durable ≡ site.durable
    → (FollowsPlan shape plan old answer new → EndsEntered site new.stage partition request mutation answer)
    → FollowsPlan shape (refused_or refusal (goes_on (opened site)) plan) old answer new → EndsEntered site new.stage partition request mutation answer
or_ends shape site None plan old new answer partition request mutation same then_ carried = then_ carried
or_ends shape site (Some refusal) plan old new answer partition request mutation same then_ carried =
    let done_so = refused_alone shape (refused_or (Some refusal) (goes_on (opened site)) plan) old new answer refl carried in
    (site, done_so.1, inr (no_reply refusal answer done_so.0, λ other. refl))

-- after some acts, and one that is tried, the same is answered
joined_answered : (before old : Durable) (act : Act) (kept : Durable) → IsAsAnswered (tried act before) kept → IsAsAnswered old before → IsAsAnswered old kept
joined_answered before old act kept after earlier other = after other ∙ (tried_answered act before other ∙ earlier other)

-- a request on one partition is entered, or not
asked_ends : (setting : Setting) (site : OpenSite) (part : OpenPart) (request : Request) (mutation : Option Mutation) (old new : RunState) (answer : SiteAnswer) → slice_get site.durable.standings part.partition ≡ Some part.standing
    → FollowsPlan setting.shape (asked_plan setting site part request mutation) old answer new → EndsEntered site new.stage part.partition request mutation answer
asked_ends setting site part request None old new answer at carried = or_ends setting.shape site _ _ old new answer part.partition request None refl
    (λ followed.
    let done_so = refused_alone setting.shape _ old new answer refl followed in
    (_, done_so.1, inl (part.standing.store.changes, ap changes_in at, done_so.0, ap changes_in at, λ other. inr refl)))
    carried
asked_ends setting site part request (Some mutation) old new answer at carried = or_ends setting.shape site _ _ old new answer part.partition request (Some mutation) refl
    (λ followed. ⊎_elim
    (λ whole.
    let due = is_due setting site.durable part.standing in
    let kept = kept_answered _ _ whole.kept whole.left in (
      _,
      whole.goes,
      inl (
        part.standing.store.changes,
        ap changes_in at,
        whole.answer_is,
        kept part.partition ∙ commit_enters due setting site part (change_of mutation) at,
        λ other. ⊎_elim (λ here. inl here) (λ ne. inr (kept other ∙ commit_others due setting site part (change_of mutation) other ne)) (cases_eq other part.partition),
      ),
    ))
    (λ failed.
    let due = is_due setting site.durable part.standing in
    let holds = subst (λ (l : List Act). HoldsBefore (IsAsAnswered site.durable) l site.durable) failed.whole (commit_holds due setting site part (change_of mutation) at) in
    let earlier = before_one (IsAsAnswered site.durable) failed.before failed.after failed.act site.durable holds in
    let kept = kept_answered _ _ failed.kept failed.left in (
      _,
      failed.goes,
      inr (no_reply _ answer failed.answer_is, joined_answered (all_done failed.before site.durable) site.durable failed.act failed.kept kept earlier),
    ))
    followed.ends)
    carried

-- a part of a request is entered, or not
call_ends : (setting : Setting) (site : OpenSite) (part : ℕ × Request) (old new : RunState) (answer : SiteAnswer) → FollowsPlan setting.shape (call_plan setting site part) old answer new → EndsEntered site new.stage part.0 part.1 (mutation_of part.1) answer
call_ends setting site part old new answer carried = go (slice_get site.durable.standings part.0) (slice_get site.memory.parts part.0) (slice_get site.memory.trails part.0) refl carried
  where
    go : (standing : Option LaneStanding) (state : Option PartState) (trail : Option ℕ) → slice_get site.durable.standings part.0 ≡ standing
        → FollowsPlan setting.shape (plan_on site part.0 (part_with part.0 standing state trail) (λ at. asked_plan setting site at part.1 (mutation_of part.1))) old answer new → EndsEntered site new.stage part.0 part.1 (mutation_of part.1) answer
    go None state trail e followed = refused_ends setting.shape site _ old new answer part.0 part.1 (mutation_of part.1) followed
    go (Some standing) None trail e followed = refused_ends setting.shape site _ old new answer part.0 part.1 (mutation_of part.1) followed
    go (Some standing) (Some state) None e followed = refused_ends setting.shape site _ old new answer part.0 part.1 (mutation_of part.1) followed
    go (Some standing) (Some state) (Some trail) e followed = asked_ends setting site (record { partition = part.0; standing = standing; state = state; trail = trail }) part.1 (mutation_of part.1) old new answer e followed

-- ---- the law

-- an open stage has one site
one_site : (site other : OpenSite) → opened site ≡ opened other → site ≡ other
one_site site other e = cc

-- between two open stages a part is entered, or not
part_ends : (setting : Setting) (site after : OpenSite) (old new : RunState) (part : ℕ × Request) (answer : SiteAnswer) → old.stage ≡ opened site → new.stage ≡ opened after → PartFollows setting old part answer new
    → IsEntered site after.durable part.0 part.1 (mutation_of part.1) answer ⊎ IsNotEntered site after.durable answer
part_ends setting site after old new part answer before later step =
    let carried : FollowsPlan setting.shape (call_plan setting site part) old answer new = subst (λ (s : RunStage). IsOpenAnd s (λ at. FollowsPlan setting.shape (call_plan setting at part) old answer new)) before step in
    let ends = call_ends setting site part old new answer carried in
    subst (λ (s : OpenSite). IsEntered site s.durable part.0 part.1 (mutation_of part.1) answer ⊎ IsNotEntered site s.durable answer) (one_site ends.0 after (sym ends.1 ∙ later)) ends.2

-- an answer has one reply
one_reply : (one other : Reply) → replied one ≡ replied other → one ≡ other
one_reply one other e = cc

-- what is replied to is entered
entered : (setting : Setting) (site after : OpenSite) (old new : RunState) (part : ℕ × Request) (kind : Option Mutation) (reply : Reply) → old.stage ≡ opened site → new.stage ≡ opened after → mutation_of part.1 ≡ kind → PartFollows setting old part (replied reply) new
    → (changes : List Change) × (answered_in site part.0 ≡ Some changes) × (answered_in after part.0 ≡ Some (entered_by kind changes)) × (reply ≡ reply_after changes part.1)
entered setting site after old new part kind reply before later is step = ⊎_elim
    (λ so. (
      so.0,
      answered_is site part.0 ∙ so.1,
      answered_is after part.0 ∙ (so.3 ∙ ap (λ (k : Option Mutation). Some (entered_by k so.0)) is),
      one_reply reply (reply_after so.0 part.1) so.2,
    ))
    (λ no. absurd (no.0 reply refl))
    (part_ends setting site after old new part (replied reply) before later step)

-- the change of a mutation is the last one
pub mutation_entered : (setting : Setting) (site after : OpenSite) (old new : RunState) (part : ℕ × Request) (mutation : Mutation) (reply : Reply) → old.stage ≡ opened site → new.stage ≡ opened after → mutation_of part.1 ≡ Some mutation → PartFollows setting old part (replied reply) new
    → (changes : List Change) × (answered_in site part.0 ≡ Some changes) × (answered_in after part.0 ≡ Some (changes ++ change_of mutation ∷ [])) × (reply ≡ reply_after changes part.1)
mutation_entered setting site after old new part mutation reply before later is step = entered setting site after old new part (Some mutation) reply before later is step

-- a read leaves the changes
pub read_entered : (setting : Setting) (site after : OpenSite) (old new : RunState) (part : ℕ × Request) (reply : Reply) → old.stage ≡ opened site → new.stage ≡ opened after → mutation_of part.1 ≡ None → PartFollows setting old part (replied reply) new
    → (changes : List Change) × (answered_in site part.0 ≡ Some changes) × (answered_in after part.0 ≡ Some changes) × (reply ≡ reply_after changes part.1)
read_entered setting site after old new part reply before later is step = entered setting site after old new part None reply before later is step

-- whatever is no reply leaves them
pub refused_entered : (setting : Setting) (site after : OpenSite) (old new : RunState) (part : ℕ × Request) (answer : SiteAnswer) → old.stage ≡ opened site → new.stage ≡ opened after → ((reply : Reply) → answer ≡ replied reply → ⊥) → PartFollows setting old part answer new
    → answered_in after part.0 ≡ answered_in site part.0
refused_entered setting site after old new part answer before later none step = ⊎_elim
    (λ so. absurd (none (reply_after so.0 part.1) so.2))
    (λ no. answered_is after part.0 ∙ (no.1 part.0 ∙ sym (answered_is site part.0)))
    (part_ends setting site after old new part answer before later step)

-- those of other partitions stay
pub others_entered : (setting : Setting) (site after : OpenSite) (old new : RunState) (part : ℕ × Request) (answer : SiteAnswer) → old.stage ≡ opened site → new.stage ≡ opened after → PartFollows setting old part answer new → OthersAreAsAnswered part.0 site after
others_entered setting site after old new part answer before later step = ⊎_elim
    (λ so other. ⊎_elim (λ here. inl here) (λ same. inr (answered_is after other ∙ (same ∙ sym (answered_is site other)))) (so.4 other))
    (λ no other. inr (answered_is after other ∙ (no.1 other ∙ sym (answered_is site other))))
    (part_ends setting site after old new part answer before later step)
