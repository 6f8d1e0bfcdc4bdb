-- The plans of what is asked of one partition keep an open cluster.
use Rattle.std.proofs.Common.{◌≡◌, ⊎_elim, ℕ, suc, List, [], ◌∷◌, ◌++◌, slice_get, Option, Some, None, Bool, true, false, not, refl, sym, ◌∙◌, ap, subst, if◌then◌else◌}
use Rattle.std.specs.Prelude.{Contains}
use Rattle.std.proofs.lemmas.Bool.{cases_eq}
use Rattle.std.specs.Cmp.Lexicographic.{bytes_decides}
use Rattle.cache_key.specs.declared.request.Mutation.{Mutation}
use Rattle.cache_key.specs.declared.request.Request.{Request}
use Rattle.cache_model.specs.Change.{change_of}
use Rattle.cache_model.specs.Caches.{same}
use Rattle.cache_model.specs.Reply.{mutation_of}
use Rattle.roster_form.specs.Membership.{Host}
use Rattle.roster_form.specs.Succession.{listed_with, first_listed}
use Rattle.roster_form.specs.declared.roster.Roster.{Roster}
use Rattle.roster_form.proofs.PassLemmas.{some_is}
use Rattle.roster_form.proofs.ContainsLemmas.{contains_first, contains_same, contains_cases, contains_later, contains_none}
use Rattle.cluster_model.specs.Lane.{LaneStanding}
use Rattle.cluster_model.specs.Site.{SiteShape, lane_disk}
use Rattle.cluster_model.specs.SiteSteps.{changed_at}
use Rattle.cluster_model.specs.Agreement.{two_of, some_of, IsInEach, Durable}
use Rattle.cluster_model.specs.Members.{is_member}
use Rattle.cluster_model.specs.Memory.{Setting, MoveState, PartState}
use Rattle.cluster_model.specs.Acts.{quiet}
use Rattle.cluster_model.proofs.MembersLemmas.{member_in_each}
use Rattle.cluster_model.proofs.MemoryLemmas.{member_has_number}
use Rattle.command_plans.specs.Asked.{SiteEvent, call, renew, begin, copy, settle, seal, drop_file, give_up, SiteRefusal, SiteAnswer, no_partition, not_moving}
use Rattle.command_plans.specs.Kept.{HoldsThroughout, AreTargets, NoneJoins, KeepsOpen}
use Rattle.command_plans.specs.Stage.{OpenSite, opened, RunStage, RunState, goes_on}
use Rattle.command_plans.specs.Plan.{Plan, ◌or_first◌, refuses_if, refused_or, number_of, open_with, open_as, with_part, with_entered, with_move, with_waits}
use Rattle.command_plans.specs.PartPlans.{OpenPart, refused_at, asked_plan, renew_plan, with_begun, begin_plan, copied_more, synced, copy_plan, settle_plan, moved_store, seal_plan, give_up_plan, moving_plan, drop_plan, part_with, plan_on}
use Rattle.command_plans.specs.Steps.{part_at, call_plan, event_plan, FollowsPlan, BreaksPlan, stage_in}
use Rattle.command_plans.proofs.FollowedLemmas.{GoesOpen, IsKeptOpen, followed_keeps, broken_keeps, goes_open}
use Rattle.command_plans.proofs.ItemLemmas.{changed_length, item_changed, others_stay}
use Rattle.command_plans.proofs.KeptActLemmas.{KeepsHere, here_survives, quiet_keeps, seal_keeps, renewal_keeps, commit_keeps}
use Rattle.command_plans.proofs.ThroughoutLemmas.{holds_last, holds_within}

-- ---- a plan that keeps an open cluster

pub record KeepsAsOpen (shape : SiteShape) (site : OpenSite) (plan : Plan) : Type 0 where
  pub holds : HoldsThroughout (KeepsHere shape site) plan.acts plan.durable
  pub done_so : (after : Durable) → KeepsHere shape site after → GoesOpen shape (plan.done_goes after)
  pub failed_so : (after : Durable) → KeepsHere shape site after → GoesOpen shape (plan.failed_goes after)

-- it is followed to an open cluster that is kept
pub plan_followed : (shape : SiteShape) (site : OpenSite) (plan : Plan) (old new : RunState) (answer : SiteAnswer) → KeepsAsOpen shape site plan → FollowsPlan shape plan old answer new → IsKeptOpen shape new.stage
plan_followed shape site plan old new answer keeps carried = followed_keeps shape (KeepsHere shape site) (KeepsHere shape site) plan old new answer (here_survives shape site) (here_survives shape site) keeps.holds
    (record {
      all = holds_last (KeepsHere shape site) plan.acts plan.durable keeps.holds;
      fails = λ before after act disk whole called. holds_within (KeepsHere shape site) plan.acts before after act plan.durable whole keeps.holds;
    })
    (λ after is _. keeps.done_so after is)
    (λ after is _. keeps.failed_so after is)
    carried

-- so it is where it is broken off
pub plan_broken : (shape : SiteShape) (site : OpenSite) (plan : Plan) (stage : RunStage) → KeepsAsOpen shape site plan → BreaksPlan plan stage → IsKeptOpen shape stage
plan_broken shape site plan stage keeps broken =
    let left = broken_keeps (KeepsHere shape site) plan stage (here_survives shape site) keeps.holds broken in
    let goes = keeps.failed_so left.0 left.1 in
    (goes.0, left.2 ∙ ap stage_in goes.1, goes.2)

-- ---- where it goes on

-- an open cluster is kept as it stands
here_now : (shape : SiteShape) (site : OpenSite) → KeepsOpen shape site → KeepsHere shape site site.durable
here_now shape site keeps = (keeps.cluster, refl)

-- none is joining where the rosters are the same
here_joined : (shape : SiteShape) (site : OpenSite) (after : Durable) → KeepsOpen shape site → KeepsHere shape site after → NoneJoins after
here_joined shape site after keeps is = subst (λ r. NoneJoins (record { rosters = r; sights = after.sights; standings = after.standings })) (sym is.1) keeps.joined

-- it goes on with the same memory
as_open : (shape : SiteShape) (site : OpenSite) (after : Durable) → KeepsOpen shape site → KeepsHere shape site after → GoesOpen shape (open_as site after)
as_open shape site after keeps is = goes_open shape site.memory.parts site site.memory after is.0 (here_joined shape site after keeps is) keeps.known keeps.parts keeps.trails is.0.targets

-- with one call more in a trail
entered_open : (shape : SiteShape) (site : OpenSite) (partition : ℕ) (after : Durable) → KeepsOpen shape site → KeepsHere shape site after → GoesOpen shape (open_with site (with_entered site.memory partition) after)
entered_open shape site partition after keeps is = goes_open shape site.memory.parts site (with_entered site.memory partition) after is.0 (here_joined shape site after keeps is) keeps.known keeps.parts
    (changed_length site.memory.trails partition _ ∙ keeps.trails) is.0.targets

-- the partition's state becomes such that its move has a target still
abbrev IsAimed : SiteShape → OpenSite → ℕ → (PartState → PartState) → Type 0
IsAimed shape site partition change = (one : PartState) (move : MoveState) → slice_get site.memory.parts partition ≡ Some one → (change one).move ≡ Some move → IsInEach shape.hosts (two_of site.durable.rosters) move.to

-- then all moves have theirs
aimed_targets : (shape : SiteShape) (site : OpenSite) (partition : ℕ) (change : PartState → PartState) → KeepsOpen shape site → IsAimed shape site partition change → AreTargets shape site.durable (changed_at site.memory.parts partition change)
aimed_targets shape site partition change keeps aimed other part move e f = ⊎_elim
    (λ here.
    let was = item_changed site.memory.parts partition change part (subst (λ (p : ℕ). slice_get (changed_at site.memory.parts partition change) p ≡ Some part) here e) in
    aimed was.0 move was.1 (ap (λ (p : PartState). p.move) (sym was.2) ∙ f))
    (λ ne. keeps.cluster.targets other part move (sym (others_stay site.memory.parts partition other change ne) ∙ e) f)
    (cases_eq other partition)

-- it goes on with such a state
part_open : (shape : SiteShape) (site : OpenSite) (partition : ℕ) (change : PartState → PartState) (after : Durable) → KeepsOpen shape site → IsAimed shape site partition change → KeepsHere shape site after → GoesOpen shape (open_with site (with_part site.memory partition change) after)
part_open shape site partition change after keeps aimed is = goes_open shape site.memory.parts site (with_part site.memory partition change) after is.0 (here_joined shape site after keeps is) keeps.known
    (changed_length site.memory.parts partition change ∙ keeps.parts)
    keeps.trails
    (subst (λ r. AreTargets shape (record { rosters = r; sights = after.sights; standings = after.standings }) (changed_at site.memory.parts partition change)) (sym is.1) (aimed_targets shape site partition change keeps aimed))

-- without a move
still_aimed : (shape : SiteShape) (site : OpenSite) (partition : ℕ) → IsAimed shape site partition (with_move None)
still_aimed shape site partition one move e f = absurd cc

-- with the move that it has
same_aimed : (shape : SiteShape) (site : OpenSite) (partition : ℕ) → KeepsOpen shape site → IsAimed shape site partition (with_waits None)
same_aimed shape site partition keeps one move e f = keeps.cluster.targets partition one move e f

-- with one to the same host
on_aimed : (shape : SiteShape) (site : OpenSite) (part : OpenPart) (move more : MoveState) → KeepsOpen shape site → slice_get site.memory.parts part.partition ≡ Some part.state → part.state.move ≡ Some move → more.to ≡ move.to
    → IsAimed shape site part.partition (with_move (Some more))
on_aimed shape site part move more keeps at moves same one next e f = subst (λ (h : ℕ). IsInEach shape.hosts (two_of site.durable.rosters) h) (sym same ∙ ap (λ (m : MoveState). m.to) (some_is more next f))
    (keeps.cluster.targets part.partition part.state move at moves)

-- ---- refusals

-- a refusal keeps the cluster
refused_keeps : (shape : SiteShape) (site : OpenSite) (refusal : SiteRefusal) → KeepsOpen shape site → KeepsAsOpen shape site (refused_at site refusal)
refused_keeps shape site refusal keeps = record { holds = here_now shape site keeps; done_so = λ after is. (site, refl, keeps); failed_so = λ after is. (site, refl, keeps) }

-- so does a plan that is refused or keeps it
or_keeps : (shape : SiteShape) (site : OpenSite) (refusal : Option SiteRefusal) (plan : Plan) → KeepsOpen shape site → plan.durable ≡ site.durable → (refusal ≡ None → KeepsAsOpen shape site plan) → KeepsAsOpen shape site (refused_or refusal (goes_on (opened site)) plan)
or_keeps shape site None plan keeps same then_ = then_ refl
or_keeps shape site (Some refusal) plan keeps same then_ = record {
  holds = subst (λ (d : Durable). KeepsHere shape site d) (sym same) (here_now shape site keeps);
  done_so = λ after is. (site, refl, keeps);
  failed_so = λ after is. (site, refl, keeps);
}

-- where none of two is refused the first is not
none_first : (one other : Option SiteRefusal) → (one or_first other) ≡ None → one ≡ None
none_first None other e = refl
none_first (Some refusal) other e = absurd cc

-- where it is not refused the test holds
none_if : (b : Bool) (refusal : SiteRefusal) → refuses_if (not b) refusal ≡ None → b ≡ true
none_if true refusal e = refl
none_if false refusal e = absurd cc

-- ---- the plans on a partition

-- it is one of the open cluster
abbrev IsPartOf : OpenSite → OpenPart → Type 0
IsPartOf site part = (slice_get site.durable.standings part.partition ≡ Some part.standing) × (slice_get site.memory.parts part.partition ≡ Some part.state)

-- a request keeps the cluster
asked_keeps : (setting : Setting) (site : OpenSite) (part : OpenPart) (request : Request) (mutation : Option Mutation) → KeepsOpen setting.shape site → IsPartOf site part → KeepsAsOpen setting.shape site (asked_plan setting site part request mutation)
asked_keeps setting site part request None keeps at = or_keeps setting.shape site _ _ keeps refl
    (λ none. record {
      holds = here_now setting.shape site keeps;
      done_so = λ after is. entered_open setting.shape site part.partition site.durable keeps (here_now setting.shape site keeps);
      failed_so = λ after is. entered_open setting.shape site part.partition site.durable keeps (here_now setting.shape site keeps);
    })
asked_keeps setting site part request (Some mutation) keeps at = or_keeps setting.shape site _ _ keeps refl
    (λ none. record {
      holds = commit_keeps setting site part (change_of mutation) (here_now setting.shape site keeps) at.0;
      done_so = λ after is. entered_open setting.shape site part.partition after keeps is;
      failed_so = λ after is. as_open setting.shape site after keeps is;
    })

-- a renewal does
renew_keeps : (setting : Setting) (site : OpenSite) (part : OpenPart) → KeepsOpen setting.shape site → IsPartOf site part → KeepsAsOpen setting.shape site (renew_plan setting site part)
renew_keeps setting site part keeps at = or_keeps setting.shape site _ _ keeps refl
    (λ none. record {
      holds = renewal_keeps setting site part (here_now setting.shape site keeps) at.0;
      done_so = λ after is. as_open setting.shape site after keeps is;
      failed_so = λ after is. as_open setting.shape site after keeps is;
    })

-- the number of a host of the site is its own
named_number : (hosts : List Host) (host : Host) → Contains hosts host → slice_get hosts (number_of hosts host) ≡ Some host
named_number [] host is = absurd (contains_none host is)
named_number (first ∷ hosts) host is = go (same first host) refl (λ there. named_number hosts host there)
  where
    go : (b : Bool) → same first host ≡ b → (Contains hosts host → slice_get hosts (number_of hosts host) ≡ Some host) → slice_get (first ∷ hosts) (if b then 0 else suc (number_of hosts host)) ≡ Some host
    go true e later = ap (λ (h : Host). Some h) ((bytes_decides first host).0 e)
    go false e later = ⊎_elim (λ here. absurd (let clash : false ≡ true = sym e ∙ (bytes_decides first host).1 (sym here) in cc)) later (contains_cases first hosts host is)

-- the last finished roster is one of them all
last_listed : (writing : Option Roster) (finished : List Roster) (last : Roster) → first_listed finished ≡ Some last → Contains (listed_with writing finished) last
last_listed writing [] last e = absurd cc
last_listed None (first ∷ older) last e = contains_same first older last (sym (some_is first last e))
last_listed (Some new) (first ∷ older) last e = contains_later new (first ∷ older) last (contains_same first older last (sym (some_is first last e)))

-- a member's number is that of a host of each roster that may pass
member_aimed : (shape : SiteShape) (site : OpenSite) (host : Host) → KeepsOpen shape site → is_member site.durable.rosters host ≡ true → IsInEach shape.hosts (two_of site.durable.rosters) (number_of shape.hosts host)
member_aimed shape site host keeps e =
    let rosters = site.durable.rosters in
    let kept = keeps.cluster.rosters in
    let last = keeps.cluster.made.0 in
    let made = keeps.cluster.made.1 in
    let passing : Contains (two_of rosters) last = subst (λ (o : Option Roster). Contains (some_of o ++ some_of rosters.writing) last) (sym made) (contains_first last (some_of rosters.writing)) in
    let in_last : Contains last.hosts host = member_in_each rosters host kept.rosters.successive e last passing in
    let in_site : Contains shape.hosts host = (kept.of_site last (last_listed rosters.writing rosters.finished last made)).hosts host in_last in
    member_has_number shape rosters (number_of shape.hosts host) host kept.rosters.successive (named_number shape.hosts host in_site) e

-- so does each step of a move: its begin
begin_keeps : (setting : Setting) (site : OpenSite) (part : OpenPart) (host : Host) → KeepsOpen setting.shape site → IsPartOf site part → KeepsAsOpen setting.shape site (begin_plan setting site part host)
begin_keeps setting site part host keeps at = or_keeps setting.shape site _ _ keeps refl
    (λ none.
    let aimed = member_aimed setting.shape site host keeps (none_if (is_member site.durable.rosters host) _ (none_first _ _ (none_first _ _ (none_first _ _ none)))) in
    record {
      holds = quiet_keeps setting.shape site (lane_disk part.partition (number_of setting.shape.hosts host)) site.durable (here_now setting.shape site keeps);
      done_so = λ after is. part_open setting.shape site part.partition (with_begun setting part (number_of setting.shape.hosts host)) after keeps
          (λ one move e f. subst (λ (h : ℕ). IsInEach setting.shape.hosts (two_of site.durable.rosters) h) (ap (λ (m : MoveState). m.to) (some_is _ move f)) aimed)
          is;
      failed_so = λ after is. as_open setting.shape site after keeps is;
    })

-- one record more
copy_keeps : (setting : Setting) (site : OpenSite) (part : OpenPart) (move : MoveState) → KeepsOpen setting.shape site → IsPartOf site part → part.state.move ≡ Some move → KeepsAsOpen setting.shape site (copy_plan site part move)
copy_keeps setting site part move keeps at moves = record {
  holds = go move.whole;
  done_so = λ after is. part_open setting.shape site part.partition (with_move (Some (copied_more move))) after keeps (on_aimed setting.shape site part move (copied_more move) keeps at.1 moves refl) is;
  failed_so = λ after is. part_open setting.shape site part.partition (with_move None) after keeps (still_aimed setting.shape site part.partition) is;
}
  where
    go : (whole : Bool) → HoldsThroughout (KeepsHere setting.shape site) (if whole then [] else quiet (lane_disk part.partition move.to) ∷ []) site.durable
    go true = here_now setting.shape site keeps
    go false = quiet_keeps setting.shape site (lane_disk part.partition move.to) site.durable (here_now setting.shape site keeps)

-- the sync
settle_keeps : (setting : Setting) (site : OpenSite) (part : OpenPart) (move : MoveState) → KeepsOpen setting.shape site → IsPartOf site part → part.state.move ≡ Some move → KeepsAsOpen setting.shape site (settle_plan site part move)
settle_keeps setting site part move keeps at moves = or_keeps setting.shape site _ _ keeps refl
    (λ none. record {
      holds = quiet_keeps setting.shape site (lane_disk part.partition move.to) site.durable (here_now setting.shape site keeps);
      done_so = λ after is. part_open setting.shape site part.partition (with_move (Some (synced move))) after keeps (on_aimed setting.shape site part move (synced move) keeps at.1 moves refl) is;
      failed_so = λ after is. part_open setting.shape site part.partition (with_move None) after keeps (still_aimed setting.shape site part.partition) is;
    })

-- the seal
moved_keeps : (setting : Setting) (site : OpenSite) (part : OpenPart) (move : MoveState) → KeepsOpen setting.shape site → IsPartOf site part → part.state.move ≡ Some move → KeepsAsOpen setting.shape site (seal_plan setting site part move)
moved_keeps setting site part move keeps at moves = or_keeps setting.shape site _ _ keeps refl
    (λ none. record {
      holds = seal_keeps setting.shape site site.durable part.partition part.standing (moved_store setting site part move) (here_now setting.shape site keeps) at.0 refl (keeps.cluster.targets part.partition part.state move at.1 moves);
      done_so = λ after is. part_open setting.shape site part.partition (λ old. with_waits (Some part.standing.store.host) (with_move None old)) after keeps (λ one next e f. absurd cc) is;
      failed_so = λ after is. part_open setting.shape site part.partition (with_move None) after keeps (still_aimed setting.shape site part.partition) is;
    })

-- and its end without one
give_up_keeps : (shape : SiteShape) (site : OpenSite) (part : OpenPart) → KeepsOpen shape site → KeepsAsOpen shape site (give_up_plan site part)
give_up_keeps shape site part keeps = record {
  holds = here_now shape site keeps;
  done_so = λ after is. part_open shape site part.partition (with_move None) site.durable keeps (still_aimed shape site part.partition) (here_now shape site keeps);
  failed_so = λ after is. part_open shape site part.partition (with_move None) site.durable keeps (still_aimed shape site part.partition) (here_now shape site keeps);
}

-- a step is refused where there is no move
moving_keeps : (shape : SiteShape) (site : OpenSite) (move : Option MoveState) (plan : MoveState → Plan) → KeepsOpen shape site → ((one : MoveState) → move ≡ Some one → KeepsAsOpen shape site (plan one)) → KeepsAsOpen shape site (moving_plan site move plan)
moving_keeps shape site None plan keeps each = refused_keeps shape site not_moving keeps
moving_keeps shape site (Some move) plan keeps each = each move refl

-- the erasure of an old file keeps the cluster
drop_keeps : (shape : SiteShape) (site : OpenSite) (part : OpenPart) (waits : Option ℕ) → KeepsOpen shape site → KeepsAsOpen shape site (drop_plan site part waits)
drop_keeps shape site part None keeps = refused_keeps shape site not_moving keeps
drop_keeps shape site part (Some host) keeps = record {
  holds = quiet_keeps shape site (lane_disk part.partition host) site.durable (here_now shape site keeps);
  done_so = λ after is. part_open shape site part.partition (with_waits None) after keeps (same_aimed shape site part.partition keeps) is;
  failed_so = λ after is. as_open shape site after keeps is;
}

-- a plan on a partition by its number
on_keeps : (shape : SiteShape) (site : OpenSite) (partition : ℕ) (plan : OpenPart → Plan) → KeepsOpen shape site → ((part : OpenPart) → IsPartOf site part → KeepsAsOpen shape site (plan part)) → KeepsAsOpen shape site (plan_on site partition (part_at site partition) plan)
on_keeps shape site partition plan keeps each = go (slice_get site.durable.standings partition) (slice_get site.memory.parts partition) (slice_get site.memory.trails partition) refl refl
  where
    go : (standing : Option LaneStanding) (state : Option PartState) (trail : Option ℕ) → slice_get site.durable.standings partition ≡ standing → slice_get site.memory.parts partition ≡ state
        → KeepsAsOpen shape site (plan_on site partition (part_with partition standing state trail) plan)
    go None state trail e f = refused_keeps shape site (no_partition partition) keeps
    go (Some standing) None trail e f = refused_keeps shape site (no_partition partition) keeps
    go (Some standing) (Some state) None e f = refused_keeps shape site (no_partition partition) keeps
    go (Some standing) (Some state) (Some trail) e f = each (record { partition = partition; standing = standing; state = state; trail = trail }) (e, f)

-- ---- what is asked

-- a part of a request
pub call_keeps : (setting : Setting) (site : OpenSite) (part : ℕ × Request) → KeepsOpen setting.shape site → KeepsAsOpen setting.shape site (call_plan setting site part)
call_keeps setting site part keeps = on_keeps setting.shape site part.0 _ keeps (λ one at. asked_keeps setting site one part.1 (mutation_of part.1) keeps at)

-- the one plan of an event
abbrev pub KeepsIf : SiteShape → OpenSite → Option Plan → Type 0
KeepsIf shape site plan = (one : Plan) → plan ≡ Some one → KeepsAsOpen shape site one

-- the plan is this one
this_one : (shape : SiteShape) (site : OpenSite) (plan : Plan) → KeepsAsOpen shape site plan → KeepsIf shape site (Some plan)
this_one shape site plan keeps one e = subst (λ (p : Plan). KeepsAsOpen shape site p) (some_is plan one e) keeps

-- each event keeps the cluster
pub event_keeps : (setting : Setting) (site : OpenSite) (event : SiteEvent) → KeepsOpen setting.shape site → KeepsIf setting.shape site (event_plan setting site event)
event_keeps setting site (call request) keeps = λ one e. absurd cc
event_keeps setting site (renew partition) keeps = this_one _ _ _ (on_keeps setting.shape site partition _ keeps (λ part at. renew_keeps setting site part keeps at))
event_keeps setting site (begin partition host) keeps = this_one _ _ _ (on_keeps setting.shape site partition _ keeps (λ part at. begin_keeps setting site part host keeps at))
event_keeps setting site (copy partition) keeps = this_one _ _ _ (on_keeps setting.shape site partition _ keeps (λ part at. moving_keeps setting.shape site part.state.move _ keeps (λ move e. copy_keeps setting site part move keeps at e)))
event_keeps setting site (settle partition) keeps = this_one _ _ _ (on_keeps setting.shape site partition _ keeps (λ part at. moving_keeps setting.shape site part.state.move _ keeps (λ move e. settle_keeps setting site part move keeps at e)))
event_keeps setting site (seal partition) keeps = this_one _ _ _ (on_keeps setting.shape site partition _ keeps (λ part at. moving_keeps setting.shape site part.state.move _ keeps (λ move e. moved_keeps setting site part move keeps at e)))
event_keeps setting site (drop_file partition) keeps = this_one _ _ _ (on_keeps setting.shape site partition _ keeps (λ part at. drop_keeps setting.shape site part part.state.waits keeps))
event_keeps setting site (give_up partition) keeps = this_one _ _ _ (on_keeps setting.shape site partition _ keeps (λ part at. moving_keeps setting.shape site part.state.move _ keeps (λ move e. give_up_keeps setting.shape site part keeps)))
