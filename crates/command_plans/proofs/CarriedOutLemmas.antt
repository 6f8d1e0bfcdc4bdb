-- How a plan is carried out: in one way where no call fails.
use Rattle.std.proofs.Common.{◌≡◌, ◌⊎◌, inl, inr, ⊎_elim, List, [], ◌∷◌, ◌++◌, refl, sym, ◌∙◌, ap, subst, arith}
use Rattle.fault_count.specs.Rose.{Rose}
use Rattle.roster_form.proofs.ContainsLemmas.{contains_none}
use Rattle.cluster_model.specs.Site.{SiteShape, DiskOf}
use Rattle.cluster_model.specs.Agreement.{Durable}
use Rattle.cluster_model.specs.Acts.{Act, all_done}
use Rattle.command_plans.specs.Asked.{SiteAnswer, refused, fault_of}
use Rattle.command_plans.specs.Stage.{RunStage, RunState, Goes, goes_on, GoesTo}
use Rattle.command_plans.specs.Plan.{Plan, name_of, host_of_disk}
use Rattle.command_plans.specs.Steps.{NoneErased, IsKeptAfter, FollowsPlan, NoneRose}

none_of_none : (durable : Durable) → NoneErased [] durable
none_of_none durable partition standing store at is may = contains_none _ may.1

kept_exactly : (acts : List Act) (computed kept : Durable) → NoneErased acts computed → IsKeptAfter acts computed kept → kept ≡ computed
kept_exactly acts computed kept none left = ⊎_elim (λ it. it) (λ some. absurd (some.0 none)) left

no_acts : (before after : List Act) (act : Act) → [] ≡ before ++ act ∷ after → ⊥
no_acts [] after act e = absurd cc
no_acts (first ∷ before) after act e = absurd cc

pub refused_alone : (shape : SiteShape) (plan : Plan) (old new : RunState) (answer : SiteAnswer) → plan.acts ≡ [] → FollowsPlan shape plan old answer new → (answer ≡ plan.answer) × GoesTo shape (plan.done_goes plan.durable) new.stage
refused_alone shape plan old new answer none carried = ⊎_elim
    (λ whole.
    let same : whole.kept ≡ all_done plan.acts plan.durable = kept_exactly plan.acts (all_done plan.acts plan.durable) whole.kept (subst (λ (l : List Act). NoneErased l (all_done plan.acts plan.durable)) (sym none) (none_of_none (all_done plan.acts plan.durable))) whole.left in
    let still : whole.kept ≡ plan.durable = same ∙ ap (λ (l : List Act). all_done l plan.durable) none in
    (whole.answer_is, subst (λ (d : Durable). GoesTo shape (plan.done_goes d) new.stage) still whole.goes))
    (λ failed. absurd (no_acts failed.before failed.after failed.act (sym none ∙ failed.whole)))
    carried.ends

pub answer_cases : (shape : SiteShape) (plan : Plan) (old new : RunState) (answer : SiteAnswer) → FollowsPlan shape plan old answer new
    → (answer ≡ plan.answer) ⊎ ((disk : DiskOf) × Rose (old.faults disk) (new.faults disk) × (answer ≡ refused (fault_of (name_of shape (host_of_disk disk)))))
answer_cases shape plan old new answer carried = ⊎_elim (λ whole. inl whole.answer_is) (λ failed. inr (failed.disk, failed.rose, failed.answer_is)) carried.ends

pub answered_once : (shape : SiteShape) (plan : Plan) (old new : RunState) (answer : SiteAnswer) → NoneRose old.faults new.faults → FollowsPlan shape plan old answer new → answer ≡ plan.answer
answered_once shape plan old new answer none carried = ⊎_elim (λ it. it) (λ fault. absurd (none fault.0 fault.1)) (answer_cases shape plan old new answer carried)

goes_once : (shape : SiteShape) (plan : Plan) (old new : RunState) (answer : SiteAnswer) → NoneRose old.faults new.faults → NoneErased plan.acts (all_done plan.acts plan.durable) → FollowsPlan shape plan old answer new
    → GoesTo shape (plan.done_goes (all_done plan.acts plan.durable)) new.stage
goes_once shape plan old new answer none erased carried = ⊎_elim
    (λ whole. subst (λ (d : Durable). GoesTo shape (plan.done_goes d) new.stage) (kept_exactly plan.acts (all_done plan.acts plan.durable) whole.kept erased whole.left) whole.goes)
    (λ failed. absurd (none failed.disk failed.rose))
    carried.ends

pub carried_once : (shape : SiteShape) (plan : Plan) (old one other : RunState) (first second : SiteAnswer) (stage : RunStage) → NoneRose old.faults one.faults → NoneRose old.faults other.faults
    → NoneErased plan.acts (all_done plan.acts plan.durable) → plan.done_goes (all_done plan.acts plan.durable) ≡ goes_on stage → FollowsPlan shape plan old first one → FollowsPlan shape plan old second other
    → (first ≡ second) × (one.stage ≡ stage) × (other.stage ≡ stage)
carried_once shape plan old one other first second stage none no_more erased goes left right = (
  answered_once shape plan old one first none left ∙ sym (answered_once shape plan old other second no_more right),
  subst (λ (g : Goes). GoesTo shape g one.stage) goes (goes_once shape plan old one first none erased left),
  subst (λ (g : Goes). GoesTo shape g other.stage) goes (goes_once shape plan old other second no_more erased right),
)

pub carried_somehow : (shape : SiteShape) (plan : Plan) (old : RunState) (stage : RunStage) → plan.done_goes (all_done plan.acts plan.durable) ≡ goes_on stage → FollowsPlan shape plan old plan.answer (record { stage = stage; faults = old.faults })
carried_somehow shape plan old stage goes = record {
  later = λ disk. omega arith;
  ends = inl (record {
    kept = all_done plan.acts plan.durable;
    left = inl refl;
    answer_is = refl;
    goes = subst (λ (g : Goes). GoesTo shape g stage) (sym goes) refl;
  });
}
