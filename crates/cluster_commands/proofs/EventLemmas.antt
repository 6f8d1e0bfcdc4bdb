-- Events are carried out, or are broken off.
use Rattle.std.proofs.Common.{◌≡◌, ◌≢◌, ◌⊎◌, inl, inr, ⊎_elim, ℕ, ◌+◌, arith, List, [], ◌∷◌, ◌++◌, length, refl, sym, ◌∙◌, ap, subst, append_assoc, Bool, false, true, Option, Some, None, Result, Ok, Err, IfOk, OnErr}
use Rattle.fault_count.specs.Rose.{Rose}
use Rattle.cache_key.specs.declared.request.Mutation.{Mutation}
use Rattle.cache_key.specs.declared.request.Reply.{Reply}
use Rattle.cache_key.specs.declared.request.Mutation.TheVariants as mutations
use Rattle.cache_key.specs.declared.request.Reply.TheVariants.{Done}
use Rattle.cache_key.specs.declared.request.Request.{Request}
use Rattle.cache_key.specs.declared.request.Request.TheVariants.{Get, Put, Remove, Ensure, Truncate, Destroy, PutAll, Size}
use Rattle.cache_model.specs.Parts.{HasPart, joined_reply}
use Rattle.cache_model.proofs.PartsLemmas.{one_part, no_part, joined_alone}
use Rattle.cache_model.specs.PlainList.{HasPairs}
use Rattle.cache_model.specs.Reply.{mutation_of, reply_after}
use Rattle.disk_trait.specs.View.{View}
use Rattle.disk_trait.specs.Moments.{Onward}
use Rattle.disk_trait.proofs.Runs.{onward_none}
use Rattle.script_lines.specs.declared.command.Event.{Event}
use Rattle.script_lines.specs.declared.command.Event.TheVariants.{Call}
use Rattle.script_lines.specs.declared.answer.Answer.TheVariants as answers
use Rattle.script_lines.specs.declared.answer.Outcome.{Outcome}
use Rattle.script_lines.specs.declared.answer.Outcome.TheVariants.{Replied, Renewed, Refused}
use Rattle.script_lines.specs.declared.answer.Refusal.{Refusal}
use Rattle.cluster_commands.specs.Breaks.{EventLeaves, CallBreaks, PartBreaks, PartsBreak, EventBreaks, NextBreaks, EventsBreak}
use Rattle.cluster_commands.specs.Commands.{IsStepped}
use Rattle.cluster_commands.specs.Events.{AskedComesTo, CallChange, PartStep, GoesOn, PartsChange, EventChange, BothOpen, EventStep, EventRun}
use Rattle.cluster_commands.specs.OnDisk.{disks_in, lane_view, IsClusterOf, state_of, StateSteps}
use Rattle.cluster_commands.specs.State.{OpenCluster, Stage, closed, opened, State, Counts}
use Rattle.cluster_commands.specs.declared.cluster.Opened.{Opened}

-- no restart came between
pub counts_on : (before after : OpenCluster) (v w : View) (tells : Bool) → Onward v w → Counts false (state_of before v tells) (state_of after w tells)
counts_on before after v w tells on = record { faults = on.faults; restarts = on.restarts; tells = refl }

-- ---- the one part

some_is : (found mutation : Mutation) → Some found ≡ Some mutation → found ≡ mutation
some_is found mutation is = cc

-- what is replied is a reply of the model
replied_as : (asked : Option Mutation) (old new : OpenCluster) (request : Request) (reply : Reply) (fault : Type 0) → AskedComesTo asked old request (Replied reply) new fault → reply ≡ reply_after old.changes request
replied_as None old new request reply fault is = is.1
replied_as (Some mutation) old new request reply fault is = is.2.1

joined_as : (old new : OpenCluster) (request : Request) (reply : Reply) (fault : Type 0) → CallChange old request (Replied reply) new fault → reply ≡ joined_reply request (reply ∷ [])
joined_as old new request reply fault is =
    subst (λ (r : Reply). r ≡ joined_reply request (r ∷ [])) (sym (replied_as (mutation_of request) old new request reply fault is)) (sym (joined_alone old.changes request))

-- a call doesn't come to a renewal
not_renewed : (asked : Option Mutation) (old new : OpenCluster) (request : Request) (partition : ℕ) (id : _) (fault : Type 0) → AskedComesTo asked old request (Renewed partition id) new fault → ⊥
not_renewed None old new request partition id fault is = is
not_renewed (Some mutation) old new request partition id fault is = is.2

alone_goes_on : (old new : OpenCluster) (request : Request) (outcome : Outcome) (fault : Type 0) → CallChange old request outcome new fault
    → GoesOn outcome new outcome new (λ reply. PartsChange new request [] ([] ++ reply ∷ []) outcome new fault)
alone_goes_on old new request (Replied reply) fault is = (ap (λ (r : Reply). Replied r) (joined_as old new request reply fault is), refl)
alone_goes_on old new request (Refused refusal) fault is = (refl, refl)
alone_goes_on old new request (Renewed partition id) fault is = not_renewed (mutation_of request) old new request partition id fault is

-- the part is the whole request
whole_change : (old new : OpenCluster) (request : Request) (outcome : Outcome) (fault : Type 0) → HasPart request → CallChange old request outcome new fault → EventChange old (Call request) outcome new fault
whole_change old new request outcome fault some is =
    subst (λ (parts : List (ℕ × Request)). PartsChange old request parts [] outcome new fault) (sym (one_part request some)) (outcome, new, is, alone_goes_on old new request outcome fault is)

whole_leaves : (old new : OpenCluster) (request : Request) (fault : Type 0) → HasPart request → CallBreaks request old new → EventLeaves old (Call request) new fault
whole_leaves old new request fault some is = subst (λ (parts : List (ℕ × Request)). PartsBreak old parts new fault) (sym (one_part request some)) (inl is)

-- the same between stages
both_as : (old new : Stage) (P Q : OpenCluster → OpenCluster → Type 0) → ((a b : OpenCluster) → P a b → Q a b) → BothOpen old new P → BothOpen old new Q
both_as (opened a) (opened b) P Q goes is = goes a b is
both_as (opened a) (closed files) P Q goes is = is
both_as (closed files) new P Q goes is = is

pub whole_step : (old new : State) (request : Request) (outcome : Outcome) → HasPart request → PartStep old request outcome new → EventStep old (Call request) outcome new
whole_step old new request outcome some is = (
  is.0,
  both_as old.stage new.stage (λ before after. CallChange before request outcome after (Rose old.faults new.faults)) (λ before after. EventChange before (Call request) outcome after (Rose old.faults new.faults))
      (λ a b change. whole_change a b request outcome (Rose old.faults new.faults) some change) is.1,
)

pub whole_breaks : (old new : State) (request : Request) → HasPart request → PartBreaks old request new → EventBreaks old (Call request) new
whole_breaks old new request some is = (
  is.0,
  both_as old.stage new.stage (CallBreaks request) (λ before after. EventLeaves before (Call request) after (Rose old.faults new.faults))
      (λ a b breaks. whole_leaves a b request (Rose old.faults new.faults) some breaks) is.1,
)

-- no partition has a part
pub nothing_asked : {D : Type 0} (view : D → View) (old : Opened D) (request : Request) (cache : List ℕ) → request ≡ PutAll cache []
    → StateSteps view old old (λ before after. EventStep before (Call request) (Replied Done) after)
nothing_asked view old request cache is = record {
  steps = λ tells before has. (
    before,
    has,
    subst (λ (r : Request). EventStep (state_of before (lane_view view (disks_in old)) tells) (Call r) (Replied Done) (state_of before (lane_view view (disks_in old)) tells)) (sym is) (
      counts_on before before (lane_view view (disks_in old)) (lane_view view (disks_in old)) tells (onward_none _),
      subst (λ (parts : List (ℕ × Request)). PartsChange before (PutAll cache []) parts [] (Replied Done) before (Rose (lane_view view (disks_in old)).faults (lane_view view (disks_in old)).faults)) (sym (no_part cache 1)) (refl, refl),
    ),
  );
}

-- a batch of a part has pairs
pub has_pairs : (request : Request) (mutation : Mutation) → HasPart request → mutation_of request ≡ Some mutation → HasPairs mutation
has_pairs (Get cache key) mutation some is = absurd cc
has_pairs (Put cache key value) mutation some is = subst HasPairs (some_is (mutations.Put cache key value) mutation is) tt
has_pairs (Remove cache key) mutation some is = subst HasPairs (some_is (mutations.Remove cache key) mutation is) tt
has_pairs (Ensure cache) mutation some is = subst HasPairs (some_is (mutations.Ensure cache) mutation is) tt
has_pairs (Truncate cache) mutation some is = subst HasPairs (some_is (mutations.Truncate cache) mutation is) tt
has_pairs (Destroy cache) mutation some is = subst HasPairs (some_is (mutations.Destroy cache) mutation is) tt
has_pairs (PutAll cache []) mutation some is = absurd (some cache refl)
has_pairs (PutAll cache (pair ∷ pairs)) mutation some is = subst HasPairs (some_is (mutations.Batch cache (pair ∷ pairs)) mutation is) (omega arith)
has_pairs (Size cache) mutation some is = absurd cc

-- what an answer comes to, in other words
pub ok_still : {T E : Type 0} (result : Result T E) (P Q : T → Type 0) → ((value : T) → P value → Q value) → IfOk result P → IfOk result Q
ok_still (Ok value) P Q goes is = goes value is
ok_still (Err fault) P Q goes is = tt

pub err_still : {T E : Type 0} (result : Result T E) (P Q : Type 0) → (P → Q) → OnErr result P → OnErr result Q
err_still (Ok value) P Q goes is = tt
err_still (Err fault) P Q goes is = goes is

-- steps of the state, in other words
pub steps_as : {D : Type 0} (view : D → View) (old new : Opened D) (P Q : State → State → Type 0) → ((before after : State) → P before after → Q before after) → StateSteps view old new P → StateSteps view old new Q
steps_as view old new P Q goes is = record { steps = λ tells before has. let s = is.steps tells before has in (s.0, s.1, goes _ _ s.2) }

-- all events were carried out
pub stepped_all : {D : Type 0} (view : D → View) (old new : Opened D) (events given : List Event) (outcomes shown : List Outcome) → given ≡ events → shown ≡ outcomes
    → StateSteps view old new (λ before after. EventRun before given outcomes after) → StateSteps view old new (λ before after. IsStepped before events (answers.Stepped shown) after)
stepped_all view old new events given outcomes shown all told is = steps_as view old new (λ before after. EventRun before given outcomes after) (λ before after. IsStepped before events (answers.Stepped shown) after)
    (λ before after run. (outcomes, subst (λ (es : List Event). EventRun before es outcomes after) all run, ap (λ (os : List Outcome). answers.Stepped os) told)) is

pub broken_all : {D : Type 0} (view : D → View) (old new : Opened D) (events given : List Event) → given ≡ events
    → StateSteps view old new (λ before after. EventsBreak before given after) → StateSteps view old new (λ before after. EventsBreak before events after)
broken_all view old new events given all is = subst (λ (es : List Event). StateSteps view old new (λ before after. EventsBreak before es after)) all is

pub run_all : {D : Type 0} (view : D → View) (old new : Opened D) (events done : List Event) (outcomes : List Outcome) → events ≡ done
    → StateSteps view old new (λ before after. EventRun before done outcomes after) → StateSteps view old new (λ before after. EventRun before events outcomes after)
run_all view old new events done outcomes all is = subst (λ (es : List Event). StateSteps view old new (λ before after. EventRun before es outcomes after)) (sym all) is

-- ---- one after the other

pub on_err : {T E : Type 0} (result : Result T E) (P : Type 0) → P → OnErr result P
on_err (Ok value) P p = tt
on_err (Err fault) P p = p

pub event_run_more : (old : State) (events : List Event) (outcomes : List Outcome) (mid : State) (event : Event) (outcome : Outcome) (new : State)
    → EventRun old events outcomes mid → EventStep mid event outcome new → EventRun old (events ++ event ∷ []) (outcomes ++ outcome ∷ []) new
event_run_more old [] [] mid event outcome new run step = (new, subst (λ (m : State). EventStep m event outcome new) run step, refl)
event_run_more old (e ∷ es) (o ∷ os) mid event outcome new run step = (run.0, run.1, event_run_more run.0 es os mid event outcome new run.2 step)
event_run_more old [] (o ∷ os) mid event outcome new run step = absurd run
event_run_more old (e ∷ es) [] mid event outcome new run step = absurd run

-- the next event is broken off
pub breaks_in : (old mid new : State) (events done rest : List Event) (event : Event) (outcomes : List Outcome) → events ≡ done ++ event ∷ rest
    → EventRun old done outcomes mid → EventBreaks mid event new → EventsBreak old events new
breaks_in old mid new events done rest event outcomes whole run breaks =
    record { done = done; rest = event ∷ rest; outcomes = outcomes; mid = mid; whole = whole; run = run; then_ = inr breaks }

next_none : (state : State) (rest : List Event) → NextBreaks state rest state
next_none state [] = refl
next_none state (event ∷ rest) = inl refl

-- the events are broken off between two of them
pub breaks_between : (old new : State) (events done rest : List Event) (outcomes : List Outcome) → events ≡ done ++ rest → EventRun old done outcomes new → EventsBreak old events new
breaks_between old new events done rest outcomes whole run =
    record { done = done; rest = rest; outcomes = outcomes; mid = new; whole = whole; run = run; then_ = next_none new rest }

-- one event more is done
pub turn : (events done : List Event) (event : Event) (rest before : List Event) → events ≡ done ++ before → before ≡ event ∷ rest → events ≡ (done ++ event ∷ []) ++ rest
turn events done event rest before whole next = whole ∙ ap (λ (es : List Event). done ++ es) next ∙ sym (append_assoc done (event ∷ []) rest)

-- the states of a run go on
module _ {D : Type 0} (view : D → View) (old mid new : Opened D) where
  pub run_steps_more : (done : List Event) (outcomes : List Outcome) (event : Event) (outcome : Outcome) → StateSteps view old mid (λ before after. EventRun before done outcomes after)
      → StateSteps view mid new (λ before after. EventStep before event outcome after) → StateSteps view old new (λ before after. EventRun before (done ++ event ∷ []) (outcomes ++ outcome ∷ []) after)
  run_steps_more done outcomes event outcome run step = record {
    steps = λ tells before has. let r = run.steps tells before has in let s = step.steps tells r.0 r.1 in
        (s.0, s.1, event_run_more _ done outcomes _ event outcome _ r.2 s.2);
  }

  pub steps_break_in : (events done rest : List Event) (event : Event) (outcomes : List Outcome) → events ≡ done ++ event ∷ rest → StateSteps view old mid (λ before after. EventRun before done outcomes after)
      → StateSteps view mid new (λ before after. EventBreaks before event after) → StateSteps view old new (λ before after. EventsBreak before events after)
  steps_break_in events done rest event outcomes whole run breaks = record {
    steps = λ tells before has. let r = run.steps tells before has in let s = breaks.steps tells r.0 r.1 in
        (s.0, s.1, breaks_in _ _ _ events done rest event outcomes whole r.2 s.2);
  }

pub steps_break_between : {D : Type 0} (view : D → View) (old new : Opened D) (events done rest : List Event) (outcomes : List Outcome) → events ≡ done ++ rest
    → StateSteps view old new (λ before after. EventRun before done outcomes after) → StateSteps view old new (λ before after. EventsBreak before events after)
steps_break_between view old new events done rest outcomes whole run = steps_as view old new _ _ (λ before after is. breaks_between before after events done rest outcomes whole is) run
