-- What a command does to the code, the disk and the state.
use Rattle.std.proofs.Common.{◌≡◌, ◌⊎◌, inl, inr, ⊎_elim, ℕ, ◌≤◌, arith, List, [], ◌++◌, length, refl, sym, ◌∙◌, ap, subst, Bool, false, Option, Some, None}
use Rattle.std.specs.Prelude.{IsTrue, Contains}
use Rattle.fault_count.specs.Rose.{Rose}
use Rattle.fault_count.specs.OneMore.{IsOneMore}
use Rattle.cache_model.specs.Caches.{Caches}
use Rattle.cache_model.specs.Change.{Change}
use Rattle.cache_model.specs.Contents.{AreContentsAfter}
use Rattle.cache_model.proofs.ContentsLemmas.{SameContents-from_one}
use Rattle.disk_trait.specs.View.{View, Tells}
use Rattle.disk_trait.specs.Calls.{Fewer}
use Rattle.disk_trait.specs.Moments.{Onward, Later}
use Rattle.disk_trait.proofs.Runs.{later_joined, later_none, later_onward}
use Rattle.seal_gate.specs.Seal.{IsSettled}
use Rattle.script_lines.specs.declared.command.Command.{Command}
use Rattle.script_lines.specs.declared.command.Command.TheVariants.{Create, Recover, Stop, Dump, Steps}
use Rattle.script_lines.specs.declared.command.Event.{Event}
use Rattle.script_lines.specs.declared.answer.Answer.{Answer}
use Rattle.script_lines.specs.declared.answer.Answer.TheVariants as answered
use Rattle.script_lines.specs.declared.answer.Refusal.TheVariants as refusals
use Rattle.cluster_commands.specs.Breaks.{EventsBreak, CommandBreaks, not_done, half_made, half_stepped, IsCarriedOut, IsBrokenOff, Carries, BreaksOff}
use Rattle.cluster_commands.specs.Commands.{made_at, IsDump, IsStepped, OpenStep, ClosedStep, StageStep, restarts_at}
use Rattle.cluster_commands.specs.OnDisk.{IsClosed, lane_of, lane_view, disks_in, IsClusterOf, state_of, IsStage, StateSteps, IsReady, FilesHold, IsDiskRestarted, IsInState}
use Rattle.cluster_commands.specs.State.{OpenCluster, KnownFiles, unknown, store_in, known_of, Stage, closed, opened, files_at, State, begun, RestartCount, Counts}
use Rattle.cluster_commands.specs.declared.cluster.Cluster.{Cluster}
use Rattle.cluster_commands.specs.declared.cluster.Cluster.TheVariants.{Closed, Open}
use Rattle.cluster_commands.specs.declared.cluster.Opened.{Opened}
use Rattle.cluster_commands.proofs.FilesLemmas.{files_fewer, contents_of_same}

-- ---- while no cluster is open

-- what is known of the files
pub known_then : {D : Type 0} (cluster : Cluster D) (stage : Stage) → IsClosed cluster → IsStage cluster stage → (files : KnownFiles) × (stage ≡ closed files)
known_then (Closed disks) (closed files) shut is = (files, refl)
known_then (Closed disks) (opened seen) shut is = absurd is
known_then (Open open_) stage shut is = absurd shut

closed_stage : {D : Type 0} (cluster : Cluster D) (files : KnownFiles) → IsClosed cluster → IsStage cluster (closed files)
closed_stage (Closed disks) files shut = tt
closed_stage (Open open_) files shut = absurd shut

pub ready_closed : {D : Type 0} (view : D → View) (cluster : Cluster D) → IsClosed cluster → length (lane_of cluster) ≡ 1 → IsSettled (lane_view view (lane_of cluster)) 0 × IsSettled (lane_view view (lane_of cluster)) 1 → IsReady view cluster
ready_closed view (Closed disks) shut one settled = (one, settled.0, settled.1)
ready_closed view (Open open_) shut one settled = absurd shut

-- with no cluster, on a disk of which this is known
at_closed : {D : Type 0} (view : D → View) (cluster : Cluster D) (files : KnownFiles) (tells : Bool) → IsClosed cluster → (IsTrue tells → Tells (lane_view view (lane_of cluster))) → FilesHold files (lane_view view (lane_of cluster))
    → IsInState view cluster (begun tells files (lane_view view (lane_of cluster)).faults (lane_view view (lane_of cluster)).restarts)
at_closed view cluster files tells shut does hold = record { faults = refl; restarts = refl; tells = does; stage = closed_stage cluster files shut; files = hold }

-- with a cluster
at_open : {D : Type 0} (view : D → View) (open_ : Opened D) (seen : OpenCluster) (tells : Bool) → IsClusterOf open_ seen → (IsTrue tells → Tells (lane_view view (disks_in open_))) → FilesHold (store_in (known_of seen)) (lane_view view (disks_in open_))
    → IsInState view (Open open_) (state_of seen (lane_view view (disks_in open_)) tells)
at_open view open_ seen tells is does hold = record { faults = refl; restarts = refl; tells = does; stage = is; files = hold }

-- no restart came between
same_count : (v w : View) → Onward v w → RestartCount false v.restarts w.restarts
same_count v w on = on.restarts

-- the counts go on as those of the disk
module _ {D : Type 0} (view : D → View) (cluster : Cluster D) (w : View) (state : State) (at : IsInState view cluster state) where
  counts : (restarted : Bool) (stage : Stage) → (lane_view view (lane_of cluster)).faults ≤ w.faults → RestartCount restarted (lane_view view (lane_of cluster)).restarts w.restarts
      → Counts restarted state (record { stage = stage; faults = w.faults; restarts = w.restarts; tells = state.tells })
  counts restarted stage more count = record {
    faults = (let same = at.faults in omega (arith, same, more));
    restarts = subst (λ (n : ℕ). RestartCount restarted n w.restarts) (sym at.restarts) count;
    tells = refl;
  }

  pub rose : Rose (lane_view view (lane_of cluster)).faults w.faults → Rose state.faults w.faults
  rose is = subst (λ (n : ℕ). Rose n w.faults) (sym at.faults) is

module _ {D : Type 0} (hosts : List (List ℕ)) (view : D → View) (old new : Cluster D) (state : State) (at : IsInState view old state) (was : IsClosed old) (on : Later (lane_view view (lane_of old)) (lane_view view (lane_of new))) where
  abbrev v : View
  v = lane_view view (lane_of old)

  abbrev w : View
  w = lane_view view (lane_of new)

  tells_on : IsTrue state.tells → Tells w
  tells_on = λ is. on.tells (at.tells is)

  abbrev pub known : KnownFiles
  known = (known_then old state.stage was at.stage).0

  closed_with : state.stage ≡ closed known
  closed_with = (known_then old state.stage was at.stage).1

  pub were_known : FilesHold known v
  were_known = subst (λ (s : Stage). FilesHold (files_at s) v) closed_with at.files

  -- the command leaves the cluster closed, with this known of the files
  pub carried : (command : Command) (answer : Answer) (files : KnownFiles) → IsClosed new → RestartCount (restarts_at answer) v.restarts w.restarts → FilesHold files w
      → ClosedStep hosts state known command answer (begun state.tells files w.faults w.restarts) → IsCarriedOut view hosts state command answer new
  carried command answer files shut count hold step = record {
    new = begun state.tells files w.faults w.restarts;
    at = at_closed view new files state.tells shut tells_on hold;
    step = (
      counts view old w state at (restarts_at answer) (closed files) on.faults count,
      subst (λ (s : Stage). StageStep hosts s state command answer (begun state.tells files w.faults w.restarts)) (sym closed_with) step,
    );
  }

  -- it is refused with a restart, and changes nothing
  pub not_member_create : (host : List ℕ) (answer : Answer) → IsClosed new → Fewer v w → IsOneMore v.restarts w.restarts → ¬ Contains hosts host → answer ≡ answered.Refused (refusals.NotMember host)
      → IsCarriedOut view hosts state (Create host) answer new
  not_member_create host answer shut fewer count lacks is =
      carried (Create host) answer known shut (subst (λ (a : Answer). RestartCount (restarts_at a) v.restarts w.restarts) (sym is) count) (files_fewer known v w fewer were_known) (inr (inl (lacks, is, refl)))

  pub not_member_recover : (host : List ℕ) (answer : Answer) → IsClosed new → Fewer v w → IsOneMore v.restarts w.restarts → ¬ Contains hosts host → answer ≡ answered.Refused (refusals.NotMember host)
      → IsCarriedOut view hosts state (Recover host) answer new
  not_member_recover host answer shut fewer count lacks is =
      carried (Recover host) answer known shut (subst (λ (a : Answer). RestartCount (restarts_at a) v.restarts w.restarts) (sym is) count) (files_fewer known v w fewer were_known) (inr (inl (lacks, is, refl)))

  -- a create under which the disk failed
  pub failed_create : (host : List ℕ) (answer : Answer) → IsClosed new → IsOneMore v.restarts w.restarts → Contains hosts host → Rose v.faults w.faults → answer ≡ answered.Refused (refusals.Fault host)
      → IsCarriedOut view hosts state (Create host) answer new
  failed_create host answer shut count has failed is =
      carried (Create host) answer unknown shut (subst (λ (a : Answer). RestartCount (restarts_at a) v.restarts w.restarts) (sym is) count) tt (inr (inr (has, is, rose view old w state at failed, refl)))

  -- one that memory ran out in
  pub half_create : (host : List ℕ) → Onward v w → Contains hosts host → IsBrokenOff hosts state (Create host) w
  half_create host same has = record {
    new = begun state.tells unknown w.faults w.restarts;
    at_end = record { faults = omega arith; restarts = refl; files = tt };
    breaks = half_made host known refl has closed_with (counts view old w state at false (closed unknown) on.faults (same_count v w same)) refl;
  }

  -- nothing of a command is done
  pub not_begun : (command : Command) → Onward v w → FilesHold known w → IsBrokenOff hosts state command w
  not_begun command same hold = record {
    new = begun state.tells known w.faults w.restarts;
    at_end = record { faults = omega arith; restarts = refl; files = hold };
    breaks = not_done (counts view old w state at false (closed known) on.faults (same_count v w same)) (sym closed_with);
  }

-- ---- a cluster is opened

module _ {D : Type 0} (hosts : List (List ℕ)) (view : D → View) (old : Cluster D) (open_ : Opened D) (seen : OpenCluster) (state : State) (at : IsInState view old state) (was : IsClosed old)
    (same : Onward (lane_view view (lane_of old)) (lane_view view (disks_in open_))) (is_seen : IsClusterOf open_ seen) (hold : FilesHold (store_in (known_of seen)) (lane_view view (disks_in open_))) where
  abbrev over : Later (lane_view view (lane_of old)) (lane_view view (disks_in open_))
  over = later_onward _ _ same

  pub carried_open : (command : Command) (answer : Answer) → restarts_at answer ≡ false
      → ClosedStep hosts state (known hosts view old (Open open_) state at was over) command answer (state_of seen (lane_view view (disks_in open_)) state.tells) → IsCarriedOut view hosts state command answer (Open open_)
  carried_open command answer stays step = record {
    new = state_of seen (lane_view view (disks_in open_)) state.tells;
    at = at_open view open_ seen state.tells is_seen (λ does. same.tells (at.tells does)) hold;
    step = (
      counts view old (lane_view view (disks_in open_)) state at (restarts_at answer) (opened seen) same.faults (subst (λ (b : Bool). RestartCount b (lane_view view (lane_of old)).restarts (lane_view view (disks_in open_)).restarts) (sym stays) same.restarts),
      subst (λ (s : Stage). StageStep hosts s state command answer (state_of seen (lane_view view (disks_in open_)) state.tells)) (sym (closed_with hosts view old (Open open_) state at was over)) step,
    );
  }

  pub made_create : (host : List ℕ) (answer : Answer) → Contains hosts host → answer ≡ answered.Created host → seen ≡ made_at host → IsCarriedOut view hosts state (Create host) answer (Open open_)
  made_create host answer has is made = carried_open (Create host) answer (ap restarts_at is) (inl (has, is, ap opened made))

-- ---- while a cluster is open

-- a state by its parts
state_is : (state : State) (stage : Stage) (faults restarts : ℕ) → state.stage ≡ stage → state.faults ≡ faults → state.restarts ≡ restarts
    → state ≡ record { stage = stage; faults = faults; restarts = restarts; tells = state.tells }
state_is state stage faults restarts same_stage same_faults same_restarts =
    ap (λ (s : Stage). record { stage = s; faults = state.faults; restarts = state.restarts; tells = state.tells }) same_stage
    ∙ ap (λ (n : ℕ). record { stage = stage; faults = n; restarts = state.restarts; tells = state.tells }) same_faults
    ∙ ap (λ (n : ℕ). record { stage = stage; faults = faults; restarts = n; tells = state.tells }) same_restarts

-- the cluster that the code has
pub seen_then : {D : Type 0} (open_ : Opened D) (stage : Stage) → IsStage (Open open_) stage → (seen : OpenCluster) × (stage ≡ opened seen) × IsClusterOf open_ seen
seen_then open_ (closed files) is = absurd is
seen_then open_ (opened seen) is = (seen, refl, is)

module _ {D : Type 0} (hosts : List (List ℕ)) (view : D → View) (old : Opened D) (state : State) (at : IsInState view (Open old) state) where
  abbrev before : OpenCluster
  before = (seen_then old state.stage at.stage).0

  abbrev first_view : View
  first_view = lane_view view (disks_in old)

  here : state ≡ state_of before first_view state.tells
  here = state_is state (opened before) first_view.faults first_view.restarts (seen_then old state.stage at.stage).1 at.faults at.restarts

  open_stage : (command : Command) (answer : Answer) (new : State) → OpenStep state before command answer new → StageStep hosts state.stage state command answer new
  open_stage command answer new step = subst (λ (s : Stage). StageStep hosts s state command answer new) (sym (seen_then old state.stage at.stage).1) step

  pub stopped : (new : Cluster D) (answer : Answer) → IsClosed new → Later first_view (lane_view view (lane_of new)) → IsOneMore first_view.restarts (lane_view view (lane_of new)).restarts → Fewer first_view (lane_view view (lane_of new)) → answer ≡ answered.Stopped
      → IsCarriedOut view hosts state Stop answer new
  stopped new answer shut on count fewer is = record {
    new = begun state.tells (files_at state.stage) (lane_view view (lane_of new)).faults (lane_view view (lane_of new)).restarts;
    at = at_closed view new (files_at state.stage) state.tells shut (λ does. on.tells (at.tells does)) (files_fewer (files_at state.stage) first_view (lane_view view (lane_of new)) fewer at.files);
    step = (
      counts view (Open old) (lane_view view (lane_of new)) state at (restarts_at answer) (closed (files_at state.stage)) on.faults (subst (λ (a : Answer). RestartCount (restarts_at a) first_view.restarts (lane_view view (lane_of new)).restarts) (sym is) count),
      open_stage Stop answer _ (is, refl),
    );
  }

  -- nothing has changed
  pub unchanged : (command : Command) (answer : Answer) → restarts_at answer ≡ false → OpenStep state before command answer state → IsCarriedOut view hosts state command answer (Open old)
  unchanged command answer stays step = record {
    new = state;
    at = at;
    step = (
      record { faults = omega arith; restarts = subst (λ (b : Bool). RestartCount b state.restarts state.restarts) (sym stays) refl; tells = refl },
      open_stage command answer state step,
    );
  }

  pub dumped : (answer : Answer) → ((seen : OpenCluster) → IsClusterOf old seen → IsDump seen answer) → IsCarriedOut view hosts state Dump answer (Open old)
  dumped answer shows = let is = shows before (seen_then old state.stage at.stage).2 in unchanged Dump answer (ap restarts_at is.2) (is, refl)

  module _ (new : Opened D) (on : Onward first_view (lane_view view (disks_in new))) (stored : (seen : OpenCluster) → IsClusterOf new seen → FilesHold (store_in (known_of seen)) (lane_view view (disks_in new))) where
    stepped_to : (events : List Event) (answer : Answer) (after : OpenCluster) → IsClusterOf new after → IsStepped (state_of before first_view state.tells) events answer (state_of after (lane_view view (disks_in new)) state.tells)
        → IsCarriedOut view hosts state (Steps events) answer (Open new)
    stepped_to events answer after is step = record {
      new = state_of after (lane_view view (disks_in new)) state.tells;
      at = at_open view new after state.tells is (λ does. on.tells (at.tells does)) (stored after is);
      step = (
        counts view (Open old) (lane_view view (disks_in new)) state at (restarts_at answer) (opened after) on.faults (subst (λ (a : Answer). RestartCount (restarts_at a) first_view.restarts (lane_view view (disks_in new)).restarts) (sym step.2) on.restarts),
        open_stage (Steps events) answer _ (subst (λ (s : State). IsStepped s events answer (state_of after (lane_view view (disks_in new)) state.tells)) (sym here) step),
      );
    }

    pub stepped : (events : List Event) (answer : Answer) → StateSteps view old new (λ first last. IsStepped first events answer last) → IsCarriedOut view hosts state (Steps events) answer (Open new)
    stepped events answer is = let s = is.steps state.tells before (seen_then old state.stage at.stage).2 in stepped_to events answer s.0 s.1 s.2

    broken_at : (events : List Event) (after : OpenCluster) → IsClusterOf new after → EventsBreak (state_of before first_view state.tells) events (state_of after (lane_view view (disks_in new)) state.tells) → IsBrokenOff hosts state (Steps events) (lane_view view (disks_in new))
    broken_at events after is breaks = record {
      new = state_of after (lane_view view (disks_in new)) state.tells;
      at_end = record { faults = omega arith; restarts = refl; files = stored after is };
      breaks = half_stepped events refl (subst (λ (s : State). EventsBreak s events (state_of after (lane_view view (disks_in new)) state.tells)) (sym here) breaks);
    }

    pub broken_steps : (events : List Event) → StateSteps view old new (λ first last. EventsBreak first events last) → IsBrokenOff hosts state (Steps events) (lane_view view (disks_in new))
    broken_steps events is = let s = is.steps state.tells before (seen_then old state.stage at.stage).2 in broken_at events s.0 s.1 s.2

-- ---- whichever state it is in

-- a cluster is closed
pub carries_stop : {D : Type 0} (hosts : List (List ℕ)) (view : D → View) (old : Opened D) (new : Cluster D) → IsClosed new → IsDiskRestarted (lane_view view (disks_in old)) (lane_view view (lane_of new))
    → Carries view hosts (Open old) Stop answered.Stopped new
carries_stop hosts view old new shut is = record {
  step = λ state at. stopped hosts view old state at new answered.Stopped shut is.later is.counted is.images refl;
  later = is.later;
}

-- the contents are shown
pub carries_dump : {D : Type 0} (hosts : List (List ℕ)) (view : D → View) (old : Opened D) (answer : Answer) → ((seen : OpenCluster) → IsClusterOf old seen → IsDump seen answer) → Carries view hosts (Open old) Dump answer (Open old)
carries_dump hosts view old answer shows = record {
  step = λ state at. dumped hosts view old state at answer shows;
  later = later_none _;
}

-- events are carried out, or broken off
module _ {D : Type 0} (hosts : List (List ℕ)) (view : D → View) (old new : Opened D) (on : Onward (lane_view view (disks_in old)) (lane_view view (disks_in new)))
    (stored : (seen : OpenCluster) → IsClusterOf new seen → FilesHold (store_in (known_of seen)) (lane_view view (disks_in new))) (events : List Event) where
  pub carries_steps : (answer : Answer) → StateSteps view old new (λ first last. IsStepped first events answer last) → Carries view hosts (Open old) (Steps events) answer (Open new)
  carries_steps answer is = record {
    step = λ state at. stepped hosts view old state at new on stored events answer is;
    later = later_onward _ _ on;
  }

  pub breaks_steps : StateSteps view old new (λ first last. EventsBreak first events last) → BreaksOff view hosts (Open old) (Steps events) (Open new)
  breaks_steps is = record {
    broken = λ state at. broken_steps hosts view old state at new on stored events is;
    later = later_onward _ _ on;
  }

-- a part of the contents shown as they are after other changes that leave the same
pub shown_as : (changes others : List Change) (caches shown : Caches) → AreContentsAfter changes caches → AreContentsAfter others caches → AreContentsAfter changes shown → AreContentsAfter others shown
shown_as changes others caches shown one two is = contents_of_same others changes shown (SameContents-from_one others changes caches two one) is

-- so it is, whichever command it was said of
pub carries_as : {D : Type 0} (hosts : List (List ℕ)) (view : D → View) (old : Cluster D) (command other : Command) (answer : Answer) (new : Cluster D) → command ≡ other → Carries view hosts old other answer new → Carries view hosts old command answer new
carries_as hosts view old command other answer new same is = subst (λ (c : Command). Carries view hosts old c answer new) (sym same) is

pub breaks_as : {D : Type 0} (hosts : List (List ℕ)) (view : D → View) (old : Cluster D) (command other : Command) (new : Cluster D) → command ≡ other → BreaksOff view hosts old other new → BreaksOff view hosts old command new
breaks_as hosts view old command other new same is = subst (λ (c : Command). BreaksOff view hosts old c new) (sym same) is
