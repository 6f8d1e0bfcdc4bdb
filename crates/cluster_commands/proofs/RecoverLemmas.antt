-- What a recovery does to the code, the disk and the state.
use Rattle.std.proofs.Common.{◌≡◌, inl, inr, ⊎_elim, ℕ, ◌≤◌, arith, List, [], ◌∷◌, ◌++◌, length, slice_get, Some, None, refl, sym, ◌∙◌, ap, subst, Bool, true}
use Rattle.std.specs.Prelude.{IsTrue, Contains}
use Rattle.fault_count.specs.Rose.{Rose}
use Rattle.fault_count.specs.OneMore.{IsOneMore}
use Rattle.cache_model.specs.Change.{Change}
use Rattle.disk_lane.specs.Lanes.{HasFailedOn}
use Rattle.disk_trait.specs.View.{View, Tells}
use Rattle.disk_trait.specs.Calls.{Fewer}
use Rattle.disk_trait.specs.Moments.{Onward, Later}
use Rattle.disk_trait.proofs.Runs.{later_onward}
use Rattle.newest_store.specs.Choice.{seen_on, AllTell}
use Rattle.partition_cell.specs.Loaded.{IsLoadedCell, IsLoadRefusal, IsNewestDamaged}
use Rattle.partition_cell.specs.declared.refusal.CellRefusal.{CellRefusal}
use Rattle.partition_cell.specs.declared.refusal.CellRefusal.TheVariants as cells
use Rattle.store_journal.specs.Created.{IsUnsealed}
use Rattle.script_lines.specs.declared.command.Command.TheVariants.{Recover}
use Rattle.script_lines.specs.declared.answer.Answer.{Answer}
use Rattle.script_lines.specs.declared.answer.Answer.TheVariants as answered
use Rattle.script_lines.specs.declared.answer.Refusal.{Refusal}
use Rattle.script_lines.specs.declared.answer.Refusal.TheVariants as refusals
use Rattle.cluster_commands.specs.Breaks.{IsCarriedOut, IsBrokenOff}
use Rattle.cluster_commands.specs.Commands.{MayLack, ClosedStep, restarts_at}
use Rattle.cluster_commands.specs.OnDisk.{IsClosed, lane_of, lane_view, disks_in, IsClusterOf, FilesHold, IsInState}
use Rattle.cluster_commands.specs.Refusals.{opening_refusal}
use Rattle.cluster_commands.specs.State.{OpenCluster, KnownFiles, unknown, no_store, store_in, known_of, opened, State, begun, RestartCount}
use Rattle.cluster_commands.specs.declared.cluster.Cluster.{Cluster}
use Rattle.cluster_commands.specs.declared.cluster.Cluster.TheVariants.{Closed, Open}
use Rattle.cluster_commands.specs.declared.cluster.Opened.{Opened}
use Rattle.cluster_commands.proofs.CommandLemmas.{known, were_known, carried, not_begun, carried_open, rose}
use Rattle.cluster_commands.proofs.FilesLemmas.{files_fewer, view_first}
use Rattle.cluster_commands.proofs.FoundLemmas.{only_host, host_listed, one_is_sealed, damage_is_sealed, known_undamaged}
use Rattle.cluster_commands.proofs.KnownLemmas.{the_partition, all_tell, recovered_with, IsHistoryOf, found_history, is_recovered, recovered_at}

-- ---- why there is none

-- neither file is sealed
none_sealed : {D : Type 0} (view : D → View) (disks : List D) (files : KnownFiles) (answer : Answer) → length disks ≡ 1
    → (AllTell view disks (0 ∷ []) → (h f : ℕ) → Contains (0 ∷ []) h → f ≤ 1 → IsUnsealed (seen_on view disks h f))
    → answer ≡ answered.Refused refusals.NotCreated → FilesHold files (lane_view view disks) → Tells (lane_view view disks) → MayLack files answer
none_sealed view [] files answer one none is hold tells = absurd (omega (arith, one))
none_sealed view (a ∷ b ∷ rest) files answer one none is hold tells = absurd (omega (arith, one))
none_sealed view (disk ∷ []) unknown answer one none is hold tells = tt
none_sealed view (disk ∷ []) no_store answer one none is hold tells = is
none_sealed view (disk ∷ []) (store_in store) answer one none is hold tells =
    ⊎_elim
    (λ old. one_is_sealed (view disk).seen store.changes old.stands (λ f le. none (all_tell view disk tells) 0 f host_listed le))
    (λ new. one_is_sealed (view disk).seen (store.changes ++ store.flight) new.stands (λ f le. none (all_tell view disk tells) 0 f host_listed le))
    (hold (view disk).seen tells)

-- a file is damaged
one_damaged : {D : Type 0} (view : D → View) (disks : List D) (files : KnownFiles) (answer : Answer) (h f at : ℕ) → length disks ≡ 1 → Contains (0 ∷ []) h → f ≤ 1
    → (AllTell view disks (0 ∷ []) → IsNewestDamaged (seen_on view disks) (0 ∷ []) 0 1 h f at) → FilesHold files (lane_view view disks) → Tells (lane_view view disks) → MayLack files answer
one_damaged view [] files answer h f at one listed le damage hold tells = absurd (omega (arith, one))
one_damaged view (a ∷ b ∷ rest) files answer h f at one listed le damage hold tells = absurd (omega (arith, one))
one_damaged view (disk ∷ []) unknown answer h f at one listed le damage hold tells = tt
one_damaged view (disk ∷ []) no_store answer h f at one listed le damage hold tells =
    absurd (hold (view disk).seen tells f le (damage_is_sealed (seen_on view (disk ∷ [])) h f at (only_host h listed) le (damage (all_tell view disk tells))))
one_damaged view (disk ∷ []) (store_in store) answer h f at one listed le damage hold tells =
    let is = damage (all_tell view disk tells) in
    ⊎_elim
    (λ old. known_undamaged (seen_on view (disk ∷ [])) h f at (only_host h listed) le is store store.changes old)
    (λ new. known_undamaged (seen_on view (disk ∷ [])) h f at (only_host h listed) le is store (store.changes ++ store.flight) new)
    (hold (view disk).seen tells)

-- the one disk has failed
pub failed_here : {D : Type 0} (view : D → View) (old new : List D) (h : ℕ) → h ≡ 0 → HasFailedOn view h old new → Rose (lane_view view old).faults (lane_view view new).faults
failed_here view old new h zero_is failed =
    let first = view_first view old failed.before (subst (λ (k : ℕ). slice_get old k ≡ Some failed.before) zero_is failed.was) in
    let last = view_first view new failed.now (subst (λ (k : ℕ). slice_get new k ≡ Some failed.now) zero_is failed.is) in
    subst (λ (x : View). Rose x.faults (lane_view view new).faults) (sym first) (subst (λ (x : View). Rose (view failed.before).faults x.faults) (sym last) failed.rose)

-- and that counts after it too
pub rose_on : (a b c : View) → Rose a.faults b.faults → Later b c → Rose a.faults c.faults
rose_on a b c rose last = λ below. let more = last.faults in let before = rose (omega (arith, more, below)) in omega (arith, more, before)

-- ---- it is refused

pub refused_as : (answer : Answer) (refusal other : Refusal) → answer ≡ answered.Refused refusal → Some other ≡ Some refusal → answer ≡ answered.Refused other
refused_as answer refusal other is why = let same : refusal ≡ other = cc in is ∙ ap (λ (r : Refusal). answered.Refused r) same

module _ {D : Type 0} (hosts : List (List ℕ)) (view : D → View) (old new : Cluster D) (mid : List D) (state : State) (at : IsInState view old state) (was : IsClosed old)
    (on : Later (lane_view view (lane_of old)) (lane_view view (lane_of new))) (one : length (lane_of old) ≡ 1)
    (keeps : (files : KnownFiles) → FilesHold files (lane_view view (lane_of old)) → FilesHold files (lane_view view mid)) (fewer : Fewer (lane_view view mid) (lane_view view (lane_of new))) where
  abbrev v : View
  v = lane_view view (lane_of old)

  abbrev w : View
  w = lane_view view (lane_of new)

  abbrev files : KnownFiles
  files = known hosts view old new state at was on

  hold : FilesHold files v
  hold = were_known hosts view old new state at was on

  still_known : FilesHold files w
  still_known = files_fewer files (lane_view view mid) w fewer (keeps files hold)

  -- memory ran out
  pub broken_recover : (host : List ℕ) → Onward v w → IsBrokenOff hosts state (Recover host) w
  broken_recover host same = not_begun hosts view old new state at was on (Recover host) same still_known

  module _ (host : List ℕ) (answer : Answer) (shut : IsClosed new) (count : IsOneMore v.restarts w.restarts) (has : Contains hosts host) where
    refused_with : (refusal : Refusal) → restarts_at (answered.Refused refusal) ≡ true → answer ≡ answered.Refused refusal
        → ClosedStep hosts state files (Recover host) answer (begun state.tells files w.faults w.restarts) → IsCarriedOut view hosts state (Recover host) answer new
    refused_with refusal restarts is step =
        carried hosts view old new state at was on (Recover host) answer files shut
        (subst (λ (a : Answer). RestartCount (restarts_at a) v.restarts w.restarts) (sym is) (subst (λ (b : Bool). RestartCount b v.restarts w.restarts) (sym restarts) count)) still_known step

    pub refused_recover : (cause : CellRefusal) (refusal : Refusal) → opening_refusal cause host ≡ Some refusal → answer ≡ answered.Refused refusal → IsLoadRefusal view (0 ∷ []) the_partition (lane_of old) mid cause
        → Later (lane_view view mid) w → IsCarriedOut view hosts state (Recover host) answer new
    refused_recover cells.NoStore refusal why is cause last =
        let answers = refused_as answer refusal refusals.NotCreated is why in
        refused_with refusals.NotCreated refl answers
        (inr (inr (inr (has, (λ tells. none_sealed view (lane_of old) files answer one cause.1 answers hold (at.tells tells)), inl answers, refl))))
    refused_recover (cells.Damaged h f offset) refusal why is cause last =
        let answers = refused_as answer refusal (refusals.Damaged host 0 f offset) is why in
        refused_with (refusals.Damaged host 0 f offset) refl answers
        (inr (inr (inr (has, (λ tells. one_damaged view (lane_of old) files answer h f offset one cause.1 cause.2 cause.3 hold (at.tells tells)), inr (f, offset, answers), refl))))
    refused_recover (cells.Fault h) refusal why is cause last =
        let answers = refused_as answer refusal (refusals.Fault host) is why in
        refused_with (refusals.Fault host) refl answers
        (inr (inr (inl (has, answers, rose view old w state at (rose_on v (lane_view view mid) w (failed_here view (lane_of old) mid h (only_host h cause.0) cause.1) last), refl))))
    refused_recover cells.NoMemory refusal why is cause last = absurd cc

-- ---- a cluster is opened

module _ {D : Type 0} (hosts : List (List ℕ)) (view : D → View) (old : Cluster D) (open_ : Opened D) (state : State) (at : IsInState view old state) (was : IsClosed old)
    (same : Onward (lane_view view (lane_of old)) (lane_view view (disks_in open_))) (one : length (lane_of old) ≡ 1) (loaded : IsLoadedCell view (0 ∷ []) the_partition (lane_of old) open_.kept.cell)
    (begun_now : open_.kept.trail.entries ≡ []) (stored : (seen : OpenCluster) → IsClusterOf open_ seen → FilesHold (store_in (known_of seen)) (lane_view view (disks_in open_))) where
  abbrev over : Later (lane_view view (lane_of old)) (lane_view view (disks_in open_))
  over = later_onward _ _ same

  found : (changes : List Change) × IsHistoryOf open_.host open_.kept.cell open_.kept.cell.store.id.version (known hosts view old (Open open_) state at was over) state.tells changes
  found = found_history view (lane_of old) open_.kept.cell open_.host (known hosts view old (Open open_) state at was over) state.tells one loaded at.tells (were_known hosts view old (Open open_) state at was over)

  abbrev cluster : OpenCluster
  cluster = recovered_with open_.host open_.kept.cell open_.kept.cell.store.id.version found.0

  is_cluster : IsClusterOf open_ cluster
  is_cluster = is_recovered view (lane_of old) open_ found.0 loaded begun_now found.1.0

  pub opened_recover : (host : List ℕ) (answer : Answer) → Contains hosts host → open_.host ≡ host → answer ≡ answered.Recovered 1 host 1 → IsCarriedOut view hosts state (Recover host) answer (Open open_)
  opened_recover host answer has named is =
      carried_open hosts view old open_ cluster state at was same is_cluster (stored cluster is_cluster) (Recover host) answer (ap restarts_at is)
      (inl (has, is, cluster, recovered_at host open_.host open_.kept.cell found.0 named, found.1.1, refl))
