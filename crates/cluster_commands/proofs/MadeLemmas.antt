-- What a create does to the code, the disk and the state.
use Rattle.std.proofs.Common.{◌≡◌, ◌⊎◌, ℕ, arith, List, [], ◌∷◌, length, Some, refl, sym, ◌∙◌, ap, ◌↔◌, true}
use Rattle.std.specs.Prelude.{IsTrue, Contains}
use Rattle.fault_count.specs.OneMore.{IsOneMore}
use Rattle.disk_trait.specs.View.{View}
use Rattle.disk_trait.specs.Moments.{Later}
use Rattle.partition_cell.specs.Cells.{in_flight}
use Rattle.partition_cell.specs.Loaded.{IsLoadedCell}
use Rattle.partition_cell.specs.Made.{IsFirst, IsMakingFault}
use Rattle.partition_cell.specs.Standing.{IsLone}
use Rattle.partition_cell.specs.declared.refusal.CellRefusal.{CellRefusal}
use Rattle.partition_cell.specs.declared.refusal.CellRefusal.TheVariants as cells
use Rattle.kept_cell.specs.KeptCells.{KeptCell}
use Rattle.script_lines.specs.declared.command.Command.TheVariants.{Create}
use Rattle.script_lines.specs.declared.answer.Answer.{Answer}
use Rattle.script_lines.specs.declared.answer.Answer.TheVariants as answered
use Rattle.script_lines.specs.declared.answer.Refusal.{Refusal}
use Rattle.script_lines.specs.declared.answer.Refusal.TheVariants as refusals
use Rattle.cluster_commands.specs.Breaks.{IsCarriedOut}
use Rattle.cluster_commands.specs.Commands.{made_at}
use Rattle.cluster_commands.specs.OnDisk.{IsClosed, lane_of, lane_view, IsClusterOf, IsServing, IsInState}
use Rattle.cluster_commands.specs.Refusals.{opening_refusal}
use Rattle.cluster_commands.specs.State.{State}
use Rattle.cluster_commands.specs.declared.cluster.Cluster.{Cluster}
use Rattle.cluster_commands.specs.declared.cluster.Opened.{Opened}
use Rattle.cluster_commands.proofs.CommandLemmas.{failed_create}
use Rattle.cluster_commands.proofs.FoundLemmas.{only_host}
use Rattle.cluster_commands.proofs.KnownLemmas.{the_partition}
use Rattle.cluster_commands.proofs.RecoverLemmas.{failed_here, rose_on, refused_as}

-- a cell that was just made is served
pub made_serving : {D : Type 0} (kept : KeptCell D) → IsFirst kept.cell 0 0 1 → length kept.cell.disks ≡ 1 → IsServing kept
made_serving kept made one = record { number = made.number; owner = made.owner; still = made.still; one = one }

-- and one that was just loaded
pub loaded_serving : {D : Type 0} (view : D → View) (disks : List D) (kept : KeptCell D) → IsLoadedCell view (0 ∷ []) the_partition disks kept.cell → length kept.cell.disks ≡ 1 → IsServing kept
loaded_serving view disks kept loaded one = record { number = loaded.number; owner = only_host kept.cell.owner loaded.alone.listed; still = loaded.still; one = one }

-- the code has a cluster that was just made
pub is_made : {D : Type 0} (open_ : Opened D) (host : List ℕ) → open_.host ≡ host → IsFirst open_.kept.cell 0 0 1 → IsLone open_.kept.cell → open_.kept.trail.entries ≡ [] → IsClusterOf open_ (made_at host)
is_made open_ host named made lone none = record {
  host = sym named;
  file = sym made.file;
  id = sym made.id;
  end = sym made.end;
  told = sym made.told;
  contents = made.none.contents;
  flight = sym (ap in_flight made.sound.none);
  sound = (λ is. made.sound, λ is. refl);
  lone = λ is. lone;
  trail = sym (ap length none);
}

-- none was made
module _ {D : Type 0} (hosts : List (List ℕ)) (view : D → View) (old new : Cluster D) (mid : List D) (state : State) (at : IsInState view old state) (was : IsClosed old)
    (on : Later (lane_view view (lane_of old)) (lane_view view (lane_of new))) (last : Later (lane_view view mid) (lane_view view (lane_of new)))
    (host : List ℕ) (answer : Answer) (shut : IsClosed new) (count : IsOneMore (lane_view view (lane_of old)).restarts (lane_view view (lane_of new)).restarts) (has : Contains hosts host) where
  pub refused_create : (cause : CellRefusal) (refusal : Refusal) → opening_refusal cause host ≡ Some refusal → answer ≡ answered.Refused refusal → IsMakingFault view 0 (lane_of old) mid cause → IsCarriedOut view hosts state (Create host) answer new
  refused_create (cells.Fault h) refusal why is cause =
      failed_create hosts view old new state at was on host answer shut count has
      (rose_on (lane_view view (lane_of old)) (lane_view view mid) (lane_view view (lane_of new)) (failed_here view (lane_of old) mid 0 refl cause.1) last)
      (refused_as answer refusal (refusals.Fault host) is why)
  refused_create cells.NoStore refusal why is cause = absurd cause
  refused_create (cells.Damaged h f offset) refusal why is cause = absurd cause
  refused_create cells.NoMemory refusal why is cause = absurd cc
