-- How a run ends, by its status.
use Rattle.std.proofs.Common.{◌≡◌, ◌≢◌, ◌⊎◌, inl, inr, refl}
use Rattle.script_loop.specs.Codes.{code_of}
use Rattle.script_loop.specs.Chain.{Span, unbroken, IsRun}
use Rattle.script_loop.specs.declared.status.Status.{Status}
use Rattle.script_loop.specs.declared.status.Status.TheVariants.{Done, WordFault, ScriptFault, ReadFault, WriteFault, NoMemory}
use Rattle.cluster_cli.specs.Ends.{StatusHasCause}
use Rattle.cluster_cli.specs.Sites.{IsLeftBy}
use Rattle.cluster_commands.specs.State.{State}

pub cause : (status : Status) (no_plan read write : Type 0) → (status ≡ WordFault → no_plan) → (status ≡ ReadFault → read) → (status ≡ WriteFault → write) → StatusHasCause status no_plan read write
cause Done no_plan read write words source sink = tt
cause WordFault no_plan read write words source sink = words refl
cause ScriptFault no_plan read write words source sink = tt
cause ReadFault no_plan read write words source sink = source refl
cause WriteFault no_plan read write words source sink = sink refl
cause NoMemory no_plan read write words source sink = tt

-- a command is broken off only where memory ran out
pub left_by : (status : Status) (span : Span State) → (status ≢ NoMemory → IsRun (unbroken span)) → IsRun span → IsLeftBy status span
left_by Done span whole run = whole (λ e. cc)
left_by WordFault span whole run = whole (λ e. cc)
left_by ScriptFault span whole run = whole (λ e. cc)
left_by ReadFault span whole run = whole (λ e. cc)
left_by WriteFault span whole run = whole (λ e. cc)
left_by NoMemory span whole run = run

-- a run that no fault ended
pub completed : (status : Status) → status ≢ WordFault → status ≢ ScriptFault → status ≢ ReadFault → status ≢ WriteFault → (code_of status ≡ 0) ⊎ (code_of status ≡ 5)
completed Done words script read write = inl refl
completed WordFault words script read write = absurd (words refl)
completed ScriptFault words script read write = absurd (script refl)
completed ReadFault words script read write = absurd (read refl)
completed WriteFault words script read write = absurd (write refl)
completed NoMemory words script read write = inr refl
