use Rattle.std.proofs.Common.{◌≢◌, ℕ, ◌<◌, get_or}
use Rattle.slot_board.specs.declared.board.SlotKind.TheVariants.{Doubt}
use Rattle.slot_board.specs.Slots.{unknown_slot}
use Rattle.slot_board.proofs.aging.doubt_in.Given as goal

abbrev pub invariant-loop-place : goal.invariant-loop-place
invariant-loop-place l = (k : ℕ) → k < l.place → (get_or l.slots k unknown_slot).kind ≢ Doubt
