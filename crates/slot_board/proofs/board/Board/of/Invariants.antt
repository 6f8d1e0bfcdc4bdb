use Rattle.std.proofs.Common.{◌≡◌, ℕ, get_or, vec_len}
use Rattle.slot_board.specs.Slots.{unknown_slot}
use Rattle.slot_board.proofs.board.Board.of.Given as goal

abbrev pub invariant-loop : goal.invariant-loop
invariant-loop l = record {
  many : vec_len l.slots ≡ l.counter;
  unknown : (k : ℕ) → get_or l.slots.items k unknown_slot ≡ unknown_slot;
}
