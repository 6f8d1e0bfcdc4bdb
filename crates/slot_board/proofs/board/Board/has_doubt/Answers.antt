use Rattle.std.proofs.Common.{◌≡◌, ℕ, ◌+◌, ◌*◌, ◌/◌, ◌%◌, List, get_or, arith, sym, ◌∙◌, ap}
use Rattle.slot_board.specs.declared.board.Slot.{Slot}
use Rattle.slot_board.specs.Slots.{unknown_slot}
use Rattle.slot_board.proofs.board.Board.has_doubt.Goals as goal

pub returns-clause-some : goal.returns-clause-some
returns-clause-some c is =
    let s = c.doubt_in.ensures.some is in
    let at : 2 * (s.0 / 2) + s.0 % 2 ≡ s.0 = omega arith in
    let items = ap (λ (l : List Slot). (get_or l s.0 unknown_slot).kind) c.deref.ensures.value in
    (s.0 / 2, s.0 % 2, omega arith, ap (λ (k : ℕ). (get_or c.args.self.now.slots.items k unknown_slot).kind) at ∙ sym items ∙ s.2)
