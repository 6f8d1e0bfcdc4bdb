use Rattle.std.proofs.Common.{◌≡◌, ℕ, ◌+◌, ◌≤◌, List, ◌++◌, length}
use Rattle.script_loop.specs.Progress.{Advances, taken_bytes}
use Rattle.script_loop.proofs.script.take_piece.Given as goal

-- the lines of a prefix of the piece are answered, and the rest of it is left
abbrev pub invariant-lines : goal.invariant-lines
invariant-lines g l =
    let written = g.K.Sink.written in
    let faults = g.K.Sink.faults in
    record {
      told : (prefix : List ℕ) × (l.fn.piece ≡ prefix ++ l.rest) × Advances g.M.Machine.answers l.fn.session l.fn.machine (written l.fn.sink) prefix l.session l.machine (written l.sink);
      size : taken_bytes l.session + length l.rest ≡ taken_bytes l.fn.session + length l.fn.piece;
      later : faults l.fn.sink ≤ faults l.sink;
      ready : g.M.Machine.is_ready l.machine;
    }

abbrev pub decreases-lines : goal.decreases-lines
decreases-lines g l = length l.rest
