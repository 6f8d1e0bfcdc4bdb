use Rattle.std.proofs.Common.{◌-◌, ◌≤◌}
use Rattle.script_loop.specs.Progress.{Underway, taken_bytes}
use Rattle.script_loop.proofs.run.answer_pieces.Given as goal

-- what was read of the script is answered as far as its lines go
abbrev pub invariant-pieces : goal.invariant-pieces
invariant-pieces g l =
    let left = g.S.Source.left in
    let written = g.K.Sink.written in
    record {
      told : Underway g.M.Machine.answers l.fn.machine (left l.fn.source) (written l.fn.sink) l.session l.machine (left l.source) (written l.sink);
      read_later : g.S.Source.faults l.fn.source ≤ g.S.Source.faults l.source;
      write_later : g.K.Sink.faults l.fn.sink ≤ g.K.Sink.faults l.sink;
      ready : g.M.Machine.is_ready l.machine;
    }

abbrev pub decreases-pieces : goal.decreases-pieces
decreases-pieces g l = 67108864 - taken_bytes l.session
