use Rattle.std.proofs.Common.{◌≡◌, ◌≤◌, ◌-◌, [], length, drop}
use Rattle.roster_form.specs.RosterFault.{names_fault}
use Rattle.roster_form.proofs.names.names_fault.Given as goal

-- the names so far are right
abbrev pub invariant-loop : goal.invariant-loop
invariant-loop l = record {
  within : l.at ≤ length l.text;
  so_far : names_fault (l.count - l.counter) l.earlier l.at (drop l.at l.text) ≡ names_fault l.count [] 41 (drop 41 l.text);
}
