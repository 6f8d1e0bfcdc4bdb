use Rattle.std.proofs.Common.{◌≡◌, ◌++◌, take}
use Rattle.roster_form.specs.RosterText.{names_text}
use Rattle.roster_form.proofs.encode.push_names.Given as goal

-- the names so far
abbrev pub invariant-loop-host : goal.invariant-loop-host
invariant-loop-host l = l.out.items ≡ l.fn.out.items ++ names_text (take l.host-index l.hosts)
