use Rattle.byte_fields.specs.Reading.{rest_of}
use Rattle.roster_form.proofs.NamesLemmas.{AreRead}
use Rattle.roster_form.proofs.decode.read_names.Given as goal

-- the names so far, and those that are left
abbrev pub invariant-loop : goal.invariant-loop
invariant-loop l = AreRead l.count l.counter l.bytes l.hosts (rest_of l.cursor)
