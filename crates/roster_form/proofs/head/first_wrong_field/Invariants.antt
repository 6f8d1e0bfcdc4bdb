use Rattle.std.proofs.Common.{◌≡◌, drop}
use Rattle.roster_form.specs.RosterFault.{first_wrong_field}
use Rattle.roster_form.proofs.head.first_wrong_field.Given as goal

-- the fields so far are right
abbrev pub invariant-loop-field : goal.invariant-loop-field
invariant-loop-field l = first_wrong_field l.text (drop l.field-index l.fields) ≡ first_wrong_field l.text l.fields
