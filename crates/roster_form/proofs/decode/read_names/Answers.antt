use Rattle.std.proofs.Common.{arith, ◌-◌, ◌+◌, sym, subst, List}
use Rattle.byte_fields.specs.Reading.{rest_of}
use Rattle.roster_form.specs.Membership.{Host}
use Rattle.roster_form.proofs.NamesLemmas.{AreRead, next_name_of, one_read}
use Rattle.roster_form.proofs.decode.read_names.Goals as goal

pub next_name-requires : goal.next_name-requires
next_name-requires c = next_name_of (c.args.count - c.loop.counter) (rest_of c.loop.cursor) (let some = c.loop-test.true in omega (arith, some)) c.loop.invariant.left

pub loop-preserved : goal.loop-preserved
loop-preserved c =
    subst (λ (hosts : List Host). AreRead c.args.count (c.loop.counter + 1) c.args.bytes.now hosts (rest_of c.next_name.new.cursor)) (sym c.in_ok-push.ensures.ok)
    (one_read c.args.count c.loop.counter c.args.bytes.now c.loop.hosts (rest_of c.loop.cursor) (rest_of c.next_name.new.cursor) c.in_ok-next_name.field-0 c.loop-test.true c.loop.invariant c.in_ok-next_name.ensures.0 c.in_ok-next_name.ensures.1)
