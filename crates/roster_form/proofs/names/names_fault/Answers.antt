use Rattle.roster_form.specs.RosterFault.{name_fault, first_name, names_fault}
use Rattle.std.proofs.Common.{[], ℕ, ◌+◌, Some, ◌∙◌, sym, ap, arith, ◌-◌, drop}
use Rattle.roster_form.proofs.NamesLemmas.{fault_here, next_is_right, end_is, too_long, at_end, rest_is}
use Rattle.roster_form.proofs.names.names_fault.Goals as goal

pub returns-in-Some : goal.returns-in-Some
returns-in-Some c =
    ap (λ (n : ℕ). Some (c.loop.at + n)) c.from.ensures ∙ sym (fault_here (c.args.count - c.loop.counter) c.loop.earlier.now c.loop.at (drop c.loop.at c.args.text.now) c.in-Some.fault (let some = c.loop-test.true in omega (arith, some)) (ap (name_fault c.loop.earlier.now) (sym (rest_is c.args.text.now c.loop.at)) ∙ sym c.in-Some.ensures)) ∙ c.loop.invariant.so_far

pub loop-preserved : goal.loop-preserved
loop-preserved c =
    let next = next_is_right c.args.text.now c.loop.at c.args.count c.loop.counter c.loop.earlier.now (names_fault c.args.count [] 41 (drop 41 c.args.text.now)) c.loop.invariant.within c.loop-test.true (ap (name_fault c.loop.earlier.now) (sym (rest_is c.args.text.now c.loop.at)) ∙ sym c.in_default.ensures) c.loop.invariant.so_far in
    rw (c.first_name-earlier.ensures ∙ ap first_name (rest_is c.args.text.now c.loop.at)) record { within = next.0; so_far = next.1 }

pub returns-then-at-text : goal.returns-then-at-text
returns-then-at-text c =
    sym (too_long c.args.text.now c.loop.at c.if-at-text.true) ∙ sym (end_is c.args.text.now c.loop.at c.args.count c.loop.counter c.loop.earlier.now c.loop-test.false) ∙ c.loop.invariant.so_far

pub returns : goal.returns
returns c =
    sym (at_end c.args.text.now c.loop.at c.if-at-text.false) ∙ sym (end_is c.args.text.now c.loop.at c.args.count c.loop.counter c.loop.earlier.now c.loop-test.false) ∙ c.loop.invariant.so_far
