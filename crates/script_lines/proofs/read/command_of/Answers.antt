-- The members that were found are all of them, and stand in order.
use Rattle.std.proofs.Common.{◌≡◌, refl, sym, subst, arith, codes, Some}
use Rattle.serde_json.specs.Data.{string}
use Rattle.serde_json.specs.Find.{get}
use Rattle.serde_json.specs.View.{view}
use Rattle.script_lines.specs.Reading.{Reads, IsCommandOf}
use Rattle.script_lines.proofs.ReadingLemmas.{as_str-string}
use Rattle.script_lines.proofs.ShapeLemmas.{one_named, two_named}
use Rattle.script_lines.proofs.read.command_of.Goals as goal

pub returns-in_ok-member-in-create-eq2 : goal.returns-in_ok-member-in-create-eq2
returns-in_ok-member-in-create-eq2 c =
    let at_do : get (codes "do") (view c.args.value.now) ≡ Some (string c.in-Some.name.now) = grind (arith, as_str-string) in
    let shape =
    two_named _ _ (codes "create") (codes "host") _ _ at_do c.in-create-eq2.is-create-0 c.member_count.ensures.count c.in-create-eq2.is-1 c.member_count.ensures.in_order refl c.in_ok-member-in-create-eq2.ensures.ok in
    subst (λ d. Reads (IsCommandOf d) c.create_of.result) (sym shape) c.create_of.ensures

pub returns-in-dump-eq1 : goal.returns-in-dump-eq1
returns-in-dump-eq1 c =
    let at_do : get (codes "do") (view c.args.value.now) ≡ Some (string c.in-Some.name.now) = grind (arith, as_str-string) in
    record { is = one_named _ _ (codes "dump") _ at_do c.in-dump-eq1.is-dump-0 c.member_count.ensures.count c.in-dump-eq1.is-1; limits = tt }

pub returns-in_ok-taken-in-steps-eq2 : goal.returns-in_ok-taken-in-steps-eq2
returns-in_ok-taken-in-steps-eq2 c =
    let at_do : get (codes "do") (view c.args.value.now) ≡ Some (string c.in-Some.name.now) = grind (arith, as_str-string) in
    let shape =
    two_named _ _ (codes "steps") (codes "events") _ _ at_do c.in-steps-eq2.is-steps-0 c.member_count.ensures.count c.in-steps-eq2.is-1 c.member_count.ensures.in_order refl c.in_ok-taken-in-steps-eq2.ensures.ok in
    subst (λ d. Reads (IsCommandOf d) c.steps_of.result) (sym shape) c.steps_of.ensures

pub returns-in-stop-eq1 : goal.returns-in-stop-eq1
returns-in-stop-eq1 c =
    let at_do : get (codes "do") (view c.args.value.now) ≡ Some (string c.in-Some.name.now) = grind (arith, as_str-string) in
    record { is = one_named _ _ (codes "stop") _ at_do c.in-stop-eq1.is-stop-0 c.member_count.ensures.count c.in-stop-eq1.is-1; limits = tt }

pub returns-in_ok-member-in-recover-eq2 : goal.returns-in_ok-member-in-recover-eq2
returns-in_ok-member-in-recover-eq2 c =
    let at_do : get (codes "do") (view c.args.value.now) ≡ Some (string c.in-Some.name.now) = grind (arith, as_str-string) in
    let shape =
    two_named _ _ (codes "recover") (codes "hosts") _ _ at_do c.in-recover-eq2.is-recover-0 c.member_count.ensures.count c.in-recover-eq2.is-1 c.member_count.ensures.in_order refl c.in_ok-member-in-recover-eq2.ensures.ok in
    subst (λ d. Reads (IsCommandOf d) c.recover_of.result) (sym shape) c.recover_of.ensures
