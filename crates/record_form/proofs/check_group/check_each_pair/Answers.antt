use Rattle.std.proofs.Common.{◌≡◌, ◌∙◌, List, ℕ, Ok, Err, subst}
use Rattle.std.proofs.lemmas.Result.{err_from_is_err_and}
use Rattle.byte_fields.specs.Reading.{rest_of}
use Rattle.record_form.specs.Form.{read_many}
use Rattle.record_form.specs.Reads.{outcome}
use Rattle.record_form.specs.GroupText.{pair_form}
use Rattle.record_form.proofs.SkipLemmas.{one_skipped, skip_fails, all_skipped}
use Rattle.record_form.proofs.check_group.check_each_pair.Goals as goal

pub returns-in_err-check_pair : goal.returns-in_err-check_pair
returns-in_err-check_pair c =
    let p = err_from_is_err_and c.from_residual.result c.from_residual.ensures.1 in
    let fault = c.in_err-check_pair.field-0.0 in
    let text = c.args.cursor.now.text in
    rw (p.1, p.2) (skip_fails pair_form.read text c.args.count c.loop.counter (rest_of c.loop.cursor) fault (outcome text (read_many pair_form.read c.args.count (rest_of c.args.cursor.now))) c.loop-test.true
    (subst (λ (t : List ℕ). outcome t (pair_form.read (rest_of c.loop.cursor)) ≡ Err fault) c.loop.invariant.same_text c.in_err-check_pair.ensures) c.loop.invariant.so_far)

pub loop-preserved : goal.loop-preserved
loop-preserved c =
    let text = c.args.cursor.now.text in
    record {
      so_far = one_skipped pair_form.read text c.args.count c.loop.counter (rest_of c.loop.cursor) (rest_of c.check_pair.new.cursor) (outcome text (read_many pair_form.read c.args.count (rest_of c.args.cursor.now))) c.loop-test.true
          (subst (λ (t : List ℕ). outcome t (pair_form.read (rest_of c.loop.cursor)) ≡ Ok (rest_of c.check_pair.new.cursor)) c.loop.invariant.same_text c.in_ok-check_pair.ensures.0) c.loop.invariant.so_far;
      same_text = c.in_ok-check_pair.ensures.1 ∙ c.loop.invariant.same_text;
    }

pub returns : goal.returns
returns c =
    let text = c.args.cursor.now.text in
    (all_skipped pair_form.read text c.args.count c.loop.counter (rest_of c.loop.cursor) (outcome text (read_many pair_form.read c.args.count (rest_of c.args.cursor.now))) c.loop-test.false c.loop.invariant.so_far, c.loop.invariant.same_text)
