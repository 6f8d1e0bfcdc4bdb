use Rattle.std.proofs.Common.{◌∙◌, subst}
use Rattle.std.proofs.lemmas.Result.{err_from_is_err_and}
use Rattle.byte_fields.specs.Reading.{rest_of}
use Rattle.record_form.specs.Form.{read_many}
use Rattle.record_form.specs.Reads.{Refuses}
use Rattle.record_form.specs.GroupText.{mutation_form}
use Rattle.record_form.proofs.ReadsLemmas.{goes_on, ends, is_done}
use Rattle.record_form.proofs.read_group.mutations.Goals as goal

pub returns-in_err-mutation : goal.returns-in_err-mutation
returns-in_err-mutation c =
    let p = err_from_is_err_and c.from_residual.result c.from_residual.ensures.1 in
    rw (p.1, p.2) (ends mutation_form.read c.in_err-mutation.field-0.0 c.args.cursor.now.text c.loop.mutations.items c.args.count c.loop.counter (rest_of c.loop.cursor) (read_many mutation_form.read c.args.count (rest_of c.args.cursor.now)) c.loop-test.true
    (subst (λ text. Refuses c.in_err-mutation.field-0.0 text (mutation_form.read (rest_of c.loop.cursor))) c.loop.invariant.same_text c.in_err-mutation.ensures) c.loop.invariant.so_far)

pub loop-preserved : goal.loop-preserved
loop-preserved c = record {
  so_far = rw c.in_ok-add.ensures.ok (goes_on mutation_form.read c.loop.mutations.items c.args.count c.loop.counter (rest_of c.loop.cursor) c.in_ok-mutation.mutation (rest_of c.mutation.new.cursor)
      (read_many mutation_form.read c.args.count (rest_of c.args.cursor.now)) c.loop-test.true c.in_ok-mutation.ensures.0 c.loop.invariant.so_far);
  same_text = c.in_ok-mutation.ensures.1 ∙ c.loop.invariant.same_text;
}

pub returns : goal.returns
returns c = (is_done mutation_form.read c.loop.mutations.items c.args.count c.loop.counter (rest_of c.loop.cursor) (read_many mutation_form.read c.args.count (rest_of c.args.cursor.now)) c.loop-test.false c.loop.invariant.so_far, c.loop.invariant.same_text)
