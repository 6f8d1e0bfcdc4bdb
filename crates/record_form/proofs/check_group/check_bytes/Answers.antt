use Rattle.std.proofs.Common.{◌≡◌, arith, ap, sym, ◌∙◌, length}
use Rattle.std.proofs.lemmas.Result.{err_from_is_err_and}
use Rattle.byte_fields.specs.Reading.{Reading}
use Rattle.record_form.proofs.SkipLemmas.{fault_there, some_left}
use Rattle.record_form.proofs.check_group.check_bytes.Goals as goal

pub returns-in_err-check_counted : goal.returns-in_err-check_counted
returns-in_err-check_counted c =
    let p = err_from_is_err_and c.from_residual.result c.from_residual.ensures.1 in
    rw (p.1, p.2) (fault_there c.args.bytes.now c.in_err-check_counted.field-0.0 (rw c.over-cursor.ensures at c.in_err-check_counted.ensures))

pub returns-then-not-is_at_end : goal.returns-then-not-is_at_end
returns-then-not-is_at_end c =
    let e = c.in_ok-check_counted.ensures in
    let cursor = c.check_counted.new.cursor in
    let text : cursor.text ≡ c.args.bytes.now = e.1 ∙ ap (λ (r : Reading). r.text) c.over-cursor.ensures in
    some_left c.args.bytes.now cursor c.at-end.result (rw c.over-cursor.ensures at e.0) text (sym c.at-end.ensures.offset) (omega (arith, c.at-end.ensures.within, c.at-end.ensures.offset, ap length text)) (λ none. let end = c.is_at_end.ensures.1 none in let other = c.if-not-is_at_end.true in absurd cc)
