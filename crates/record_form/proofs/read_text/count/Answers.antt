use Rattle.std.proofs.Common.{arith, ◌≡◌, false, inl, inr}
use Rattle.record_form.specs.Form.{OutOfRange}
use Rattle.record_form.specs.GroupText.{is_within}
use Rattle.record_form.proofs.ReadsLemmas.{head_ok, head_refused, outside, inside}
use Rattle.record_form.proofs.read_text.count.Goals as goal
use Rattle.record_form.proofs.read_text.count.Goals.{then-number-least-via-then-number-least, then-number-least-via-else-number-least+then-number-most}

pub returns-then-number-least-clause-count : goal.returns-then-number-least-clause-count
returns-then-number-least-clause-count c =
    let found = c.in-Ok.ensures.text in
    let out : is_within c.args.least c.args.most c.in-Ok.number ≡ false =
    elim c.then-number-least.branch [
      | then-number-least-via-then-number-least w ↦ outside c.args.least c.args.most c.in-Ok.number (inl w.if-number-least.true)
      | then-number-least-via-else-number-least+then-number-most w ↦ outside c.args.least c.args.most c.in-Ok.number (inr w.if-number-most.true)
    ] in
    rw c.at-offset.ensures.offset (head_refused c.args.size OutOfRange (is_within c.args.least c.args.most) c.args.cursor.now c.number.new.self c.in-Ok.number found.0 found.1
    out c.at-offset.ensures.within)

pub returns-else-number-most-clause-count : goal.returns-else-number-most-clause-count
returns-else-number-most-clause-count c =
    let found = c.in-Ok.ensures.text in
    head_ok c.args.size OutOfRange (is_within c.args.least c.args.most) c.args.cursor.now c.number.new.self c.in-Ok.number found.0 found.1
    (inside c.args.least c.args.most c.in-Ok.number (omega arith) (omega arith))
