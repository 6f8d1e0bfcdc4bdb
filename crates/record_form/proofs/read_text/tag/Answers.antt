use Rattle.std.proofs.Common.{◌≡◌, false, inl, inr}
use Rattle.record_form.specs.Form.{BadTag}
use Rattle.record_form.specs.GroupText.{is_within}
use Rattle.record_form.proofs.ReadsLemmas.{head_ok, head_refused, outside, inside}
use Rattle.record_form.proofs.read_text.tag.Goals as goal
use Rattle.record_form.proofs.read_text.tag.Goals.{then-tag-lt-PUT_TAG-via-then-tag-lt-PUT_TAG, then-tag-lt-PUT_TAG-via-else-tag-lt-PUT_TAG+then-tag-gt-BATCH_TAG}

pub returns-then-tag-lt-PUT_TAG-clause-tag : goal.returns-then-tag-lt-PUT_TAG-clause-tag
returns-then-tag-lt-PUT_TAG-clause-tag c =
    let found = c.in-Ok.ensures.text in
    let out : is_within 1 6 c.in-Ok.tag ≡ false =
    elim c.then-tag-lt-PUT_TAG.branch [
      | then-tag-lt-PUT_TAG-via-then-tag-lt-PUT_TAG w ↦ outside 1 6 c.in-Ok.tag (inl w.if-tag-lt-PUT_TAG.true)
      | then-tag-lt-PUT_TAG-via-else-tag-lt-PUT_TAG+then-tag-gt-BATCH_TAG w ↦ outside 1 6 c.in-Ok.tag (inr w.if-tag-gt-BATCH_TAG.true)
    ] in
    rw c.at-offset.ensures.offset (head_refused 1 BadTag (is_within 1 6) c.args.cursor.now c.u8.new.self c.in-Ok.tag found.0 found.1 out c.at-offset.ensures.within)

pub returns-else-tag-gt-BATCH_TAG-clause-tag : goal.returns-else-tag-gt-BATCH_TAG-clause-tag
returns-else-tag-gt-BATCH_TAG-clause-tag c =
    let found = c.in-Ok.ensures.text in
    head_ok 1 BadTag (is_within 1 6) c.args.cursor.now c.u8.new.self c.in-Ok.tag found.0 found.1 (inside 1 6 c.in-Ok.tag c.if-tag-lt-PUT_TAG.false c.if-tag-gt-BATCH_TAG.false)
