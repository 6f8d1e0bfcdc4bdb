use Rattle.std.proofs.Common.{◌≡◌, ℕ, ◌-◌, List, length, take, drop, ap, ◌∙◌, subst, arith, sym, Err, Some, length-take, length-drop}
use Rattle.std.proofs.lemmas.List.{take_all}
use Rattle.std.proofs.lemmas.Result.{err_from_is_err_and}
use Rattle.record_form.specs.GroupText.{IsGroupText}
use Rattle.store_journal.proofs.RecordLemmas.{cut_answer, cut_is_short, whole_answer}
use Rattle.store_journal.proofs.records.group_at.Goals as goal

pub returns-in_err-decoded : goal.returns-in_err-decoded
returns-in_err-decoded c =
    let bytes = c.args.bytes.now in
    let offset = c.args.offset in
    let rest = drop offset bytes in
    let whole : take (length bytes - offset) rest ≡ rest = take_all (length bytes - offset) rest (omega (arith, length-drop offset bytes)) in
    let p = err_from_is_err_and c.from_residual.result c.from_residual.ensures.1 in
    record {
      group = cut_answer c.from_residual.result c.decoded.result p.0 _ _ rest c.args.size offset p.1 (c.in_err-decoded.was ∙ ap Err (sym p.2)) whole
          (omega (arith, c.requires.offset, c.if-rest-size.true, length-drop offset bytes, length-take (length bytes - offset) rest))
          c.decoded.ensures.group;
    }

pub returns-then-rest-size : goal.returns-then-rest-size
returns-then-rest-size c =
    let bytes = c.args.bytes.now in
    let offset = c.args.offset in
    let rest = drop offset bytes in
    let whole : take (length bytes - offset) rest ≡ rest = take_all (length bytes - offset) rest (omega (arith, length-drop offset bytes)) in
    record {
      group =
          cut_is_short rest c.args.size offset c.in_ok-decoded.field-0
          (omega (arith, c.requires.offset, c.if-rest-size.true, length-drop offset bytes, length-take (length bytes - offset) rest))
          (subst (λ (l : List ℕ). IsGroupText l c.in_ok-decoded.field-0) whole c.in_ok-decoded.ensures.group)
          ∙ ap Some (omega (arith, c.requires.offset, length-drop offset bytes));
    }

pub returns : goal.returns
returns c =
    let bytes = c.args.bytes.now in
    let offset = c.args.offset in
    let rest = drop offset bytes in
    let whole : take (length bytes - offset) rest ≡ rest = take_all (length bytes - offset) rest (omega (arith, length-drop offset bytes)) in
    record {
      group = whole_answer c.decoded-2.result _ rest c.args.size offset (length bytes) (ap (λ (l : List ℕ). take c.args.size l) whole)
          (omega (arith, c.requires.offset, c.if-rest-size.false, length-drop offset bytes, length-take (length bytes - offset) rest))
          (omega (arith, c.requires.offset, c.if-rest-size.false, length-drop offset bytes, length-take (length bytes - offset) rest))
          c.decoded-2.ensures.group;
    }
