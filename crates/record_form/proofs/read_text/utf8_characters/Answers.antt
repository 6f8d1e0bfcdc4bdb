use Rattle.std.proofs.Common.{◌≡◌, List, ℕ, ◌-◌, length, take, drop, arith, subst, ap, ◌∙◌, sym, length-take, length-drop, true}
use Rattle.std.proofs.lemmas.List.{length-take-le, take_all}
use Rattle.std.specs.Str.{IsUtf8}
use Rattle.byte_fields.specs.Reading.{rest_of}
use Rattle.record_form.specs.Characters.{may_continue}
use Rattle.record_form.proofs.Utf8Lemmas.{unbroken_utf8}
use Rattle.record_form.proofs.read_text.utf8_characters.Goals as goal

pub overflow_add-result : goal.overflow_add-result
overflow_add-result c =
    let prefix = ap length (c.prefix_of-prefix.ensures ∙ ap (take c.args.count) c.rest.ensures.rest) in
    omega (arith, prefix, length-take c.args.count (rest_of c.args.cursor.now), length-drop c.args.cursor.now.offset c.args.cursor.now.text)

pub pass_text-requires : goal.pass_text-requires
pass_text-requires c = λ long.
    let is = c.prefix_of-prefix.ensures ∙ ap (take c.args.count) c.rest.ensures.rest in
    let prefix = c.prefix_of-prefix.result.now in
    let size = ap length is ∙ length-take-le c.args.count (rest_of c.args.cursor.now) long in
    let valid = c.valid_length-valid.result in
    let all : take (length prefix - valid) (drop valid prefix) ≡ drop valid prefix = take_all (length prefix - valid) (drop valid prefix) (omega (arith, length-drop valid prefix)) in
    let goes : may_continue (drop valid prefix) (c.args.count - valid) ≡ true = ap (λ (l : List ℕ). may_continue l (c.args.count - valid)) (sym all) ∙ sym c.may_continue.ensures ∙ c.if-not-may_continue.false in
    subst IsUtf8 is (unbroken_utf8 c.args.count prefix size (rw c.valid_length-valid.ensures.valid at goes))
