use Rattle.std.proofs.Common.{length, take, arith, subst, ap, ◌∙◌, length-take, length-drop}
use Rattle.std.specs.Str.{IsUtf8}
use Rattle.byte_fields.specs.Reading.{rest_of}
use Rattle.record_form.proofs.NameLemmas.{prefix_utf8}
use Rattle.record_form.proofs.read_text.name_characters.Goals as goal

pub overflow_add-result : goal.overflow_add-result
overflow_add-result c =
    let prefix = ap length (c.prefix_of-prefix.ensures ∙ ap (take c.args.count) c.rest.ensures.rest) in
    omega (arith, prefix, length-take c.args.count (rest_of c.args.cursor.now), length-drop c.args.cursor.now.offset c.args.cursor.now.text)

pub pass_text-requires : goal.pass_text-requires
pass_text-requires c = λ long.
    subst IsUtf8 (c.prefix_of-prefix.ensures ∙ ap (take c.args.count) c.rest.ensures.rest) (prefix_utf8 c.prefix_of-prefix.result.now (omega arith))
