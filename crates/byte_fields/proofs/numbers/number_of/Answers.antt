use Rattle.std.proofs.Common.{ℕ, ◌+◌, ◌*◌, refl, ap, ◌∙◌, arith}
use Rattle.byte_fields.specs.Numbers.{big_endian}
use Rattle.byte_fields.proofs.NumbersLemmas.{number_more, number_whole}
use Rattle.byte_fields.proofs.numbers.number_of.Goals as goal

pub loop-byte-init : goal.loop-byte-init
unfolding big_endian
loop-byte-init c = refl

pub overflow_mul-number : goal.overflow_mul-number
overflow_mul-number c =
    let more = number_more c.args.bytes.now c.loop-byte.byte-index c.loop-byte.number c.type_inv.bytes c.requires c.loop-byte-test.true c.loop-byte.invariant in
    omega arith

pub overflow_add-number : goal.overflow_add-number
overflow_add-number c =
    let more = number_more c.args.bytes.now c.loop-byte.byte-index c.loop-byte.number c.type_inv.bytes c.requires c.loop-byte-test.true c.loop-byte.invariant in
    omega arith

pub loop-byte-preserved : goal.loop-byte-preserved
loop-byte-preserved c =
    let more = number_more c.args.bytes.now c.loop-byte.byte-index c.loop-byte.number c.type_inv.bytes c.requires c.loop-byte-test.true c.loop-byte.invariant in
    ap (λ (byte : ℕ). c.loop-byte.number * 256 + byte) c.from.ensures ∙ more.1

pub returns : goal.returns
returns c =
    let whole = number_whole c.args.bytes.now c.loop-byte.byte-index c.loop-byte.number c.type_inv.bytes c.loop-byte-test.false c.loop-byte.invariant in
    record { value = whole.0; text = whole.1; below = whole.2 }
