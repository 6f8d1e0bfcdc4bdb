-- A byte that is no digit ends the number; a digit makes it longer.
use Rattle.std.proofs.Common.{◌+◌, ◌-◌, ◌*◌, ◌^◌, min, refl, inl, inr, ap, ◌∙◌, arith}
use Rattle.std.specs.List.{slice_index}
use Rattle.store_ident.proofs.ScanLemmas.{IsReadSoFar-more, IsLeading-stop}
use Rattle.store_ident.proofs.number.leading_number.Goals as goal
use Rattle.store_ident.proofs.number.leading_number.Goals.{else-length-gt0-via-then-length-gt0+else-text-eq-ZERO, else-length-gt0-via-else-length-gt0}

pub returns-in_default : goal.returns-in_default
returns-in_default c =
    IsLeading-stop c.args.base c.args.text.now c.loop-length.length (slice_index c.args.text.now c.loop-length.length) c.loop-length.value (omega arith) refl c.loop-length.invariant (inl (λ digit. c.in_default.ensures digit))

pub loop-length-preserved : goal.loop-length-preserved
loop-length-preserved c =
    IsReadSoFar-more c.args.base c.args.text.now c.loop-length.length (slice_index c.args.text.now c.loop-length.length) c.loop-length.value c.in-Some.digit c.saturating_add-value.result
    (omega arith) (omega arith) refl c.loop-length.invariant c.in-Some.ensures.0 c.in-Some.ensures.1
    (elim c.else-length-gt0.branch [
      | else-length-gt0-via-then-length-gt0+else-text-eq-ZERO w ↦ inr (λ zero. omega (arith, w.if-text-eq-ZERO.false))
      | else-length-gt0-via-else-length-gt0 w ↦ inl (omega (arith, w.if-length-gt0.false))
    ])
    (c.saturating_add-value.ensures ∙ (λ i. min (c.saturating_mul.ensures i + c.from-in-loop-length.ensures i) (2 ^ 64 - 1)) ∙ ap (λ b. min (min (c.loop-length.value * b) (2 ^ 64 - 1) + c.in-Some.digit) (2 ^ 64 - 1)) c.from.ensures)
