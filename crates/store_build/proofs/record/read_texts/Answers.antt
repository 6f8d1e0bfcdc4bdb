use Rattle.std.proofs.Common.{length, ap, arith}
use Rattle.cache_key.specs.declared.request.Mutation.{Mutation}
use Rattle.record_form.specs.GroupText.{mutation_text}
use Rattle.record_form.proofs.GroupLengthLemmas.{length_put, length_name}
use Rattle.store_build.proofs.record.read_texts.Goals as goal

pub returns-in-Put : goal.returns-in-Put
returns-in-Put c =
    let cache = c.text.ensures.limits.most in
    let key = c.text-in-Put.ensures.limits.most in
    let value = c.text-in-Put-2.ensures.limits.most in
    record { short = omega (arith, ap (λ (m : Mutation). length (mutation_text m)) c.in-Put.is, length_put c.in-Put.cache c.in-Put.key c.in-Put.value, cache, key, value) }

pub returns-in-Ensure : goal.returns-in-Ensure
returns-in-Ensure c =
    let cache = c.text-in-Ensure.ensures.limits.most in
    record { short = omega (arith, ap (λ (m : Mutation). length (mutation_text m)) c.in-Ensure.is, length_name 3 c.in-Ensure.cache, cache) }
