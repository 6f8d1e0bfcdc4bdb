use Rattle.std.proofs.Common.{◌≡◌, ◌≤◌, ◌+◌, ◌*◌, List, [], ◌∷◌, length, ap, sym, subst, arith, ⊎_elim, unwrap_or, Option}
use Rattle.std.proofs.lemmas.Result.{IfOk-weaker}
use Rattle.cache_key.specs.declared.request.Mutation.{Mutation}
use Rattle.record_form.specs.GroupText.{group_text}
use Rattle.record_form.proofs.GroupLengthLemmas.{group_more, length_of_one}
use Rattle.store_build.proofs.RecordLemmas.{longer_group}
use Rattle.store_build.proofs.record.with_item.Goals as goal

pub returns-in_default-clause-short : goal.returns-in_default-clause-short
returns-in_default-clause-short c =
    let short = c.read_texts.ensures.short in
    IfOk-weaker c.one.result (λ (longer : List Mutation). longer ≡ c.args.item ∷ []) (λ (longer : List Mutation). length (group_text longer) ≤ 1 + 66632 * length longer)
    (λ longer is. subst (λ (ms : List Mutation). length (group_text ms) ≤ 1 + 66632 * length ms) (sym is) (omega (arith, length_of_one c.args.item, short)))
    c.one.ensures

pub unreachable-requires : goal.unreachable-requires
unreachable-requires c =
    let group : List Mutation = c.in-Some.group in
    let same = ap (λ (o : Option (List Mutation)). length (unwrap_or o [])) c.in-Some.is in
    let text = ap (λ (o : Option (List Mutation)). length (group_text (unwrap_or o []))) c.in-Some.is in
    let few = c.requires.few in
    let so_far = c.requires.short in
    let short = c.read_texts.ensures.short in
    let more = group_more group c.args.item in
    ⊎_elim
    (λ full. omega (arith, full, same, few))
    (λ long. omega (arith, long, more, same, text, few, so_far, short))
    (c.in-Err-Full-default.ensures.full.0 c.in-Err-Full-default.field-0-0-is)

pub returns-in-Ok-clause-short : goal.returns-in-Ok-clause-short
returns-in-Ok-clause-short c =
    let so_far = subst (λ (o : Option (List Mutation)). length (group_text (unwrap_or o [])) ≤ 1 + 66632 * length (unwrap_or o [])) c.in-Some.is c.requires.short in
    subst (λ (ms : List Mutation). length (group_text ms) ≤ 1 + 66632 * length ms) (sym c.in-Ok.ensures.ok)
    (longer_group c.in-Some.group c.args.item so_far c.read_texts.ensures.short)
