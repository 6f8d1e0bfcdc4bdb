use Rattle.std.proofs.Common.{◌≡◌, ◌++◌, ◌∷◌, [], take, length, ap, ◌∙◌, sym, append_assoc, arith}
use Rattle.std.proofs.lemmas.List.{length-append}
use Rattle.cache_key.specs.declared.request.Mutation.TheVariants.{Put}
use Rattle.cache_model.specs.PlainList.{puts_of}
use Rattle.partition_map.specs.Place.{pairs_shown, PlaceList}
use Rattle.partition_map.proofs.InOrderLemmas.{taken-full, taken-none}
use Rattle.partition_map.proofs.places.add_puts.Goals as goal

pub loop-key-preserved : goal.loop-key-preserved
loop-key-preserved c =
    let at = c.loop-key in
    let rest : PlaceList = c.next.new.self in
    let step : pairs_shown at.key-iterator ≡ pairs_shown rest = ap pairs_shown c.in-Some.ensures.steps ∙ ap (λ v. pairs_shown ((c.in-Some.key.now, v) ∷ rest)) c.in_default.is in
    (ap (λ t. take c.args.most (at.items.items ++ puts_of c.args.name.now t)) (sym step) ∙ at.invariant.0, at.invariant.1)

pub loop-key-preserved-in_ok-push : goal.loop-key-preserved-in_ok-push
loop-key-preserved-in_ok-push c =
    let at = c.loop-key in
    let name = c.args.name.now in
    let rest : PlaceList = c.next.new.self in
    let step : pairs_shown at.key-iterator ≡ (c.in-Some.key.now, c.in-Some-place.value) ∷ pairs_shown rest = ap pairs_shown c.in-Some.ensures.steps ∙ ap (λ v. pairs_shown ((c.in-Some.key.now, v) ∷ rest)) c.in-Some-place.is in (
      ap (take c.args.most)
          (ap (λ t. t ++ puts_of name (pairs_shown rest)) c.in_ok-push.ensures.items
          ∙ append_assoc at.items.items (Put c.in_ok-copy.field-0 c.in_ok-copy-2.field-0 c.in_ok-copy-3.field-0 ∷ []) (puts_of name (pairs_shown rest))
          ∙ ap (λ t. at.items.items ++ t) ((λ i. Put (c.in_ok-copy.ensures i) (c.in_ok-copy-2.ensures i) (c.in_ok-copy-3.ensures i) ∷ puts_of name (pairs_shown rest)) ∙ sym (ap (puts_of name) step)))
          ∙ at.invariant.0,
      omega (arith, ap length c.in_ok-push.ensures.items, length-append at.items.items (Put c.in_ok-copy.field-0 c.in_ok-copy-2.field-0 c.in_ok-copy-3.field-0 ∷ []), c.if-len-most.false, c.len.ensures, at.invariant.1),
    )

pub returns-then-len-most : goal.returns-then-len-most
returns-then-len-most c =
    let at = c.loop-key in
    taken-full c.args.most at.items.items (puts_of c.args.name.now (pairs_shown at.key-iterator)) (omega (arith, c.if-len-most.true, c.len.ensures, at.invariant.1))
    ∙ at.invariant.0 ∙ ap (λ t. take c.args.most (c.args.items.now.items ++ puts_of c.args.name.now (pairs_shown t))) c.into_iter-key-iterator.ensures.into_iter_gives

pub returns : goal.returns
returns c =
    let at = c.loop-key in
    let empty : at.key-iterator ≡ [] = c.in-None.ensures.steps.0 in
    taken-none c.args.most at.items.items at.invariant.1
    ∙ ap (λ t. take c.args.most (at.items.items ++ puts_of c.args.name.now (pairs_shown t))) (sym empty)
    ∙ at.invariant.0 ∙ ap (λ t. take c.args.most (c.args.items.now.items ++ puts_of c.args.name.now (pairs_shown t))) c.into_iter-key-iterator.ensures.into_iter_gives
