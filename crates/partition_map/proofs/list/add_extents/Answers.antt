use Rattle.std.proofs.Common.{◌≡◌, List, ◌++◌, ◌≤◌, [], take, length, ap, ◌∙◌, sym, subst, arith}
use Rattle.cache_key.specs.declared.request.Mutation.{Mutation}
use Rattle.cache_model.specs.PlainList.{plain_list}
use Rattle.partition_map.specs.Extents.{Extents, caches_in, plain_in}
use Rattle.partition_map.proofs.InOrderLemmas.{plain_list-cons, taken-more, taken-le, taken-full, taken-none}
use Rattle.partition_map.proofs.list.add_extents.Goals as goal

pub loop-name-preserved : goal.loop-name-preserved
loop-name-preserved c =
    let at = c.loop-name in
    let rest : Extents = c.next.new.self in
    let name = c.in-Some.name.now in
    let extent = c.in-Some.extent.now in
    let is = c.in_ok-add_items.ensures in (
      taken-more c.args.most c.add_items.new.items.items at.items.items (plain_in name extent) (plain_list (caches_in rest)) is
          ∙ ap (λ t. take c.args.most (at.items.items ++ t)) (sym (plain_list-cons (name, extent) rest) ∙ sym (ap (λ (es : Extents). plain_list (caches_in es)) c.in-Some.ensures.steps))
          ∙ at.invariant.0,
      subst (λ (t : List Mutation). length t ≤ c.args.most) (sym is) (taken-le c.args.most (at.items.items ++ plain_in name extent)),
    )

pub returns-then-len-most : goal.returns-then-len-most
returns-then-len-most c =
    let at = c.loop-name in
    taken-full c.args.most at.items.items (plain_list (caches_in at.name-iterator)) (omega (arith, c.if-len-most.true, c.len.ensures, at.invariant.1))
    ∙ at.invariant.0 ∙ ap (λ t. take c.args.most (c.args.items.now.items ++ plain_list (caches_in t))) c.into_iter-name-iterator.ensures.into_iter_gives

pub returns : goal.returns
returns c =
    let at = c.loop-name in
    let empty : at.name-iterator ≡ [] = c.in-None.ensures.steps.0 in
    taken-none c.args.most at.items.items at.invariant.1
    ∙ ap (λ t. take c.args.most (at.items.items ++ plain_list (caches_in t))) (sym empty)
    ∙ at.invariant.0 ∙ ap (λ t. take c.args.most (c.args.items.now.items ++ plain_list (caches_in t))) c.into_iter-name-iterator.ensures.into_iter_gives
