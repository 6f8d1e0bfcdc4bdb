use Rattle.std.proofs.Common.{◌≡◌, ◌++◌, ◌∷◌, [], ap, ◌∙◌, sym, append-nil, append_assoc}
use Rattle.std.specs.Map.{keys_of}
use Rattle.std.proofs.lemmas.List.{nil_from_length}
use Rattle.cache_model.specs.Caches.{Pairs}
use Rattle.partition_map.proofs.readied.copy_first.Goals as goal

pub loop-first-preserved : goal.loop-first-preserved
loop-first-preserved c =
    let at = c.loop-first in
    let rest : Pairs = c.in-Some.others.now in
    let split : at.rest.now ≡ c.in-Some.first.now ∷ rest = c.in-Some.ensures.cases.0 in
    ap (λ t. t ++ keys_of rest) c.in_ok-push.ensures.items
    ∙ append_assoc at.keys.items (c.in_ok-copy.field-0 ∷ []) (keys_of rest)
    ∙ ap (λ k. at.keys.items ++ k ∷ keys_of rest) c.in_ok-copy.ensures
    ∙ sym (ap (λ (ps : Pairs). at.keys.items ++ keys_of ps) split) ∙ at.invariant

pub returns : goal.returns
returns c =
    let at = c.loop-first in
    let none : at.rest.now ≡ [] = nil_from_length at.rest.now c.in_default.ensures.cases in
    sym (append-nil at.keys.items) ∙ sym (ap (λ (ps : Pairs). at.keys.items ++ keys_of ps) none) ∙ at.invariant
