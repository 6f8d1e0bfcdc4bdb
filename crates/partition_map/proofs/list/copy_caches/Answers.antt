use Rattle.std.proofs.Common.{◌≡◌, ℕ, List, ◌++◌, ◌∷◌, [], ap, ◌∙◌, sym, subst, append-nil, append_assoc}
use Rattle.std.specs.Map.{keys_of}
use Rattle.cache_model.specs.Caches.{Caches}
use Rattle.cache_model.specs.Contents.{IsRising}
use Rattle.cache_model.specs.Shown.{caches_shown}
use Rattle.partition_map.specs.declared.extent.Extent.{Extent}
use Rattle.partition_map.specs.Extents.{Extents, extent_shown, caches_in}
use Rattle.partition_map.proofs.InOrderLemmas.{caches_in-cons}
use Rattle.partition_map.proofs.ShownLemmas.{rising-shown_by}
use Rattle.partition_map.proofs.list.copy_caches.Goals as goal

pub loop-name-preserved : goal.loop-name-preserved
loop-name-preserved c =
    let at = c.loop-name in
    let rest : Extents = c.next.new.self in
    let one : List ℕ × Extent = (c.in-Some.name.now, c.in-Some.extent.now) in
    let all : (caches_shown at.caches ++ caches_in (one ∷ [])) ++ caches_in rest ≡ caches_in c.args.extents.now.entries =
    append_assoc (caches_shown at.caches) (caches_in (one ∷ [])) (caches_in rest) ∙ ap (λ t. caches_shown at.caches ++ t) (sym (caches_in-cons one rest) ∙ sym (ap caches_in c.in-Some.ensures.steps)) ∙ at.invariant in
    ap (λ t. t ++ caches_in rest) (c.in_ok-copy_into.ensures (caches_in rest) (subst (λ (es : Caches). IsRising (keys_of es)) (sym all) (rising-shown_by extent_shown c.args.extents.now.entries c.requires.rises))) ∙ all

pub returns : goal.returns
returns c =
    let at = c.loop-name in
    let empty : at.name-iterator ≡ [] = c.in-None.ensures.steps.0 in
    sym (append-nil (caches_shown at.caches)) ∙ ap (λ t. caches_shown at.caches ++ caches_in t) (sym empty) ∙ at.invariant
