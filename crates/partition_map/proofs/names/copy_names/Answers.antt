use Rattle.std.proofs.Common.{◌≡◌, ℕ, List, Bool, ◌++◌, ◌∷◌, [], None, ap, ◌∙◌, sym, subst, append-nil, append_assoc}
use Rattle.std.specs.Cmp.Lexicographic.{nat_list_eq_equiv}
use Rattle.std.specs.List.{IsDistinct}
use Rattle.std.specs.Map.{lookup, keys_of}
use Rattle.indexmap.specs.IndexMap.{insert_entry}
use Rattle.indexmap.proofs.CallerLemmas.{insert_entry-new}
use Rattle.indexmap.proofs.MapLemmas.{absent_before}
use Rattle.cache_model.specs.Caches.{same}
use Rattle.partition_map.specs.Marks.{Marks}
use Rattle.partition_map.proofs.names.copy_names.Goals as goal

pub loop-name-preserved : goal.loop-name-preserved
loop-name-preserved c =
    let at = c.loop-name in
    let rest : Marks = c.next.new.self in
    let one : List ℕ × Bool = (c.in-Some.name.now, c.in-Some.mark.now) in
    let all : at.copied.entries ++ one ∷ rest ≡ c.args.names.now.entries = ap (λ t. at.copied.entries ++ t) (sym c.in-Some.ensures.steps) ∙ at.invariant in
    let apart = subst (λ (es : Marks). IsDistinct same (keys_of es)) (sym all) c.len.ensures.unique in
    let none : lookup (same one.0) at.copied.entries ≡ None = absent_before nat_list_eq_equiv at.copied.entries rest one apart in
    ap (λ t. t ++ rest) (c.in_ok-insert.ensures.entries ∙ ap (λ k. insert_entry same at.copied.entries k one.1) c.in_ok-copy.ensures ∙ insert_entry-new same at.copied one.0 one.1 none)
    ∙ append_assoc at.copied.entries (one ∷ []) rest ∙ all

pub returns : goal.returns
returns c =
    let at = c.loop-name in
    let empty : at.name-iterator ≡ [] = c.in-None.ensures.steps.0 in
    sym (append-nil at.copied.entries) ∙ ap (λ t. at.copied.entries ++ t) (sym empty) ∙ at.invariant
