use Rattle.std.proofs.Common.{ℕ, List, ◌++◌, ◌∷◌, [], map, Option, option_map, ap, ◌∙◌, sym, subst, append_assoc}
use Rattle.std.specs.Ordering.{nat_cmp}
use Rattle.std.specs.Cmp.Lexicographic.{slice_cmp}
use Rattle.std.specs.List.{cons_option}
use Rattle.std.specs.Map.{keys_of}
use Rattle.std.specs.BTreeMap.{BTreeMap, insert_entry}
use Rattle.std.proofs.lemmas.Map.Made.{keys_of-map_values}
use Rattle.cache_model.specs.Caches.{Pairs, Caches}
use Rattle.cache_model.specs.Contents.{IsRising}
use Rattle.cache_model.specs.Shown.{caches_shown}
use Rattle.partition_map.specs.Place.{pairs_shown}
use Rattle.partition_map.proofs.InOrderLemmas.{shown-there, insert-last, map-append}
use Rattle.partition_map.proofs.extent.Extent.copy_into.Goals as goal

pub returns : goal.returns
returns c = λ later rise.
    let old = c.args.caches.now in
    let name = c.args.name.now in
    let pairs = c.in_ok-pairs.pairs in
    let shown = shown-there c.args.self.now c.if-not-self.false in
    let one = (λ (o : Option Pairs). cons_option (option_map (λ (y : Pairs). (name, y)) o) []) in
    let rise_at = subst (λ (es : Caches). IsRising (keys_of es)) (append_assoc (caches_shown old) ((name, pairs_shown c.args.self.now.places) ∷ []) later) (subst (λ (o : Option Pairs). IsRising (keys_of (caches_shown old ++ one o ++ later))) shown rise) in
    ap (map (λ (e : List ℕ × BTreeMap (List ℕ) (List ℕ)). (e.0, e.1.entries)))
    (c.in_ok-insert.ensures.entries
    ∙ ap (λ k. insert_entry (slice_cmp nat_cmp) old.entries k pairs) c.in_ok-copy.ensures
    ∙ insert-last old.entries name pairs (caches_shown old) later (pairs_shown c.args.self.now.places) (sym (keys_of-map_values (λ (n : BTreeMap (List ℕ) (List ℕ)). n.entries) old.entries)) rise_at)
    ∙ map-append (λ (e : List ℕ × BTreeMap (List ℕ) (List ℕ)). (e.0, e.1.entries)) old.entries ((name, pairs) ∷ [])
    ∙ ap (λ (ps : Pairs). caches_shown old ++ (name, ps) ∷ []) c.in_ok-pairs.ensures
    ∙ sym (ap (λ o. caches_shown old ++ one o) shown)
