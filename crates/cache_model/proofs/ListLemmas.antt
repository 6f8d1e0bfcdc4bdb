-- Lists of entries whose keys rise in byte order, by their look-ups.
use Rattle.std.proofs.Common.{◌≡◌, ℕ, List, [], ◌∷◌, map, true, false, cond, ◌&&◌, Option, Some, None, option_and_then, is_some, ap, ◌∙◌, sym, refl}
use Rattle.std.specs.declared.cmp.Ordering.TheVariants.{Less}
use Rattle.std.specs.Ordering.{nat_cmp, is_lt}
use Rattle.std.specs.Bool.{passes}
use Rattle.std.specs.Cmp.Lexicographic.{slice_cmp, texts_ties, nat_list_cmp_total}
use Rattle.std.specs.Map.{lookup}
use Rattle.std.specs.List.{AllByRecursion}
use Rattle.std.specs.FinMap.Entries.{find, below_all, is_sorted, same_entries}
use Rattle.std.proofs.lemmas.Bool.{false≢true}
use Rattle.std.proofs.lemmas.Map.Keys.{sorted_head, sorted_tail}
use Rattle.std.proofs.lemmas.Map.Lookups.{exact_bytes}
use Rattle.cache_model.specs.Caches.{same, Pairs, Caches}
use Rattle.cache_model.specs.Contents.{IsRising, NamesRise, KeysRise}

lookup-find : {X : Type 0} (text : List ℕ) (entries : List (List ℕ × X)) → lookup (same text) entries ≡ find (slice_cmp nat_cmp) text entries
lookup-find text [] = refl
lookup-find text (e ∷ es) = λ i. cond (texts_ties text e.0 i) (Some e.1) (lookup-find text es i)

below_all-from : {X : Type 0} (text : List ℕ) (entries : List (List ℕ × X)) → AllByRecursion (λ other. slice_cmp nat_cmp text other ≡ Less) (map (λ e. e.0) entries) → below_all (slice_cmp nat_cmp) text entries ≡ true
below_all-from text [] below = refl
below_all-from text (e ∷ es) below = λ i. is_lt (below.0 i) && below_all-from text es below.1 i

is_sorted-from : {X : Type 0} (entries : List (List ℕ × X)) → IsRising (map (λ e. e.0) entries) → is_sorted (slice_cmp nat_cmp) entries ≡ true
is_sorted-from [] rise = refl
is_sorted-from (e ∷ es) rise =
    λ i. below_all-from e.0 es (sorted_head (slice_cmp nat_cmp) e.0 (map (λ f. f.0) es) rise) i && is_sorted-from es (sorted_tail (slice_cmp nat_cmp) e.0 (map (λ f. f.0) es) rise) i

-- two of them with the same look-ups are one list
pub same_from_lookups : {X : Type 0} (entries others : List (List ℕ × X)) → IsRising (map (λ e. e.0) entries) → IsRising (map (λ e. e.0) others) → ((text : List ℕ) → lookup (same text) entries ≡ lookup (same text) others) → entries ≡ others
same_from_lookups entries others rise others_rise alike =
    same_entries (slice_cmp nat_cmp) nat_list_cmp_total exact_bytes entries others (passes _ (is_sorted-from entries rise)) (passes _ (is_sorted-from others others_rise)) (λ text. sym (lookup-find text entries) ∙ alike text ∙ lookup-find text others)

-- the keys of a cache rise, if it is there
abbrev pub KeysRiseHere : Option Pairs → Type 0
KeysRiseHere None = Unit {0}
KeysRiseHere (Some pairs) = IsRising (map (λ p. p.0) pairs)

pub KeysRise-lookup : (cache : List ℕ) (caches : Caches) → KeysRise caches → KeysRiseHere (lookup (same cache) caches)
KeysRise-lookup cache [] rise = tt
KeysRise-lookup cache (c ∷ cs) rise =
    elim (same cache c.0) as (λ b. KeysRiseHere (cond b (Some c.1) (lookup (same cache) cs))) [ true ↦ rise.0 | false ↦ KeysRise-lookup cache cs rise.1 ]

pub same_pairs : (here there : Option Pairs) → KeysRiseHere here → KeysRiseHere there → is_some here ≡ is_some there → ((key : List ℕ) → option_and_then (lookup (same key)) here ≡ option_and_then (lookup (same key)) there) → here ≡ there
same_pairs None None rise others_rise present alike = refl
same_pairs None (Some q) rise others_rise present alike = absurd (false≢true present)
same_pairs (Some p) None rise others_rise present alike = absurd (false≢true (sym present))
same_pairs (Some p) (Some q) rise others_rise present alike = ap Some (same_from_lookups p q rise others_rise alike)

-- two lists of caches with the same presences and values are one list
pub same_caches : (caches others : Caches) → NamesRise caches → NamesRise others → KeysRise caches → KeysRise others → ((cache : List ℕ) → is_some (lookup (same cache) caches) ≡ is_some (lookup (same cache) others)) → ((cache key : List ℕ) → option_and_then (lookup (same key)) (lookup (same cache) caches) ≡ option_and_then (lookup (same key)) (lookup (same cache) others)) → caches ≡ others
same_caches caches others names others_names keys others_keys present alike =
    same_from_lookups caches others names others_names (λ cache. same_pairs (lookup (same cache) caches) (lookup (same cache) others) (KeysRise-lookup cache caches keys) (KeysRise-lookup cache others others_keys) (present cache) (alike cache))
