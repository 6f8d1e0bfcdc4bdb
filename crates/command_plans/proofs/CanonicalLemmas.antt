-- The computed contents are those after the changes, in the one order, and their canonical list leaves the same.
use Rattle.std.proofs.Common.{◌≡◌, ℕ, List, [], ◌∷◌, ◌++◌, map, reverse, Bool, true, false, cond, Option, Some, None, is_some, unwrap_or, ap, ◌∙◌, sym, refl, subst}
use Rattle.std.specs.declared.cmp.Ordering.{Ordering}
use Rattle.std.specs.declared.cmp.Ordering.TheVariants.{Less, Equal, Greater}
use Rattle.std.specs.Ordering.{nat_cmp, is_eq, match_ordering, ordering_reverse}
use Rattle.std.specs.Cmp.Lexicographic.{slice_cmp, texts_ties, bytes_decides, nat_list_eq_equiv, nat_list_cmp_total}
use Rattle.std.specs.List.{AllByRecursion}
use Rattle.std.specs.Map.{lookup, keys_of, remove_entry}
use Rattle.std.proofs.lemmas.List.{append-nil, append_assoc, reverse-append, map-append}
use Rattle.std.proofs.lemmas.Map.Keys.{sorted_head, sorted_tail}
use Rattle.cache_key.specs.declared.request.Mutation.{Mutation}
use Rattle.cache_key.specs.declared.request.Mutation.TheVariants.{Put, Remove, Ensure, Truncate, Destroy, Batch}
use Rattle.cache_model.specs.Caches.{same, Pairs, Caches, value_in}
use Rattle.cache_model.specs.Change.{Change, put, remove, ensure, truncate, destroy, batch, change_of, changes_of, writes, value_left, rules, presence_left}
use Rattle.cache_model.specs.Contents.{IsRising, NamesRise, KeysRise, AreContentsAfter, SameContents, value_looking_back, presence_looking_back}
use Rattle.cache_model.specs.PlainList.{plain_list}
use Rattle.cache_model.specs.Size.{pairs_in}
use Rattle.cache_model.specs.Step.{IsReplaced, IsChangedBy}
use Rattle.cache_model.proofs.EntriesLemmas.{rising_none, rising_cons, rising-remove_entry, lookup_without}
use Rattle.cache_model.proofs.ListLemmas.{KeysRiseHere, KeysRise-lookup}
use Rattle.cache_model.proofs.StepLemmas.{found, IsChangedBy-put, IsChangedBy-remove, IsChangedBy-remove_absent, IsChangedBy-truncate_absent, IsChangedBy-truncate_present, IsChangedBy-destroy, IsChangedBy-batch_none, IsChangedBy-batch_more}
use Rattle.command_plans.specs.Canonical.{with_entry, with_cache, with_pair, with_each_pair, with_pairs_if, changed_by, caches_looking_back, contents_of, canonical_list}

-- ---- one entry

overwritten : {X : Type 0} (b : Bool) (value old rest : Option X) → cond b value rest ≡ cond b value (cond b old rest)
overwritten true value old rest = refl
overwritten false value old rest = refl

in_either_order : {X : Type 0} (b c : Bool) (one other rest : Option X) → (b ≡ true → c ≡ true → ⊥) → cond b one (cond c other rest) ≡ cond c other (cond b one rest)
in_either_order true true one other rest apart = absurd (apart refl refl)
in_either_order true false one other rest apart = refl
in_either_order false c one other rest apart = refl

-- what a look-up finds after it
lookup_with : {X : Type 0} (es : List (List ℕ × X)) (key : List ℕ) (value : X) (text : List ℕ) → lookup (same text) (with_entry es key value) ≡ cond (same key text) (Some value) (lookup (same text) es)
lookup_with [] key value text = λ i. cond (nat_list_eq_equiv.symm text key i) (Some value) None
lookup_with {X} (e ∷ es) key value text = by (lookup_with es key value text) (slice_cmp nat_cmp key e.0) refl
  where
    by : lookup (same text) (with_entry es key value) ≡ cond (same key text) (Some value) (lookup (same text) es) → (o : Ordering) → slice_cmp nat_cmp key e.0 ≡ o
        → lookup (same text) (match_ordering o ((key, value) ∷ e ∷ es) ((e.0, value) ∷ es) (e ∷ with_entry es key value)) ≡ cond (same key text) (Some value) (lookup (same text) (e ∷ es))
    by later Less is = λ i. cond (nat_list_eq_equiv.symm text key i) (Some value) (lookup (same text) (e ∷ es))
    by later Equal is =
        let alike : key ≡ e.0 = (bytes_decides key e.0).0 (texts_ties key e.0 ∙ ap is_eq is) in
        let test : same text e.0 ≡ same key text = ap (same text) (sym alike) ∙ nat_list_eq_equiv.symm text key in
        overwritten (same text e.0) (Some value) (Some e.1) (lookup (same text) es)
        ∙ ap (λ (b : Bool). cond b (Some value) (cond (same text e.0) (Some e.1) (lookup (same text) es))) test
    by later Greater is =
        ap (cond (same text e.0) (Some e.1)) later
        ∙ in_either_order (same text e.0) (same key text) (Some e.1) (Some value) (lookup (same text) es)
        (λ here there.
        let both : same key e.0 ≡ true = nat_list_eq_equiv.congr key text e.0 there ∙ here in
        let no : true ≡ false = sym both ∙ texts_ties key e.0 ∙ ap is_eq is in cc)

all_with : {X : Type 0} (P : List ℕ → Type 0) (es : List (List ℕ × X)) (key : List ℕ) (value : X) → AllByRecursion P (keys_of es) → P key → AllByRecursion P (keys_of (with_entry es key value))
all_with P [] key value all has = (has, all)
all_with P (e ∷ es) key value all has = elim (slice_cmp nat_cmp key e.0) as (λ o. AllByRecursion P (keys_of (match_ordering o ((key, value) ∷ e ∷ es) ((e.0, value) ∷ es) (e ∷ with_entry es key value)))) [
  | Less ↦ (has, all)
  | Equal ↦ all
  | Greater ↦ (all.0, all_with P es key value all.1 has)
]

all_from : {P Q : List ℕ → Type 0} (keys : List (List ℕ)) → ((key : List ℕ) → P key → Q key) → AllByRecursion P keys → AllByRecursion Q keys
all_from [] step all = all
all_from (key ∷ keys) step all = (step key all.0, all_from keys step all.1)

-- the keys go on rising
rising_with : {X : Type 0} (es : List (List ℕ × X)) (key : List ℕ) (value : X) → IsRising (keys_of es) → IsRising (keys_of (with_entry es key value))
rising_with [] key value rise = rising_cons key [] tt rising_none
rising_with (e ∷ es) key value rise = by (rising_with es key value (sorted_tail (slice_cmp nat_cmp) e.0 (keys_of es) rise)) (slice_cmp nat_cmp key e.0) refl
  where
    by : IsRising (keys_of (with_entry es key value)) → (o : Ordering) → slice_cmp nat_cmp key e.0 ≡ o → IsRising (keys_of (match_ordering o ((key, value) ∷ e ∷ es) ((e.0, value) ∷ es) (e ∷ with_entry es key value)))
    by later Less is = rising_cons key (e.0 ∷ keys_of es)
        (is, all_from (keys_of es) (λ other above. nat_list_cmp_total.trans key e.0 other is above) (sorted_head (slice_cmp nat_cmp) e.0 (keys_of es) rise)) rise
    by later Equal is = rise
    by later Greater is = rising_cons e.0 (keys_of (with_entry es key value))
        (all_with (λ other. slice_cmp nat_cmp e.0 other ≡ Less) es key value (sorted_head (slice_cmp nat_cmp) e.0 (keys_of es) rise) (nat_list_cmp_total.antisymm e.0 key ∙ ap ordering_reverse is))
        later

-- ---- one cache

keys_rise_with : (caches : Caches) (cache : List ℕ) (pairs : Pairs) → IsRising (keys_of pairs) → KeysRise caches → KeysRise (with_entry caches cache pairs)
keys_rise_with [] cache pairs rises rise = (rises, rise)
keys_rise_with (e ∷ es) cache pairs rises rise = elim (slice_cmp nat_cmp cache e.0) as (λ o. KeysRise (match_ordering o ((cache, pairs) ∷ e ∷ es) ((e.0, pairs) ∷ es) (e ∷ with_entry es cache pairs))) [
  | Less ↦ (rises, rise)
  | Equal ↦ (rises, rise.1)
  | Greater ↦ (rise.0, keys_rise_with es cache pairs rises rise.1)
]

keys_rise_without : (test : List ℕ → Bool) (caches : Caches) → KeysRise caches → KeysRise (remove_entry test caches)
keys_rise_without test [] rise = rise
keys_rise_without test (e ∷ es) rise = elim (test e.0) as (λ b. KeysRise (cond b es (e ∷ remove_entry test es))) [ true ↦ rise.1 | false ↦ (rise.0, keys_rise_without test es rise.1) ]

here_rise : (here : Option Pairs) → KeysRiseHere here → IsRising (keys_of (unwrap_or here []))
here_rise None rise = rising_none
here_rise (Some pairs) rise = rise

pairs_rise : (caches : Caches) (cache : List ℕ) → KeysRise caches → IsRising (keys_of (pairs_in caches cache))
pairs_rise caches cache rise = here_rise (lookup (same cache) caches) (KeysRise-lookup cache caches rise)

replaced_with : (caches : Caches) (cache : List ℕ) (pairs : Pairs) → (KeysRise caches → IsRising (keys_of pairs)) → IsReplaced cache (Some pairs) caches (with_entry caches cache pairs)
replaced_with caches cache pairs rises = record {
  names_rise = rising_with caches cache pairs;
  keys_rise = λ rise. keys_rise_with caches cache pairs (rises rise) rise;
  caches = lookup_with caches cache pairs;
}

-- equal names find the same
found_at : (cache other : List ℕ) (caches : Caches) → same cache other ≡ true → lookup (same other) caches ≡ lookup (same cache) caches
found_at cache other caches is = ap (λ (name : List ℕ). lookup (same name) caches) (sym ((bytes_decides cache other).0 is))

in_pairs : (here : Option Pairs) (key : List ℕ) → lookup (same key) (unwrap_or here []) ≡ found key here
in_pairs None key = refl
in_pairs (Some pairs) key = refl

-- ---- one change

put_changes : (caches : Caches) (cache key value : List ℕ) → IsChangedBy (put cache key value) caches (with_pair caches cache key value)
put_changes caches cache key value =
    let after = with_entry (pairs_in caches cache) key value in
    IsChangedBy-put cache key value caches (with_entry caches cache after) after
    (replaced_with caches cache after (λ rise. rising_with (pairs_in caches cache) key value (pairs_rise caches cache rise)))
    (λ k. lookup_with (pairs_in caches cache) key value k ∙ ap (cond (same key k) (Some value)) (in_pairs (lookup (same cache) caches) k))

there_after : (b : Bool) (pairs : Pairs) (was : Option Pairs) → is_some (cond b (Some pairs) was) ≡ cond b true (is_some was)
there_after true pairs was = refl
there_after false pairs was = refl

values_stay : (b : Bool) (key : List ℕ) (was here : Option Pairs) → (b ≡ true → was ≡ here) → found key (cond b (Some (unwrap_or here [])) was) ≡ found key was
values_stay true key was here at = in_pairs here key ∙ ap (found key) (sym (at refl))
values_stay false key was here at = refl

ensure_changes : (caches : Caches) (cache : List ℕ) → IsChangedBy (ensure cache) caches (with_cache caches cache)
ensure_changes caches cache =
    let replaced = replaced_with caches cache (pairs_in caches cache) (λ rise. pairs_rise caches cache rise) in
    record {
      names_rise = replaced.names_rise;
      keys_rise = replaced.keys_rise;
      presence = λ c. ap is_some (replaced.caches c) ∙ there_after (same cache c) (pairs_in caches cache) (lookup (same c) caches);
      values = λ c k. ap (found k) (replaced.caches c) ∙ values_stay (same cache c) k (lookup (same c) caches) (lookup (same cache) caches) (found_at cache c caches);
    }

absent_stays : (b : Bool) (was here : Option Pairs) → (b ≡ true → was ≡ here) → here ≡ None → was ≡ cond b None was
absent_stays true was here at is = at refl ∙ is
absent_stays false was here at is = refl

remove_changes : (caches : Caches) (cache key : List ℕ) → KeysRise caches → IsChangedBy (remove cache key) caches (changed_by (remove cache key) caches)
remove_changes caches cache key keys = by (lookup (same cache) caches) refl
  where
    by : (here : Option Pairs) → lookup (same cache) caches ≡ here → IsChangedBy (remove cache key) caches (with_pairs_if here caches cache (remove_entry (same key) (unwrap_or here [])))
    by None is = IsChangedBy-remove_absent cache key caches caches is (record {
      names_rise = λ rise. rise;
      keys_rise = λ rise. rise;
      caches = λ other. absent_stays (same cache other) (lookup (same other) caches) (lookup (same cache) caches) (found_at cache other caches) is;
    })
    by (Some before) is =
        let rises : IsRising (keys_of before) = subst KeysRiseHere is (KeysRise-lookup cache caches keys) in
        IsChangedBy-remove cache key caches (with_entry caches cache (remove_entry (same key) before)) before (remove_entry (same key) before) is
        (replaced_with caches cache (remove_entry (same key) before) (λ rise. rising-remove_entry (same key) before rises))
        (lookup_without key before rises)

truncate_changes : (caches : Caches) (cache : List ℕ) → IsChangedBy (truncate cache) caches (changed_by (truncate cache) caches)
truncate_changes caches cache = by (lookup (same cache) caches) refl
  where
    by : (here : Option Pairs) → lookup (same cache) caches ≡ here → IsChangedBy (truncate cache) caches (with_pairs_if here caches cache [])
    by None is = IsChangedBy-truncate_absent cache caches (ap is_some is)
    by (Some before) is = IsChangedBy-truncate_present cache caches (with_entry caches cache []) (ap is_some is) (replaced_with caches cache [] (λ rise. rising_none))

destroy_changes : (caches : Caches) (cache : List ℕ) → NamesRise caches → IsChangedBy (destroy cache) caches (changed_by (destroy cache) caches)
destroy_changes caches cache names = IsChangedBy-destroy cache caches (remove_entry (same cache) caches) (record {
  names_rise = rising-remove_entry (same cache) caches;
  keys_rise = keys_rise_without (same cache) caches;
  caches = lookup_without cache caches names;
})

each_changes : (pairs before : Pairs) (cache : List ℕ) (old between : Caches) → IsChangedBy (batch cache before) old between → IsChangedBy (batch cache (before ++ pairs)) old (with_each_pair between cache pairs)
each_changes [] before cache old between changed = subst (λ (pairs : Pairs). IsChangedBy (batch cache pairs) old between) (sym (append-nil before)) changed
each_changes (pair ∷ pairs) before cache old between changed =
    let next = with_pair between cache pair.0 pair.1 in
    subst (λ (all : Pairs). IsChangedBy (batch cache all) old (with_each_pair next cache pairs)) (append_assoc before (pair ∷ []) pairs)
    (each_changes pairs (before ++ pair ∷ []) cache old next (IsChangedBy-batch_more cache pair.0 pair.1 before old between next changed (put_changes between cache pair.0 pair.1)))

change_changes : (mutation : Mutation) (caches : Caches) → NamesRise caches → KeysRise caches → IsChangedBy (change_of mutation) caches (changed_by (change_of mutation) caches)
change_changes (Put cache key value) caches names keys = put_changes caches cache key value
change_changes (Remove cache key) caches names keys = remove_changes caches cache key keys
change_changes (Ensure cache) caches names keys = ensure_changes caches cache
change_changes (Truncate cache) caches names keys = truncate_changes caches cache
change_changes (Destroy cache) caches names keys = destroy_changes caches cache names
change_changes (Batch cache pairs) caches names keys = each_changes pairs [] cache caches (with_cache caches cache) (IsChangedBy-batch_none cache caches (with_cache caches cache) (ensure_changes caches cache))

-- ---- all of them

-- the computed contents are those that are read backwards
record LooksBack (changes : List Change) : Type 0 where
  names : NamesRise (caches_looking_back changes)
  keys : KeysRise (caches_looking_back changes)
  presence : (cache : List ℕ) → is_some (lookup (same cache) (caches_looking_back changes)) ≡ presence_looking_back changes cache
  values : (cache key : List ℕ) → value_in (caches_looking_back changes) cache key ≡ value_looking_back changes cache key

looks_back : (mutations : List Mutation) → LooksBack (map change_of mutations)
looks_back [] = record { names = rising_none; keys = tt; presence = λ cache. refl; values = λ cache key. refl }
looks_back (mutation ∷ mutations) =
    let older = looks_back mutations in
    let step = change_changes mutation (caches_looking_back (map change_of mutations)) older.names older.keys in
    record {
      names = step.names_rise older.names;
      keys = step.keys_rise older.keys;
      presence = λ cache. step.presence cache ∙ ap (cond (rules (change_of mutation) cache) (presence_left (change_of mutation) cache)) (older.presence cache);
      values = λ cache key. step.values cache key ∙ ap (cond (writes (change_of mutation) cache key) (value_left (change_of mutation) cache key)) (older.values cache key);
    }

reverse_changes : (mutations : List Mutation) → reverse (changes_of mutations) ≡ changes_of (reverse mutations)
reverse_changes [] = refl
reverse_changes (mutation ∷ mutations) =
    reverse-append (change_of mutation ∷ []) (changes_of mutations) ∙ ap (λ (l : List Change). l ++ change_of mutation ∷ []) (reverse_changes mutations)
    ∙ sym (map-append change_of (reverse mutations) (mutation ∷ [])) ∙ ap changes_of (sym (reverse-append (mutation ∷ []) mutations))

-- the contents after mutations, computed
pub contents_are : (mutations : List Mutation) → AreContentsAfter (changes_of mutations) (contents_of (changes_of mutations))
contents_are mutations =
    let back = subst LooksBack (sym (reverse_changes mutations)) (looks_back (reverse mutations)) in
    record { names_rise = back.names; keys_rise = back.keys; presence = back.presence; values = back.values }

-- their canonical list leaves the same contents, where a plain list has the contents that it is of
pub list_leaves : ((changes : List Change) (caches : Caches) → AreContentsAfter changes caches → AreContentsAfter (changes_of (plain_list caches)) caches) → (mutations : List Mutation)
    → SameContents (changes_of (canonical_list (changes_of mutations))) (changes_of mutations)
list_leaves plain mutations =
    let are = contents_are mutations in
    let again = plain (changes_of mutations) (contents_of (changes_of mutations)) are in
    record { values = λ cache key. sym (again.values cache key) ∙ are.values cache key; presence = λ cache. sym (again.presence cache) ∙ are.presence cache }
