-- Extents of which one was changed: what they show is changed by the same change.
use Rattle.std.proofs.Common.{◌≡◌, ℕ, ◌+◌, ◌*◌, ◌/◌, ◌<◌, ◌≤◌, ◌^◌, unwrap_or, List, [], ◌∷◌, ◌++◌, Bool, true, false, cond, ◌&&◌, length, Option, Some, None, Result, Ok, Err, OnOk, option_and_then, option_map, is_some, sum_by, ap, ◌∙◌, sym, refl, subst, arith}
use Rattle.std.specs.Option.{option_map_or}
use Rattle.std.specs.Cmp.Lexicographic.{bytes_decides, nat_list_eq_equiv, slice_cmp}
use Rattle.std.specs.declared.cmp.Ordering.{Ordering}
use Rattle.std.specs.declared.cmp.Ordering.TheVariants.{Less, Equal, Greater}
use Rattle.std.specs.Ordering.{nat_cmp, is_eq, match_ordering}
use Rattle.std.specs.BTreeMap.{is_at, insert_entry}
use Rattle.std.specs.Int.{div_ceil}
use Rattle.std.specs.List.{AllByRecursion, cons_option, list_any}
use Rattle.std.specs.Map.{lookup, keys_of, set_value}
use Rattle.std.proofs.lemmas.Bool.{false≢true}
use Rattle.std.proofs.lemmas.Map.{lookup-set_value, keys-set_value}
use Rattle.std.proofs.lemmas.List.{reverse-append, length-append}
use Rattle.cache_key.specs.declared.request.Mutation.{Mutation}
use Rattle.cache_key.specs.declared.request.Mutation.TheVariants.{Put, Remove, Ensure, Truncate, Destroy, Batch}
use Rattle.cache_model.specs.Caches.{same, Pairs, Caches, value_in}
use Rattle.cache_model.specs.Change.{Change, change_of, writes, value_left, rules, presence_left}
use Rattle.cache_model.specs.Contents.{IsRising, NamesRise, KeysRise, AreContentsAfter, value_after, is_present_after}
use Rattle.cache_model.specs.PlainList.{plain_list, spelled_length, live, growth_of}
use Rattle.cache_model.specs.Step.{IsChangedBy}
use Rattle.cache_model.proofs.ContentsLemmas.{same-itself, value_after-push, presence_after-push, same_contents}
use Rattle.cache_model.proofs.ShownLemmas.{same-is_at}
use Rattle.cache_model.proofs.SizeLemmas.{size_after-contents}
use Rattle.cache_model.specs.Size.{size_after}
use Rattle.partition_map.specs.declared.extent.Extent.{Extent}
use Rattle.partition_map.specs.After.{AgreesWith}
use Rattle.partition_map.specs.Extents.{Extents, Maps, presence_held, extent_shown, caches_in, IsWhole, AreKept, IsExtentAfter, IsShownSame}
use Rattle.partition_map.specs.Order.{cache_changed, brings, with_name, with_names, names_brought, order_after, order_looking_back}
use Rattle.partition_map.specs.Place.{value_at, value_count, pairs_shown}
use Rattle.partition_map.specs.Written.{ShowsAgain}
use Rattle.partition_map.proofs.ShownLemmas.{lookup-shown_by, rising-shown_by, lookup-pairs_shown, pairs_shown-same, length-pairs_shown}

abbrev pub AreWhole : Extents → Type 0
AreWhole extents = AllByRecursion (λ e. IsWhole e.1) extents

-- what a look-up finds is whole
abbrev pub WholeHere : Option Extent → Type 0
WholeHere None = Unit {0}
WholeHere (Some extent) = IsWhole extent

pub whole-lookup : (test : List ℕ → Bool) (es : Extents) → AreWhole es → WholeHere (lookup test es)
whole-lookup test [] whole = tt
whole-lookup test (e ∷ es) whole = elim (test e.0) as (λ b. WholeHere (cond b (Some e.1) (lookup test es))) [ true ↦ whole.0 | false ↦ whole-lookup test es whole.1 ]

pub whole-set_value : (test : List ℕ → Bool) (es : Extents) (now : Extent) → AreWhole es → IsWhole now → AreWhole (set_value test es now)
whole-set_value test [] now whole is = tt
whole-set_value test (e ∷ es) now whole is = elim (test e.0) as (λ b. AreWhole (cond b ((e.0, now) ∷ es) (e ∷ set_value test es now))) [ true ↦ (is, whole.1) | false ↦ (whole.0, whole-set_value test es now whole.1 is) ]

-- ---- what a whole extent shows

shown-value-by : (extent : Extent) (b : Bool) → extent.present ≡ b → IsWhole extent → (key : List ℕ) → option_and_then (lookup (same key)) (cond b (Some (pairs_shown extent.places)) None) ≡ value_at extent.places key
shown-value-by extent true is whole key = lookup-pairs_shown extent.places key whole.rises
shown-value-by extent false is whole key = sym (whole.bare is key)

pub shown-value : (extent : Extent) → IsWhole extent → (key : List ℕ) → option_and_then (lookup (same key)) (extent_shown extent) ≡ value_at extent.places key
shown-value extent whole key = shown-value-by extent extent.present refl whole key

cond-there : {X : Type 0} (b : Bool) (x : X) → is_some (cond b (Some x) None) ≡ b
cond-there true x = refl
cond-there false x = refl

-- ---- the look-ups of the contents

abbrev pub value_held : Option Extent → List ℕ → Option (List ℕ)
value_held found key = option_and_then (λ (e : Extent). value_at e.places key) found

pub presence-caches_in : (es : Extents) (cache : List ℕ) → IsRising (keys_of es) → is_some (lookup (same cache) (caches_in es)) ≡ presence_held (lookup (same cache) es)
presence-caches_in es cache rise = ap is_some (lookup-shown_by extent_shown es cache rise) ∙ by (lookup (same cache) es)
  where
    by : (o : Option Extent) → is_some (option_and_then extent_shown o) ≡ presence_held o
    by None = refl
    by (Some e) = cond-there e.present (pairs_shown e.places)

pub value-caches_in : (es : Extents) (cache key : List ℕ) → IsRising (keys_of es) → AreWhole es → value_in (caches_in es) cache key ≡ value_held (lookup (same cache) es) key
value-caches_in es cache key rise whole = ap (option_and_then (lookup (same key))) (lookup-shown_by extent_shown es cache rise) ∙ by (lookup (same cache) es) (whole-lookup (same cache) es whole)
  where
    by : (o : Option Extent) → WholeHere o → option_and_then (lookup (same key)) (option_and_then extent_shown o) ≡ value_held o key
    by None is = refl
    by (Some e) is = shown-value e is key

pub names_rise-caches_in : (es : Extents) → IsRising (keys_of es) → NamesRise (caches_in es)
names_rise-caches_in es rise = rising-shown_by extent_shown es rise

keys_rise-first : (name : List ℕ) (e : Extent) (b : Bool) (rest : Caches) → IsWhole e → KeysRise rest → KeysRise (cons_option (option_map (λ (pairs : Pairs). (name, pairs)) (cond b (Some (pairs_shown e.places)) None)) rest)
keys_rise-first name e true rest whole rise = (rising-shown_by (λ v. v) e.places whole.rises, rise)
keys_rise-first name e false rest whole rise = rise

pub keys_rise-caches_in : (es : Extents) → AreWhole es → KeysRise (caches_in es)
keys_rise-caches_in [] whole = tt
keys_rise-caches_in (e ∷ es) whole = keys_rise-first e.0 e.1 e.1.present (caches_in es) whole.0 (keys_rise-caches_in es whole.1)

-- ---- a change of another cache decides nothing here

writes-other : (mutation : Mutation) (cache key : List ℕ) → same (cache_changed (change_of mutation)) cache ≡ false → writes (change_of mutation) cache key ≡ false
writes-other (Put c k v) cache key apart = ap (λ b. b && same k key) apart
writes-other (Remove c k) cache key apart = ap (λ b. b && same k key) apart
writes-other (Ensure c) cache key apart = refl
writes-other (Truncate c) cache key apart = apart
writes-other (Destroy c) cache key apart = apart
writes-other (Batch c pairs) cache key apart = ap (λ b. b && is_some (lookup (same key) pairs)) apart

rules-other : (mutation : Mutation) (cache : List ℕ) → same (cache_changed (change_of mutation)) cache ≡ false → rules (change_of mutation) cache ≡ false
rules-other (Put c k v) cache apart = apart
rules-other (Remove c k) cache apart = refl
rules-other (Ensure c) cache apart = apart
rules-other (Truncate c) cache apart = refl
rules-other (Destroy c) cache apart = apart
rules-other (Batch c pairs) cache apart = apart

none_either : (b : Bool) (o : Option (List ℕ)) → o ≡ None → cond b None o ≡ None
none_either true o is = refl
none_either false o is = is

-- an extent is whole after a change
pub whole-after : (mutation : Mutation) (before now : Extent) → IsWhole before → IsExtentAfter (change_of mutation) before now → IsWhole now
whole-after mutation before now whole after = record {
  rises = after.rises whole.rises;
  bare = λ gone key. by mutation gone key after;
}
  where
    by : (m : Mutation) → now.present ≡ false → (key : List ℕ) → IsExtentAfter (change_of m) before now → value_at now.places key ≡ None
    by (Put c k v) gone key a = absurd (false≢true (sym gone ∙ a.presence ∙ ap (λ b. cond b true before.present) (same-itself c)))
    by (Remove c k) gone key a = a.values key ∙ none_either (same c c && same k key) (value_at before.places key) (whole.bare (sym a.presence ∙ gone) key)
    by (Ensure c) gone key a = absurd (false≢true (sym gone ∙ a.presence ∙ ap (λ b. cond b true before.present) (same-itself c)))
    by (Truncate c) gone key a = a.values key ∙ none_either (same c c) (value_at before.places key) (whole.bare (sym a.presence ∙ gone) key)
    by (Destroy c) gone key a = a.values key ∙ ap (λ b. cond b None (value_at before.places key)) (same-itself c)
    by (Batch c pairs) gone key a = absurd (false≢true (sym gone ∙ a.presence ∙ ap (λ b. cond b true before.present) (same-itself c)))

-- ---- the extents after a change

-- one extent is another now
abbrev pub IsWritten : (cache : List ℕ) (old new : Extents) → Extent → Type 0
IsWritten cache old new now = (other : List ℕ) → lookup (same other) new ≡ cond (same cache other) (Some now) (lookup (same other) old)

pub IsWritten-set_value : (cache : List ℕ) (es : Extents) (before now : Extent) → lookup (same cache) es ≡ Some before → IsWritten cache es (set_value (same cache) es now) now
IsWritten-set_value cache es before now was other = lookup-set_value nat_list_eq_equiv (same cache) (nat_list_eq_equiv.congr cache) other now es (ap is_some was)

pub IsChangedBy-written : (mutation : Mutation) (old new : Extents) (before now : Extent)
    → IsRising (keys_of old) → IsRising (keys_of new) → AreWhole old → AreWhole new
    → lookup (same (cache_changed (change_of mutation))) old ≡ Some before → IsWritten (cache_changed (change_of mutation)) old new now
    → IsExtentAfter (change_of mutation) before now → IsChangedBy (change_of mutation) (caches_in old) (caches_in new)
IsChangedBy-written mutation old new before now rise new_rise whole new_whole was written after = record {
  names_rise = λ _. names_rise-caches_in new new_rise;
  keys_rise = λ _. keys_rise-caches_in new new_whole;
  presence = λ other. presence-caches_in new other new_rise ∙ by_presence other (same cache other) refl ∙ sym (ap (λ b. cond (rules (change_of mutation) other) (presence_left (change_of mutation) other) b) (presence-caches_in old other rise));
  values = λ other key. value-caches_in new other key new_rise new_whole ∙ by_value other key (same cache other) refl ∙ sym (ap (λ v. cond (writes (change_of mutation) other key) (value_left (change_of mutation) other key) v) (value-caches_in old other key rise whole));
}
  where
    cache : List ℕ
    cache = cache_changed (change_of mutation)

    by_presence : (other : List ℕ) (b : Bool) → same cache other ≡ b → presence_held (lookup (same other) new) ≡ cond (rules (change_of mutation) other) (presence_left (change_of mutation) other) (presence_held (lookup (same other) old))
    by_presence other true here =
        let is = (bytes_decides cache other).0 here in
        ap presence_held (written other ∙ ap (λ b. cond b (Some now) (lookup (same other) old)) here)
        ∙ after.presence
        ∙ ap (λ b. cond (rules (change_of mutation) cache) (presence_left (change_of mutation) cache) b) (sym (ap presence_held was))
        ∙ ap (λ c. cond (rules (change_of mutation) c) (presence_left (change_of mutation) c) (presence_held (lookup (same c) old))) is
    by_presence other false apart =
        ap presence_held (written other ∙ ap (λ b. cond b (Some now) (lookup (same other) old)) apart)
        ∙ sym (ap (λ b. cond b (presence_left (change_of mutation) other) (presence_held (lookup (same other) old))) (rules-other mutation other apart))

    by_value : (other key : List ℕ) (b : Bool) → same cache other ≡ b → value_held (lookup (same other) new) key ≡ cond (writes (change_of mutation) other key) (value_left (change_of mutation) other key) (value_held (lookup (same other) old) key)
    by_value other key true here =
        let is = (bytes_decides cache other).0 here in
        ap (λ o. value_held o key) (written other ∙ ap (λ b. cond b (Some now) (lookup (same other) old)) here)
        ∙ after.values key
        ∙ ap (λ v. cond (writes (change_of mutation) cache key) (value_left (change_of mutation) cache key) v) (sym (ap (λ o. value_held o key) was))
        ∙ ap (λ c. cond (writes (change_of mutation) c key) (value_left (change_of mutation) c key) (value_held (lookup (same c) old) key)) is
    by_value other key false apart =
        ap (λ o. value_held o key) (written other ∙ ap (λ b. cond b (Some now) (lookup (same other) old)) apart)
        ∙ sym (ap (λ b. cond b (value_left (change_of mutation) other key) (value_held (lookup (same other) old) key)) (writes-other mutation other key apart))

cond-alike : {X : Type 0} (b : Bool) (x y : X) → y ≡ x → y ≡ cond b x y
cond-alike true x y is = is
cond-alike false x y is = refl

-- a change that makes no cache present, of a cache that has no extent
pub IsChangedBy-nothing : (mutation : Mutation) (extents : Extents) → IsRising (keys_of extents) → AreWhole extents
    → lookup (same (cache_changed (change_of mutation))) extents ≡ None → brings (change_of mutation) ≡ false → IsChangedBy (change_of mutation) (caches_in extents) (caches_in extents)
IsChangedBy-nothing mutation extents rise whole absent idle = record {
  names_rise = λ names. names;
  keys_rise = λ keys. keys;
  presence = λ other. presence mutation other absent idle;
  values = λ other key. values mutation other key absent idle;
}
  where
    there : (other : List ℕ) (c : List ℕ) → lookup (same c) extents ≡ None → same c other ≡ true → lookup (same other) extents ≡ None
    there other c none here = ap (λ n. lookup (same n) extents) (sym ((bytes_decides c other).0 here)) ∙ none

    gone_value : (c other key : List ℕ) (b w : Bool) → same c other ≡ b → lookup (same c) extents ≡ None → value_in (caches_in extents) other key ≡ cond (b && w) None (value_in (caches_in extents) other key)
    gone_value c other key true w here none = cond-alike w None (value_in (caches_in extents) other key) (value-caches_in extents other key rise whole ∙ ap (λ o. value_held o key) (there other c none here))
    gone_value c other key false w apart none = refl

    gone_all : (c other key : List ℕ) (b : Bool) → same c other ≡ b → lookup (same c) extents ≡ None → value_in (caches_in extents) other key ≡ cond b None (value_in (caches_in extents) other key)
    gone_all c other key true here none = value-caches_in extents other key rise whole ∙ ap (λ o. value_held o key) (there other c none here)
    gone_all c other key false apart none = refl

    gone_presence : (c other : List ℕ) (b : Bool) → same c other ≡ b → lookup (same c) extents ≡ None → is_some (lookup (same other) (caches_in extents)) ≡ cond b false (is_some (lookup (same other) (caches_in extents)))
    gone_presence c other true here none = presence-caches_in extents other rise ∙ ap presence_held (there other c none here)
    gone_presence c other false apart none = refl

    presence : (m : Mutation) (other : List ℕ) → lookup (same (cache_changed (change_of m))) extents ≡ None → brings (change_of m) ≡ false → is_some (lookup (same other) (caches_in extents)) ≡ cond (rules (change_of m) other) (presence_left (change_of m) other) (is_some (lookup (same other) (caches_in extents)))
    presence (Put c k v) other none still = absurd (false≢true (sym still))
    presence (Remove c k) other none still = refl
    presence (Ensure c) other none still = absurd (false≢true (sym still))
    presence (Truncate c) other none still = refl
    presence (Destroy c) other none still = gone_presence c other (same c other) refl none
    presence (Batch c pairs) other none still = absurd (false≢true (sym still))

    values : (m : Mutation) (other key : List ℕ) → lookup (same (cache_changed (change_of m))) extents ≡ None → brings (change_of m) ≡ false → value_in (caches_in extents) other key ≡ cond (writes (change_of m) other key) (value_left (change_of m) other key) (value_in (caches_in extents) other key)
    values (Put c k v) other key none still = absurd (false≢true (sym still))
    values (Remove c k) other key none still = gone_value c other key (same c other) (same k key) refl none
    values (Ensure c) other key none still = refl
    values (Truncate c) other key none still = gone_all c other key (same c other) refl none
    values (Destroy c) other key none still = gone_all c other key (same c other) refl none
    values (Batch c pairs) other key none still = absurd (false≢true (sym still))

-- ---- one change more

pub AreContentsAfter-changed : (changes : List Change) (change : Change) (old new : Caches) → IsChangedBy change old new → AreContentsAfter changes old → AreContentsAfter (changes ++ change ∷ []) new
AreContentsAfter-changed changes change old new changed were = record {
  names_rise = changed.names_rise were.names_rise;
  keys_rise = changed.keys_rise were.keys_rise;
  presence = λ c. changed.presence c ∙ ap (cond (rules change c) (presence_left change c)) (were.presence c) ∙ sym (presence_after-push changes change c);
  values = λ c k. changed.values c k ∙ ap (cond (writes change c k) (value_left change c k)) (were.values c k) ∙ sym (value_after-push changes change c k);
}

order_after-push : (changes : List Change) (newest : Change) → order_after (changes ++ newest ∷ []) ≡ with_names (order_after changes) (names_brought newest)
order_after-push changes newest = ap order_looking_back (reverse-append changes (newest ∷ []))

names-brought : (mutation : Mutation) (names : List (List ℕ)) → with_names names (names_brought (change_of mutation)) ≡ cond (brings (change_of mutation)) (with_name names (cache_changed (change_of mutation))) names
names-brought (Put c k v) names = refl
names-brought (Remove c k) names = refl
names-brought (Ensure c) names = refl
names-brought (Truncate c) names = refl
names-brought (Destroy c) names = refl
names-brought (Batch c pairs) names = refl

-- a step appends its change to the list
pub AgreesWith-step : (mutation : Mutation) (old new : Maps) → IsChangedBy (change_of mutation) (caches_in old.extents) (caches_in new.extents)
    → new.names ≡ cond (brings (change_of mutation)) (with_name old.names (cache_changed (change_of mutation))) old.names
    → (changes : List Change) → AgreesWith changes old → AgreesWith (changes ++ change_of mutation ∷ []) new
AgreesWith-step mutation old new changed names changes agrees = record {
  contents = AreContentsAfter-changed changes (change_of mutation) (caches_in old.extents) (caches_in new.extents) changed agrees.contents;
  order = names ∙ ap (λ ns. cond (brings (change_of mutation)) (with_name ns (cache_changed (change_of mutation))) ns) agrees.order ∙ sym (names-brought mutation (order_after changes)) ∙ sym (order_after-push changes (change_of mutation));
}

-- what shows the same agrees with the same lists
pub AgreesWith-shown : (old new : Maps) → caches_in new.extents ≡ caches_in old.extents → new.names ≡ old.names → (changes : List Change) → AgreesWith changes old → AgreesWith changes new
AgreesWith-shown old new shown names changes agrees = record {
  contents = subst (AreContentsAfter changes) (sym shown) agrees.contents;
  order = names ∙ agrees.order;
}

-- ---- extents that show what they showed

extent_shown-same : (before now : Extent) → IsWhole before → IsShownSame before now → extent_shown now ≡ extent_shown before
extent_shown-same before now whole again =
    ap (λ b. cond b (Some (pairs_shown now.places)) None) again.presence
    ∙ ap (λ pairs. cond before.present (Some pairs) None) (pairs_shown-same before.places now.places whole.rises (again.rises whole.rises) again.values.values)

whole-same : (before now : Extent) → IsWhole before → IsShownSame before now → IsWhole now
whole-same before now whole again = record {
  rises = again.rises whole.rises;
  bare = λ gone key. again.values.values key ∙ whole.bare (sym again.presence ∙ gone) key;
}

caches_in-set_value : (test : List ℕ → Bool) (es : Extents) (before now : Extent) → lookup test es ≡ Some before → extent_shown now ≡ extent_shown before → caches_in (set_value test es now) ≡ caches_in es
caches_in-set_value test [] before now was again = refl
caches_in-set_value test (e ∷ es) before now was again = by (test e.0) was (λ is. caches_in-set_value test es before now is again)
  where
    unpack : (x : Extent) → Some x ≡ Some before → extent_shown x ≡ extent_shown before
    unpack x is = ap (λ (o : Option Extent). option_and_then extent_shown o) is

    by : (b : Bool) → cond b (Some e.1) (lookup test es) ≡ Some before → (lookup test es ≡ Some before → caches_in (set_value test es now) ≡ caches_in es) → caches_in (cond b ((e.0, now) ∷ es) (e ∷ set_value test es now)) ≡ caches_in (e ∷ es)
    by true is rest = ap (λ o. cons_option (option_map (λ (pairs : Pairs). (e.0, pairs)) o) (caches_in es)) (again ∙ sym (unpack e.1 is))
    by false is rest = ap (λ cs. cons_option (option_map (λ (pairs : Pairs). (e.0, pairs)) (extent_shown e.1)) cs) (rest is)

pub ShowsAgain-set_value : (name : List ℕ) (es : Extents) (before now : Extent) → lookup (same name) es ≡ Some before → IsShownSame before now → ShowsAgain es (set_value (same name) es now)
ShowsAgain-set_value name es before now was again = record {
  whole = λ whole. whole-set_value (same name) es now whole (whole-same before now (subst WholeHere was (whole-lookup (same name) es whole)) again);
  rises = λ rise. subst IsRising (sym (keys-set_value (same name) es now)) rise;
  shown = λ whole rise. caches_in-set_value (same name) es before now was (extent_shown-same before now (subst WholeHere was (whole-lookup (same name) es whole)) again);
}

pub ShowsAgain-chain : (first second third : Extents) → ShowsAgain first second → ShowsAgain second third → ShowsAgain first third
ShowsAgain-chain first second third a b = record {
  whole = λ whole. b.whole (a.whole whole);
  rises = λ rise. b.rises (a.rises rise);
  shown = λ whole rise. b.shown (a.whole whole) (a.rises rise) ∙ a.shown whole rise;
}

whole-insert : (es : Extents) (name : List ℕ) (now : Extent) → IsWhole now → AreWhole es → AreWhole (insert_entry (slice_cmp nat_cmp) es name now)
whole-insert [] name now is whole = (is, tt)
whole-insert (e ∷ es) name now is whole =
    elim (slice_cmp nat_cmp name e.0) as (λ o. AreWhole (match_ordering o ((name, now) ∷ e ∷ es) ((e.0, now) ∷ es) (e ∷ insert_entry (slice_cmp nat_cmp) es name now))) [
      | Less ↦ (is, whole)
      | Equal ↦ (is, whole.1)
      | Greater ↦ (whole.0, whole-insert es name now is whole.1)
    ]

pub hidden_first : (name : List ℕ) (now : Extent) (rest : Caches) → now.present ≡ false → cons_option (option_map (λ (pairs : Pairs). (name, pairs)) (extent_shown now)) rest ≡ rest
hidden_first name now rest gone = ap (λ b. cons_option (option_map (λ (pairs : Pairs). (name, pairs)) (cond b (Some (pairs_shown now.places)) None)) rest) gone

caches_in-insert : (es : Extents) (name : List ℕ) (now : Extent) → now.present ≡ false → is_some (lookup (is_at (slice_cmp nat_cmp name)) es) ≡ false → caches_in (insert_entry (slice_cmp nat_cmp) es name now) ≡ caches_in es
caches_in-insert [] name now gone absent = hidden_first name now [] gone
caches_in-insert (e ∷ es) name now gone absent = by (slice_cmp nat_cmp name e.0) absent (caches_in-insert es name now gone)
  where
    by : (o : Ordering) → is_some (cond (is_eq o) (Some e.1) (lookup (is_at (slice_cmp nat_cmp name)) es)) ≡ false → (is_some (lookup (is_at (slice_cmp nat_cmp name)) es) ≡ false → caches_in (insert_entry (slice_cmp nat_cmp) es name now) ≡ caches_in es) → caches_in (match_ordering o ((name, now) ∷ e ∷ es) ((e.0, now) ∷ es) (e ∷ insert_entry (slice_cmp nat_cmp) es name now)) ≡ caches_in (e ∷ es)
    by Less none rest = hidden_first name now (caches_in (e ∷ es)) gone
    by Equal none rest = absurd (false≢true (sym none))
    by Greater none rest = ap (λ cs. cons_option (option_map (λ (pairs : Pairs). (e.0, pairs)) (extent_shown e.1)) cs) (rest none)

-- an extent that shows nothing is added
pub ShowsAgain-insert : (old new : Extents) (name : List ℕ) (now : Extent) → IsWhole now → now.present ≡ false → is_some (lookup (is_at (slice_cmp nat_cmp name)) old) ≡ false → new ≡ insert_entry (slice_cmp nat_cmp) old name now → IsRising (keys_of new) → ShowsAgain old new
ShowsAgain-insert old new name now is gone absent inserted rise = record {
  whole = λ whole. subst AreWhole (sym inserted) (whole-insert old name now is whole);
  rises = λ _. rise;
  shown = λ whole _. ap caches_in inserted ∙ caches_in-insert old name now gone absent;
}

-- the kept sums stay
pub AreKept-again : (old new : Extents) (count total : ℕ) → AreKept old count total → ShowsAgain old new → AreKept new count total
AreKept-again old new count total kept again =
    let shown = again.shown kept.whole kept.rises in
    record {
      whole = again.whole kept.whole;
      rises = again.rises kept.rises;
      items = kept.items ∙ ap (λ cs. length (plain_list cs)) (sym shown);
      bytes = kept.bytes ∙ ap (λ cs. sum_by spelled_length (plain_list cs)) (sym shown);
      fits = subst (λ cs. live cs < 2 ^ 48) (sym shown) kept.fits;
    }

-- ---- the length of a store of them

ceil_64 : (n : ℕ) → div_ceil n 64 ≡ (n + 63) / 64
ceil_64 n = omega arith

pub live_kept : (es : Extents) (count total records : ℕ) → AreKept es count total → records ≡ div_ceil count 64 → 42 + total + 6 * records ≡ live (caches_in es)
live_kept es count total records kept is =
    ap (λ (b : ℕ). 42 + b + 6 * records) kept.bytes ∙ ap (λ (r : ℕ). 42 + sum_by spelled_length (plain_list (caches_in es)) + 6 * r) (is ∙ ceil_64 count ∙ ap (λ (n : ℕ). (n + 63) / 64) kept.items)

pub growth_none : (mutation : Mutation) → brings (change_of mutation) ≡ false → growth_of mutation ≡ 0
growth_none (Put c k v) idle = absurd (false≢true (sym idle))
growth_none (Remove c k) idle = refl
growth_none (Ensure c) idle = absurd (false≢true (sym idle))
growth_none (Truncate c) idle = refl
growth_none (Destroy c) idle = refl
growth_none (Batch c pairs) idle = absurd (false≢true (sym idle))

-- lists of changes that leave these contents leave no others
pub only_contents : (changes : List Change) (caches others : Caches) → AreContentsAfter changes caches → AreContentsAfter changes others → caches ≡ others
only_contents changes caches others one other = same_contents changes changes caches others (record { values = λ cache key. refl; presence = λ cache. refl }) one other

-- whether a cache is there after the changes that a map agrees with
pub presence-agreed : (changes : List Change) (maps : Maps) (cache : List ℕ) → IsRising (keys_of maps.extents) → AgreesWith changes maps → presence_held (lookup (same cache) maps.extents) ≡ is_present_after changes cache
presence-agreed changes maps cache rise agrees = sym (presence-caches_in maps.extents cache rise) ∙ agrees.contents.presence cache

pub value-agreed : (changes : List Change) (maps : Maps) (cache key : List ℕ) → IsRising (keys_of maps.extents) → AreWhole maps.extents → AgreesWith changes maps → value_held (lookup (is_at (slice_cmp nat_cmp cache)) maps.extents) key ≡ value_after changes cache key
value-agreed changes maps cache key rise whole agrees =
    ap (λ test. value_held (lookup test maps.extents) key) (sym (same-is_at cache)) ∙ sym (value-caches_in maps.extents cache key rise whole) ∙ agrees.contents.values cache key

none_shown : (pairs : Pairs) → ((key : List ℕ) → lookup (same key) pairs ≡ None) → pairs ≡ []
none_shown [] none = refl
none_shown (p ∷ ps) none = absurd (false≢true (sym (ap is_some (none p.0)) ∙ ap (λ b. is_some (cond b (Some p.1) (lookup (same p.0) ps))) (same-itself p.0)))

-- the size of a cache
pub size-agreed : (changes : List Change) (maps : Maps) (cache : List ℕ) → IsRising (keys_of maps.extents) → AreWhole maps.extents → AgreesWith changes maps → option_map_or (λ (e : Extent). value_count e.places) (lookup (is_at (slice_cmp nat_cmp cache)) maps.extents) 0 ≡ size_after changes cache
size-agreed changes maps cache rise whole agrees =
    ap (λ test. option_map_or (λ (e : Extent). value_count e.places) (lookup test maps.extents) 0) (sym (same-is_at cache))
    ∙ by (lookup (same cache) maps.extents) (whole-lookup (same cache) maps.extents whole)
    ∙ ap (λ o. length (unwrap_or o [])) (sym (lookup-shown_by extent_shown maps.extents cache rise))
    ∙ sym (size_after-contents changes (caches_in maps.extents) cache agrees.contents)
  where
    nothing : (e : Extent) (b : Bool) → e.present ≡ b → IsWhole e → value_count e.places ≡ length (unwrap_or (cond b (Some (pairs_shown e.places)) None) [])
    nothing e true is w = sym (length-pairs_shown e.places)
    nothing e false is w = sym (length-pairs_shown e.places) ∙ ap length (none_shown (pairs_shown e.places) (λ key. lookup-pairs_shown e.places key w.rises ∙ w.bare is key))

    by : (o : Option Extent) → WholeHere o → option_map_or (λ (e : Extent). value_count e.places) o 0 ≡ length (unwrap_or (option_and_then extent_shown o) [])
    by None w = refl
    by (Some e) w = nothing e e.present refl w

pub on_ok_always : {T E : Type 0} (r : Result T E) (P : Type 0) → P → OnOk r P
on_ok_always (Ok x) P p = p
on_ok_always (Err e) P p = tt

-- the names stay few
pub few_names : (b : Bool) (names : List (List ℕ)) (name : List ℕ) → (b ≡ true → length names < 2 ^ 32) → length names ≤ 2 ^ 32 → length (cond b (with_name names name) names) ≤ 2 ^ 32
few_names false names name below most = most
few_names true names name below most = by (list_any (same name) names) (below refl)
  where
    by : (there : Bool) → length names < 2 ^ 32 → length (cond there names (names ++ name ∷ [])) ≤ 2 ^ 32
    by true few = omega (arith, few)
    by false few = omega (arith, few, length-append names (name ∷ []))

pub not_so : (b : Bool) → (b ≡ true → ⊥) → b ≡ false
not_so true not = absurd (not refl)
not_so false not = refl

pub not_found : {X : Type 0} (o : Option X) (x : X) → o ≡ None → o ≡ Some x → ⊥
not_found o x none some = false≢true (sym (ap is_some none) ∙ ap is_some some)
