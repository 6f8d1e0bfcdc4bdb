-- Laws of hidden places, and of extents of caches that aren't there.
use Rattle.std.proofs.Common.{◌≡◌, ℕ, List, [], ◌∷◌, Bool, true, false, cond, ◌||◌, Option, Some, None, option_and_then, option_map, ap, ◌∙◌, sym, refl, subst, arith}
use Rattle.std.specs.Ordering.{nat_cmp}
use Rattle.std.specs.Cmp.Lexicographic.{slice_cmp, texts_ties, bytes_decides, nat_list_eq_equiv}
use Rattle.std.specs.List.{AllByRecursion, cons_option, list_any}
use Rattle.std.specs.Map.{lookup, keys_of, remove_entry}
use Rattle.std.specs.BTreeMap.{is_at}
use Rattle.std.proofs.lemmas.Bool.{false≢true}
use Rattle.cache_model.specs.Caches.{same, Pairs}
use Rattle.cache_model.specs.Contents.{IsRising}
use Rattle.cache_model.proofs.ContentsLemmas.{same-itself}
use Rattle.cache_model.proofs.ShownLemmas.{same-is_at}
use Rattle.partition_map.specs.declared.extent.Extent.{Extent}
use Rattle.partition_map.specs.declared.readied.Readied.{Readied}
use Rattle.partition_map.specs.Extents.{Extents, presence_held, extent_shown, caches_in}
use Rattle.partition_map.specs.Hidden.{HidesHere, HideNothing, HideOnlyOf, AreHiddenBy, if_there, IsLeftThere}
use Rattle.partition_map.specs.Place.{PlaceList, is_hidden, hides, HidesOnly, HidesNoMore, SameValues, place_count, place_bytes, value_count, value_bytes}
use Rattle.partition_map.specs.Written.{ShowsAgain}
use Rattle.partition_map.proofs.ChangedLemmas.{AreWhole, IsWritten, hidden_first}
use Rattle.partition_map.proofs.SumLemmas.{weight, total-remove}
use Rattle.partition_map.proofs.ValueLemmas.{PlaceChanges}

-- ---- places

hidden_is : (o : Option (Option (List ℕ))) → is_hidden o ≡ true → o ≡ Some None
hidden_is None h = absurd (false≢true h)
hidden_is (Some None) h = refl
hidden_is (Some (Some v)) h = absurd (false≢true h)

is_key : (key other : List ℕ) → is_at (slice_cmp nat_cmp key) other ≡ true → key ≡ other
is_key key other here = (bytes_decides key other).0 (texts_ties key other ∙ here)

hidden-cond : (b : Bool) (w o : Option (Option (List ℕ))) → is_hidden w ≡ false → is_hidden (cond b w o) ≡ true → is_hidden o ≡ true
hidden-cond true w o shown h = absurd (false≢true (sym shown ∙ h))
hidden-cond false w o shown h = h

-- a place that takes a value or goes hides nothing
pub hides-shown : (old new : PlaceList) (key : List ℕ) (w : Option (Option (List ℕ))) → PlaceChanges old new key w → is_hidden w ≡ false → HidesNoMore old new
hides-shown old new key w changes shown = record {
  was = λ other h. hidden-cond (is_at (slice_cmp nat_cmp key) other) w (lookup (is_at (slice_cmp nat_cmp other)) old) shown (sym (ap is_hidden (changes other)) ∙ h);
}

-- a place of one of these keys is hidden
pub hides-one : (keys : List (List ℕ)) (old new : PlaceList) (key : List ℕ) → PlaceChanges old new key (Some None) → list_any (same key) keys ≡ true → HidesOnly keys old → HidesOnly keys new
hides-one keys old new key changes one only = record {
  among = λ other h. by other (is_at (slice_cmp nat_cmp key) other) refl (sym (ap is_hidden (changes other)) ∙ h);
}
  where
    by : (other : List ℕ) (b : Bool) → is_at (slice_cmp nat_cmp key) other ≡ b → is_hidden (cond b (Some None) (lookup (is_at (slice_cmp nat_cmp other)) old)) ≡ true → list_any (same other) keys ≡ true
    by other true here h = subst (λ (k : List ℕ). list_any (same k) keys ≡ true) (is_key key other here) one
    by other false apart h = only.among other h

same-turned : (a b : List ℕ) → same a b ≡ same b a
same-turned a b = nat_list_eq_equiv.symm a b

-- the place of the first key goes
pub hides-forgotten : (keys : List (List ℕ)) (old new : PlaceList) (key : List ℕ) → PlaceChanges old new key None → HidesOnly (key ∷ keys) old → HidesOnly keys new
hides-forgotten keys old new key changes only = record {
  among = λ other h. by other (is_at (slice_cmp nat_cmp key) other) refl (sym (ap is_hidden (changes other)) ∙ h);
}
  where
    by : (other : List ℕ) (b : Bool) → is_at (slice_cmp nat_cmp key) other ≡ b → is_hidden (cond b None (lookup (is_at (slice_cmp nat_cmp other)) old)) ≡ true → list_any (same other) keys ≡ true
    by other true here h = absurd (false≢true h)
    by other false apart h = sym (ap (λ b. b || list_any (same other) keys) (same-turned other key ∙ texts_ties key other ∙ apart)) ∙ only.among other h

-- the place of the first key isn't hidden
pub hides-others : (keys : List (List ℕ)) (places : PlaceList) (key : List ℕ) → hides places key ≡ false → HidesOnly (key ∷ keys) places → HidesOnly keys places
hides-others keys places key shown only = record { among = λ other h. by other h (same other key) refl }
  where
    by : (other : List ℕ) → hides places other ≡ true → (b : Bool) → same other key ≡ b → list_any (same other) keys ≡ true
    by other h true here = absurd (false≢true (sym shown ∙ ap (hides places) (sym ((bytes_decides other key).0 here)) ∙ h))
    by other h false apart = sym (ap (λ b. b || list_any (same other) keys) apart) ∙ only.among other h

pub HidesNoMore-chain : (first second third : PlaceList) → HidesNoMore first second → HidesNoMore second third → HidesNoMore first third
HidesNoMore-chain first second third a b = record { was = λ key h. a.was key (b.was key h) }

pub HidesOnly-after : (keys : List (List ℕ)) (old new : PlaceList) → HidesNoMore old new → HidesOnly keys old → HidesOnly keys new
HidesOnly-after keys old new no_more only = record { among = λ key h. only.among key (no_more.was key h) }

pub hides-none : (old new : PlaceList) → new ≡ [] → HidesNoMore old new
hides-none old new none = record { was = λ key is. absurd (false≢true (ap (λ (places : PlaceList). hides places key) (sym none) ∙ is)) }

pub HidesOnly-more : (keys : List (List ℕ)) (places : PlaceList) → HidesOnly [] places → HidesOnly keys places
HidesOnly-more keys places only = record { among = λ key is. absurd (false≢true (only.among key is)) }

pub key-among : (key : List ℕ) → list_any (same key) (key ∷ []) ≡ true
key-among key = ap (λ b. b || false) (same-itself key)

gone : (b : Bool) (o : Option (Option (List ℕ))) → (b ≡ true → o ≡ Some None) → option_and_then (λ v. v) (cond b None o) ≡ option_and_then (λ v. v) o
gone true o is = sym (ap (option_and_then (λ v. v)) (is refl))
gone false o is = refl

-- a hidden place that goes leaves the values
pub SameValues-forgotten : (old new : PlaceList) (key : List ℕ) → PlaceChanges old new key None → new ≡ remove_entry (is_at (slice_cmp nat_cmp key)) old → hides old key ≡ true → SameValues old new
SameValues-forgotten old new key changes removed hidden = record {
  values = λ other. ap (option_and_then (λ v. v)) (changes other) ∙ gone (is_at (slice_cmp nat_cmp key) other) (lookup (is_at (slice_cmp nat_cmp other)) old) (λ here. ap (λ (k : List ℕ). lookup (is_at (slice_cmp nat_cmp k)) old) (sym (is_key key other here)) ∙ at);
  count = omega (arith, ap value_count removed, total-remove place_count old key, ap (weight place_count key) at);
  bytes = omega (arith, ap value_bytes removed, total-remove place_bytes old key, ap (weight place_bytes key) at);
}
  where
    at : lookup (is_at (slice_cmp nat_cmp key)) old ≡ Some None
    at = hidden_is (lookup (is_at (slice_cmp nat_cmp key)) old) hidden

-- each key is among the keys of the pairs
pub keys-among : (pairs : Pairs) → AllByRecursion (λ p. list_any (same p.0) (keys_of pairs) ≡ true) pairs
keys-among pairs = by pairs (keys_of pairs) (λ key is. is)
  where
    or-first : (b d : Bool) → b ≡ true → (b || d) ≡ true
    or-first true d is = refl
    or-first false d is = absurd (false≢true is)

    or-rest : (b d : Bool) → d ≡ true → (b || d) ≡ true
    or-rest true d is = refl
    or-rest false d is = is

    by : (rest : Pairs) (keys : List (List ℕ)) → ((key : List ℕ) → list_any (same key) (keys_of rest) ≡ true → list_any (same key) keys ≡ true) → AllByRecursion (λ p. list_any (same p.0) keys ≡ true) rest
    by [] keys within = tt
    by (p ∷ ps) keys within = (
      within p.0 (or-first (same p.0 p.0) (list_any (same p.0) (keys_of ps)) (same-itself p.0)),
      by ps keys (λ key is. within key (or-rest (same key p.0) (list_any (same key) (keys_of ps)) is)),
    )

-- ---- extents

-- what a map says of a change of one entry
pub lookup-updated : (cache : List ℕ) (old new : Extents) (w : Option Extent)
    → ((q : List ℕ) → lookup (is_at (slice_cmp nat_cmp q)) new ≡ cond (is_at (slice_cmp nat_cmp cache) q) w (lookup (is_at (slice_cmp nat_cmp q)) old))
    → (other : List ℕ) → lookup (same other) new ≡ cond (same cache other) w (lookup (same other) old)
lookup-updated cache old new w updates other =
    ap (λ test. lookup test new) (same-is_at other) ∙ updates other ∙ (λ i. cond (sym (same-is_at cache) i other) w (lookup (sym (same-is_at other) i) old))

there_alone : (a : Bool) (keys : List (List ℕ)) (e : Extent) (b : Bool) → e.present ≡ b → HidesOnly keys e.places → HidesHere a keys (cond b (Some e) None)
there_alone a keys e true is only = (λ absent. absurd (false≢true (sym absent ∙ is)), only)
there_alone a keys e false is only = tt

if_there-none : (o : Option Extent) → presence_held o ≡ false → if_there o ≡ None
if_there-none None absent = refl
if_there-none (Some e) absent = ap (λ b. cond b (Some e) None) absent

if_there-some : (o : Option Extent) → presence_held o ≡ true → if_there o ≡ o
if_there-some None there = absurd (false≢true there)
if_there-some (Some e) there = ap (λ b. cond b (Some e) None) there

pub left_there-removed : (cache : List ℕ) (old new : Extents) → presence_held (lookup (same cache) old) ≡ false → ((other : List ℕ) → lookup (same other) new ≡ cond (same cache other) None (lookup (same other) old)) → IsLeftThere cache old new
left_there-removed cache old new absent removed other = removed other ∙ by (same cache other) refl
  where
    by : (b : Bool) → same cache other ≡ b → cond b None (lookup (same other) old) ≡ cond b (if_there (lookup (same other) old)) (lookup (same other) old)
    by true here = sym (if_there-none (lookup (same other) old) (ap (λ (k : List ℕ). presence_held (lookup (same k) old)) (sym ((bytes_decides cache other).0 here)) ∙ absent))
    by false apart = refl

pub left_there-kept : (cache : List ℕ) (es : Extents) → presence_held (lookup (same cache) es) ≡ true → IsLeftThere cache es es
left_there-kept cache es there other = by (same cache other) refl
  where
    by : (b : Bool) → same cache other ≡ b → lookup (same other) es ≡ cond b (if_there (lookup (same other) es)) (lookup (same other) es)
    by true here = sym (if_there-some (lookup (same other) es) (ap (λ (k : List ℕ). presence_held (lookup (same k) es)) (sym ((bytes_decides cache other).0 here)) ∙ there))
    by false apart = refl

whole-remove : (test : List ℕ → Bool) (es : Extents) → AreWhole es → AreWhole (remove_entry test es)
whole-remove test [] whole = tt
whole-remove test (e ∷ es) whole = elim (test e.0) as (λ b. AreWhole (cond b es (e ∷ remove_entry test es))) [ true ↦ whole.1 | false ↦ (whole.0, whole-remove test es whole.1) ]

caches_in-remove : (test : List ℕ → Bool) (es : Extents) → presence_held (lookup test es) ≡ false → caches_in (remove_entry test es) ≡ caches_in es
caches_in-remove test [] absent = refl
caches_in-remove test (e ∷ es) absent = by (test e.0) absent (caches_in-remove test es)
  where
    by : (b : Bool) → presence_held (cond b (Some e.1) (lookup test es)) ≡ false → (presence_held (lookup test es) ≡ false → caches_in (remove_entry test es) ≡ caches_in es) → caches_in (cond b es (e ∷ remove_entry test es)) ≡ caches_in (e ∷ es)
    by true is rest = sym (hidden_first e.0 e.1 (caches_in es) is)
    by false is rest = ap (λ cs. cons_option (option_map (λ (pairs : Pairs). (e.0, pairs)) (extent_shown e.1)) cs) (rest is)

-- an extent that shows nothing goes
pub ShowsAgain-remove : (test : List ℕ → Bool) (old new : Extents) → presence_held (lookup test old) ≡ false → new ≡ remove_entry test old → IsRising (keys_of new) → ShowsAgain old new
ShowsAgain-remove test old new absent removed rise = record {
  whole = λ whole. subst AreWhole (sym removed) (whole-remove test old whole);
  rises = λ _. rise;
  shown = λ whole _. ap caches_in removed ∙ caches_in-remove test old absent;
}

-- ---- what is hidden

nothing-here : (b : Bool) (o : Option Extent) → HidesHere b (cond b [] []) o → HidesHere false [] (cond b (if_there o) o)
nothing-here true None h = tt
nothing-here true (Some e) h = there_alone false [] e e.present refl h.1
nothing-here false o h = h

-- once the extent is gone, nothing is hidden
pub HideNothing-left : (cache : List ℕ) (old new : Extents) → IsLeftThere cache old new → HideOnlyOf cache [] old → HideNothing new
HideNothing-left cache old new left only = λ other. subst (HidesHere false []) (sym (left other)) (nothing-here (same cache other) (lookup (same other) old) (only other))

-- the extent of the cache is written, and hides only these keys now
pub HideOnlyOf-written : (cache : List ℕ) (keys keys_now : List (List ℕ)) (old new : Extents) (before now : Extent) → lookup (same cache) old ≡ Some before → IsWritten cache old new now → (HidesOnly keys before.places → HidesOnly keys_now now.places) → HideOnlyOf cache keys old → HideOnlyOf cache keys_now new
HideOnlyOf-written cache keys keys_now old new before now was written hides_now only = λ other.
    subst (HidesHere (same cache other) (cond (same cache other) keys_now [])) (sym (written other)) (by other (same cache other) refl (only other))
  where
    by : (other : List ℕ) (b : Bool) → same cache other ≡ b → HidesHere b (cond b keys []) (lookup (same other) old) → HidesHere b (cond b keys_now []) (cond b (Some now) (lookup (same other) old))
    by other true here h = (λ _. refl, hides_now (subst (HidesHere true keys) (ap (λ (k : List ℕ). lookup (same k) old) (sym ((bytes_decides cache other).0 here)) ∙ was) h).1)
    by other false apart h = h

nothing-only : (a : Bool) (keys : List (List ℕ)) (o : Option Extent) → HidesHere false [] o → HidesHere a keys o
nothing-only a keys None h = tt
nothing-only a keys (Some e) h = (λ absent. absurd (false≢true (h.0 absent)), record { among = λ key is. absurd (false≢true (h.1.among key is)) })

pub HideOnlyOf-nothing : (cache : List ℕ) (keys : List (List ℕ)) (es : Extents) → HideNothing es → HideOnlyOf cache keys es
HideOnlyOf-nothing cache keys es nothing = λ other. nothing-only (same cache other) (cond (same cache other) keys []) (lookup (same other) es) (nothing other)

no_places : (e : Extent) → e.places ≡ [] → HidesOnly [] e.places
no_places e none = record { among = λ key is. absurd (false≢true (ap (λ (places : PlaceList). hides places key) (sym none) ∙ is)) }

-- an extent without places is added
pub HideOnlyOf-inserted : (cache : List ℕ) (old new : Extents) (now : Extent) → now.places ≡ [] → IsWritten cache old new now → HideNothing old → HideOnlyOf cache [] new
HideOnlyOf-inserted cache old new now none written nothing = λ other. subst (HidesHere (same cache other) (cond (same cache other) [] [])) (sym (written other)) (by (same cache other) (lookup (same other) old) (nothing other))
  where
    by : (b : Bool) (o : Option Extent) → HidesHere false [] o → HidesHere b (cond b [] []) (cond b (Some now) o)
    by true o h = (λ _. refl, no_places now none)
    by false o h = h

-- a change hides nothing more
pub AreHiddenBy-changed : (readied : Option Readied) (cache : List ℕ) (old mid new : Extents) (before now : Extent) → lookup (same cache) old ≡ Some before → IsWritten cache old mid now → HidesNoMore before.places now.places → IsLeftThere cache mid new → AreHiddenBy readied old → AreHiddenBy readied new
AreHiddenBy-changed readied cache old mid new before now was written no_more left hidden = each readied hidden
  where
    here : (a : Bool) (keys : List (List ℕ)) (other : List ℕ) → HidesHere a keys (lookup (same other) old) → HidesHere a keys (lookup (same other) new)
    here a keys other h = subst (HidesHere a keys) (sym (left other ∙ ap (λ o. cond (same cache other) (if_there o) o) (written other))) (by (same cache other) refl)
      where
        by : (b : Bool) → same cache other ≡ b → HidesHere a keys (cond b (if_there (cond b (Some now) (lookup (same other) old))) (cond b (Some now) (lookup (same other) old)))
        by true is = there_alone a keys now now.present refl (HidesOnly-after keys before.places now.places no_more (subst (HidesHere a keys) (ap (λ (k : List ℕ). lookup (same k) old) (sym ((bytes_decides cache other).0 is)) ∙ was) h).1)
        by false apart = h

    each : (r : Option Readied) → AreHiddenBy r old → AreHiddenBy r new
    each None h = λ other. here false [] other (h other)
    each (Some r) h = λ other. here (same r.cache other) (cond (same r.cache other) r.keys.items []) other (h other)

-- there is no extent of the cache
pub HideOnlyOf-absent : (cache : List ℕ) (keys keys_now : List (List ℕ)) (es : Extents) → lookup (same cache) es ≡ None → HideOnlyOf cache keys es → HideOnlyOf cache keys_now es
HideOnlyOf-absent cache keys keys_now es none only = λ other. by other (same cache other) refl (only other)
  where
    by : (other : List ℕ) (b : Bool) → same cache other ≡ b → HidesHere b (cond b keys []) (lookup (same other) es) → HidesHere b (cond b keys_now []) (lookup (same other) es)
    by other true here h = subst (HidesHere true keys_now) (sym (ap (λ (k : List ℕ). lookup (same k) es) (sym ((bytes_decides cache other).0 here)) ∙ none)) tt
    by other false apart h = h

-- more keys may be hidden
pub HideOnlyOf-more : (cache : List ℕ) (keys : List (List ℕ)) (es : Extents) → HideOnlyOf cache [] es → HideOnlyOf cache keys es
HideOnlyOf-more cache keys es only = λ other. by (same cache other) (lookup (same other) es) (only other)
  where
    by : (b : Bool) (o : Option Extent) → HidesHere b (cond b [] []) o → HidesHere b (cond b keys []) o
    by b None h = tt
    by true (Some e) h = (h.0, HidesOnly-more keys e.places h.1)
    by false (Some e) h = h
