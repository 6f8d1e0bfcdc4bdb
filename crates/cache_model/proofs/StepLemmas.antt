-- Laws of specs/Step.antt: what each change does to the contents, by look-ups.
use Rattle.std.proofs.Common.{◌≡◌, ℕ, List, [], ◌∷◌, ◌++◌, reverse, Bool, true, false, cond, ◌&&◌, ◌||◌, Option, Some, None, option_and_then, is_some, ap, ◌∙◌, sym, refl}
use Rattle.std.specs.Cmp.Lexicographic.{bytes_decides, nat_list_eq_equiv}
use Rattle.std.specs.Map.{lookup}
use Rattle.std.proofs.lemmas.Bool.{false≢true}
use Rattle.cache_model.specs.Caches.{same, Pairs, Caches, value_in}
use Rattle.cache_model.specs.Change.{put, remove, ensure, truncate, destroy, batch}
use Rattle.cache_model.specs.Step.{IsReplaced, IsChangedBy}
use Rattle.cache_model.proofs.PairsLemmas.{lookup_push, lookup-reverse_push}

-- what a look-up of the key finds in pairs that may not be there
abbrev pub found : List ℕ → Option Pairs → Option (List ℕ)
found key pairs = option_and_then (lookup (same key)) pairs

-- equal names find the same
found_at : (cache other : List ℕ) (caches : Caches) → same cache other ≡ true → lookup (same other) caches ≡ lookup (same cache) caches
found_at cache other caches is = ap (λ (name : List ℕ). lookup (same name) caches) (sym ((bytes_decides cache other).0 is))

-- ---- the changes of one cache, where b is whether it is the cache that is looked up

put_values : (b more : Bool) (value : List ℕ) (after : Pairs) (key : List ℕ) (was here : Option Pairs) → (b ≡ true → was ≡ here) → lookup (same key) after ≡ cond more (Some value) (found key here) → found key (cond b (Some after) was) ≡ cond (b && more) (Some value) (found key was)
put_values true more value after key was here at is = is ∙ ap (λ o. cond more (Some value) (found key o)) (sym (at refl))
put_values false more value after key was here at is = refl

-- the presence after a put and after an ensure
is_there : (b : Bool) (after : Pairs) (was : Option Pairs) → is_some (cond b (Some after) was) ≡ cond b true (is_some was)
is_there true after was = refl
is_there false after was = refl

pub IsChangedBy-put : (cache key value : List ℕ) (old new : Caches) (after : Pairs) → IsReplaced cache (Some after) old new → ((k : List ℕ) → lookup (same k) after ≡ cond (same key k) (Some value) (found k (lookup (same cache) old))) → IsChangedBy (put cache key value) old new
IsChangedBy-put cache key value old new after replaced is = record {
  names_rise = replaced.names_rise;
  keys_rise = replaced.keys_rise;
  presence = λ c. ap is_some (replaced.caches c) ∙ is_there (same cache c) after (lookup (same c) old);
  values = λ c k. ap (found k) (replaced.caches c) ∙ put_values (same cache c) (same key k) value after k (lookup (same c) old) (lookup (same cache) old) (found_at cache c old) (is k);
}

remove_presence : (b : Bool) (after before : Pairs) (was here : Option Pairs) → (b ≡ true → was ≡ here) → here ≡ Some before → is_some (cond b (Some after) was) ≡ is_some was
remove_presence true after before was here at is = ap is_some (sym (at refl ∙ is))
remove_presence false after before was here at is = refl

remove_values : (b more : Bool) (after before : Pairs) (key : List ℕ) (was here : Option Pairs) → (b ≡ true → was ≡ here) → here ≡ Some before → lookup (same key) after ≡ cond more None (lookup (same key) before) → found key (cond b (Some after) was) ≡ cond (b && more) None (found key was)
remove_values true more after before key was here at is less = less ∙ ap (λ o. cond more None (found key o)) (sym (at refl ∙ is))
remove_values false more after before key was here at is less = refl

pub IsChangedBy-remove : (cache key : List ℕ) (old new : Caches) (before after : Pairs) → lookup (same cache) old ≡ Some before → IsReplaced cache (Some after) old new → ((k : List ℕ) → lookup (same k) after ≡ cond (same key k) None (lookup (same k) before)) → IsChangedBy (remove cache key) old new
IsChangedBy-remove cache key old new before after there replaced less = record {
  names_rise = replaced.names_rise;
  keys_rise = replaced.keys_rise;
  presence = λ c. ap is_some (replaced.caches c) ∙ remove_presence (same cache c) after before (lookup (same c) old) (lookup (same cache) old) (found_at cache c old) there;
  values = λ c k. ap (found k) (replaced.caches c) ∙ remove_values (same cache c) (same key k) after before k (lookup (same c) old) (lookup (same cache) old) (found_at cache c old) there (less k);
}

-- a cache that isn't there is taken out
absent_out : (b : Bool) (was here : Option Pairs) → (b ≡ true → was ≡ here) → here ≡ None → cond b None was ≡ was
absent_out true was here at is = sym (at refl ∙ is)
absent_out false was here at is = refl

-- what a change of a part leaves of nothing
nothing_left : (b more : Bool) (key : List ℕ) (was here : Option Pairs) → (b ≡ true → was ≡ here) → here ≡ None → found key was ≡ cond (b && more) None (found key was)
nothing_left true true key was here at is = ap (found key) (at refl ∙ is)
nothing_left true false key was here at is = refl
nothing_left false more key was here at is = refl

pub IsChangedBy-remove_absent : (cache key : List ℕ) (old new : Caches) → lookup (same cache) old ≡ None → IsReplaced cache None old new → IsChangedBy (remove cache key) old new
IsChangedBy-remove_absent cache key old new absent replaced = record {
  names_rise = replaced.names_rise;
  keys_rise = replaced.keys_rise;
  presence = λ c. ap is_some (replaced.caches c ∙ absent_out (same cache c) (lookup (same c) old) (lookup (same cache) old) (found_at cache c old) absent);
  values = λ c k.
      ap (found k) (replaced.caches c ∙ absent_out (same cache c) (lookup (same c) old) (lookup (same cache) old) (found_at cache c old) absent)
      ∙ nothing_left (same cache c) (same key k) k (lookup (same c) old) (lookup (same cache) old) (found_at cache c old) absent;
}

there_already : (b : Bool) (was here : Option Pairs) → (b ≡ true → was ≡ here) → is_some here ≡ true → is_some was ≡ cond b true (is_some was)
there_already true was here at is = ap is_some (at refl) ∙ is
there_already false was here at is = refl

pub IsChangedBy-ensure_present : (cache : List ℕ) (old : Caches) → is_some (lookup (same cache) old) ≡ true → IsChangedBy (ensure cache) old old
IsChangedBy-ensure_present cache old there = record {
  names_rise = λ rise. rise;
  keys_rise = λ rise. rise;
  presence = λ c. there_already (same cache c) (lookup (same c) old) (lookup (same cache) old) (found_at cache c old) there;
  values = λ c k. refl;
}

nothing_found : (b : Bool) (key : List ℕ) (was here : Option Pairs) → (b ≡ true → was ≡ here) → is_some here ≡ false → found key (cond b (Some []) was) ≡ found key was
nothing_found true key (Some pairs) here at is = absurd (false≢true (sym is ∙ ap is_some (sym (at refl))))
nothing_found true key None here at is = refl
nothing_found false key was here at is = refl

pub IsChangedBy-ensure_absent : (cache : List ℕ) (old new : Caches) → is_some (lookup (same cache) old) ≡ false → IsReplaced cache (Some []) old new → IsChangedBy (ensure cache) old new
IsChangedBy-ensure_absent cache old new absent replaced = record {
  names_rise = replaced.names_rise;
  keys_rise = replaced.keys_rise;
  presence = λ c. ap is_some (replaced.caches c) ∙ is_there (same cache c) [] (lookup (same c) old);
  values = λ c k. ap (found k) (replaced.caches c) ∙ nothing_found (same cache c) k (lookup (same c) old) (lookup (same cache) old) (found_at cache c old) absent;
}

no_values : (b : Bool) (key : List ℕ) (was here : Option Pairs) → (b ≡ true → was ≡ here) → is_some here ≡ false → found key was ≡ cond b None (found key was)
no_values true key (Some pairs) here at is = absurd (false≢true (sym is ∙ ap is_some (sym (at refl))))
no_values true key None here at is = refl
no_values false key was here at is = refl

pub IsChangedBy-truncate_absent : (cache : List ℕ) (old : Caches) → is_some (lookup (same cache) old) ≡ false → IsChangedBy (truncate cache) old old
IsChangedBy-truncate_absent cache old absent = record {
  names_rise = λ rise. rise;
  keys_rise = λ rise. rise;
  presence = λ c. refl;
  values = λ c k. no_values (same cache c) k (lookup (same c) old) (lookup (same cache) old) (found_at cache c old) absent;
}

still_there : (b : Bool) (was here : Option Pairs) → (b ≡ true → was ≡ here) → is_some here ≡ true → is_some (cond b (Some []) was) ≡ is_some was
still_there true was here at is = sym (ap is_some (at refl) ∙ is)
still_there false was here at is = refl

-- the look-ups in a cache that has no keys, or isn't there
emptied : (b : Bool) (key : List ℕ) (was : Option Pairs) → found key (cond b (Some []) was) ≡ cond b None (found key was)
emptied true key was = refl
emptied false key was = refl

pub IsChangedBy-truncate_present : (cache : List ℕ) (old new : Caches) → is_some (lookup (same cache) old) ≡ true → IsReplaced cache (Some []) old new → IsChangedBy (truncate cache) old new
IsChangedBy-truncate_present cache old new there replaced = record {
  names_rise = replaced.names_rise;
  keys_rise = replaced.keys_rise;
  presence = λ c. ap is_some (replaced.caches c) ∙ still_there (same cache c) (lookup (same c) old) (lookup (same cache) old) (found_at cache c old) there;
  values = λ c k. ap (found k) (replaced.caches c) ∙ emptied (same cache c) k (lookup (same c) old);
}

gone : (b : Bool) (was : Option Pairs) → is_some (cond b None was) ≡ cond b false (is_some was)
gone true was = refl
gone false was = refl

gone_values : (b : Bool) (key : List ℕ) (was : Option Pairs) → found key (cond b None was) ≡ cond b None (found key was)
gone_values true key was = refl
gone_values false key was = refl

pub IsChangedBy-destroy : (cache : List ℕ) (old new : Caches) → IsReplaced cache None old new → IsChangedBy (destroy cache) old new
IsChangedBy-destroy cache old new replaced = record {
  names_rise = replaced.names_rise;
  keys_rise = replaced.keys_rise;
  presence = λ c. ap is_some (replaced.caches c) ∙ gone (same cache c) (lookup (same c) old);
  values = λ c k. ap (found k) (replaced.caches c) ∙ gone_values (same cache c) k (lookup (same c) old);
}

-- ---- a batch: an ensure, and then its puts

no_pair : {X : Type 0} (b : Bool) (x y : X) → cond (b && false) x y ≡ y
no_pair true x y = refl
no_pair false x y = refl

pub IsChangedBy-batch_none : (cache : List ℕ) (old new : Caches) → IsChangedBy (ensure cache) old new → IsChangedBy (batch cache []) old new
IsChangedBy-batch_none cache old new changed = record {
  names_rise = changed.names_rise;
  keys_rise = changed.keys_rise;
  presence = changed.presence;
  values = λ c k. changed.values c k ∙ sym (no_pair (same cache c) None (value_in old c k));
}

twice_there : (b x : Bool) → cond b true (cond b true x) ≡ cond b true x
twice_there true x = refl
twice_there false x = refl

-- a put after a batch; more is whether it is at the key, and had whether the batch has the key
put_later : {X : Type 0} (b more had : Bool) (value last was : X) → cond (b && more) value (cond (b && had) last was) ≡ cond (b && (had || more)) (cond more value last) was
put_later true true true value last was = refl
put_later true true false value last was = refl
put_later true false true value last was = refl
put_later true false false value last was = refl
put_later false more had value last was = refl

pub IsChangedBy-batch_more : (cache key value : List ℕ) (pairs : Pairs) (old between new : Caches) → IsChangedBy (batch cache pairs) old between → IsChangedBy (put cache key value) between new → IsChangedBy (batch cache (pairs ++ (key, value) ∷ [])) old new
IsChangedBy-batch_more cache key value pairs old between new first next = record {
  names_rise = λ rise. next.names_rise (first.names_rise rise);
  keys_rise = λ rise. next.keys_rise (first.keys_rise rise);
  presence = λ c. next.presence c ∙ ap (cond (same cache c) true) (first.presence c) ∙ twice_there (same cache c) (is_some (lookup (same c) old));
  values = λ c k.
      next.values c k
      ∙ ap (cond (same cache c && same key k) (Some value)) (first.values c k)
      ∙ put_later (same cache c) (same key k) (is_some (lookup (same k) pairs)) (Some value) (lookup (same k) (reverse pairs)) (value_in old c k)
      ∙ ap (λ (b : Bool). cond (same cache c && (is_some (lookup (same k) pairs) || b)) (cond b (Some value) (lookup (same k) (reverse pairs))) (value_in old c k)) (nat_list_eq_equiv.symm key k)
      ∙ (λ i. cond (same cache c && sym (lookup_push (same k) pairs key value) i) (sym (lookup-reverse_push (same k) pairs key value) i) (value_in old c k));
}
