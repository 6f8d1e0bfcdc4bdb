-- Laws of specs/Contents.antt.
use Rattle.std.proofs.Common.{◌≡◌, ℕ, List, [], ◌∷◌, ◌++◌, Bool, true, false, cond, ◌&&◌, Some, if◌then◌else◌, ap, ◌∙◌, sym, refl}
use Rattle.std.specs.Cmp.Lexicographic.{bytes_decides}
use Rattle.std.proofs.lemmas.List.{reverse-append}
use Rattle.cache_model.specs.Caches.{same, Caches}
use Rattle.cache_model.specs.Change.{Change, put, writes, value_left, rules, presence_left}
use Rattle.cache_model.specs.Contents.{value_looking_back, value_after, presence_looking_back, is_present_after, SameContents, AreContentsAfter}
use Rattle.cache_model.specs.Step.{IsChangedBy}
use Rattle.cache_model.proofs.ListLemmas.{same_caches}

-- of one change more: it decides, or the others do
pub value_after-push : (changes : List Change) (newest : Change) (cache key : List ℕ) → value_after (changes ++ newest ∷ []) cache key ≡ (if writes newest cache key then value_left newest cache key else value_after changes cache key)
value_after-push changes newest cache key = ap (λ back. value_looking_back back cache key) (reverse-append changes (newest ∷ []))

pub presence_after-push : (changes : List Change) (newest : Change) (cache : List ℕ) → is_present_after (changes ++ newest ∷ []) cache ≡ (if rules newest cache then presence_left newest cache else is_present_after changes cache)
presence_after-push changes newest cache = ap (λ back. presence_looking_back back cache) (reverse-append changes (newest ∷ []))

-- the contents after one change more are those before it, changed
pub IsChangedBy-from_contents : (changes : List Change) (newest : Change) (before after : Caches) → AreContentsAfter changes before → AreContentsAfter (changes ++ newest ∷ []) after → IsChangedBy newest before after
IsChangedBy-from_contents changes newest before after were are = record {
  names_rise = λ _. are.names_rise;
  keys_rise = λ _. are.keys_rise;
  presence = λ c. are.presence c ∙ presence_after-push changes newest c ∙ ap (cond (rules newest c) (presence_left newest c)) (sym (were.presence c));
  values = λ c k. are.values c k ∙ value_after-push changes newest c k ∙ ap (cond (writes newest c k) (value_left newest c k)) (sym (were.values c k));
}

pub same-itself : (text : List ℕ) → same text text ≡ true
same-itself text = (bytes_decides text text).1 refl

pub value_after-put : (changes : List Change) (cache key value : List ℕ) → value_after (changes ++ put cache key value ∷ []) cache key ≡ Some value
value_after-put changes cache key value =
    value_after-push changes (put cache key value) cache key
    ∙ (λ i. cond (same-itself cache i && same-itself key i) (Some value) (value_after changes cache key))

-- where not both tests pass, the second of the choice is taken
not_both : {X : Type 0} (b more : Bool) (x y : X) → ((b ≡ true) → (more ≡ true) → ⊥) → cond (b && more) x y ≡ y
not_both true true x y apart = absurd (apart refl refl)
not_both true false x y apart = refl
not_both false more x y apart = refl

pub value_after-put_elsewhere : (changes : List Change) (cache key value other_cache other_key : List ℕ) → ¬ ((cache ≡ other_cache) × (key ≡ other_key)) → value_after (changes ++ put cache key value ∷ []) other_cache other_key ≡ value_after changes other_cache other_key
value_after-put_elsewhere changes cache key value other_cache other_key apart =
    value_after-push changes (put cache key value) other_cache other_key
    ∙ not_both (same cache other_cache) (same key other_key) (Some value) (value_after changes other_cache other_key) (λ is_cache is_key. apart ((bytes_decides cache other_cache).0 is_cache, (bytes_decides key other_key).0 is_key))

-- lists of changes with the same contents have one list of contents
pub same_contents : (changes others : List Change) (caches other_caches : Caches) → SameContents changes others → AreContentsAfter changes caches → AreContentsAfter others other_caches → caches ≡ other_caches
same_contents changes others caches other_caches same_changes a b =
    same_caches caches other_caches a.names_rise b.names_rise a.keys_rise b.keys_rise (λ cache. a.presence cache ∙ same_changes.presence cache ∙ sym (b.presence cache)) (λ cache key. a.values cache key ∙ same_changes.values cache key ∙ sym (b.values cache key))

-- and the other way round
pub SameContents-from_one : (changes others : List Change) (caches : Caches) → AreContentsAfter changes caches → AreContentsAfter others caches → SameContents changes others
SameContents-from_one changes others caches a b = record {
  values = λ cache key. sym (a.values cache key) ∙ b.values cache key;
  presence = λ cache. sym (a.presence cache) ∙ b.presence cache;
}
