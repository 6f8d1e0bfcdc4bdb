-- Lists of changes that leave the same contents.
use Rattle.std.proofs.Common.{◌≡◌, ℕ, List, [], ◌∷◌, ◌++◌, reverse, if◌then◌else◌, Option, Bool, refl, sym, ◌∙◌, ap}
use Rattle.std.proofs.lemmas.List.{reverse-append}
use Rattle.cache_model.specs.Change.{Change, writes, value_left, rules, presence_left}
use Rattle.cache_model.specs.Contents.{value_looking_back, presence_looking_back, SameContents}

pub same_itself : (changes : List Change) → SameContents changes changes
same_itself changes = record { values = λ cache key. refl; presence = λ cache. refl }

pub same_joined : (a b c : List Change) → SameContents a b → SameContents b c → SameContents a c
same_joined a b c first second = record {
  values = λ cache key. first.values cache key ∙ second.values cache key;
  presence = λ cache. first.presence cache ∙ second.presence cache;
}

pub same_turned : (a b : List Change) → SameContents a b → SameContents b a
same_turned a b same = record { values = λ cache key. sym (same.values cache key); presence = λ cache. sym (same.presence cache) }

-- newer changes decide, or what is below them does
below : (newer x y : List Change) (cache key : List ℕ) → value_looking_back x cache key ≡ value_looking_back y cache key → value_looking_back (newer ++ x) cache key ≡ value_looking_back (newer ++ y) cache key
below [] x y cache key same = same
below (n ∷ newer) x y cache key same = ap (λ (o : Option (List ℕ)). if writes n cache key then value_left n cache key else o) (below newer x y cache key same)

below_too : (newer x y : List Change) (cache : List ℕ) → presence_looking_back x cache ≡ presence_looking_back y cache → presence_looking_back (newer ++ x) cache ≡ presence_looking_back (newer ++ y) cache
below_too [] x y cache same = same
below_too (n ∷ newer) x y cache same = ap (λ (o : Bool). if rules n cache then presence_left n cache else o) (below_too newer x y cache same)

-- the same changes after both
pub same_after_more : (a b more : List Change) → SameContents a b → SameContents (a ++ more) (b ++ more)
same_after_more a b more same = record {
  values = λ cache key.
      ap (λ (l : List Change). value_looking_back l cache key) (reverse-append a more)
      ∙ below (reverse more) (reverse a) (reverse b) cache key (same.values cache key)
      ∙ ap (λ (l : List Change). value_looking_back l cache key) (sym (reverse-append b more));
  presence = λ cache.
      ap (λ (l : List Change). presence_looking_back l cache) (reverse-append a more)
      ∙ below_too (reverse more) (reverse a) (reverse b) cache (same.presence cache)
      ∙ ap (λ (l : List Change). presence_looking_back l cache) (sym (reverse-append b more));
}
