-- Contents as a list of one change.
use Rattle.std.proofs.Common.{List, [], ◌∷◌, ◌++◌, refl}
use Rattle.cache_model.specs.Caches.{Caches}
use Rattle.cache_model.specs.Change.{Change, changes_of, reset}
use Rattle.cache_model.specs.Contents.{SameContents, AreContentsAfter}
use Rattle.cache_model.specs.PlainList.{plain_list}
use Rattle.cache_model.proofs.ContentsLemmas.{SameContents-from_one}
use Rattle.cache_model.proofs.SameLemmas.{same_joined, same_turned, same_after_more}

-- contents in place of all are the contents
reset_is : (changes : List Change) (caches : Caches) → AreContentsAfter changes caches → AreContentsAfter (reset caches ∷ []) caches
reset_is changes caches are = record { names_rise = are.names_rise; keys_rise = are.keys_rise; presence = λ cache. refl; values = λ cache key. refl }

pub reset_same : (changes : List Change) (caches : Caches) → AreContentsAfter changes caches → SameContents (reset caches ∷ []) changes
reset_same changes caches are = SameContents-from_one (reset caches ∷ []) changes caches (reset_is changes caches are) are

-- one change more
pub reset_more : (changes : List Change) (before after : Caches) (change : Change) → AreContentsAfter changes before → AreContentsAfter (changes ++ change ∷ []) after
    → SameContents (reset before ∷ change ∷ []) (reset after ∷ [])
reset_more changes before after change first second =
    same_joined (reset before ∷ change ∷ []) (changes ++ change ∷ []) (reset after ∷ [])
    (same_after_more (reset before ∷ []) changes (change ∷ []) (reset_same changes before first))
    (same_turned (reset after ∷ []) (changes ++ change ∷ []) (reset_same (changes ++ change ∷ []) after second))

-- the plain list leaves them
pub plain_same : (changes : List Change) (caches : Caches) → AreContentsAfter changes caches → AreContentsAfter (changes_of (plain_list caches)) caches
    → SameContents (changes_of (plain_list caches)) (reset caches ∷ [])
plain_same changes caches are plain = SameContents-from_one (changes_of (plain_list caches)) (reset caches ∷ []) caches plain (reset_is changes caches are)
