-- The newest of the files of a partition.
use Rattle.std.proofs.Common.{◌≡◌, ℕ, suc, ◌+◌, ◌-◌, ◌<◌, ◌≤◌, List, [], ◌∷◌, ◌++◌, All, take, drop, sym, ◌∙◌, ap, subst, arith}
use Rattle.std.specs.List.{flat_map}
use Rattle.std.proofs.lemmas.List.{take-take, drop-drop, drop-take}
use Rattle.byte_fields.specs.Numbers.{big_endian, number_in}
use Rattle.cache_key.specs.declared.request.Mutation.{Mutation}
use Rattle.cache_model.specs.Change.{Change, changes_of}
use Rattle.cache_model.specs.Contents.{SameContents, value_after, is_present_after}
use Rattle.record_form.specs.declared.header.Header.{Header}
use Rattle.record_form.proofs.HeaderLemmas.{header_in-header_text}
use Rattle.seal_gate.specs.Seal.{IsSealed}
use Rattle.store_journal.specs.Text.{IsText}
use Rattle.store_journal.specs.Stands.{version_in, IsOlder, StandsFor}
use Rattle.store_journal.proofs.TextOnce.{text_once}

-- a number of the header stands one offset further on in the file
pub within_head : (bytes : List ℕ) (offset size : ℕ) → offset + size ≤ 40 → take size (drop (1 + offset) bytes) ≡ take size (drop offset (take 40 (drop 1 bytes)))
within_head bytes offset size within =
    let left : ℕ = 40 - offset in
    let whole : offset + left ≡ 40 = omega arith in
    ap (λ (l : List ℕ). take size l) (sym (drop-drop offset 1 bytes))
    ∙ sym (take-take size left (drop offset (drop 1 bytes)) (omega arith))
    ∙ ap (λ (l : List ℕ). take size l) (sym (drop-take offset left (drop 1 bytes)))
    ∙ ap (λ (n : ℕ). take size (drop offset (take n (drop 1 bytes)))) whole

-- a store's version is the one that its file shows
pub version_of_text : (header : Header) (groups : List (List Mutation)) (bytes : List ℕ) → IsText header groups bytes → version_in bytes ≡ header.id.version
version_of_text header groups bytes is =
    ap big_endian (within_head bytes 8 8 (omega arith)) ∙ ap (λ (text : List ℕ). number_in text 8 8) is.named ∙ ap (λ (h : Header). h.id.version) (header_in-header_text header is.limits)

-- what all files of a list have, the one in its middle has
middle : (P : List ℕ → Type 0) (before after : List (List ℕ)) (bytes : List ℕ) → All P (before ++ bytes ∷ after) → P bytes
middle P [] after bytes all = all 0 [] (omega arith)
middle P (first ∷ before) after bytes all = middle P before after bytes (λ k d lt. all (suc k) d (omega arith))

-- two files aren't each newer than the other
not_both : (first : List ℕ) (others after following : List (List ℕ)) (newest other : List ℕ) → newest ∷ after ≡ first ∷ (others ++ other ∷ following) → IsSealed newest → IsSealed other
    → All (IsOlder (version_in newest)) after → All (IsOlder (version_in other)) (first ∷ others) → ⊥
not_both first others after following newest other files is also older more =
    let here : newest ≡ first = cc in
    let rest : after ≡ others ++ other ∷ following = cc in
    let one : version_in newest < version_in other = subst (λ (l : List ℕ). IsOlder (version_in other) l) (sym here) (more 0 [] (omega arith)) is in
    let two : version_in other < version_in newest = middle (IsOlder (version_in newest)) others following other (subst (λ (l : List (List ℕ)). All (IsOlder (version_in newest)) l) rest older) also in
    omega (arith, one, two)

-- there is one newest file
same_newest : (before others : List (List ℕ)) (after following : List (List ℕ)) (newest other : List ℕ) → before ++ newest ∷ after ≡ others ++ other ∷ following → IsSealed newest → IsSealed other
    → All (IsOlder (version_in newest)) before → All (IsOlder (version_in newest)) after → All (IsOlder (version_in other)) others → All (IsOlder (version_in other)) following → newest ≡ other
same_newest [] [] after following newest other files is also a b c d = cc
same_newest [] (first ∷ others) after following newest other files is also a b c d = absurd (not_both first others after following newest other files is also b c)
same_newest (first ∷ before) [] after following newest other files is also a b c d = absurd (not_both first before following after other newest (sym files) also is d a)
same_newest (first ∷ before) (second ∷ others) after following newest other files is also a b c d =
    let rest : before ++ newest ∷ after ≡ others ++ other ∷ following = cc in
    same_newest before others after following newest other rest is also (λ k e lt. a (suc k) e (omega arith)) b (λ k e lt. c (suc k) e (omega arith)) d

-- files stand for the same contents, whichever changes lead to them
pub stands_once : (files : List (List ℕ)) (partition partitions : ℕ) (changes others : List Change) → StandsFor files partition partitions changes → StandsFor files partition partitions others → SameContents changes others
stands_once files partition partitions changes others is also =
    let same : is.newest ≡ also.newest = same_newest is.before also.before is.after also.after is.newest also.newest (sym is.offset ∙ also.offset) is.store.text.sealed also.store.text.sealed
    is.others_before is.others_after also.others_before also.others_after in
    let groups = (text_once is.header also.header is.store.groups also.store.groups also.newest (subst (λ (l : List ℕ). IsText is.header is.store.groups l) same is.store.text) also.store.text).1 in
    let mutations : is.mutations ≡ also.mutations = is.store.joined ∙ ap (λ (gs : List (List Mutation)). flat_map (λ group. group) gs) groups ∙ sym also.store.joined in
    record {
      values = λ cache key. sym (is.contents.values cache key) ∙ ap (λ (ms : List Mutation). value_after (changes_of ms) cache key) mutations ∙ also.contents.values cache key;
      presence = λ cache. sym (is.contents.presence cache) ∙ ap (λ (ms : List Mutation). is_present_after (changes_of ms) cache) mutations ∙ also.contents.presence cache;
    }
