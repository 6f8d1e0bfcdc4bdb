-- Laws of specs/Words.antt: arguments have one plan, and a name is not refused.
use Rattle.std.proofs.Common.{◌≡◌, ℕ, get_or, ◌<◌, ◌≤◌, ◌↔◌, List, [], ◌∷◌, ◌++◌, length, Option, true, false, refl, sym, ◌∙◌, ap, arith, subst, Err, IsErrOf}
use Rattle.std.specs.Prelude.{String, string_bytes}
use Rattle.std.specs.declared.alloc.Global.{Global}
use Rattle.std.specs.Option.{unwrap_or}
use Rattle.cache_key.specs.Names.{IsName, IsFirstBadByte, most_name_bytes}
use Rattle.cache_key.specs.declared.fault.NameFault.{NameFault}
use Rattle.cache_key.specs.declared.fault.NameFault.TheVariants.{Empty, Long, BadByte, NoMemory}
use Rattle.plan_words.specs.Words.{PlanWords, HostWord, AreOptions, IsPlan, IsSiteOf, IsDiskPlan, cut_words, pick_words, IsFaultOfHost, words_of}
use Rattle.plan_words.specs.declared.reason.WordReason.{WordReason}
use Rattle.plan_words.specs.declared.words.WordFault.{WordFault}
use Rattle.plan_words.specs.declared.words.WordFault.TheVariants as words
use Rattle.plan_words.proofs.OptionLemmas.{same_options}

-- the arguments name one host
pub one_host : (words : List (List ℕ)) (a b : List ℕ) (c p d q : Option ℕ) → PlanWords words a c p → PlanWords words b d q → a ≡ b
one_host words a b c p d q x y = let same = sym x.words_are ∙ y.words_are in cc

-- the options of a plan's arguments
options_of : (words : List (List ℕ)) (host : List ℕ) (cut picked : Option ℕ) → PlanWords words host cut picked → AreOptions host (cut_words host cut ++ pick_words picked) cut picked
options_of words host cut picked x = record { options_are = refl; call = x.call; image = x.image }

-- the arguments have one cut and one pick
pub one_disk : (words : List (List ℕ)) (a b : List ℕ) (c p d q : Option ℕ) → PlanWords words a c p → PlanWords words b d q → (c ≡ d) × (p ≡ q)
one_disk words a b c p d q x y =
    let same = sym x.words_are ∙ y.words_are in
    let options : cut_words a c ++ pick_words p ≡ cut_words a d ++ pick_words q = cc (one_host words a b c p d q x y) in
    same_options a (cut_words a c ++ pick_words p) c p d q (options_of words a c p x) record { options_are = options; call = y.call; image = y.image }

-- a name is refused only when memory runs out
pub name_not_refused : (word : List ℕ) (fault : NameFault) (e : WordFault) (reason : WordReason) → IsName word
    → (IsErrOf {T = List ℕ} (Err fault) Empty ↔ (word ≡ []))
    → (IsErrOf {T = List ℕ} (Err fault) Long ↔ (most_name_bytes < length word))
    → ((at : ℕ) → IsErrOf {T = List ℕ} (Err fault) (BadByte at) ↔ ((length word ≤ most_name_bytes) × IsFirstBadByte word at))
    → IsFaultOfHost fault e → e ≡ words.Words reason → ⊥
name_not_refused word Empty e reason name empty long bad told is = let none : 1 ≤ length {A = ℕ} [] = subst (λ (w : List ℕ). 1 ≤ length w) (empty.0 refl) name.least in absurd (omega arith)
name_not_refused word Long e reason name empty long bad told is = let more = long.0 refl in let most = name.most in omega (arith, more, most)
name_not_refused word (BadByte at) e reason name empty long bad told is = let where_ = (bad at).0 refl in let here : true ≡ false = sym (name.alphabet at 0 where_.1.within) ∙ where_.1.bad in cc
name_not_refused word NoMemory e reason name empty long bad told is = cc

-- the plan of the arguments is the only one
pub sited : (words hosts : List (List ℕ)) (partitions : ℕ) → IsPlan words hosts partitions → IsSiteOf words hosts partitions
sited words hosts partitions mine planned count theirs =
    let same = one_host words mine.host theirs.host _ _ _ _ mine.words_are theirs.words_are in
    (mine.hosts_are ∙ ap (λ (h : List ℕ). h ∷ []) same ∙ sym theirs.hosts_are, mine.partitions_are ∙ sym theirs.partitions_are)

-- the arguments and their options are those of a plan
pub planned : (words : List (List ℕ)) (host : List ℕ) (options : List (List ℕ)) (cut picked : Option ℕ) → HostWord words host options → AreOptions host options cut picked → PlanWords words host cut picked
planned words host options cut picked x y = let these = x.words_are in let those = y.options_are in record { words_are = cc; value_word = x.value_word; call = y.call; image = y.image }

-- the disk has one plan
pub disk_alone : (words : List (List ℕ)) (host : List ℕ) (options : List (List ℕ)) (cut picked : Option ℕ) → HostWord words host options → AreOptions host options cut picked
    → (found : Option ℕ) (pick : ℕ) → found ≡ cut → pick ≡ unwrap_or picked 0 → (other : Option ℕ) (image : ℕ) → IsDiskPlan words other image → (other ≡ found) × (image ≡ pick)
disk_alone words host options cut picked x y found pick is pick_is other image theirs =
    let mine = planned words host options cut picked x y in
    let same = one_disk words theirs.host host other theirs.picked cut picked theirs.words_are mine in
    (same.0 ∙ sym is, theirs.pick_is ∙ ap (λ (p : Option ℕ). unwrap_or p 0) same.1 ∙ sym pick_is)

-- the four arguments of two options
pub four_words : (options : List (String Global)) (v w x y : String Global) (first cut second pick : List ℕ) → 4 ≤ length options → length options < 5
    → v ≡ get_or options 0 v → w ≡ get_or options 1 w → x ≡ get_or options 2 x → y ≡ get_or options 3 y
    → first ≡ string_bytes v → cut ≡ string_bytes w → second ≡ string_bytes x → pick ≡ string_bytes y
    → words_of options ≡ first ∷ cut ∷ second ∷ pick ∷ []
four_words (a ∷ b ∷ c ∷ d ∷ []) v w x y first cut second pick least most at_v at_w at_x at_y is_v is_w is_x is_y = cc
four_words (a ∷ b ∷ c ∷ d ∷ e ∷ more) v w x y first cut second pick least most at_v at_w at_x at_y is_v is_w is_x is_y = absurd (omega arith)
four_words (a ∷ b ∷ c ∷ []) v w x y first cut second pick least most at_v at_w at_x at_y is_v is_w is_x is_y = absurd (omega arith)
four_words (a ∷ b ∷ []) v w x y first cut second pick least most at_v at_w at_x at_y is_v is_w is_x is_y = absurd (omega arith)
four_words (a ∷ []) v w x y first cut second pick least most at_v at_w at_x at_y is_v is_w is_x is_y = absurd (omega arith)
four_words [] v w x y first cut second pick least most at_v at_w at_x at_y is_v is_w is_x is_y = absurd (omega arith)
