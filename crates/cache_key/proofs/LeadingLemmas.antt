-- Texts compare as their leading bytes do, where these differ.
use Rattle.std.proofs.Common.{◌≡◌, ℕ, zero, suc, ◌+◌, ◌*◌, ◌<◌, List, [], ◌∷◌, drop, drop-drop, get_or, Less, Equal, Greater, nat_cmp, is_lt, refl, sym, ap, ◌∙◌, subst, arith}
use Rattle.std.specs.Cmp.{ranks}
use Rattle.std.specs.declared.cmp.Ordering.{Ordering}
use Rattle.std.specs.Ordering.{ordering_then, ordering_reverse, MatchOrdering}
use Rattle.std.specs.Cmp.Lexicographic.{slice_cmp, nat_list_cmp_total}
use Rattle.std.proofs.lemmas.Bool.{false≢true}
use Rattle.cache_key.specs.Leading.{spelt, AreSmall, IsLeadingOf}
use Rattle.cache_key.specs.declared.leading.Leading.{Leading}

-- a greater start spells more
rises : (n a b : ℕ) (us vs : List ℕ) → AreSmall us → a < b → spelt n a us < spelt n b vs
rises zero a b us vs small below = below
rises (suc n) a b [] [] small below = rises n (a * 256) (b * 256) [] [] small (omega (arith, below))
rises (suc n) a b [] (v ∷ vs) small below = rises n (a * 256) (b * 256 + v) [] vs small (omega (arith, below))
rises (suc n) a b (u ∷ us) [] small below = rises n (a * 256 + u) (b * 256) us [] (λ i. small (suc i)) (omega (arith, below, small 0))
rises (suc n) a b (u ∷ us) (v ∷ vs) small below = rises n (a * 256 + u) (b * 256 + v) us vs (λ i. small (suc i)) (omega (arith, below, small 0))

-- nothing comes before the text without bytes
none_before : (xs : List ℕ) → slice_cmp nat_cmp xs [] ≡ Less → ⊥
none_before [] is = false≢true (ap is_lt is)
none_before (x ∷ xs) is = false≢true (ap is_lt is)

-- a text whose first bytes spell less comes first
less_first : (n a : ℕ) (xs ys : List ℕ) → AreSmall xs → AreSmall ys → spelt n a xs < spelt n a ys → slice_cmp nat_cmp xs ys ≡ Less
less_first zero a xs ys small also below = absurd (omega (arith, below))
less_first (suc n) a [] [] small also below = absurd (omega (arith, below))
less_first (suc n) a [] (y ∷ ys) small also below = refl
less_first (suc n) a (zero ∷ xs) [] small also below =
    let same : a * 256 + 0 ≡ a * 256 = omega arith in
    absurd (none_before xs (less_first n (a * 256) xs [] (λ i. small (suc i)) also (subst (λ (b : ℕ). spelt n b xs < spelt n (a * 256) []) same below)))
less_first (suc n) a (suc x ∷ xs) [] small also below =
    absurd (omega (arith, below, rises n (a * 256) (a * 256 + suc x) [] xs also (omega arith)))
less_first (suc n) a (x ∷ xs) (y ∷ ys) small also below =
    by (λ level. less_first n (a * 256 + x) xs ys (λ i. small (suc i)) (λ i. also (suc i)) (subst (λ (z : ℕ). spelt n (a * 256 + x) xs < spelt n (a * 256 + z) ys) (sym level) below)) (nat_cmp x y) refl (ranks x y)
  where
    by : (x ≡ y → slice_cmp nat_cmp xs ys ≡ Less) → (r : Ordering) → nat_cmp x y ≡ r → MatchOrdering r (x < y) (x ≡ y) (y < x) → ordering_then (nat_cmp x y) (slice_cmp nat_cmp xs ys) ≡ Less
    by rest Less is under = ap (λ r. ordering_then r (slice_cmp nat_cmp xs ys)) is
    by rest Equal is level = ap (λ r. ordering_then r (slice_cmp nat_cmp xs ys)) is ∙ rest level
    by rest Greater is over = absurd (omega (arith, below, rises n (a * 256 + y) (a * 256 + x) ys xs (λ i. also (suc i)) (omega (arith, over))))

-- where the first bytes spell the same, the bytes after them decide
less_after : (n a : ℕ) (xs ys : List ℕ) → AreSmall xs → AreSmall ys → spelt n a xs ≡ spelt n a ys → slice_cmp nat_cmp (drop n xs) (drop n ys) ≡ Less → slice_cmp nat_cmp xs ys ≡ Less
less_after zero a xs ys small also same is = is
less_after (suc n) a [] [] small also same is = is
less_after (suc n) a [] (y ∷ ys) small also same is = refl
less_after (suc n) a (x ∷ xs) [] small also same is = absurd (none_before (drop n xs) is)
less_after (suc n) a (x ∷ xs) (y ∷ ys) small also same is =
    by (λ level. less_after n (a * 256 + x) xs ys (λ i. small (suc i)) (λ i. also (suc i)) (same ∙ ap (λ (z : ℕ). spelt n (a * 256 + z) ys) (sym level)) is) (nat_cmp x y) refl (ranks x y)
  where
    by : (x ≡ y → slice_cmp nat_cmp xs ys ≡ Less) → (r : Ordering) → nat_cmp x y ≡ r → MatchOrdering r (x < y) (x ≡ y) (y < x) → ordering_then (nat_cmp x y) (slice_cmp nat_cmp xs ys) ≡ Less
    by rest Less told under = ap (λ r. ordering_then r (slice_cmp nat_cmp xs ys)) told
    by rest Equal told level = ap (λ r. ordering_then r (slice_cmp nat_cmp xs ys)) told ∙ rest level
    by rest Greater told over = absurd (omega (arith, same, rises n (a * 256 + y) (a * 256 + x) ys xs (λ i. also (suc i)) (omega (arith, over))))

small_after : (n : ℕ) (xs : List ℕ) → AreSmall xs → AreSmall (drop n xs)
small_after zero xs small i = small i
small_after (suc n) [] small i = small i
small_after (suc n) (x ∷ xs) small i = small_after n xs (λ j. small (suc j)) i

pub less-high : (leading other : Leading) (xs ys : List ℕ) → IsLeadingOf leading xs → IsLeadingOf other ys → leading.high < other.high → slice_cmp nat_cmp xs ys ≡ Less
less-high leading other xs ys is also below = less_first 8 0 xs ys is.small also.small (omega (arith, below, is.high, also.high))

pub less-low : (leading other : Leading) (xs ys : List ℕ) → IsLeadingOf leading xs → IsLeadingOf other ys → leading.high ≡ other.high → leading.low < other.low → slice_cmp nat_cmp xs ys ≡ Less
less-low leading other xs ys is also same below =
    less_after 8 0 xs ys is.small also.small (sym is.high ∙ same ∙ also.high)
    (less_first 8 0 (drop 8 xs) (drop 8 ys) (small_after 8 xs is.small) (small_after 8 ys also.small) (omega (arith, below, is.low, also.low)))

turned : (xs ys : List ℕ) → slice_cmp nat_cmp ys xs ≡ Less → slice_cmp nat_cmp xs ys ≡ Greater
turned xs ys is = nat_list_cmp_total.antisymm xs ys ∙ ap ordering_reverse is

pub greater-high : (leading other : Leading) (xs ys : List ℕ) → IsLeadingOf leading xs → IsLeadingOf other ys → other.high < leading.high → slice_cmp nat_cmp xs ys ≡ Greater
greater-high leading other xs ys is also above = turned xs ys (less-high other leading ys xs also is above)

pub greater-low : (leading other : Leading) (xs ys : List ℕ) → IsLeadingOf leading xs → IsLeadingOf other ys → leading.high ≡ other.high → other.low < leading.low → slice_cmp nat_cmp xs ys ≡ Greater
greater-low leading other xs ys is also same above = turned xs ys (less-low other leading ys xs also is (sym same) above)

-- four bytes as they are put together
pub four : (start : ℕ) (xs : List ℕ) → spelt 4 start xs ≡ start * 4294967296 + ((get_or xs 0 0 * 256 + get_or xs 1 0) * 65536 + (get_or xs 2 0 * 256 + get_or xs 3 0))
four start [] = omega arith
four start (a ∷ []) = omega arith
four start (a ∷ b ∷ []) = omega arith
four start (a ∷ b ∷ c ∷ []) = omega arith
four start (a ∷ b ∷ c ∷ d ∷ xs) = omega arith

-- eight bytes are four and four
pub eight : (xs : List ℕ) → spelt 8 0 xs ≡ spelt 4 (spelt 4 0 xs) (drop 4 xs)
eight [] = refl
eight (a ∷ []) = refl
eight (a ∷ b ∷ []) = refl
eight (a ∷ b ∷ c ∷ []) = refl
eight (a ∷ b ∷ c ∷ d ∷ xs) = refl

-- what eight bytes from an offset on spell, by four and four
pub word : (at : ℕ) (bytes : List ℕ) → spelt 8 0 (drop at bytes) ≡ spelt 4 0 (drop at bytes) * 4294967296 + spelt 4 0 (drop (at + 4) bytes)
word at bytes =
    let xs = drop at bytes in
    let rest : drop 4 xs ≡ drop (at + 4) bytes = drop-drop 4 at bytes ∙ ap (λ (n : ℕ). drop n bytes) (omega arith) in
    omega (arith, eight xs, four (spelt 4 0 xs) (drop 4 xs), four 0 (drop 4 xs), ap (spelt 4 0) rest)
