-- Laws of the pairs of an event, and of lists of them.
use Rattle.std.proofs.Common.{◌≡◌, ℕ, suc, ◌≤◌, ◌<◌, List, [], ◌∷◌, ◌++◌, length, get_or, All, refl, sym, ap, ◌∙◌, arith}
use Rattle.std.proofs.lemmas.List.Elements.{All-get_or}
use Rattle.serde_json.specs.Data.{Data, array, no_items, item}
use Rattle.serde_json.specs.Events.{items_len}
use Rattle.serde_json.specs.View.{view, items_view}
use Rattle.serde_json.specs.declared.value.Value.{Value}
use Rattle.cache_key.specs.Names.{IsKey, IsValue, IsPair}
use Rattle.script_lines.specs.Form.{pair_data, pair_items}
use Rattle.script_lines.specs.Reading.{IsTextOf, IsPairOf, ArePairsOf}
use Rattle.script_lines.proofs.ShapeLemmas.{items_counted, array_items}

items_len-pair_items : (pairs : List (List ℕ × List ℕ)) → items_len (pair_items pairs) ≡ length pairs
items_len-pair_items [] = refl
items_len-pair_items (pair ∷ pairs) = ap (λ n. suc n) (items_len-pair_items pairs)

-- there are as many pairs as items
pub pairs_counted : (vs : List Value) (pairs : List (List ℕ × List ℕ)) → items_view vs ≡ pair_items pairs → length vs ≡ length pairs
pairs_counted vs pairs are = items_counted vs (pair_items pairs) are ∙ items_len-pair_items pairs

pub pairs_of_list : (d : Data) (vs : List Value) (pairs : List (List ℕ × List ℕ)) → d ≡ array (items_view vs) → ArePairsOf d pairs → items_view vs ≡ pair_items pairs
pairs_of_list d vs pairs there are = array_items vs (pair_items pairs) (sym there ∙ are.are)

pub pair_items-push : (vs : List Value) (pairs : List (List ℕ × List ℕ)) (v : Value) (p : List ℕ × List ℕ) → items_view vs ≡ pair_items pairs → view v ≡ pair_data p → items_view (vs ++ v ∷ []) ≡ pair_items (pairs ++ p ∷ [])
pair_items-push [] [] v p are is = ap (λ x. item x no_items) is
pair_items-push [] (q ∷ pairs) v p are is = cc
pair_items-push (x ∷ vs) [] v p are is = cc
pair_items-push (x ∷ vs) (q ∷ pairs) v p are is =
    let head : view x ≡ pair_data q = cc in
    let tail : items_view (vs ++ v ∷ []) ≡ pair_items (pairs ++ p ∷ []) = pair_items-push vs pairs v p (cc) is in
    (λ i. item (head i) (tail i))

-- another number of pairs, none or too many, is no list of pairs
pub not_so_many : (d : Data) (vs : List Value) → d ≡ array (items_view vs) → (1 ≤ length vs → length vs ≤ 64 → ⊥) → (pairs : List (List ℕ × List ℕ)) → ArePairsOf d pairs → ⊥
not_so_many d vs there other pairs are =
    let count : length vs ≡ length pairs = pairs_counted vs pairs (pairs_of_list d vs pairs there are) in
    other (omega (arith, are.limits.least)) (omega (arith, are.limits.most))

-- the key and the value of a pair
pub pair_parts : (d a b : Data) → d ≡ array (item a (item b no_items)) → (pair : List ℕ × List ℕ) → IsPairOf d pair → IsTextOf IsKey a pair.0 × IsTextOf IsValue b pair.1
pair_parts d a b there pair is =
    let same : array (item a (item b no_items)) ≡ pair_data pair = sym there ∙ is.is in
    (record { is = cc; limits = is.limits.0 }, record { is = cc; limits = is.limits.1 })

pub pair_of_parts : (d a b : Data) → d ≡ array (item a (item b no_items)) → (key value : List ℕ) → IsTextOf IsKey a key → IsTextOf IsValue b value → IsPairOf d (key, value)
pair_of_parts d a b there key value k v = record { is = there ∙ (λ i. array (item (k.is i) (item (v.is i) no_items))); limits = (k.limits, v.limits) }

pair_after : (xs : List Value) (v : Value) (rest : List Value) (pairs : List (List ℕ × List ℕ)) → items_view (xs ++ v ∷ rest) ≡ pair_items pairs → All IsPair pairs → (pair : List ℕ × List ℕ) × IsPairOf (view v) pair
pair_after xs v rest pairs are limits = (get_or pairs (length xs) ([], []), record { is = at xs pairs are; limits = All-get_or IsPair pairs (length xs) ([], []) (within xs pairs are) limits })
  where
    at : (ys : List Value) (ps : List (List ℕ × List ℕ)) → items_view (ys ++ v ∷ rest) ≡ pair_items ps → view v ≡ pair_data (get_or ps (length ys) ([], []))
    at [] [] e = cc
    at [] (p ∷ ps) e = cc
    at (y ∷ ys) [] e = cc
    at (y ∷ ys) (p ∷ ps) e = at ys ps (cc)

    within : (ys : List Value) (ps : List (List ℕ × List ℕ)) → items_view (ys ++ v ∷ rest) ≡ pair_items ps → length ys < length ps
    within [] [] e = cc
    within [] (p ∷ ps) e = omega arith
    within (y ∷ ys) [] e = cc
    within (y ∷ ys) (p ∷ ps) e = let less = within ys ps (cc) in omega arith

-- the item that comes next makes one pair, where the whole list makes pairs
pub pair_next : (vs xs left rest : List Value) (v : Value) → vs ≡ xs ++ left → left ≡ v ∷ rest → (pairs : List (List ℕ × List ℕ)) → ArePairsOf (array (items_view vs)) pairs → (pair : List ℕ × List ℕ) × IsPairOf (view v) pair
pair_next vs xs left rest v whole next pairs is =
    let there : vs ≡ xs ++ v ∷ rest = whole ∙ ap (λ (ys : List Value). xs ++ ys) next in
    pair_after xs v rest pairs (sym (ap items_view there) ∙ array_items vs (pair_items pairs) is.are) is.limits.each
