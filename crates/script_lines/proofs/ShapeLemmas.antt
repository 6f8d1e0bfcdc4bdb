-- Objects and lists are known by their members and items.
use Rattle.std.proofs.Common.{◌≡◌, ℕ, ◌⊎◌, List, [], ◌∷◌, length, get_or, codes, Some, Option, Ordering, Less, Equal, Greater, string_bytes, string_cmp, nat_cmp, is_eq, refl, sym, ap, ◌∙◌, subst, inl, inr, arith}
use Rattle.std.proofs.lemmas.Cmp.{nat_list_cmp_total, tied_itself}
use Rattle.std.proofs.lemmas.Map.Text.{is_eq-slice_cmp}
use Rattle.std.proofs.lemmas.Slice.Eq.{bytes_eq-Decides}
use Rattle.std.specs.Cmp.Lexicographic.{slice_cmp}
use Rattle.std.specs.List.{AllByRecursion}
use Rattle.std.specs.List.Sorted.{IsStrictlySortedBy}
use Rattle.std.specs.Map.{keys_of}
use Rattle.std.specs.Ordering.{match_ordering, ordering_reverse}
use Rattle.serde_json.specs.Data.{Data, null, boolean, number, string, array, object, Items, no_items, item, Members, no_members, member}
use Rattle.serde_json.specs.Find.{get, get_member, as_array, as_object}
use Rattle.serde_json.specs.Events.{items_len, members_len}
use Rattle.serde_json.specs.View.{view, items_view, members_view}
use Rattle.serde_json.specs.declared.value.Value.{Value}
use Rattle.serde_json.proofs.Views.{Entry, items_len-items_view, members_len-members_view}
use Rattle.script_lines.specs.Reading.{list_of_one, object_of_two, member_count_of, IsBefore, AreInOrder, IsInOrder}

-- ---- objects

pub as_object-object : (d : Data) (ms : Members) → as_object d ≡ Some ms → d ≡ object ms
as_object-object null ms e = cc
as_object-object (boolean b) ms e = cc
as_object-object (number n) ms e = cc
as_object-object (string s) ms e = cc
as_object-object (array ds) ms e = cc
as_object-object (object ns) ms e = cc

before_all : (e : Entry) (es : List Entry) → AllByRecursion (λ y. string_cmp e.0 y ≡ Less) (keys_of es) → IsBefore (string_bytes e.0) (members_view es)
before_all e [] h = tt
before_all e (f ∷ es) h = (h.0, before_all e es h.1)

in_order : (es : List Entry) → IsStrictlySortedBy string_cmp (keys_of es) → AreInOrder (members_view es)
unfolding IsStrictlySortedBy
in_order [] h = tt
in_order (e ∷ es) h = (before_all e es h.0, in_order es h.1)

-- what a map shows stands in order
pub object_in_order : (d : Data) (es : List Entry) → Some (members_view es) ≡ as_object d → IsStrictlySortedBy string_cmp (keys_of es) → IsInOrder d
object_in_order d es is sorted = subst IsInOrder (sym (as_object-object d (members_view es) (sym is))) (in_order es sorted)

pub object_count : (d : Data) (es : List Entry) → Some (members_view es) ≡ as_object d → length es ≡ member_count_of d
object_count d es is = sym (ap member_count_of (as_object-object d (members_view es) (sym is)) ∙ members_len-members_view es)

found_at : (o : Ordering) (k l : List ℕ) (e d : Data) (rest : Option Data) → slice_cmp nat_cmp k l ≡ o → match_ordering o rest (Some e) rest ≡ Some d → ((k ≡ l) × (e ≡ d)) ⊎ (rest ≡ Some d)
found_at Less k l e d rest is found = inr found
found_at Equal k l e d rest is found = inl ((bytes_eq-Decides k l).0 (sym (is_eq-slice_cmp k l) ∙ ap is_eq is), cc)
found_at Greater k l e d rest is found = inr found

-- the member that is found is the first, or is found after it
found : (k l : List ℕ) (e d : Data) (ms : Members) → get_member k (member l e ms) ≡ Some d → ((k ≡ l) × (e ≡ d)) ⊎ (get_member k ms ≡ Some d)
found k l e d ms is = found_at (slice_cmp nat_cmp k l) k l e d (get_member k ms) refl is

one_found : (k l : List ℕ) (e d : Data) → get_member k (member l e no_members) ≡ Some d → member l e no_members ≡ member k d no_members
one_found k l e d is = elim (found k l e d no_members is) [ inl p ↦ cc | inr p ↦ cc ]

never_less : (k : List ℕ) → slice_cmp nat_cmp k k ≡ Less → ⊥
never_less k is = let same : slice_cmp nat_cmp k k ≡ Equal = tied_itself nat_list_cmp_total k in cc

never_both : (k l : List ℕ) → slice_cmp nat_cmp k l ≡ Less → slice_cmp nat_cmp l k ≡ Less → ⊥
never_both k l is other =
    let back : slice_cmp nat_cmp l k ≡ Greater = nat_list_cmp_total.antisymm l k ∙ ap ordering_reverse is in
    cc

two_found : (k l : List ℕ) (a b : Data) (m n : List ℕ) (d e : Data) → slice_cmp nat_cmp k l ≡ Less → slice_cmp nat_cmp m n ≡ Less
    → get_member k (member m d (member n e no_members)) ≡ Some a → get_member l (member m d (member n e no_members)) ≡ Some b
    → member m d (member n e no_members) ≡ member k a (member l b no_members)
two_found k l a b m n d e above order at_k at_l =
    elim (found k m d a (member n e no_members) at_k) [
      | inl p ↦ elim (found l m d b (member n e no_members) at_l) [
        | inl q ↦ absurd (never_less k (subst (λ x. slice_cmp nat_cmp k x ≡ Less) (q.0 ∙ sym p.0) above))
        | inr q ↦ let last : member n e no_members ≡ member l b no_members = one_found l n e b q in cc
      ]
      | inr p ↦ elim (found l m d b (member n e no_members) at_l) [
        | inl q ↦
            let last : member n e no_members ≡ member k a no_members = one_found k n e a p in
            let names : n ≡ k = cc in
            absurd (never_both k l above (subst (λ x. slice_cmp nat_cmp l x ≡ Less) names (subst (λ x. slice_cmp nat_cmp x n ≡ Less) (sym q.0) order)))
        | inr q ↦
            let last : member n e no_members ≡ member k a no_members = one_found k n e a p in
            let late : member n e no_members ≡ member l b no_members = one_found l n e b q in
            let same : l ≡ k = cc in
            absurd (never_less k (subst (λ x. slice_cmp nat_cmp k x ≡ Less) same above))
      ]
    ]

one_of_members : (k : List ℕ) (a : Data) (ms : Members) → members_len ms ≡ 1 → get_member k ms ≡ Some a → ms ≡ member k a no_members
one_of_members k a no_members count is = cc
one_of_members k a (member l e no_members) count is = one_found k l e a is
one_of_members k a (member l e (member m f ms)) count is = absurd (omega arith)

two_of_members : (k l : List ℕ) (a b : Data) (ms : Members) → slice_cmp nat_cmp k l ≡ Less → members_len ms ≡ 2 → AreInOrder ms → get_member k ms ≡ Some a → get_member l ms ≡ Some b → ms ≡ member k a (member l b no_members)
two_of_members k l a b no_members above count order at_k at_l = cc
two_of_members k l a b (member m d no_members) above count order at_k at_l = absurd (omega arith)
two_of_members k l a b (member m d (member n e no_members)) above count order at_k at_l = two_found k l a b m n d e above order.0.0 at_k at_l
two_of_members k l a b (member m d (member n e (member o f ms))) above count order at_k at_l = absurd (omega arith)

-- an object of one member is known by it
one_member : (k : List ℕ) (a d : Data) → member_count_of d ≡ 1 → get k d ≡ Some a → d ≡ object (member k a no_members)
one_member k a null count is = cc
one_member k a (boolean b) count is = cc
one_member k a (number n) count is = cc
one_member k a (string s) count is = cc
one_member k a (array ds) count is = cc
one_member k a (object ms) count is = ap object (one_of_members k a ms count is)

-- an object of two members is known by them
two_members : (k l : List ℕ) (a b d : Data) → slice_cmp nat_cmp k l ≡ Less → member_count_of d ≡ 2 → IsInOrder d → get k d ≡ Some a → get l d ≡ Some b → d ≡ object_of_two k a l b
two_members k l a b null above count order at_k at_l = cc
two_members k l a b (boolean x) above count order at_k at_l = cc
two_members k l a b (number n) above count order at_k at_l = cc
two_members k l a b (string s) above count order at_k at_l = cc
two_members k l a b (array ds) above count order at_k at_l = cc
two_members k l a b (object ms) above count order at_k at_l = ap object (two_of_members k l a b ms above count order at_k at_l)

-- an object that has nothing but a command's name
pub one_named : (d : Data) (found word : List ℕ) (count : ℕ) → get (codes "do") d ≡ Some (string found) → found ≡ word → count ≡ member_count_of d → count ≡ 1
    → d ≡ object (member (codes "do") (string word) no_members)
one_named d found word count at_do is counted one =
    one_member (codes "do") (string word) d (sym counted ∙ one) (at_do ∙ ap (λ text. Some (string text)) is)

-- an object that has a command's name, and one member after it
pub two_named : (d : Data) (found word name : List ℕ) (a : Data) (count : ℕ) → get (codes "do") d ≡ Some (string found) → found ≡ word → count ≡ member_count_of d → count ≡ 2 → IsInOrder d
    → slice_cmp nat_cmp (codes "do") name ≡ Less → get name d ≡ Some a → d ≡ object_of_two (codes "do") (string word) name a
two_named d found word name a count at_do is counted two order above at_name =
    two_members (codes "do") name (string word) a d above (sym counted ∙ two) order (at_do ∙ ap (λ text. Some (string text)) is) at_name

-- ---- lists

pub as_array-array : (d : Data) (ds : Items) → as_array d ≡ Some ds → d ≡ array ds
as_array-array null ds e = cc
as_array-array (boolean b) ds e = cc
as_array-array (number n) ds e = cc
as_array-array (string s) ds e = cc
as_array-array (array es) ds e = cc
as_array-array (object ms) ds e = cc

-- items are as many as the values that they show
pub items_counted : (vs : List Value) (ds : Items) → items_view vs ≡ ds → length vs ≡ items_len ds
items_counted vs ds is = sym (items_len-items_view vs) ∙ ap items_len is

pub array_items : (vs : List Value) (ds : Items) → array (items_view vs) ≡ array ds → items_view vs ≡ ds
array_items vs ds is = cc

-- a list with another number of items is no list of one
pub not_of_one : (d : Data) (vs : List Value) (a : Data) → d ≡ array (items_view vs) → (length vs ≡ 1 → ⊥) → d ≡ list_of_one a → ⊥
not_of_one d vs a there many is = many (items_counted vs (item a no_items) (array_items vs (item a no_items) (sym there ∙ is)))

-- a list is known by its items
pub one_item : (vs : List Value) (a : Value) → length vs ≡ 1 → a ≡ get_or vs 0 a → items_view vs ≡ item (view a) no_items
one_item [] a count at_0 = absurd (omega arith)
one_item (x ∷ []) a count at_0 = cc
one_item (x ∷ y ∷ vs) a count at_0 = absurd (omega arith)

pub two_items : (vs : List Value) (a b : Value) → length vs ≡ 2 → a ≡ get_or vs 0 a → b ≡ get_or vs 1 b → items_view vs ≡ item (view a) (item (view b) no_items)
two_items [] a b count at_0 at_1 = absurd (omega arith)
two_items (x ∷ []) a b count at_0 at_1 = absurd (omega arith)
two_items (x ∷ y ∷ []) a b count at_0 at_1 = cc
two_items (x ∷ y ∷ z ∷ vs) a b count at_0 at_1 = absurd (omega arith)

-- the same, the last item by its index
pub two_items_last : (vs : List Value) (a d : Value) → length vs ≡ 2 → a ≡ get_or vs 0 a → items_view vs ≡ item (view a) (item (view (get_or vs 1 d)) no_items)
two_items_last [] a d count at_0 = absurd (omega arith)
two_items_last (x ∷ []) a d count at_0 = absurd (omega arith)
two_items_last (x ∷ y ∷ []) a d count at_0 = cc
two_items_last (x ∷ y ∷ z ∷ vs) a d count at_0 = absurd (omega arith)

pub three_items_last : (vs : List Value) (a b d : Value) → length vs ≡ 3 → a ≡ get_or vs 0 a → b ≡ get_or vs 1 b → items_view vs ≡ item (view a) (item (view b) (item (view (get_or vs 2 d)) no_items))
three_items_last [] a b d count at_0 at_1 = absurd (omega arith)
three_items_last (x ∷ []) a b d count at_0 at_1 = absurd (omega arith)
three_items_last (x ∷ y ∷ []) a b d count at_0 at_1 = absurd (omega arith)
three_items_last (x ∷ y ∷ z ∷ []) a b d count at_0 at_1 = cc
three_items_last (x ∷ y ∷ z ∷ w ∷ vs) a b d count at_0 at_1 = absurd (omega arith)
