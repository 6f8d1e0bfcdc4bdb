-- The record of the next batch.
use Rattle.std.proofs.Common.{◌≡◌, ℕ, zero, suc, ◌+◌, ◌-◌, ◌*◌, ◌≤◌, List, [], ◌∷◌, ◌++◌, length, take, drop, reverse, slice_set, slice_get, refl, sym, ◌∙◌, ap, subst, arith, append_assoc, length-append, Option, Some, None, MatchOption}
use Rattle.std.specs.List.{AllByRecursion}
use Rattle.std.proofs.lemmas.List.{take_at, drop_at, reverse-append, take-append-drop, length-take}
use Rattle.byte_fields.specs.Numbers.{bytes8}
use Rattle.byte_fields.specs.Counted.{counted32_text}
use Rattle.byte_fields.proofs.NumbersLemmas.{length-bytes_of}
use Rattle.store_journal.proofs.TextLemmas.{closed_gate_text}
use Rattle.cache_key.specs.declared.request.Mutation.{Mutation}
use Rattle.cache_model.specs.Caches.{Caches}
use Rattle.cache_model.specs.Contents.{NamesRise, KeysRise}
use Rattle.cache_model.specs.PlainList.{plain_list}
use Rattle.partition_map.specs.Items.{items_after}
use Rattle.partition_map.specs.declared.item.LastItem.{LastItem}
use Rattle.record_form.specs.GroupText.{IsGroup, group_text, tail_text, mutation_text}
use Rattle.record_form.proofs.GroupLengthLemmas.{group_more}
use Rattle.store_build.specs.Batches.{IsPlainItem, item_for}
use Rattle.store_build.specs.Built.{record_text}
use Rattle.store_build.specs.Next.{IsNextRecord}
use Rattle.store_build.specs.declared.record.NextRecord.{NextRecord}
use Rattle.store_build.proofs.BatchLemmas.{list_plain, all_second, all_taken}
use Rattle.store_build.proofs.ItemLemmas.{items_after-item}

-- one mutation more, where each has a spelling of at most so many bytes
pub longer_group : (ms : List Mutation) (m : Mutation) → length (group_text ms) ≤ 1 + 66632 * length ms → length (mutation_text m) ≤ 66632 → length (group_text (ms ++ m ∷ [])) ≤ 1 + 66632 * length (ms ++ m ∷ [])
longer_group ms m so_far short =
    let more = group_more ms m in
    let count = length-append ms (m ∷ []) in
    omega (arith, more, count, so_far, short)

-- a tail whose last byte, the closed gate, has become an open one before it
pub rotated_tail : (group : List Mutation) (tail rotated : List ℕ) (n : ℕ) → tail ≡ tail_text group → n ≡ length tail → rotated ≡ drop (n - 1) tail ++ take (n - 1) tail → slice_set rotated 0 1 ≡ record_text group
rotated_tail group tail rotated n is many turned =
    let before = counted32_text (group_text group) in
    let size : n ≡ length before + 1 = omega (arith, many, ap length is, length-append before (bytes8 0), length-bytes_of 1 0) in
    let at : length before ≡ n - 1 = omega (arith, size) in
    let last : drop (n - 1) tail ≡ 0 ∷ [] = ap (λ (l : List ℕ). drop (n - 1) l) is ∙ drop_at before (bytes8 0) (n - 1) at ∙ closed_gate_text in
    let first : take (n - 1) tail ≡ before = ap (λ (l : List ℕ). take (n - 1) l) is ∙ take_at before (bytes8 0) (n - 1) at in
    ap (λ (l : List ℕ). slice_set l 0 1) (turned ∙ ap (λ (l : List ℕ). l ++ take (n - 1) tail) last ∙ ap (λ (l : List ℕ). 0 ∷ l) first)

-- the last element
last_at : {X : Type 0} (xs : List X) (k : ℕ) (x : X) → length xs ≡ suc k → slice_get xs k ≡ Some x → (before : List X) × (xs ≡ before ++ x ∷ [])
last_at [] k x size is = absurd (omega (arith, size))
last_at (y ∷ []) zero x size is = let same : y ≡ x = cc is in ([], ap (λ z. z ∷ []) same)
last_at (y ∷ z ∷ xs) zero x size is = absurd (omega (arith, size))
last_at (y ∷ xs) (suc k) x size is = let rest = last_at xs k x (omega (arith, size)) is in (y ∷ rest.0, ap (λ l. y ∷ l) rest.1)

pub last_apart : {X : Type 0} (xs : List X) (x : X) → slice_get xs (length xs - 1) ≡ Some x → (before : List X) × (xs ≡ before ++ x ∷ [])
last_apart [] x is = absurd (cc is)
last_apart (y ∷ xs) x is =
    let one : length (y ∷ xs) - 1 ≡ length xs = omega arith in
    last_at (y ∷ xs) (length xs) x refl (subst (λ (n : ℕ). slice_get (y ∷ xs) n ≡ Some x) one is)

-- what is popped off a reversed list is the next of it
pub next_popped : (done : List Mutation) (old new all : List Mutation) (item : Mutation) → done ++ reverse old ≡ all → old ≡ new ++ item ∷ [] → AllByRecursion IsPlainItem all → IsPlainItem item
next_popped done old new all item joined popped plain =
    let turned : reverse old ≡ item ∷ reverse new = ap reverse popped ∙ reverse-append new (item ∷ []) in
    let here : AllByRecursion IsPlainItem (item ∷ reverse new) =
    subst (λ (l : List Mutation). AllByRecursion IsPlainItem l) turned (all_second IsPlainItem done (reverse old) (subst (λ (l : List Mutation). AllByRecursion IsPlainItem l) (sym joined) plain)) in
    here.0

-- the items of a batch are items of the plain list
pub batch_plain : (caches : Caches) (before left items : List Mutation) → before ++ left ≡ plain_list caches → items ≡ take 64 left → AllByRecursion IsPlainItem items
batch_plain caches before left items joined is =
    subst (λ (l : List Mutation). AllByRecursion IsPlainItem l) (sym is)
    (all_taken IsPlainItem 64 left (all_second IsPlainItem before left (subst (λ (l : List Mutation). AllByRecursion IsPlainItem l) (sym joined) (list_plain caches))))

-- the record of the items that were read, and the item after which the rest stands
pub is_next : (caches : Caches) → NamesRise caches → KeysRise caches → (before left items : List Mutation) (item : Mutation) (bytes : List ℕ) (last : LastItem)
    → before ++ left ≡ plain_list caches → items ≡ take 64 left → slice_get items (length items - 1) ≡ Some item → last ≡ item_for item → IsGroup items → bytes ≡ record_text items
    → IsNextRecord caches left bytes last
is_next caches names keys before left items item bytes last joined is at named group text =
    let apart = last_apart items item at in
    let whole : left ≡ apart.0 ++ item ∷ drop 64 left =
    sym (take-append-drop 64 left) ∙ ap (λ (l : List Mutation). l ++ drop 64 left) (sym is ∙ apart.1) ∙ append_assoc apart.0 (item ∷ []) (drop 64 left) in
    let stands : plain_list caches ≡ (before ++ apart.0) ++ item ∷ drop 64 left =
    sym joined ∙ ap (λ (l : List Mutation). before ++ l) whole ∙ sym (append_assoc before apart.0 (item ∷ drop 64 left)) in
    record {
      some = (let size = ap length apart.1 ∙ length-append apart.0 (item ∷ []) in let cut = ap length is ∙ length-take 64 left in omega (arith, size, cut));
      group = subst IsGroup is group;
      text = text ∙ ap record_text is;
      next = ap (λ (i : LastItem). items_after (Some i) caches) named ∙ items_after-item caches names keys (before ++ apart.0) item (drop 64 left) stands;
    }

-- what was read, as it is written
pub next_made : (caches : Caches) (left read : List Mutation) (found : Option NextRecord) (made : NextRecord) (bytes : List ℕ) → read ≡ left → found ≡ Some made → bytes ≡ made.bytes.items
    → MatchOption found (read ≡ []) (λ (next : NextRecord). IsNextRecord caches read next.bytes.items next.last) → IsNextRecord caches left bytes made.last
next_made caches left read found made bytes same is text next =
    let here : IsNextRecord caches read made.bytes.items made.last = subst (λ (o : Option NextRecord). MatchOption o (read ≡ []) (λ (n : NextRecord). IsNextRecord caches read n.bytes.items n.last)) is next in
    subst (λ (l : List Mutation). IsNextRecord caches l bytes made.last) same (subst (λ (b : List ℕ). IsNextRecord caches read b made.last) (sym text) here)

pub none_left : (caches : Caches) (left read : List Mutation) (found : Option NextRecord) → read ≡ left → found ≡ None
    → MatchOption found (read ≡ []) (λ (next : NextRecord). IsNextRecord caches read next.bytes.items next.last) → left ≡ []
none_left caches left read found same is next =
    sym same ∙ subst (λ (o : Option NextRecord). MatchOption o (read ≡ []) (λ (n : NextRecord). IsNextRecord caches read n.bytes.items n.last)) is next

-- an empty list has no next record
pub some_left : (caches : Caches) (left : List Mutation) (bytes : List ℕ) (last : LastItem) → IsNextRecord caches left bytes last → left ≡ [] → ⊥
some_left caches left bytes last next none = let some = next.some in let size = ap length none in omega (arith, some, size)
