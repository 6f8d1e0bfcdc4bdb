-- A reader of the plain list goes on after any item of it.
use Rattle.std.proofs.Common.{◌≡◌, ◌⊎◌, inl, inr, ⊎_elim, ℕ, List, [], ◌∷◌, ◌++◌, filter, false, cond, Option, Some, unwrap_or, ap, ◌∙◌, sym, refl, subst}
use Rattle.std.specs.declared.cmp.Ordering.{Ordering}
use Rattle.std.specs.declared.cmp.Ordering.TheVariants.{Less}
use Rattle.std.specs.Ordering.{nat_cmp, is_eq, ordering_reverse}
use Rattle.std.specs.Cmp.{tied_itself}
use Rattle.std.specs.Cmp.Lexicographic.{slice_cmp, texts_ties, bytes_decides, nat_list_cmp_total}
use Rattle.std.specs.Map.{lookup, keys_of}
use Rattle.std.specs.List.{AllByRecursion}
use Rattle.std.proofs.lemmas.Map.Keys.{sorted_head, sorted_tail}
use Rattle.cache_key.specs.declared.request.Mutation.{Mutation}
use Rattle.cache_key.specs.declared.request.Mutation.TheVariants.{Put, Ensure}
use Rattle.cache_model.specs.Caches.{same, Pairs, Caches}
use Rattle.cache_model.specs.Contents.{IsRising, NamesRise, KeysRise}
use Rattle.cache_model.specs.PlainList.{puts_of, plain_cache, plain_list}
use Rattle.cache_model.specs.Size.{pairs_in}
use Rattle.partition_map.specs.Items.{is_less, comes_after, caches_after, pairs_after, items_after}
use Rattle.store_build.specs.Batches.{item_for}

abbrev order : List ℕ → List ℕ → Ordering
order = slice_cmp nat_cmp

abbrev Below : List ℕ → List ℕ → Type 0
Below text other = order text other ≡ Less

-- no text comes after itself, nor after a greater one
not_after_itself : (text : List ℕ) → comes_after text text ≡ false
not_after_itself text = ap is_less (tied_itself nat_list_cmp_total text)

not_after_greater : (text other : List ℕ) → Below other text → comes_after text other ≡ false
not_after_greater text other below = ap is_less (nat_list_cmp_total.antisymm text other ∙ ap ordering_reverse below)

other_text : (text other : List ℕ) → Below other text → same text other ≡ false
other_text text other below = texts_ties text other ∙ ap is_eq (nat_list_cmp_total.antisymm text other ∙ ap ordering_reverse below)

-- all of these come after the text
all_after : {X : Type 0} (text : List ℕ) (es : List (List ℕ × X)) → AllByRecursion (Below text) (keys_of es) → filter (λ e. comes_after text e.0) es ≡ es
all_after text [] below = refl
all_after text (e ∷ es) below =
    ap (λ b. cond b (e ∷ filter (λ f. comes_after text f.0) es) (filter (λ f. comes_after text f.0) es)) (ap is_less below.0)
    ∙ ap (λ rest. e ∷ rest) (all_after text es below.1)

skipped : {X : Type 0} (text : List ℕ) (e : List ℕ × X) (es : List (List ℕ × X)) → comes_after text e.0 ≡ false → filter (λ f. comes_after text f.0) (e ∷ es) ≡ filter (λ f. comes_after text f.0) es
skipped text e es not = ap (λ b. cond b (e ∷ filter (λ f. comes_after text f.0) es) (filter (λ f. comes_after text f.0) es)) not

-- what all of them have one among them has
among : {X : Type 0} (Q : List ℕ → Type 0) (before : List (List ℕ × X)) (e : List ℕ × X) (after : List (List ℕ × X)) → AllByRecursion Q (keys_of (before ++ e ∷ after)) → Q e.0
among Q [] e after all = all.0
among Q (b ∷ before) e after all = among Q before e after all.1

-- of entries in order, those after one of them
pub after_one : {X : Type 0} (before : List (List ℕ × X)) (e : List ℕ × X) (after : List (List ℕ × X)) → IsRising (keys_of (before ++ e ∷ after))
    → filter (λ f. comes_after e.0 f.0) (before ++ e ∷ after) ≡ after
after_one [] e after rise = skipped e.0 e after (not_after_itself e.0) ∙ all_after e.0 after (sorted_head order e.0 (keys_of after) rise)
after_one (b ∷ before) e after rise =
    skipped e.0 b (before ++ e ∷ after) (not_after_greater e.0 b.0 (among (Below b.0) before e after (sorted_head order b.0 (keys_of (before ++ e ∷ after)) rise)))
    ∙ after_one before e after (sorted_tail order b.0 (keys_of (before ++ e ∷ after)) rise)

-- and it is found by its key
pub found_one : {X : Type 0} (before : List (List ℕ × X)) (e : List ℕ × X) (after : List (List ℕ × X)) → IsRising (keys_of (before ++ e ∷ after))
    → lookup (same e.0) (before ++ e ∷ after) ≡ Some e.1
found_one [] e after rise = ap (λ b. cond b (Some e.1) (lookup (same e.0) after)) ((bytes_decides e.0 e.0).1 refl)
found_one (b ∷ before) e after rise =
    ap (λ c. cond c (Some b.1) (lookup (same e.0) (before ++ e ∷ after))) (other_text e.0 b.0 (among (Below b.0) before e after (sorted_head order b.0 (keys_of (before ++ e ∷ after)) rise)))
    ∙ found_one before e after (sorted_tail order b.0 (keys_of (before ++ e ∷ after)) rise)

-- an element of two lists stands in the first or in the second
record InFirst {X : Type 0} (first second before : List X) (x : X) (after : List X) : Type 0 where
  rest : List X
  here : first ≡ before ++ x ∷ rest
  behind : after ≡ rest ++ second

record InSecond {X : Type 0} (second : List X) (x : X) (after : List X) : Type 0 where
  before : List X
  here : second ≡ before ++ x ∷ after

split : {X : Type 0} (first second before : List X) (x : X) (after : List X) → first ++ second ≡ before ++ x ∷ after → InFirst first second before x after ⊎ InSecond second x after
split [] second before x after is = inr (record { before = before; here = is })
split (f ∷ first) second [] x after is =
    let head : f ≡ x = cc is in
    let tail : first ++ second ≡ after = cc is in
    inl (record { rest = first; here = ap (λ y. y ∷ first) head; behind = sym tail })
split (f ∷ first) second (b ∷ before) x after is =
    let head : f ≡ b = cc is in
    let tail : first ++ second ≡ before ++ x ∷ after = cc is in
    ⊎_elim
    (λ one. inl (record { rest = one.rest; here = ap (λ y. y ∷ first) head ∙ ap (λ l. b ∷ l) one.here; behind = one.behind }))
    (λ two. inr two)
    (split first second before x after tail)

-- which pair a put is of
record IsPutOf (cache : List ℕ) (pairs : Pairs) (x : Mutation) (after : List Mutation) : Type 0 where
  earlier : Pairs
  pair : List ℕ × List ℕ
  later : Pairs
  here : pairs ≡ earlier ++ pair ∷ later
  put : x ≡ Put cache pair.0 pair.1
  behind : after ≡ puts_of cache later

put_of : (cache : List ℕ) (pairs : Pairs) (before : List Mutation) (x : Mutation) (after : List Mutation) → puts_of cache pairs ≡ before ++ x ∷ after → IsPutOf cache pairs x after
put_of cache [] [] x after is = absurd (cc is)
put_of cache [] (b ∷ before) x after is = absurd (cc is)
put_of cache (p ∷ ps) [] x after is =
    let head : Put cache p.0 p.1 ≡ x = cc is in
    let tail : puts_of cache ps ≡ after = cc is in
    record { earlier = []; pair = p; later = ps; here = refl; put = sym head; behind = sym tail }
put_of cache (p ∷ ps) (b ∷ before) x after is =
    let tail : puts_of cache ps ≡ before ++ x ∷ after = cc is in
    let deep = put_of cache ps before x after tail in
    record { earlier = p ∷ deep.earlier; pair = deep.pair; later = deep.later; here = ap (λ l. p ∷ l) deep.here; put = deep.put; behind = deep.behind }

-- an item of one cache: its ensure, or one of its puts
abbrev IsOfCache : List ℕ → Pairs → Mutation → List Mutation → Type 0
IsOfCache cache pairs x after = ((x ≡ Ensure cache) × (after ≡ [])) ⊎ IsPutOf cache pairs x after

in_cache : (cache : List ℕ) (pairs : Pairs) (before : List Mutation) (x : Mutation) (after : List Mutation) → plain_cache cache pairs ≡ before ++ x ∷ after → IsOfCache cache pairs x after
in_cache cache [] [] x after is = inl (cc is, cc is)
in_cache cache [] (b ∷ []) x after is = let wrong : [] ≡ x ∷ after = cc is in absurd (cc wrong)
in_cache cache [] (b ∷ c ∷ before) x after is = let wrong : [] ≡ c ∷ (before ++ x ∷ after) = cc is in absurd (cc wrong)
in_cache cache (p ∷ ps) before x after is = inr (put_of cache (p ∷ ps) before x after is)

-- where an item stands: in which cache, and what is after it
record Stands (caches : Caches) (x : Mutation) (after : List Mutation) : Type 0 where
  earlier : Caches
  cache : List ℕ
  pairs : Pairs
  later : Caches
  rest : List Mutation
  here : caches ≡ earlier ++ (cache, pairs) ∷ later
  of_cache : IsOfCache cache pairs x rest
  behind : after ≡ rest ++ plain_list later

stands : (caches : Caches) (before : List Mutation) (x : Mutation) (after : List Mutation) → plain_list caches ≡ before ++ x ∷ after → Stands caches x after
stands [] [] x after is = absurd (cc is)
stands [] (b ∷ before) x after is = absurd (cc is)
stands (c ∷ cs) before x after is =
    ⊎_elim
    (λ one. record {
      earlier = [];
      cache = c.0;
      pairs = c.1;
      later = cs;
      rest = one.rest;
      here = refl;
      of_cache = in_cache c.0 c.1 before x one.rest one.here;
      behind = one.behind;
    })
    (λ two.
    let deep = stands cs two.before x after two.here in
    record {
      earlier = c ∷ deep.earlier;
      cache = deep.cache;
      pairs = deep.pairs;
      later = deep.later;
      rest = deep.rest;
      here = ap (λ l. c ∷ l) deep.here;
      of_cache = deep.of_cache;
      behind = deep.behind;
    })
    (split (plain_cache c.0 c.1) (plain_list cs) before x after is)

-- the keys of a cache among others rise
keys_here : (earlier : Caches) (c : List ℕ × Pairs) (later : Caches) → KeysRise (earlier ++ c ∷ later) → IsRising (keys_of c.1)
keys_here [] c later rise = rise.0
keys_here (e ∷ earlier) c later rise = keys_here earlier c later rise.1

module _ (caches : Caches) (names : NamesRise caches) (keys : KeysRise caches) (x : Mutation) (after : List Mutation) (at : Stands caches x after) where
  names_there : IsRising (keys_of (at.earlier ++ (at.cache, at.pairs) ∷ at.later))
  names_there = subst (λ (l : Caches). IsRising (keys_of l)) at.here names

  later_caches : caches_after at.cache caches ≡ at.later
  later_caches = ap (λ (l : Caches). caches_after at.cache l) at.here ∙ after_one at.earlier (at.cache, at.pairs) at.later names_there

  pairs_there : pairs_in caches at.cache ≡ at.pairs
  pairs_there =
      ap (λ (l : Caches). pairs_in l at.cache) at.here
      ∙ ap (λ (o : Option Pairs). unwrap_or o []) (found_one at.earlier (at.cache, at.pairs) at.later names_there)

  keys_there : IsRising (keys_of at.pairs)
  keys_there = keys_here at.earlier (at.cache, at.pairs) at.later (subst (λ (l : Caches). KeysRise l) at.here keys)

  goes_on_after : items_after (Some (item_for x)) caches ≡ after
  goes_on_after = ⊎_elim
      (λ ensure.
      ap (λ (m : Mutation). items_after (Some (item_for m)) caches) ensure.0
      ∙ ap plain_list later_caches
      ∙ sym (at.behind ∙ ap (λ (l : List Mutation). l ++ plain_list at.later) ensure.1))
      (λ put.
      let rest : pairs_after put.pair.0 (pairs_in caches at.cache) ≡ put.later =
      ap (pairs_after put.pair.0) (pairs_there ∙ put.here) ∙ after_one put.earlier put.pair put.later (subst (λ (l : Pairs). IsRising (keys_of l)) put.here keys_there) in
      ap (λ (m : Mutation). items_after (Some (item_for m)) caches) put.put
      ∙ ap (λ (l : Pairs). puts_of at.cache l ++ plain_list (caches_after at.cache caches)) rest
      ∙ ap (λ (l : Caches). puts_of at.cache put.later ++ plain_list l) later_caches
      ∙ sym (at.behind ∙ ap (λ (l : List Mutation). l ++ plain_list at.later) put.behind))
      at.of_cache

-- after an item of the plain list comes what stands after it
pub items_after-item : (caches : Caches) → NamesRise caches → KeysRise caches → (before : List Mutation) (x : Mutation) (after : List Mutation) → plain_list caches ≡ before ++ x ∷ after
    → items_after (Some (item_for x)) caches ≡ after
items_after-item caches names keys before x after is = goes_on_after caches names keys x after (stands caches before x after is)
