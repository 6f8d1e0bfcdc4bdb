-- Members that are put in byte order of their names are added at the end.
use Rattle.std.proofs.Common.{◌≡◌, ℕ, List, [], ◌∷◌, ◌++◌, map, Less, Greater, nat_cmp, refl, sym, ap, ◌∙◌, subst, append-nil}
use Rattle.std.proofs.lemmas.Cmp.{nat_list_cmp_total}
use Rattle.std.specs.BTreeMap.{BTreeMap}
use Rattle.std.specs.Cmp.Lexicographic.{slice_cmp}
use Rattle.std.specs.List.{AllByRecursion}
use Rattle.std.specs.List.Sorted.{IsStrictlySortedBy}
use Rattle.std.specs.Map.{keys_of}
use Rattle.std.specs.Ordering.{ordering_reverse}
use Rattle.serde_json.specs.Data.{Data, string, object, Members, no_members, member, put}
use Rattle.report_lines.specs.Line.{pairs_data, caches_data}

-- the members of a list, each with its value as data
abbrev pub listed : {X : Type 0} → (X → Data) → List (List ℕ × X) → Members
listed data_of [] = no_members
listed data_of (entry ∷ entries) = member entry.0 (data_of entry.1) (listed data_of entries)

before_middle : {X : Type 0} (name : List ℕ) (entries : List (List ℕ × X)) (last : List ℕ × X) (more : List (List ℕ × X))
    → AllByRecursion (λ y. slice_cmp nat_cmp name y ≡ Less) (keys_of (entries ++ last ∷ more)) → slice_cmp nat_cmp name last.0 ≡ Less
before_middle name [] last more h = h.0
before_middle name (entry ∷ entries) last more h = before_middle name entries last more h.1

put-listed : {X : Type 0} (data_of : X → Data) (done : List (List ℕ × X)) (last : List ℕ × X) (more : List (List ℕ × X))
    → IsStrictlySortedBy (slice_cmp nat_cmp) (keys_of (done ++ last ∷ more))
    → put last.0 (data_of last.1) (listed data_of done) ≡ listed data_of (done ++ last ∷ [])
unfolding IsStrictlySortedBy
put-listed data_of [] last more h = refl
put-listed data_of (first ∷ done) last more h =
    let above : slice_cmp nat_cmp last.0 first.0 ≡ Greater =
    nat_list_cmp_total.antisymm last.0 first.0 ∙ ap ordering_reverse (before_middle first.0 done last more h.0) in
    rw above (ap (member first.0 (data_of first.1)) (put-listed data_of done last more h.1))

-- in a list whose names rise, the next entry goes last
pub put-listed_next : {X : Type 0} (data_of : X → Data) (all done : List (List ℕ × X)) (next : List ℕ × X) (more : List (List ℕ × X))
    → all ≡ done ++ next ∷ more → IsStrictlySortedBy (slice_cmp nat_cmp) (keys_of all)
    → put next.0 (data_of next.1) (listed data_of done) ≡ listed data_of (done ++ next ∷ [])
put-listed_next data_of all done next more is rises =
    put-listed data_of done next more (subst (λ entries. IsStrictlySortedBy (slice_cmp nat_cmp) (keys_of entries)) is rises)

-- if no entry is left, the entries so far are all
pub listed_all : {X : Type 0} (data_of : X → Data) (all done more : List (List ℕ × X)) → all ≡ done ++ more → more ≡ [] → listed data_of done ≡ listed data_of all
listed_all data_of all done more is ends =
    ap (listed data_of) (sym (append-nil done) ∙ ap (λ entries. done ++ entries) (sym ends) ∙ sym is)

pub pairs_data-listed : (pairs : List (List ℕ × List ℕ)) → listed string pairs ≡ pairs_data pairs
pairs_data-listed [] = refl
pairs_data-listed (pair ∷ pairs) = ap (member pair.0 (string pair.1)) (pairs_data-listed pairs)

-- a cache as the object of its pairs
abbrev pub cache_data : BTreeMap (List ℕ) (List ℕ) → Data
cache_data pairs = object (pairs_data pairs.entries)

pub caches_data-listed : (caches : List (List ℕ × BTreeMap (List ℕ) (List ℕ))) → listed cache_data caches ≡ caches_data (map (λ entry. (entry.0, entry.1.entries)) caches)
caches_data-listed [] = refl
caches_data-listed (cache ∷ caches) = ap (member cache.0 (cache_data cache.1)) (caches_data-listed caches)
