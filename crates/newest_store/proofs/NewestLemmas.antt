-- Which of two files is the newest, and what the files stand for then.
use Rattle.std.proofs.Common.{◌≡◌, ◌≢◌, ◌⊎◌, inl, inr, ⊎_elim, ℕ, ◌<◌, ◌≤◌, List, [], ◌∷◌, ◌++◌, All, take, drop, Option, None, Some, refl, sym, ◌∙◌, ap, subst, arith, length, length-append}
use Rattle.std.specs.List.{flat_map}
use Rattle.std.proofs.lemmas.Bool.{cases_eq}
use Rattle.std.proofs.lemmas.List.{drop-drop}
use Rattle.std.proofs.lemmas.List.Elements.{All-cons, All-nil, All-head}
use Rattle.byte_fields.specs.Numbers.{big_endian, number_in}
use Rattle.cache_key.specs.declared.request.Mutation.{Mutation}
use Rattle.cache_model.specs.Change.{Change, changes_of}
use Rattle.cache_model.specs.Contents.{SameContents, value_after, is_present_after}
use Rattle.disk_trait.specs.View.{Image}
use Rattle.disk_trait.specs.Calls.{Moved}
use Rattle.record_form.specs.declared.header.Header.{Header}
use Rattle.record_form.specs.declared.fault.RecordFault.{RecordFault}
use Rattle.record_form.specs.HeaderFault.{header_fault}
use Rattle.record_form.proofs.HeaderLemmas.{header_fault-header_text, header_in-header_text}
use Rattle.seal_gate.specs.Seal.{IsSealed, ButFirst}
use Rattle.store_ident.specs.declared.ident.StoreId.{StoreId}
use Rattle.store_journal.specs.Text.{IsStoreOf}
use Rattle.store_journal.specs.Created.{IsUnsealed}
use Rattle.store_journal.specs.Fault.{offset_if_fault, shifted, IsDamagedAt}
use Rattle.store_journal.specs.Loading.{IsIdentified, IsUnidentifiedAt}
use Rattle.store_journal.specs.Stands.{version_in, IsOlder}
use Rattle.store_journal.specs.declared.store.Store.{Store}
use Rattle.store_journal.proofs.FaultLemmas.{text_is_whole}
use Rattle.store_journal.proofs.StandsLemmas.{within_head}
use Rattle.store_journal.proofs.TextOnce.{text_once}
use Rattle.newest_store.specs.Newest.{IsHeaded, HasStore, IsNewest, IsNewestStore, IsDamagedIn}

-- a file whose store is known has a header, or no seal
pub identified_is_headed : (bytes : List ℕ) (found : Option StoreId) → IsIdentified bytes found → IsHeaded bytes
identified_is_headed bytes None not = λ sealed. absurd (not sealed)
identified_is_headed bytes (Some id) has = λ sealed. ap header_fault has.3 ∙ header_fault-header_text has.1 has.2

-- the header of a sealed file that has one has no fault
no_offset_in : (from offset : ℕ) (fault : Option RecordFault) → fault ≡ None → shifted from (offset_if_fault fault) ≡ Some offset → ⊥
no_offset_in from offset fault none is = let no : shifted from (offset_if_fault fault) ≡ None = ap (λ (f : Option RecordFault). shifted from (offset_if_fault f)) none in absurd cc

pub headed_is_identified : (bytes : List ℕ) (offset : ℕ) → IsHeaded bytes → IsUnidentifiedAt bytes offset → ⊥
headed_is_identified bytes offset headed is = no_offset_in 1 offset (header_fault (take 40 (drop 1 bytes))) (headed is.sealed) is.first

-- the version of a store that is known is the one that its file shows
pub version_of_identified : (bytes : List ℕ) (id : StoreId) → IsIdentified bytes (Some id) → version_in bytes ≡ id.version
version_of_identified bytes id has =
    ap big_endian (within_head bytes 8 8 (omega arith)) ∙ ap (λ (text : List ℕ). number_in text 8 8) has.3
    ∙ ap (λ (h : Header). h.id.version) (header_in-header_text has.1 has.2) ∙ ap (λ (i : StoreId). i.version) has.4

-- one of two files is the first or the second
pub file_cases : (P : ℕ → Type 0) (file : ℕ) → file ≤ 1 → P 0 → P 1 → P file
file_cases P file within first second = ⊎_elim
    (λ zero. subst P (sym zero) first)
    (λ some. let one : 1 ≡ file = omega (arith, some, within) in subst P one second)
    (cases_eq file 0)

-- which of the two is the newest
pub none_newest : (m : Image) → IsIdentified (m 0) None → IsIdentified (m 1) None → (file : ℕ) → file ≤ 1 → IsUnsealed (m file)
none_newest m first second file within = file_cases (λ f. IsUnsealed (m f)) file within first second

abbrev IsBefore : Image → ℕ → ℕ → Type 0
IsBefore m file f = IsSealed (m f) → (version_in (m f) < version_in (m file)) ⊎ ((version_in (m f) ≡ version_in (m file)) × (file < f))

pub second_newest : (m : Image) (first second : StoreId) → first.version < second.version → IsIdentified (m 0) (Some first) → IsIdentified (m 1) (Some second) → IsNewest m 1
second_newest m first second less is also = record {
  one_of_two = omega arith;
  sealed = also.0;
  greatest = λ f within ne. file_cases (λ k. k ≢ 1 → IsBefore m 1 k) f within
      (λ other sealed. inl (omega (arith, less, version_of_identified (m 0) first is, version_of_identified (m 1) second also)))
      (λ other sealed. absurd (other refl)) ne;
}

pub first_newest : (m : Image) (first second : StoreId) → second.version ≤ first.version → IsIdentified (m 0) (Some first) → IsIdentified (m 1) (Some second) → IsNewest m 0
first_newest m first second less is also =
    let one : version_in (m 0) ≡ first.version = version_of_identified (m 0) first is in
    let two : version_in (m 1) ≡ second.version = version_of_identified (m 1) second also in
    record {
      one_of_two = omega arith;
      sealed = is.0;
      greatest = λ f within ne. file_cases (λ k. k ≢ 0 → IsBefore m 0 k) f within
          (λ other sealed. absurd (other refl))
          (λ other sealed. ⊎_elim
          (λ same. inr (same, omega arith))
          (λ differs. inl (omega (arith, less, one, two, differs)))
          (cases_eq (version_in (m 1)) (version_in (m 0)))) ne;
    }

pub first_alone : (m : Image) (first : StoreId) → IsIdentified (m 0) (Some first) → IsIdentified (m 1) None → IsNewest m 0
first_alone m first is not = record {
  one_of_two = omega arith;
  sealed = is.0;
  greatest = λ f within ne. file_cases (λ k. k ≢ 0 → IsBefore m 0 k) f within (λ other sealed. absurd (other refl)) (λ other sealed. absurd (not sealed)) ne;
}

pub second_alone : (m : Image) (second : StoreId) → IsIdentified (m 0) None → IsIdentified (m 1) (Some second) → IsNewest m 1
second_alone m second not is = record {
  one_of_two = omega arith;
  sealed = is.0;
  greatest = λ f within ne. file_cases (λ k. k ≢ 1 → IsBefore m 1 k) f within (λ other sealed. absurd (not sealed)) (λ other sealed. absurd (other refl)) ne;
}

-- one file alone is the newest
pub newest_once : (m : Image) (file other : ℕ) → IsNewest m file → IsNewest m other → file ≡ other
newest_once m file other one two = ⊎_elim (λ same. same)
    (λ ne.
    let before = two.greatest file one.one_of_two ne one.sealed in
    let after = one.greatest other two.one_of_two (λ e. ne (sym e)) two.sealed in
    absurd (⊎_elim
    (λ less. ⊎_elim (λ more. omega (arith, less, more)) (λ equal. omega (arith, less, equal.0)) after)
    (λ same. ⊎_elim (λ more. omega (arith, same.0, more)) (λ equal. omega (arith, same.1, equal.1)) after)
    before))
    (cases_eq file other)

-- what `HasStore` says of a file
pub record StandsAt (partition partitions : ℕ) (id : StoreId) (changes : List Change) (m : Image) (file : ℕ) : Type 0 where
  pub one_of_two : file ≤ 1
  pub older : (f : ℕ) → f ≤ 1 → f ≢ file → IsOlder (version_in (m file)) (m f)
  pub header : Header
  pub mutations : List Mutation
  pub store : IsStoreOf header mutations (m file)
  pub of_partition : header.id.partition ≡ partition
  pub of_partitions : header.partitions ≡ partitions
  pub named : header.id ≡ id
  pub exact : changes_of mutations ≡ changes

two_offsets : (first second newest : List ℕ) (before after : List (List ℕ)) → first ∷ second ∷ [] ≡ before ++ newest ∷ after
    → ((newest ≡ first) × (after ≡ second ∷ [])) ⊎ ((before ≡ first ∷ []) × (newest ≡ second))
two_offsets first second newest [] after is = inl (cc, cc)
two_offsets first second newest (a ∷ []) after is = inr (cc, cc)
two_offsets first second newest (a ∷ b ∷ rest) after is = absurd (omega (arith, ap length is, length-append rest (newest ∷ after)))

-- the only one of a list
only_one : (P : List ℕ → Type 0) (bytes : List ℕ) (all : List (List ℕ)) → all ≡ bytes ∷ [] → All P all → P bytes
only_one P bytes all is has = All-head P bytes [] (subst (All P) is has)

-- the files stand for one of the two
found_at : (partition partitions file : ℕ) (id : StoreId) (changes : List Change) (m : Image) → HasStore partition partitions file id changes m → (f : ℕ) × StandsAt partition partitions id changes m f
found_at partition partitions file id changes m has =
    let s = has.stands in
    let at : (f : ℕ) → f ≤ 1 → s.newest ≡ m f → ((k : ℕ) → k ≤ 1 → k ≢ f → IsOlder (version_in s.newest) (m k)) → StandsAt partition partitions id changes m f = λ f within is older. record {
      one_of_two = within;
      older = λ k k_in ne. subst (λ (l : List ℕ). IsOlder (version_in l) (m k)) is (older k k_in ne);
      header = s.header;
      mutations = s.mutations;
      store = subst (λ (l : List ℕ). IsStoreOf s.header s.mutations l) is s.store;
      of_partition = s.of_partition;
      of_partitions = s.of_partitions;
      named = has.named;
      exact = has.exact;
    } in
    ⊎_elim
    (λ is. (
      0,
      at 0 (omega arith) is.0 (λ f within ne. file_cases (λ k. k ≢ 0 → IsOlder (version_in s.newest) (m k)) f within
          (λ other. absurd (other refl)) (λ other. only_one (IsOlder (version_in s.newest)) (m 1) s.after is.1 s.others_after) ne),
    ))
    (λ is. (
      1,
      at 1 (omega arith) is.1 (λ f within ne. file_cases (λ k. k ≢ 1 → IsOlder (version_in s.newest) (m k)) f within
          (λ other. only_one (IsOlder (version_in s.newest)) (m 0) s.before is.0 s.others_before) (λ other. absurd (other refl)) ne),
    ))
    (two_offsets (m 0) (m 1) s.newest s.before s.after s.offset)

-- the file for which they stand is the newest
newest_at : (partition partitions : ℕ) (id : StoreId) (changes : List Change) (m : Image) (file : ℕ) → StandsAt partition partitions id changes m file → IsNewest m file
newest_at partition partitions id changes m file at = record {
  one_of_two = at.one_of_two;
  sealed = at.store.text.sealed;
  greatest = λ f within ne sealed. inl (at.older f within ne sealed);
}

-- so what `HasStore` says, it says of its own file
pub stands_at : (partition partitions file : ℕ) (id : StoreId) (changes : List Change) (m : Image) → HasStore partition partitions file id changes m → StandsAt partition partitions id changes m file
stands_at partition partitions file id changes m has =
    let found = found_at partition partitions file id changes m has in
    subst (StandsAt partition partitions id changes m) (newest_once m found.0 file (newest_at partition partitions id changes m found.0 found.1) has.newest) found.1

same_contents : (some all : List Change) → some ≡ all → SameContents some all
same_contents some all same = record {
  values = λ cache key. ap (λ (changes : List Change). value_after changes cache key) same;
  presence = λ cache. ap (λ (changes : List Change). is_present_after changes cache) same;
}

-- and back
pub has_store : (partition partitions : ℕ) (id : StoreId) (changes : List Change) (m : Image) (file : ℕ) → StandsAt partition partitions id changes m file → ((f : ℕ) → f ≤ 1 → IsHeaded (m f)) → HasStore partition partitions file id changes m
has_store partition partitions id changes m file at headed =
    file_cases (λ k. StandsAt partition partitions id changes m k → HasStore partition partitions k id changes m) file at.one_of_two
    (λ first. record {
      newest = newest_at partition partitions id changes m 0 first;
      stands = record {
        before = [];
        newest = m 0;
        after = m 1 ∷ [];
        offset = refl;
        others_before = All-nil (IsOlder (version_in (m 0)));
        others_after = All-cons (IsOlder (version_in (m 0))) (m 1) [] (first.older 1 (omega arith) (omega arith)) (All-nil (IsOlder (version_in (m 0))));
        header = first.header;
        mutations = first.mutations;
        store = first.store;
        of_partition = first.of_partition;
        of_partitions = first.of_partitions;
        contents = same_contents (changes_of first.mutations) changes first.exact;
      };
      named = first.named;
      exact = first.exact;
      headed = headed;
    })
    (λ second. record {
      newest = newest_at partition partitions id changes m 1 second;
      stands = record {
        before = m 0 ∷ [];
        newest = m 1;
        after = [];
        offset = refl;
        others_before = All-cons (IsOlder (version_in (m 1))) (m 0) [] (second.older 0 (omega arith) (omega arith)) (All-nil (IsOlder (version_in (m 1))));
        others_after = All-nil (IsOlder (version_in (m 1)));
        header = second.header;
        mutations = second.mutations;
        store = second.store;
        of_partition = second.of_partition;
        of_partitions = second.of_partitions;
        contents = same_contents (changes_of second.mutations) changes second.exact;
      };
      named = second.named;
      exact = second.exact;
      headed = headed;
    })
    at

-- files that stand for something aren't damaged
pub undamaged : (partition partitions file : ℕ) (id : StoreId) (changes : List Change) (m : Image) (f offset : ℕ) → HasStore partition partitions file id changes m → IsDamagedIn m partition partitions f offset → ⊥
undamaged partition partitions file id changes m f offset has damaged = ⊎_elim
    (λ header. headed_is_identified (m f) offset (has.headed f damaged.one_of_two) header.0)
    (λ rest.
    let at = subst (StandsAt partition partitions id changes m) (newest_once m file f has.newest rest.1) (stands_at partition partitions file id changes m has) in
    let one : IsDamagedAt (m f) at.header.id.partition partitions offset = subst (λ (p : ℕ). IsDamagedAt (m f) p partitions offset) (sym at.of_partition) rest.2 in
    let two : IsDamagedAt (m f) at.header.id.partition at.header.partitions offset = subst (λ (p : ℕ). IsDamagedAt (m f) at.header.id.partition p offset) (sym at.of_partitions) one in
    text_is_whole at.header at.store.groups (m f) offset at.store.text two)
    damaged.first

-- nor are those of which the newest has a store
pub newest_undamaged : (partition partitions : ℕ) (store : Store) (mutations : List Mutation) (m : Image) (f offset : ℕ) → IsNewestStore partition partitions store mutations m → IsDamagedIn m partition partitions f offset → ⊥
newest_undamaged partition partitions store mutations m f offset is damaged = ⊎_elim
    (λ header. headed_is_identified (m f) offset (is.headed f damaged.one_of_two) header.0)
    (λ rest.
    let here : f ≡ store.file = newest_once m f store.file rest.1 is.newest in
    let at : IsDamagedAt (m store.file) partition partitions offset = subst (λ (k : ℕ). IsDamagedAt (m k) partition partitions offset) here rest.2 in
    text_is_whole (record { id = store.id; partitions = partitions }) is.groups (m store.file) offset is.kept.text
    (subst (λ (p : ℕ). IsDamagedAt (m store.file) p partitions offset) (sym is.of_partition) at))
    damaged.first

-- where the files have a store, the newest store is that one
pub store_contents : (partition partitions : ℕ) (store : Store) (mutations : List Mutation) (file : ℕ) (id : StoreId) (changes : List Change) (m : Image) → IsNewestStore partition partitions store mutations m
    → HasStore partition partitions file id changes m → (store.file ≡ file) × (store.id ≡ id) × (changes_of mutations ≡ changes)
store_contents partition partitions store mutations file id changes m is has =
    let here : file ≡ store.file = newest_once m file store.file has.newest is.newest in
    let at = subst (StandsAt partition partitions id changes m) here (stands_at partition partitions file id changes m has) in
    let once = text_once (record { id = store.id; partitions = partitions }) at.header is.groups at.store.groups (m store.file) is.kept.text at.store.text in
    let same : mutations ≡ at.mutations = is.joined ∙ ap (λ (gs : List (List Mutation)). flat_map (λ group. group) gs) once.1 ∙ sym at.store.joined in
    (sym here, ap (λ (h : Header). h.id) once.0 ∙ at.named, ap (λ (ms : List Mutation). changes_of ms) same ∙ at.exact)

-- the two files alone decide
pub has_store_in : (partition partitions file : ℕ) (id : StoreId) (changes : List Change) (m n : Image) → n 0 ≡ m 0 → n 1 ≡ m 1 → HasStore partition partitions file id changes m → HasStore partition partitions file id changes n
has_store_in partition partitions file id changes m n first second has =
    let at = stands_at partition partitions file id changes m has in
    let same : (f : ℕ) → f ≤ 1 → m f ≡ n f = λ f within. file_cases (λ k. m k ≡ n k) f within (sym first) (sym second) in
    let here : m file ≡ n file = same file at.one_of_two in
    has_store partition partitions id changes n file
    (record {
      one_of_two = at.one_of_two;
      older = λ f within ne still.
          let there : m f ≡ n f = same f within in
          let less = at.older f within ne (subst IsSealed (sym there) still) in
          omega (arith, less, ap version_in here, ap version_in there);
      header = at.header;
      mutations = at.mutations;
      store = subst (λ (l : List ℕ). IsStoreOf at.header at.mutations l) here at.store;
      of_partition = at.of_partition;
      of_partitions = at.of_partitions;
      named = at.named;
      exact = at.exact;
    })
    (λ f within. subst IsHeaded (same f within) (has.headed f within))

-- the version stands after the first byte
version_but_first : (old new : List ℕ) → ButFirst old new → version_in new ≡ version_in old
version_but_first old new but = ap (λ (l : List ℕ). big_endian (take 8 l)) (sym (drop-drop 8 1 new) ∙ ap (λ (l : List ℕ). drop 8 l) but.rest ∙ drop-drop 8 1 old)

-- a sealed older file may lose its seal
pub stands_on : (partition partitions file : ℕ) (id : StoreId) (changes : List Change) (o m : Image) (other : ℕ) → other ≤ 1 → other ≢ file → IsSealed (o other) → HasStore partition partitions file id changes o
    → Moved other ButFirst o m → HasStore partition partitions file id changes m
stands_on partition partitions file id changes o m other within ne sealed has moved =
    let at = stands_at partition partitions file id changes o has in
    let same : m file ≡ o file = moved.others file (λ e. ne (sym e)) in
    let is_other : (f : ℕ) → f ≤ 1 → f ≢ file → other ≡ f = λ f f_in differs. let first = at.one_of_two in omega (arith, within, ne, f_in, differs, first) in
    has_store partition partitions id changes m file
    (record {
      one_of_two = at.one_of_two;
      older = λ f f_in differs.
          subst (λ (k : ℕ). IsOlder (version_in (m file)) (m k)) (is_other f f_in differs)
          (λ still.
          let less = at.older other within ne sealed in
          omega (arith, less, version_but_first (o other) (m other) moved.here, ap version_in same));
      header = at.header;
      mutations = at.mutations;
      store = subst (λ (l : List ℕ). IsStoreOf at.header at.mutations l) (sym same) at.store;
      of_partition = at.of_partition;
      of_partitions = at.of_partitions;
      named = at.named;
      exact = at.exact;
    })
    (λ f f_in. ⊎_elim
    (λ here. subst (λ (k : ℕ). IsHeaded (m k)) (sym here) (subst IsHeaded (sym same) (has.headed file at.one_of_two)))
    (λ differs. subst (λ (k : ℕ). IsHeaded (m k)) (is_other f f_in differs)
    (λ still. ap (λ (l : List ℕ). header_fault (take 40 l)) moved.here.rest ∙ has.headed other within sealed))
    (cases_eq f file))
