-- Which store is the newest over some of the recorded hosts.
use Rattle.std.proofs.Common.{◌≡◌, ◌⊎◌, inl, inr, ⊎_elim, ℕ, suc, ◌<◌, ◌≤◌, List, [], ◌∷◌, sym, ◌∙◌, ap, subst, arith}
use Rattle.std.specs.Prelude.{Contains}
use Rattle.std.proofs.lemmas.Bool.{cases_eq, cases_lt}
use Rattle.std.specs.List.{flat_map}
use Rattle.cache_key.specs.declared.request.Mutation.{Mutation}
use Rattle.cache_model.specs.Change.{changes_of}
use Rattle.cache_model.specs.Contents.{SameContents}
use Rattle.cache_model.proofs.SameLemmas.{same_joined, same_turned}
use Rattle.record_form.specs.declared.header.Header.{Header}
use Rattle.disk_lane.specs.Lanes.{LaneImage}
use Rattle.seal_gate.specs.Seal.{IsSealed}
use Rattle.store_journal.specs.Created.{IsUnsealed}
use Rattle.store_journal.specs.Stands.{version_in}
use Rattle.store_journal.specs.Text.{end_of}
use Rattle.store_journal.proofs.TextOnce.{text_once}
use Rattle.store_journal.proofs.StandsLemmas.{version_of_text}
use Rattle.newest_store.specs.Choice.{CountsBefore}
use Rattle.file_kinds.specs.Kinds.{PartitionNumber}
use Rattle.roster_form.proofs.ContainsLemmas.{contains_first, contains_later, contains_cases, contains_none}
use Rattle.cluster_model.specs.Lane.{HostedStore, HoldsStore, Opens, LaneStanding, choices, IsSlot, KeepsLane}

-- a store's version is the one that its file shows
pub version_of : (number : PartitionNumber) (store : HostedStore) (bytes : List ℕ) → HoldsStore number store bytes → version_in bytes ≡ store.id.version
version_of number store bytes is = version_of_text (record { id = store.id; partitions = number.partitions }) is.text.groups bytes is.text.text

-- The store is the newest of the files of these hosts, and of the first of this host, so many.
record IsNewestSoFar (number : PartitionNumber) (recorded hosts : List ℕ) (lane : LaneImage) (standing : LaneStanding) (last : ℕ) (files : ℕ) (store : HostedStore) : Type 0 where
  file : ℕ
  one_of_two : file ≤ 1
  choice : Contains (choices standing) store
  counted : Contains recorded store.host
  holds : HoldsStore number store (lane store.host file)
  no_older : standing.store.id.version ≤ store.id.version
  newest : (host : ℕ) (f : ℕ) → Contains hosts host ⊎ ((host ≡ last) × (f < files)) → f ≤ 1 → IsSealed (lane host f) → ((host ≡ store.host) × (f ≡ file)) ⊎ (version_in (lane host f) < store.id.version)

-- no store that may be found is older than the current one
no_older_choice : (number : PartitionNumber) (recorded : List ℕ) (standing : LaneStanding) (lane : LaneImage) → KeepsLane number recorded standing lane → (store : HostedStore) → Contains (choices standing) store → standing.store.id.version ≤ store.id.version
no_older_choice number recorded standing lane keeps store is = ⊎_elim (λ here. subst (λ (s : HostedStore). standing.store.id.version ≤ s.id.version) (sym here) (omega arith)) (λ there. keeps.newer store there) (contains_cases standing.store standing.perhaps store is)

-- one file more
one_more : (number : PartitionNumber) (recorded hosts : List ℕ) (lane : LaneImage) (standing : LaneStanding) (last : ℕ) (files : ℕ) (store : HostedStore) → KeepsLane number recorded standing lane → Contains recorded last → files ≤ 1
    → IsNewestSoFar number recorded hosts lane standing last files store → (best : HostedStore) × IsNewestSoFar number recorded hosts lane standing last (suc files) best
one_more number recorded hosts lane standing last files store keeps is within best = go (keeps.slots last files is within)
  where
    split : (host : ℕ) (f : ℕ) → Contains hosts host ⊎ ((host ≡ last) × (f < suc files)) → (Contains hosts host ⊎ ((host ≡ last) × (f < files))) ⊎ ((host ≡ last) × (f ≡ files))
    split host f among = ⊎_elim
        (λ earlier. inl (inl earlier))
        (λ here. ⊎_elim (λ less. inl (inr (here.0, less))) (λ more. inr (here.0, let a = here.1 in omega (arith, a, more))) (cases_lt f files))
        among

    -- it stays the newest
    stays : (IsSealed (lane last files) → ((last ≡ store.host) × (files ≡ best.file)) ⊎ (version_in (lane last files) < store.id.version)) → (b : HostedStore) × IsNewestSoFar number recorded hosts lane standing last (suc files) b
    stays unless = (
      store,
      record {
        file = best.file;
        one_of_two = best.one_of_two;
        choice = best.choice;
        counted = best.counted;
        holds = best.holds;
        no_older = best.no_older;
        newest = λ host f among low sealed. ⊎_elim
            (λ earlier. best.newest host f earlier low sealed)
            (λ here.
            let at : IsSealed (lane last files) = subst (λ (h : ℕ). IsSealed (lane h files)) here.0 (subst (λ (k : ℕ). IsSealed (lane host k)) here.1 sealed) in
            subst (λ (h : ℕ). ((h ≡ store.host) × (f ≡ best.file)) ⊎ (version_in (lane h f) < store.id.version)) (sym here.0)
            (subst (λ (k : ℕ). ((last ≡ store.host) × (k ≡ best.file)) ⊎ (version_in (lane last k) < store.id.version)) (sym here.1) (unless at)))
            (split host f among);
      },
    )

    -- the file's store is the newest
    becomes : (found : HostedStore) → Contains (choices standing) found → found.host ≡ last → HoldsStore number found (lane last files) → store.id.version < found.id.version → (b : HostedStore) × IsNewestSoFar number recorded hosts lane standing last (suc files) b
    becomes found choice there holds less = (
      found,
      record {
        file = files;
        one_of_two = within;
        choice = choice;
        counted = subst (λ (h : ℕ). Contains recorded h) (sym there) is;
        holds = subst (λ (h : ℕ). HoldsStore number found (lane h files)) (sym there) holds;
        no_older = no_older_choice number recorded standing lane keeps found choice;
        newest = λ host f among low sealed. ⊎_elim
            (λ earlier. inr (⊎_elim
            (λ same.
            let v : version_in (lane host f) ≡ store.id.version = ap (λ (k : ℕ). version_in (lane host k)) same.1 ∙ ap (λ (h : ℕ). version_in (lane h best.file)) same.0 ∙ version_of number store (lane store.host best.file) best.holds in
            omega (arith, v, less))
            (λ older. omega (arith, older, less))
            (best.newest host f earlier low sealed)))
            (λ here. inl (here.0 ∙ sym there, here.1))
            (split host f among);
      },
    )

    with_store : (found : HostedStore) → Contains (choices standing) found → found.host ≡ last → HoldsStore number found (lane last files) → (b : HostedStore) × IsNewestSoFar number recorded hosts lane standing last (suc files) b
    with_store found choice there holds = ⊎_elim
        (λ less. becomes found choice there holds less)
        (λ most. ⊎_elim
        (λ same. stays (λ sealed.
        let v : version_in (lane last files) ≡ found.id.version = version_of number found (lane last files) holds in
        let w : version_in (lane store.host best.file) ≡ store.id.version = version_of number store (lane store.host best.file) best.holds in
        let least = best.no_older in
        inl (keeps.apart last store.host files best.file is best.counted within best.one_of_two sealed best.holds.text.text.sealed (v ∙ same ∙ sym w) (omega (arith, v, same, least)))))
        (λ differs. stays (λ sealed.
        let v : version_in (lane last files) ≡ found.id.version = version_of number found (lane last files) holds in
        inr (omega (arith, v, most, differs))))
        (cases_eq found.id.version store.id.version))
        (cases_lt store.id.version found.id.version)

    go : IsSlot number standing last (lane last files) → (b : HostedStore) × IsNewestSoFar number recorded hosts lane standing last (suc files) b
    go (inl bare) = stays (λ sealed. absurd (bare sealed))
    go (inr (inl older)) = stays (λ sealed. let least = best.no_older in inr (omega (arith, older, least)))
    go (inr (inr found)) = with_store found.0 found.1 found.2 found.3

-- one host more
one_host : (number : PartitionNumber) (recorded hosts : List ℕ) (lane : LaneImage) (standing : LaneStanding) (next : ℕ) (any : ℕ) (store : HostedStore) → KeepsLane number recorded standing lane → Contains recorded next
    → IsNewestSoFar number recorded hosts lane standing any 0 store → (best : HostedStore) × IsNewestSoFar number recorded (next ∷ hosts) lane standing any 0 best
one_host number recorded hosts lane standing next any store keeps is best =
    let none : IsNewestSoFar number recorded hosts lane standing next 0 store = record {
      file = best.file;
      one_of_two = best.one_of_two;
      choice = best.choice;
      counted = best.counted;
      holds = best.holds;
      no_older = best.no_older;
      newest = λ host f among low sealed. best.newest host f (⊎_elim (λ earlier. inl earlier) (λ here. absurd (let a = here.1 in omega (arith, a))) among) low sealed;
    } in
    let first = one_more number recorded hosts lane standing next 0 store keeps is (omega arith) none in
    let second = one_more number recorded hosts lane standing next 1 first.0 keeps is (omega arith) first.1 in (
      second.0,
      record {
        file = second.1.file;
        one_of_two = second.1.one_of_two;
        choice = second.1.choice;
        counted = second.1.counted;
        holds = second.1.holds;
        no_older = second.1.no_older;
        newest = λ host f among low sealed. second.1.newest host f (⊎_elim (λ one. ⊎_elim (λ here. inr (here, omega (arith, low))) (λ there. inl there) (contains_cases next hosts host one)) (λ here. absurd (let a = here.1 in omega (arith, a))) among) low sealed;
      },
    )

-- all hosts of a list
all_hosts : (number : PartitionNumber) (recorded hosts : List ℕ) (lane : LaneImage) (standing : LaneStanding) (any : ℕ) (store : HostedStore) → KeepsLane number recorded standing lane → ((host : ℕ) → Contains hosts host → Contains recorded host)
    → IsNewestSoFar number recorded [] lane standing any 0 store → (best : HostedStore) × IsNewestSoFar number recorded hosts lane standing any 0 best
all_hosts number recorded [] lane standing any store keeps are best = (store, best)
all_hosts number recorded (first ∷ hosts) lane standing any store keeps are best =
    let rest = all_hosts number recorded hosts lane standing any store keeps (λ host is. are host (contains_later first hosts host is)) best in
    one_host number recorded hosts lane standing first any rest.0 keeps (are first (contains_first first hosts)) rest.1

-- Other hosts are recorded: those that were, or whose files aren't sealed.
pub recorded_anew : (number : PartitionNumber) (recorded hosts : List ℕ) (standing : LaneStanding) (lane : LaneImage) → KeepsLane number recorded standing lane
    → ((host : ℕ) → Contains hosts host → Contains recorded host ⊎ ((f : ℕ) → f ≤ 1 → IsUnsealed (lane host f))) → KeepsLane number hosts standing lane
recorded_anew number recorded hosts standing lane keeps known = record {
  file = keeps.file;
  one_of_two = keeps.one_of_two;
  current = keeps.current;
  newer = keeps.newer;
  slots = λ host f is low. ⊎_elim (λ was. keeps.slots host f was low) (λ bare. inl (bare f low)) (known host is);
  apart = λ host other f g is also low high sealed too. ⊎_elim
      (λ was. ⊎_elim (λ did. keeps.apart host other f g was did low high sealed too) (λ bare. absurd (bare g high too)) (known other also))
      (λ bare. absurd (bare f low sealed))
      (known host is);
}

-- where one is the newest so far over all hosts, the lane opens with it
opened_by : (number : PartitionNumber) (recorded hosts : List ℕ) (lane : LaneImage) (standing : LaneStanding) (any : ℕ) (store : HostedStore) → IsNewestSoFar number recorded hosts lane standing any 0 store → Contains hosts store.host → Opens number hosts lane store
opened_by number recorded hosts lane standing any store best counted = record {
  file = best.file;
  newest = record { listed = counted; one_of_two = best.one_of_two; sealed = best.holds.text.text.sealed; greatest = λ host f is low sealed. before host f (best.newest host f (inl is) low sealed) };
  alone = λ host f is low sealed same. ⊎_elim (λ here. here) (λ less. absurd (omega (arith, less, same))) (best.newest host f (inl is) low sealed);
  holds = best.holds;
}
  where
    before : (host f : ℕ) → ((host ≡ store.host) × (f ≡ best.file)) ⊎ (version_in (lane host f) < store.id.version) → CountsBefore lane store.host best.file host f
    before host f (inl here) =
        inr (ap (λ (k : ℕ). version_in (lane host k)) here.1 ∙ ap (λ (h : ℕ). version_in (lane h best.file)) here.0, inr (sym here.0, let at = here.1 in omega (arith, at)))
    before host f (inr less) = inl (let v = version_of number store (lane store.host best.file) best.holds in omega (arith, less, v))

-- the newest store over these hosts is one that may be found
pub lane_opens : (number : PartitionNumber) (recorded hosts : List ℕ) (standing : LaneStanding) (lane : LaneImage) → KeepsLane number recorded standing lane → ((host : ℕ) → Contains hosts host → Contains recorded host) → Contains hosts standing.store.host
    → (store : HostedStore) × Contains (choices standing) store × Opens number hosts lane store
lane_opens number recorded hosts standing lane keeps are owner =
    let here = recorded_anew number recorded hosts standing lane keeps (λ host is. inl (are host is)) in
    let current = keeps.current in
    let start : IsNewestSoFar number hosts [] lane standing standing.store.host 0 current.0 = record {
      file = keeps.file;
      one_of_two = keeps.one_of_two;
      choice = current.1;
      counted = subst (λ (h : ℕ). Contains hosts h) (sym current.2) owner;
      holds = current.4;
      no_older = no_older_choice number recorded standing lane keeps current.0 current.1;
      newest = λ host f among low sealed. absurd (⊎_elim (λ none. contains_none host none) (λ here. let a = here.1 in omega (arith, a)) among);
    } in
    let best = all_hosts number hosts hosts lane standing standing.store.host current.0 here (λ host is. is) start in
    (best.0, best.1.choice, opened_by number hosts hosts lane standing standing.store.host best.0 best.1 best.1.counted)

-- ---- one store alone

-- a sealed file is the one that opens, or is older
pub strictly : (number : PartitionNumber) (hosts : List ℕ) (files : LaneImage) (store : HostedStore) → (opens : Opens number hosts files store) → (host f : ℕ) → Contains hosts host → f ≤ 1 → IsSealed (files host f)
    → ((host ≡ store.host) × (f ≡ opens.file)) ⊎ (version_in (files host f) < store.id.version)
strictly number hosts files store opens host f is low sealed = go (opens.newest.greatest host f is low sealed)
  where
    version : version_in (files store.host opens.file) ≡ store.id.version
    version = version_of number store (files store.host opens.file) opens.holds

    go : CountsBefore files store.host opens.file host f → ((host ≡ store.host) × (f ≡ opens.file)) ⊎ (version_in (files host f) < store.id.version)
    go (inl less) = inr (let v = version in omega (arith, less, v))
    go (inr same) = inl (opens.alone host f is low sealed (same.0 ∙ version))

-- two that open a lane stand in one file
same_place : (number : PartitionNumber) (hosts : List ℕ) (lane : LaneImage) (one other : HostedStore) → (first : Opens number hosts lane one) → (second : Opens number hosts lane other) → (other.host ≡ one.host) × (second.file ≡ first.file)
same_place number hosts lane one other first second = ⊎_elim
    (λ here. here)
    (λ less. ⊎_elim
    (λ here. (sym here.0, sym here.1))
    (λ more.
    let v = version_of number one (lane one.host first.file) first.holds in
    let w = version_of number other (lane other.host second.file) second.holds in
    absurd (omega (arith, less, more, v, w)))
    (strictly number hosts lane other second one.host first.file first.newest.listed first.newest.one_of_two first.newest.sealed))
    (strictly number hosts lane one first other.host second.file second.newest.listed second.newest.one_of_two second.newest.sealed)

-- one file has one store
held_once : (number : PartitionNumber) (one other : HostedStore) (bytes : List ℕ) → HoldsStore number one bytes → HoldsStore number other bytes → (other.id ≡ one.id) × (other.end ≡ one.end) × SameContents one.changes other.changes
held_once number one other bytes first second =
    let once = text_once (record { id = one.id; partitions = number.partitions }) (record { id = other.id; partitions = number.partitions }) first.text.groups second.text.groups bytes first.text.text second.text.text in
    let mutations : first.mutations ≡ second.mutations = first.text.joined ∙ ap (λ (groups : List (List Mutation)). flat_map (λ group. group) groups) once.1 ∙ sym second.text.joined in (
      sym (ap (λ (h : Header). h.id) once.0),
      second.gate ∙ sym (ap end_of once.1) ∙ sym first.gate,
      same_joined one.changes (changes_of first.mutations) other.changes (same_turned (changes_of first.mutations) one.changes first.contents)
          (subst (λ (m : List Mutation). SameContents (changes_of m) other.changes) (sym mutations) second.contents),
    )

-- a lane opens with one store
pub opens_once : (number : PartitionNumber) (hosts : List ℕ) (lane : LaneImage) (one other : HostedStore) → Opens number hosts lane one → Opens number hosts lane other
    → (other.host ≡ one.host) × (other.id ≡ one.id) × (other.end ≡ one.end) × SameContents one.changes other.changes
opens_once number hosts lane one other first second =
    let place = same_place number hosts lane one other first second in
    let bytes : lane other.host second.file ≡ lane one.host first.file = ap (λ (h : ℕ). lane h second.file) place.0 ∙ ap (λ (f : ℕ). lane one.host f) place.1 in
    let held = held_once number one other (lane one.host first.file) first.holds (subst (λ (l : List ℕ). HoldsStore number other l) bytes second.holds) in
    (place.0, held.0, held.1, held.2)
