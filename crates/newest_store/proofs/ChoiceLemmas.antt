-- Which store counts of several hosts' stores.
use Rattle.std.proofs.Common.{◌≡◌, inl, inr, ⊎_elim, ℕ, suc, ◌+◌, ◌<◌, ◌≤◌, List, [], ◌∷◌, ◌++◌, take, drop, get_or, length, slice_get, slice_set, length-set, Option, Some, refl, sym, ◌∙◌, ap, subst, arith}
use Rattle.std.specs.Prelude.{Contains}
use Rattle.std.specs.Option.{option_map_or}
use Rattle.std.proofs.lemmas.List.Elements.{Contains-append_left, Contains-append_right, Contains-push, Contains-push_cases}
use Rattle.std.proofs.lemmas.Bool.{cases_eq}
use Rattle.std.proofs.lemmas.List.{take_more}
use Rattle.std.proofs.lemmas.Option.{slice_get_within}
use Rattle.std.proofs.Math.Seq.{split_at}
use Rattle.disk_lane.specs.Lanes.{LaneImage, HasFailedOn}
use Rattle.disk_lane.proofs.LaneLemmas.{written_same, written_other, some_same, disk_there}
use Rattle.disk_trait.specs.View.{Image, View, Tells}
use Rattle.disk_trait.proofs.Runs.{started, joined, weakened, same_none, onward_none, onward_joined}
use Rattle.seal_gate.specs.Seal.{IsSealed}
use Rattle.store_ident.specs.declared.ident.StoreId.{StoreId}
use Rattle.store_journal.specs.Created.{IsUnsealed}
use Rattle.store_journal.specs.Loading.{IsIdentified, IsUnidentifiedAt, OnlyReads}
use Rattle.store_journal.specs.Stands.{version_in}
use Rattle.newest_store.specs.Newest.{IsHeaded, IsNewest}
use Rattle.newest_store.specs.Choice.{seen_on, AllTell, AllSpare, OnlyReadsLane, Precedes, CountsBefore, IsNewestAmong, IsChosen, AreHeaded, IsOneOf, IsChoiceFault, IsFileFault, IsHostFault, IsHostChoice}
use Rattle.newest_store.specs.declared.choice.Choice.{Choice}
use Rattle.newest_store.specs.declared.choice.Choice.TheVariants.{One, NoStore}
use Rattle.newest_store.specs.declared.choice.ChoiceFault.{ChoiceFault}
use Rattle.newest_store.specs.declared.choice.ChoiceFault.TheVariants.{Failed, Damaged, NoMemory}
use Rattle.newest_store.proofs.NewestLemmas.{identified_is_headed, version_of_identified, first_newest, second_newest}

-- ---- reads

-- without a call nothing is written
reads_nothing : (v : View) → OnlyReads v v
reads_nothing v = record { same = same_none v; moments = started v v.images (λ m is. is); onward = onward_none v }

reads_both : (a b c : View) → OnlyReads a b → OnlyReads b c → OnlyReads a c
reads_both a b c first second = record {
  same = record {
    seen = λ f. second.same.seen f ∙ first.same.seen f;
    fewer = λ m is. first.same.fewer m (second.same.fewer m is);
    no_fewer = λ m is. second.same.no_fewer m (first.same.no_fewer m is);
  };
  moments = joined a b c a.images first.moments (weakened b c b.images a.images second.moments first.same.fewer);
  onward = onward_joined a b c first.onward second.onward;
}

-- ---- one host

-- the first header can't be judged
pub first_file_fails : (a b : View) (host : ℕ) (fault : ChoiceFault) → IsFileFault a b host 0 fault → IsHostFault a b host fault
first_file_fails a b host (Failed h) is = is
first_file_fails a b host (Damaged h f offset) is = (
  is.0,
  omega (arith, is.1),
  λ tells. (
    subst (λ (k : ℕ). IsUnidentifiedAt (a.seen k) offset) (sym is.1) (is.2 tells),
    λ lower less. absurd (omega (arith, less, is.1)),
  ),
)
first_file_fails a b host NoMemory is = is

-- the second header can't be judged
pub second_file_fails : (a b c : View) (host : ℕ) (found : Option StoreId) (fault : ChoiceFault) → OnlyReads a b → (Tells a → IsIdentified (a.seen 0) found) → IsFileFault b c host 1 fault → IsHostFault a c host fault
second_file_fails a b c host found (Failed h) reads told is = (is.0, λ below. let rose = is.1 below in omega (arith, reads.onward.faults, rose))
second_file_fails a b c host found (Damaged h f offset) reads told is = (
  is.0,
  omega (arith, is.1),
  λ tells. (
    subst (λ (l : List ℕ). IsUnidentifiedAt l offset) (ap b.seen (sym is.1) ∙ reads.same.seen f) (is.2 (reads.onward.tells tells)),
    λ lower less.
        let zero : 0 ≡ lower = omega (arith, less, is.1) in
        subst (λ (k : ℕ). IsHeaded (a.seen k)) zero (identified_is_headed (a.seen 0) found (told tells)),
  ),
)
second_file_fails a b c host found NoMemory reads told is = λ spares. is (reads.onward.spares spares)

-- ---- two choices

-- the only host of a list of one
only_host : (host other : ℕ) → Contains (host ∷ []) other → host ≡ other
only_host host other there = ⊎_elim (λ (none : Contains [] other). absurd (omega (arith, none.1))) (λ is. is) (Contains-push_cases [] host other there)

-- the host at its place in a list
host_in : (before after hosts : List ℕ) (host : ℕ) → hosts ≡ before ++ host ∷ after → Contains hosts host
host_in before after hosts host place = subst (λ (l : List ℕ). Contains l host) (sym place) (Contains-append_right before (host ∷ after) host (0, omega arith, refl))

-- none of a longer list is sealed
pub none_chosen : (ms : LaneImage) (hosts : List ℕ) (host : ℕ) → IsChosen ms hosts NoStore → IsChosen ms (host ∷ []) NoStore → IsChosen ms (hosts ++ host ∷ []) NoStore
none_chosen ms hosts host best own = λ h f there within. ⊎_elim
    (λ earlier. best h f earlier within)
    (λ is. own h f (subst (Contains (host ∷ [])) is (Contains-push [] host)) within)
    (Contains-push_cases hosts host h there)

-- what counts so far counts before the next host's files too
newest_so_far : (ms : LaneImage) (hosts : List ℕ) (host h f : ℕ) → IsNewestAmong ms hosts h f → ((k j : ℕ) → Contains (host ∷ []) k → j ≤ 1 → IsSealed (ms k j) → CountsBefore ms h f k j) → IsNewestAmong ms (hosts ++ host ∷ []) h f
newest_so_far ms hosts host h f best next = record {
  listed = Contains-append_left hosts (host ∷ []) h best.listed;
  one_of_two = best.one_of_two;
  sealed = best.sealed;
  greatest = λ k j there within sealed. ⊎_elim
      (λ earlier. best.greatest k j earlier within sealed)
      (λ is. next k j (subst (Contains (host ∷ [])) is (Contains-push [] host)) within sealed)
      (Contains-push_cases hosts host k there);
}

-- the next host's newest file counts before all so far
newest_of_all : (ms : LaneImage) (hosts : List ℕ) (host h f : ℕ) → IsNewestAmong ms (host ∷ []) h f → ((k j : ℕ) → Contains hosts k → j ≤ 1 → IsSealed (ms k j) → CountsBefore ms h f k j) → IsNewestAmong ms (hosts ++ host ∷ []) h f
newest_of_all ms hosts host h f own others = record {
  listed = Contains-append_right hosts (host ∷ []) h own.listed;
  one_of_two = own.one_of_two;
  sealed = own.sealed;
  greatest = λ k j there within sealed. ⊎_elim
      (λ earlier. others k j earlier within sealed)
      (λ is. own.greatest k j (subst (Contains (host ∷ [])) is (Contains-push [] host)) within sealed)
      (Contains-push_cases hosts host k there);
}

-- what counts before one that counts before a third counts before that
precedes_all : (v h f w i g x j k : ℕ) → Precedes v h f w i g → Precedes w i g x j k → Precedes v h f x j k
precedes_all v h f w i g x j k one two = ⊎_elim
    (λ less. inl (⊎_elim (λ more. omega (arith, less, more)) (λ same. omega (arith, less, same.0)) two))
    (λ same. ⊎_elim
    (λ more. inl (omega (arith, same.0, more)))
    (λ also. inr (
      omega (arith, same.0, also.0),
      ⊎_elim
          (λ lower. inl (⊎_elim (λ more. omega (arith, lower, more)) (λ equal. omega (arith, lower, equal.0)) also.1))
          (λ equal. ⊎_elim
          (λ more. inl (omega (arith, equal.0, more)))
          (λ further. inr (omega (arith, equal.0, further.0), omega (arith, equal.1, further.1)))
          also.1)
          same.1,
    ))
    two)
    one

-- which of two stores counts, by their versions
between : (ms : LaneImage) (h f i g : ℕ) (id other : StoreId) → IsIdentified (ms h f) (Some id) → IsIdentified (ms i g) (Some other) → Precedes id.version h f other.version i g → CountsBefore ms h f i g
between ms h f i g id other is also before =
    subst (λ (v : ℕ). Precedes v h f (version_in (ms i g)) i g) (sym (version_of_identified (ms h f) id is))
    (subst (λ (v : ℕ). Precedes id.version h f v i g) (sym (version_of_identified (ms i g) other also)) before)

-- the next host's store counts
pub own_chosen : (ms : LaneImage) (hosts : List ℕ) (host h f i g : ℕ) (id other : StoreId) → Precedes other.version i g id.version h f → IsChosen ms hosts (One h f id) → IsChosen ms (host ∷ []) (One i g other) → IsChosen ms (hosts ++ host ∷ []) (One i g other)
own_chosen ms hosts host h f i g id other before best own = (
  newest_of_all ms hosts host i g own.0 (λ k j there within sealed.
      precedes_all _ _ _ (version_in (ms h f)) h f _ _ _ (between ms i g h f other id own.1 best.1 before) (best.0.greatest k j there within sealed)),
  own.1,
)

-- the store that counts so far counts
pub best_chosen : (ms : LaneImage) (hosts : List ℕ) (host h f i g : ℕ) (id other : StoreId) → Precedes id.version h f other.version i g → IsChosen ms hosts (One h f id) → IsChosen ms (host ∷ []) (One i g other) → IsChosen ms (hosts ++ host ∷ []) (One h f id)
best_chosen ms hosts host h f i g id other before best own = (
  newest_so_far ms hosts host h f best.0 (λ k j there within sealed.
      precedes_all _ _ _ (version_in (ms i g)) i g _ _ _ (between ms h f i g id other best.1 own.1 before) (own.0.greatest k j there within sealed)),
  best.1,
)

-- beside a host without a sealed file
pub best_alone : (ms : LaneImage) (hosts : List ℕ) (host h f : ℕ) (id : StoreId) → IsChosen ms hosts (One h f id) → IsChosen ms (host ∷ []) NoStore → IsChosen ms (hosts ++ host ∷ []) (One h f id)
best_alone ms hosts host h f id best own = (newest_so_far ms hosts host h f best.0 (λ k j there within sealed. absurd (own k j there within sealed)), best.1)

pub own_alone : (ms : LaneImage) (hosts : List ℕ) (host : ℕ) (own : Choice) → IsChosen ms hosts NoStore → IsChosen ms (host ∷ []) own → IsChosen ms (hosts ++ host ∷ []) own
own_alone ms hosts host NoStore best own = none_chosen ms hosts host best own
own_alone ms hosts host (One h f id) best own = (newest_of_all ms hosts host h f own.0 (λ k j there within sealed. absurd (best k j there within sealed)), own.1)

-- ---- one host's two files

pub second_counts : (m : Image) (host : ℕ) (first second : Option StoreId) (id other : StoreId) → first ≡ Some id → second ≡ Some other → id.version < other.version → IsIdentified (m 0) first → IsIdentified (m 1) second → IsHostChoice m host (One host 1 other)
second_counts m host first second id other one two less is also =
    let found : IsIdentified (m 1) (Some other) = subst (IsIdentified (m 1)) two also in
    (refl, second_newest m id other less (subst (IsIdentified (m 0)) one is) found, found)

pub first_counts : (m : Image) (host : ℕ) (first second : Option StoreId) (id other : StoreId) → first ≡ Some id → second ≡ Some other → other.version ≤ id.version → IsIdentified (m 0) first → IsIdentified (m 1) second → IsHostChoice m host (One host 0 id)
first_counts m host first second id other one two less is also =
    let found : IsIdentified (m 0) (Some id) = subst (IsIdentified (m 0)) one is in
    (refl, first_newest m id other less found (subst (IsIdentified (m 1)) two also), found)

-- what is found of the second file after a read of the first was so before it
pub found_before : (a b : View) (second : Option StoreId) → OnlyReads a b → (Tells b → IsIdentified (b.seen 1) second) → Tells a → IsIdentified (a.seen 1) second
found_before a b second reads told tells = subst (λ (l : List ℕ). IsIdentified l second) (reads.same.seen 1) (told (reads.onward.tells tells))

-- ---- what is chosen, by its name in the code

pub one_so_far : (hosts : List ℕ) (host : ℕ) (best : Choice) → IsOneOf hosts best → IsOneOf (hosts ++ host ∷ []) best
one_so_far hosts host NoStore is = tt
one_so_far hosts host (One h f id) is = (Contains-append_left hosts (host ∷ []) h is.0, is.1)

pub one_more : (hosts : List ℕ) (host : ℕ) (own : Choice) → IsOneOf (host ∷ []) own → IsOneOf (hosts ++ host ∷ []) own
one_more hosts host NoStore is = tt
one_more hosts host (One h f id) is = (Contains-append_right hosts (host ∷ []) h is.0, is.1)

pub picks_own : (ms : LaneImage) (hosts : List ℕ) (host : ℕ) (best own : Choice) (h f i g : ℕ) (id other : StoreId) → best ≡ One h f id → own ≡ One i g other → Precedes other.version i g id.version h f
    → IsChosen ms hosts best → IsChosen ms (host ∷ []) own → IsChosen ms (hosts ++ host ∷ []) own
picks_own ms hosts host best own h f i g id other one two before is also =
    subst (IsChosen ms (hosts ++ host ∷ [])) (sym two) (own_chosen ms hosts host h f i g id other before (subst (IsChosen ms hosts) one is) (subst (IsChosen ms (host ∷ [])) two also))

pub picks_best : (ms : LaneImage) (hosts : List ℕ) (host : ℕ) (best own : Choice) (h f i g : ℕ) (id other : StoreId) → best ≡ One h f id → own ≡ One i g other → Precedes id.version h f other.version i g
    → IsChosen ms hosts best → IsChosen ms (host ∷ []) own → IsChosen ms (hosts ++ host ∷ []) best
picks_best ms hosts host best own h f i g id other one two before is also =
    subst (IsChosen ms (hosts ++ host ∷ [])) (sym one) (best_chosen ms hosts host h f i g id other before (subst (IsChosen ms hosts) one is) (subst (IsChosen ms (host ∷ [])) two also))

pub picks_only : (ms : LaneImage) (hosts : List ℕ) (host : ℕ) (best own : Choice) (h f : ℕ) (id : StoreId) → best ≡ One h f id → own ≡ NoStore
    → IsChosen ms hosts best → IsChosen ms (host ∷ []) own → IsChosen ms (hosts ++ host ∷ []) best
picks_only ms hosts host best own h f id one two is also =
    subst (IsChosen ms (hosts ++ host ∷ [])) (sym one) (best_alone ms hosts host h f id (subst (IsChosen ms hosts) one is) (subst (IsChosen ms (host ∷ [])) two also))

-- ---- one host's disk in the lane

-- the newest of the host's own files is the newest of a list of this host
own_newest : (ms : LaneImage) (host f : ℕ) → IsNewest (ms host) f → IsNewestAmong ms (host ∷ []) host f
own_newest ms host f newest = record {
  listed = Contains-push [] host;
  one_of_two = newest.one_of_two;
  sealed = newest.sealed;
  greatest = λ k j there within sealed.
      let is : host ≡ k = only_host host k there in
      subst (λ (h : ℕ). CountsBefore ms host f h j) is (⊎_elim
      (λ same. inr (ap (λ (file : ℕ). version_in (ms host file)) same, inr (refl, omega (arith, same))))
      (λ ne. ⊎_elim
      (λ less. inl less)
      (λ equal. inr (equal.0, inr (refl, omega (arith, equal.1))))
      (newest.greatest j within ne (subst (λ (h : ℕ). IsSealed (ms h j)) (sym is) sealed)))
      (cases_eq j f));
}

own_choice : (ms : LaneImage) (host : ℕ) (own : Choice) → IsHostChoice (ms host) host own → IsChosen ms (host ∷ []) own
own_choice ms host NoStore is = λ h file there within. subst (λ (k : ℕ). IsUnsealed (ms k file)) (only_host host h there) (is file within)
own_choice ms host (One h file id) is = subst (λ (k : ℕ). IsNewestAmong ms (host ∷ []) k file × IsIdentified (ms k file) (Some id)) (sym is.0) (own_newest ms host file is.1, is.2)

module _ {D : Type 0} (view : D → View) (disks : List D) (host : ℕ) (before now : D) (was : slice_get disks host ≡ Some before) where
  host_seen : seen_on view disks host ≡ (view before).seen
  host_seen = ap (λ (disk : Option D). option_map_or (λ (d : D). (view d).seen) disk (λ file. [])) was

  host_tells : AllTell view disks (host ∷ []) → Tells (view before)
  host_tells all = all host before (Contains-push [] host) was

  pub host_chosen : (own : Choice) → (Tells (view before) → IsHostChoice (view before).seen host own) → AllTell view disks (host ∷ []) → IsChosen (seen_on view disks) (host ∷ []) own
  host_chosen own told all = own_choice (seen_on view disks) host own (subst (λ (m : Image). IsHostChoice m host own) (sym host_seen) (told (host_tells all)))

  pub host_headed : (Tells (view before) → (file : ℕ) → file ≤ 1 → IsHeaded ((view before).seen file)) → AllTell view disks (host ∷ []) → AreHeaded (seen_on view disks) (host ∷ [])
  host_headed told all = λ h file there within. subst (λ (k : ℕ). IsHeaded (seen_on view disks k file)) (only_host host h there)
      (subst (λ (m : Image). IsHeaded (m file)) (sym host_seen) (told (host_tells all) file within))

  last_disk : slice_get (slice_set disks host now) host ≡ Some now
  last_disk = written_same disks host now (slice_get_within disks host before was)

  pub host_refused : (fault : ChoiceFault) → IsHostFault (view before) (view now) host fault → IsChoiceFault view disks (slice_set disks host now) (host ∷ []) fault
  host_refused (Failed h) is = subst (λ (k : ℕ). Contains (host ∷ []) k × HasFailedOn view k disks (slice_set disks host now)) (sym is.0) (
    Contains-push [] host,
    record { before = before; now = now; was = was; is = last_disk; rose = is.1 },
  )
  host_refused (Damaged h file offset) is = (
    subst (Contains (host ∷ [])) (sym is.0) (Contains-push [] host),
    is.1,
    λ all.
        let found = is.2 (host_tells all) in
        let here : seen_on view disks h ≡ (view before).seen = ap (seen_on view disks) is.0 ∙ host_seen in
        record {
          before = [];
          after = [];
          place = ap (λ (k : ℕ). k ∷ []) (sym is.0);
          one_of_two = is.1;
          headed = λ k f there within. absurd (omega (arith, there.1));
          lower = λ f less. subst (λ (m : Image). IsHeaded (m f)) (sym here) (found.1 f less);
          unheaded = subst (λ (m : Image). IsUnidentifiedAt (m file) offset) (sym here) found.0;
        },
  )
  host_refused NoMemory is = λ all. is (all host before (Contains-push [] host) was)

  pub host_read : OnlyReads (view before) (view now) → OnlyReadsLane view disks (slice_set disks host now)
  host_read reads = record {
    as_many = length-set disks host now;
    each = λ h first last is_first is_last. ⊎_elim
        (λ same.
        let one : before ≡ first = some_same before first (slice_get disks host) was (ap (slice_get disks) (sym same) ∙ is_first) in
        let two : now ≡ last = some_same now last (slice_get (slice_set disks host now) host) last_disk (ap (slice_get (slice_set disks host now)) (sym same) ∙ is_last) in
        subst (λ (d : D). OnlyReads (view d) (view last)) one (subst (λ (d : D). OnlyReads (view before) (view d)) two reads))
        (λ ne. subst (λ (d : D). OnlyReads (view first) (view d)) (some_same first last (slice_get disks h) is_first (sym (written_other disks host h now ne) ∙ is_last)) (reads_nothing (view first)))
        (cases_eq h host);
  }

-- ---- several hosts' disks

-- the same files read, the same choice
alike_choice : (ms ns : LaneImage) (hosts : List ℕ) (own : Choice) → ((h f : ℕ) → Contains hosts h → ms h f ≡ ns h f) → IsChosen ms hosts own → IsChosen ns hosts own
alike_choice ms ns hosts NoStore alike is = λ h f there within. subst IsUnsealed (alike h f there) (is h f there within)
alike_choice ms ns hosts (One h f id) alike is = (
  record {
    listed = is.0.listed;
    one_of_two = is.0.one_of_two;
    sealed = subst IsSealed (alike h f is.0.listed) is.0.sealed;
    greatest = λ k j there within sealed.
        subst (λ (bytes : List ℕ). Precedes (version_in bytes) h f (version_in (ns k j)) k j) (alike h f is.0.listed)
        (subst (λ (bytes : List ℕ). Precedes (version_in (ms h f)) h f (version_in bytes) k j) (alike k j there)
        (is.0.greatest k j there within (subst IsSealed (sym (alike k j there)) sealed)));
  },
  subst (λ (bytes : List ℕ). IsIdentified bytes (Some id)) (alike h f is.0.listed) is.1,
)

alike_headed : (ms ns : LaneImage) (hosts : List ℕ) → ((h f : ℕ) → Contains hosts h → ms h f ≡ ns h f) → AreHeaded ms hosts → AreHeaded ns hosts
alike_headed ms ns hosts alike are = λ h f there within. subst IsHeaded (alike h f there) (are h f there within)

-- what the hosts so far show: their choice, and that each of their sealed files has a header
pub record SoFar {D : Type 0} (view : D → View) (old now : List D) (hosts : List ℕ) (best : Choice) : Type 0 where
  pub reads : OnlyReadsLane view old now
  pub chosen : AllTell view old hosts → IsChosen (seen_on view old) hosts best
  pub headed : AllTell view old hosts → AreHeaded (seen_on view old) hosts
  pub one_of : IsOneOf hosts best

module _ {D : Type 0} (view : D → View) (old mid : List D) (reads : OnlyReadsLane view old mid) where
  -- a host's disk before the reads and after them
  both_disks : (host : ℕ) → host < length old → (before : D) × (now : D) × (slice_get old host ≡ Some before) × (slice_get mid host ≡ Some now) × OnlyReads (view before) (view now)
  both_disks host less =
      let first = disk_there old host less in
      let second = disk_there mid host (omega (arith, less, reads.as_many)) in
      (first.0, second.0, first.1, second.1, reads.each host first.0 second.0 first.1 second.1)

  seen_still : (host : ℕ) → host < length old → (f : ℕ) → seen_on view mid host f ≡ seen_on view old host f
  seen_still host less f =
      let at = both_disks host less in
      ap (λ (m : Image). m f) (host_seen view mid host at.1 at.1 at.3) ∙ at.4.same.seen f ∙ ap (λ (m : Image). m f) (sym (host_seen view old host at.0 at.0 at.2))

  tells_still : (host : ℕ) → host < length old → AllTell view old (host ∷ []) → AllTell view mid (host ∷ [])
  tells_still host less all = λ h disk there is.
      let at = both_disks host less in
      let same : at.1 ≡ disk = some_same at.1 disk (slice_get mid host) at.3 (ap (slice_get mid) (only_host host h there) ∙ is) in
      subst (λ (d : D). Tells (view d)) same (at.4.onward.tells (all host at.0 (Contains-push [] host) at.2))

  spares_still : (host : ℕ) → host < length old → AllSpare view old (host ∷ []) → AllSpare view mid (host ∷ [])
  spares_still host less all = λ h disk there is.
      let at = both_disks host less in
      let same : at.1 ≡ disk = some_same at.1 disk (slice_get mid host) at.3 (ap (slice_get mid) (only_host host h there) ∙ is) in
      subst (λ (d : D). (view d).spares) same (at.4.onward.spares (all host at.0 (Contains-push [] host) at.2))

  alike_still : (host : ℕ) → host < length old → (h f : ℕ) → Contains (host ∷ []) h → seen_on view mid h f ≡ seen_on view old h f
  alike_still host less h f there = subst (λ (k : ℕ). seen_on view mid k f ≡ seen_on view old k f) (only_host host h there) (seen_still host less f)

  pub reads_joined : (new : List D) → OnlyReadsLane view mid new → OnlyReadsLane view old new
  reads_joined new then = record {
    as_many = then.as_many ∙ reads.as_many;
    each = λ h first last is_first is_last.
        let at = disk_there mid h (omega (arith, slice_get_within old h first is_first, reads.as_many)) in
        reads_both (view first) (view at.0) (view last) (reads.each h first at.0 is_first at.1) (then.each h at.0 last at.1 is_last);
  }

  pub failed_since : (host : ℕ) (new : List D) → HasFailedOn view host mid new → HasFailedOn view host old new
  failed_since host new failed =
      let at = disk_there old host (omega (arith, slice_get_within mid host failed.before failed.was, reads.as_many)) in
      let on = reads.each host at.0 failed.before at.1 failed.was in
      record {
        before = at.0;
        now = failed.now;
        was = at.1;
        is = failed.is;
        rose = λ below. let rose = failed.rose below in omega (arith, on.onward.faults, rose);
      }

  -- one host more
  pub one_host_more : (new : List D) (hosts : List ℕ) (host : ℕ) (best own result : Choice) → host < length old → SoFar view old mid hosts best → OnlyReadsLane view mid new
      → (AllTell view mid (host ∷ []) → IsChosen (seen_on view mid) (host ∷ []) own) → (AllTell view mid (host ∷ []) → AreHeaded (seen_on view mid) (host ∷ [])) → IsOneOf (host ∷ []) own
      → (IsOneOf hosts best → IsOneOf (host ∷ []) own → IsOneOf (hosts ++ host ∷ []) result)
      → ((ms : LaneImage) → IsChosen ms hosts best → IsChosen ms (host ∷ []) own → IsChosen ms (hosts ++ host ∷ []) result) → SoFar view old new (hosts ++ host ∷ []) result
  one_host_more new hosts host best own result less far then chosen headed one_of joined choice = record {
    reads = reads_joined new then;
    chosen = λ all. choice (seen_on view old) (far.chosen (first_tell all)) (alike_choice (seen_on view mid) (seen_on view old) (host ∷ []) own (alike_still host less) (chosen (tells_still host less (last_tells all))));
    headed = λ all h f there within. ⊎_elim
        (λ earlier. far.headed (first_tell all) h f earlier within)
        (λ is. alike_headed (seen_on view mid) (seen_on view old) (host ∷ []) (alike_still host less) (headed (tells_still host less (last_tells all))) h f (subst (Contains (host ∷ [])) is (Contains-push [] host)) within)
        (Contains-push_cases hosts host h there);
    one_of = joined far.one_of one_of;
  } where
    first_tell : AllTell view old (hosts ++ host ∷ []) → AllTell view old hosts
    first_tell all = λ h disk there is. all h disk (Contains-append_left hosts (host ∷ []) h there) is

    last_tells : AllTell view old (hosts ++ host ∷ []) → AllTell view old (host ∷ [])
    last_tells all = λ h disk there is. all h disk (Contains-append_right hosts (host ∷ []) h there) is

  -- a host's refusal is one of the list that it stands in
  pub refused_in : (new : List D) (before after hosts : List ℕ) (host : ℕ) (best : Choice) (fault : ChoiceFault) → hosts ≡ before ++ host ∷ after → host < length old → SoFar view old mid before best
      → IsChoiceFault view mid new (host ∷ []) fault → IsChoiceFault view old new hosts fault
  refused_in new before after hosts host best (Failed h) place less far is = (
    subst (Contains hosts) (only_host host h is.0) (host_in before after hosts host place),
    failed_since h new is.1,
  )
  refused_in new before after hosts host best (Damaged h f offset) place less far is =
      let same : host ≡ h = only_host host h is.0 in (
        subst (Contains hosts) same (host_in before after hosts host place),
        is.1,
        λ all.
            let found = is.2 (tells_still host less (λ k disk there at. all k disk (subst (Contains hosts) (only_host host k there) (host_in before after hosts host place)) at)) in
            record {
              before = before;
              after = after;
              place = place ∙ ap (λ (k : ℕ). before ++ k ∷ after) same;
              one_of_two = is.1;
              headed = far.headed (λ k disk there at. all k disk (subst (λ (l : List ℕ). Contains l k) (sym place) (Contains-append_left before (host ∷ after) k there)) at);
              lower = λ j low. subst IsHeaded (alike_still host less h j is.0) (found.lower j low);
              unheaded = subst (λ (bytes : List ℕ). IsUnidentifiedAt bytes offset) (alike_still host less h f is.0) found.unheaded;
            },
      )
  refused_in new before after hosts host best NoMemory place less far is = λ all.
      is (spares_still host less (λ k disk there at. all k disk (subst (Contains hosts) (only_host host k there) (host_in before after hosts host place)) at))

-- ---- the loop over the hosts

pub none_so_far : {D : Type 0} (view : D → View) (disks : List D) → SoFar view disks disks [] NoStore
none_so_far view disks = record {
  reads = record { as_many = refl; each = λ h first last one two. subst (λ d. OnlyReads (view first) (view d)) (some_same first last (slice_get disks h) one two) (reads_nothing (view first)) };
  chosen = λ all h f there. absurd (omega (arith, there.1));
  headed = λ all h f there. absurd (omega (arith, there.1));
  one_of = tt;
}

pub refused_at : {D : Type 0} (view : D → View) (old mid new : List D) (hosts : List ℕ) (index d : ℕ) (best : Choice) (fault : ChoiceFault) → SoFar view old mid (take index hosts) best → index < length hosts → get_or hosts index d < length old
    → IsChoiceFault view mid new (get_or hosts index d ∷ []) fault → IsChoiceFault view old new hosts fault
refused_at view old mid new hosts index d best fault far within less is =
    refused_in view old mid far.reads new (take index hosts) (drop (suc index) hosts) hosts (get_or hosts index d) best fault (split_at hosts index d within) less far is

pub one_turn_more : {D : Type 0} (view : D → View) (old mid new : List D) (hosts : List ℕ) (index d : ℕ) (best own result : Choice) → SoFar view old mid (take index hosts) best → index < length hosts → get_or hosts index d < length old → OnlyReadsLane view mid new
    → (AllTell view mid (get_or hosts index d ∷ []) → IsChosen (seen_on view mid) (get_or hosts index d ∷ []) own) → (AllTell view mid (get_or hosts index d ∷ []) → AreHeaded (seen_on view mid) (get_or hosts index d ∷ [])) → IsOneOf (get_or hosts index d ∷ []) own
    → ((all : List ℕ) (host : ℕ) → IsOneOf all best → IsOneOf (host ∷ []) own → IsOneOf (all ++ host ∷ []) result)
    → ((ms : LaneImage) (all : List ℕ) (host : ℕ) → IsChosen ms all best → IsChosen ms (host ∷ []) own → IsChosen ms (all ++ host ∷ []) result) → SoFar view old new (take (index + 1) hosts) result
one_turn_more view old mid new hosts index d best own result far within less reads chosen headed one_of joined choice =
    subst (λ (l : List ℕ). SoFar view old new l result) (sym (take_more hosts index d within))
    (one_host_more view old mid far.reads new (take index hosts) (get_or hosts index d) best own result less far reads chosen headed one_of (joined _ _) (λ ms. choice ms _ _))
