-- What a stop may leave while the older file or both are made free of a store.
use Rattle.std.proofs.Common.{◌≡◌, ◌≢◌, ◌⊎◌, inl, inr, ⊎_elim, ℕ, ◌-◌, ◌<◌, ◌≤◌, Bool, List, take, Option, None, Some, unwrap_or, cond, refl, sym, ◌∙◌, ap, subst, arith, length, get_or, Result, Ok, Err, OnOk}
use Rattle.std.specs.Prelude.{nat_lt}
use Rattle.std.proofs.lemmas.Bool.{cases_eq, cases_lt, lt-ltb, le-ltb}
use Rattle.cache_key.specs.declared.request.Mutation.{Mutation}
use Rattle.cache_model.specs.Change.{Change}
use Rattle.disk_trait.specs.View.{Image, View, Tells}
use Rattle.disk_trait.specs.Calls.{Moved, Same}
use Rattle.disk_trait.specs.Moments.{Now, After, Throughout}
use Rattle.disk_trait.proofs.Runs.{still, followed, same_followed, same_joined, weakened, reached, elsewhere, holds_now}
use Rattle.record_form.specs.HeaderFault.{header_fault}
use Rattle.seal_gate.specs.Seal.{IsSealed, ButFirst, IsSettled, Each}
use Rattle.seal_gate.proofs.SealLemmas.{settled_same, settled_elsewhere}
use Rattle.store_ident.specs.declared.ident.StoreId.{StoreId}
use Rattle.store_journal.specs.Created.{IsUnsealed}
use Rattle.store_journal.specs.Loading.{IsIdentified, IsUnidentifiedAt, OnlyReads}
use Rattle.store_journal.specs.Stands.{version_in}
use Rattle.store_journal.specs.declared.store.Store.{Store}
use Rattle.store_journal.proofs.TextLemmas.{resealed}
use Rattle.newest_store.specs.Newest.{IsHeaded, IsNewest, HasStore}
use Rattle.newest_store.specs.Search.{newer_of, IsNewestLoaded}
use Rattle.newest_store.specs.Clearing.{IsNamedIn, IsNewestHeaded, MayLoseSeal, ErasesOlder, ClearsOlderFirst}
use Rattle.newest_store.proofs.NewestLemmas.{file_cases, identified_is_headed, headed_is_identified, version_of_identified, newest_once, StandsAt, stands_at, has_store, has_store_in, stands_on}
use Rattle.newest_store.proofs.SearchLemmas.{settled_in}

-- ---- Which store is the newest

-- a file that isn't sealed, one whose store is known, and one without a header
pub identified_in : (bytes : List ℕ) (found : Option StoreId) → IsIdentified bytes found → IsNamedIn bytes found
identified_in bytes None not = λ sealed headed. not sealed
identified_in bytes (Some id) has = has

pub damaged_in : (bytes : List ℕ) (at : ℕ) → IsUnidentifiedAt bytes at → IsNamedIn bytes None
damaged_in bytes at is = λ sealed headed. headed_is_identified bytes at headed is

-- the choice between two files by a test
choice : (test : Bool) → ℕ
choice test = unwrap_or (cond test (Some 1) (Some 0)) 0

-- of two stores
one_of_both : (m : Image) (first second : StoreId) → IsIdentified (m 0) (Some first) → IsIdentified (m 1) (Some second) → (file : ℕ) → IsNewestHeaded m file → file ≡ unwrap_or (newer_of (Some first) (Some second)) 0
unfolding choice
one_of_both m first second is also file newest =
    let one : version_in (m 0) ≡ first.version = version_of_identified (m 0) first is in
    let two : version_in (m 1) ≡ second.version = version_of_identified (m 1) second also in
    file_cases (λ k. IsNewestHeaded m k → k ≡ choice (nat_lt first.version second.version)) file newest.one_of_two
    (λ here.
    let least : second.version ≤ first.version = ⊎_elim (λ less. omega (arith, less, one, two)) (λ equal. omega (arith, equal.0, one, two)) (here.greatest 1 (omega arith) (omega arith) also.0 (identified_is_headed (m 1) (Some second) also)) in
    sym (ap choice (le-ltb first.version second.version least)))
    (λ here.
    let less : first.version < second.version = ⊎_elim (λ less. omega (arith, less, one, two)) (λ equal. absurd (omega (arith, equal.1))) (here.greatest 0 (omega arith) (omega arith) is.0 (identified_is_headed (m 0) (Some first) is)) in
    sym (ap choice (lt-ltb first.version second.version less)))
    newest

-- the newest store is the one that was found
pub newest_found : (m : Image) (first second : Option StoreId) → IsNamedIn (m 0) first → IsNamedIn (m 1) second → (file : ℕ) → IsNewestHeaded m file → file ≡ unwrap_or (newer_of first second) 0
newest_found m None None not none file newest = file_cases (λ k. IsNewestHeaded m k → k ≡ 0) file newest.one_of_two (λ is. refl) (λ is. absurd (none is.sealed is.headed)) newest
newest_found m (Some first) None is none file newest = file_cases (λ k. IsNewestHeaded m k → k ≡ 0) file newest.one_of_two (λ here. refl) (λ here. absurd (none here.sealed here.headed)) newest
newest_found m None (Some second) not also file newest = file_cases (λ k. IsNewestHeaded m k → k ≡ 1) file newest.one_of_two (λ here. absurd (not here.sealed here.headed)) (λ here. refl) newest
newest_found m (Some first) (Some second) is also file newest = one_of_both m first second is also file newest

-- ---- What one erasure leaves

-- what a step makes at each moment, unless another reason is found on the way
unless_all : (a c : View) (P Q : Image → Type 0) → Throughout a c Q → ((m : Image) → Q m → P m ⊎ Throughout a c P) → Throughout a c P
unless_all a c P Q all goes = record {
  later = all.later;
  each = λ m left. ⊎_elim (λ has. has) (λ other. other.each m left) (goes m (all.each m left));
  before = λ t m le left. ⊎_elim inl (λ has. ⊎_elim inr (λ other. other.before t m le left) (goes m has)) (all.before t m le left);
}

-- a file is sealed or not
sealed_or_not : (bytes : List ℕ) → IsSealed bytes ⊎ IsUnsealed bytes
sealed_or_not bytes = ⊎_elim
    (λ zero. inr (λ sealed. sealed.first zero))
    (λ first. ⊎_elim
    (λ short. inr (λ sealed. omega (arith, short, sealed.long)))
    (λ long. inl (record { first = first; long = long }))
    (cases_lt (length bytes) 41))
    (cases_eq (get_or bytes 0 0) 0)

-- only a sealed file may lose its seal
pub may_lose_seal : (a b : View) (file : ℕ) → IsSettled a file → Throughout a b (After a (Moved file ButFirst)) → (Tells a → IsUnsealed (a.seen file) → Throughout a b a.images) → Throughout a b (After a (Moved file MayLoseSeal))
may_lose_seal a b file settled moments unsealed =
    let step : Image → Image → Type 0 = Moved file MayLoseSeal in
    unless_all a b (After a step) (After a (Moved file ButFirst)) moments
    (λ m has.
    let o = has.0 in
    let here : a.seen file ≡ o file = sym (settled o has.1) in
    ⊎_elim
    (λ sealed. inl (o, has.1, record { here = inr (subst IsSealed here sealed, has.2.here); others = has.2.others }))
    (λ not. inr (weakened a b a.images (After a step) (unsealed (a.told o has.1) not) (still a file MayLoseSeal (λ bytes. inl refl))))
    (sealed_or_not (a.seen file)))

-- the newest store of an image is that of what a read gives
newest_seen : (seen o : Image) (file : ℕ) → ((f : ℕ) → f ≤ 1 → o f ≡ seen f) → IsNewestHeaded o file → IsNewestHeaded seen file
newest_seen seen o file same newest =
    let here : o file ≡ seen file = same file newest.one_of_two in
    record {
      one_of_two = newest.one_of_two;
      sealed = subst IsSealed here newest.sealed;
      headed = subst IsHeaded here newest.headed;
      greatest = λ f within ne sealed headed.
          let there : o f ≡ seen f = same f within in
          let before = newest.greatest f within ne (subst IsSealed (sym there) sealed) (subst IsHeaded (sym there) headed) in
          ⊎_elim
          (λ less. inl (omega (arith, less, ap version_in here, ap version_in there)))
          (λ equal. inr (omega (arith, equal.0, ap version_in here, ap version_in there), equal.1))
          before;
    }

-- nothing was erased
none_cleared : (m : Image) → ClearsOlderFirst m m
none_cleared m = record { files = λ f within. inl refl; others = λ f more. refl; older_first = λ f newest. inl refl }

none_of_older : (m : Image) → ErasesOlder m m
none_of_older m = record { files = λ f within. inl refl; others = λ f more. refl; newest = λ f is. refl }

-- a step that may be none, while the files are only read
unmoved : (a b : View) (step : Image → Image → Type 0) → ((m : Image) → step m m) → OnlyReads a b → Throughout a b (After a step)
unmoved a b step none reads = weakened a b a.images (After a step) reads.moments (λ m is. (m, is, none m))

pub while_read : (a b : View) → OnlyReads a b → Throughout a b (After a ClearsOlderFirst)
while_read a b reads = unmoved a b ClearsOlderFirst none_cleared reads

pub while_loaded : (a b : View) → OnlyReads a b → Throughout a b (After a ErasesOlder)
while_loaded a b reads = unmoved a b ErasesOlder none_of_older reads

-- and what later calls do then, as a step from the start
reads_then : (a b c : View) (step all : Image → Image → Type 0) → ((m : Image) → all m m) → OnlyReads a b → Throughout b c (After b step) → ((o m : Image) → b.images o → step o m → all o m) → Throughout a c (After a all)
reads_then a b c step all none reads moments goes =
    same_followed a b c all (λ m is. (m, is, none m)) reads.moments
    (weakened b c (After b step) (After b all) moments (λ m has. (has.0, has.1, goes has.0 m has.1 has.2)))

-- one of two files is this one or the other
either_file : (P : ℕ → Type 0) (file f : ℕ) → file ≤ 1 → f ≤ 1 → P file → P (1 - file) → P f
either_file P file f within f_in one two = ⊎_elim
    (λ same. subst P (sym same) one)
    (λ ne. let other : 1 - file ≡ f = omega (arith, within, f_in, ne) in subst P other two)
    (cases_eq f file)

-- ---- What the erasure of the older file leaves

-- each image of the two files has the newest where a read does
newest_in : (a : View) (o : Image) (file : ℕ) → IsSettled a 0 → IsSettled a 1 → a.images o → IsNewest a.seen file → IsNewest o file
newest_in a o file first second is newest =
    let same : (f : ℕ) → f ≤ 1 → a.seen f ≡ o f = λ f within. sym (settled_in a f within first second o is) in
    let here : a.seen file ≡ o file = same file newest.one_of_two in
    record {
      one_of_two = newest.one_of_two;
      sealed = subst IsSealed here newest.sealed;
      greatest = λ f within ne sealed.
          let there : a.seen f ≡ o f = same f within in
          let before = newest.greatest f within ne (subst IsSealed (sym there) sealed) in
          ⊎_elim
          (λ less. inl (omega (arith, less, ap version_in here, ap version_in there)))
          (λ equal. inr (omega (arith, equal.0, ap version_in here, ap version_in there), equal.1))
          before;
    }

-- the newest file is as it was
older_erased : (o m : Image) (file : ℕ) → IsNewest o file → Moved (1 - file) MayLoseSeal o m → ErasesOlder o m
older_erased o m file newest moved =
    let kept : m file ≡ o file = moved.others file (omega (arith, newest.one_of_two)) in
    record {
      files = λ f within. either_file (λ k. MayLoseSeal (o k) (m k)) file f newest.one_of_two within (inl kept) moved.here;
      others = λ f more. moved.others f (omega (arith, more));
      newest = λ f is. subst (λ (k : ℕ). m k ≡ o k) (newest_once o file f newest is) kept;
    }

-- while the file that isn't the newest is erased
pub while_older : (a b c : View) (partition partitions : ℕ) (store : Store) (mutations : List Mutation) → IsSettled a 0 → IsSettled a 1 → OnlyReads a b → IsNewestLoaded a b partition partitions store mutations
    → Throughout b c (After b (Moved (1 - store.file) ButFirst)) → (Tells b → IsUnsealed (b.seen (1 - store.file)) → Throughout b c b.images) → Throughout a c (After a ErasesOlder)
while_older a b c partition partitions store mutations first second reads is moments unsealed =
    let other : ℕ = 1 - store.file in
    let settled : IsSettled b other = settled_same a b other (settled_in a other (omega arith) first second) reads.moments (reads.same.seen other) in
    reads_then a b c (Moved other MayLoseSeal) ErasesOlder none_of_older reads (may_lose_seal b c other settled moments unsealed)
    (λ o m before moved.
    let image : a.images o = reads.same.fewer o before in
    older_erased o m store.file (newest_in a o store.file first second image (is.newest (a.told o image))) moved)

-- ---- What both erasures leave

module _ (a b : View) (last : ℕ) (within : last ≤ 1) (first : IsSettled a 0) (second : IsSettled a 1) (reads : OnlyReads a b) (newest : Tells a → (other : ℕ) → IsNewestHeaded a.seen other → other ≡ last) where
  is_last : (o : Image) → b.images o → (file : ℕ) → IsNewestHeaded o file → file ≡ last
  is_last o is file here =
      let image : a.images o = reads.same.fewer o is in
      newest (a.told o image) file (newest_seen a.seen o file (λ f f_in. settled_in a f f_in first second o image) here)

  -- the other file alone may have lost its seal
  one_step : (o m : Image) → b.images o → Moved (1 - last) MayLoseSeal o m → ClearsOlderFirst o m
  one_step o m is moved = record {
    files = λ f f_in. either_file (λ k. MayLoseSeal (o k) (m k)) last f within f_in (inl (moved.others last (omega (arith, within)))) moved.here;
    others = λ f more. moved.others f (omega (arith, within, more));
    older_first = λ f here. inl (moved.others f (let same = is_last o is f here in omega (arith, within, same)));
  }

  -- and then, where that isn't sealed, the last one
  both_steps : (o m n : Image) → b.images o → IsUnsealed (m (1 - last)) → Moved (1 - last) MayLoseSeal o m → Moved last MayLoseSeal m n → ClearsOlderFirst o n
  both_steps o m n is unsealed one two =
      let other : n (1 - last) ≡ m (1 - last) = two.others (1 - last) (omega (arith, within)) in
      let kept : m last ≡ o last = one.others last (omega (arith, within)) in
      record {
        files = λ f f_in. either_file (λ k. MayLoseSeal (o k) (n k)) last f within f_in
            (subst (λ (l : List ℕ). MayLoseSeal l (n last)) kept two.here)
            (subst (λ (l : List ℕ). MayLoseSeal (o (1 - last)) l) (sym other) one.here);
        others = λ f more. two.others f (omega (arith, within, more)) ∙ one.others f (omega (arith, within, more));
        older_first = λ f here. inr
            (let same = is_last o is f here in
            subst (λ (k : ℕ). IsUnsealed (n (1 - k))) (sym same) (subst IsUnsealed (sym other) unsealed));
      }

  other_than : 1 - last ≢ last
  other_than same = omega (arith, within, same)

  settled_after : (f : ℕ) → f ≤ 1 → IsSettled b f
  settled_after f f_in = settled_same a b f (settled_in a f f_in first second) reads.moments (reads.same.seen f)

  module _ (c : View) (moments : Throughout b c (After b (Moved (1 - last) ButFirst))) (unsealed : Tells b → IsUnsealed (b.seen (1 - last)) → Throughout b c b.images) where
    steps : Throughout b c (After b (Moved (1 - last) MayLoseSeal))
    steps = may_lose_seal b c (1 - last) (settled_after (1 - last) (omega arith)) moments unsealed

    -- while the other file is erased
    pub while_one : Throughout a c (After a ClearsOlderFirst)
    while_one = reads_then a b c (Moved (1 - last) MayLoseSeal) ClearsOlderFirst none_cleared reads steps one_step

    module _ (d : View) (cleared : Each c (1 - last) IsUnsealed) (others : (f : ℕ) → f ≢ 1 - last → c.seen f ≡ b.seen f) (later : Throughout c d (After c (Moved last ButFirst))) where
      last_settled : IsSettled c last
      last_settled = settled_elsewhere b c (1 - last) last ButFirst (λ same. other_than (sym same)) (settled_after last within) moments (others last (λ same. other_than (sym same)))

      -- while the last one is
      pub while_both : (Tells c → IsUnsealed (c.seen last) → Throughout c d c.images) → Throughout a d (After a ClearsOlderFirst)
      while_both quiet =
          reads_then a b d ClearsOlderFirst ClearsOlderFirst none_cleared reads
          (followed b c d (Moved (1 - last) MayLoseSeal) (Moved last MayLoseSeal) ClearsOlderFirst steps (may_lose_seal c d last last_settled later quiet)
          (λ o m is one. one_step o m is one)
          (λ o m n is mid one two. both_steps o m n is (cleared m mid) one two))
          (λ o m is clears. clears)

      -- and after it
      pub both_cleared : Each d last IsUnsealed → (f : ℕ) → f ≤ 1 → Each d f IsUnsealed
      both_cleared done f f_in = either_file (λ k. Each d k IsUnsealed) last f within f_in done
          (holds_now c d (λ m. IsUnsealed (m (1 - last))) (elsewhere c d last (1 - last) IsUnsealed ButFirst other_than cleared later))

      pub both_settled : IsSettled c (1 - last) → ((f : ℕ) → f ≢ last → d.seen f ≡ c.seen f) → IsSettled d last → (f : ℕ) → f ≤ 1 → IsSettled d f
      both_settled settled seen done f f_in = either_file (IsSettled d) last f within f_in done (settled_elsewhere c d last (1 - last) ButFirst other_than settled later (seen (1 - last) other_than))

-- ---- What the files stand for then

-- the newest file is the newest store where each that is sealed has a header
newest_store : (partition partitions file : ℕ) (id : StoreId) (changes : List Change) (m : Image) → HasStore partition partitions file id changes m → IsNewestHeaded m file
newest_store partition partitions file id changes m has = record {
  one_of_two = has.newest.one_of_two;
  sealed = has.newest.sealed;
  headed = has.headed file has.newest.one_of_two;
  greatest = λ f within ne sealed headed. has.newest.greatest f within ne sealed;
}

module _ (partition partitions file : ℕ) (id : StoreId) (changes : List Change) (o m : Image) (has : HasStore partition partitions file id changes o) where
  -- the newest file is as it was
  other_erased : ((f : ℕ) → f ≤ 1 → MayLoseSeal (o f) (m f)) → ((f : ℕ) → 2 ≤ f → m f ≡ o f) → m file ≡ o file → HasStore partition partitions file id changes m
  other_erased files others same =
      let within = has.newest.one_of_two in
      ⊎_elim
      (λ here. has_store_in partition partitions file id changes o m
      (either_file (λ k. m k ≡ o k) file 0 within (omega arith) same here)
      (either_file (λ k. m k ≡ o k) file 1 within (omega arith) same here) has)
      (λ lost. stands_on partition partitions file id changes o m (1 - file) (omega arith) (omega (arith, within)) lost.0 has
      (record {
        here = lost.1;
        others = λ f ne. ⊎_elim
            (λ less. let f_is : file ≡ f = omega (arith, within, less, ne) in subst (λ (k : ℕ). m k ≡ o k) f_is same)
            (λ more. others f more)
            (cases_lt f 2);
      }))
      (files (1 - file) (omega arith))

module _ (partition partitions file : ℕ) (id : StoreId) (changes : List Change) (o m : Image) (has : HasStore partition partitions file id changes o) (clears : ClearsOlderFirst o m) where
  at : StandsAt partition partitions id changes o file
  at = stands_at partition partitions file id changes o has

  -- the newest file is as it was
  kept : m file ≡ o file → HasStore partition partitions file id changes m
  kept same = other_erased partition partitions file id changes o m has clears.files clears.others same

  -- the other file isn't sealed, and the newest is
  newest_left : IsUnsealed (m (1 - file)) → IsSealed (m file) → ButFirst (o file) (m file) → HasStore partition partitions file id changes m
  newest_left other sealed but =
      has_store partition partitions id changes m file
      (record {
        one_of_two = at.one_of_two;
        older = λ f f_in ne still. let same : 1 - file ≡ f = omega (arith, at.one_of_two, f_in, ne) in absurd (subst (λ (k : ℕ). IsUnsealed (m k)) same other still);
        header = at.header;
        mutations = at.mutations;
        store = record { groups = at.store.groups; joined = at.store.joined; text = resealed at.header at.store.groups (o file) (m file) at.store.text but sealed };
        of_partition = at.of_partition;
        of_partitions = at.of_partitions;
        named = at.named;
        exact = at.exact;
      })
      (λ f f_in. either_file (λ k. IsHeaded (m k)) file f at.one_of_two f_in
      (λ still. ap (λ (l : List ℕ). header_fault (take 40 l)) but.rest ∙ has.headed file at.one_of_two at.store.text.sealed)
      (λ still. absurd (other still)))

  -- a stop leaves the newest store, or none
  pub left_or_none : HasStore partition partitions file id changes m ⊎ ((f : ℕ) → f ≤ 1 → IsUnsealed (m f))
  left_or_none = ⊎_elim
      (λ same. inl (kept same))
      (λ other. ⊎_elim
      (λ sealed. inl (⊎_elim (λ same. kept same) (λ lost. newest_left other sealed lost.1) (clears.files file at.one_of_two)))
      (λ not. inr (λ f f_in. either_file (λ k. IsUnsealed (m k)) file f at.one_of_two f_in not other))
      (sealed_or_not (m file)))
      (clears.older_first file (newest_store partition partitions file id changes o has))

-- so it is at every moment
pub clearing_survives : (a b : View) (partition partitions file : ℕ) (id : StoreId) (changes : List Change) → Throughout a b (After a ClearsOlderFirst) → Now a (HasStore partition partitions file id changes)
    → Throughout a b (λ m. HasStore partition partitions file id changes m ⊎ ((f : ℕ) → f ≤ 1 → IsUnsealed (m f)))
clearing_survives a b partition partitions file id changes moments now =
    weakened a b (After a ClearsOlderFirst) _ moments (λ m has. left_or_none partition partitions file id changes has.0 m (now has.0 has.1) has.2)

-- while the older file alone may be erased, the newest store is left
pub erasing_survives : (a b : View) (partition partitions file : ℕ) (id : StoreId) (changes : List Change) → Throughout a b (After a ErasesOlder) → Now a (HasStore partition partitions file id changes)
    → Throughout a b (HasStore partition partitions file id changes)
erasing_survives a b partition partitions file id changes moments now =
    reached a b (HasStore partition partitions file id changes) (HasStore partition partitions file id changes) ErasesOlder now moments
    (λ o m has erases. other_erased partition partitions file id changes o m has erases.files erases.others (erases.newest file has.newest))

-- and a file that isn't sealed stays so
pub erasing_unsealed : (a b : View) (file : ℕ) → Throughout a b (After a ErasesOlder) → file ≤ 1 → Now a (λ m. IsUnsealed (m file)) → Throughout a b (λ m. IsUnsealed (m file))
erasing_unsealed a b file moments within now =
    reached a b (λ m. IsUnsealed (m file)) (λ m. IsUnsealed (m file)) ErasesOlder now moments
    (λ o m not erases. ⊎_elim (λ same. subst IsUnsealed (sym same) not) (λ lost. absurd (not lost.0)) (erases.files file within))

-- the file that was found among both
pub newest_file : (a b : View) (first second : Option StoreId) (file : Option ℕ) (n : ℕ) → OnlyReads a b → (Tells a → IsNamedIn (a.seen 0) first) → (Tells b → IsNamedIn (b.seen 1) second) → file ≡ newer_of first second → n ≡ unwrap_or file 0
    → Tells a → (other : ℕ) → IsNewestHeaded a.seen other → other ≡ n
newest_file a b first second file n reads one two chosen is tells other newest =
    newest_found a.seen first second (one tells) (subst (λ (l : List ℕ). IsNamedIn l second) (reads.same.seen 1) (two (reads.onward.tells tells))) other newest
    ∙ sym (is ∙ ap (λ (f : Option ℕ). unwrap_or f 0) chosen)

-- what follows of what holds after Ok
pub on_ok : {T E : Type 0} (r : Result T E) (P Q : Type 0) → OnOk r P → (P → Q) → OnOk r Q
on_ok (Ok value) P Q has goes = goes has
on_ok (Err fault) P Q has goes = tt

-- where no file is sealed, nothing is erased
pub none_erased : (a b c d : View) (last : ℕ) → last ≤ 1 → OnlyReads a b → (Tells b → IsUnsealed (b.seen (1 - last)) → Same b c) → (Tells b → Tells c) → (Tells c → IsUnsealed (c.seen last) → Same c d)
    → Tells a → ((file : ℕ) → file ≤ 1 → IsUnsealed (a.seen file)) → Same a d
none_erased a b c d last within reads one goes two tells unsealed =
    let told = reads.onward.tells tells in
    let first : Same b c = one told (subst IsUnsealed (sym (reads.same.seen (1 - last))) (unsealed (1 - last) (omega arith))) in
    let second : Same c d = two (goes told) (subst IsUnsealed (sym (first.seen last ∙ reads.same.seen last)) (unsealed last within)) in
    same_joined a b d reads.same (same_joined b c d first second)

pub none_erased_yet : (a b c : View) (last : ℕ) → OnlyReads a b → (Tells b → IsUnsealed (b.seen (1 - last)) → Same b c) → Tells a → ((file : ℕ) → file ≤ 1 → IsUnsealed (a.seen file)) → Same a c
none_erased_yet a b c last reads one tells unsealed =
    same_joined a b c reads.same (one (reads.onward.tells tells) (subst IsUnsealed (sym (reads.same.seen (1 - last))) (unsealed (1 - last) (omega arith))))
