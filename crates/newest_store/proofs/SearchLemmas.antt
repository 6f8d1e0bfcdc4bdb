-- What was found of the two files, over what the disk tells.
use Rattle.std.proofs.Common.{◌≡◌, ◌≢◌, ◌⊎◌, inl, inr, ℕ, ◌-◌, ◌≤◌, List, Bool, true, false, Option, Result, Ok, Err, IfOk, IsErrOf, refl, sym, ap, subst, arith}
use Rattle.std.proofs.lemmas.Bool.{false≢true}
use Rattle.cache_key.specs.declared.request.Mutation.{Mutation}
use Rattle.cache_model.specs.Change.{Change}
use Rattle.disk_trait.specs.View.{View, Tells}
use Rattle.disk_trait.specs.Calls.{Moved, Rose}
use Rattle.disk_trait.specs.Moments.{Now, After, Throughout}
use Rattle.disk_trait.specs.declared.DiskRefusal.{DiskRefusal}
use Rattle.disk_trait.specs.declared.DiskRefusal.TheVariants as refusals
use Rattle.disk_trait.proofs.Runs.{elsewhere, holds_now}
use Rattle.record_form.specs.declared.header.Header.{Header}
use Rattle.seal_gate.specs.Seal.{IsSealed, ButFirst, IsSettled, Each}
use Rattle.store_ident.specs.declared.ident.StoreId.{StoreId}
use Rattle.store_journal.specs.AtRest.{IsKeptIn}
use Rattle.store_journal.specs.Created.{IsUnsealed}
use Rattle.store_journal.specs.Fault.{IsDamagedAt}
use Rattle.store_journal.specs.Loading.{IsIdentified, OnlyReads}
use Rattle.store_journal.specs.declared.fault.LoadFault.{LoadFault}
use Rattle.store_journal.specs.declared.fault.LoadFault.TheVariants as faults
use Rattle.store_journal.specs.declared.store.Store.{Store}
use Rattle.newest_store.specs.Newest.{IsHeaded, HasStore, IsNewest, IsNewestStore, IsOpened}
use Rattle.newest_store.specs.Search.{fault_in, disk_fault, IsSearchFault, IsOpeningFault, IsNewestLoaded}
use Rattle.newest_store.specs.declared.fault.NewestFault.{NewestFault}
use Rattle.newest_store.specs.declared.fault.NewestFault.TheVariants.{NoStore, Damaged, Failed, NoMemory}
use Rattle.newest_store.proofs.NewestLemmas.{file_cases, identified_is_headed, undamaged}

-- each that is sealed has a header
pub both_headed : (a b : View) (first second : Option StoreId) → OnlyReads a b → (Tells a → IsIdentified (a.seen 0) first) → (Tells b → IsIdentified (b.seen 1) second) → Tells a → (f : ℕ) → f ≤ 1 → IsHeaded (a.seen f)
both_headed a b first second reads one two tells f within = file_cases (λ k. IsHeaded (a.seen k)) f within
    (identified_is_headed (a.seen 0) first (one tells))
    (subst IsHeaded (reads.same.seen 1) (identified_is_headed (b.seen 1) second (two (reads.onward.tells tells))))

-- no file is the newest
pub search_fails : (a b : View) (partition partitions : ℕ) (fault : NewestFault) → IsSearchFault a b fault → IsOpeningFault a b partition partitions fault
search_fails a b partition partitions NoStore is = is
search_fails a b partition partitions (Damaged file offset) is = λ tells. let found = is.1 tells in record { one_of_two = is.0; first = inl (found.0, found.1) }
search_fails a b partition partitions Failed is = is
search_fails a b partition partitions NoMemory is = tt

-- a refusal of the disk says nothing of what the files hold
pub disk_fault-cases : (refusal : DiskRefusal) → (disk_fault refusal ≡ Failed) ⊎ (disk_fault refusal ≡ NoMemory)
disk_fault-cases refusals.Failed = inl refl
disk_fault-cases refusals.NoMemory = inr refl

-- whether a fault is damage
abbrev is_damage : NewestFault → Bool
is_damage NoStore = false
is_damage (Damaged file at) = true
is_damage Failed = false
is_damage NoMemory = false

pub disk_fault-undamaged : (refusal : DiskRefusal) (file at : ℕ) → disk_fault refusal ≡ Damaged file at → ⊥
disk_fault-undamaged refusals.Failed file at is = false≢true (ap is_damage is)
disk_fault-undamaged refusals.NoMemory file at is = false≢true (ap is_damage is)

-- the newest file can't be loaded
pub load_fails : (X : Type 0) (r : Result X LoadFault) (a b c : View) (partition partitions file : ℕ) (fault : LoadFault) → r ≡ Err fault → OnlyReads a b
    → file ≤ 1 → (Tells a → IsNewest a.seen file) → (Tells a → (f : ℕ) → f ≤ 1 → IsHeaded (a.seen f))
    → (IsErrOf r faults.Failed → Rose b.faults c.faults) → (IsErrOf r faults.NotSealed → Tells b → IsUnsealed (b.seen file))
    → ((at : ℕ) → IsErrOf r (faults.Damaged at) → Tells b → IsDamagedAt (b.seen file) partition partitions at) → IsOpeningFault a c partition partitions (fault_in file fault)
load_fails X r a b c partition partitions file faults.NotSealed was reads within newest headed failed unsealed damaged =
    λ tells. absurd (unsealed was (reads.onward.tells tells) (subst IsSealed (sym (reads.same.seen file)) (newest tells).sealed))
load_fails X r a b c partition partitions file (faults.Damaged at) was reads within newest headed failed unsealed damaged = λ tells. record {
  one_of_two = within;
  first = inr (headed tells, newest tells, subst (λ (l : List ℕ). IsDamagedAt l partition partitions at) (reads.same.seen file) (damaged at was (reads.onward.tells tells)));
}
load_fails X r a b c partition partitions file faults.Failed was reads within newest headed failed unsealed damaged = λ below. let rose = failed was below in omega (arith, reads.onward.faults, rose)
load_fails X r a b c partition partitions file faults.NoMemory was reads within newest headed failed unsealed damaged = tt

-- files that have a store are found
pub whole_is_found : (a b : View) (partition partitions file : ℕ) (id : StoreId) (changes : List Change) (fault : NewestFault) → IsOpeningFault a b partition partitions fault → Now a (HasStore partition partitions file id changes) → Tells a
    → (fault ≡ Failed) ⊎ (fault ≡ NoMemory)
whole_is_found a b partition partitions file id changes NoStore is now tells =
    let newest = (now a.seen tells).newest in
    absurd (is tells file newest.one_of_two newest.sealed)
whole_is_found a b partition partitions file id changes (Damaged f offset) is now tells = absurd (undamaged partition partitions file id changes a.seen f offset (now a.seen tells) (is tells))
whole_is_found a b partition partitions file id changes Failed is now tells = inl refl
whole_is_found a b partition partitions file id changes NoMemory is now tells = inr refl

-- what was loaded is the newest store
pub newest_loaded : (a b : View) (partition partitions : ℕ) (store : Store) (mutations : List Mutation) → IsNewestLoaded a b partition partitions store mutations → Tells a
    → IsNewestStore partition partitions store mutations a.seen
newest_loaded a b partition partitions store mutations is tells = record {
  newest = is.newest tells;
  groups = is.loaded.groups;
  joined = is.loaded.joined;
  kept = is.loaded.seen tells;
  of_partition = is.of_partition;
  headed = is.headed tells;
}

-- each image of either file is what a read gives
pub settled_in : (a : View) (file : ℕ) → file ≤ 1 → IsSettled a 0 → IsSettled a 1 → IsSettled a file
settled_in a file within first second = file_cases (IsSettled a) file within first second

other_file : (file : ℕ) → file ≤ 1 → (1 - file ≤ 1) × (1 - file ≢ file)
other_file file within = (omega arith, omega (arith, within))

-- the store rests, and the other file is free of one
pub one_is_left : (a b c : View) (partition partitions : ℕ) (store : Store) (mutations : List Mutation) → IsSettled a 0 → IsSettled a 1 → IsNewestLoaded a b partition partitions store mutations
    → Throughout b c (After b (Moved (1 - store.file) ButFirst)) → Each c (1 - store.file) IsUnsealed → IsOpened c partition partitions store mutations
one_is_left a b c partition partitions store mutations first second is moments cleared =
    let header : Header = record { id = store.id; partitions = partitions } in
    let two = other_file store.file is.one_of_two in
    let kept = is.loaded.at_rest (settled_in a store.file is.one_of_two first second) in
    record {
      groups = is.loaded.groups;
      joined = is.loaded.joined;
      at_rest = holds_now b c (λ m. IsKeptIn store header is.loaded.groups (m store.file))
          (elsewhere b c (1 - store.file) store.file (IsKeptIn store header is.loaded.groups) ButFirst (λ e. two.1 (sym e)) kept moments);
      of_partition = is.of_partition;
      one_of_two = is.one_of_two;
      alone = λ f within ne.
          let same : 1 - store.file ≡ f = omega (arith, within, ne, is.one_of_two) in
          subst (λ (k : ℕ). Each c k IsUnsealed) same cleared;
    }

-- what holds anyhow holds of a value
pub any_ok : {T E : Type 0} (r : Result T E) (X : Type 0) → X → IfOk r (λ value. X)
any_ok (Ok value) X has = has
any_ok (Err fault) X has = tt

-- a disk that tells after reads told before them
pub reads_told : (a b : View) → OnlyReads a b → Tells b → Tells a
reads_told a b reads tells = a.told b.seen (reads.same.fewer b.seen tells)

-- nor do reads and an erasure
pub clear_told : (a b c : View) (file : ℕ) → OnlyReads a b → Throughout b c (After b (Moved file ButFirst)) → Tells c → Tells a
clear_told a b c file reads moments tells = let from = holds_now b c _ moments c.seen tells in a.told from.0 (reads.same.fewer from.0 from.1)
