-- What a kind says of a file that is sealed.
use Rattle.std.proofs.Common.{◌≡◌, ◌≢◌, ◌⊎◌, inl, inr, ⊎_elim, ℕ, ◌<◌, List, length, get_or, refl, sym, ◌∙◌, subst, arith, []}
use Rattle.std.proofs.lemmas.Bool.{cases_eq, cases_lt}
use Rattle.std.proofs.lemmas.List.{append-nil}
use Rattle.cache_model.specs.Change.{Change, changes_of}
use Rattle.cache_model.specs.Contents.{SameContents}
use Rattle.seal_gate.specs.Seal.{IsSealed, ButFirst}
use Rattle.seal_gate.proofs.SealLemmas.{but_first_none, but_first_joined}
use Rattle.store_journal.proofs.TextLemmas.{resealed}
use Rattle.slot_board.specs.Slots.{aged}
use Rattle.slot_board.specs.declared.board.SlotKind.{SlotKind}
use Rattle.slot_board.specs.declared.board.SlotKind.TheVariants.{Empty, Blank, Stale, Doubt, Current, Unknown}
use Rattle.store_journal.specs.Stands.{version_in}
use Rattle.store_journal.specs.Created.{IsBlank}
use Rattle.store_journal.proofs.CreatedLemmas.{blank_is_unsealed}
use Rattle.store_journal.proofs.StandsLemmas.{version_of_text}
use Rattle.file_kinds.specs.Kinds.{PartitionNumber, IsListOr, IsVersion, IsGood, MaybeSealed, IsOfKind, MayCount}
use Rattle.file_kinds.specs.Freeing.{IsFreeable, IsFreedFrom}

-- a file is sealed or it isn't
pub sealed_or : (bytes : List ℕ) → IsSealed bytes ⊎ (IsSealed bytes → ⊥)
sealed_or bytes = ⊎_elim
    (λ zero. inr (λ sealed. sealed.first zero))
    (λ first. ⊎_elim (λ short. inr (λ sealed. omega (arith, short, sealed.long))) (λ long. inl (record { first = first; long = long })) (cases_lt (length bytes) 41))
    (cases_eq (get_or bytes 0 0) 0)

-- the version that a store's bytes show
pub shows : (number : PartitionNumber) (version : ℕ) (bytes : List ℕ) → IsVersion number version bytes → version_in bytes ≡ version
shows number version bytes is = version_of_text is.header is.store.groups bytes is.store.text ∙ is.as_told

-- what a text has, a file has that is sealed and differs from it in the first byte alone
version_resealed : (number : PartitionNumber) (version : ℕ) (text bytes : List ℕ) → IsVersion number version text → ButFirst text bytes → IsSealed bytes → IsVersion number version bytes
version_resealed number version text bytes is but sealed = record {
  header = is.header;
  mutations = is.mutations;
  store = record { groups = is.store.groups; joined = is.store.joined; text = resealed is.header is.store.groups text bytes is.store.text but sealed };
  of_partition = is.of_partition;
  of_partitions = is.of_partitions;
  as_told = is.as_told;
}

pub maybe_version : (number : PartitionNumber) (version : ℕ) (bytes : List ℕ) → MaybeSealed (IsVersion number version) bytes → IsSealed bytes → IsVersion number version bytes
maybe_version number version bytes maybe sealed = version_resealed number version maybe.text bytes maybe.whole maybe.rest sealed

pub maybe_good : (number : PartitionNumber) (changes flight : List Change) (version : ℕ) (bytes : List ℕ) → MaybeSealed (IsGood number changes flight version) bytes → IsSealed bytes → IsGood number changes flight version bytes
unfolding version_resealed
maybe_good number changes flight version bytes maybe sealed = record {
  whole = version_resealed number version maybe.text bytes maybe.whole.whole maybe.rest sealed;
  contents = maybe.whole.contents;
}

-- what may be sealed shows its version
pub sealed_shows : (number : PartitionNumber) (changes flight : List Change) (kind : SlotKind) (version : ℕ) (bytes : List ℕ) → IsOfKind number changes flight kind version bytes → IsSealed bytes → kind ≢ Unknown
    → MayCount kind × (version_in bytes ≡ version)
sealed_shows number changes flight Empty version bytes fits sealed known = absurd (omega (arith, fits, sealed.long))
sealed_shows number changes flight Blank version bytes fits sealed known = absurd (blank_is_unsealed bytes fits sealed)
sealed_shows number changes flight Stale version bytes fits sealed known = (tt, shows number version bytes (maybe_version number version bytes fits sealed))
sealed_shows number changes flight Doubt version bytes fits sealed known = (tt, shows number version bytes (maybe_good number changes flight version bytes fits sealed).whole)
sealed_shows number changes flight Current version bytes fits sealed known = (tt, shows number version bytes fits.whole)
sealed_shows number changes flight Unknown version bytes fits sealed known = absurd (known refl)

-- and is good where it isn't stale
pub sealed_good : (number : PartitionNumber) (changes flight : List Change) (kind : SlotKind) (version : ℕ) (bytes : List ℕ) → IsOfKind number changes flight kind version bytes → IsSealed bytes → kind ≢ Unknown → kind ≢ Stale
    → IsGood number changes flight version bytes
sealed_good number changes flight Empty version bytes fits sealed known fresh = absurd (omega (arith, fits, sealed.long))
sealed_good number changes flight Blank version bytes fits sealed known fresh = absurd (blank_is_unsealed bytes fits sealed)
sealed_good number changes flight Stale version bytes fits sealed known fresh = absurd (fresh refl)
sealed_good number changes flight Doubt version bytes fits sealed known fresh = maybe_good number changes flight version bytes fits sealed
sealed_good number changes flight Current version bytes fits sealed known fresh = fits
sealed_good number changes flight Unknown version bytes fits sealed known fresh = absurd (known refl)

-- What a kind says goes on. With nothing in flight a good file has the contents of the list:
pub exact : (changes found : List Change) → IsListOr changes [] found → SameContents found changes
exact changes found is = ⊎_elim (λ same. same) (λ same. subst (λ (l : List Change). SameContents found l) (append-nil changes) same) is

-- whatever is put in flight then
pub good_more : (number : PartitionNumber) (changes flight : List Change) (version : ℕ) (bytes : List ℕ) → IsGood number changes [] version bytes → IsGood number changes flight version bytes
good_more number changes flight version bytes is = record { whole = is.whole; contents = inl (exact changes (changes_of is.whole.mutations) is.contents) }

pub fits_more : (number : PartitionNumber) (changes flight : List Change) (kind : SlotKind) (version : ℕ) (bytes : List ℕ) → IsOfKind number changes [] kind version bytes → IsOfKind number changes flight kind version bytes
fits_more number changes flight Empty version bytes fits = fits
fits_more number changes flight Blank version bytes fits = fits
fits_more number changes flight Stale version bytes fits = fits
fits_more number changes flight Doubt version bytes fits = record { text = fits.text; whole = good_more number changes flight version fits.text fits.whole; rest = fits.rest }
fits_more number changes flight Current version bytes fits = good_more number changes flight version bytes fits
fits_more number changes flight Unknown version bytes fits = fits

-- a file that isn't the current one and isn't in doubt says nothing of the list
pub fits_other : (number : PartitionNumber) (changes flight others other_flight : List Change) (kind : SlotKind) (version : ℕ) (bytes : List ℕ) → kind ≢ Doubt → kind ≢ Current
    → IsOfKind number changes flight kind version bytes → IsOfKind number others other_flight kind version bytes
fits_other number changes flight others other_flight Empty version bytes sure past fits = fits
fits_other number changes flight others other_flight Blank version bytes sure past fits = fits
fits_other number changes flight others other_flight Stale version bytes sure past fits = fits
fits_other number changes flight others other_flight Doubt version bytes sure past fits = absurd (sure refl)
fits_other number changes flight others other_flight Current version bytes sure past fits = absurd (past refl)
fits_other number changes flight others other_flight Unknown version bytes sure past fits = fits

-- what may be sealed has some bytes
maybe_some : (number : PartitionNumber) (version : ℕ) (text bytes : List ℕ) → IsVersion number version text → ButFirst text bytes → 0 < length bytes
maybe_some number version text bytes is but = omega (arith, but.as_long, is.store.text.sealed.long)

-- a file of a known kind may be made free
pub fits_freeable : (number : PartitionNumber) (changes flight : List Change) (kind : SlotKind) (version : ℕ) (bytes : List ℕ) → kind ≢ Unknown → IsOfKind number changes flight kind version bytes → IsFreeable kind bytes
fits_freeable number changes flight Empty version bytes known fits = fits
fits_freeable number changes flight Blank version bytes known fits = fits
fits_freeable number changes flight Stale version bytes known fits = maybe_some number version fits.text bytes fits.whole fits.rest
fits_freeable number changes flight Doubt version bytes known fits = maybe_some number version fits.text bytes fits.whole.whole fits.rest
fits_freeable number changes flight Current version bytes known fits = omega (arith, fits.whole.store.text.sealed.long)
fits_freeable number changes flight Unknown version bytes known fits = absurd (known refl)

-- and goes on being of its kind while it is
pub freed_fits : (number : PartitionNumber) (changes flight : List Change) (kind : SlotKind) (version : ℕ) (old new : List ℕ) → kind ≢ Current → IsOfKind number changes flight kind version old → IsFreedFrom kind old new → IsOfKind number changes flight kind version new
freed_fits number changes flight Empty version old new past fits freed = freed.short
freed_fits number changes flight Blank version old new past fits freed = subst (λ (l : List ℕ). IsBlank l) (sym freed) fits
freed_fits number changes flight Stale version old new past fits freed = record { text = fits.text; whole = fits.whole; rest = but_first_joined fits.text old new fits.rest freed }
freed_fits number changes flight Doubt version old new past fits freed = record { text = fits.text; whole = fits.whole; rest = but_first_joined fits.text old new fits.rest freed }
freed_fits number changes flight Current version old new past fits freed = absurd (past refl)
freed_fits number changes flight Unknown version old new past fits freed = absurd freed

-- a newer store leaves it stale
pub aged_fits : (number : PartitionNumber) (changes flight others other_flight : List Change) (kind : SlotKind) (version : ℕ) (bytes : List ℕ) → IsOfKind number changes flight kind version bytes → IsOfKind number others other_flight (aged kind) version bytes
aged_fits number changes flight others other_flight Empty version bytes fits = fits
aged_fits number changes flight others other_flight Blank version bytes fits = fits
aged_fits number changes flight others other_flight Stale version bytes fits = fits
aged_fits number changes flight others other_flight Doubt version bytes fits = record { text = fits.text; whole = fits.whole.whole; rest = fits.rest }
aged_fits number changes flight others other_flight Current version bytes fits = record { text = bytes; whole = fits.whole; rest = but_first_none bytes }
aged_fits number changes flight others other_flight Unknown version bytes fits = fits

-- a blank file is blank
pub blank_there : (number : PartitionNumber) (changes flight : List Change) (kind : SlotKind) (version : ℕ) (bytes : List ℕ) → kind ≡ Blank → IsOfKind number changes flight kind version bytes → IsBlank bytes
blank_there number changes flight kind version bytes is fits = subst (λ (k : SlotKind). IsOfKind number changes flight k version bytes) is fits

-- what is sealed on a recorded host is whole
pub sealed_whole : (number : PartitionNumber) (changes flight : List Change) (kind : SlotKind) (version : ℕ) (bytes : List ℕ) → IsOfKind number changes flight kind version bytes → IsSealed bytes → kind ≢ Unknown → IsVersion number version bytes
sealed_whole number changes flight Empty version bytes fits sealed known = absurd (omega (arith, fits, sealed.long))
sealed_whole number changes flight Blank version bytes fits sealed known = absurd (blank_is_unsealed bytes fits sealed)
sealed_whole number changes flight Stale version bytes fits sealed known = maybe_version number version bytes fits sealed
sealed_whole number changes flight Doubt version bytes fits sealed known = (maybe_good number changes flight version bytes fits sealed).whole
sealed_whole number changes flight Current version bytes fits sealed known = fits.whole
sealed_whole number changes flight Unknown version bytes fits sealed known = absurd (known refl)
