-- Why what a host shows wasn't read, and which file is free to be written.
use Rattle.std.proofs.Common.{◌≡◌, ◌⊎◌, ⊎_elim, ℕ, ◌-◌, ◌<◌, ◌≤◌, List, None, sym, subst, ap, ◌∙◌}
use Rattle.disk_trait.specs.View.{Image, View, Tells}
use Rattle.disk_trait.specs.Moments.{Now}
use Rattle.disk_trait.specs.Calls.{Rose, Same}
use Rattle.seal_gate.specs.Seal.{IsSealed, IsSettled}
use Rattle.store_journal.specs.Stands.{version_in}
use Rattle.newest_store.specs.Newest.{IsNewest}
use Rattle.roster_form.specs.RosterFault.{roster_fault}
use Rattle.roster_book.specs.Reading.{IsUnread, IsUnshown, IsFreeFile}
use Rattle.roster_book.specs.Writing.{IsReadyToWrite}
use Rattle.roster_book.specs.declared.fault.ShownFault.{ShownFault}
use Rattle.roster_book.specs.declared.fault.ShownFault.TheVariants.{Failed, Damaged, NoMemory}

-- the newest file wasn't read, after reads
pub unread_is_unshown : (a b c : View) (partitions file : ℕ) (fault : ShownFault) → Same a b → b.faults ≡ a.faults → (Tells a → IsNewest a.seen file) → IsUnread b c partitions file fault → IsUnshown a c partitions fault
unread_is_unshown a b c partitions file Failed same faults newest is = subst (λ (n : ℕ). Rose n c.faults) faults is
unread_is_unshown a b c partitions file NoMemory same faults newest is = tt
unread_is_unshown a b c partitions file (Damaged found at) same faults newest is = λ tells.
    let still = b.told a.seen (same.no_fewer a.seen tells) in (
      subst (IsNewest a.seen) (sym is.0) (newest tells),
      ap (roster_fault partitions) (sym (same.seen found)) ∙ is.1 still,
    )

-- where files 0 and 1 are the same the newest file is
pub newest_alike : (m n : Image) (file : ℕ) → ((f : ℕ) → f ≤ 1 → m f ≡ n f) → IsNewest m file → IsNewest n file
newest_alike m n file alike newest = record {
  one_of_two = newest.one_of_two;
  sealed = subst IsSealed (alike file newest.one_of_two) newest.sealed;
  greatest = λ f within ne sealed.
      subst (λ (bytes : List ℕ). (version_in (n f) < version_in bytes) ⊎ ((version_in (n f) ≡ version_in bytes) × (file < f))) (alike file newest.one_of_two)
      (subst (λ (bytes : List ℕ). (version_in bytes < version_in (m file)) ⊎ ((version_in bytes ≡ version_in (m file)) × (file < f))) (alike f within)
      (newest.greatest f within ne (subst IsSealed (sym (alike f within)) sealed)));
}

-- A file that isn't the newest may be written at once where nothing is pending in either. It was found by reads.
pub free_is_ready : (old new : View) (text : List ℕ) (file : ℕ) → Same old new → file ≤ 1 → IsFreeFile old.seen file → ((f : ℕ) → f ≤ 1 → IsSettled old f) → IsReadyToWrite text file (1 - file) None new
free_is_ready old new text file same within free settled = (λ m is. at_rest m is file within ∙ sym (same.seen file), newest)
  where
    at_rest : (m : Image) → new.images m → (f : ℕ) → f ≤ 1 → m f ≡ old.seen f
    at_rest m is f below = settled f below m (same.fewer m is)

    newest : Now new (λ m. IsSealed (m file) → IsNewest m (1 - file))
    newest m is sealed = ⊎_elim
        (λ other. newest_alike old.seen m (1 - file) (λ f below. sym (at_rest m is f below)) other)
        (λ none. absurd (none.1 file within (subst IsSealed (at_rest m is file within) sealed)))
        free
