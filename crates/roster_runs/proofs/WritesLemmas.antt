-- A file that was found after a restart may be written.
use Rattle.std.proofs.Common.{◌≡◌, ℕ, ◌-◌, ◌≤◌, List, None, Ok, Err, Result, IfOk, subst}
use Rattle.disk_trait.specs.View.{Image, View, Tells}
use Rattle.disk_trait.specs.declared.DiskRefusal.{DiskRefusal}
use Rattle.roster_book.specs.Writing.{IsReadyToWrite}

pub found_is_ready : (old new : View) (found : Result ℕ DiskRefusal) (file : ℕ) (text : List ℕ) → found ≡ Ok file
    → IfOk found (λ free. Tells old → ((f : ℕ) → f ≤ 1 → (m : Image) → old.images m → m f ≡ old.seen f) → (bytes : List ℕ) → IsReadyToWrite bytes free (1 - free) None new)
    → Tells old → ((m : Image) → old.images m → (f : ℕ) → m f ≡ old.seen f) → IsReadyToWrite text file (1 - file) None new
found_is_ready old new (Err refusal) file text e ready tells durable = absurd cc
found_is_ready old new (Ok free) file text e ready tells durable =
    let same : free ≡ file = cc in
    subst (λ (k : ℕ). IsReadyToWrite text k (1 - k) None new) same (ready tells (λ f within m is. durable m is f) text)
