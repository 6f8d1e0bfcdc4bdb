-- Why a call that takes memory of its own, beside the disk's, was refused.
use Rattle.std.specs.Prelude.{◌≡◌, ◌≤◌, Result, IsErrOf}
use Rattle.disk_trait.specs.View.{View}
use Rattle.disk_trait.specs.Calls.{Rose}
use Rattle.disk_trait.specs.declared.DiskRefusal.{DiskRefusal}
use Rattle.disk_trait.specs.declared.DiskRefusal.TheVariants.{Failed}

-- As the cause of a disk's own call, but that memory may have run out also where the disk takes none.
pub record OwnCause {T : Type 0} (old new : View) (result : Result T DiskRefusal) : Type 0 where
  pub later : old.faults ≤ new.faults
  pub failed : IsErrOf result Failed → Rose old.faults new.faults
  pub kept : ¬ IsErrOf result Failed → new.faults ≡ old.faults
  pub spares : old.spares → new.spares
  pub restarts : new.restarts ≡ old.restarts
