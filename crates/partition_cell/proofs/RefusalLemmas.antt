-- Which refusal of a disk a refusal of a cell was.
use Rattle.std.proofs.Common.{◌≡◌, ℕ, List, refl}
use Rattle.disk_lane.specs.Lanes.{HasFailedOn}
use Rattle.disk_trait.specs.View.{View}
use Rattle.disk_trait.specs.declared.DiskRefusal.{DiskRefusal}
use Rattle.disk_trait.specs.declared.DiskRefusal.TheVariants.{Failed, NoMemory}
use Rattle.call_trail.specs.declared.refusal.CallRefusal.TheVariants as calls
use Rattle.partition_cell.specs.Made.{IsMakingFault}
use Rattle.partition_cell.specs.Refusals.{call_refusal, cell_refusal}

pub call_fault : (host other : ℕ) (r : DiskRefusal) → call_refusal host r ≡ calls.Fault other → (other ≡ host) × (r ≡ Failed)
call_fault host other Failed is = (let e : calls.Fault host ≡ calls.Fault other = is in cc e, refl)
call_fault host other NoMemory is = let e : calls.NoMemory ≡ calls.Fault other = is in absurd (cc e)

pub call_no_memory : (host : ℕ) (r : DiskRefusal) → call_refusal host r ≡ calls.NoMemory → r ≡ NoMemory
call_no_memory host Failed is = let e : calls.Fault host ≡ calls.NoMemory = is in absurd (cc e)
call_no_memory host NoMemory is = refl

-- the disk's refusal, as the cell's
pub making_fault : {D : Type 0} (view : D → View) (host : ℕ) (old new : List D) (r : DiskRefusal) → (r ≡ Failed → HasFailedOn view host old new) → IsMakingFault view host old new (cell_refusal host r)
making_fault view host old new Failed failed = (refl, failed refl)
making_fault view host old new NoMemory failed = tt
