-- What contracts see of a disk: its plan, its history and its counts.
use Rattle.std.specs.Prelude.{◌≡◌, ◌⊎◌, ℕ, ◌≤◌, List, [], ◌++◌, Option, None, Result, Ok, Err, if◌then◌else◌, is_ok}
use Rattle.std.specs.List.{Contains}
use Rattle.std.specs.Option.{IsSomeAnd}
use Rattle.fault_count.specs.OneMore.{one_more_than}
use Rattle.disk_trait.specs.View.{View}
use Rattle.disk_trait.specs.declared.DiskRefusal.{DiskRefusal}
use Rattle.disk_trait.specs.declared.DiskRefusal.TheVariants.{Failed, NoMemory}
use Rattle.disk_memory.specs.DiskCall.{DiskCall}
use Rattle.disk_memory.specs.Restarts.{Restarts}
use Rattle.disk_memory.specs.Logged.{logged}
use Rattle.disk_memory.specs.declared.plan.DiskPlan.{DiskPlan}
use Rattle.disk_memory.specs.declared.disk.MemoryDisk.{MemoryDisk}
use Rattle.disk_memory.specs.MemoryView.{memory_view}

pub record History : Type 0 where
  -- the plan
  pub pick : ℕ
  pub fail : List ℕ
  pub fail_reads : List ℕ
  pub fuse : Option ℕ
  -- the calls that changed it, with the restarts
  pub changes : List DiskCall
  -- how many changing calls and how many reading calls were made
  pub made : ℕ
  pub read : ℕ
  pub faults : ℕ

abbrev pub history_of : MemoryDisk → History
history_of disk = record {
  pick = disk.medium.pick;
  fail = disk.fail.items;
  fail_reads = disk.fail_reads.items;
  fuse = disk.fuse;
  changes = logged disk.medium.log;
  made = disk.made;
  read = disk.read;
  faults = disk.faults;
}

-- what the disk tells
abbrev pub view_of : MemoryDisk → View
view_of disk = memory_view disk.medium.pick (logged disk.medium.log) (record { faults = disk.faults; restarts = disk.restarts }) disk.medium.seen_is_image

-- before the first call
abbrev pub planned : DiskPlan → History
planned plan = record {
  pick = plan.pick;
  fail = plan.fail.items;
  fail_reads = plan.fail_reads.items;
  fuse = plan.fuse;
  changes = [];
  made = 0;
  read = 0;
  faults = 0;
}

-- the fuse is met by so many calls
abbrev pub IsMet : Option ℕ → ℕ → Type 0
IsMet fuse count = IsSomeAnd fuse (λ first. first ≤ count)

-- by the plan the next changing call fails
abbrev pub NextFails : History → Type 0
NextFails history = Contains history.fail (one_more_than history.made) ⊎ IsMet history.fuse (one_more_than history.made)

-- by the plan the next reading call fails
abbrev pub NextReadFails : History → Type 0
NextReadFails history = Contains history.fail_reads (one_more_than history.read)

-- A call fails exactly for this cause. It may also be refused because the disk is out of memory.
abbrev pub FailsBy : {T : Type 0} → Type 0 → Result T DiskRefusal → Type 0
FailsBy cause (Ok value) = ¬ cause
FailsBy cause (Err Failed) = cause
FailsBy cause (Err NoMemory) = Unit {0}

-- A reading call fails exactly for this cause, and is never refused for any other.
abbrev pub ReadFailsBy : {T : Type 0} → Type 0 → Result T DiskRefusal → Type 0
ReadFailsBy cause (Ok value) = ¬ cause
ReadFailsBy cause (Err Failed) = cause
ReadFailsBy cause (Err NoMemory) = ⊥

-- after a reading call
abbrev pub after_read : {T : Type 0} → History → Result T DiskRefusal → History
after_read history result = record history {
  read = one_more_than history.read;
  faults = if is_ok result then history.faults else one_more_than history.faults;
}

-- after a changing call, which adds these to the history
abbrev pub after_made : History → List DiskCall → ℕ → History
after_made history added faults = record history {
  changes = history.changes ++ added;
  made = one_more_than history.made;
  faults = faults;
}

-- What a changing call adds if it answers Ok, and if it fails. One that is out of memory leaves all as it was, and isn't counted.
abbrev pub AddsCalls : List DiskCall → List DiskCall → Result (Unit {0}) DiskRefusal → History → History → Type 0
AddsCalls done failed (Ok value) old new = new ≡ after_made old done old.faults
AddsCalls done failed (Err Failed) old new = new ≡ after_made old failed (one_more_than old.faults)
AddsCalls done failed (Err NoMemory) old new = new ≡ old

-- A restart goes on with the same counts and plan. It removes a fuse that was met.
pub record IsRestarted (old new : History) : Type 0 where
  pub changes : Restarts old.changes new.changes
  pub met : IsMet old.fuse old.made → new.fuse ≡ None
  pub unmet : ¬ IsMet old.fuse old.made → new.fuse ≡ old.fuse
  pub rest : new ≡ record old { changes = new.changes; fuse = new.fuse }
