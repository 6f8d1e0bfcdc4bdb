-- The answer of a host, as the disk over it hands it on.
use Rattle.std.specs.Prelude.{Bool, Result, Ok, Err, if◌then◌else◌}
use Rattle.disk_trait.specs.declared.DiskRefusal.{DiskRefusal}
use Rattle.disk_trait.specs.declared.DiskRefusal.TheVariants.{Failed}

-- the same answer, but `Failed` for a value that no disk may answer
abbrev pub handed_on : {T : Type 0} → (T → Bool) → Result T DiskRefusal → Result T DiskRefusal
handed_on is_allowed (Ok value) = if is_allowed value then Ok value else Err Failed
handed_on is_allowed (Err refusal) = Err refusal
