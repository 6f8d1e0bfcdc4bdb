-- Where a fault of a header or a group stands.
use Rattle.std.specs.Prelude.{ℕ}
use Rattle.record_form.specs.declared.fault.RecordFault.{RecordFault}
use Rattle.record_form.specs.declared.fault.RecordFault.TheVariants.{Short, Tag, Range, Name, NoMemory}

-- where a fault of a header or of a payload lies in it; a lack of memory is no fault of the bytes
abbrev pub offset_of : RecordFault → ℕ
offset_of (Short at) = at
offset_of (Tag at) = at
offset_of (Range at) = at
offset_of (Name at) = at
offset_of NoMemory = 0
