-- The fault of a line for each fault below it.
use Rattle.std.specs.Prelude.{◌≡◌}
use Rattle.serde_json.specs.declared.error.Error.{Error}
use Rattle.serde_json.specs.Errors.{IsMemory}
use Rattle.cache_key.specs.declared.fault.NameFault.{NameFault}
use Rattle.cache_key.specs.declared.fault.NameFault.TheVariants as names
use Rattle.script_lines.specs.declared.fault.LineFault.{LineFault}
use Rattle.script_lines.specs.declared.fault.LineFault.TheVariants.{Form, NoMemory}

-- the line is refused by its form
abbrev pub IsOfForm : LineFault → Type 0
IsOfForm (Form reason) = Unit {0}
IsOfForm NoMemory = ⊥

-- a refused text is refused by the form, running out of memory aside
abbrev pub IsFaultOfText : NameFault → LineFault → Type 0
IsFaultOfText names.Empty fault = IsOfForm fault
IsFaultOfText names.Long fault = IsOfForm fault
IsFaultOfText (names.BadByte at) fault = IsOfForm fault
IsFaultOfText names.NoMemory fault = fault ≡ NoMemory

-- the same for a line that is no JSON
abbrev pub IsFaultOf : Error → LineFault → Type 0
IsFaultOf error (Form reason) = ¬ IsMemory error
IsFaultOf error NoMemory = IsMemory error
