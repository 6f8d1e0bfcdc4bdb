-- A status is known by its code.
use Rattle.std.proofs.Common.{◌≡◌, ℕ, ◌==◌, if◌then◌else◌, refl, sym, ap, ◌∙◌}
use Rattle.script_loop.specs.declared.status.Status.{Status}
use Rattle.script_loop.specs.declared.status.Status.TheVariants.{Done, WordFault, ScriptFault, ReadFault, WriteFault, NoMemory}
use Rattle.script_loop.specs.Codes.{code_of}

-- the status with this code
abbrev status_of : ℕ → Status
status_of code =
    if code == 0 then Done else (
    if code == 1 then WordFault else (
    if code == 2 then ScriptFault else (
    if code == 3 then ReadFault else (
    if code == 4 then WriteFault else NoMemory
    ))))

status_of-code_of : (status : Status) → status_of (code_of status) ≡ status
status_of-code_of Done = refl
status_of-code_of WordFault = refl
status_of-code_of ScriptFault = refl
status_of-code_of ReadFault = refl
status_of-code_of WriteFault = refl
status_of-code_of NoMemory = refl

pub same_code : (a b : Status) → code_of a ≡ code_of b → a ≡ b
same_code a b is = sym (status_of-code_of a) ∙ ap status_of is ∙ status_of-code_of b
