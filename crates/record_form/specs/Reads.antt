-- What a reader of fields answers, from the reading before it to the one after it.
use Rattle.std.specs.Prelude.{◌≡◌, ◌⊎◌, ℕ, Bool, List, Some, Result, Ok, Err, if◌then◌else◌}
use Rattle.byte_fields.specs.Reading.{Reading, rest_of}
use Rattle.record_form.specs.declared.fault.RecordFault.{RecordFault}
use Rattle.record_form.specs.declared.fault.RecordFault.TheVariants.{NoMemory}
use Rattle.record_form.specs.Form.{FaultKind, Stop, ◌>>=◌, number_at, stop_fault, reading_fault}

-- a number of so many bytes that is allowed
abbrev pub head_at : ℕ → FaultKind → (ℕ → Bool) → List ℕ → Result (ℕ × List ℕ) Stop
head_at size kind allowed bytes = number_at size bytes >>= λ n. if allowed n.0 then Ok n else Err (record { kind = kind; size = size; left = bytes })

-- the answer, seen by view, is what reading from the offset on gives, and the new offset is after it; a fault is that of reading
abbrev pub ReadsField : {A X : Type 0} → (List ℕ → Result (A × List ℕ) Stop) → (X → A) → Reading → Reading → Result X RecordFault → Type 0
ReadsField read view old new (Ok x) = (read (rest_of old) ≡ Ok (view x, rest_of new)) × (new.text ≡ old.text)
ReadsField read view old new (Err fault) = reading_fault old.text (read (rest_of old)) ≡ Some fault

-- the fault is that of the reading, or memory ran out
abbrev pub Refuses : {A : Type 0} → RecordFault → List ℕ → Result A Stop → Type 0
Refuses fault text read = (fault ≡ NoMemory) ⊎ (reading_fault text read ≡ Some fault)

-- so, but memory may run out
abbrev pub MakesField : {A X : Type 0} → (List ℕ → Result (A × List ℕ) Stop) → (X → A) → Reading → Reading → Result X RecordFault → Type 0
MakesField read view old new (Ok x) = (read (rest_of old) ≡ Ok (view x, rest_of new)) × (new.text ≡ old.text)
MakesField read view old new (Err fault) = Refuses fault old.text (read (rest_of old))

-- what reading gives but for the value: the bytes after it, or the fault
abbrev pub outcome : {A : Type 0} → List ℕ → Result (A × List ℕ) Stop → Result (List ℕ) RecordFault
outcome text (Ok x) = Ok x.1
outcome text (Err stop) = Err (stop_fault text stop)

-- the value is passed and not made
abbrev pub Skips : {A : Type 0} → (List ℕ → Result (A × List ℕ) Stop) → Reading → Reading → Result Unit RecordFault → Type 0
Skips read old new (Ok x) = (outcome old.text (read (rest_of old)) ≡ Ok (rest_of new)) × (new.text ≡ old.text)
Skips read old new (Err fault) = outcome old.text (read (rest_of old)) ≡ Err fault
