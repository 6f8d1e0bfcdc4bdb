-- Which bytes are no group, and where they leave its grammar.
use Rattle.std.specs.Prelude.{◌≡◌, ◌≢◌, ◌⊎◌, ℕ, ◌+◌, ◌<◌, ◌≤◌, ◌==◌, nat_lt, Bool, true, false, List, ◌∷◌, ◌++◌, length, take, Option, None, Some, Result, Ok, Err, if◌then◌else◌}
use Rattle.std.specs.Str.{IsUtf8}
use Rattle.cache_key.specs.declared.request.Mutation.{Mutation}
use Rattle.record_form.specs.declared.fault.RecordFault.{RecordFault}
use Rattle.record_form.specs.declared.fault.RecordFault.TheVariants.{Short, Tag, Range, Name, NoMemory}
use Rattle.record_form.specs.Form.{OutOfRange, Stop, FormField, Number, NameText, Utf8Text, fields_text, ◌>>=◌, fault_of, reading_fault}
use Rattle.record_form.specs.GroupText.{AreMutations, group_form, group_text, group_fields, most_group_bytes}

-- all of these bytes as mutations after their count, or where they stop being so
unfoldable pub group_at : List ℕ → Result (List Mutation) Stop
group_at bytes = group_form.read bytes >>= λ x. if length x.1 == 0 then Ok x.0 else Err (record { kind = OutOfRange; size = 1; left = x.1 })

-- the first fault of bytes that are no more than a group may have, from left to right
abbrev pub bytes_fault : List ℕ → Option RecordFault
bytes_fault bytes = reading_fault bytes (group_at bytes)

-- Where more bytes follow than a group may have, the first of them can't stand there. A fault before it comes first; that
-- the bytes before it merely end is none.
abbrev pub or_too_long : Bool → Option RecordFault → Option RecordFault
or_too_long false fault = fault
or_too_long true None = Some (Range most_group_bytes)
or_too_long true (Some (Short at)) = Some (Range most_group_bytes)
or_too_long true (Some (Tag at)) = Some (Tag at)
or_too_long true (Some (Range at)) = Some (Range at)
or_too_long true (Some (Name at)) = Some (Name at)
or_too_long true (Some NoMemory) = Some NoMemory

-- the first fault of a payload, of any length, as a group
unfoldable pub group_fault : List ℕ → Option RecordFault
group_fault payload = or_too_long (nat_lt most_group_bytes (length payload)) (bytes_fault (take most_group_bytes payload))

-- ---- what a first fault is, in words of mutations alone

-- the spelling of some mutations, after their count, begins with the prefix; it may be longer than that of a group
abbrev pub BeginsGroup : List ℕ → Type 0
BeginsGroup prefix = (mutations : List Mutation) × (after : List ℕ) × AreMutations mutations × (prefix ++ after ≡ group_text mutations)

-- the spelling of some mutations, after their count, has this field after these others
abbrev pub HasGroupField : List FormField → FormField → Type 0
HasGroupField earlier field = (mutations : List Mutation) × (later : List FormField) × AreMutations mutations × (group_fields mutations ≡ earlier ++ field ∷ later)

-- After these bytes a text stands, of which, and of what follows it, the rest is there. It ends within the text, and some
-- mutations begin so.
pub record EndsWithin (before text rest : List ℕ) (fault : RecordFault) : Type 0 where
  pub few : length rest < length text
  pub fault_is : fault ≡ Short (length before + length rest)
  pub begins : BeginsGroup (before ++ rest)

-- the fault is at the first byte that no name has there: some mutations begin with what stands before it, and none with it
pub record HasBadNameByte (before text rest : List ℕ) (fault : RecordFault) : Type 0 where
  pub at : ℕ
  pub inside : at < length text
  pub there : at < length rest
  pub fault_is : fault ≡ Name (length before + at)
  pub begins : BeginsGroup (before ++ take at rest)
  pub nothing : BeginsGroup (before ++ take (at + 1) rest) → ⊥

-- The fault is where the longest prefix of the text that is UTF-8 ends: some mutations begin with what stands before it, and
-- none with the bytes from it on, of which four decide, the most that a character has.
pub record HasBadCharacter (before text rest : List ℕ) (fault : RecordFault) : Type 0 where
  pub at : ℕ
  pub inside : at < length text
  pub there : at < length rest
  pub fault_is : fault ≡ Name (length before + at)
  pub valid : IsUtf8 (take at rest)
  pub longest : (longer : ℕ) → longer ≤ length text → longer ≤ length rest → IsUtf8 (take longer rest) → longer ≤ at
  pub begins : BeginsGroup (before ++ take at rest)
  pub nothing : BeginsGroup (before ++ take (at + 4) rest) → ⊥

-- the bytes from a field on, of which, and of what follows it, the rest is there, are wrong first by this fault: a number is
-- cut, or it is whole and no mutations have it there, or the text ends early, or has a byte that can't stand there
abbrev pub IsWrongField : List ℕ → FormField → List ℕ → RecordFault → Type 0
IsWrongField before (Number kind size number) rest fault =
    ((length rest < size) × (fault ≡ Short (length before + length rest)))
    ⊎ ((size ≤ length rest) × (fault ≡ fault_of kind (length before)) × (BeginsGroup (before ++ take size rest) → ⊥))
IsWrongField before (NameText text) rest fault = EndsWithin before text rest fault ⊎ HasBadNameByte before text rest fault
IsWrongField before (Utf8Text text) rest fault = EndsWithin before text rest fault ⊎ HasBadCharacter before text rest fault

-- the bytes have the fields that come earlier in some mutations, and are wrong in the next one
pub record IsFaultInField (bytes : List ℕ) (fault : RecordFault) : Type 0 where
  pub earlier : List FormField
  pub field : FormField
  pub rest : List ℕ
  pub has : HasGroupField earlier field
  pub split : bytes ≡ fields_text earlier ++ rest
  pub begins : BeginsGroup (fields_text earlier)
  pub wrong : IsWrongField (fields_text earlier) field rest fault

-- the bytes go on after the last mutation
pub record IsFaultAfter (bytes : List ℕ) (fault : RecordFault) : Type 0 where
  pub mutations : List Mutation
  pub rest : List ℕ
  pub are : AreMutations mutations
  pub split : bytes ≡ group_text mutations ++ rest
  pub some : 1 ≤ length rest
  pub fault_is : fault ≡ Range (length (group_text mutations))
  pub nothing : BeginsGroup (group_text mutations ++ take 1 rest) → ⊥

-- the fault is the first one of bytes that are no more than a group may have
abbrev pub IsFaultOfBytes : List ℕ → RecordFault → Type 0
IsFaultOfBytes bytes fault = IsFaultInField bytes fault ⊎ IsFaultAfter bytes fault

-- the bytes spell mutations after their count
abbrev pub AreSpelled : List ℕ → Type 0
AreSpelled bytes = (mutations : List Mutation) × AreMutations mutations × (bytes ≡ group_text mutations)

-- More bytes follow than a group may have. The fault is at the first of them, where those before it are mutations or merely
-- end too early; or those before it have it.
abbrev pub IsFaultOfMore : List ℕ → RecordFault → Type 0
IsFaultOfMore bytes fault =
    ((fault ≡ Range most_group_bytes) × (AreSpelled bytes ⊎ ((at : ℕ) × IsFaultOfBytes bytes (Short at))))
    ⊎ (((at : ℕ) → fault ≢ Short at) × IsFaultOfBytes bytes fault)

-- the fault is the first one in the payload: where it leaves the grammar of a group
abbrev pub IsFirstFault : List ℕ → RecordFault → Type 0
IsFirstFault payload fault =
    ((length payload ≤ most_group_bytes) × IsFaultOfBytes payload fault)
    ⊎ ((most_group_bytes < length payload) × IsFaultOfMore (take most_group_bytes payload) fault)
