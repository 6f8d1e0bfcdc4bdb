-- The form of a text: what it spells, what has a spelling, and how it is read from the left.
use Rattle.std.specs.Prelude.{◌≡◌, ℕ, zero, suc, ◌-◌, nat_lt, Bool, true, false, List, [], ◌∷◌, ◌++◌, length, take, drop, Option, None, Some, Result, Ok, Err, if◌then◌else◌}
use Rattle.std.specs.List.{flat_map, AllByRecursion}
use Rattle.byte_fields.specs.Numbers.{big_endian, bytes_of}
use Rattle.record_form.specs.declared.fault.RecordFault.{RecordFault}
use Rattle.record_form.specs.declared.fault.RecordFault.TheVariants.{Short, Tag, Range, Name}

-- why bytes stop being the text of a form: they end within a field, no form has this tag, a number is outside its limits, or
-- a text has a byte that it can't have
pub data FaultKind : Type 0 where
  TooShort : FaultKind
  BadTag : FaultKind
  OutOfRange : FaultKind
  BadByte : FaultKind

-- where they do: how many bytes are wrong, and all bytes that are left, from the first wrong one
pub record Stop : Type 0 where
  pub kind : FaultKind
  pub size : ℕ
  pub left : List ℕ

-- A field of a text: a number of so many bytes, with the kind of fault that one outside its limits is; a text of the
-- alphabet of names; or one of UTF-8.
pub data FormField : Type 0 where
  Number : FaultKind → ℕ → ℕ → FormField
  NameText : List ℕ → FormField
  Utf8Text : List ℕ → FormField

-- the bytes of a field
abbrev pub field_text : FormField → List ℕ
field_text (Number kind size number) = bytes_of size number
field_text (NameText text) = text
field_text (Utf8Text text) = text

-- the bytes of fields, one after the other
abbrev pub fields_text : List FormField → List ℕ
fields_text fields = flat_map field_text fields

-- A form: how a value is spelled, and of which fields; which values have a spelling; and what reading from the left gives,
-- which is the value and the bytes after it, or where the bytes stop being of the form.
pub record Form (A : Type 0) : Type 1 where
  pub text : A → List ℕ
  pub fields : A → List FormField
  pub Fits : A → Type 0
  pub read : List ℕ → Result (A × List ℕ) Stop

-- one step of reading, and then another
infixl 10 ◌>>=◌
abbrev pub ◌>>=◌ : {A B : Type 0} → Result A Stop → (A → Result B Stop) → Result B Stop
(Ok x) >>= f = f x
(Err stop) >>= f = Err stop

-- the bytes end within a field
abbrev pub ends_early : {A : Type 0} → Result A Stop
ends_early = Err (record { kind = TooShort; size = 0; left = [] })

-- a number of so many bytes, and the bytes after it
abbrev pub number_at : ℕ → List ℕ → Result (ℕ × List ℕ) Stop
number_at size bytes = if nat_lt (length bytes) size then ends_early else Ok (big_endian (take size bytes), drop size bytes)

-- a number of so many bytes that decides what follows: a tag, a count or a length
abbrev pub headed : {A : Type 0} → ℕ → FaultKind → (ℕ → Bool) → (A → ℕ) → (ℕ → Form A) → Form A
headed size kind allowed head following = record {
  text = λ x. bytes_of size (head x) ++ (following (head x)).text x;
  fields = λ x. Number kind size (head x) ∷ (following (head x)).fields x;
  Fits = λ x. (allowed (head x) ≡ true) × (following (head x)).Fits x;
  read = λ bytes. number_at size bytes >>= λ n. if allowed n.0 then (following n.0).read n.1 else Err (record { kind = kind; size = size; left = bytes });
}

-- one form or the other
abbrev pub choose : {A : Type 0} → Bool → Form A → Form A → Form A
choose true f g = f
choose false f g = g

-- one form, and then another
infixr 20 ◌then◌
abbrev pub ◌then◌ : {A B : Type 0} → Form A → Form B → Form (A × B)
f then g = record {
  text = λ x. f.text x.0 ++ g.text x.1;
  fields = λ x. f.fields x.0 ++ g.fields x.1;
  Fits = λ x. f.Fits x.0 × g.Fits x.1;
  read = λ bytes. f.read bytes >>= λ x. g.read x.1 >>= λ y. Ok ((x.0, y.0), y.1);
}

-- a form whose values are seen as others
abbrev pub seen_as : {A B : Type 0} → (A → B) → (B → A) → Form A → Form B
seen_as to back f = record {
  text = λ y. f.text (back y);
  fields = λ y. f.fields (back y);
  Fits = λ y. f.Fits (back y) × (y ≡ to (back y));
  read = λ bytes. f.read bytes >>= λ x. Ok (to x.0, x.1);
}

unfoldable pub read_many : {A : Type 0} → (List ℕ → Result (A × List ℕ) Stop) → ℕ → List ℕ → Result (List A × List ℕ) Stop
read_many read zero bytes = Ok ([], bytes)
read_many read (suc n) bytes = read bytes >>= λ x. read_many read n x.1 >>= λ xs. Ok (x.0 ∷ xs.0, xs.1)

-- a form so many times
abbrev pub many : {A : Type 0} → Form A → ℕ → Form (List A)
many f n = record {
  text = λ xs. flat_map f.text xs;
  fields = λ xs. flat_map f.fields xs;
  Fits = λ xs. (length xs ≡ n) × AllByRecursion f.Fits xs;
  read = read_many f.read n;
}

-- so many bytes, unless there are fewer, or one of them is bad
abbrev pub characters_at : Option ℕ → ℕ → ℕ → List ℕ → Result (List ℕ × List ℕ) Stop
characters_at (Some offset) size count bytes = Err (record { kind = BadByte; size = size; left = drop offset bytes })
characters_at None size count bytes = if nat_lt (length bytes) count then ends_early else Ok (take count bytes, drop count bytes)

-- A text of so many bytes, which is one field. `first_bad` finds the first byte that can't stand in such a text, of which these bytes are there;
-- `extent` is how many bytes from that one on show that it can't.
abbrev pub characters : (List ℕ → FormField) → (List ℕ → Type 0) → (ℕ → List ℕ → Option ℕ) → ℕ → ℕ → Form (List ℕ)
characters field Is first_bad extent count = record {
  text = λ text. text;
  fields = λ text. field text ∷ [];
  Fits = λ text. (length text ≡ count) × Is text;
  read = λ bytes. characters_at (first_bad count (take count bytes)) extent count bytes;
}

-- the fault of this kind at an offset
abbrev pub fault_of : FaultKind → ℕ → RecordFault
fault_of TooShort offset = Short offset
fault_of BadTag offset = Tag offset
fault_of OutOfRange offset = Range offset
fault_of BadByte offset = Name offset

-- the fault where the reading of a whole text stopped
abbrev pub stop_fault : List ℕ → Stop → RecordFault
stop_fault text stop = fault_of stop.kind (length text - length stop.left)

-- the fault of a reading, if it stopped
abbrev pub reading_fault : {A : Type 0} → List ℕ → Result A Stop → Option RecordFault
reading_fault text (Ok x) = None
reading_fault text (Err stop) = Some (stop_fault text stop)
