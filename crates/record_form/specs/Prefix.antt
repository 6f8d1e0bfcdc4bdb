-- Which prefixes begin a text of a form, and where bytes leave it.
use Rattle.std.specs.Prelude.{⊤, ◌≡◌, ◌≢◌, ◌⊎◌, ℕ, ◌<◌, ◌≤◌, length, List, [], ◌∷◌, ◌++◌, take, drop}
use Rattle.std.specs.Str.{IsUtf8}
use Rattle.record_form.specs.Form.{TooShort, BadByte, Stop, FormField, Number, NameText, Utf8Text, fields_text, Form}

-- the text of some value begins with the prefix
abbrev pub Begins : {A : Type 0} → Form A → List ℕ → Type 0
Begins {A} form prefix = (x : A) × (after : List ℕ) × form.Fits x × (prefix ++ after ≡ form.text x)

-- bytes that begin with the prefix may still have the text of some value at their beginning
abbrev pub IsPossible : {A : Type 0} → Form A → List ℕ → Type 0
IsPossible {A} form prefix = (x : A) × (after : List ℕ) × (rest : List ℕ) × form.Fits x × (prefix ++ after ≡ form.text x ++ rest)

-- the text of some value has this field after these others
abbrev pub HasField : {A : Type 0} → Form A → List FormField → FormField → Type 0
HasField {A} form earlier field = (x : A) × (later : List FormField) × form.Fits x × (form.fields x ≡ earlier ++ field ∷ later)

-- the bytes merely end
abbrev pub end_stop : Stop
end_stop = record { kind = TooShort; size = 0; left = [] }

-- Reading stops within the field, of which, and of what follows it, these bytes are there: they end, or the number is refused
-- as a whole, or a byte of the text is. Of what isn't UTF-8 it is the byte at which the longest valid prefix ends.
abbrev pub StopsWithin : FormField → List ℕ → Stop → Type 0
StopsWithin (Number kind size number) bytes stop =
    ((length bytes < size) × (stop ≡ end_stop)) ⊎ ((size ≤ length bytes) × (kind ≢ TooShort) × (stop ≡ record { kind = kind; size = size; left = bytes }))
StopsWithin (NameText text) bytes stop =
    ((length bytes < length text) × (stop ≡ end_stop))
    ⊎ ((at : ℕ) × (at < length text) × (at < length bytes) × (stop ≡ record { kind = BadByte; size = 1; left = drop at bytes }))
StopsWithin (Utf8Text text) bytes stop =
    ((length bytes < length text) × (stop ≡ end_stop))
    ⊎ ((at : ℕ) × (at < length text) × (at < length bytes) × (stop ≡ record { kind = BadByte; size = 4; left = drop at bytes })
    × IsUtf8 (take at bytes) × ((longer : ℕ) → longer ≤ length text → longer ≤ length bytes → IsUtf8 (take longer bytes) → longer ≤ at))

-- only a number may be cut: the bytes of a text stand before the offset, where they end
abbrev pub IsCutOf : FormField → List ℕ → Type 0
IsCutOf (Number kind size number) cut = ⊤
IsCutOf (NameText text) cut = cut ≡ []
IsCutOf (Utf8Text text) cut = cut ≡ []

-- the bytes stop being of the form there
pub record StopsWith {A : Type 0} (form : Form A) (bytes : List ℕ) (stop : Stop) : Type 0 where
  -- the field in which they do, those before it, and the bytes from it on
  pub earlier : List FormField
  pub field : FormField
  pub rest : List ℕ
  pub has : HasField form earlier field
  pub split : bytes ≡ fields_text earlier ++ rest
  pub within : StopsWithin field rest stop
  -- what stands before it; where the bytes end within a number, what stands before the number, and the bytes of it that are there
  pub before : List ℕ
  pub cut : List ℕ
  pub parts : bytes ≡ before ++ (cut ++ stop.left)
  -- a text begins with what stands before it
  pub begins : Begins form before
  -- where the bytes merely end too early, nothing is left
  pub early : stop.kind ≡ TooShort → (stop.left ≡ []) × IsCutOf field cut
  -- else no text begins so once the wrong bytes, at most four, are there too
  pub nothing : stop.kind ≢ TooShort → (cut ≡ []) × (stop.size ≤ 4) × (IsPossible form (before ++ take stop.size stop.left) → ⊥)
