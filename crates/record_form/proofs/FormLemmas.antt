-- What the laws of a form are, and how one step of reading follows another.
use Rattle.std.proofs.Common.{◌≡◌, ℕ, Bool, true, false, cond, List, ◌++◌, length, drop, Result, Ok, Err, refl, subst}
use Rattle.std.proofs.lemmas.List.{drop_at}
use Rattle.byte_fields.proofs.NumbersLemmas.{AreBytes}
use Rattle.record_form.specs.Form.{Stop, fields_text, Form, ◌>>=◌}
use Rattle.record_form.specs.Prefix.{StopsWith}
use Rattle.record_form.proofs.HeaderLemmas.{AreBytes-drop}

-- the value of a step that did not fail
pub bind_ok : {A B : Type 0} (r : Result A Stop) (f : A → Result B Stop) (y : B) → (r >>= f) ≡ Ok y → (x : A) × (r ≡ Ok x) × (f x ≡ Ok y)
bind_ok (Ok x) f y e = (x, refl, e)
bind_ok (Err d) f y e = absurd cc

-- where two steps stop one of them does
pub data StopsIn {A B : Type 0} (r : Result A Stop) (f : A → Result B Stop) (stop : Stop) : Type 0 where
  First : r ≡ Err stop → StopsIn r f stop
  Second : (x : A) → r ≡ Ok x → f x ≡ Err stop → StopsIn r f stop

pub bind_err : {A B : Type 0} (r : Result A Stop) (f : A → Result B Stop) (stop : Stop) → (r >>= f) ≡ Err stop → StopsIn r f stop
bind_err (Ok x) f stop e = Second x refl e
bind_err (Err d) f stop e = First cc

abbrev pub done : {A : Type 0} → A → Result A Stop
done x = Ok x

pub ok_is : {A : Type 0} (x y : A) → done x ≡ done y → x ≡ y
ok_is x y e = cc

abbrev pub stopped : Stop → Result (List ℕ × List ℕ) Stop
stopped stop = Err stop

pub err_is : (a b : Stop) → stopped a ≡ stopped b → a ≡ b
err_is a b e = cc

-- a test before a step
pub guard_ok : {A : Type 0} (b : Bool) (r : Result A Stop) (stop : Stop) (y : A) → cond b r (Err stop) ≡ Ok y → (b ≡ true) × (r ≡ Ok y)
guard_ok true r stop y e = (refl, e)
guard_ok false r stop y e = absurd cc

pub data Guarded {A : Type 0} (b : Bool) (r : Result A Stop) (here stop : Stop) : Type 0 where
  Refused : b ≡ false → here ≡ stop → Guarded b r here stop
  Passed : b ≡ true → r ≡ Err stop → Guarded b r here stop

pub guard_err : {A : Type 0} (b : Bool) (r : Result A Stop) (here stop : Stop) → cond b r (Err here) ≡ Err stop → Guarded b r here stop
guard_err true r here stop e = Passed refl e
guard_err false r here stop e = Refused refl cc

-- the laws of a form
pub record IsForm {A : Type 0} (f : Form A) : Type 0 where
  pub takes : (bytes : List ℕ) (x : A) (rest : List ℕ) → AreBytes bytes → f.read bytes ≡ Ok (x, rest) → (bytes ≡ f.text x ++ rest) × f.Fits x
  pub again : (x : A) (rest : List ℕ) → f.Fits x → f.read (f.text x ++ rest) ≡ Ok (x, rest)
  pub stops : (bytes : List ℕ) (stop : Stop) → AreBytes bytes → f.read bytes ≡ Err stop → StopsWith f bytes stop
  -- a text is that of its fields
  pub spelled : (x : A) → f.Fits x → fields_text (f.fields x) ≡ f.text x
  -- a text is bytes
  pub bytes : (x : A) → f.Fits x → AreBytes (f.text x)
  -- some value has a spelling
  pub some : (x : A) × f.Fits x

pub AreBytes-rest : (bytes prefix rest : List ℕ) → AreBytes bytes → bytes ≡ prefix ++ rest → AreBytes rest
AreBytes-rest bytes prefix rest are here = subst AreBytes (drop_at prefix rest (length prefix) refl) (subst (λ (all : List ℕ). AreBytes (drop (length prefix) all)) here (AreBytes-drop (length prefix) bytes are))
