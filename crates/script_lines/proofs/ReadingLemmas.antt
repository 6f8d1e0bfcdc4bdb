-- Laws of the results of reading, and of shapes.
use Rattle.std.proofs.Common.{◌≡◌, ℕ, ◌≤◌, ◌<◌, ◌↔◌, List, [], length, get_or, Some, Result, Ok, Err, IsErrOf, false, refl, sym, ap, ◌∙◌, subst, arith}
use Rattle.std.proofs.lemmas.List.Elements.{All-get_or}
use Rattle.std.proofs.lemmas.Result.{err_from_is_err_and}
use Rattle.std.specs.Result.{IsErrAnd}
use Rattle.serde_json.specs.Data.{Data, null, boolean, number, string, array, object}
use Rattle.serde_json.specs.Find.{as_str}
use Rattle.cache_key.specs.Names.{most_name_bytes, is_name_byte, IsNameByte, IsName, IsFirstBadByte}
use Rattle.cache_key.specs.declared.fault.NameFault.{NameFault}
use Rattle.cache_key.specs.declared.fault.NameFault.TheVariants as names
use Rattle.script_lines.specs.Faults.{IsOfForm, IsFaultOfText}
use Rattle.script_lines.specs.Reading.{Reads, IsTextOf}
use Rattle.script_lines.specs.declared.fault.LineFault.{LineFault}
use Rattle.script_lines.specs.declared.fault.LineFault.TheVariants.{Form, NoMemory}

-- a name has no byte outside its alphabet
pub no_bad_byte : (text : List ℕ) (at : ℕ) → IsFirstBadByte text at → IsName text → ⊥
no_bad_byte text at first name =
    let good : IsNameByte (get_or text at 0) = All-get_or IsNameByte text at 0 first.within name.alphabet in
    let bad : is_name_byte (get_or text at 0) ≡ false = first.bad in
    grind arith

-- a part that is refused refuses the whole, if the whole has such a part
pub Reads-refused : {X Y : Type 0} (P : X → Type 0) (Q : Y → Type 0) (below : Result X LineFault) (above : Result Y LineFault) (fault : LineFault)
    → Reads P below → below ≡ Err fault → above ≡ Err fault → ((y : Y) → Q y → (x : X) × P x) → Reads Q above
Reads-refused {X} {Y} P Q below above (Form reason) reads was is has =
    let none : (x : X) → P x → ⊥ = subst (Reads P) was reads in
    let told : (y : Y) → Q y → ⊥ = λ y q. none (has y q).0 (has y q).1 in
    subst (Reads Q) (sym is) told
Reads-refused P Q below above NoMemory reads was is has = subst (Reads Q) (sym is) tt

-- the same at the exit of a `?`
pub Reads-handed_on : {X Y : Type 0} (P : X → Type 0) (Q : Y → Type 0) (below : Result X LineFault) (above : Result Y LineFault) (fault : LineFault)
    → Reads P below → below ≡ Err fault → IsErrAnd above (λ e. e ≡ fault) → ((y : Y) → Q y → (x : X) × P x) → Reads Q above
Reads-handed_on {X} {Y} P Q below above fault reads was handed has =
    let p = err_from_is_err_and above handed in
    Reads-refused P Q below above p.0 reads (was ∙ ap Err (sym p.2)) p.1 has

-- what is refused by the form isn't there
pub refused : {X : Type 0} (P : X → Type 0) (fault : LineFault) → IsOfForm fault → ((x : X) → P x → ⊥) → Reads P (Err fault)
refused P (Form reason) form none = none
refused P NoMemory form none = absurd form

-- a result of reading is one of reading the same said otherwise
pub Reads-same : {X : Type 0} (P Q : X → Type 0) (r : Result X LineFault) → ((x : X) → P x → Q x) → ((x : X) → Q x → P x) → Reads P r → Reads Q r
Reads-same P Q (Ok x) to from reads = to x reads
Reads-same P Q (Err (Form reason)) to from reads = λ x is. reads x (from x is)
Reads-same P Q (Err NoMemory) to from reads = tt

-- a text that was refused as a name is none, running out of memory aside
pub name_refused : (d : Data) (text : List ℕ) (fault : NameFault) (e : LineFault)
    → d ≡ string text → IsFaultOfText fault e
    → (IsErrOf {T = List ℕ} (Err fault) names.Empty ↔ (text ≡ [])) → (IsErrOf {T = List ℕ} (Err fault) names.Long ↔ (most_name_bytes < length text))
    → ((at : ℕ) → IsErrOf {T = List ℕ} (Err fault) (names.BadByte at) ↔ ((length text ≤ most_name_bytes) × IsFirstBadByte text at))
    → Reads (IsTextOf IsName d) (Err e)
name_refused d text names.Empty e at_d told empty long bad =
    refused (IsTextOf IsName d) e told (λ name there.
    let same : name ≡ text = cc (there.is, at_d) in
    let least : 1 ≤ length name = there.limits.least in
    let zero_long : length name ≡ 0 = ap length (same ∙ empty.0 refl) in
    omega arith)
name_refused d text names.Long e at_d told empty long bad =
    refused (IsTextOf IsName d) e told (λ name there.
    let same : name ≡ text = cc (there.is, at_d) in
    let too_long : most_name_bytes < length text = long.0 refl in
    let most : length name ≤ most_name_bytes = there.limits.most in
    let lengths : length name ≡ length text = ap length same in
    omega arith)
name_refused d text (names.BadByte at) e at_d told empty long bad =
    refused (IsTextOf IsName d) e told (λ name there.
    let same : name ≡ text = cc (there.is, at_d) in
    no_bad_byte text at ((bad at).0 refl).1 (subst IsName same there.limits))
name_refused d text names.NoMemory e at_d told empty long bad =
    subst (λ f. Reads (IsTextOf IsName d) (Err f)) (sym told) tt

pub as_str-string : (d : Data) (text : List ℕ) → as_str d ≡ Some text → d ≡ string text
as_str-string null text e = cc
as_str-string (boolean b) text e = cc
as_str-string (number n) text e = cc
as_str-string (string s) text e = cc
as_str-string (array ds) text e = cc
as_str-string (object ms) text e = cc
