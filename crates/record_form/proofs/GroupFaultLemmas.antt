-- What is decoded is what is spelled, and a fault is the first one.
use Rattle.std.proofs.Common.{◌≡◌, ◌≢◌, ◌↔◌, ℕ, ◌+◌, ◌-◌, ◌<◌, ◌≤◌, take, drop, append_assoc, length-append, length-drop, Bool, true, false, cond, List, [], ◌∷◌, ◌++◌, length, Option, Result, Ok, Err, None, Some, refl, sym, ap, subst, ◌∙◌, arith, ◌⊎◌, inl, inr, IfOk, MatchResult}
use Rattle.std.specs.Prelude.{◌==◌, IsErrOf}
use Rattle.std.proofs.lemmas.List.Concat.{flat_map-append}
use Rattle.std.proofs.lemmas.Bool.{cases_lt, lt-ltb, le-ltb, eqb-true, eqb-false}
use Rattle.std.proofs.lemmas.List.{append-nil, append_cancel_right, nil_from_length, take_all, take-append-drop}
use Rattle.byte_fields.proofs.NumbersLemmas.{AreBytes}
use Rattle.cache_key.specs.declared.request.Mutation.{Mutation}
use Rattle.record_form.specs.declared.fault.RecordFault.{RecordFault}
use Rattle.record_form.specs.declared.fault.RecordFault.TheVariants.{Short, Tag, Range, Name, NoMemory}
use Rattle.record_form.specs.Form.{FaultKind, TooShort, BadTag, OutOfRange, BadByte, Stop, FormField, Number, NameText, Utf8Text, field_text, fields_text, ◌>>=◌, reading_fault, stop_fault, fault_of}
use Rattle.record_form.specs.Prefix.{Begins, IsPossible, HasField, end_stop, StopsWithin, IsCutOf, StopsWith}
use Rattle.record_form.specs.GroupText.{group_form, group_text, group_fields, AreMutations, IsGroup, IsGroupText, most_group_bytes}
use Rattle.record_form.specs.GroupFault as group_fault
use Rattle.record_form.specs.GroupFault.{group_at, bytes_fault, or_too_long, group_fault, BeginsGroup, EndsWithin, IsWrongField, IsFaultInField, IsFaultAfter, IsFaultOfBytes, AreSpelled, IsFaultOfMore, IsFirstFault}
use Rattle.record_form.specs.Reads.{Refuses}
use Rattle.record_form.proofs.HeaderLemmas.{AreBytes-take, take_on}
use Rattle.record_form.proofs.FormLemmas.{bind_ok, bind_err, First, Second}
use Rattle.record_form.proofs.GroupTextLemmas.{group_is, group_in, group_out}

abbrev ended : List Mutation × List ℕ → Result (List Mutation) Stop
ended x = cond (length x.1 == 0) (Ok x.0) (Err (record { kind = OutOfRange; size = 1; left = x.1 }))

guard_ended : {A : Type 0} (b : Bool) (stop : Stop) (x y : A) → cond b (Ok x) (Err stop) ≡ Ok y → (b ≡ true) × (x ≡ y)
guard_ended true stop x y e = (refl, cc)
guard_ended false stop x y e = absurd cc

-- what is read is spelled so
pub group_takes : (payload : List ℕ) (ms : List Mutation) → AreBytes payload → group_at payload ≡ Ok ms → AreMutations ms × (payload ≡ group_text ms)
unfolding group_fault.group_at
group_takes payload ms are e =
    let a = bind_ok (group_form.read payload) ended ms e in
    let g = guard_ended (length a.0.1 == 0) (record { kind = OutOfRange; size = 1; left = a.0.1 }) a.0.0 ms a.2 in
    let t = group_is.takes payload a.0.0 a.0.1 are a.1 in
    let nothing : a.0.1 ≡ [] = nil_from_length a.0.1 (eqb-true (length a.0.1) 0 g.0) in
    let whole : payload ≡ group_text a.0.0 = t.0 ∙ ap (λ (l : List ℕ). group_text a.0.0 ++ l) nothing ∙ append-nil (group_text a.0.0) in
    subst (λ (l : List Mutation). AreMutations l × (payload ≡ group_text l)) g.1 (group_out a.0.0 t.1, whole)

-- what is spelled so is read
pub group_again : (payload : List ℕ) (ms : List Mutation) → AreMutations ms → payload ≡ group_text ms → group_at payload ≡ Ok ms
unfolding group_fault.group_at
group_again payload ms are is =
    let read : group_form.read payload ≡ Ok (ms, []) = ap group_form.read (is ∙ sym (append-nil (group_text ms))) ∙ group_is.again ms [] (group_in ms are) in
    ap (λ (r : Result (List Mutation × List ℕ) Stop). r >>= ended) read

-- bytes that aren't too many, and that are read, are a group
pub group_read : (payload : List ℕ) (ms : List Mutation) → AreBytes payload → length payload ≤ most_group_bytes → group_at payload ≡ Ok ms → IsGroupText payload ms
group_read payload ms are short is =
    let t = group_takes payload ms are is in
    record { group = record { are = t.0; size = omega (arith, ap length t.1) }; spelled = t.1 }

-- ---- how long a payload is

-- of a payload that isn't too long all is judged
pub short_fault : (payload : List ℕ) → length payload ≤ most_group_bytes → group_fault payload ≡ bytes_fault payload
unfolding group_fault.group_fault
short_fault payload short = ap (λ (b : Bool). or_too_long b (bytes_fault (take most_group_bytes payload))) (le-ltb most_group_bytes (length payload) short) ∙ ap bytes_fault (take_all most_group_bytes payload short)

-- and of a longer one as much as a group may have
pub long_fault : (payload : List ℕ) → most_group_bytes < length payload → group_fault payload ≡ or_too_long true (bytes_fault (take most_group_bytes payload))
unfolding group_fault.group_fault
long_fault payload long = ap (λ (b : Bool). or_too_long b (bytes_fault (take most_group_bytes payload))) (lt-ltb most_group_bytes (length payload) long)

never_faultless : (found : Option RecordFault) → or_too_long true found ≡ None → ⊥
never_faultless None e = absurd cc
never_faultless (Some (Short at)) e = absurd cc
never_faultless (Some (Tag at)) e = absurd cc
never_faultless (Some (Range at)) e = absurd cc
never_faultless (Some (Name at)) e = absurd cc
never_faultless (Some NoMemory) e = absurd cc

-- what has no fault isn't too long
pub faultless : (payload : List ℕ) → group_fault payload ≡ None → (length payload ≤ most_group_bytes) × (bytes_fault payload ≡ None)
faultless payload none =
    elim (cases_lt most_group_bytes (length payload)) [
      | inl long ↦ absurd (never_faultless (bytes_fault (take most_group_bytes payload)) (sym (long_fault payload long) ∙ none))
      | inr short ↦ (short, sym (short_fault payload short) ∙ none)
    ]

abbrev pub Judged : List ℕ → Result Unit RecordFault → Type 0
Judged bytes r = MatchResult r (λ done. bytes_fault bytes ≡ None) (λ fault. bytes_fault bytes ≡ Some fault)

-- what is judged of the first bytes, as many as a group may have, decides
pub short_judged : (payload : List ℕ) (r : Result Unit RecordFault) → length payload ≤ most_group_bytes → Judged (take most_group_bytes payload) r
    → MatchResult r (λ done. group_fault payload ≡ None) (λ fault. group_fault payload ≡ Some fault)
short_judged payload (Ok done) short is = short_fault payload short ∙ ap bytes_fault (sym (take_all most_group_bytes payload short)) ∙ is
short_judged payload (Err fault) short is = short_fault payload short ∙ ap bytes_fault (sym (take_all most_group_bytes payload short)) ∙ is

pub long_judged : (payload : List ℕ) (r : Result Unit RecordFault) (fault : RecordFault) → most_group_bytes < length payload → Judged (take most_group_bytes payload) r
    → MatchResult r (λ done. Some fault ≡ or_too_long true None) (λ found. Some fault ≡ or_too_long true (Some found)) → group_fault payload ≡ Some fault
long_judged payload (Ok done) fault long is found = long_fault payload long ∙ ap (or_too_long true) is ∙ sym found
long_judged payload (Err first) fault long is found = long_fault payload long ∙ ap (or_too_long true) is ∙ sym found

-- a group has no fault, and is read
pub group_found : (payload : List ℕ) (ms : List Mutation) → IsGroupText payload ms → (group_fault payload ≡ None) × (group_at payload ≡ Ok ms)
group_found payload ms is =
    let read = group_again payload ms is.group.are is.spelled in
    (short_fault payload (omega (arith, ap length is.spelled, is.group.size)) ∙ ap (reading_fault payload) read, read)

-- mutations after their count have one spelling
abbrev found : List Mutation → Result (List Mutation) Stop
found ms = Ok ms

same_found : (a b : List Mutation) → found a ≡ found b → a ≡ b
same_found a b e = cc

pub group_text-injective : (a b : List Mutation) → IsGroup a → IsGroup b → group_text a ≡ group_text b → a ≡ b
group_text-injective a b is also same = same_found a b (sym (group_again (group_text a) a is.are refl) ∙ group_again (group_text a) b also.are same)

-- a spelling is bytes
pub AreBytes-group_text : (ms : List Mutation) → IsGroup ms → AreBytes (group_text ms)
AreBytes-group_text ms is = group_is.bytes ms (group_in ms is.are)

-- ---- what a decoder answers

-- what was read of the bytes, their fault, or that memory ran out where there is none
abbrev pub Decoded : List ℕ → Result (List Mutation) RecordFault → Type 0
Decoded payload r =
    MatchResult r
    (λ ms. (group_at payload ≡ Ok ms) × (length payload ≤ most_group_bytes))
    (λ fault. (group_fault payload ≡ Some fault) ⊎ ((group_fault payload ≡ None) × (fault ≡ NoMemory)))

pub decoded_text : (payload : List ℕ) (r : Result (List Mutation) RecordFault) → AreBytes payload → Decoded payload r → IfOk r (λ group. IsGroupText payload group)
decoded_text payload (Ok ms) are is = group_read payload ms are is.1 is.0
decoded_text payload (Err fault) are is = tt

no_fault : (payload : List ℕ) (ms : List Mutation) → length payload ≤ most_group_bytes → group_at payload ≡ Ok ms → group_fault payload ≡ None
no_fault payload ms short is = short_fault payload short ∙ ap (reading_fault payload) is

pub decoded_value : (payload : List ℕ) (r : Result (List Mutation) RecordFault) → Decoded payload r → (ms : List Mutation) → IsGroupText payload ms → (r ≡ Ok ms) ⊎ (r ≡ Err NoMemory)
decoded_value payload (Ok group) is ms spelled = inl (ap Ok (same_found group ms (sym is.0 ∙ (group_found payload ms spelled).1)))
decoded_value payload (Err fault) (inl is) ms spelled = let none = (group_found payload ms spelled).0 in absurd cc
decoded_value payload (Err fault) (inr is) ms spelled = inr (ap Err is.1)

fault_never : (kind : FaultKind) (offset : ℕ) → fault_of kind offset ≢ NoMemory
fault_never TooShort offset e = absurd cc
fault_never BadTag offset e = absurd cc
fault_never OutOfRange offset e = absurd cc
fault_never BadByte offset e = absurd cc

stopped_so : (bytes : List ℕ) (r : Result (List Mutation) Stop) (fault : RecordFault) → reading_fault bytes r ≡ Some fault → (stop : Stop) × (r ≡ Err stop) × (stop_fault bytes stop ≡ fault)
stopped_so bytes (Ok ms) fault e = absurd cc
stopped_so bytes (Err stop) fault e = (stop, refl, cc)

-- running out of memory is no fault of bytes
bytes_no_memory : (bytes : List ℕ) → bytes_fault bytes ≢ Some NoMemory
bytes_no_memory bytes is =
    let s = stopped_so bytes (group_at bytes) NoMemory is in
    fault_never s.0.kind (length bytes - length s.0.left) s.2

memory_before : (found : Option RecordFault) → or_too_long true found ≡ Some NoMemory → found ≡ Some NoMemory
memory_before None e = absurd cc
memory_before (Some (Short at)) e = absurd cc
memory_before (Some (Tag at)) e = absurd cc
memory_before (Some (Range at)) e = absurd cc
memory_before (Some (Name at)) e = absurd cc
memory_before (Some NoMemory) e = refl

pub fault_is_of_bytes : (payload : List ℕ) → group_fault payload ≢ Some NoMemory
fault_is_of_bytes payload is =
    elim (cases_lt most_group_bytes (length payload)) [
      | inl long ↦ bytes_no_memory (take most_group_bytes payload) (memory_before (bytes_fault (take most_group_bytes payload)) (sym (long_fault payload long) ∙ is))
      | inr short ↦ bytes_no_memory payload (sym (short_fault payload short) ∙ is)
    ]

pub decoded_fault : (payload : List ℕ) (r : Result (List Mutation) RecordFault) → Decoded payload r → (fault : RecordFault) → fault ≢ NoMemory → (IsErrOf r fault ↔ (group_fault payload ≡ Some fault))
decoded_fault payload (Ok group) is fault other = let none = no_fault payload group is.1 is.0 in (λ e. absurd cc, λ e. absurd cc)
decoded_fault payload (Err first) (inl is) fault other = (λ e. let same : first ≡ fault = cc in is ∙ ap Some same, λ e. let same : Some first ≡ Some fault = sym is ∙ e in cc)
decoded_fault payload (Err first) (inr is) fault other = let none = is.0 in let same = is.1 in (λ e. let one : first ≡ fault = cc in absurd (other (sym one ∙ same)), λ e. absurd cc)

pub decoded_memory : (payload : List ℕ) (r : Result (List Mutation) RecordFault) → Decoded payload r → IsErrOf r NoMemory → group_fault payload ≡ None
decoded_memory payload (Ok group) is e = absurd cc
decoded_memory payload (Err fault) (inl is) e = let same : fault ≡ NoMemory = cc in absurd (fault_is_of_bytes payload (is ∙ ap Some same))
decoded_memory payload (Err fault) (inr is) e = is.0

-- where the bytes have no fault, only memory can have run out
pub refused_memory : (payload : List ℕ) (fault : RecordFault) → group_fault payload ≡ None → Refuses fault payload (group_at payload) → fault ≡ NoMemory
refused_memory payload fault none (inl is) = is
refused_memory payload fault none (inr is) = let also = (faultless payload none).1 in absurd cc

-- what has no fault is a group
read_so_far : (bytes : List ℕ) (r : Result (List Mutation) Stop) → reading_fault bytes r ≡ None → (ms : List Mutation) × (r ≡ Ok ms)
read_so_far bytes (Ok ms) none = (ms, refl)
read_so_far bytes (Err stop) none = absurd cc

pub faultless_group : (payload : List ℕ) → AreBytes payload → group_fault payload ≡ None → (ms : List Mutation) × IsGroupText payload ms
faultless_group payload are none =
    let f = faultless payload none in
    let r = read_so_far payload (group_at payload) f.1 in
    (r.0, group_read payload r.0 are f.0 r.1)

-- ---- the first fault

begins_group : (prefix : List ℕ) → Begins group_form prefix → BeginsGroup prefix
begins_group prefix b = (b.0, b.1, group_out b.0 b.2, b.3)

possible_group : (prefix : List ℕ) → BeginsGroup prefix → IsPossible group_form prefix
possible_group prefix b = (b.0, b.1, [], group_in b.0 b.2, b.3 ∙ sym (append-nil (group_text b.0)))

-- the bytes end within a number
number_cut : (kind : FaultKind) (size number : ℕ) (before rest bytes : List ℕ) → bytes ≡ before ++ rest → length rest < size → IsWrongField before (Number kind size number) rest (stop_fault bytes end_stop)
number_cut kind size number before rest bytes split few =
    let offset : length bytes - 0 ≡ length before + length rest = omega (arith, ap length split, length-append before rest) in
    inl (few, ap Short offset)

-- or within a text
text_ends : (text before rest bytes prefix cut : List ℕ) (stop : Stop) → bytes ≡ before ++ rest → bytes ≡ prefix ++ (cut ++ stop.left) → Begins group_form prefix
    → (stop.kind ≡ TooShort → (stop.left ≡ []) × (cut ≡ [])) → length rest < length text → stop ≡ end_stop → EndsWithin before text rest (stop_fault bytes stop)
text_ends text before rest bytes prefix cut stop split parts begins early few is =
    let e = early (ap (λ (s : Stop). s.kind) is) in
    let same : before ++ rest ≡ prefix = sym split ∙ parts ∙ (λ i. prefix ++ (e.1 i ++ e.0 i)) ∙ append-nil prefix in
    let offset : length bytes - 0 ≡ length before + length rest = omega (arith, ap length split, length-append before rest) in
    record { few = few; fault_is = ap (stop_fault bytes) is ∙ ap Short offset; begins = subst BeginsGroup (sym same) (begins_group prefix begins) }

-- why nothing begins with what is there
abbrev NothingBegins : List ℕ → List ℕ → Stop → Type 0
NothingBegins prefix cut stop = stop.kind ≢ TooShort → (cut ≡ []) × (stop.size ≤ 4) × (IsPossible group_form (prefix ++ take stop.size stop.left) → ⊥)

number_refused : (kind : FaultKind) (size number : ℕ) (before rest bytes prefix cut : List ℕ) (stop : Stop) → bytes ≡ before ++ rest → bytes ≡ prefix ++ (cut ++ stop.left) → NothingBegins prefix cut stop
    → size ≤ length rest → kind ≢ TooShort → stop ≡ record { kind = kind; size = size; left = rest } → IsWrongField before (Number kind size number) rest (stop_fault bytes stop)
number_refused kind size number before rest bytes prefix cut stop split parts nothing enough other is =
    let p : bytes ≡ prefix ++ (cut ++ rest) = subst (λ (s : Stop). bytes ≡ prefix ++ (cut ++ s.left)) is parts in
    let n = subst (NothingBegins prefix cut) is nothing other in
    let same : prefix ≡ before = append_cancel_right prefix before rest (ap (λ (l : List ℕ). prefix ++ (l ++ rest)) (sym n.0) ∙ sym p ∙ split) in
    let offset : length bytes - length rest ≡ length before = omega (arith, ap length split, length-append before rest) in
    inr (enough, ap (stop_fault bytes) is ∙ ap (fault_of kind) offset, λ b. n.2 (subst (λ (l : List ℕ). IsPossible group_form (l ++ take size rest)) (sym same) (possible_group (before ++ take size rest) b)))

text_refused : (at size : ℕ) (before rest bytes prefix cut : List ℕ) (stop : Stop) → bytes ≡ before ++ rest → bytes ≡ prefix ++ (cut ++ stop.left) → NothingBegins prefix cut stop → Begins group_form prefix
    → at < length rest → stop ≡ record { kind = BadByte; size = size; left = drop at rest }
    → (stop_fault bytes stop ≡ Name (length before + at)) × BeginsGroup (before ++ take at rest) × (BeginsGroup (before ++ take (at + size) rest) → ⊥)
text_refused at size before rest bytes prefix cut stop split parts nothing begins there is =
    let left = drop at rest in
    let p : bytes ≡ prefix ++ (cut ++ left) = subst (λ (s : Stop). bytes ≡ prefix ++ (cut ++ s.left)) is parts in
    let n = subst (NothingBegins prefix cut) is nothing (λ e. absurd cc) in
    let whole : bytes ≡ (before ++ take at rest) ++ left = split ∙ ap (λ (l : List ℕ). before ++ l) (sym (take-append-drop at rest)) ∙ sym (append_assoc before (take at rest) left) in
    let same : prefix ≡ before ++ take at rest = append_cancel_right prefix (before ++ take at rest) left (ap (λ (l : List ℕ). prefix ++ (l ++ left)) (sym n.0) ∙ sym p ∙ whole) in
    let longer : before ++ take (at + size) rest ≡ prefix ++ take size left =
    ap (λ (l : List ℕ). before ++ l) (take_on rest at size) ∙ sym (append_assoc before (take at rest) (take size left)) ∙ ap (λ (l : List ℕ). l ++ take size left) (sym same) in
    let offset : length bytes - length left ≡ length before + at = omega (arith, ap length split, length-append before rest, length-drop at rest, there) in
    (ap (stop_fault bytes) is ∙ ap Name offset, subst BeginsGroup same (begins_group prefix begins), λ b. n.2 (possible_group (prefix ++ take size left) (subst BeginsGroup longer b)))

wrong_field : (field : FormField) (before rest bytes prefix cut : List ℕ) (stop : Stop) → bytes ≡ before ++ rest → bytes ≡ prefix ++ (cut ++ stop.left) → Begins group_form prefix
    → (stop.kind ≡ TooShort → (stop.left ≡ []) × IsCutOf field cut) → NothingBegins prefix cut stop → StopsWithin field rest stop → IsWrongField before field rest (stop_fault bytes stop)
wrong_field (Number kind size number) before rest bytes prefix cut stop split parts begins early nothing (inl w) =
    subst (λ (s : Stop). IsWrongField before (Number kind size number) rest (stop_fault bytes s)) (sym w.1) (number_cut kind size number before rest bytes split w.0)
wrong_field (Number kind size number) before rest bytes prefix cut stop split parts begins early nothing (inr w) =
    number_refused kind size number before rest bytes prefix cut stop split parts nothing w.0 w.1 w.2
wrong_field (NameText text) before rest bytes prefix cut stop split parts begins early nothing (inl w) = inl (text_ends text before rest bytes prefix cut stop split parts begins early w.0 w.1)
wrong_field (NameText text) before rest bytes prefix cut stop split parts begins early nothing (inr w) =
    let t = text_refused w.0 1 before rest bytes prefix cut stop split parts nothing begins w.2 w.3 in
    inr (record { at = w.0; inside = w.1; there = w.2; fault_is = t.0; begins = t.1; nothing = t.2 })
wrong_field (Utf8Text text) before rest bytes prefix cut stop split parts begins early nothing (inl w) = inl (text_ends text before rest bytes prefix cut stop split parts begins early w.0 w.1)
wrong_field (Utf8Text text) before rest bytes prefix cut stop split parts begins early nothing (inr w) =
    let t = text_refused w.0 4 before rest bytes prefix cut stop split parts nothing begins w.2 w.3 in
    inr (record { at = w.0; inside = w.1; there = w.2; fault_is = t.0; valid = w.4; longest = w.5; begins = t.1; nothing = t.2 })

-- fields that come first in mutations begin them
begins_earlier : (earlier : List FormField) (field : FormField) → HasField group_form earlier field → BeginsGroup (fields_text earlier)
begins_earlier earlier field h = (
  h.0,
  fields_text (field ∷ h.1),
  group_out h.0 h.2,
  sym (flat_map-append field_text earlier (field ∷ h.1)) ∙ ap fields_text (sym h.3) ∙ group_is.spelled h.0 h.2,
)

first_in : (bytes : List ℕ) (stop : Stop) → StopsWith group_form bytes stop → IsFaultInField bytes (stop_fault bytes stop)
first_in bytes stop s = record {
  earlier = s.earlier;
  field = s.field;
  rest = s.rest;
  has = (s.has.0, s.has.1, group_out s.has.0 s.has.2, s.has.3);
  split = s.split;
  begins = begins_earlier s.earlier s.field s.has;
  wrong = wrong_field s.field (fields_text s.earlier) s.rest bytes s.before s.cut stop s.split s.parts s.begins s.early s.nothing s.within;
}

abbrev trailing : List ℕ → Stop
trailing rest = record { kind = OutOfRange; size = 1; left = rest }

one_nil : (rest after : List ℕ) → take 1 rest ++ after ≡ [] → length rest ≡ 0
one_nil [] after e = refl
one_nil (x ∷ rest) after e = absurd cc

abbrev read_so : List Mutation × List ℕ → Result (List Mutation × List ℕ) Stop
read_so x = Ok x

read_is : (a b : List Mutation × List ℕ) → read_so a ≡ read_so b → a ≡ b
read_is a b e = cc

first_after : (bytes : List ℕ) (ms : List Mutation) (rest : List ℕ) → bytes ≡ group_text ms ++ rest → group_form.Fits ms → length rest ≢ 0 → IsFaultAfter bytes (stop_fault bytes (trailing rest))
first_after bytes ms rest here fits some =
    let long = ap length here ∙ length-append (group_text ms) rest in
    let offset : length bytes - length rest ≡ length (group_text ms) = omega (arith, long) in
    record {
      mutations = ms;
      rest = rest;
      are = group_out ms fits;
      split = here;
      some = omega (arith, some);
      fault_is = ap Range offset;
      nothing = λ b.
          let grouped : group_text ms ++ (take 1 rest ++ b.1) ≡ group_text b.0 ++ [] = sym (append_assoc (group_text ms) (take 1 rest) b.1) ∙ b.3 ∙ sym (append-nil (group_text b.0)) in
          let same = read_is (ms, take 1 rest ++ b.1) (b.0, []) (sym (group_is.again ms (take 1 rest ++ b.1) fits) ∙ ap group_form.read grouped ∙ group_is.again b.0 [] (group_in b.0 b.2)) in
          some (one_nil rest b.1 (ap (λ (x : List Mutation × List ℕ). x.1) same));
    }

abbrev stopped_group : Stop → Result (List Mutation) Stop
stopped_group stop = Err stop

ended_err : (b : Bool) (x : List Mutation) (here stop : Stop) → cond b (Ok x) (Err here) ≡ stopped_group stop → (b ≡ false) × (here ≡ stop)
ended_err true x here stop e = absurd cc
ended_err false x here stop e = (refl, cc)

stops_first : (bytes : List ℕ) (stop : Stop) → AreBytes bytes → group_at bytes ≡ Err stop → IsFaultOfBytes bytes (stop_fault bytes stop)
unfolding group_fault.group_at
stops_first bytes stop are e =
    elim (bind_err (group_form.read bytes) ended stop e) [
      | First first ↦ inl (first_in bytes stop (group_is.stops bytes stop are first))
      | Second x ok later ↦
          let t = group_is.takes bytes x.0 x.1 are ok in
          let g = ended_err (length x.1 == 0) x.0 (trailing x.1) stop later in
          subst (λ s. IsFaultOfBytes bytes (stop_fault bytes s)) g.1 (inr (first_after bytes x.0 x.1 t.0 t.1 (eqb-false (length x.1) 0 g.0)))
    ]

bytes_first : (bytes : List ℕ) (fault : RecordFault) → AreBytes bytes → bytes_fault bytes ≡ Some fault → IsFaultOfBytes bytes fault
bytes_first bytes fault are is =
    let s = stopped_so bytes (group_at bytes) fault is in
    subst (IsFaultOfBytes bytes) s.2 (stops_first bytes s.0 are s.1)

-- where more bytes follow
spelled_first : (bytes : List ℕ) → AreBytes bytes → bytes_fault bytes ≡ None → AreSpelled bytes
spelled_first bytes are none =
    let r = read_so_far bytes (group_at bytes) none in
    let t = group_takes bytes r.0 are r.1 in
    (r.0, t.0, t.1)

more_first : (bytes : List ℕ) (fault : RecordFault) → AreBytes bytes → (found : Option RecordFault) → bytes_fault bytes ≡ found → or_too_long true found ≡ Some fault → IsFaultOfMore bytes fault
more_first bytes fault are None is so = inl (cc, inl (spelled_first bytes are is))
more_first bytes fault are (Some (Short at)) is so = inl (cc, inr (at, bytes_first bytes (Short at) are is))
more_first bytes fault are (Some (Tag at)) is so = let same : Tag at ≡ fault = cc in inr (λ end e. absurd cc, subst (IsFaultOfBytes bytes) same (bytes_first bytes (Tag at) are is))
more_first bytes fault are (Some (Range at)) is so = let same : Range at ≡ fault = cc in inr (λ end e. absurd cc, subst (IsFaultOfBytes bytes) same (bytes_first bytes (Range at) are is))
more_first bytes fault are (Some (Name at)) is so = let same : Name at ≡ fault = cc in inr (λ end e. absurd cc, subst (IsFaultOfBytes bytes) same (bytes_first bytes (Name at) are is))
more_first bytes fault are (Some NoMemory) is so = absurd (bytes_no_memory bytes is)

pub first_fault : (payload : List ℕ) (fault : RecordFault) → AreBytes payload → group_fault payload ≡ Some fault → IsFirstFault payload fault
first_fault payload fault are is =
    elim (cases_lt most_group_bytes (length payload)) [
      | inl long ↦
          let within = take most_group_bytes payload in
          inr (long, more_first within fault (AreBytes-take most_group_bytes payload are) (bytes_fault within) refl (sym (long_fault payload long) ∙ is))
      | inr short ↦ inl (short, bytes_first payload fault are (sym (short_fault payload short) ∙ is))
    ]

pub fields_spelled : (ms : List Mutation) → AreMutations ms → fields_text (group_fields ms) ≡ group_text ms
fields_spelled ms are = group_is.spelled ms (group_in ms are)
