-- Readers that make nothing come to the same end.
use Rattle.std.proofs.Common.{◌≡◌, ◌≢◌, ℕ, suc, ◌+◌, ◌-◌, ◌<◌, ◌≤◌, Bool, false, cond, List, [], ◌∷◌, length, Result, Ok, Err, None, Some, refl, sym, ap, ◌∙◌, arith, length-drop}
use Rattle.std.specs.Prelude.{◌==◌}
use Rattle.std.proofs.lemmas.Bool.{ne_eqb}
use Rattle.std.proofs.lemmas.List.{nil_from_length}
use Rattle.byte_fields.specs.Reading.{Reading, rest_of}
use Rattle.cache_key.specs.declared.request.Mutation.{Mutation}
use Rattle.cache_key.specs.declared.request.Mutation.TheVariants.{Put, Remove, Batch}
use Rattle.record_form.specs.declared.fault.RecordFault.{RecordFault}
use Rattle.record_form.specs.declared.fault.RecordFault.TheVariants.{Range}
use Rattle.record_form.specs.Form.{Stop, ◌>>=◌, OutOfRange, stop_fault, reading_fault, read_many}
use Rattle.record_form.specs.Reads.{outcome}
use Rattle.record_form.specs.GroupText.{name_form, key_form, pair_form, pairs_form, put_form, remove_form, batch_form, group_form}
use Rattle.record_form.specs.GroupFault as group_fault
use Rattle.record_form.specs.GroupFault.{group_at, bytes_fault}

-- what is made of a value doesn't change where reading ends
abbrev mapped : {A B : Type 0} → (A → B) → A × List ℕ → Result (B × List ℕ) Stop
mapped to x = Ok (to x.0, x.1)

pub outcome_mapped : {A B : Type 0} (text : List ℕ) (r : Result (A × List ℕ) Stop) (to : A → B) → outcome text (r >>= mapped to) ≡ outcome text r
outcome_mapped text (Ok x) to = refl
outcome_mapped text (Err stop) to = refl

-- after a first part, the second decides
abbrev paired : {A B : Type 0} → A → B × List ℕ → Result ((A × B) × List ℕ) Stop
paired a y = Ok ((a, y.0), y.1)

outcome_second : {A B C : Type 0} (text : List ℕ) (r : Result (B × List ℕ) Stop) (a : A) (to : A × B → C) → outcome text ((r >>= paired a) >>= mapped to) ≡ outcome text r
outcome_second text (Ok y) a to = refl
outcome_second text (Err stop) a to = refl

pub outcome_put : (text bytes rest cache : List ℕ) → name_form.read bytes ≡ Ok (cache, rest) → outcome text (put_form.read bytes) ≡ outcome text (pair_form.read rest)
outcome_put text bytes rest cache is = rw is (outcome_second text (pair_form.read rest) cache (λ x. Put x.0 x.1.0 x.1.1))

pub outcome_remove : (text bytes rest cache : List ℕ) → name_form.read bytes ≡ Ok (cache, rest) → outcome text (remove_form.read bytes) ≡ outcome text (key_form.read rest)
outcome_remove text bytes rest cache is = rw is (outcome_second text (key_form.read rest) cache (λ x. Remove x.0 x.1))

pub outcome_batch : (text bytes rest cache : List ℕ) → name_form.read bytes ≡ Ok (cache, rest) → outcome text (batch_form.read bytes) ≡ outcome text (pairs_form.read rest)
outcome_batch text bytes rest cache is = rw is (outcome_second text (pairs_form.read rest) cache (λ x. Batch x.0 x.1))

-- ---- a form so many times

abbrev left_over : List ℕ → Result (List ℕ) RecordFault
left_over bytes = Ok bytes

same_left : (a b : List ℕ) → left_over a ≡ left_over b → a ≡ b
same_left a b e = cc

more_outcome : {A : Type 0} (text : List ℕ) (r : Result (A × List ℕ) Stop) (rest : List ℕ) (more : List ℕ → Result (List A × List ℕ) Stop) → outcome text r ≡ Ok rest
    → outcome text (r >>= λ x. more x.1 >>= λ xs. Ok (x.0 ∷ xs.0, xs.1)) ≡ outcome text (more rest)
more_outcome text (Ok x) rest more is = outcome_mapped text (more x.1) (λ xs. x.0 ∷ xs) ∙ ap (λ (l : List ℕ). outcome text (more l)) (same_left x.1 rest is)
more_outcome text (Err stop) rest more is = absurd cc

outcome_fails : {A B : Type 0} (text : List ℕ) (r : Result (A × List ℕ) Stop) (fault : RecordFault) (f : A × List ℕ → Result (B × List ℕ) Stop) → outcome text r ≡ Err fault
    → outcome text (r >>= f) ≡ Err fault
outcome_fails text (Ok x) fault f is = absurd cc
outcome_fails text (Err stop) fault f is = is

module _ {A : Type 0} (read : List ℕ → Result (A × List ℕ) Stop) (text : List ℕ) where
  pub none_skipped : (count : ℕ) (bytes : List ℕ) → outcome text (read_many read (count - 0) bytes) ≡ outcome text (read_many read count bytes)
  none_skipped count bytes = let k : count - 0 ≡ count = omega arith in ap (λ (n : ℕ). outcome text (read_many read n bytes)) k

  pub one_skipped : (count i : ℕ) (bytes rest : List ℕ) (total : Result (List ℕ) RecordFault) → i < count → outcome text (read bytes) ≡ Ok rest
      → outcome text (read_many read (count - i) bytes) ≡ total → outcome text (read_many read (count - (i + 1)) rest) ≡ total
  unfolding read_many
  one_skipped count i bytes rest total lt is so_far =
      let k : count - i ≡ suc (count - (i + 1)) = omega arith in
      sym (more_outcome text (read bytes) rest (read_many read (count - (i + 1))) is) ∙ ap (λ (n : ℕ). outcome text (read_many read n bytes)) (sym k) ∙ so_far

  pub skip_fails : (count i : ℕ) (bytes : List ℕ) (fault : RecordFault) (total : Result (List ℕ) RecordFault) → i < count → outcome text (read bytes) ≡ Err fault
      → outcome text (read_many read (count - i) bytes) ≡ total → total ≡ Err fault
  unfolding read_many
  skip_fails count i bytes fault total lt is so_far =
      let k : count - i ≡ suc (count - (i + 1)) = omega arith in
      sym so_far ∙ ap (λ (n : ℕ). outcome text (read_many read n bytes)) k
      ∙ outcome_fails text (read bytes) fault (λ x. read_many read (count - (i + 1)) x.1 >>= λ xs. Ok (x.0 ∷ xs.0, xs.1)) is

  pub all_skipped : (count i : ℕ) (bytes : List ℕ) (total : Result (List ℕ) RecordFault) → count ≤ i → outcome text (read_many read (count - i) bytes) ≡ total → total ≡ Ok bytes
  unfolding read_many
  all_skipped count i bytes total le so_far =
      let k : count - i ≡ 0 = omega arith in
      sym so_far ∙ ap (λ (n : ℕ). outcome text (read_many read n bytes)) k

-- ---- all the bytes

abbrev ended : List Mutation × List ℕ → Result (List Mutation) Stop
ended x = cond (length x.1 == 0) (Ok x.0) (Err (record { kind = OutOfRange; size = 1; left = x.1 }))

ended_fault : (payload : List ℕ) (r : Result (List Mutation × List ℕ) Stop) (fault : RecordFault) → outcome payload r ≡ Err fault → reading_fault payload (r >>= ended) ≡ Some fault
ended_fault payload (Ok x) fault is = absurd cc
ended_fault payload (Err stop) fault is = let same : stop_fault payload stop ≡ fault = cc in ap Some same

pub fault_there : (payload : List ℕ) (fault : RecordFault) → outcome payload (group_form.read payload) ≡ Err fault → bytes_fault payload ≡ Some fault
unfolding group_fault.group_at
fault_there payload fault is = ended_fault payload (group_form.read payload) fault is

ended_none : (payload rest : List ℕ) (r : Result (List Mutation × List ℕ) Stop) → outcome payload r ≡ Ok rest → rest ≡ [] → reading_fault payload (r >>= ended) ≡ None
ended_none payload rest (Ok x) is none = let left : x.1 ≡ [] = same_left x.1 rest is ∙ none in ap (λ (l : List ℕ). reading_fault payload (ended (x.0, l))) left
ended_none payload rest (Err stop) is none = absurd cc

pub none_left : (payload rest : List ℕ) → outcome payload (group_form.read payload) ≡ Ok rest → rest ≡ [] → bytes_fault payload ≡ None
unfolding group_fault.group_at
none_left payload rest is none = ended_none payload rest (group_form.read payload) is none

length_some : (rest : List ℕ) → rest ≢ [] → length rest ≢ 0
length_some rest some none = some (nil_from_length rest none)

ended_some : (payload rest : List ℕ) (r : Result (List Mutation × List ℕ) Stop) → outcome payload r ≡ Ok rest → rest ≢ [] → reading_fault payload (r >>= ended) ≡ Some (Range (length payload - length rest))
ended_some payload rest (Ok x) is some =
    let left = same_left x.1 rest is in
    let never : (length x.1 == 0) ≡ false = ne_eqb (length x.1) 0 (length_some x.1 (λ none. some (sym left ∙ none))) in
    ap (λ (b : Bool). reading_fault payload (cond b (Ok x.0) (Err (record { kind = OutOfRange; size = 1; left = x.1 })))) never ∙ ap (λ (l : List ℕ). Some (Range (length payload - length l))) left
ended_some payload rest (Err stop) is some = absurd cc

pub some_left : (payload : List ℕ) (old : Reading) (offset : ℕ) → outcome payload (group_form.read payload) ≡ Ok (rest_of old) → old.text ≡ payload → old.offset ≡ offset → offset ≤ length payload → rest_of old ≢ []
    → bytes_fault payload ≡ Some (Range offset)
unfolding group_fault.group_at
some_left payload old offset is text here within some =
    let there : length payload - length (rest_of old) ≡ offset = omega (arith, length-drop old.offset old.text, ap length text) in
    ended_some payload (rest_of old) (group_form.read payload) is some ∙ ap (λ (n : ℕ). Some (Range n)) there
