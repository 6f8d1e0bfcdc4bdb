-- A roster's file has no fault, and what has none is a roster's file.
use Rattle.std.proofs.Common.{◌≡◌, ◌⊎◌, ⊎_elim, ℕ, ◌+◌, ◌*◌, ◌^◌, ◌<◌, ◌≤◌, Bool, true, false, cond, ◌&&◌, ◌||◌, nat_lt, List, [], ◌∷◌, ◌++◌, length, take, drop, All, Option, None, Some, refl, sym, ap, ◌∙◌, subst, arith, inl, inr}
use Rattle.std.specs.Prelude.{◌==◌}
use Rattle.std.proofs.lemmas.Bool.{ltb-true, ltb-false, leb-true, lt-ltb, le-leb, le-ltb, eqb-true}
use Rattle.std.proofs.lemmas.List.{take-append-drop, append-nil}
use Rattle.byte_fields.specs.Numbers as numbers
use Rattle.byte_fields.specs.Numbers.{big_endian, bytes_of, bytes8, bytes16, bytes32, bytes64, number_in}
use Rattle.byte_fields.proofs.NumbersLemmas.{AreBytes, big_endian-lt, big_endian-bytes_of, length-bytes_of, same_prefix}
use Rattle.byte_fields.specs.Reading.{Reading, rest_of, Passes}
use Rattle.cache_key.specs.Names.{IsName}
use Rattle.record_form.proofs.HeaderLemmas.{spelled_on, number_again, both_true, are_both, AreBytes-take}
use Rattle.roster_form.specs.Membership.{Host, most_hosts, epoch_end, MayJoin, IsRoster}
use Rattle.roster_form.specs.RosterText.{roster_magic, roster_format, none_joining, joining_byte, roster_head, names_text, roster_file, IsRosterText}
use Rattle.roster_form.specs.RosterFault.{is_epoch, is_joining, is_host_count, head_fields, first_wrong_field, names_fault, fault_or, roster_fault, joining_in}
use Rattle.roster_form.specs.declared.head.HeadField.{HeadField}
use Rattle.roster_form.specs.declared.roster.Roster.{Roster}
use Rattle.roster_form.proofs.NamesLemmas.{one_byte, none_or, rising-from_each, rises_from_none, AreSpelled, names_found, names_again, names_text-injective}

-- ---- the fields of the head

abbrev AreRight : List ℕ → List HeadField → Type 0
AreRight text [] = Unit {0}
AreRight text (field ∷ fields) = (field.at + field.size ≤ length text) × (field.right ≡ true) × AreRight text fields

no_fault_in : (cut right : Bool) (end at : ℕ) (others : Option ℕ) → cond cut (Some end) (cond right others (Some at)) ≡ None → (cut ≡ false) × (right ≡ true) × (others ≡ None)
no_fault_in true right end at others e = absurd cc
no_fault_in false true end at others e = (refl, refl, e)
no_fault_in false false end at others e = absurd cc

fields_right : (text : List ℕ) (fields : List HeadField) → first_wrong_field text fields ≡ None → AreRight text fields
fields_right text [] e = tt
fields_right text (field ∷ fields) e =
    let first = no_fault_in (nat_lt (length text) (field.at + field.size)) field.right (length text) field.at (first_wrong_field text fields) e in
    (ltb-false (length text) (field.at + field.size) first.0, first.1, fields_right text fields first.2)

fields_pass : (text : List ℕ) (fields : List HeadField) → AreRight text fields → first_wrong_field text fields ≡ None
fields_pass text [] are = refl
fields_pass text (field ∷ fields) are =
    ap (λ (b : Bool). cond b (Some (length text)) (cond field.right (first_wrong_field text fields) (Some field.at))) (le-ltb (length text) (field.at + field.size) are.0)
    ∙ ap (λ (b : Bool). cond b (first_wrong_field text fields) (Some field.at)) are.1
    ∙ fields_pass text fields are.2

-- ---- the joining host

or_cases : (a b : Bool) → (a || b) ≡ true → (a ≡ true) ⊎ (b ≡ true)
or_cases true b e = inl refl
or_cases false b e = inr e

is_or : (a b : Bool) → b ≡ true → (a || b) ≡ true
is_or true b e = refl
is_or false b e = e

in_or_not : (b : Bool) (n : ℕ) → (n == none_joining) ≡ b → joining_byte (cond b None (Some n)) ≡ n
in_or_not true n e = sym (eqb-true n none_joining e)
in_or_not false n e = refl

joining_byte-joining_in : (n : ℕ) → joining_byte (joining_in n) ≡ n
joining_byte-joining_in n = in_or_not (n == none_joining) n refl

joins : (b : Bool) (epoch n count : ℕ) (hosts : List Host) → (n == none_joining) ≡ b → length hosts ≡ count → is_joining epoch n ≡ true → (n == none_joining || nat_lt n count) ≡ true → MayJoin epoch hosts (cond b None (Some n))
joins true epoch n count hosts e size index reached = tt
joins false epoch n count hosts e size index reached =
    let not : (n == none_joining) ≡ true → ⊥ = λ is. let f : false ≡ true = sym e ∙ is in cc in
    let within = ⊎_elim (λ is. absurd (not is)) (λ is. is) (or_cases (n == none_joining) (nat_lt n count) reached) in
    let both = ⊎_elim (λ is. absurd (not is)) (λ is. both_true (nat_lt n most_hosts) (nat_lt (epoch + 1) epoch_end) is) (or_cases (n == none_joining) (nat_lt n most_hosts && nat_lt (epoch + 1) epoch_end) index) in
    (let below = ltb-true n count within in omega (arith, below, size), ltb-true (epoch + 1) epoch_end both.1)

joining_below : (roster : Roster) → IsRoster roster → joining_byte roster.joining < 256
joining_below roster is = go roster.joining is.joining
  where
    go : (joining : Option ℕ) → MayJoin roster.epoch roster.hosts joining → joining_byte joining < 256
    go None may = omega arith
    go (Some index) may = let below = may.0 in omega (arith, below, is.most)

joining_once : (epoch : ℕ) (hosts : List Host) (one other : Option ℕ) → length hosts ≤ 16 → MayJoin epoch hosts one → MayJoin epoch hosts other → joining_byte one ≡ joining_byte other → one ≡ other
joining_once epoch hosts None None most may also e = refl
joining_once epoch hosts None (Some index) most may also e = absurd (let below = also.0 in omega (arith, below, most, e))
joining_once epoch hosts (Some index) None most may also e = absurd (let below = may.0 in omega (arith, below, most, e))
joining_once epoch hosts (Some index) (Some second) most may also e = ap (λ (n : ℕ). Some n) e

-- ---- what has no fault is a roster's file

head_spelled : (text : List ℕ) (roster : Roster) → AreBytes text → 41 ≤ length text → number_in text 1 4 ≡ roster_magic → number_in text 5 2 ≡ roster_format → number_in text 7 2 ≡ roster.partitions
    → number_in text 9 8 ≡ roster.epoch → number_in text 17 1 ≡ joining_byte roster.joining → number_in text 18 1 ≡ length roster.hosts → number_in text 19 4 ≡ 0 → number_in text 23 2 ≡ 0 → number_in text 25 2 ≡ 0
    → number_in text 27 2 ≡ 0 → number_in text 29 8 ≡ 0 → number_in text 37 4 ≡ 0 → (first : ℕ) → first ∷ [] ≡ take 1 text → first ∷ roster_head roster ≡ take 41 text
head_spelled text roster are long magic format partitions epoch joining count z1 z2 z3 z4 z5 z6 first here =
    let a = spelled_on text (first ∷ []) 1 4 roster_magic are (omega (arith, long)) here magic in
    let b = spelled_on text _ 5 2 roster_format are (omega (arith, long)) a format in
    let c = spelled_on text _ 7 2 roster.partitions are (omega (arith, long)) b partitions in
    let d = spelled_on text _ 9 8 roster.epoch are (omega (arith, long)) c epoch in
    let e = spelled_on text _ 17 1 (joining_byte roster.joining) are (omega (arith, long)) d joining in
    let f = spelled_on text _ 18 1 (length roster.hosts) are (omega (arith, long)) e count in
    let g = spelled_on text _ 19 4 0 are (omega (arith, long)) f z1 in
    let h = spelled_on text _ 23 2 0 are (omega (arith, long)) g z2 in
    let i = spelled_on text _ 25 2 0 are (omega (arith, long)) h z3 in
    let j = spelled_on text _ 27 2 0 are (omega (arith, long)) i z4 in
    let k = spelled_on text _ 29 8 0 are (omega (arith, long)) j z5 in
    spelled_on text _ 37 4 0 are (omega (arith, long)) k z6

first_byte : (text : List ℕ) → AreBytes text → 1 ≤ length text → number_in text 0 1 ∷ [] ≡ take 1 text
first_byte text are long =
    let below = big_endian-lt (take 1 text) (AreBytes-take 1 text are) in
    sym (one_byte (number_in text 0 1) (below_one text below)) ∙ spelled_on text [] 0 1 (number_in text 0 1) are long refl refl
  where
    below_one : (l : List ℕ) → big_endian (take 1 l) < 256 ^ length (take 1 l) → big_endian (take 1 l) < 256
    below_one [] below = omega (arith, below)
    below_one (byte ∷ rest) below = below

-- what the numbers of a text say, with these names
abbrev pub roster_with : ℕ → List ℕ → List Host → Roster
roster_with partitions text hosts = record { epoch = number_in text 9 8; hosts = hosts; joining = joining_in (number_in text 17 1); partitions = partitions }

pub record IsFound (partitions : ℕ) (text : List ℕ) : Type 0 where
  pub names : AreSpelled (number_in text 18 1) [] (drop 41 text)
  pub long : 41 ≤ length text
  pub holds : IsRosterText (roster_with partitions text names.hosts) text

pub found : (partitions : ℕ) (text : List ℕ) → AreBytes text → partitions < 2 ^ 16 → roster_fault partitions text ≡ None → IsFound partitions text
found partitions text are fits none =
    let both = none_or 0 (first_wrong_field text (head_fields partitions text)) (names_fault (number_in text 18 1) [] 41 (drop 41 text)) none in
    let all = fields_right text (head_fields partitions text) both.0 in
    let names = names_found (number_in text 18 1) [] 41 (drop 41 text) both.1 in
    let at_seal = all.2 in
    let at_magic = at_seal.2 in
    let at_format = at_magic.2 in
    let at_partitions = at_format.2 in
    let at_epoch = at_partitions.2 in
    let at_joining = at_epoch.2 in
    let at_count = at_joining.2 in
    let at_zeros = at_count.2 in
    let at_more = at_zeros.2 in
    let at_last = at_more.2 in
    let long : 41 ≤ length text = at_last.0 in
    let epoch = both_true _ _ at_partitions.1 in
    let count = both_true _ _ at_joining.1 in
    let limits = both_true _ _ count.0 in
    let zeros = both_true _ _ at_count.1 in
    let last = both_true _ _ at_last.1 in
    let some = leb-true 1 (number_in text 18 1) limits.0 in
    let most = leb-true (number_in text 18 1) most_hosts limits.1 in
    let size = names.size in
    let roster = roster_with partitions text names.hosts in
    record {
      names = names;
      long = long;
      holds = record {
        limits = record {
          least = leb-true 1 (number_in text 9 8) epoch.0;
          below = ltb-true (number_in text 9 8) epoch_end epoch.1;
          some = omega (arith, some, size);
          most = omega (arith, most, size);
          names = names.names;
          rise = (rising-from_each [] names.hosts names.rise).1;
          joining = joins (number_in text 17 1 == none_joining) (number_in text 9 8) (number_in text 17 1) (number_in text 18 1) names.hosts refl size at_epoch.1 count.1;
          partitions = fits;
        };
        first = number_in text 0 1;
        sealed = λ zero. let some = ltb-true 0 (number_in text 0 1) all.1 in omega (arith, zero, some);
        text = sym (
            ap (λ (l : List ℕ). l ++ names_text names.hosts) (head_spelled text roster are long (eqb-true _ _ at_seal.1) (eqb-true _ _ at_magic.1) (eqb-true _ _ at_format.1) refl (sym (joining_byte-joining_in (number_in text 17 1))) (sym size)
            (eqb-true _ _ zeros.0) (eqb-true _ _ zeros.1) (eqb-true _ _ at_zeros.1) (eqb-true _ _ at_more.1) (eqb-true _ _ last.0) (eqb-true _ _ last.1) (number_in text 0 1) (first_byte text are (omega (arith, long))))
            ∙ ap (λ (l : List ℕ). take 41 text ++ l) (sym names.spelled)
            ∙ take-append-drop 41 text);
      };
    }

-- ---- a roster's file has no fault

-- the numbers of a roster's file
pub record HasNumbersOf (roster : Roster) (text : List ℕ) : Type 0 where
  pub seal : 0 < number_in text 0 1
  pub magic : number_in text 1 4 ≡ roster_magic
  pub format : number_in text 5 2 ≡ roster_format
  pub partitions : number_in text 7 2 ≡ roster.partitions
  pub epoch : number_in text 9 8 ≡ roster.epoch
  pub joining : number_in text 17 1 ≡ joining_byte roster.joining
  pub count : number_in text 18 1 ≡ length roster.hosts
  pub zeros : (number_in text 19 4 ≡ 0) × (number_in text 23 2 ≡ 0) × (number_in text 25 2 ≡ 0) × (number_in text 27 2 ≡ 0) × (number_in text 29 8 ≡ 0) × (number_in text 37 4 ≡ 0)
  pub names : drop 41 text ≡ names_text roster.hosts
  pub long : 41 ≤ length text

pub numbers_of : (roster : Roster) (text : List ℕ) → IsRosterText roster text → HasNumbersOf roster text
unfolding numbers.bytes_of numbers.big_endian
numbers_of roster text is =
    let all = roster_file is.first roster in
    let limits = is.limits in
    let first : number_in text 0 1 ≡ is.first * 256 ^ 0 + 0 = ap (λ (l : List ℕ). number_in l 0 1) is.text in
    let sealed = is.sealed in
    let size : length text ≡ 41 + length (names_text roster.hosts) = ap length is.text ∙ omega arith in
    record {
      seal = omega (arith, first, sealed);
      magic = number_again text 1 4 all roster_magic (omega arith) is.text refl;
      format = number_again text 5 2 all roster_format (omega arith) is.text refl;
      partitions = number_again text 7 2 all roster.partitions (omega (arith, limits.partitions)) is.text refl;
      epoch = number_again text 9 8 all roster.epoch (omega (arith, limits.below)) is.text refl;
      joining = number_again text 17 1 all (joining_byte roster.joining) (joining_below roster limits) is.text refl;
      count = number_again text 18 1 all (length roster.hosts) (omega (arith, limits.most)) is.text refl;
      zeros = (
        number_again text 19 4 all 0 (omega arith) is.text refl,
        number_again text 23 2 all 0 (omega arith) is.text refl,
        number_again text 25 2 all 0 (omega arith) is.text refl,
        number_again text 27 2 all 0 (omega arith) is.text refl,
        number_again text 29 8 all 0 (omega arith) is.text refl,
        number_again text 37 4 all 0 (omega arith) is.text refl,
      );
      names = ap (drop 41) is.text;
      long = omega (arith, size);
    }

may_stand : (epoch : ℕ) (hosts : List Host) (joining : Option ℕ) → length hosts ≤ 16 → MayJoin epoch hosts joining → is_joining epoch (joining_byte joining) ≡ true
may_stand epoch hosts None most may = refl
may_stand epoch hosts (Some index) most may =
    let below = may.0 in is_or (index == none_joining) (nat_lt index most_hosts && nat_lt (epoch + 1) epoch_end) (are_both _ _ (lt-ltb index most_hosts (omega (arith, below, most))) (lt-ltb (epoch + 1) epoch_end may.1))

may_count : (epoch : ℕ) (hosts : List Host) (joining : Option ℕ) → MayJoin epoch hosts joining → (joining_byte joining == none_joining || nat_lt (joining_byte joining) (length hosts)) ≡ true
may_count epoch hosts None may = refl
may_count epoch hosts (Some index) may = is_or (index == none_joining) (nat_lt index (length hosts)) (lt-ltb index (length hosts) may.0)

pub no_fault : (roster : Roster) (text : List ℕ) → IsRosterText roster text → roster_fault roster.partitions text ≡ None
no_fault roster text is =
    let n = numbers_of roster text is in
    let long = n.long in
    let limits = is.limits in
    let epoch_is : is_epoch (number_in text 9 8) ≡ true = ap is_epoch n.epoch ∙ are_both _ _ (le-leb 1 roster.epoch limits.least) (lt-ltb roster.epoch epoch_end limits.below) in
    let joining_is : is_joining (number_in text 9 8) (number_in text 17 1) ≡ true =
    ap (λ (e : ℕ). is_joining e (number_in text 17 1)) n.epoch ∙ ap (is_joining roster.epoch) n.joining ∙ may_stand roster.epoch roster.hosts roster.joining limits.most limits.joining in
    let count_is : is_host_count (number_in text 17 1) (number_in text 18 1) ≡ true =
    ap (λ (j : ℕ). is_host_count j (number_in text 18 1)) n.joining ∙ ap (is_host_count (joining_byte roster.joining)) n.count
    ∙ are_both _ _ (are_both _ _ (le-leb 1 (length roster.hosts) limits.some) (le-leb (length roster.hosts) most_hosts limits.most)) (may_count roster.epoch roster.hosts roster.joining limits.joining) in
    let head : first_wrong_field text (head_fields roster.partitions text) ≡ None = fields_pass text (head_fields roster.partitions text) (
      omega (arith, long),
      lt-ltb 0 (number_in text 0 1) n.seal,
      (
        omega (arith, long),
        ap (λ (k : ℕ). k == roster_magic) n.magic,
        (
          omega (arith, long),
          ap (λ (k : ℕ). k == roster_format) n.format,
          (
            omega (arith, long),
            ap (λ (k : ℕ). k == roster.partitions) n.partitions ∙ same_number roster.partitions,
            (
              omega (arith, long),
              epoch_is,
              (
                omega (arith, long),
                joining_is,
                (
                  omega (arith, long),
                  count_is,
                  (
                    omega (arith, long),
                    are_both _ _ (ap (λ (k : ℕ). k == 0) n.zeros.0) (ap (λ (k : ℕ). k == 0) n.zeros.1),
                    (
                      omega (arith, long),
                      ap (λ (k : ℕ). k == 0) n.zeros.2,
                      (
                        omega (arith, long),
                        ap (λ (k : ℕ). k == 0) n.zeros.3,
                        (omega (arith, long), are_both _ _ (ap (λ (k : ℕ). k == 0) n.zeros.4) (ap (λ (k : ℕ). k == 0) n.zeros.5), tt),
                      ),
                    ),
                  ),
                ),
              ),
            ),
          ),
        ),
      ),
    ) in
    ap (λ (fault : Option ℕ). fault_or 0 fault (names_fault (number_in text 18 1) [] 41 (drop 41 text))) head
    ∙ ap (λ (count : ℕ). names_fault count [] 41 (drop 41 text)) n.count
    ∙ ap (names_fault (length roster.hosts) [] 41) n.names
    ∙ names_again roster.hosts [] 41 limits.names (rises_from_none roster.hosts limits.names limits.rise)
  where
    same_number : (n : ℕ) → (n == n) ≡ true
    same_number n = grind arith

-- ---- and is that of one roster

pub roster_once : (one other : Roster) (bytes : List ℕ) → IsRosterText one bytes → IsRosterText other bytes → one ≡ other
roster_once one other bytes is also =
    let n = numbers_of one bytes is in
    let m = numbers_of other bytes also in
    let epoch : one.epoch ≡ other.epoch = sym n.epoch ∙ m.epoch in
    let partitions : one.partitions ≡ other.partitions = sym n.partitions ∙ m.partitions in
    let hosts : one.hosts ≡ other.hosts = names_text-injective one.hosts other.hosts is.limits.names also.limits.names (sym n.names ∙ m.names) in
    let moved : MayJoin one.epoch one.hosts other.joining = subst (λ (e : ℕ). MayJoin e one.hosts other.joining) (sym epoch) (subst (λ (l : List Host). MayJoin other.epoch l other.joining) (sym hosts) also.limits.joining) in
    let joining = joining_once one.epoch one.hosts one.joining other.joining is.limits.most is.limits.joining moved (sym n.joining ∙ m.joining) in
    λ i. record { epoch = epoch i; hosts = hosts i; joining = joining i; partitions = partitions i }

-- ---- what the decoder reads

-- the names are those that were read
pub read_is_text : (partitions : ℕ) (text : List ℕ) (hosts : List Host) (epoch : ℕ) (joining : Option ℕ) → IsFound partitions text → All IsName hosts → drop 41 text ≡ names_text hosts → epoch ≡ number_in text 9 8 → joining ≡ joining_in (number_in text 17 1)
    → IsRosterText (record { epoch = epoch; hosts = hosts; joining = joining; partitions = partitions }) text
read_is_text partitions text hosts epoch joining is are spelled e j =
    let h : is.names.hosts ≡ hosts = names_text-injective is.names.hosts hosts is.names.names are (sym is.names.spelled ∙ spelled) in
    let same : roster_with partitions text is.names.hosts ≡ record { epoch = epoch; hosts = hosts; joining = joining; partitions = partitions } =
    λ i. record { epoch = sym e i; hosts = h i; joining = sym j i; partitions = partitions } in
    subst (λ (r : Roster). IsRosterText r text) same is.holds

pub fault_refutes : (partitions at : ℕ) (text : List ℕ) (roster : Roster) → roster_fault partitions text ≡ Some at → IsRosterText roster text → roster.partitions ≡ partitions → ⊥
fault_refutes partitions at text roster fault is of =
    let none : roster_fault partitions text ≡ None = ap (λ (p : ℕ). roster_fault p text) (sym of) ∙ no_fault roster text is in
    let e : Some at ≡ None = sym fault ∙ none in cc

-- a number that was read
pub number_read : (before after : Reading) (bytes : List ℕ) (n : ℕ) → before ≡ record { text = bytes; offset = 0 } → n < 256 ^ length bytes → Passes before after (bytes_of (length bytes) n) → n ≡ big_endian bytes
number_read before after bytes n is fits passes =
    let from : rest_of before ≡ bytes = ap rest_of is in
    let spelled : bytes ++ [] ≡ bytes_of (length bytes) n ++ rest_of after = append-nil bytes ∙ sym from ∙ passes.passed in
    let same = same_prefix bytes (bytes_of (length bytes) n) [] (rest_of after) (sym (length-bytes_of (length bytes) n)) spelled in
    sym (ap big_endian same.0 ∙ big_endian-bytes_of (length bytes) n fits)
