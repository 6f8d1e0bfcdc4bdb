-- The names of a roster's file: those that have no fault are spelled there, and those that are spelled have none.
use Rattle.std.proofs.Common.{◌≡◌, ℕ, zero, suc, ◌+◌, ◌-◌, ◌<◌, ◌≤◌, Bool, true, false, cond, nat_lt, nat_le, List, [], ◌∷◌, ◌++◌, length, take, drop, All, Option, None, Some, refl, sym, ap, ◌∙◌, arith, append_assoc, length-append}
use Rattle.std.specs.Ordering.{nat_cmp, is_lt}
use Rattle.std.proofs.Common.{Ordering, Less, Equal, Greater}
use Rattle.std.specs.Cmp.Lexicographic.{slice_cmp}
use Rattle.std.specs.List.{AllByRecursion}
use Rattle.std.specs.List.Sorted.{IsStrictlySortedBy}
use Rattle.std.proofs.Math.Nat.{mod-eq_of_lt}
use Rattle.std.proofs.lemmas.Bool.{ltb-false, leb-true, le-leb, le-ltb}
use Rattle.std.proofs.lemmas.Cmp.{nat_list_cmp_total}
use Rattle.std.proofs.lemmas.List.{take-append-drop, take_at, drop_at, length-take, length-drop, drop-drop, drop_more, drop_all, take_all, append-nil}
use Rattle.std.proofs.lemmas.List.Elements.{All-tail, All-cons, All-append}
use Rattle.std.proofs.lemmas.Grind.{flat_map-append}
use Rattle.byte_fields.specs.Numbers as numbers
use Rattle.byte_fields.specs.Numbers.{bytes_of}
use Rattle.byte_fields.specs.Counted.{counted8_text}
use Rattle.byte_fields.proofs.CountedLemmas.{counted_text-injective, length-counted_text}
use Rattle.cache_key.specs.Names.{IsName, most_name_bytes, is_between}
use Rattle.cache_model.specs.Contents.{IsRising}
use Rattle.record_form.specs.Characters.{name_prefix_length}
use Rattle.record_form.proofs.HeaderLemmas.{both_true, are_both}
use Rattle.record_form.proofs.NameLemmas.{prefix_holds, prefix_whole}
use Rattle.roster_form.specs.Membership.{Host}
use Rattle.roster_form.specs.RosterText.{names_text}
use Rattle.roster_form.specs.RosterFault as faults
use Rattle.roster_form.specs.RosterFault.{name_bytes_fault, name_fault, first_name, after_name, fault_or, end_fault, names_fault, HasNames}

pub one_byte : (n : ℕ) → n < 256 → bytes_of 1 n ≡ n ∷ []
unfolding numbers.bytes_of
one_byte n fits = ap (λ (k : ℕ). k ∷ []) (mod-eq_of_lt fits)

-- a name after its length, and what follows
pub name_spelled : (host rest : List ℕ) → length host < 256 → counted8_text host ++ rest ≡ length host ∷ host ++ rest
name_spelled host rest fits = ap (λ (count : List ℕ). (count ++ host) ++ rest) (one_byte (length host) fits)

-- ---- each stands after the one before it

abbrev pub RisesFrom : Host → List Host → Type 0
RisesFrom earlier [] = Unit {0}
RisesFrom earlier (host ∷ hosts) = (is_lt (slice_cmp nat_cmp earlier host) ≡ true) × RisesFrom host hosts

less_is : (order : Ordering) → is_lt order ≡ true → order ≡ Less
less_is Less is = refl
less_is Equal is = absurd cc
less_is Greater is = absurd cc

abbrev IsAfter : Host → Host → Type 0
IsAfter earlier host = slice_cmp nat_cmp earlier host ≡ Less

all_later : (earlier host : Host) (hosts : List Host) → IsAfter earlier host → AllByRecursion (IsAfter host) hosts → AllByRecursion (IsAfter earlier) hosts
all_later earlier host [] less all = tt
all_later earlier host (next ∷ hosts) less all = (nat_list_cmp_total.trans earlier host next less all.0, all_later earlier host hosts less all.1)

pub rising-from_each : (earlier : Host) (hosts : List Host) → RisesFrom earlier hosts → AllByRecursion (IsAfter earlier) hosts × IsRising hosts
unfolding IsStrictlySortedBy
rising-from_each earlier [] rises = (tt, tt)
rising-from_each earlier (host ∷ hosts) rises =
    let rest = rising-from_each host hosts rises.1 in
    let first = less_is (slice_cmp nat_cmp earlier host) rises.0 in
    ((first, all_later earlier host hosts first rest.0), (rest.0, rest.1))

each-from_rising : (earlier : Host) (hosts : List Host) → AllByRecursion (IsAfter earlier) hosts → IsRising hosts → RisesFrom earlier hosts
unfolding IsStrictlySortedBy
each-from_rising earlier [] all rising = tt
each-from_rising earlier (host ∷ hosts) all rising = (ap is_lt all.0, each-from_rising host hosts rising.0 rising.1)

after_none : (host : Host) → 1 ≤ length host → IsAfter [] host
after_none [] some = absurd (omega (arith, some))
after_none (byte ∷ bytes) some = refl

all_after_none : (hosts : List Host) → All IsName hosts → AllByRecursion (IsAfter []) hosts
all_after_none [] are = tt
all_after_none (host ∷ hosts) are = (after_none host (are 0 host (omega arith)).least, all_after_none hosts (All-tail IsName host hosts are))

-- names that rise do so from the start
pub rises_from_none : (hosts : List Host) → All IsName hosts → IsRising hosts → RisesFrom [] hosts
rises_from_none hosts are rising = each-from_rising [] hosts (all_after_none hosts are) rising

-- ---- what has no fault

none_if : (b : Bool) (fault : Option ℕ) (at : ℕ) → cond b fault (Some at) ≡ None → (b ≡ true) × (fault ≡ None)
none_if true fault at e = (refl, e)
none_if false fault at e = absurd cc

none_unless : (b : Bool) (fault : Option ℕ) (at : ℕ) → cond b (Some at) fault ≡ None → (b ≡ false) × (fault ≡ None)
none_unless true fault at e = absurd cc
none_unless false fault at e = (refl, e)

pub none_or : (at : ℕ) (first following : Option ℕ) → fault_or at first following ≡ None → (first ≡ None) × (following ≡ None)
none_or at None following e = (refl, e)
none_or at (Some fault) following e = absurd cc

-- what is known of a name without a fault
record IsGoodName (earlier : Host) (bytes : List ℕ) : Type 0 where
  name : IsName (first_name bytes)
  later : is_lt (slice_cmp nat_cmp earlier (first_name bytes)) ≡ true
  spelled : bytes ≡ counted8_text (first_name bytes) ++ after_name bytes

good_name : (earlier : Host) (bytes : List ℕ) → name_fault earlier bytes ≡ None → IsGoodName earlier bytes
good_name earlier [] e = absurd cc
good_name earlier (count ∷ after) e =
    let there = take count after in
    let limits = none_if (is_between 1 most_name_bytes count) (name_bytes_fault earlier count there) 0 e in
    let bounds = both_true (nat_le 1 count) (nat_le count most_name_bytes) limits.0 in
    let least = leb-true 1 count bounds.0 in
    let most = leb-true count most_name_bytes bounds.1 in
    let alphabet = none_unless (nat_lt (name_prefix_length there) (length there)) _ _ limits.1 in
    let enough = none_unless (nat_lt (length there) count) _ _ alphabet.1 in
    let order = none_if (is_lt (slice_cmp nat_cmp earlier there)) None 0 enough.1 in
    let all_good = ltb-false (name_prefix_length there) (length there) alphabet.0 in
    let long = ltb-false (length there) count enough.0 in
    let size : length there ≡ count = omega (arith, long, length-take count after) in
    record {
      name = record { least = omega (arith, size, least); most = omega (arith, size, most); alphabet = λ i d within. prefix_holds there i d (omega (arith, within, all_good)) };
      later = order.0;
      spelled = sym (name_spelled there (drop count after) (omega (arith, size, most)) ∙ ap (λ (n : ℕ). n ∷ there ++ drop count after) size ∙ ap (λ (l : List ℕ). count ∷ l) (take-append-drop count after));
    }

-- so many names that rise from the earlier one are spelled
pub record AreSpelled (count : ℕ) (earlier : Host) (bytes : List ℕ) : Type 0 where
  pub hosts : List Host
  pub size : length hosts ≡ count
  pub names : All IsName hosts
  pub rise : RisesFrom earlier hosts
  pub spelled : bytes ≡ names_text hosts

none_left : (earlier : Host) (at : ℕ) (bytes : List ℕ) → end_fault at bytes ≡ None → AreSpelled 0 earlier bytes
none_left earlier at [] e = record { hosts = []; size = refl; names = λ i d within. absurd (omega (arith, within)); rise = tt; spelled = refl }
none_left earlier at (byte ∷ bytes) e = absurd cc

pub names_found : (count : ℕ) (earlier : Host) (at : ℕ) (bytes : List ℕ) → names_fault count earlier at bytes ≡ None → AreSpelled count earlier bytes
unfolding faults.names_fault
names_found zero earlier at bytes e = none_left earlier at bytes e
names_found (suc more) earlier at bytes e =
    let both = none_or at (name_fault earlier bytes) _ e in
    let first = good_name earlier bytes both.0 in
    let rest = names_found more (first_name bytes) (at + (1 + length (first_name bytes))) (after_name bytes) both.1 in
    record {
      hosts = first_name bytes ∷ rest.hosts;
      size = ap suc rest.size;
      names = All-cons IsName (first_name bytes) rest.hosts first.name rest.names;
      rise = (first.later, rest.rise);
      spelled = first.spelled ∙ ap (λ (l : List ℕ). counted8_text (first_name bytes) ++ l) rest.spelled;
    }

-- ---- what is spelled

name_again : (earlier host rest : List ℕ) → IsName host → is_lt (slice_cmp nat_cmp earlier host) ≡ true → name_fault earlier (length host ∷ host ++ rest) ≡ None
name_again earlier host rest is later =
    let there : take (length host) (host ++ rest) ≡ host = take_at host rest (length host) refl in
    let bounds : is_between 1 most_name_bytes (length host) ≡ true = are_both _ _ (le-leb 1 (length host) is.least) (le-leb (length host) most_name_bytes is.most) in
    let alphabet : nat_lt (name_prefix_length host) (length host) ≡ false = le-ltb (name_prefix_length host) (length host) (prefix_whole host is.alphabet) in
    let enough : nat_lt (length host) (length host) ≡ false = le-ltb (length host) (length host) (omega arith) in
    ap (λ (b : Bool). cond b (name_bytes_fault earlier (length host) (take (length host) (host ++ rest))) (Some 0)) bounds
    ∙ ap (name_bytes_fault earlier (length host)) there
    ∙ ap (λ (b : Bool). cond b (Some (1 + name_prefix_length host)) (cond (nat_lt (length host) (length host)) (Some (1 + length host)) (cond (is_lt (slice_cmp nat_cmp earlier host)) None (Some 0)))) alphabet
    ∙ ap (λ (b : Bool). cond b (Some (1 + length host)) (cond (is_lt (slice_cmp nat_cmp earlier host)) None (Some 0))) enough
    ∙ ap (λ (b : Bool). cond b None (Some 0)) later

pub names_again : (hosts : List Host) (earlier : Host) (at : ℕ) → All IsName hosts → RisesFrom earlier hosts → names_fault (length hosts) earlier at (names_text hosts) ≡ None
unfolding faults.names_fault
names_again [] earlier at are rise = refl
names_again (host ∷ hosts) earlier at are rise =
    let is = are 0 host (omega arith) in
    let rest = names_text hosts in
    let bytes = length host ∷ host ++ rest in
    let spelled : names_text (host ∷ hosts) ≡ bytes = name_spelled host rest (omega (arith, is.most)) in
    let there : first_name bytes ≡ host = take_at host rest (length host) refl in
    let left : after_name bytes ≡ rest = drop_at host rest (length host) refl in
    let following = at + (1 + length (first_name bytes)) in
    ap (λ (l : List ℕ). fault_or at (name_fault earlier l) (names_fault (length hosts) (first_name l) (at + (1 + length (first_name l))) (after_name l))) spelled
    ∙ ap (λ (fault : Option ℕ). fault_or at fault (names_fault (length hosts) (first_name bytes) following (after_name bytes))) (name_again earlier host rest is rise.0)
    ∙ ap (λ (h : Host). names_fault (length hosts) h following (after_name bytes)) there
    ∙ ap (λ (l : List ℕ). names_fault (length hosts) host following l) left
    ∙ names_again hosts host following (All-tail IsName host hosts are) rise.1

-- ---- names are spelled once

some_bytes : (host : Host) (rest : List ℕ) → [] ≡ counted8_text host ++ rest → ⊥
some_bytes host rest e =
    let a : length (counted8_text host ++ rest) ≡ length (counted8_text host) + length rest = length-append (counted8_text host) rest in
    let b : length (counted8_text host) ≡ 1 + length host = length-counted_text 1 host in
    let c : 0 ≡ length (counted8_text host ++ rest) = ap length e in
    omega (arith, a, b, c)

pub names_text-injective : (hosts others : List Host) → All IsName hosts → All IsName others → names_text hosts ≡ names_text others → hosts ≡ others
names_text-injective [] [] are also e = refl
names_text-injective [] (second ∷ others) are also e = absurd (some_bytes second (names_text others) e)
names_text-injective (first ∷ hosts) [] are also e = absurd (some_bytes first (names_text hosts) (sym e))
names_text-injective (first ∷ hosts) (second ∷ others) are also e =
    let a = (are 0 first (omega arith)).most in
    let b = (also 0 second (omega arith)).most in
    let both = counted_text-injective 1 first second (names_text hosts) (names_text others) (omega (arith, a)) (omega (arith, b)) e in
    let rest = names_text-injective hosts others (All-tail IsName first hosts are) (All-tail IsName second others also) both.1 in
    λ i. both.0 i ∷ rest i

-- ---- the judge, name by name

pub fault_here : (count : ℕ) (earlier : Host) (at : ℕ) (bytes : List ℕ) (fault : ℕ) → 0 < count → name_fault earlier bytes ≡ Some fault → names_fault count earlier at bytes ≡ Some (at + fault)
unfolding faults.names_fault
fault_here zero earlier at bytes fault some e = absurd (omega (arith, some))
fault_here (suc more) earlier at bytes fault some e =
    ap (λ (f : Option ℕ). fault_or at f (names_fault more (first_name bytes) (at + (1 + length (first_name bytes))) (after_name bytes))) e

one_less : (count more : ℕ) (earlier : Host) (at : ℕ) (bytes : List ℕ) → count ≡ suc more → name_fault earlier bytes ≡ None
    → names_fault count earlier at bytes ≡ names_fault more (first_name bytes) (at + (1 + length (first_name bytes))) (after_name bytes)
unfolding faults.names_fault
one_less count more earlier at bytes is e =
    ap (λ (n : ℕ). names_fault n earlier at bytes) is
    ∙ ap (λ (f : Option ℕ). fault_or at f (names_fault more (first_name bytes) (at + (1 + length (first_name bytes))) (after_name bytes))) e

-- where the next name begins
after_name_at : (earlier : Host) (bytes : List ℕ) → name_fault earlier bytes ≡ None → (after_name bytes ≡ drop (1 + length (first_name bytes)) bytes) × (1 + length (first_name bytes) ≤ length bytes)
after_name_at earlier bytes e =
    let good = good_name earlier bytes e in
    let name = first_name bytes in
    let size : length (counted8_text name) ≡ 1 + length name = length-counted_text 1 name in
    let whole : length bytes ≡ length (counted8_text name) + length (after_name bytes) = ap length good.spelled ∙ length-append (counted8_text name) (after_name bytes) in
    (sym (ap (drop (1 + length name)) good.spelled ∙ drop_at (counted8_text name) (after_name bytes) (1 + length name) size), omega (arith, size, whole))

-- one more name is right
pub next_is_right : (text : List ℕ) (at count counter : ℕ) (earlier : Host) (fault : Option ℕ) → at ≤ length text → counter < count → name_fault earlier (drop at text) ≡ None
    → names_fault (count - counter) earlier at (drop at text) ≡ fault
    → (at + (1 + length (first_name (drop at text))) ≤ length text)
    × (names_fault (count - (counter + 1)) (first_name (drop at text)) (at + (1 + length (first_name (drop at text)))) (drop (at + (1 + length (first_name (drop at text)))) text) ≡ fault)
next_is_right text at count counter earlier fault within some e so_far =
    let bytes = drop at text in
    let size = 1 + length (first_name bytes) in
    let next = after_name_at earlier bytes e in
    let left : after_name bytes ≡ drop (at + size) text = next.0 ∙ drop-drop size at text in
    let step = one_less (count - counter) (count - (counter + 1)) earlier at bytes (omega (arith, some)) e in (
      (let fits = next.1 in let long = length-drop at text in omega (arith, fits, long, within)),
      ap (λ (l : List ℕ). names_fault (count - (counter + 1)) (first_name bytes) (at + size) l) (sym left) ∙ sym step ∙ so_far,
    )

-- all names are
pub end_is : (text : List ℕ) (at count counter : ℕ) (earlier : Host) → count ≤ counter → names_fault (count - counter) earlier at (drop at text) ≡ end_fault at (drop at text)
unfolding faults.names_fault
end_is text at count counter earlier all = ap (λ (n : ℕ). names_fault n earlier at (drop at text)) (let none : count - counter ≡ 0 = omega (arith, all) in none)

pub too_long : (text : List ℕ) (at : ℕ) → at < length text → end_fault at (drop at text) ≡ Some at
too_long text at more = ap (end_fault at) (drop_more text at 0 more)

pub at_end : (text : List ℕ) (at : ℕ) → length text ≤ at → end_fault at (drop at text) ≡ None
at_end text at past = ap (end_fault at) (drop_all at text past)

-- ---- the reader, name by name

pub next_name_of : (count : ℕ) (bytes : List ℕ) → 0 < count → HasNames count bytes → (host : Host) × (after : List ℕ) × IsName host × (bytes ≡ counted8_text host ++ after)
next_name_of count bytes some has = go has.0 has.1 has.2 has.3
  where
    go : (hosts : List Host) → length hosts ≡ count → All IsName hosts → bytes ≡ names_text hosts → (host : Host) × (after : List ℕ) × IsName host × (bytes ≡ counted8_text host ++ after)
    go [] size are spelled = absurd (omega (arith, some, size))
    go (host ∷ hosts) size are spelled = (host, names_text hosts, are 0 host (omega arith), spelled)

names_left : (count counter : ℕ) (bytes after : List ℕ) (host : Host) → counter < count → HasNames (count - counter) bytes → IsName host → bytes ≡ counted8_text host ++ after → HasNames (count - (counter + 1)) after
names_left count counter bytes after host some has is spelled = go has.0 has.1 has.2 has.3
  where
    go : (hosts : List Host) → length hosts ≡ count - counter → All IsName hosts → bytes ≡ names_text hosts → HasNames (count - (counter + 1)) after
    go [] size are here = absurd (omega (arith, some, size))
    go (first ∷ hosts) size are here =
        let a = (are 0 first (omega arith)).most in
        let b = is.most in
        let both = counted_text-injective 1 first host (names_text hosts) after (omega (arith, a)) (omega (arith, b)) (sym here ∙ spelled) in
        (hosts, (let long : suc (length hosts) ≡ count - counter = size in omega (arith, long, some)), All-tail IsName first hosts are, sym both.1)

pub record AreRead (count counter : ℕ) (start : List ℕ) (hosts : List Host) (bytes : List ℕ) : Type 0 where
  pub so_far : start ≡ names_text hosts ++ bytes
  pub names : All IsName hosts
  pub size : length hosts ≡ counter
  pub left : HasNames (count - counter) bytes

pub one_read : (count counter : ℕ) (start : List ℕ) (hosts : List Host) (bytes after : List ℕ) (host : Host) → counter < count → AreRead count counter start hosts bytes → IsName host → bytes ≡ counted8_text host ++ after
    → AreRead count (counter + 1) start (hosts ++ host ∷ []) after
one_read count counter start hosts bytes after host some read is spelled = record {
  so_far =
      let joined : names_text (hosts ++ host ∷ []) ≡ names_text hosts ++ counted8_text host = flat_map-append counted8_text hosts (host ∷ []) ∙ ap (λ (l : List ℕ). names_text hosts ++ l) (append-nil (counted8_text host)) in
      read.so_far ∙ ap (λ (l : List ℕ). names_text hosts ++ l) spelled ∙ sym (append_assoc (names_text hosts) (counted8_text host) after) ∙ ap (λ (l : List ℕ). l ++ after) (sym joined);
  names = All-append IsName hosts (host ∷ []) read.names (All-cons IsName host [] is (λ i d within. absurd (omega (arith, within))));
  size = (let size = read.size in let long = length-append hosts (host ∷ []) in omega (arith, size, long));
  left = names_left count counter bytes after host some read.left is spelled;
}

pub all_read : (count counter : ℕ) (start : List ℕ) (hosts : List Host) (bytes : List ℕ) → count ≡ counter → AreRead count counter start hosts bytes → start ≡ names_text hosts
all_read count counter start hosts bytes all read = go read.left.0 read.left.1 read.left.3
  where
    go : (left : List Host) → length left ≡ count - counter → bytes ≡ names_text left → start ≡ names_text hosts
    go [] size spelled = read.so_far ∙ ap (λ (l : List ℕ). names_text hosts ++ l) spelled ∙ append-nil (names_text hosts)
    go (first ∷ left) size spelled = absurd (let long : suc (length left) ≡ count - counter = size in omega (arith, long, all))

-- the rest of a text, as a slice of it
pub rest_is : (text : List ℕ) (at : ℕ) → take (length text - at) (drop at text) ≡ drop at text
rest_is text at = take_all (length text - at) (drop at text) (let long = length-drop at text in omega (arith, long))
