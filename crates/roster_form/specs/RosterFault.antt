-- Where bytes leave the form of a roster's file: at the first field that is wrong.
use Rattle.std.specs.Prelude.{◌≡◌, All, ℕ, zero, suc, ◌+◌, ◌==◌, nat_lt, nat_le, Bool, ◌&&◌, ◌||◌, List, [], ◌∷◌, length, take, drop, Option, None, Some, if◌then◌else◌}
use Rattle.std.specs.Ordering.{nat_cmp, is_lt}
use Rattle.std.specs.Cmp.Lexicographic.{slice_cmp}
use Rattle.byte_fields.specs.Numbers.{number_in}
use Rattle.cache_key.specs.Names.{IsName, most_name_bytes, is_between}
use Rattle.record_form.specs.Characters.{name_prefix_length}
use Rattle.seal_gate.specs.Seal.{header_end}
use Rattle.roster_form.specs.Membership.{Host, most_hosts, epoch_end}
use Rattle.roster_form.specs.RosterText.{roster_magic, roster_format, none_joining, names_text}
use Rattle.roster_form.specs.declared.head.HeadField.{HeadField}

-- an epoch within its limits
abbrev pub is_epoch : ℕ → Bool
is_epoch number = nat_le 1 number && nat_lt number epoch_end

-- no joining host, or the index of one in some list, beside an epoch after which there is another
abbrev pub is_joining : ℕ → ℕ → Bool
is_joining epoch number = number == none_joining || (nat_lt number most_hosts && nat_lt (epoch + 1) epoch_end)

-- a count of hosts within its limits, of which the joining host is one
abbrev pub is_host_count : ℕ → ℕ → Bool
is_host_count joining number = (nat_le 1 number && nat_le number most_hosts) && (joining == none_joining || nat_lt joining number)

-- the numbers of so many bytes from an offset on, and then of so many more, are zero
abbrev pub are_zeros : List ℕ → ℕ → ℕ → ℕ → Bool
are_zeros text at size more = number_in text at size == 0 && number_in text (at + size) more == 0

abbrev pub head_field : ℕ → ℕ → Bool → HeadField
head_field at size right = record { at = at; size = size; right = right }

-- The fields up to the names, from the first to the last, each judged by those before it.
abbrev pub head_fields : ℕ → List ℕ → List HeadField
head_fields partitions text =
    head_field 0 1 (nat_lt 0 (number_in text 0 1))
    ∷ head_field 1 4 (number_in text 1 4 == roster_magic)
    ∷ head_field 5 2 (number_in text 5 2 == roster_format)
    ∷ head_field 7 2 (number_in text 7 2 == partitions)
    ∷ head_field 9 8 (is_epoch (number_in text 9 8))
    ∷ head_field 17 1 (is_joining (number_in text 9 8) (number_in text 17 1))
    ∷ head_field 18 1 (is_host_count (number_in text 17 1) (number_in text 18 1))
    ∷ head_field 19 6 (are_zeros text 19 4 2)
    ∷ head_field 25 2 (number_in text 25 2 == 0)
    ∷ head_field 27 2 (number_in text 27 2 == 0)
    ∷ head_field 29 12 (are_zeros text 29 8 4)
    ∷ []

-- where the first of these fields is wrong: at its first byte, or at the end of the text where that ends within it
abbrev pub first_wrong_field : List ℕ → List HeadField → Option ℕ
first_wrong_field text [] = None
first_wrong_field text (field ∷ fields) =
    if nat_lt (length text) (field.at + field.size) then Some (length text) else if field.right then first_wrong_field text fields else Some field.at

-- Where the bytes of a name of this length are wrong, of which these are there: at the first byte that no name has, at the end
-- where there are too few, or at the length where the name doesn't stand after the earlier one.
abbrev pub name_bytes_fault : Host → ℕ → List ℕ → Option ℕ
name_bytes_fault earlier count there =
    if nat_lt (name_prefix_length there) (length there) then Some (1 + name_prefix_length there)
    else if nat_lt (length there) count then Some (1 + length there)
    else if is_lt (slice_cmp nat_cmp earlier there) then None else Some 0

-- where the name with which these bytes begin, after its length, is wrong
abbrev pub name_fault : Host → List ℕ → Option ℕ
name_fault earlier [] = Some 0
name_fault earlier (count ∷ after) = if is_between 1 most_name_bytes count then name_bytes_fault earlier count (take count after) else Some 0

-- the first name of these bytes, and what stands after it
abbrev pub first_name : List ℕ → Host
first_name [] = []
first_name (count ∷ after) = take count after

abbrev pub after_name : List ℕ → List ℕ
after_name [] = []
after_name (count ∷ after) = drop count after

-- a fault of the first name, as one of the text, and else that of what follows
abbrev pub fault_or : ℕ → Option ℕ → Option ℕ → Option ℕ
fault_or at None following = following
fault_or at (Some fault) following = Some (at + fault)

-- a byte after the last name
abbrev pub end_fault : ℕ → List ℕ → Option ℕ
end_fault at [] = None
end_fault at (byte ∷ bytes) = Some at

-- where so many names after the earlier one are wrong, or a byte stands after them; these bytes are the text's from the offset on
unfoldable pub names_fault : ℕ → Host → ℕ → List ℕ → Option ℕ
names_fault zero earlier at bytes = end_fault at bytes
names_fault (suc more) earlier at bytes =
    fault_or at (name_fault earlier bytes) (names_fault more (first_name bytes) (at + (1 + length (first_name bytes))) (after_name bytes))

-- the first fault of these bytes as the file of a roster on a site of so many partitions
abbrev pub roster_fault : ℕ → List ℕ → Option ℕ
roster_fault partitions text =
    fault_or 0 (first_wrong_field text (head_fields partitions text)) (names_fault (number_in text 18 1) [] header_end (drop header_end text))

-- the index that a byte is, unless it stands for no joining host
abbrev pub joining_in : ℕ → Option ℕ
joining_in byte = if byte == none_joining then None else Some byte

-- the bytes are so many names, each after its length
abbrev pub HasNames : ℕ → List ℕ → Type 0
HasNames count bytes = (hosts : List Host) × (length hosts ≡ count) × All IsName hosts × (bytes ≡ names_text hosts)
