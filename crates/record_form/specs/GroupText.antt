-- The grammar of a group of mutations.
use Rattle.std.specs.Prelude.{◌≡◌, ℕ, ◌≤◌, ◌==◌, nat_le, Bool, ◌&&◌, List, [], ◌++◌, length, All}
use Rattle.std.specs.List.{AllByRecursion}
use Rattle.std.specs.Str.{IsUtf8}
use Rattle.byte_fields.specs.Numbers.{bytes8}
use Rattle.byte_fields.specs.Counted.{counted32_text}
use Rattle.cache_key.specs.Names.{IsNameByte, IsName, IsKey, IsValue, IsPair, most_name_bytes, most_key_bytes, most_value_bytes, most_pairs}
use Rattle.cache_key.specs.declared.request.Mutation.{Mutation}
use Rattle.cache_key.specs.declared.request.Mutation.TheVariants.{Put, Remove, Ensure, Truncate, Destroy, Batch}
use Rattle.cache_model.specs.PlainList.{pairs_of}
use Rattle.record_form.specs.Form.{BadTag, OutOfRange, FormField, NameText, Utf8Text, Form, headed, choose, ◌then◌, seen_as, many, characters}
use Rattle.record_form.specs.Characters.{first_bad_in_name, first_bad_in_utf8}

-- the most mutations of a group
abbrev pub most_mutations : ℕ
most_mutations = 64

-- the most bytes of a group's spelling
abbrev pub most_group_bytes : ℕ
most_group_bytes = 8388608

-- the bytes of a record before its payload: the gate, and the length in four bytes
abbrev pub record_head : ℕ
record_head = 5

-- a closed gate, at which no record begins; any other byte is an open gate
abbrev pub closed_gate : ℕ
closed_gate = 0

-- the number is one from the least to the most
abbrev pub is_within : ℕ → ℕ → ℕ → Bool
is_within least most number = nat_le least number && nat_le number most

-- the fields: names, keys and values after their lengths in one, two and four bytes
abbrev pub name_form : Form (List ℕ)
name_form = headed 1 OutOfRange (is_within 1 most_name_bytes) length (characters NameText (All IsNameByte) first_bad_in_name 1)

abbrev pub key_form : Form (List ℕ)
key_form = headed 2 OutOfRange (is_within 1 most_key_bytes) length (characters Utf8Text IsUtf8 first_bad_in_utf8 4)

abbrev pub value_form : Form (List ℕ)
value_form = headed 4 OutOfRange (is_within 0 most_value_bytes) length (characters Utf8Text IsUtf8 first_bad_in_utf8 4)

-- a key and its value
abbrev pub pair_form : Form (List ℕ × List ℕ)
pair_form = key_form then value_form

-- pairs after their count
abbrev pub pairs_form : Form (List (List ℕ × List ℕ))
pairs_form = headed 1 OutOfRange (is_within 1 most_pairs) length (many pair_form)

-- what a mutation has in its fields; a field that it doesn't have is empty
abbrev pub cache_of : Mutation → List ℕ
cache_of (Put cache key value) = cache
cache_of (Remove cache key) = cache
cache_of (Ensure cache) = cache
cache_of (Truncate cache) = cache
cache_of (Destroy cache) = cache
cache_of (Batch cache pairs) = cache

abbrev pub key_of : Mutation → List ℕ
key_of (Put cache key value) = key
key_of (Remove cache key) = key
key_of (Ensure cache) = []
key_of (Truncate cache) = []
key_of (Destroy cache) = []
key_of (Batch cache pairs) = []

abbrev pub value_of : Mutation → List ℕ
value_of (Put cache key value) = value
value_of (Remove cache key) = []
value_of (Ensure cache) = []
value_of (Truncate cache) = []
value_of (Destroy cache) = []
value_of (Batch cache pairs) = []

-- the tag of a mutation
abbrev pub tag_of : Mutation → ℕ
tag_of (Put cache key value) = 1
tag_of (Remove cache key) = 2
tag_of (Ensure cache) = 3
tag_of (Truncate cache) = 4
tag_of (Destroy cache) = 5
tag_of (Batch cache pairs) = 6

-- the fields of each mutation
abbrev pub put_form : Form Mutation
put_form = seen_as (λ x. Put x.0 x.1.0 x.1.1) (λ m. (cache_of m, (key_of m, value_of m))) (name_form then pair_form)

abbrev pub remove_form : Form Mutation
remove_form = seen_as (λ x. Remove x.0 x.1) (λ m. (cache_of m, key_of m)) (name_form then key_form)

abbrev pub ensure_form : Form Mutation
ensure_form = seen_as (λ x. Ensure x) cache_of name_form

abbrev pub truncate_form : Form Mutation
truncate_form = seen_as (λ x. Truncate x) cache_of name_form

abbrev pub destroy_form : Form Mutation
destroy_form = seen_as (λ x. Destroy x) cache_of name_form

abbrev pub batch_form : Form Mutation
batch_form = seen_as (λ x. Batch x.0 x.1) (λ m. (cache_of m, pairs_of m)) (name_form then pairs_form)

-- those of each tag
abbrev pub fields_of : ℕ → Form Mutation
fields_of tag = choose (tag == 1) put_form (choose (tag == 2) remove_form (choose (tag == 3) ensure_form (choose (tag == 4) truncate_form (choose (tag == 5) destroy_form batch_form))))

-- a tag, and its fields
abbrev pub mutation_form : Form Mutation
mutation_form = headed 1 BadTag (is_within 1 6) tag_of fields_of

-- the count of the mutations, and each of them
abbrev pub group_form : Form (List Mutation)
group_form = headed 1 OutOfRange (is_within 1 most_mutations) length (many mutation_form)

abbrev pub mutation_text : Mutation → List ℕ
mutation_text mutation = mutation_form.text mutation

abbrev pub group_text : List Mutation → List ℕ
group_text mutations = group_form.text mutations

-- the fields of mutations after their count, in their order
abbrev pub group_fields : List Mutation → List FormField
group_fields mutations = group_form.fields mutations

-- a mutation that has a spelling: its texts are within their limits, and a batch has 1 to 64 pairs
abbrev pub IsMutation : Mutation → Type 0
IsMutation (Put cache key value) = IsName cache × IsKey key × IsValue value
IsMutation (Remove cache key) = IsName cache × IsKey key
IsMutation (Ensure cache) = IsName cache
IsMutation (Truncate cache) = IsName cache
IsMutation (Destroy cache) = IsName cache
IsMutation (Batch cache pairs) = IsName cache × (1 ≤ length pairs) × (length pairs ≤ most_pairs) × AllByRecursion IsPair pairs

-- 1 to 64 mutations, each of which has a spelling
pub record AreMutations (mutations : List Mutation) : Type 0 where
  pub least : 1 ≤ length mutations
  pub most : length mutations ≤ most_mutations
  pub all : AllByRecursion IsMutation mutations

-- what may be a group: such mutations, whose spelling isn't too long
pub record IsGroup (mutations : List Mutation) : Type 0 where
  pub are : AreMutations mutations
  pub size : length (group_text mutations) ≤ most_group_bytes

-- the text is that of the group
pub record IsGroupText (text : List ℕ) (mutations : List Mutation) : Type 0 where
  pub group : IsGroup mutations
  pub spelled : text ≡ group_text mutations

-- after the open gate of a group's record: the length of the payload, the payload, and a closed gate
abbrev pub tail_text : List Mutation → List ℕ
tail_text mutations = counted32_text (group_text mutations) ++ bytes8 closed_gate
