-- The grammar of a group is a form: what is read is spelled so, what is spelled so is read, and a fault is the first one.
use Rattle.std.proofs.Common.{◌≡◌, ℕ, ◌≤◌, Bool, true, false, nat_le, List, [], ◌∷◌, length, All, refl, sym, ap, ◌∙◌, arith}
use Rattle.std.specs.Prelude.{◌==◌}
use Rattle.std.specs.List.{AllByRecursion}
use Rattle.std.specs.Str.{IsUtf8}
use Rattle.std.proofs.lemmas.Bool.{leb-true, eqb-true, eqb-false}
use Rattle.cache_key.specs.Names.{IsNameByte, IsName, IsKey, IsValue, IsPair, most_name_bytes, most_key_bytes, most_value_bytes, most_pairs}
use Rattle.cache_key.specs.declared.request.Mutation.{Mutation}
use Rattle.cache_key.specs.declared.request.Mutation.TheVariants.{Put, Remove, Ensure, Truncate, Destroy, Batch}
use Rattle.cache_model.specs.PlainList.{pairs_of}
use Rattle.record_form.specs.Form.{BadTag, OutOfRange, NameText, Utf8Text, Form, choose, ◌then◌, many, characters}
use Rattle.record_form.specs.Characters.{first_bad_in_name, first_bad_in_utf8}
use Rattle.record_form.specs.GroupText.{is_within, most_mutations, name_form, key_form, value_form, pair_form, pairs_form, put_form, remove_form, ensure_form, truncate_form, destroy_form, batch_form, fields_of, mutation_form, group_form, cache_of, key_of, value_of, tag_of, IsMutation, AreMutations}
use Rattle.record_form.proofs.HeaderLemmas.{both_true}
use Rattle.record_form.proofs.ReadsLemmas.{inside}
use Rattle.record_form.proofs.FormLemmas.{IsForm}
use Rattle.record_form.proofs.ThenLemmas.{then_is, seen_is}
use Rattle.record_form.proofs.ManyLemmas.{many_is}
use Rattle.record_form.proofs.HeadedLemmas.{headed_is}
use Rattle.record_form.proofs.NameLemmas.{name_text_is}
use Rattle.record_form.proofs.Utf8Lemmas.{utf8_text_is}

pub within : (least most n : ℕ) → is_within least most n ≡ true → (least ≤ n) × (n ≤ most)
within least most n is = let b = both_true (nat_le least n) (nat_le n most) is in (leb-true least n b.0, leb-true n most b.1)

name_is : IsForm name_form
name_is = headed_is 1 OutOfRange (is_within 1 most_name_bytes) length (characters NameText (All IsNameByte) first_bad_in_name 1) (omega arith) (λ e. absurd cc)
    (λ n is. omega (arith, within 1 most_name_bytes n is)) (λ n is. name_text_is n) (λ n x is fits. fits.0) 1 refl

key_is : IsForm key_form
key_is = headed_is 2 OutOfRange (is_within 1 most_key_bytes) length (characters Utf8Text IsUtf8 first_bad_in_utf8 4) (omega arith) (λ e. absurd cc)
    (λ n is. omega (arith, within 1 most_key_bytes n is)) (λ n is. utf8_text_is n) (λ n x is fits. fits.0) 1 refl

value_is : IsForm value_form
value_is = headed_is 4 OutOfRange (is_within 0 most_value_bytes) length (characters Utf8Text IsUtf8 first_bad_in_utf8 4) (omega arith) (λ e. absurd cc)
    (λ n is. omega (arith, within 0 most_value_bytes n is)) (λ n is. utf8_text_is n) (λ n x is fits. fits.0) 0 refl

pair_is : IsForm pair_form
pair_is = then_is key_form value_form key_is value_is

pairs_is : IsForm pairs_form
pairs_is = headed_is 1 OutOfRange (is_within 1 most_pairs) length (many pair_form) (omega arith) (λ e. absurd cc)
    (λ n is. omega (arith, within 1 most_pairs n is)) (λ n is. many_is pair_form pair_is n) (λ n x is fits. fits.0) 1 refl

choose_is : {A : Type 0} (b : Bool) (f g : Form A) → IsForm f → IsForm g → IsForm (choose b f g)
choose_is true f g is also = is
choose_is false f g is also = also

put_is : IsForm put_form
put_is = seen_is (name_form then pair_form) (λ x. Put x.0 x.1.0 x.1.1) (λ m. (cache_of m, (key_of m, value_of m))) (then_is name_form pair_form name_is pair_is) (λ x. refl)

remove_is : IsForm remove_form
remove_is = seen_is (name_form then key_form) (λ x. Remove x.0 x.1) (λ m. (cache_of m, key_of m)) (then_is name_form key_form name_is key_is) (λ x. refl)

ensure_is : IsForm ensure_form
ensure_is = seen_is name_form (λ x. Ensure x) cache_of name_is (λ x. refl)

truncate_is : IsForm truncate_form
truncate_is = seen_is name_form (λ x. Truncate x) cache_of name_is (λ x. refl)

destroy_is : IsForm destroy_form
destroy_is = seen_is name_form (λ x. Destroy x) cache_of name_is (λ x. refl)

batch_is : IsForm batch_form
batch_is = seen_is (name_form then pairs_form) (λ x. Batch x.0 x.1) (λ m. (cache_of m, pairs_of m)) (then_is name_form pairs_form name_is pairs_is) (λ x. refl)

fields_is : (tag : ℕ) → IsForm (fields_of tag)
fields_is tag =
    choose_is (tag == 1) put_form _ put_is
    (choose_is (tag == 2) remove_form _ remove_is
    (choose_is (tag == 3) ensure_form _ ensure_is
    (choose_is (tag == 4) truncate_form _ truncate_is
    (choose_is (tag == 5) destroy_form batch_form destroy_is batch_is))))

-- ---- a mutation fits where its texts are within their limits

name_in : (bytes : List ℕ) → IsName bytes → name_form.Fits bytes
name_in bytes is = (inside 1 most_name_bytes (length bytes) is.least is.most, (refl, is.alphabet))

name_out : (bytes : List ℕ) → name_form.Fits bytes → IsName bytes
name_out bytes is = let w = within 1 most_name_bytes (length bytes) is.0 in record { least = w.0; most = w.1; alphabet = is.1.1 }

key_in : (bytes : List ℕ) → IsKey bytes → key_form.Fits bytes
key_in bytes is = (inside 1 most_key_bytes (length bytes) is.least is.most, (refl, is.utf8))

key_out : (bytes : List ℕ) → key_form.Fits bytes → IsKey bytes
key_out bytes is = let w = within 1 most_key_bytes (length bytes) is.0 in record { least = w.0; most = w.1; utf8 = is.1.1 }

value_in : (bytes : List ℕ) → IsValue bytes → value_form.Fits bytes
value_in bytes is = (inside 0 most_value_bytes (length bytes) (omega arith) is.most, (refl, is.utf8))

value_out : (bytes : List ℕ) → value_form.Fits bytes → IsValue bytes
value_out bytes is = let w = within 0 most_value_bytes (length bytes) is.0 in record { most = w.1; utf8 = is.1.1 }

all_in : (ps : List (List ℕ × List ℕ)) → AllByRecursion IsPair ps → AllByRecursion pair_form.Fits ps
all_in [] all = tt
all_in (p ∷ ps) all = ((key_in p.0 all.0.0, value_in p.1 all.0.1), all_in ps all.1)

all_out : (ps : List (List ℕ × List ℕ)) → AllByRecursion pair_form.Fits ps → AllByRecursion IsPair ps
all_out [] all = tt
all_out (p ∷ ps) all = ((key_out p.0 all.0.0, value_out p.1 all.0.1), all_out ps all.1)

pub mutation_in : (m : Mutation) → IsMutation m → mutation_form.Fits m
mutation_in (Put cache key value) is = (refl, ((name_in cache is.0, (key_in key is.1, value_in value is.2)), refl))
mutation_in (Remove cache key) is = (refl, ((name_in cache is.0, key_in key is.1), refl))
mutation_in (Ensure cache) is = (refl, (name_in cache is, refl))
mutation_in (Truncate cache) is = (refl, (name_in cache is, refl))
mutation_in (Destroy cache) is = (refl, (name_in cache is, refl))
mutation_in (Batch cache pairs) is = (refl, ((name_in cache is.0, (inside 1 most_pairs (length pairs) is.1 is.2, (refl, all_in pairs is.3))), refl))

pub mutation_out : (m : Mutation) → mutation_form.Fits m → IsMutation m
mutation_out (Put cache key value) is = let f = is.1.0 in (name_out cache f.0, key_out key f.1.0, value_out value f.1.1)
mutation_out (Remove cache key) is = let f = is.1.0 in (name_out cache f.0, key_out key f.1)
mutation_out (Ensure cache) is = name_out cache is.1.0
mutation_out (Truncate cache) is = name_out cache is.1.0
mutation_out (Destroy cache) is = name_out cache is.1.0
mutation_out (Batch cache pairs) is = let f = is.1.0 in let w = within 1 most_pairs (length pairs) f.1.0 in (name_out cache f.0, w.0, w.1, all_out pairs f.1.1.1)

chosen : (b : Bool) (f g : Form Mutation) (m : Mutation) (P : Type 0) → (choose b f g).Fits m → (b ≡ true → f.Fits m → P) → (b ≡ false → g.Fits m → P) → P
chosen true f g m P fits one other = one refl fits
chosen false f g m P fits one other = other refl fits

last_tag : (tag : ℕ) → is_within 1 6 tag ≡ true → (tag == 1) ≡ false → (tag == 2) ≡ false → (tag == 3) ≡ false → (tag == 4) ≡ false → (tag == 5) ≡ false → 6 ≡ tag
last_tag tag is n1 n2 n3 n4 n5 =
    let w = within 1 6 tag is in
    let a = eqb-false tag 1 n1 in
    let b = eqb-false tag 2 n2 in
    let c = eqb-false tag 3 n3 in
    let d = eqb-false tag 4 n4 in
    let e = eqb-false tag 5 n5 in
    omega arith

-- a mutation of a tag's fields has that tag
tag_is : (tag : ℕ) (m : Mutation) → is_within 1 6 tag ≡ true → (fields_of tag).Fits m → tag_of m ≡ tag
tag_is tag m is fits =
    chosen (tag == 1) put_form _ m (tag_of m ≡ tag) fits (λ t f. ap tag_of f.1 ∙ sym (eqb-true tag 1 t)) (λ n1 fits.
    chosen (tag == 2) remove_form _ m (tag_of m ≡ tag) fits (λ t f. ap tag_of f.1 ∙ sym (eqb-true tag 2 t)) (λ n2 fits.
    chosen (tag == 3) ensure_form _ m (tag_of m ≡ tag) fits (λ t f. ap tag_of f.1 ∙ sym (eqb-true tag 3 t)) (λ n3 fits.
    chosen (tag == 4) truncate_form _ m (tag_of m ≡ tag) fits (λ t f. ap tag_of f.1 ∙ sym (eqb-true tag 4 t)) (λ n4 fits.
    chosen (tag == 5) destroy_form batch_form m (tag_of m ≡ tag) fits (λ t f. ap tag_of f.1 ∙ sym (eqb-true tag 5 t)) (λ n5 fits.
    ap tag_of fits.1 ∙ last_tag tag is n1 n2 n3 n4 n5)))))

mutation_is : IsForm mutation_form
mutation_is = headed_is 1 BadTag (is_within 1 6) tag_of fields_of (omega arith) (λ e. absurd cc) (λ n is. omega (arith, within 1 6 n is)) (λ n is. fields_is n) tag_is 3 refl

pub group_is : IsForm group_form
group_is = headed_is 1 OutOfRange (is_within 1 most_mutations) length (many mutation_form) (omega arith) (λ e. absurd cc)
    (λ n is. omega (arith, within 1 most_mutations n is)) (λ n is. many_is mutation_form mutation_is n) (λ n x is fits. fits.0) 1 refl

each_in : (ms : List Mutation) → AllByRecursion IsMutation ms → AllByRecursion mutation_form.Fits ms
each_in [] all = tt
each_in (m ∷ ms) all = (mutation_in m all.0, each_in ms all.1)

each_out : (ms : List Mutation) → AllByRecursion mutation_form.Fits ms → AllByRecursion IsMutation ms
each_out [] all = tt
each_out (m ∷ ms) all = (mutation_out m all.0, each_out ms all.1)

pub group_in : (ms : List Mutation) → AreMutations ms → group_form.Fits ms
group_in ms is = (inside 1 most_mutations (length ms) is.least is.most, (refl, each_in ms is.all))

pub group_out : (ms : List Mutation) → group_form.Fits ms → AreMutations ms
group_out ms is = let w = within 1 most_mutations (length ms) is.0 in record { least = w.0; most = w.1; all = each_out ms is.1.1 }
