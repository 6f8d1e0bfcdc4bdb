-- What is built is a store but for its first byte.
use Rattle.std.proofs.Common.{◌≡◌, ◌≢◌, ℕ, ◌+◌, List, [], ◌∷◌, ◌++◌, length, take, drop, refl, sym, ◌∙◌, ap, subst, arith, append_assoc, length-append, Bool, true, false}
use Rattle.std.specs.List.{flat_map, AllByRecursion}
use Rattle.std.proofs.lemmas.List.{append-nil, take_at, drop_at}
use Rattle.byte_fields.proofs.CountedLemmas.{length-counted_text}
use Rattle.cache_key.specs.declared.request.Mutation.{Mutation}
use Rattle.cache_model.specs.Caches.{Caches}
use Rattle.cache_model.specs.PlainList.{plain_list, live}
use Rattle.record_form.specs.declared.header.Header.{Header}
use Rattle.record_form.specs.HeaderText.{IsHeader, header_text}
use Rattle.record_form.specs.GroupText.{IsGroup, group_text}
use Rattle.seal_gate.specs.Seal.{IsSealed, ButFirst, IsSettled}
use Rattle.store_journal.specs.Text.{IsText, IsStoreOf, Records, end_of}
use Rattle.store_journal.proofs.TextLemmas.{drop_first}
use Rattle.store_journal.proofs.CreatedLemmas.{length-header_text}
use Rattle.disk_trait.specs.View.{View}
use Rattle.disk_trait.specs.Moments.{Throughout}
use Rattle.disk_trait.proofs.Runs.{holds_now}
use Rattle.store_build.specs.Batches.{AreBatches}
use Rattle.store_build.specs.declared.build.Build.{Build}
use Rattle.store_build.specs.Built.{record_text, built_text, IsBuilding, IsBuilt}
use Rattle.store_build.proofs.BatchLemmas.{batches_joined, length-plain_build}

pub length-record_text : (group : List Mutation) → length (record_text group) ≡ 5 + length (group_text group)
length-record_text group = omega (arith, length-counted_text 4 (group_text group))

length-records : (groups : List (List Mutation)) → 41 + length (flat_map record_text groups) ≡ end_of groups
length-records [] = refl
length-records (group ∷ groups) = omega (arith, length-records groups, length-append (record_text group) (flat_map record_text groups), length-record_text group)

-- how far it reaches
pub length-built : (header : Header) (groups : List (List Mutation)) → length (built_text header groups false) ≡ end_of groups
length-built header groups =
    omega (arith, length-records groups, length-header_text header, length-append (header_text header ++ flat_map record_text groups) [], length-append (header_text header) (flat_map record_text groups))

pub length-whole : (header : Header) (groups : List (List Mutation)) → length (built_text header groups true) ≡ end_of groups + 1
length-whole header groups =
    omega (arith, length-records groups, length-header_text header, length-append (header_text header ++ flat_map record_text groups) (0 ∷ []), length-append (header_text header) (flat_map record_text groups))

-- the records are those of the groups
spelled : (groups : List (List Mutation)) (following : List ℕ) → AllByRecursion IsGroup groups → Records (flat_map record_text groups ++ following) groups following
spelled [] following all = refl
spelled (group ∷ groups) following all =
    let ne : 1 ≢ 0 = λ (e : 1 ≡ 0). omega (arith, e) in
    (1, flat_map record_text groups ++ following, ne, all.0, append_assoc (record_text group) (flat_map record_text groups) following, spelled groups following all.1)

-- sealed, it is a store of these groups
pub built_sealed : (header : Header) (groups : List (List Mutation)) (bytes : List ℕ) → IsHeader header → AllByRecursion IsGroup groups → ButFirst (built_text header groups true) bytes → IsSealed bytes → IsText header groups bytes
built_sealed header groups bytes limits all but sealed =
    let rest : drop 1 bytes ≡ header_text header ++ (flat_map record_text groups ++ 0 ∷ []) = but.rest ∙ append_assoc (header_text header) (flat_map record_text groups) (0 ∷ []) in
    record {
      limits = limits;
      sealed = sealed;
      named = ap (λ (l : List ℕ). take 40 l) rest ∙ take_at (header_text header) (flat_map record_text groups ++ 0 ∷ []) 40 (length-header_text header);
      records = (
        [],
        subst (λ (l : List ℕ). Records l groups (0 ∷ []))
            (sym (drop_first bytes (built_text header groups true) but.rest ∙ ap (λ (l : List ℕ). drop 40 l) (append_assoc (header_text header) (flat_map record_text groups) (0 ∷ []))
            ∙ drop_at (header_text header) (flat_map record_text groups ++ 0 ∷ []) 40 (length-header_text header)))
            (spelled groups (0 ∷ []) all),
      );
    }

-- a whole build under any first byte is unsealed, or the store of the contents
pub built_store : (v : View) (file : ℕ) (header : Header) (caches : Caches) (end : ℕ) (old new : List ℕ) → (is : IsBuilt v file header caches end) → old ≡ built_text header is.batches true → ButFirst old new → IsSealed new
    → IsStoreOf header (plain_list caches) new
built_store v file header caches end old new is whole but sealed = record {
  groups = is.batches;
  joined = sym (sym (append-nil (flat_map (λ (b : List Mutation). b) is.batches)) ∙ batches_joined (plain_list caches) is.batches [] is.cut);
  text = built_sealed header is.batches new is.of_header is.limits (subst (λ (l : List ℕ). ButFirst l new) whole but) sealed;
}

pub built_length : (v : View) (file : ℕ) (header : Header) (caches : Caches) (end : ℕ) → IsBuilt v file header caches end → end + 1 ≡ live caches
built_length v file header caches end is =
    let there = is.there in
    let size = length-plain_build (plain_list caches) is.batches is.cut in
    omega (arith, there, size)

-- settled, all of it is durable
pub settled_built : (a b : View) (build : Build) (header : Header) (caches : Caches) → IsBuilding a build header caches → build.whole ≡ true → Throughout a b a.images → IsSettled b build.file → b.seen build.file ≡ a.seen build.file
    → IsBuilt b build.file header caches build.end
settled_built a b build header caches is whole same settled seen = record {
  batches = is.batches;
  cut = subst (λ (l : List Mutation). AreBatches (plain_list caches) is.batches l) (is.all whole) is.cut;
  limits = is.limits;
  of_header = is.of_header;
  there = is.there;
  each = λ m at.
      let tells = a.told m (holds_now a b a.images same m at) in
      settled m at ∙ seen ∙ is.seen tells ∙ ap (λ (w : Bool). built_text header is.batches w) whole;
}
