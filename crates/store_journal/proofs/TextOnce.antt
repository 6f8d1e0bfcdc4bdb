-- The bytes of a store stand for one header and one list of groups.
use Rattle.std.proofs.Common.{◌≡◌, ℕ, ◌<◌, ◌^◌, List, [], ◌∷◌, ◌++◌, length, drop, refl, sym, ◌∙◌, ap, subst, arith}
use Rattle.byte_fields.specs.Counted.{counted32_text}
use Rattle.byte_fields.proofs.CountedLemmas.{counted_text-injective}
use Rattle.cache_key.specs.declared.request.Mutation.{Mutation}
use Rattle.record_form.specs.declared.header.Header.{Header}
use Rattle.record_form.specs.GroupText.{IsGroup, group_text}
use Rattle.record_form.proofs.GroupFaultLemmas.{group_text-injective}
use Rattle.record_form.proofs.GroupLengthLemmas.{group_size}
use Rattle.record_form.proofs.HeaderLemmas.{header_text-injective}
use Rattle.store_journal.specs.Text.{IsText, Records}

-- the count of a group's spelling has room for it
pub group_fits : (group : List Mutation) → IsGroup group → length (group_text group) < 256 ^ 4
group_fits group is = omega (arith, (group_size group is).1)

-- the same bytes are records of the same groups
records_are_once : (groups others : List (List Mutation)) (rest following after : List ℕ) → Records rest groups (0 ∷ following) → Records rest others (0 ∷ after) → groups ≡ others
records_are_once [] [] rest following after is also = refl
records_are_once [] (h ∷ others) rest following after is also =
    let e : 0 ∷ following ≡ also.0 ∷ counted32_text (group_text h) ++ also.1 = sym is ∙ also.4 in absurd (also.2 (cc e))
records_are_once (g ∷ groups) [] rest following after is also =
    let e : 0 ∷ after ≡ is.0 ∷ counted32_text (group_text g) ++ is.1 = sym also ∙ is.4 in absurd (is.2 (cc e))
records_are_once (g ∷ groups) (h ∷ others) rest following after is also =
    let payloads = counted_text-injective 4 (group_text g) (group_text h) is.1 also.1 (group_fits g is.3) (group_fits h also.3) (ap (λ (l : List ℕ). drop 1 l) (sym is.4 ∙ also.4)) in
    let same : g ≡ h = group_text-injective g h is.3 also.3 payloads.0 in
    let next : groups ≡ others = records_are_once groups others is.1 following after is.5 (subst (λ (l : List ℕ). Records l others (0 ∷ after)) (sym payloads.1) also.5) in
    λ i. same i ∷ next i

-- a text is that of one store
pub text_once : (header other : Header) (groups others : List (List Mutation)) (bytes : List ℕ) → IsText header groups bytes → IsText other others bytes → (header ≡ other) × (groups ≡ others)
text_once header other groups others bytes is also = (
  header_text-injective header other is.limits also.limits (sym is.named ∙ also.named),
  records_are_once groups others (drop 41 bytes) is.records.0 also.records.0 is.records.1 also.records.1,
)
