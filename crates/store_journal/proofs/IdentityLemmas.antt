-- What the first bytes of a file say of its seal and its header.
use Rattle.std.proofs.Common.{◌≡◌, ⊎_elim, ℕ, ◌-◌, List, length, take, drop, min, Option, None, Some, Result, Ok, Err, MatchResult, IfOk, IsErrOf, sym, ◌∙◌, ap, subst, arith, length-take, get_or}
use Rattle.std.proofs.lemmas.Bool.{cases_lt}
use Rattle.std.proofs.lemmas.List.{take_all}
use Rattle.record_form.specs.HeaderFault.{header_fault}
use Rattle.seal_gate.specs.Seal.{IsSealed}
use Rattle.store_ident.specs.declared.ident.StoreId.{StoreId}
use Rattle.store_journal.specs.Fault.{offset_if_fault, shifted}
use Rattle.store_journal.specs.Loading.{IsIdentified, IsUnidentifiedAt, IsHeaderFault}
use Rattle.store_journal.specs.declared.fault.LoadFault.{LoadFault}
use Rattle.store_journal.specs.declared.fault.LoadFault.TheVariants.{NotSealed, Damaged, Failed, NoMemory}
use Rattle.store_journal.proofs.TextLemmas.{first_of_prefix, header_of_prefix}

take_least : (seen : List ℕ) (n : ℕ) → n ≡ min 41 (length seen) → take n seen ≡ take 41 seen
take_least seen n is = ⊎_elim
    (λ less. let whole : n ≡ 41 = omega (arith, is, less) in ap (λ (k : ℕ). take k seen) whole)
    (λ more. take_all n seen (omega (arith, is, more)) ∙ sym (take_all 41 seen more))
    (cases_lt 41 (length seen))

module _ (seen prefix : List ℕ) (is : prefix ≡ take 41 seen) where
  as_long : length prefix ≡ min 41 (length seen)
  as_long = ap length is ∙ length-take 41 seen

  same_first : get_or prefix 0 0 ≡ get_or seen 0 0
  same_first = ap (λ (l : List ℕ). get_or l 0 0) is ∙ sym (first_of_prefix seen)

  pub sealed_prefix : IsSealed prefix → IsSealed seen
  sealed_prefix sealed = record { first = λ zero. sealed.first (same_first ∙ zero); long = omega (arith, sealed.long, as_long) }

  pub prefix_sealed : IsSealed seen → IsSealed prefix
  prefix_sealed sealed = record { first = λ zero. sealed.first (sym same_first ∙ zero); long = omega (arith, sealed.long, as_long) }

  pub same_header : take 40 (drop 1 prefix) ≡ take 40 (drop 1 seen)
  same_header =
      header_of_prefix prefix ∙ ap (λ (l : List ℕ). drop 1 l) (take_all 41 prefix (omega (arith, as_long)) ∙ is) ∙ sym (header_of_prefix seen)

  pub identified_prefix : (found : Option StoreId) → IsIdentified prefix found → IsIdentified seen found
  identified_prefix None not = λ sealed. not (prefix_sealed sealed)
  identified_prefix (Some id) has = (sealed_prefix has.0, has.1, has.2, sym same_header ∙ has.3, has.4)

  pub unidentified_prefix : (at : ℕ) → IsUnidentifiedAt prefix at → IsUnidentifiedAt seen at
  unidentified_prefix at has = record {
    sealed = sealed_prefix has.sealed;
    first = ap (λ (l : List ℕ). shifted 1 (offset_if_fault (header_fault l))) (sym same_header) ∙ has.first;
  }

-- what is told of the prefix is told of the file
pub prefix_told : (r : Result (Option StoreId) LoadFault) (T : Type 0) (seen prefix : List ℕ) → MatchResult r (λ found. IsIdentified prefix found) (λ fault. IsHeaderFault prefix fault) → (T → prefix ≡ take 41 seen) → IfOk r (λ found. T → IsIdentified seen found)
prefix_told (Ok found) T seen prefix has is = λ tells. identified_prefix seen prefix (is tells) found has
prefix_told (Err fault) T seen prefix has is = tt

pub prefix_fails : (r : Result (Option StoreId) LoadFault) (T : Type 0) (seen prefix : List ℕ) (at : ℕ) → MatchResult r (λ found. IsIdentified prefix found) (λ fault. IsHeaderFault prefix fault) → (T → prefix ≡ take 41 seen) → IsErrOf r (Damaged at) → T → IsUnidentifiedAt seen at
prefix_fails (Ok found) T seen prefix at has is err tells = absurd cc
prefix_fails (Err (Damaged there)) T seen prefix at has is err tells = let same : there ≡ at = cc in unidentified_prefix seen prefix (is tells) at (subst (IsUnidentifiedAt prefix) same has)
prefix_fails (Err NotSealed) T seen prefix at has is err tells = absurd has
prefix_fails (Err NoMemory) T seen prefix at has is err tells = absurd has
prefix_fails (Err Failed) T seen prefix at has is err tells = absurd has

pub prefix_no_failure : (r : Result (Option StoreId) LoadFault) (prefix : List ℕ) → MatchResult r (λ found. IsIdentified prefix found) (λ fault. IsHeaderFault prefix fault) → IsErrOf r Failed → ⊥
prefix_no_failure (Ok found) prefix has err = cc
prefix_no_failure (Err (Damaged there)) prefix has err = cc
prefix_no_failure (Err NotSealed) prefix has err = has
prefix_no_failure (Err NoMemory) prefix has err = has
prefix_no_failure (Err Failed) prefix has err = has

pub prefix_is_judged : (r : Result (Option StoreId) LoadFault) (prefix : List ℕ) → MatchResult r (λ found. IsIdentified prefix found) (λ fault. IsHeaderFault prefix fault) → IsErrOf r NotSealed → ⊥
prefix_is_judged (Ok found) prefix has err = cc
prefix_is_judged (Err (Damaged there)) prefix has err = cc
prefix_is_judged (Err NotSealed) prefix has err = has
prefix_is_judged (Err NoMemory) prefix has err = has
prefix_is_judged (Err Failed) prefix has err = has

pub prefix_read : (seen into prefix : List ℕ) (n : ℕ) → prefix ≡ take n into → n ≡ min 41 (length seen - 0) → take n into ≡ take n (drop 0 seen) → prefix ≡ take 41 seen
prefix_read seen into prefix n is count bytes = is ∙ bytes ∙ take_least seen n (omega (arith, count))
