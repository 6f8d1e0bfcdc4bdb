-- ClosedRecords that are read one after the other, and what a whole file is then.
use Rattle.std.proofs.Common.{◌≡◌, ◌↔◌, inl, inr, ℕ, ◌+◌, Bool, true, false, cond, List, ◌∷◌, take, drop, Option, None, Some, Result, Ok, Err, IfOk, IsErrOf, MatchResult, refl, sym, ◌∙◌, ap, subst, arith}
use Rattle.std.specs.Prelude.{◌==◌}
use Rattle.std.proofs.lemmas.Bool.{eqb-true}
use Rattle.byte_fields.specs.Numbers.{big_endian, number_in}
use Rattle.cache_key.specs.declared.request.Mutation.{Mutation}
use Rattle.disk_trait.specs.View.{View, Tells}
use Rattle.disk_trait.specs.Calls.{Same}
use Rattle.record_form.specs.declared.fault.RecordFault.{RecordFault}
use Rattle.record_form.specs.declared.header.Header.{Header}
use Rattle.record_form.specs.HeaderText.{IsHeader, header_text}
use Rattle.record_form.specs.HeaderFault.{header_in, header_fault}
use Rattle.record_form.proofs.HeaderLemmas.{header_in-header_text}
use Rattle.seal_gate.specs.Seal.{IsSealed}
use Rattle.store_ident.specs.declared.ident.StoreId.{StoreId}
use Rattle.store_journal.specs.Text.{Records, ClosedRecords, IsText}
use Rattle.partition_map.specs.After.{Maps}
use Rattle.store_journal.specs.AtRest.{IsKeptIn}
use Rattle.store_journal.specs.ContentsOf.{HasContentsOf}
use Rattle.store_journal.specs.Fault.{offset_if_fault, shifted, ◌or_earlier◌, other_number, header_fault_offset, IsDamagedAt}
use Rattle.store_journal.specs.Loading.{HasHeaderOf, AreBefore, IsRecordsFault, IsStoreFault, IsStoreEndingAt, IsLoaded}
use Rattle.store_journal.specs.declared.store.Store.{Store}
use Rattle.store_journal.specs.declared.fault.LoadFault.{LoadFault}
use Rattle.store_journal.specs.declared.fault.LoadFault.TheVariants.{NotSealed, Damaged, Failed, NoMemory}
use Rattle.store_journal.proofs.FaultLemmas.{text_is_whole}
use Rattle.store_journal.proofs.ContentsLemmas.{contents_as}
use Rattle.store_journal.proofs.StandsLemmas.{within_head}

without_fault : (found : Option RecordFault) → ((fault : RecordFault) → found ≡ Some fault → ⊥) → found ≡ None
without_fault None none = refl
without_fault (Some fault) none = absurd (none fault refl)

-- what a header's decoding says of its bytes
pub header_told : (text bytes : List ℕ) (r : Result Header RecordFault) → bytes ≡ text → IfOk r (λ header. IsHeader header × (bytes ≡ header_text header)) → ((fault : RecordFault) → IsErrOf r fault ↔ (header_fault bytes ≡ Some fault))
    → MatchResult r (λ header. (header_fault text ≡ None) × IsHeader header × (text ≡ header_text header)) (λ fault. header_fault text ≡ Some fault)
header_told text bytes (Ok header) same is tells =
    (without_fault (header_fault text) (λ fault has. let told = (tells fault).1 (ap header_fault same ∙ has) in absurd cc), is.0, sym same ∙ is.1)
header_told text bytes (Err fault) same is tells = ap header_fault (sym same) ∙ (tells fault).0 refl

neither : (first second : Option ℕ) → first or_earlier second ≡ None → (first ≡ None) × (second ≡ None)
neither None second none = (refl, none)
neither (Some offset) None none = absurd cc
neither (Some offset) (Some other) none = absurd cc

no_offset_in : (from : ℕ) (fault : Option RecordFault) → shifted from (offset_if_fault fault) ≡ None → fault ≡ None
no_offset_in from None none = refl
no_offset_in from (Some fault) none = absurd cc

wanted_number : (same : Bool) (offset : ℕ) → cond same None (Some offset) ≡ None → same ≡ true
wanted_number true offset none = refl
wanted_number false offset none = absurd cc

module _ (bytes : List ℕ) (partition partitions : ℕ) (none : header_fault_offset bytes partition partitions ≡ None) where
  abbrev header_part : Option ℕ
  header_part = shifted 1 (offset_if_fault (header_fault (take 40 (drop 1 bytes))))

  abbrev parts : (header_part or_earlier other_number bytes 7 partition ≡ None) × (other_number bytes 27 partitions ≡ None)
  parts = neither (header_part or_earlier other_number bytes 7 partition) (other_number bytes 27 partitions) none

  pub no_head_fault : header_fault (take 40 (drop 1 bytes)) ≡ None
  no_head_fault = no_offset_in 1 (header_fault (take 40 (drop 1 bytes))) (neither header_part (other_number bytes 7 partition) parts.0).0

  named_so : (header : Header) → IsHeader header → take 40 (drop 1 bytes) ≡ header_text header → (header.id.partition ≡ partition) × (header.partitions ≡ partitions)
  named_so header limits named =
      let found : header_in (take 40 (drop 1 bytes)) ≡ header = ap header_in named ∙ header_in-header_text header limits in
      let one : number_in bytes 7 2 ≡ header.id.partition = ap big_endian (within_head bytes 6 2 (omega arith)) ∙ ap (λ (h : Header). h.id.partition) found in
      let two : number_in bytes 27 2 ≡ header.partitions = ap big_endian (within_head bytes 26 2 (omega arith)) ∙ ap (λ (h : Header). h.partitions) found in
      let seven = wanted_number (number_in bytes 7 2 == partition) 7 (neither header_part (other_number bytes 7 partition) parts.0).1 in
      let last = wanted_number (number_in bytes 27 2 == partitions) 27 parts.1 in
      (sym one ∙ eqb-true (number_in bytes 7 2) partition seven, sym two ∙ eqb-true (number_in bytes 27 2) partitions last)

  pub named_as : (header : Header) → IsHeader header → take 40 (drop 1 bytes) ≡ header_text header → HasHeaderOf bytes partition partitions header.id
  named_as header limits named =
      let is = named_so header limits named in
      let same : header ≡ record { id = header.id; partitions = partitions } = λ i. record { id = header.id; partitions = is.1 i } in
      record {
        limits = subst IsHeader same limits;
        named = named ∙ ap header_text same;
        of_partition = is.0;
      }

-- a fault of the header, and one of the records after it
pub head_fails : (bytes : List ℕ) (partition partitions at : ℕ) → IsSealed bytes → header_fault_offset bytes partition partitions ≡ Some at → IsDamagedAt bytes partition partitions at
head_fails bytes partition partitions at sealed is = record { sealed = sealed; first = inl is }

pub records_fail : (bytes : List ℕ) (partition partitions : ℕ) (fault : LoadFault) → IsSealed bytes → header_fault_offset bytes partition partitions ≡ None → IsRecordsFault bytes fault → IsStoreFault bytes partition partitions fault
records_fail bytes partition partitions (Damaged at) sealed none is = record { sealed = sealed; first = inr (none, is) }
records_fail bytes partition partitions NoMemory sealed none is = tt
records_fail bytes partition partitions NotSealed sealed none is = absurd is
records_fail bytes partition partitions Failed sealed none is = absurd is

-- a whole store
store_found : (bytes : List ℕ) (partition partitions : ℕ) (id : StoreId) (mutations : List Mutation) (end : ℕ) → IsSealed bytes → HasHeaderOf bytes partition partitions id → AreBefore bytes end mutations → drop end bytes ≡ 0 ∷ drop (end + 1) bytes
    → IsStoreEndingAt bytes partition partitions id mutations end
store_found bytes partition partitions id mutations end sealed head before closed =
    let header : Header = record { id = id; partitions = partitions } in
    let records : ClosedRecords (drop 41 bytes) before.groups = (drop (end + 1) bytes, subst (λ (l : List ℕ). Records (drop 41 bytes) before.groups l) closed before.whole) in
    let text : IsText header before.groups bytes = record { limits = head.limits; sealed = sealed; named = head.named; records = records } in
    record { groups = before.groups; joined = before.joined; text = text; gate = before.there; of_partition = head.of_partition }

pub all_found : (bytes : List ℕ) (partition partitions : ℕ) (id : StoreId) (maps : Maps) (end : ℕ) → IsSealed bytes → HasHeaderOf bytes partition partitions id → HasContentsOf (AreBefore bytes end) maps → drop end bytes ≡ 0 ∷ drop (end + 1) bytes
    → HasContentsOf (λ mutations. IsStoreEndingAt bytes partition partitions id mutations end) maps
all_found bytes partition partitions id maps end sealed head held closed = contents_as (AreBefore bytes end) (λ mutations. IsStoreEndingAt bytes partition partitions id mutations end) maps
    (λ mutations before. store_found bytes partition partitions id mutations end sealed head before closed) held

-- the groups that were found in what a read gives
read_is : (old new : View) (partition partitions : ℕ) (store : Store) (bytes : List ℕ) (id : StoreId) (mutations : List Mutation) (end : ℕ) → IsStoreEndingAt bytes partition partitions id mutations end → (Tells old → bytes ≡ old.seen store.file) → Same old new
    → store.id ≡ id → store.end ≡ end → IsLoaded old new partitions store mutations
read_is old new partition partitions store bytes id mutations end found read same is_id is_end =
    let header : Header = record { id = store.id; partitions = partitions } in
    let text : IsText header found.groups bytes = subst (λ (i : StoreId). IsText (record { id = i; partitions = partitions }) found.groups bytes) (sym is_id) found.text in
    let kept : (other : List ℕ) → bytes ≡ other → IsKeptIn store header found.groups other = λ other e. record {
      text = subst (λ (l : List ℕ). IsText header found.groups l) e text;
      gate = is_end ∙ found.gate;
      named = refl;
    } in
    record {
      groups = found.groups;
      joined = found.joined;
      seen = λ tells. kept (old.seen store.file) (read tells);
      at_rest = λ settled m is.
          let before = same.fewer m is in
          kept (m store.file) (read (old.told m before) ∙ sym (settled m before));
    }

pub loaded_is : (old new : View) (partition partitions : ℕ) (store : Store) (bytes : List ℕ) (id : StoreId) (maps : Maps) (end : ℕ) → HasContentsOf (λ mutations. IsStoreEndingAt bytes partition partitions id mutations end) maps → (Tells old → bytes ≡ old.seen store.file) → Same old new
    → store.id ≡ id → store.end ≡ end → HasContentsOf (IsLoaded old new partitions store) maps
loaded_is old new partition partitions store bytes id maps end found read same is_id is_end = contents_as (λ mutations. IsStoreEndingAt bytes partition partitions id mutations end) (IsLoaded old new partitions store) maps
    (λ mutations is. read_is old new partition partitions store bytes id mutations end is read same is_id is_end) found

-- a store's bytes are refused only where memory runs out
pub text_passes : (bytes : List ℕ) (partition partitions : ℕ) (fault : LoadFault) (header : Header) (groups : List (List Mutation)) → IsStoreFault bytes partition partitions fault
    → IsText header groups bytes → header.id.partition ≡ partition → header.partitions ≡ partitions → fault ≡ NoMemory
text_passes bytes partition partitions NotSealed header groups is text one two = absurd (is text.sealed)
text_passes bytes partition partitions (Damaged at) header groups is text one two =
    let damaged : IsDamagedAt bytes header.id.partition header.partitions at = subst (λ (p : ℕ). IsDamagedAt bytes header.id.partition p at) (sym two) (subst (λ (p : ℕ). IsDamagedAt bytes p partitions at) (sym one) is) in
    absurd (text_is_whole header groups bytes at text damaged)
text_passes bytes partition partitions NoMemory header groups is text one two = refl
text_passes bytes partition partitions Failed header groups is text one two = absurd is

pub store_refused : (X : Type 0) (r : Result X LoadFault) (P : X → Type 0) (bytes seen : List ℕ) (partition partitions : ℕ) (judged fault : LoadFault) (header : Header) (groups : List (List Mutation))
    → r ≡ Err judged → MatchResult r P (λ other. IsStoreFault bytes partition partitions other) → judged ≡ fault → bytes ≡ seen
    → IsText header groups seen → header.id.partition ≡ partition → header.partitions ≡ partitions → fault ≡ NoMemory
store_refused X r P bytes seen partition partitions judged fault header groups was known is read text one two =
    let bad : IsStoreFault bytes partition partitions judged = subst (λ (o : Result X LoadFault). MatchResult o P (λ other. IsStoreFault bytes partition partitions other)) was known in
    sym is ∙ text_passes bytes partition partitions judged header groups bad (subst (λ (l : List ℕ). IsText header groups l) (sym read) text) one two

pub err_same : (X : Type 0) (r : Result X LoadFault) (one two : LoadFault) → r ≡ Err one → r ≡ Err two → one ≡ two
err_same X (Ok v) one two is also = absurd cc
err_same X (Err e) one two is also = cc
