-- What the disks of a partition keep while the files beside the newest are erased, image by image.
use Rattle.std.proofs.Common.{◌≡◌, inl, inr, ⊎_elim, ℕ, ◌<◌, ◌≤◌, List, [], take, drop, sym, ◌∙◌, ap, subst, arith}
use Rattle.std.specs.Prelude.{Contains}
use Rattle.std.proofs.lemmas.List.{drop-drop}
use Rattle.byte_fields.specs.Numbers.{big_endian}
use Rattle.disk_lane.specs.Lanes.{LaneImage}
use Rattle.seal_gate.specs.Seal.{IsSealed, ButFirst}
use Rattle.store_ident.specs.declared.ident.StoreId.{StoreId}
use Rattle.store_journal.specs.Stands.{version_in}
use Rattle.store_journal.proofs.StandsLemmas.{version_of_text}
use Rattle.store_journal.proofs.TextLemmas.{resealed}
use Rattle.file_kinds.specs.Kinds.{PartitionNumber}
use Rattle.file_kinds.proofs.KindLemmas.{sealed_or}
use Rattle.newest_store.specs.Choice.{Precedes, IsNewestAmong}
use Rattle.newest_store.specs.Clearing.{MayLoseSeal}
use Rattle.partition_cell.specs.Older.{IsOlderFile, ErasesOnly}
use Rattle.roster_form.proofs.ContainsLemmas.{contains_cases, contains_none}
use Rattle.cluster_model.specs.Lane.{HostedStore, HoldsStore, LaneStanding, IsSlot, KeepsLane}

-- Of files 0 and 1 of these hosts one is the newest. The others may have lost their seal, and no other file has changed.
pub record ErasesBeside (hosts : List ℕ) (old new : LaneImage) : Type 0 where
  pub host : ℕ
  pub file : ℕ
  pub newest : IsNewestAmong old hosts host file
  pub each : (h : ℕ) → ErasesOnly (IsOlderFile hosts host file h) (old h) (new h)

-- ---- the bytes

-- another first byte leaves the version
same_version : (old new : List ℕ) → ButFirst old new → version_in new ≡ version_in old
same_version old new is = ap big_endian (ap (λ (l : List ℕ). take 8 l) (sym (drop-drop 8 1 new) ∙ ap (λ (l : List ℕ). drop 8 l) is.rest ∙ drop-drop 8 1 old))

-- and, where the file is still sealed, the store
holds_still : (number : PartitionNumber) (store : HostedStore) (old new : List ℕ) → ButFirst old new → IsSealed new → HoldsStore number store old → HoldsStore number store new
holds_still number store old new but sealed is = record {
  mutations = is.mutations;
  text = record { groups = is.text.groups; joined = is.text.joined; text = resealed (record { id = store.id; partitions = number.partitions }) is.text.groups old new is.text.text but sealed };
  of_partition = is.of_partition;
  contents = is.contents;
  gate = is.gate;
}

-- a store's version is the one that its file shows
version_of : (number : PartitionNumber) (store : HostedStore) (bytes : List ℕ) → HoldsStore number store bytes → version_in bytes ≡ store.id.version
version_of number store bytes is = version_of_text (record { id = store.id; partitions = number.partitions }) is.text.groups bytes is.text.text

-- what is sealed now was so, with the same version
was_sealed : (old new : List ℕ) → MayLoseSeal old new → IsSealed new → IsSealed old × (version_in new ≡ version_in old)
was_sealed old new may sealed = ⊎_elim (λ same. (subst IsSealed same sealed, ap version_in same)) (λ but. (but.0, same_version old new but.1)) may

-- what may stand in a file may still stand there
slot_still : (number : PartitionNumber) (standing : LaneStanding) (host : ℕ) (old new : List ℕ) → MayLoseSeal old new → IsSlot number standing host old → IsSlot number standing host new
slot_still number standing host old new may slot = ⊎_elim
    (λ same. subst (λ (bytes : List ℕ). IsSlot number standing host bytes) (sym same) slot)
    (λ but. ⊎_elim
    (λ still. ⊎_elim
    (λ bare. absurd (bare but.0))
    (⊎_elim
    (λ less. inr (inl (subst (λ (v : ℕ). v < standing.store.id.version) (sym (same_version old new but.1)) less)))
    (λ has. inr (inr (has.0, has.1, has.2, holds_still number has.0 old new but.1 still has.3))))
    slot)
    (λ bare. inl bare)
    (sealed_or new))
    may

-- ---- the lane

-- where a partition stands for one store alone, the newest file of the hosts is the one that commits go to
is_current : (number : PartitionNumber) (recorded hosts : List ℕ) (standing : LaneStanding) (lane : LaneImage) (host file : ℕ) → (keeps : KeepsLane number recorded standing lane) → standing.perhaps ≡ []
    → ((h : ℕ) → Contains hosts h → Contains recorded h) → Contains hosts standing.store.host → IsNewestAmong lane hosts host file → (standing.store.host ≡ host) × (keeps.file ≡ file)
is_current number recorded hosts standing lane host file keeps none are owner newest = go (keeps.slots host file (are host newest.listed) newest.one_of_two)
  where
    current_sealed : IsSealed (lane standing.store.host keeps.file)
    current_sealed = let c = keeps.current in subst (λ (h : ℕ). IsSealed (lane h keeps.file)) c.2 c.4.text.text.sealed

    current_version : version_in (lane standing.store.host keeps.file) ≡ standing.store.id.version
    current_version = let c = keeps.current in ap (λ (h : ℕ). version_in (lane h keeps.file)) (sym c.2) ∙ version_of number c.0 (lane c.0.host keeps.file) c.4 ∙ ap (λ (i : StoreId). i.version) c.3

    no_older : standing.store.id.version ≤ version_in (lane host file)
    no_older = let v = current_version in ⊎_elim
        (λ less. omega (arith, less, v))
        (λ same. let e = same.0 in omega (arith, e, v))
        (newest.greatest standing.store.host keeps.file owner keeps.one_of_two current_sealed)

    one : version_in (lane host file) ≡ standing.store.id.version → (standing.store.host ≡ host) × (keeps.file ≡ file)
    one equal = let v = current_version in
        keeps.apart standing.store.host host keeps.file file (are standing.store.host owner) (are host newest.listed) keeps.one_of_two newest.one_of_two current_sealed newest.sealed (v ∙ sym equal) (omega (arith, v))

    go : IsSlot number standing host (lane host file) → (standing.store.host ≡ host) × (keeps.file ≡ file)
    go (inl bare) = absurd (bare newest.sealed)
    go (inr (inl less)) = absurd (let least = no_older in omega (arith, less, least))
    go (inr (inr found)) =
        let only : found.0 ≡ standing.store = ⊎_elim (λ it. it) (λ other. absurd (contains_none found.0 (subst (λ (l : List HostedStore). Contains l found.0) none other))) (contains_cases standing.store standing.perhaps found.0 found.1) in
        one (version_of number found.0 (lane host file) found.3 ∙ ap (λ (s : HostedStore). s.id.version) only)

-- Its disks keep what it stands for.
pub erased_keeps : (number : PartitionNumber) (recorded hosts : List ℕ) (standing : LaneStanding) (old new : LaneImage) → KeepsLane number recorded standing old → standing.perhaps ≡ []
    → ((h : ℕ) → Contains hosts h → Contains recorded h) → Contains hosts standing.store.host → ErasesBeside hosts old new → KeepsLane number recorded standing new
erased_keeps number recorded hosts standing old new keeps none are owner erases = record {
  file = keeps.file;
  one_of_two = keeps.one_of_two;
  current =
      let c = keeps.current in
      let at = is_current number recorded hosts standing old erases.host erases.file keeps none are owner erases.newest in
      (c.0, c.1, c.2, c.3, subst (λ (bytes : List ℕ). HoldsStore number c.0 bytes) (sym ((erases.each c.0.host).others keeps.file (λ older. older.other (c.2 ∙ at.0, at.1)))) c.4);
  newer = keeps.newer;
  slots = λ h f is low. slot_still number standing h (old h f) (new h f) ((erases.each h).files f) (keeps.slots h f is low);
  apart = λ h g f k is also low high sealed too equal least.
      let a = was_sealed (old h f) (new h f) ((erases.each h).files f) sealed in
      let b = was_sealed (old g k) (new g k) ((erases.each g).files k) too in
      keeps.apart h g f k is also low high a.0 b.0 (sym a.1 ∙ equal ∙ b.1) (subst (λ (v : ℕ). standing.store.id.version ≤ v) a.1 least);
}

-- where the files 0 and 1 hold the same, the newest is the same
pub newest_in : (seen lane : LaneImage) (hosts : List ℕ) (host file : ℕ) → ((h f : ℕ) → f ≤ 1 → lane h f ≡ seen h f) → IsNewestAmong seen hosts host file → IsNewestAmong lane hosts host file
newest_in seen lane hosts host file same newest = record {
  listed = newest.listed;
  one_of_two = newest.one_of_two;
  sealed = subst IsSealed (sym (same host file newest.one_of_two)) newest.sealed;
  greatest = λ h f is low sealed.
      subst (λ (bytes : List ℕ). Precedes (version_in bytes) host file (version_in (lane h f)) h f) (sym (same host file newest.one_of_two))
      (subst (λ (bytes : List ℕ). Precedes (version_in (seen host file)) host file (version_in bytes) h f) (sym (same h f low)) (newest.greatest h f is low (subst IsSealed (same h f low) sealed)));
}
