-- What the acts on a lane keep, image by image.
use Rattle.std.proofs.Common.{◌≡◌, ◌⊎◌, inl, inr, ⊎_elim, ℕ, ◌<◌, ◌≤◌, List, [], take, drop, refl, sym, ◌∙◌, ap, subst, arith}
use Rattle.std.specs.Prelude.{Contains}
use Rattle.std.proofs.lemmas.List.{drop-drop}
use Rattle.byte_fields.specs.Numbers.{big_endian}
use Rattle.disk_lane.specs.Lanes.{LaneImage}
use Rattle.seal_gate.specs.Seal.{IsSealed, ButFirst}
use Rattle.store_ident.specs.declared.ident.StoreId.{StoreId}
use Rattle.store_journal.specs.Created.{IsUnsealed}
use Rattle.store_journal.specs.Stands.{version_in}
use Rattle.store_journal.proofs.TextLemmas.{resealed}
use Rattle.file_kinds.specs.Kinds.{PartitionNumber}
use Rattle.roster_form.proofs.ContainsLemmas.{contains_first, contains_later, contains_cases, contains_none}
use Rattle.cluster_model.specs.Lane.{HostedStore, HoldsStore, LaneStanding, choices, IsSlot, KeepsLane}
use Rattle.cluster_model.specs.LaneSteps.{standing_for, with_doubt, ChangesOne, IsErasedFrom, IsAside, IsApart, IsNewerThanAll, IsMore}
use Rattle.cluster_model.proofs.LaneLemmas.{version_of}

-- ---- choices

own_choice : (standing : LaneStanding) → Contains (choices standing) standing.store
own_choice standing = contains_first standing.store standing.perhaps

choice_cases : (standing : LaneStanding) (store : HostedStore) → Contains (choices standing) store → (store ≡ standing.store) ⊎ Contains standing.perhaps store
choice_cases standing store is = contains_cases standing.store standing.perhaps store is

-- where a store is perhaps there beside the others
own_still : (standing : LaneStanding) (store : HostedStore) → Contains (choices (with_doubt standing store)) standing.store
own_still standing store = contains_first standing.store (with_doubt standing store).perhaps

doubt_added : (standing : LaneStanding) (store : HostedStore) → Contains (choices (with_doubt standing store)) store
doubt_added standing store = contains_later standing.store (with_doubt standing store).perhaps store (contains_first store standing.perhaps)

wider : (standing : LaneStanding) (store : HostedStore) (s : HostedStore) → Contains (choices standing) s → Contains (choices (with_doubt standing store)) s
wider standing store s is = ⊎_elim
    (λ it. subst (λ (t : HostedStore). Contains (choices (with_doubt standing store)) t) (sym it) (own_still standing store))
    (λ there. contains_later standing.store (with_doubt standing store).perhaps s (contains_later store standing.perhaps s there))
    (choice_cases standing s is)

widen : (number : PartitionNumber) (standing : LaneStanding) (store : HostedStore) (host : ℕ) (bytes : List ℕ) → IsSlot number standing host bytes → IsSlot number (with_doubt standing store) host bytes
widen number standing store host bytes slot = ⊎_elim (λ bare. inl bare) (⊎_elim (λ less. inr (inl less)) (λ has. inr (inr (has.0, wider standing store has.0 has.1, has.2, has.3)))) slot

-- ---- the first byte

-- whatever the first byte is, if it isn't zero
same_version : (old new : List ℕ) → ButFirst old new → version_in new ≡ version_in old
same_version old new is = ap big_endian (ap (λ (l : List ℕ). take 8 l) (sym (drop-drop 8 1 new) ∙ ap (λ (l : List ℕ). drop 8 l) is.rest ∙ drop-drop 8 1 old))

holds_still : (number : PartitionNumber) (store : HostedStore) (old new : List ℕ) → ButFirst old new → IsSealed new → HoldsStore number store old → HoldsStore number store new
holds_still number store old new but sealed is = record {
  mutations = is.mutations;
  text = record { groups = is.text.groups; joined = is.text.joined; text = resealed (record { id = store.id; partitions = number.partitions }) is.text.groups old new is.text.text but sealed };
  of_partition = is.of_partition;
  contents = is.contents;
  gate = is.gate;
}

-- ---- acts

-- a file that no commit goes to is erased, or being erased
pub freed_keeps : (number : PartitionNumber) (recorded : List ℕ) (standing : LaneStanding) (old new : LaneImage) (host : ℕ) (file : ℕ) → (keeps : KeepsLane number recorded standing old) → ChangesOne host file old new
    → IsAside host file standing keeps.file → IsErasedFrom (old host file) (new host file) → KeepsLane number recorded standing new
freed_keeps number recorded standing old new host file keeps one aside freed = record {
  file = keeps.file;
  one_of_two = keeps.one_of_two;
  current =
      let c = keeps.current in
      (c.0, c.1, c.2, c.3, subst (λ (bytes : List ℕ). HoldsStore number c.0 bytes) (sym (⊎_elim (λ here. absurd (aside (sym c.2 ∙ here.0, here.1))) (λ same. same) (one c.0.host keeps.file keeps.one_of_two))) c.4);
  newer = keeps.newer;
  slots = λ h f is low. ⊎_elim
      (λ here. subst (λ (k : ℕ). IsSlot number standing h (new h k)) (sym here.1) (subst (λ (g : ℕ). IsSlot number standing g (new g file)) (sym here.0)
      (slot (subst (λ (k : ℕ). IsSlot number standing host (old host k)) here.1 (subst (λ (g : ℕ). IsSlot number standing g (old g f)) here.0 (keeps.slots h f is low))))))
      (λ same. subst (λ (bytes : List ℕ). IsSlot number standing h bytes) (sym same) (keeps.slots h f is low))
      (one h f low);
  apart = λ h g f k is also low high sealed too equal least.
      let a = was h f low sealed in
      let b = was g k high too in
      keeps.apart h g f k is also low high a.0 b.0 (sym a.1 ∙ equal ∙ b.1) (subst (λ (v : ℕ). standing.store.id.version ≤ v) a.1 least);
}
  where
    -- what is sealed now was so, with the same version
    was : (h : ℕ) (f : ℕ) → f ≤ 1 → IsSealed (new h f) → IsSealed (old h f) × (version_in (new h f) ≡ version_in (old h f))
    was h f low sealed = ⊎_elim
        (λ here.
        subst (λ (k : ℕ). IsSealed (old h k) × (version_in (new h k) ≡ version_in (old h k))) (sym here.1) (subst (λ (g : ℕ). IsSealed (old g file) × (version_in (new g file) ≡ version_in (old g file))) (sym here.0)
        (⊎_elim
        (λ bare. absurd (bare (subst (λ (k : ℕ). IsSealed (new host k)) here.1 (subst (λ (g : ℕ). IsSealed (new g f)) here.0 sealed))))
        (λ still. (still.0, same_version (old host file) (new host file) still.2))
        freed)))
        (λ same. (subst IsSealed same sealed, ap version_in same))
        (one h f low)

    slot : IsSlot number standing host (old host file) → IsSlot number standing host (new host file)
    slot before = ⊎_elim
        (λ bare. inl bare)
        (λ still. ⊎_elim
        (λ not. absurd (not still.0))
        (⊎_elim
        (λ less. inr (inl (subst (λ (v : ℕ). v < standing.store.id.version) (sym (same_version (old host file) (new host file) still.2)) less)))
        (λ has. inr (inr (has.0, has.1, has.2, holds_still number has.0 (old host file) (new host file) still.2 still.1 has.3))))
        before)
        freed

-- a store that is newer than all is sealed in a file that no commit goes to, or being sealed
pub sealing_keeps : (number : PartitionNumber) (recorded : List ℕ) (standing : LaneStanding) (store : HostedStore) (old new : LaneImage) (file : ℕ) → (keeps : KeepsLane number recorded standing old) → ChangesOne store.host file old new
    → IsAside store.host file standing keeps.file → IsNewerThanAll store standing → IsUnsealed (new store.host file) ⊎ HoldsStore number store (new store.host file) → KeepsLane number recorded (with_doubt standing store) new
sealing_keeps number recorded standing store old new file keeps one aside newer here = record {
  file = keeps.file;
  one_of_two = keeps.one_of_two;
  current =
      let c = keeps.current in
      (c.0, wider standing store c.0 c.1, c.2, c.3, subst (λ (bytes : List ℕ). HoldsStore number c.0 bytes) (sym (⊎_elim (λ it. absurd (aside (sym c.2 ∙ it.0, it.1))) (λ same. same) (one c.0.host keeps.file keeps.one_of_two))) c.4);
  newer = λ other is. ⊎_elim (λ it. subst (λ (s : HostedStore). standing.store.id.version ≤ s.id.version) (sym it) (let less = newer standing.store (own_choice standing) in omega (arith, less))) (λ there. keeps.newer other there) (contains_cases store standing.perhaps other is);
  slots = λ h f is low. ⊎_elim
      (λ it. subst (λ (k : ℕ). IsSlot number (with_doubt standing store) h (new h k)) (sym it.1) (subst (λ (g : ℕ). IsSlot number (with_doubt standing store) g (new g file)) (sym it.0)
      (⊎_elim (λ bare. inl bare) (λ has. inr (inr (store, doubt_added standing store, refl, has))) here)))
      (λ same. subst (λ (bytes : List ℕ). IsSlot number (with_doubt standing store) h bytes) (sym same) (widen number standing store h (old h f) (keeps.slots h f is low)))
      (one h f low);
  apart = λ h g f k is also low high sealed too equal least. ⊎_elim
      (λ it. ⊎_elim
      (λ other. (it.0 ∙ sym other.0, it.1 ∙ sym other.1))
      (λ same. absurd (not_so h g f k is also low high it same sealed too equal))
      (one g k high))
      (λ same. ⊎_elim
      (λ it. absurd (not_so g h k f also is high low it same too sealed (sym equal)))
      (λ likewise. keeps.apart h g f k is also low high (subst IsSealed same sealed) (subst IsSealed likewise too) (ap version_in (sym same) ∙ equal ∙ ap version_in likewise) (subst (λ (v : ℕ). standing.store.id.version ≤ v) (ap version_in same) least))
      (one g k high))
      (one h f low);
}
  where
    -- no other file has its version
    not_so : (h g : ℕ) (f k : ℕ) → Contains recorded h → Contains recorded g → f ≤ 1 → k ≤ 1 → (h ≡ store.host) × (f ≡ file) → new g k ≡ old g k → IsSealed (new h f) → IsSealed (new g k) → version_in (new h f) ≡ version_in (new g k) → ⊥
    not_so h g f k is also low high it same sealed too equal =
        let at : IsSealed (new store.host file) = subst (λ (j : ℕ). IsSealed (new store.host j)) it.1 (subst (λ (e : ℕ). IsSealed (new e f)) it.0 sealed) in
        let v : version_in (new h f) ≡ store.id.version = ap (λ (e : ℕ). version_in (new e f)) it.0 ∙ ap (λ (j : ℕ). version_in (new store.host j)) it.1
        ∙ ⊎_elim (λ bare. absurd (bare at)) (λ has. version_of number store (new store.host file) has) here in
        let w : version_in (new g k) ≡ version_in (old g k) = ap version_in same in
        ⊎_elim
        (λ bare. bare (subst IsSealed same too))
        (⊎_elim
        (λ less. let more = newer standing.store (own_choice standing) in omega (arith, v, w, equal, less, more))
        (λ has. let u : version_in (old g k) ≡ has.0.id.version = version_of number has.0 (old g k) has.3 in let more = newer has.0 has.1 in omega (arith, v, w, equal, u, more)))
        (keeps.slots g k also high)

-- it is sealed
pub sealed_keeps : (number : PartitionNumber) (recorded : List ℕ) (standing : LaneStanding) (store : HostedStore) (old new : LaneImage) (file : ℕ) → (keeps : KeepsLane number recorded standing old) → file ≤ 1 → ChangesOne store.host file old new
    → IsNewerThanAll store standing → HoldsStore number store (new store.host file) → KeepsLane number recorded (standing_for store) new
sealed_keeps number recorded standing store old new file keeps within one newer has = record {
  file = file;
  one_of_two = within;
  current = (store, own_choice (standing_for store), refl, refl, has);
  newer = λ other none. absurd (contains_none other none);
  slots = λ h f is low. ⊎_elim
      (λ it. inr (inr (store, own_choice (standing_for store), sym it.0, subst (λ (k : ℕ). HoldsStore number store (new h k)) (sym it.1) (subst (λ (g : ℕ). HoldsStore number store (new g file)) (sym it.0) has))))
      (λ same. ⊎_elim (λ bare. inl (subst IsUnsealed (sym same) bare)) (λ less. inr (inl (subst (λ (bytes : List ℕ). version_in bytes < store.id.version) (sym same) less))) (older h f is low))
      (one h f low);
  apart = λ h g f k is also low high sealed too equal least. ⊎_elim
      (λ it. ⊎_elim
      (λ other. (it.0 ∙ sym other.0, it.1 ∙ sym other.1))
      (λ same. absurd (not_so g k also high same too (subst (λ (v : ℕ). store.id.version ≤ v) equal least)))
      (one g k high))
      (λ same. absurd (not_so h f is low same sealed least))
      (one h f low);
}
  where
    older : (h : ℕ) (f : ℕ) → Contains recorded h → f ≤ 1 → IsUnsealed (old h f) ⊎ (version_in (old h f) < store.id.version)
    older h f is low = ⊎_elim
        (λ bare. inl bare)
        (⊎_elim
        (λ less. inr (let more = newer standing.store (own_choice standing) in omega (arith, less, more)))
        (λ found. inr (let u : version_in (old h f) ≡ found.0.id.version = version_of number found.0 (old h f) found.3 in let more = newer found.0 found.1 in omega (arith, u, more))))
        (keeps.slots h f is low)

    not_so : (h : ℕ) (f : ℕ) → Contains recorded h → f ≤ 1 → new h f ≡ old h f → IsSealed (new h f) → store.id.version ≤ version_in (new h f) → ⊥
    not_so h f is low same sealed least = ⊎_elim
        (λ bare. bare (subst IsSealed same sealed))
        (λ less. let w : version_in (new h f) ≡ version_in (old h f) = ap version_in same in omega (arith, w, less, least))
        (older h f is low)

-- a group is added to the store that commits go to, or being added
pub appending_keeps : (number : PartitionNumber) (recorded : List ℕ) (standing : LaneStanding) (more : HostedStore) (old new : LaneImage) → (keeps : KeepsLane number recorded standing old) → ChangesOne standing.store.host keeps.file old new
    → IsMore standing.store more → HoldsStore number standing.store (new standing.store.host keeps.file) ⊎ HoldsStore number more (new standing.store.host keeps.file) → KeepsLane number recorded (with_doubt standing more) new
appending_keeps number recorded standing more old new keeps one is_more here = record {
  file = keeps.file;
  one_of_two = keeps.one_of_two;
  current = ⊎_elim
      (λ has. (standing.store, own_still standing more, refl, refl, has))
      (λ has. (more, doubt_added standing more, is_more.host, is_more.id, subst (λ (h : ℕ). HoldsStore number more (new h keeps.file)) (sym is_more.host) has))
      here;
  newer = λ other is. ⊎_elim
      (λ it. let e : other.id.version ≡ standing.store.id.version = ap (λ (s : HostedStore). s.id.version) it ∙ ap (λ (i : StoreId). i.version) is_more.id in omega (arith, e))
      (λ there. keeps.newer other there)
      (contains_cases more standing.perhaps other is);
  slots = λ h f is low. ⊎_elim
      (λ it. subst (λ (k : ℕ). IsSlot number (with_doubt standing more) h (new h k)) (sym it.1) (subst (λ (g : ℕ). IsSlot number (with_doubt standing more) g (new g keeps.file)) (sym it.0)
      (⊎_elim (λ has. inr (inr (standing.store, own_still standing more, refl, has))) (λ has. inr (inr (more, doubt_added standing more, is_more.host, has))) here)))
      (λ same. subst (λ (bytes : List ℕ). IsSlot number (with_doubt standing more) h bytes) (sym same) (widen number standing more h (old h f) (keeps.slots h f is low)))
      (one h f low);
  apart = λ h g f k is also low high sealed too equal least.
      let a = was h f low sealed in
      let b = was g k high too in
      keeps.apart h g f k is also low high a.0 b.0 (sym a.1 ∙ equal ∙ b.1) (subst (λ (v : ℕ). standing.store.id.version ≤ v) a.1 least);
}
  where
    -- the version of the file that commits go to, before and now
    before : version_in (old standing.store.host keeps.file) ≡ standing.store.id.version
    before = let c = keeps.current in ap (λ (h : ℕ). version_in (old h keeps.file)) (sym c.2) ∙ version_of number c.0 (old c.0.host keeps.file) c.4 ∙ ap (λ (i : StoreId). i.version) c.3

    was_sealed : IsSealed (old standing.store.host keeps.file)
    was_sealed = let c = keeps.current in subst (λ (h : ℕ). IsSealed (old h keeps.file)) c.2 c.4.text.text.sealed

    now : version_in (new standing.store.host keeps.file) ≡ standing.store.id.version
    now = ⊎_elim (λ has. version_of number standing.store (new standing.store.host keeps.file) has) (λ has. version_of number more (new standing.store.host keeps.file) has ∙ ap (λ (i : StoreId). i.version) is_more.id) here

    was : (h : ℕ) (f : ℕ) → f ≤ 1 → IsSealed (new h f) → IsSealed (old h f) × (version_in (new h f) ≡ version_in (old h f))
    was h f low sealed = ⊎_elim
        (λ it. subst (λ (k : ℕ). IsSealed (old h k) × (version_in (new h k) ≡ version_in (old h k))) (sym it.1) (subst (λ (g : ℕ). IsSealed (old g keeps.file) × (version_in (new g keeps.file) ≡ version_in (old g keeps.file))) (sym it.0)
        (was_sealed, now ∙ sym before)))
        (λ same. (subst IsSealed same sealed, ap version_in same))
        (one h f low)

-- it is added, where no other store is in doubt
pub appended_keeps : (number : PartitionNumber) (recorded : List ℕ) (standing : LaneStanding) (more : HostedStore) (old new : LaneImage) → (keeps : KeepsLane number recorded standing old) → ChangesOne standing.store.host keeps.file old new
    → Contains recorded standing.store.host → standing.perhaps ≡ [] → IsMore standing.store more → HoldsStore number more (new standing.store.host keeps.file) → KeepsLane number recorded (standing_for more) new
appended_keeps number recorded standing more old new keeps one member none is_more has =
    let wide = appending_keeps number recorded standing more old new keeps one is_more (inr has) in
    record {
      file = keeps.file;
      one_of_two = keeps.one_of_two;
      current = (more, own_choice (standing_for more), refl, refl, subst (λ (h : ℕ). HoldsStore number more (new h keeps.file)) (sym is_more.host) has);
      newer = λ other no_other. absurd (contains_none other no_other);
      slots = λ h f is low. ⊎_elim
          (λ it. inr (inr (more, own_choice (standing_for more), is_more.host ∙ sym it.0, subst (λ (k : ℕ). HoldsStore number more (new h k)) (sym it.1) (subst (λ (g : ℕ). HoldsStore number more (new g keeps.file)) (sym it.0) has))))
          (λ same. ⊎_elim
          (λ bare. inl (subst IsUnsealed (sym same) bare))
          (⊎_elim
          (λ less. inr (inl (subst (λ (bytes : List ℕ). version_in bytes < more.id.version) (sym same) (subst (λ (i : StoreId). version_in (old h f) < i.version) (sym is_more.id) less))))
          (λ found. there h f is low same found))
          (keeps.slots h f is low))
          (one h f low);
      apart = λ h g f k is also low high sealed too equal least. wide.apart h g f k is also low high sealed too equal (subst (λ (i : StoreId). i.version ≤ version_in (new h f)) is_more.id least);
    }
  where
    -- the store stands in one file alone
    there : (h : ℕ) (f : ℕ) → Contains recorded h → f ≤ 1 → new h f ≡ old h f → ((s : HostedStore) × Contains (choices standing) s × (s.host ≡ h) × HoldsStore number s (old h f)) → IsSlot number (standing_for more) h (new h f)
    there h f is low same found =
        let only_store : found.0 ≡ standing.store = ⊎_elim (λ it. it) (λ other. absurd (contains_none found.0 (subst (λ (l : List HostedStore). Contains l found.0) none other))) (choice_cases standing found.0 found.1) in
        let c = keeps.current in
        let only_current : c.0 ≡ standing.store = ⊎_elim (λ it. it) (λ other. absurd (contains_none c.0 (subst (λ (l : List HostedStore). Contains l c.0) none other))) (choice_cases standing c.0 c.1) in
        let v : version_in (old h f) ≡ standing.store.id.version = version_of number found.0 (old h f) found.3 ∙ ap (λ (s : HostedStore). s.id.version) only_store in
        let w : version_in (old standing.store.host keeps.file) ≡ standing.store.id.version = ap (λ (g : ℕ). version_in (old g keeps.file)) (sym c.2) ∙ version_of number c.0 (old c.0.host keeps.file) c.4 ∙ ap (λ (s : HostedStore). s.id.version) only_current in
        let sealed : IsSealed (old standing.store.host keeps.file) = subst (λ (g : ℕ). IsSealed (old g keeps.file)) c.2 c.4.text.text.sealed in
        let at = keeps.apart h standing.store.host f keeps.file is member low keeps.one_of_two found.3.text.text.sealed sealed (v ∙ sym w) (omega (arith, v)) in
        inr (inr (more, own_choice (standing_for more), is_more.host ∙ sym at.0, subst (λ (k : ℕ). HoldsStore number more (new h k)) (sym at.1) (subst (λ (g : ℕ). HoldsStore number more (new g keeps.file)) (sym at.0) has)))

-- whatever a file aside becomes that may stand there: as by a second erasure, which may show again what the first one hid
pub aside_keeps : (number : PartitionNumber) (recorded : List ℕ) (standing : LaneStanding) (old new : LaneImage) (host : ℕ) (file : ℕ) → (keeps : KeepsLane number recorded standing old) → ChangesOne host file old new
    → IsAside host file standing keeps.file → IsSlot number standing host (new host file) → IsApart recorded standing old host file (new host file) → KeepsLane number recorded standing new
aside_keeps number recorded standing old new host file keeps one aside slot alone = record {
  file = keeps.file;
  one_of_two = keeps.one_of_two;
  current =
      let c = keeps.current in
      (c.0, c.1, c.2, c.3, subst (λ (bytes : List ℕ). HoldsStore number c.0 bytes) (sym (⊎_elim (λ here. absurd (aside (sym c.2 ∙ here.0, here.1))) (λ same. same) (one c.0.host keeps.file keeps.one_of_two))) c.4);
  newer = keeps.newer;
  slots = λ h f is low. ⊎_elim
      (λ here. subst (λ (k : ℕ). IsSlot number standing h (new h k)) (sym here.1) (subst (λ (g : ℕ). IsSlot number standing g (new g file)) (sym here.0) slot))
      (λ same. subst (λ (bytes : List ℕ). IsSlot number standing h bytes) (sym same) (keeps.slots h f is low))
      (one h f low);
  apart = λ h g f k is also low high sealed too equal least. ⊎_elim
      (λ here. ⊎_elim
      (λ there. (here.0 ∙ sym there.0, here.1 ∙ sym there.1))
      (λ same. let r = so h g f k also high here same sealed too equal least in (here.0 ∙ sym r.0, here.1 ∙ sym r.1))
      (one g k high))
      (λ same. ⊎_elim
      (λ there. let r = so g h k f is low there same too sealed (sym equal) (subst (λ (v : ℕ). standing.store.id.version ≤ v) equal least) in (r.0 ∙ sym there.0, r.1 ∙ sym there.1))
      (λ likewise. keeps.apart h g f k is also low high (subst IsSealed same sealed) (subst IsSealed likewise too) (ap version_in (sym same) ∙ equal ∙ ap version_in likewise) (subst (λ (v : ℕ). standing.store.id.version ≤ v) (ap version_in same) least))
      (one g k high))
      (one h f low);
}
  where
    so : (h g : ℕ) (f k : ℕ) → Contains recorded g → k ≤ 1 → (h ≡ host) × (f ≡ file) → new g k ≡ old g k → IsSealed (new h f) → IsSealed (new g k) → version_in (new h f) ≡ version_in (new g k) → standing.store.id.version ≤ version_in (new h f)
        → (g ≡ host) × (k ≡ file)
    so h g f k is low here same sealed too equal least =
        let at : new h f ≡ new host file = ap (λ (e : ℕ). new e f) here.0 ∙ ap (λ (j : ℕ). new host j) here.1 in
        alone (subst IsSealed at sealed) (subst (λ (v : ℕ). standing.store.id.version ≤ v) (ap version_in at) least) g k is low (subst IsSealed same too) (ap version_in (sym same) ∙ sym equal ∙ ap version_in at)
