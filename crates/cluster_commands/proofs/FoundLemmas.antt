-- What the one host's two files hold, where a store is known: what is found there, and what stays while older stores are erased.
use Rattle.std.proofs.Common.{◌≡◌, ◌≢◌, ◌⊎◌, inl, inr, ⊎_elim, ℕ, ◌<◌, ◌≤◌, arith, List, [], ◌∷◌, ◌++◌, take, All, refl, sym, ◌∙◌, ap, subst}
use Rattle.std.specs.Prelude.{IsTrue, Contains}
use Rattle.std.specs.List.{flat_map}
use Rattle.std.proofs.lemmas.List.Elements.{All-nil, All-cons, All-contains, Contains-append_left, Contains-append_right, Contains-push, Contains-push_cases}
use Rattle.cache_key.specs.declared.request.Mutation.{Mutation}
use Rattle.cache_model.specs.Change.{Change, changes_of}
use Rattle.cache_model.proofs.SameLemmas.{same_itself}
use Rattle.disk_lane.specs.Lanes.{LaneImage}
use Rattle.disk_trait.specs.View.{Image}
use Rattle.newest_store.specs.Choice.{IsNewestAmong}
use Rattle.newest_store.specs.Clearing.{MayLoseSeal}
use Rattle.newest_store.specs.Newest.{files_of, IsHeaded, IsNewest, HasStore, IsDamagedIn}
use Rattle.newest_store.proofs.NewestLemmas.{newest_once, headed_is_identified, undamaged}
use Rattle.partition_cell.specs.Loaded.{IsNewestDamaged}
use Rattle.partition_cell.proofs.ThroughoutLemmas.{version_unsealed}
use Rattle.record_form.specs.declared.header.Header.{Header}
use Rattle.record_form.specs.HeaderFault.{header_fault}
use Rattle.seal_gate.specs.Seal.{IsSealed}
use Rattle.store_ident.specs.declared.ident.StoreId.{StoreId}
use Rattle.store_journal.specs.Created.{IsUnsealed}
use Rattle.store_journal.specs.Fault.{IsDamagedAt}
use Rattle.store_journal.specs.Loading.{IsUnidentifiedAt}
use Rattle.store_journal.specs.Stands.{version_in, StandsFor}
use Rattle.store_journal.specs.Text.{header_section, IsText, end_of}
use Rattle.store_journal.proofs.StandsLemmas.{version_of_text}
use Rattle.store_journal.proofs.TextOnce.{text_once}
use Rattle.cluster_commands.specs.OnDisk.{IsSurely, HoldsKnown}
use Rattle.cluster_commands.specs.State.{KnownStore}

-- ---- the one host

pub only_host : (h : ℕ) → Contains (0 ∷ []) h → h ≡ 0
only_host h there = ⊎_elim (λ (none : Contains [] h). absurd (omega (arith, none.1))) (λ is. sym is) (Contains-push_cases [] 0 h there)

pub host_listed : Contains {X = ℕ} (0 ∷ []) 0
host_listed = Contains-push [] 0

-- its newest file is the newest of the two
pub newest_alone : (ms : LaneImage) (h f : ℕ) → IsNewestAmong ms (0 ∷ []) h f → IsNewest (ms 0) f
newest_alone ms h f is =
    let best = subst (λ (k : ℕ). IsNewestAmong ms (0 ∷ []) k f) (only_host h is.listed) is in
    record {
      one_of_two = best.one_of_two;
      sealed = best.sealed;
      greatest = λ g le ne sealed. ⊎_elim
          inl
          (λ equal. inr (equal.0, ⊎_elim (λ less. absurd (omega (arith, less))) (λ order. let lower = order.1 in omega (arith, lower, ne)) equal.1))
          (best.greatest 0 g host_listed le sealed);
    }

-- ---- what stays

-- each of the two files is as it was, or may have lost its seal; and the newest is as it was
pub record KeepsItsNewest (old new : Image) : Type 0 where
  pub files : (f : ℕ) → f ≤ 1 → MayLoseSeal (old f) (new f)
  pub newest : (f : ℕ) → IsNewest old f → new f ≡ old f

module _ (old new : Image) (kept : KeepsItsNewest old new) where
  pub was_sealed : (f : ℕ) → f ≤ 1 → IsSealed (new f) → IsSealed (old f)
  was_sealed f le sealed = ⊎_elim (λ same. subst IsSealed same sealed) (λ lost. lost.0) (kept.files f le)

  same_version : (f : ℕ) → f ≤ 1 → version_in (new f) ≡ version_in (old f)
  same_version f le = ⊎_elim (λ same. ap version_in same) (λ lost. version_unsealed (old f) (new f) lost.1) (kept.files f le)

  same_header : (f : ℕ) → f ≤ 1 → header_section (new f) ≡ header_section (old f)
  same_header f le = ⊎_elim (λ same. ap header_section same) (λ lost. ap (λ (l : List ℕ). take 40 l) lost.1.rest) (kept.files f le)

  newest_still : (f : ℕ) → IsNewest old f → IsNewest new f
  newest_still f is =
      let same = kept.newest f is in
      record {
        one_of_two = is.one_of_two;
        sealed = subst IsSealed (sym same) is.sealed;
        greatest = λ g le ne sealed.
            let there = same_version g le in
            let here : version_in (new f) ≡ version_in (old f) = ap version_in same in
            ⊎_elim
            (λ less. inl (omega (arith, less, there, here)))
            (λ equal. let first = equal.0 in inr (there ∙ first ∙ sym here, equal.1))
            (is.greatest g le ne (was_sealed g le sealed));
      }

  pub holds_still : (known : KnownStore) (changes : List Change) → StandsFor (files_of new) 0 1 changes → HoldsKnown known changes old → HoldsKnown known changes new
  holds_still known changes stands has = record {
    stands = stands;
    headed = λ f le sealed. ap header_fault (same_header f le) ∙ has.headed f le (was_sealed f le sealed);
    most = λ f le sealed. let less = has.most f le (was_sealed f le sealed) in let same = same_version f le in omega (arith, less, same);
    lone = λ so f le ne sealed. has.lone so f le ne (was_sealed f le sealed);
    sure = λ so.
        let is = has.sure so in
        record {
          newest = newest_still known.file is.newest;
          groups = is.groups;
          text = subst (IsText (record { id = known.id; partitions = 1 }) is.groups) (sym (kept.newest known.file is.newest)) is.text;
          gate = is.gate;
        };
  }

-- ---- what is found

-- a store in the newest file is the one that is known
module _ (m : Image) (file end : ℕ) (id : StoreId) (groups : List (List Mutation)) (newest : IsNewest m file) (text : IsText (record { id = id; partitions = 1 }) groups (m file)) (gate : end ≡ end_of groups)
    (known : KnownStore) (changes : List Change) (has : HoldsKnown known changes m) where
  pub version_given : id.version ≤ known.told
  version_given =
      let most = has.most file newest.one_of_two newest.sealed in
      let same = version_of_text (record { id = id; partitions = 1 }) groups (m file) text in
      omega (arith, most, same)

  pub surely_found : IsTrue known.sure → (file ≡ known.file) × (id ≡ known.id) × (end ≡ known.end)
  surely_found so =
      let is = has.sure so in
      let same = newest_once m file known.file newest is.newest in
      let there = subst (λ (k : ℕ). IsText (record { id = known.id; partitions = 1 }) is.groups (m k)) (sym same) is.text in
      let once = text_once (record { id = id; partitions = 1 }) (record { id = known.id; partitions = 1 }) groups is.groups (m file) text there in
      (same, ap (λ (h : Header). h.id) once.0, gate ∙ ap end_of once.1 ∙ sym is.gate)

-- ---- what isn't

first_in : {X : Type 0} (x : X) (xs : List X) → Contains (x ∷ xs) x
first_in x xs = Contains-append_left (x ∷ []) xs x (Contains-push [] x)

-- files that stand for something aren't all without a seal
pub one_is_sealed : (m : Image) (changes : List Change) → StandsFor (files_of m) 0 1 changes → ((f : ℕ) → f ≤ 1 → IsUnsealed (m f)) → ⊥
one_is_sealed m changes is none =
    let all : All IsUnsealed (files_of m) = All-cons IsUnsealed (m 0) (m 1 ∷ []) (none 0 (omega arith)) (All-cons IsUnsealed (m 1) [] (none 1 (omega arith)) (All-nil IsUnsealed)) in
    All-contains IsUnsealed (files_of m) is.newest all
    (subst (λ (files : List (List ℕ)). Contains files is.newest) (sym is.offset) (Contains-append_right is.before (is.newest ∷ is.after) is.newest (first_in is.newest is.after)))
    is.store.text.sealed

-- damage in the files of the one host
damaged_here : (ms : LaneImage) (h f at : ℕ) → h ≡ 0 → f ≤ 1 → IsNewestDamaged ms (0 ∷ []) 0 1 h f at → IsDamagedIn (ms 0) 0 1 f at
damaged_here ms h f at host le is = ⊎_elim
    (λ one. record {
      one_of_two = le;
      first = inl (subst (λ (k : ℕ). IsUnidentifiedAt (ms k f) at) host one.unheaded, λ g less. subst (λ (k : ℕ). IsHeaded (ms k g)) host (one.lower g less));
    })
    (λ two. record {
      one_of_two = le;
      first = inr ((λ g within. two.0 0 g host_listed within), newest_alone ms h f two.1, subst (λ (k : ℕ). IsDamagedAt (ms k f) 0 1 at) host two.2);
    })
    is

-- it is in a sealed file
pub damage_is_sealed : (ms : LaneImage) (h f at : ℕ) → h ≡ 0 → f ≤ 1 → IsNewestDamaged ms (0 ∷ []) 0 1 h f at → IsSealed (ms 0 f)
damage_is_sealed ms h f at host le is = ⊎_elim (λ header. header.0.sealed) (λ rest. rest.2.sealed) (damaged_here ms h f at host le is).first

-- and there is none where a store is known
pub known_undamaged : (ms : LaneImage) (h f at : ℕ) → h ≡ 0 → f ≤ 1 → IsNewestDamaged ms (0 ∷ []) 0 1 h f at → (known : KnownStore) (changes : List Change) → HoldsKnown known changes (ms 0) → ⊥
known_undamaged ms h f at host le is known changes has =
    let damage = damaged_here ms h f at host le is in
    ⊎_elim
    (λ header. headed_is_identified (ms 0 f) at (has.headed f le) header.0)
    (λ rest.
    let exact = changes_of has.stands.mutations in
    let store : HasStore 0 1 f has.stands.header.id exact (ms 0) = record {
      newest = rest.1;
      stands = record {
        before = has.stands.before;
        newest = has.stands.newest;
        after = has.stands.after;
        offset = has.stands.offset;
        others_before = has.stands.others_before;
        others_after = has.stands.others_after;
        header = has.stands.header;
        mutations = has.stands.mutations;
        store = has.stands.store;
        of_partition = has.stands.of_partition;
        of_partitions = has.stands.of_partitions;
        contents = same_itself exact;
      };
      named = refl;
      exact = refl;
      headed = has.headed;
    } in
    undamaged 0 1 f has.stands.header.id exact (ms 0) f at store damage)
    damage.first
