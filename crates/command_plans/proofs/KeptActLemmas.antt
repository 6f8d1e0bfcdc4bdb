-- What the acts on one partition keep of an open cluster.
use Rattle.std.proofs.Common.{◌≡◌, ◌⊎◌, inl, inr, ⊎_elim, ℕ, ◌<◌, ◌==◌, List, [], ◌∷◌, ◌++◌, length, slice_get, Option, Some, Bool, true, false, not, ◌||◌, refl, sym, ◌∙◌, ap, subst, arith, if◌then◌else◌}
use Rattle.std.specs.Prelude.{Contains, nat_lt}
use Rattle.std.specs.List.{filter}
use Rattle.std.proofs.lemmas.Bool.{cases_eq, eq-eqb, eqb-true, lt-ltb}
use Rattle.cache_model.specs.Change.{Change}
use Rattle.roster_form.specs.Succession.{last_finished}
use Rattle.roster_form.specs.declared.roster.Roster.{Roster}
use Rattle.roster_form.proofs.ContainsLemmas.{contains_first, contains_same, contains_later, contains_cases, contains_none}
use Rattle.roster_form.proofs.PassLemmas.{some_is}
use Rattle.cluster_model.specs.Lane.{HostedStore, LaneStanding}
use Rattle.cluster_model.specs.LaneSteps.{standing_for, with_doubt}
use Rattle.cluster_model.specs.Site.{SiteShape, DiskOf, numbers_of}
use Rattle.cluster_model.specs.SiteSteps.{changed_at, with_standing}
use Rattle.cluster_model.specs.Agreement.{hosts_in, some_of, two_of, IsInEach, Durable}
use Rattle.cluster_model.specs.Memory.{Setting}
use Rattle.cluster_model.specs.Acts.{quiet, appends, seals, appended, tried, done}
use Rattle.cluster_model.proofs.SiteLemmas.{more_numbers}
use Rattle.cluster_model.proofs.AgreementLemmas.{host_in}
use Rattle.command_plans.specs.Kept.{HoldsThroughout, KeepsStanding, KeepsCluster}
use Rattle.command_plans.specs.Stage.{OpenSite}
use Rattle.command_plans.specs.PartPlans.{OpenPart, is_recorded, is_sound, is_due, renewed_store, renewal_acts, commit_acts}
use Rattle.command_plans.proofs.FollowedLemmas.{Survives, cluster_survives, rosters_left, less_keeps}
use Rattle.command_plans.proofs.ItemLemmas.{changed_length, changed_item, item_changed, others_stay}

-- the cluster is kept, with the rosters that it had
abbrev pub KeepsHere : SiteShape → OpenSite → Durable → Type 0
KeepsHere shape site durable = KeepsCluster shape site.memory.parts durable × (durable.rosters ≡ site.durable.rosters)

-- that survives
pub here_survives : (shape : SiteShape) (site : OpenSite) → Survives (KeepsHere shape site)
here_survives shape site acts computed kept after keeps = (cluster_survives shape site.memory.parts acts computed kept after keeps.0, rosters_left acts computed kept after ∙ keeps.1)

-- ---- one standing

-- a change of one standing that keeps it
pub change_keeps : (shape : SiteShape) (site : OpenSite) (durable : Durable) (partition : ℕ) (change : LaneStanding → LaneStanding) → KeepsHere shape site durable
    → ((standing : LaneStanding) → slice_get durable.standings partition ≡ Some standing → KeepsStanding shape durable standing → KeepsStanding shape durable (change standing)) → KeepsHere shape site (with_standing durable partition change)
change_keeps shape site durable partition change keeps step = (
  record {
    rosters = record { rosters = keeps.0.rosters.rosters; of_site = keeps.0.rosters.of_site };
    made = keeps.0.made;
    number = changed_length durable.standings partition change ∙ keeps.0.number;
    each = λ other standing e. less_keeps shape durable (with_standing durable partition change) standing standing refl refl (λ store is. is)
        (⊎_elim
        (λ here.
        let was = item_changed durable.standings partition change standing (subst (λ (p : ℕ). slice_get (changed_at durable.standings partition change) p ≡ Some standing) here e) in
        subst (λ (s : LaneStanding). KeepsStanding shape durable s) (sym was.2) (step was.0 was.1 (keeps.0.each partition was.0 was.1)))
        (λ ne. keeps.0.each other standing (sym (others_stay durable.standings partition other change ne) ∙ e))
        (cases_eq other partition));
    targets = keeps.0.targets;
  },
  keeps.1,
)

-- it stands for one store, on a host of each roster that may pass
stands_alone : (shape : SiteShape) (durable : Durable) (store : HostedStore) → IsInEach shape.hosts (two_of durable.rosters) store.host → KeepsStanding shape durable (standing_for store)
stands_alone shape durable store owner = record { owner = owner; flight = []; each = λ other is. absurd (contains_none other is) }

-- one more store with the changes that were answered may be found
doubt_keeps : (shape : SiteShape) (durable : Durable) (standing : LaneStanding) (store : HostedStore) → store.changes ≡ standing.store.changes → KeepsStanding shape durable standing → KeepsStanding shape durable (with_doubt standing store)
doubt_keeps shape durable standing store same keeps = record {
  owner = keeps.owner;
  flight = keeps.flight;
  each = λ other is. ⊎_elim (λ here. inl (ap (λ (s : HostedStore). s.changes) here ∙ same)) (λ there. keeps.each other there) (contains_cases store standing.perhaps other is);
}

-- each store in doubt has what was answered
abbrev pub IsSettled : LaneStanding → Type 0
IsSettled standing = (store : HostedStore) → Contains standing.perhaps store → store.changes ≡ standing.store.changes

-- then a group may be added to the store
append_doubt_keeps : (shape : SiteShape) (durable : Durable) (standing : LaneStanding) (group : List Change) (size : ℕ) → IsSettled standing → KeepsStanding shape durable standing → KeepsStanding shape durable (with_doubt standing (appended standing.store group size))
append_doubt_keeps shape durable standing group size settled keeps = record {
  owner = keeps.owner;
  flight = group;
  each = λ other is. ⊎_elim
      (λ here. inr (ap (λ (s : HostedStore). s.host) here, ap (λ (s : HostedStore). s.changes) here))
      (λ there. inl (settled other there))
      (contains_cases (appended standing.store group size) standing.perhaps other is);
}

-- ---- acts

-- a partition has one standing
same_standing : (durable : Durable) (partition : ℕ) (one other : LaneStanding) → slice_get durable.standings partition ≡ Some one → slice_get durable.standings partition ≡ Some other → one ≡ other
same_standing durable partition one other e f = some_is one other (sym e ∙ f)

-- a call that changes nothing keeps the cluster
pub quiet_keeps : (shape : SiteShape) (site : OpenSite) (disk : DiskOf) (durable : Durable) → KeepsHere shape site durable → HoldsThroughout (KeepsHere shape site) (quiet disk ∷ []) durable
quiet_keeps shape site disk durable keeps = (keeps, keeps, keeps)

-- a store of the same changes is sealed, on a host of each roster that may pass
seal_done : (shape : SiteShape) (site : OpenSite) (durable : Durable) (partition : ℕ) (store : HostedStore) → KeepsHere shape site durable → IsInEach shape.hosts (two_of durable.rosters) store.host → KeepsHere shape site (done (seals partition store) durable)
seal_done shape site durable partition store keeps owner = change_keeps shape site durable partition (λ standing. standing_for store) keeps (λ standing e one. stands_alone shape durable store owner)

-- the seal is tried
seal_tried : (shape : SiteShape) (site : OpenSite) (durable : Durable) (partition : ℕ) (standing : LaneStanding) (store : HostedStore) → KeepsHere shape site durable → slice_get durable.standings partition ≡ Some standing → store.changes ≡ standing.store.changes
    → KeepsHere shape site (tried (seals partition store) durable)
seal_tried shape site durable partition standing store keeps at same = change_keeps shape site durable partition (λ one. with_doubt one store) keeps
    (λ one e keeps_one. doubt_keeps shape durable one store (same ∙ ap (λ (s : LaneStanding). s.store.changes) (same_standing durable partition standing one at e)) keeps_one)

-- before, within and after the seal
pub seal_keeps : (shape : SiteShape) (site : OpenSite) (durable : Durable) (partition : ℕ) (standing : LaneStanding) (store : HostedStore) → KeepsHere shape site durable → slice_get durable.standings partition ≡ Some standing → store.changes ≡ standing.store.changes
    → IsInEach shape.hosts (two_of durable.rosters) store.host → HoldsThroughout (KeepsHere shape site) (seals partition store ∷ []) durable
seal_keeps shape site durable partition standing store keeps at same owner = (keeps, seal_tried shape site durable partition standing store keeps at same, seal_done shape site durable partition store keeps owner)

-- a group is added where each store in doubt has what was answered
append_keeps : (shape : SiteShape) (site : OpenSite) (durable : Durable) (partition host : ℕ) (standing : LaneStanding) (group : List Change) (size : ℕ) → KeepsHere shape site durable → slice_get durable.standings partition ≡ Some standing → IsSettled standing
    → HoldsThroughout (KeepsHere shape site) (appends partition host group size ∷ []) durable
append_keeps shape site durable partition host standing group size keeps at settled = (
  keeps,
  change_keeps shape site durable partition (λ one. with_doubt one (appended one.store group size)) keeps
      (λ one e keeps_one. append_doubt_keeps shape durable one group size (subst IsSettled (same_standing durable partition standing one at e) settled) keeps_one),
  change_keeps shape site durable partition (λ one. standing_for (appended one.store group size)) keeps
      (λ one e keeps_one. stands_alone shape durable (appended one.store group size) keeps_one.owner),
)

-- ---- a store that isn't due

-- a list of some items is longer than none
more_than_none : (n : ℕ) → 0 < n → nat_lt 0 n ≡ true
more_than_none n up = lt-ltb 0 n up

-- no list of some items is empty
none_of_some : (n : ℕ) → (n == 0) ≡ true → 0 < n → ⊥
none_of_some n e up = let none = eqb-true n 0 e in omega (arith, none, up)

-- an item that passes the test is among those that do
passes : {T : Type 0} (test : T → Bool) (items : List T) (item : T) → Contains items item → test item ≡ true → Contains (filter test items) item
passes test [] item is so_is = absurd (contains_none item is)
passes {T} test (first ∷ items) item is so_is = go (test first) refl (λ there. passes test items item there so_is) (contains_cases first items item is)
  where
    go : (b : Bool) → test first ≡ b → (Contains items item → Contains (filter test items) item) → (item ≡ first) ⊎ Contains items item → Contains (if b then first ∷ filter test items else filter test items) item
    go true e later where_ = ⊎_elim (λ here. contains_same first (filter test items) item here) (λ there. contains_later first (filter test items) item (later there)) where_
    go false e later where_ = ⊎_elim (λ here. absurd (let clash : false ≡ true = sym e ∙ (ap test (sym here) ∙ so_is) in cc)) later where_

-- a list that contains an item has some
has_some : {T : Type 0} (items : List T) (item : T) → Contains items item → 0 < length items
has_some items item is = let within = is.1 in omega (arith, within)

-- the owner's host is recorded
owner_recorded : (shape : SiteShape) (durable : Durable) (last : Roster) (host : ℕ) → last_finished durable.rosters ≡ Some last → IsInEach shape.hosts (two_of durable.rosters) host → is_recorded shape durable host ≡ true
owner_recorded shape durable last host made owner =
    let passing : Contains (two_of durable.rosters) last = subst (λ (o : Option Roster). Contains (some_of o ++ some_of durable.rosters.writing) last) (sym made) (contains_first last (some_of durable.rosters.writing)) in
    let among = more_numbers shape.hosts last.hosts (hosts_in (two_of durable.rosters)) (λ one is. host_in (two_of durable.rosters) last one passing is) host (owner last passing) in
    let has = passes (λ number. number == host) (numbers_of shape.hosts (hosts_in (two_of durable.rosters))) host among (eq-eqb host host refl) in
    more_than_none (length (filter (λ number. number == host) (numbers_of shape.hosts (hosts_in (two_of durable.rosters))))) (has_some _ host has)

-- a sound store has none in doubt on its own host
sound_settles : (setting : Setting) (durable : Durable) (last : Roster) (standing : LaneStanding) → last_finished durable.rosters ≡ Some last → KeepsStanding setting.shape durable standing → is_sound setting durable standing ≡ true → IsSettled standing
sound_settles setting durable last standing made keeps sound store is = ⊎_elim
    (λ same. same)
    (λ flies.
    let here = owner_recorded setting.shape durable last store.host made (subst (λ (h : ℕ). IsInEach setting.shape.hosts (two_of durable.rosters) h) (sym flies.0) keeps.owner) in
    absurd (none_of_some _ sound (has_some _ store (passes (λ one. is_recorded setting.shape durable one.host) standing.perhaps store is here))))
    (keeps.each store is)

-- what is not due is sound
not_due : (sound long : Bool) → (not sound || long) ≡ false → sound ≡ true
not_due true long e = refl
not_due false long e = absurd cc

-- ---- a renewal and a commit

-- a renewal keeps the cluster
pub renewal_keeps : (setting : Setting) (site : OpenSite) (part : OpenPart) → KeepsHere setting.shape site site.durable → slice_get site.durable.standings part.partition ≡ Some part.standing → HoldsThroughout (KeepsHere setting.shape site) (renewal_acts setting site part) site.durable
renewal_keeps setting site part keeps at = (
  keeps,
  keeps,
  seal_keeps setting.shape site site.durable part.partition part.standing (renewed_store setting site part) keeps at refl (keeps.0.each part.partition part.standing at).owner,
)

-- so does a commit
pub commit_keeps : (setting : Setting) (site : OpenSite) (part : OpenPart) (change : Change) → KeepsHere setting.shape site site.durable → slice_get site.durable.standings part.partition ≡ Some part.standing
    → HoldsThroughout (KeepsHere setting.shape site) (commit_acts setting site part change) site.durable
commit_keeps setting site part change keeps at = go (is_due setting site.durable part.standing) refl
  where
    go : (due : Bool) → is_due setting site.durable part.standing ≡ due
        → HoldsThroughout (KeepsHere setting.shape site) ((if due then renewal_acts setting site part else []) ++ appends part.partition part.standing.store.host (change ∷ []) (setting.taken change) ∷ []) site.durable
    go false e = append_keeps setting.shape site site.durable part.partition part.standing.store.host part.standing (change ∷ []) (setting.taken change) keeps at
        (sound_settles setting site.durable keeps.0.made.0 part.standing keeps.0.made.1 (keeps.0.each part.partition part.standing at) (not_due (is_sound setting site.durable part.standing) _ e))
    go true e =
        let renewal = renewal_keeps setting site part keeps at in
        let sealed = done (seals part.partition (renewed_store setting site part)) site.durable in (
          renewal.0,
          renewal.1,
          (
            renewal.2.0,
            renewal.2.1,
            append_keeps setting.shape site sealed part.partition part.standing.store.host (standing_for (renewed_store setting site part)) (change ∷ []) (setting.taken change) renewal.2.2
                (changed_item site.durable.standings part.partition (λ standing. standing_for (renewed_store setting site part)) part.standing at)
                (λ store is. absurd (contains_none store is)),
          ),
        )
