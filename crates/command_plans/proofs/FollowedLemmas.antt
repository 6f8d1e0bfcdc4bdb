-- What a plan keeps of a cluster wherever it ends: after all of its acts, after a call that failed, and where it is broken off.
use Rattle.std.proofs.Common.{◌≡◌, ◌⊎◌, ⊎_elim, ℕ, zero, suc, List, [], ◌∷◌, ◌++◌, length, slice_get, Some, true, refl, sym, ◌∙◌, ap, subst, arith}
use Rattle.std.specs.Prelude.{Contains}
use Rattle.roster_form.specs.Shown.{Sights}
use Rattle.roster_form.specs.Succession.{Rosters}
use Rattle.roster_form.proofs.PassLemmas.{some_is}
use Rattle.cluster_model.specs.Lane.{HostedStore, LaneStanding}
use Rattle.cluster_model.specs.Site.{SiteShape}
use Rattle.cluster_model.specs.Agreement.{two_of, IsInEach, Durable}
use Rattle.cluster_model.specs.Memory.{PartState, with_told}
use Rattle.cluster_model.specs.Acts.{Act, tried, all_done}
use Rattle.cluster_model.proofs.MemoryLemmas.{told_again}
use Rattle.command_plans.specs.Asked.{SiteAnswer}
use Rattle.command_plans.specs.Kept.{HoldsThroughout, HoldsWhereCalled, KeepsStanding, AreTargets, KeepsCluster, NoneJoins, KeepsOpen}
use Rattle.command_plans.specs.Stage.{OpenMemory, OpenSite, RunStage, opened, RunState, Goes, goes_on, GoesTo}
use Rattle.command_plans.specs.Plan.{Plan, open_with}
use Rattle.command_plans.specs.Steps.{AreLeft, IsKeptAfter, FollowsPlan, stage_in, BreaksPlan}
use Rattle.command_plans.proofs.ThroughoutLemmas.{holds_last, holds_within, holds_cut}

-- ---- throughout acts

-- whatever stores in doubt may have been erased, it is so still
abbrev pub Survives : (Durable → Type 0) → Type 0
Survives P = (acts : List Act) (computed kept : Durable) → IsKeptAfter acts computed kept → P computed → P kept

-- ---- what survives

-- as many standings are left
pub left_length : (acts : List Act) (partition : ℕ) (computed kept : List LaneStanding) → AreLeft acts partition computed kept → length kept ≡ length computed
left_length acts partition [] [] left = refl
left_length acts partition [] (now ∷ kept) left = absurd left
left_length acts partition (was ∷ computed) [] left = absurd left
left_length acts partition (was ∷ computed) (now ∷ kept) left = ap suc (left_length acts (suc partition) computed kept left.1)

-- each standing has the store that was computed, and no more in doubt
pub left_at : (acts : List Act) (partition : ℕ) (computed kept : List LaneStanding) (index : ℕ) (now : LaneStanding) → AreLeft acts partition computed kept → slice_get kept index ≡ Some now
    → (was : LaneStanding) × (slice_get computed index ≡ Some was) × (now.store ≡ was.store) × ((store : HostedStore) → Contains now.perhaps store → Contains was.perhaps store)
left_at acts partition computed [] index now left e = absurd cc
left_at acts partition [] (first ∷ kept) index now left e = absurd left
left_at acts partition (was ∷ computed) (first ∷ kept) zero now left e =
    let is : first ≡ now = some_is first now e in (
      was,
      refl,
      ap (λ (s : LaneStanding). s.store) (sym is) ∙ left.0.same,
      λ store has. left.0.no_more store (subst (λ (s : LaneStanding). Contains s.perhaps store) (sym is) has),
    )
left_at acts partition (was ∷ computed) (first ∷ kept) (suc index) now left e = left_at acts (suc partition) computed kept index now left.1 e

-- with the same rosters and the same store, and no more in doubt
pub less_keeps : (shape : SiteShape) (old new : Durable) (was now : LaneStanding) → new.rosters ≡ old.rosters → now.store ≡ was.store → ((store : HostedStore) → Contains now.perhaps store → Contains was.perhaps store)
    → KeepsStanding shape old was → KeepsStanding shape new now
less_keeps shape old new was now rosters same fewer keeps = record {
  owner = subst (λ (s : HostedStore). IsInEach shape.hosts (two_of new.rosters) s.host) (sym same) (subst (λ (r : Rosters). IsInEach shape.hosts (two_of r) was.store.host) (sym rosters) keeps.owner);
  flight = keeps.flight;
  each = λ store is. subst (λ (s : HostedStore). (store.changes ≡ s.changes) ⊎ ((store.host ≡ s.host) × (store.changes ≡ s.changes ++ keeps.flight))) (sym same) (keeps.each store (fewer store is));
}

-- what is left has the rosters and the sights that were computed
but_standings : (computed kept : Durable) → kept.rosters ≡ computed.rosters → kept.sights ≡ computed.sights → record { rosters = computed.rosters; sights = computed.sights; standings = kept.standings } ≡ kept
but_standings computed kept rosters sights =
    ap (λ (r : Rosters). record { rosters = r; sights = computed.sights; standings = kept.standings }) (sym rosters) ∙ ap (λ (s : Sights). record { rosters = kept.rosters; sights = s; standings = kept.standings }) (sym sights)

-- a cluster is kept by what is left of it
left_keeps : (shape : SiteShape) (parts : List PartState) (acts : List Act) (computed : Durable) (standings : List LaneStanding) → AreLeft acts 0 computed.standings standings → KeepsCluster shape parts computed
    → KeepsCluster shape parts (record { rosters = computed.rosters; sights = computed.sights; standings = standings })
left_keeps shape parts acts computed standings left keeps = record {
  rosters = record { rosters = keeps.rosters.rosters; of_site = keeps.rosters.of_site };
  made = keeps.made;
  number = left_length acts 0 computed.standings standings left ∙ keeps.number;
  each = λ partition now e.
      let was = left_at acts 0 computed.standings standings partition now left e in
      less_keeps shape computed (record { rosters = computed.rosters; sights = computed.sights; standings = standings }) was.0 now refl was.2 was.3 (keeps.each partition was.0 was.1);
  targets = keeps.targets;
}

-- so a cluster survives
pub cluster_survives : (shape : SiteShape) (parts : List PartState) → Survives (KeepsCluster shape parts)
cluster_survives shape parts acts computed kept after keeps = ⊎_elim
    (λ it. subst (λ (d : Durable). KeepsCluster shape parts d) (sym it) keeps)
    (λ less. subst (λ (d : Durable). KeepsCluster shape parts d) (but_standings computed kept less.1 less.2) (left_keeps shape parts acts computed kept.standings less.3 keeps))
    after

-- the rosters are the same
pub rosters_left : (acts : List Act) (computed kept : Durable) → IsKeptAfter acts computed kept → kept.rosters ≡ computed.rosters
rosters_left acts computed kept after = ⊎_elim (λ it. ap (λ (d : Durable). d.rosters) it) (λ less. less.1) after

-- so no host is joining
pub joined_survives : Survives NoneJoins
joined_survives acts computed kept after none = subst (λ (r : Rosters). NoneJoins (record { rosters = r; sights = kept.sights; standings = kept.standings })) (sym (rosters_left acts computed kept after)) none

-- ---- a plan

-- the run goes on with a cluster open, and it is kept
abbrev pub GoesOpen : SiteShape → Goes → Type 0
GoesOpen shape goes = (site : OpenSite) × (goes ≡ goes_on (opened site)) × KeepsOpen shape site

-- at this stage a cluster is open, and it is kept
abbrev pub IsKeptOpen : SiteShape → RunStage → Type 0
IsKeptOpen shape stage = (after : OpenSite) × (stage ≡ opened after) × KeepsOpen shape after

-- where the run goes on so, a cluster is open there
opens_so : (shape : SiteShape) (goes : Goes) (stage : RunStage) → GoesOpen shape goes → GoesTo shape goes stage → IsKeptOpen shape stage
opens_so shape goes stage open_ goes_to = (open_.0, subst (λ (g : Goes). GoesTo shape g stage) open_.1 goes_to, open_.2)

-- A plan is followed to a cluster that is kept, where this holds throughout its acts, that wherever a call fails, and both let
-- it go on so.
pub followed_keeps : (shape : SiteShape) (P Q : Durable → Type 0) (plan : Plan) (old new : RunState) (answer : SiteAnswer) → Survives P → Survives Q → HoldsThroughout P plan.acts plan.durable → HoldsWhereCalled Q plan.acts plan.durable
    → ((after : Durable) → P after → Q after → GoesOpen shape (plan.done_goes after)) → ((after : Durable) → P after → Q after → GoesOpen shape (plan.failed_goes after)) → FollowsPlan shape plan old answer new → IsKeptOpen shape new.stage
followed_keeps shape P Q plan old new answer lives lasts holds called done_so failed_so carried = ⊎_elim
    (λ whole.
    let computed = all_done plan.acts plan.durable in
    opens_so shape (plan.done_goes whole.kept) new.stage
    (done_so whole.kept (lives plan.acts computed whole.kept whole.left (holds_last P plan.acts plan.durable holds)) (lasts plan.acts computed whole.kept whole.left called.all))
    whole.goes)
    (λ failed.
    let computed = tried failed.act (all_done failed.before plan.durable) in
    let acts = failed.before ++ failed.act ∷ [] in
    opens_so shape (plan.failed_goes failed.kept) new.stage
    (failed_so failed.kept
    (lives acts computed failed.kept failed.left (holds_within P plan.acts failed.before failed.after failed.act plan.durable failed.whole holds))
    (lasts acts computed failed.kept failed.left (called.fails failed.before failed.after failed.act failed.disk failed.whole failed.called)))
    failed.goes)
    carried.ends

-- What holds throughout the acts of a plan holds where it is broken off.
pub broken_keeps : (P : Durable → Type 0) (plan : Plan) (stage : RunStage) → Survives P → HoldsThroughout P plan.acts plan.durable → BreaksPlan plan stage → (kept : Durable) × P kept × (stage ≡ stage_in (plan.failed_goes kept))
broken_keeps P plan stage lives holds broken = (broken.kept, lives plan.acts broken.computed broken.kept broken.left (holds_cut P plan.acts plan.durable broken.computed broken.cut holds), broken.stage)

-- ---- the memory that it goes on with

-- as many parts are told as there were
told_length : (standings : List LaneStanding) (parts : List PartState) → length standings ≡ length parts → length (with_told standings parts) ≡ length parts
told_length [] [] e = refl
told_length [] (part ∷ parts) e = absurd cc
told_length (standing ∷ standings) [] e = refl
told_length (standing ∷ standings) (part ∷ parts) e = ap suc (told_length standings parts (let less : length standings ≡ length parts = omega (arith, e) in less))

-- each has the move that it had
told_move : (standings : List LaneStanding) (parts : List PartState) (partition : ℕ) (part : PartState) → slice_get (with_told standings parts) partition ≡ Some part → (was : PartState) × (slice_get parts partition ≡ Some was) × (part.move ≡ was.move)
told_move [] parts partition part e = absurd cc
told_move (standing ∷ standings) [] partition part e = absurd cc
told_move (standing ∷ standings) (one ∷ parts) zero part e = (one, refl, ap (λ (p : PartState). p.move) (sym (some_is _ part e)))
told_move (standing ∷ standings) (one ∷ parts) (suc partition) part e = told_move standings parts partition part e

-- a cluster is kept with a memory whose moves have their targets, whatever it is told
pub told_cluster : (shape : SiteShape) (old parts : List PartState) (durable : Durable) → KeepsCluster shape old durable → AreTargets shape durable parts → KeepsCluster shape (with_told durable.standings parts) durable
told_cluster shape old parts durable keeps targets = record {
  rosters = keeps.rosters;
  made = keeps.made;
  number = keeps.number;
  each = keeps.each;
  targets = λ partition part move e f.
      let was = told_move durable.standings parts partition part e in
      targets partition was.0 move was.1 (sym was.2 ∙ f);
}

-- a kept cluster goes on with a memory that fits
pub goes_open : (shape : SiteShape) (parts : List PartState) (site : OpenSite) (memory : OpenMemory) (durable : Durable) → KeepsCluster shape parts durable → NoneJoins durable → site.known ≡ true → length memory.parts ≡ shape.partitions
    → length memory.trails ≡ shape.partitions → AreTargets shape durable memory.parts → GoesOpen shape (open_with site memory durable)
goes_open shape parts site memory durable keeps joined known number trails targets = (
  _,
  refl,
  record {
    cluster = told_cluster shape parts memory.parts durable keeps targets;
    joined = joined;
    known = known;
    parts = told_length durable.standings memory.parts (keeps.number ∙ sym number) ∙ number;
    trails = trails;
    told = λ partition standing part e f. told_again durable.standings memory.parts partition standing part e f;
  },
)
