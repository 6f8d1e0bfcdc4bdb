-- What memory has fits what the disks keep: versions, and who may leave.
use Rattle.std.proofs.Common.{◌≡◌, ◌≢◌, ⊎_elim, ℕ, zero, suc, ◌+◌, ◌≤◌, ◌==◌, max, List, [], ◌∷◌, slice_get, Some, None, Bool, true, false, ◌||◌, refl, sym, ◌∙◌, ap, subst, arith, if◌then◌else◌}
use Rattle.std.specs.Prelude.{Contains}
use Rattle.std.proofs.lemmas.Bool.{eqb-false}
use Rattle.cache_model.specs.Change.{Change}
use Rattle.roster_form.specs.Membership.{Host}
use Rattle.roster_form.specs.declared.roster.Roster.{Roster}
use Rattle.roster_form.specs.Succession.{Rosters, AreSuccessive, listed}
use Rattle.roster_form.proofs.PassLemmas.{some_is}
use Rattle.roster_form.proofs.ContainsLemmas.{contains_cases, contains_none}
use Rattle.cluster_model.specs.Lane.{HostedStore, LaneStanding, choices}
use Rattle.cluster_model.specs.LaneSteps.{IsNewerThanAll}
use Rattle.cluster_model.specs.Site.{SiteShape, numbers_of}
use Rattle.cluster_model.specs.SiteSteps.{IsNumberOf}
use Rattle.cluster_model.specs.Agreement.{two_of, IsInEach, Durable}
use Rattle.cluster_model.specs.Members.{left_by, is_member}
use Rattle.cluster_model.specs.Memory.{Setting, PartState, next_store, greatest_version, with_told, IsTold, moves_to, first_owned}
use Rattle.cluster_model.proofs.SiteLemmas.{host_of_number, number_of_host}
use Rattle.cluster_model.proofs.MembersLemmas.{in_filtered, member_in_each}

-- the next store is newer than each that may be found
pub next_is_newer : (setting : Setting) (durable : Durable) (partition : ℕ) (standing : LaneStanding) (part : PartState) (host : ℕ) (changes : List Change) → IsTold standing part → IsNewerThanAll (next_store setting durable partition part host changes) standing
next_is_newer setting durable partition standing part host changes told = λ other is. let most = told other is in omega (arith, most)

greatest_least : (stores : List HostedStore) (least : ℕ) → least ≤ greatest_version stores least
greatest_least [] least = omega arith
greatest_least (store ∷ stores) least = let rest = greatest_least stores (max least store.id.version) in omega (arith, rest)

greatest_of : (stores : List HostedStore) (least : ℕ) (store : HostedStore) → Contains stores store → store.id.version ≤ greatest_version stores least
greatest_of [] least store is = absurd (contains_none store is)
greatest_of (first ∷ stores) least store is = ⊎_elim
    (λ here. let e : store.id.version ≡ first.id.version = ap (λ (s : HostedStore). s.id.version) here in let rest = greatest_least stores (max least first.id.version) in omega (arith, e, rest))
    (λ there. greatest_of stores (max least first.id.version) store there)
    (contains_cases first stores store is)

-- whatever the disks then keep, each partition is told
pub told_again : (standings : List LaneStanding) (parts : List PartState) (partition : ℕ) (standing : LaneStanding) (part : PartState) → slice_get standings partition ≡ Some standing → slice_get (with_told standings parts) partition ≡ Some part → IsTold standing part
told_again [] parts partition standing part e f = absurd cc
told_again (first ∷ standings) [] partition standing part e f = absurd cc
told_again (first ∷ standings) (one ∷ parts) zero standing part e f = λ store is.
    let told : greatest_version (choices first) one.told ≡ part.told = ap (λ (p : PartState). p.told) (some_part f) in
    let most = greatest_of (choices first) one.told store (subst (λ (s : LaneStanding). Contains (choices s) store) (sym (some_standing e)) is) in
    omega (arith, told, most)
  where
    some_part : {a b : PartState} → Some a ≡ Some b → a ≡ b
    some_part s = cc

    some_standing : {a b : LaneStanding} → Some a ≡ Some b → a ≡ b
    some_standing s = cc
told_again (first ∷ standings) (one ∷ parts) (suc partition) standing part e f = told_again standings parts partition standing part e f

-- who owns no partition isn't an owner, so each owner is a host of the roster without it
neither : (a b : Bool) → (a || b) ≡ false → a ≡ false
neither true b e = absurd cc
neither false b e = refl

owners_stay : (host number : ℕ) (standings : List LaneStanding) (parts : List PartState) (partition : ℕ) (standing : LaneStanding) (part : PartState) → first_owned host number standings parts ≡ None → slice_get standings partition ≡ Some standing → slice_get parts partition ≡ Some part → standing.store.host ≢ host
owners_stay host number [] parts partition standing part none e f = absurd cc
owners_stay host number (first ∷ standings) [] partition standing part none e f = absurd cc
owners_stay host number (first ∷ standings) (one ∷ parts) partition standing part none e f = go (first.store.host == host || moves_to one.move host) refl none (λ n p. owners_stay host (number + 1) standings parts p standing part n) partition e f
  where
    go : (b : Bool) → (first.store.host == host || moves_to one.move host) ≡ b → (if b then Some number else first_owned host (number + 1) standings parts) ≡ None
        → (first_owned host (number + 1) standings parts ≡ None → (p : ℕ) → slice_get standings p ≡ Some standing → slice_get parts p ≡ Some part → standing.store.host ≢ host)
        → (p : ℕ) → slice_get (first ∷ standings) p ≡ Some standing → slice_get (one ∷ parts) p ≡ Some part → standing.store.host ≢ host
    go true is n later p g h = absurd cc
    go false is n later zero g h = λ owner.
        eqb-false first.store.host host (neither (first.store.host == host) (moves_to one.move host) is) (ap (λ (s : LaneStanding). s.store.host) (some_is first standing g) ∙ owner)
    go false is n later (suc p) g h = later n p g h

pub leave_has_owners : (shape : SiteShape) (last : Roster) (host : Host) (number first : ℕ) (standings : List LaneStanding) (parts : List PartState) (partition : ℕ) (standing : LaneStanding) (part : PartState) → IsNumberOf shape host number → first_owned number first standings parts ≡ None
    → slice_get standings partition ≡ Some standing → slice_get parts partition ≡ Some part → Contains (numbers_of shape.hosts last.hosts) standing.store.host → Contains (numbers_of shape.hosts (left_by last host).hosts) standing.store.host
leave_has_owners shape last host number first standings parts partition standing part numbered none e f is =
    let found = host_of_number shape.hosts last.hosts standing.store.host is in
    let apart : found.0 ≢ host = λ it. owners_stay number first standings parts partition standing part none e f (numbered.1 standing.store.host (found.1 ∙ ap (λ (h : Host). Some h) it)) in
    number_of_host shape.hosts (left_by last host).hosts standing.store.host found.0 found.1 (in_filtered host last.hosts found.0 found.2 apart)

pub member_has_number : (shape : SiteShape) (rosters : Rosters) (number : ℕ) (host : Host) → AreSuccessive (listed rosters) → slice_get shape.hosts number ≡ Some host → is_member rosters host ≡ true → IsInEach shape.hosts (two_of rosters) number
member_has_number shape rosters number host are at e = λ roster is. number_of_host shape.hosts roster.hosts number host at (member_in_each rosters host are e roster is)
