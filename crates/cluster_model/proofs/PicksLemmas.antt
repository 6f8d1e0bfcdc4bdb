-- What a restart picks is what was kept.
use Rattle.std.proofs.Common.{◌≡◌, ◌⊎◌, inl, ⊎_elim, ℕ, zero, suc, List, [], ◌∷◌, ◌++◌, slice_get, Option, Some, None, refl, sym, ◌∙◌, ap, subst}
use Rattle.std.specs.Prelude.{Contains}
use Rattle.roster_form.specs.Membership.{Host}
use Rattle.roster_form.specs.declared.roster.Roster.{Roster}
use Rattle.roster_form.specs.Shown.{Sights, MayShow}
use Rattle.roster_form.specs.Succession.{Rosters, KeepsRosters, first_listed}
use Rattle.roster_form.proofs.PassLemmas.{some_is}
use Rattle.roster_form.proofs.ContainsLemmas.{contains_first, contains_later, contains_cases, contains_none}
use Rattle.roster_form.proofs.SuccessionLemmas.{fewer_keep, abandon_keeps}
use Rattle.cluster_model.specs.Lane.{HostedStore, LaneStanding, choices, HasOneFlight}
use Rattle.cluster_model.specs.Site.{SiteShape, numbers_of}
use Rattle.cluster_model.specs.Agreement.{Durable}
use Rattle.cluster_model.specs.Restart.{later_roster, counting_roster, AreTaken, AreTakenBy, IsShownBySome, Picks, IsAtRest}

one_of_one : {T : Type 0} (items : List T) (one item : T) → items ≡ one ∷ [] → Contains items item → item ≡ one
one_of_one {T} items one item e is = ⊎_elim (λ here. here) (λ none. absurd (contains_none item none)) (contains_cases one [] item (subst (λ (l : List T). Contains l item) e is))

same_standing : (old new : LaneStanding) → old.perhaps ≡ [] → Contains (choices old) new.store → new.perhaps ≡ [] → new ≡ old
same_standing old new none is also =
    let store : new.store ≡ old.store = ⊎_elim (λ here. here) (λ there. absurd (contains_none new.store (subst (λ (l : List HostedStore). Contains l new.store) none there))) (contains_cases old.store old.perhaps new.store is) in
    let perhaps : new.perhaps ≡ old.perhaps = also ∙ sym none in
    λ i. record { store = store i; perhaps = perhaps i }

same_standings : (hosts : List ℕ) (olds news : List LaneStanding) → ((standing : LaneStanding) → Contains olds standing → standing.perhaps ≡ []) → AreTaken hosts olds news → news ≡ olds
same_standings hosts [] [] none are = refl
same_standings hosts [] (new ∷ news) none are = absurd are
same_standings hosts (old ∷ olds) [] none are = absurd are
same_standings hosts (old ∷ olds) (new ∷ news) none are =
    let first = same_standing old new (none old (contains_first old olds)) are.0.0 are.0.2 in
    let rest = same_standings hosts olds news (λ standing is. none standing (contains_later old olds standing is)) are.1 in
    λ i. first i ∷ rest i

same_rosters : (one other : Rosters) → one.finished ≡ other.finished → one.writing ≡ other.writing → one ≡ other
same_rosters one other finished writing = λ i. record { finished = finished i; writing = writing i }

-- a stop at rest loses nothing
pub rest_is_kept : (shape : SiteShape) (old new : Durable) → IsAtRest old → Picks shape old new → (new.rosters ≡ old.rosters) × (new.standings ≡ old.standings) × ((host : Host) → new.sights host ≡ old.sights host)
rest_is_kept shape old new rest picks =
    let writing : new.rosters.writing ≡ old.rosters.writing = ⊎_elim (λ kept. kept.0) (λ gone. gone.0 ∙ sym rest.writing) picks.writing in
    let finished = picks.finished in
    let made : counting_roster new.rosters ≡ Some rest.made.0 =
    ap (λ (w : Option Roster). later_roster w (first_listed new.rosters.finished)) (writing ∙ rest.writing) ∙ ap first_listed finished ∙ rest.made.1 in (
      same_rosters new.rosters old.rosters finished writing,
      same_standings (numbers_of shape.hosts rest.made.0.hosts) old.standings new.standings rest.standings (subst (λ (r : Option Roster). AreTakenBy shape r old.standings new.standings) made picks.each),
      λ host.
          let one = picks.shown host in
          let was = rest.sights host in
          one.1 ∙ ap (λ (s : Option Roster). s ∷ []) (one_of_one (old.sights host) was.0 one.0 was.1 one.2) ∙ sym was.1,
    )

-- each partition has what was answered, or this and all that was in flight
taken_there : (hosts : List ℕ) (olds news : List LaneStanding) (partition : ℕ) (old : LaneStanding) → AreTaken hosts olds news → slice_get olds partition ≡ Some old
    → (new : LaneStanding) × (slice_get news partition ≡ Some new) × Contains (choices old) new.store × Contains hosts new.store.host × (new.perhaps ≡ [])
taken_there hosts [] [] partition old are e = absurd cc
taken_there hosts [] (new ∷ news) partition old are e = absurd are
taken_there hosts (first ∷ olds) [] partition old are e = absurd are
taken_there hosts (first ∷ olds) (new ∷ news) zero old are e = (new, refl, subst (λ (s : LaneStanding). Contains (choices s) new.store) (some_is first old e) are.0.0, are.0.1, are.0.2)
taken_there hosts (first ∷ olds) (new ∷ news) (suc partition) old are e = taken_there hosts olds news partition old are.1 e

pub picked_has : (shape : SiteShape) (old new : Durable) (roster : Roster) (partition : ℕ) (standing : LaneStanding) → Picks shape old new → counting_roster new.rosters ≡ Some roster → slice_get old.standings partition ≡ Some standing → (one : HasOneFlight standing)
    → (after : LaneStanding) × (slice_get new.standings partition ≡ Some after) × (after.perhaps ≡ []) × ((after.store.changes ≡ standing.store.changes) ⊎ (after.store.changes ≡ standing.store.changes ++ one.flight))
picked_has shape old new roster partition standing picks counts here one =
    let r = taken_there (numbers_of shape.hosts roster.hosts) old.standings new.standings partition standing (subst (λ (c : Option Roster). AreTakenBy shape c old.standings new.standings) counts picks.each) here in
    (r.0, r.1, r.4, ⊎_elim (λ same. inl (ap (λ (s : HostedStore). s.changes) same)) (λ there. one.each r.0.store there) (contains_cases standing.store standing.perhaps r.0.store r.2))

-- the rosters are kept over a restart
fewer_by : (shape : SiteShape) (old new : Durable) → Picks shape old new → (host : Host) (shown : Option Roster) → MayShow new.sights host shown → MayShow old.sights host shown
fewer_by shape old new picks host shown may =
    let one = picks.shown host in
    subst (λ (s : Option Roster). MayShow old.sights host s) (sym (one_of_one (new.sights host) one.0 shown one.1 may)) one.2

given_up_at : (writing : Option Roster) (finished : List Roster) (sights : Sights) → KeepsRosters (record { finished = finished; writing = writing }) sights → ((roster : Roster) → writing ≡ Some roster → IsShownBySome sights (Some roster) → ⊥)
    → KeepsRosters (record { finished = finished; writing = None }) sights
given_up_at None finished sights keeps none = keeps
given_up_at (Some new) finished sights keeps none = abandon_keeps (record { finished = finished; writing = Some new }) new sights keeps refl (λ host may. none new refl (host, may))

pub picked_keeps : (shape : SiteShape) (old new : Durable) → KeepsRosters old.rosters old.sights → Picks shape old new → KeepsRosters new.rosters new.sights
picked_keeps shape old new keeps picks =
    let fewer = fewer_keep old.rosters old.sights new.sights keeps (fewer_by shape old new picks) in
    ⊎_elim
    (λ kept. subst (λ (r : Rosters). KeepsRosters r new.sights) (sym (same_rosters new.rosters old.rosters picks.finished kept.0)) fewer)
    (λ gone. subst (λ (r : Rosters). KeepsRosters r new.sights) (sym (same_rosters new.rosters (record { finished = old.rosters.finished; writing = None }) picks.finished gone.0))
    (given_up_at old.rosters.writing old.rosters.finished new.sights fewer gone.1))
    picks.writing
