-- A creation over a closed cluster of which no host shows a roster.
use Rattle.std.proofs.Common.{◌≡◌, ⊎_elim, ℕ, zero, suc, ◌||◌, Bool, true, false, List, [], ◌∷◌, ◌++◌, map, slice_get, length, All, Option, Some, None, refl, sym, ◌∙◌, ap, subst, arith, if◌then◌else◌}
use Rattle.std.specs.Prelude.{Contains}
use Rattle.std.specs.Cmp.Lexicographic.{bytes_decides}
use Rattle.std.specs.List.Sorted.{IsStrictlySortedBy}
use Rattle.std.proofs.lemmas.List.{length-map}
use Rattle.std.proofs.lemmas.List.Elements.{All-cons}
use Rattle.cache_key.specs.Names.{IsName}
use Rattle.cache_model.specs.Caches.{same}
use Rattle.cache_model.specs.Contents.{IsRising}
use Rattle.roster_form.specs.Membership.{Host}
use Rattle.roster_form.specs.Shown.{Sights, MayShow}
use Rattle.roster_form.specs.declared.roster.Roster.{Roster}
use Rattle.roster_form.specs.Succession.{IsGoodRoster, IsGivenTo, IsInFirst, listed, last_finished}
use Rattle.roster_form.proofs.ContainsLemmas.{contains_first, contains_later, contains_cases, contains_none}
use Rattle.cluster_model.specs.LaneSteps.{standing_for}
use Rattle.cluster_model.specs.Site.{SiteShape, is_among, numbers_of, lane_disk, service_disk}
use Rattle.cluster_model.specs.Agreement.{IsRosterOf, Durable}
use Rattle.cluster_model.specs.Memory.{Setting}
use Rattle.cluster_model.specs.Acts.{SiteHost, Act, finishes, writes, all_done, KeepsRostersThroughout}
use Rattle.cluster_model.specs.Turns.{change_acts}
use Rattle.cluster_model.proofs.SiteLemmas.{among_in, number_of_host}
use Rattle.cluster_model.proofs.TurnsLemmas.{create_keeps}
use Rattle.command_plans.specs.Stage.{closed}
use Rattle.command_plans.specs.Plan.{number_of, host_named, numbers_up, numbers_below}
use Rattle.command_plans.specs.ChangePlans.{lanes_of_host}
use Rattle.command_plans.specs.OpeningPlans.{sight_of, sightings_at, roster_reads, first_hosted, first_roster, unmade, first_shown, create_by}
use Rattle.command_plans.specs.Kept.{IsSite, HoldsThroughout, IsHeldAt, KeepsClosed}
use Rattle.command_plans.proofs.SteadyLemmas.{AreQuiet, quiet_each, quiet_both, quiet_done, quiet_holds, IsSteady, AreSteady, steady_both, writes_steady, begins_steady, finishes_steady, steady_holds}
use Rattle.command_plans.proofs.ClosedPlanLemmas.{IsKeptPlan, opening_keeps}
use Rattle.command_plans.proofs.ThroughoutLemmas.{holds_then, all_done_then}

-- ---- no host shows a roster

-- a host that was given a roster is a host of one of these
pub host_given : (rosters : List Roster) (roster : Roster) (host : Host) → IsGivenTo rosters roster host → (one : Roster) × Contains rosters one × Contains one.hosts host
host_given [] roster host given = absurd given
host_given (new ∷ older) roster host given = ⊎_elim
    (λ here. ⊎_elim (λ is. (new, contains_first new older, is)) (λ before. in_older older before) here.1)
    (λ there. let r = host_given older roster host there in (r.0, contains_later new older r.0 r.1, r.2))
    given
  where
    in_older : (others : List Roster) → IsInFirst host others → (one : Roster) × Contains (new ∷ others) one × Contains one.hosts host
    in_older [] none = absurd none
    in_older (first ∷ others) is = (first, contains_later new (first ∷ others) first (contains_first first others), is)

-- the first of these hosts shows none, nor do the others
unshown : (shown : Option Roster) (host : Host) (others : List _) → first_shown (record { host = host; shown = shown } ∷ others) ≡ None → (shown ≡ None) × (first_shown others ≡ None)
unshown None host others e = (refl, e)
unshown (Some roster) host others e = absurd cc

-- none of them shows one
none_seen : (sights : Sights) (hosts : List Host) (host : Host) → first_shown (sightings_at sights hosts) ≡ None → Contains hosts host → sight_of (sights host) ≡ None
none_seen sights [] host e is = absurd (contains_none host is)
none_seen sights (first ∷ hosts) host e is =
    let both = unshown (sight_of (sights first)) first (sightings_at sights hosts) e in
    ⊎_elim (λ here. subst (λ (h : Host). sight_of (sights h) ≡ None) (sym here) both.0) (λ there. none_seen sights hosts host both.1 there) (contains_cases first hosts host is)

-- what a host shows, where it is one thing
pub shown_once : (sights : Sights) (host : Host) (one shown : Option Roster) → sights host ≡ one ∷ [] → MayShow sights host shown → sight_of (sights host) ≡ shown
shown_once sights host one shown e may =
    let it : shown ≡ one = ⊎_elim (λ here. here) (λ none. absurd (contains_none shown none)) (contains_cases one [] shown (subst (λ (l : List (Option Roster)). Contains l shown) e may)) in
    ap sight_of e ∙ sym it

-- no host at all shows one: each that might is a host of the site
none_shows : (shape : SiteShape) (durable : Durable) → KeepsClosed shape durable → first_shown (sightings_at durable.sights shape.hosts) ≡ None → (other : Host) (roster : Roster) → MayShow durable.sights other (Some roster) → ⊥
none_shows shape durable keeps e other roster may =
    let given = host_given (listed durable.rosters) roster other (keeps.rosters.rosters.known other roster may) in
    let none = none_seen durable.sights shape.hosts other e ((keeps.rosters.of_site given.0 given.1).hosts other given.2) in
    let one = keeps.one other in
    let clash : None ≡ Some roster = sym none ∙ shown_once durable.sights other one.0 (Some roster) one.1 may in
    absurd cc

-- ---- the first roster

-- the number of a host of the site
number_is : (hosts : List Host) (host : Host) → is_among hosts host ≡ true → slice_get hosts (number_of hosts host) ≡ Some host
number_is [] host e = absurd cc
number_is (first ∷ hosts) host e = go (same first host) refl e (λ there. number_is hosts host there)
  where
    go : (b : Bool) → same first host ≡ b → (b || is_among hosts host) ≡ true → (is_among hosts host ≡ true → slice_get hosts (number_of hosts host) ≡ Some host) → slice_get (first ∷ hosts) (if b then 0 else suc (number_of hosts host)) ≡ Some host
    go true t among later = ap (λ (h : Host). Some h) ((bytes_decides first host).0 t)
    go false t among later = later among

-- a list of one name rises
alone_rises : (host : Host) → IsRising (host ∷ [])
unfolding IsStrictlySortedBy
alone_rises host = (tt, tt)

-- the first roster is within the limits, and its host is a member
first_good : (shape : SiteShape) (host : Host) → IsSite shape → Contains shape.hosts host → IsGoodRoster (first_roster shape host)
first_good shape host site is = (
  record {
    least = omega arith;
    below = omega arith;
    some = omega arith;
    most = omega arith;
    names = All-cons IsName host [] (subst IsName is.2 (site.names is.0 host is.1)) (λ i d within. absurd (omega (arith, within)));
    rise = alone_rises host;
    joining = tt;
    partitions = (let most = site.partitions in omega (arith, most));
  },
  (host, contains_first host [], λ e. absurd (let n : None ≡ Some host = e in cc)),
)

-- it is of the site
first_of_site : (shape : SiteShape) (host : Host) → Contains shape.hosts host → IsRosterOf shape (first_roster shape host)
first_of_site shape host is = record {
  partitions = refl;
  hosts = λ other has. ⊎_elim (λ here. subst (λ (h : Host). Contains shape.hosts h) (sym here) is) (λ none. absurd (contains_none other none)) (contains_cases host [] other has);
}

-- a change of the roster is steady
pub change_steady : (shape : SiteShape) (new : Roster) (hosts : List SiteHost) → IsRosterOf shape new → AreSteady shape (change_acts new hosts)
change_steady shape new hosts of_site = (begins_steady shape new of_site, steady_both shape (map writes hosts) (finishes ∷ []) (writes_steady shape hosts) (finishes_steady shape, tt))

-- ---- the first stores

-- so many numbers
numbers_length : (first count : ℕ) → length (numbers_up first count) ≡ count
numbers_length first zero = refl
numbers_length first (suc count) = ap suc (numbers_length (suc first) count)

-- each partition stands for its first store, on that host
first_held : (setting : Setting) (hosts : List ℕ) (number : ℕ) (partitions : List ℕ) → Contains hosts number → All (IsHeldAt hosts) (map (λ partition. standing_for (first_hosted setting number partition)) partitions)
first_held setting hosts number [] is = λ i d within. absurd (omega (arith, within))
first_held setting hosts number (partition ∷ partitions) is = All-cons (IsHeldAt hosts) (standing_for (first_hosted setting number partition)) (map (λ p. standing_for (first_hosted setting number p)) partitions)
    (record { one = refl; host = is })
    (first_held setting hosts number partitions is)

-- ---- the plan

-- the cluster is created, or a restart may pick of what was made
pub creation_keeps : (setting : Setting) (durable : Durable) (host : Host) → IsSite setting.shape → KeepsClosed setting.shape durable → is_among setting.shape.hosts host ≡ true
    → first_shown (sightings_at durable.sights setting.shape.hosts) ≡ None → IsKeptPlan setting.shape (create_by setting durable.sights (closed durable) host None)
creation_keeps setting durable host site keeps among e = opening_keeps shape made.standings made (reads ++ change_acts first (host_named shape host ∷ [])) _ number holds
    (record {
      last = first;
      made = ap (λ (d : Durable). last_finished d.rosters) ended;
      none = ap (λ (d : Durable). d.rosters.writing) ended;
      joined = refl;
      held = first_held setting (numbers_of shape.hosts (host ∷ [])) (number_of shape.hosts host) (numbers_below shape.partitions)
          (number_of_host shape.hosts (host ∷ []) (number_of shape.hosts host) host (number_is shape.hosts host among) (contains_first host []));
    })
  where
    shape : SiteShape
    shape = setting.shape

    first : Roster
    first = first_roster shape host

    made : Durable
    made = unmade setting durable.sights host

    reads : List Act
    reads = roster_reads shape shape.hosts ++ lanes_of_host shape host

    is : Contains shape.hosts host
    is = among_in shape.hosts host among

    number : length made.standings ≡ shape.partitions
    number = length-map (numbers_below shape.partitions) _ ∙ numbers_length 0 shape.partitions

    quiet_reads : AreQuiet reads
    quiet_reads = quiet_both (roster_reads shape shape.hosts) (lanes_of_host shape host)
        (quiet_each (λ h. service_disk (number_of shape.hosts h)) shape.hosts)
        (quiet_each (λ partition. lane_disk partition (number_of shape.hosts host)) (numbers_below shape.partitions))

    rosters : KeepsRostersThroughout (change_acts first (host_named shape host ∷ [])) made
    rosters = create_keeps first (host_named shape host) made refl refl (first_good shape host site is) refl (none_shows shape durable keeps e)

    begun : IsSteady shape made.standings made
    begun = record { rosters = record { rosters = rosters.0; of_site = λ roster none. absurd (contains_none roster none) }; still = refl }

    holds : HoldsThroughout (IsSteady shape made.standings) (reads ++ change_acts first (host_named shape host ∷ [])) made
    holds = holds_then (IsSteady shape made.standings) reads (change_acts first (host_named shape host ∷ [])) made
        (quiet_holds (IsSteady shape made.standings) reads made quiet_reads begun)
        (subst (λ (d : Durable). HoldsThroughout (IsSteady shape made.standings) (change_acts first (host_named shape host ∷ [])) d) (sym (quiet_done reads made quiet_reads))
        (steady_holds shape made.standings (change_acts first (host_named shape host ∷ [])) made (change_steady shape first (host_named shape host ∷ []) (first_of_site shape host is)) rosters begun))

    ended : all_done (reads ++ change_acts first (host_named shape host ∷ [])) made ≡ all_done (change_acts first (host_named shape host ∷ [])) made
    ended = all_done_then reads (change_acts first (host_named shape host ∷ [])) made ∙ ap (λ (d : Durable). all_done (change_acts first (host_named shape host ∷ [])) d) (quiet_done reads made quiet_reads)
