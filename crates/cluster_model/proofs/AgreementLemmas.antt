-- What survives.
use Rattle.std.proofs.Common.{◌≡◌, ◌⊎◌, inl, ⊎_elim, ℕ, List, [], ◌∷◌, ◌++◌, slice_get, Option, Some, None, sym, ◌∙◌, ap, subst}
use Rattle.std.specs.Prelude.{Contains}
use Rattle.std.proofs.lemmas.List.Elements.{Contains-append_left, Contains-append_right, Contains-append_cases}
use Rattle.roster_form.specs.Membership.{Host}
use Rattle.roster_form.specs.declared.roster.Roster.{Roster}
use Rattle.roster_form.specs.Shown.{Sights, MayShow}
use Rattle.roster_form.specs.Choice.{Sighting, MayOpenBy}
use Rattle.roster_form.specs.Succession.{Rosters, KeepsRosters, last_finished, without_writing}
use Rattle.roster_form.proofs.PassLemmas.{some_is, only_two_pass}
use Rattle.roster_form.proofs.ShownLemmas.{shows_once}
use Rattle.roster_form.proofs.ContainsLemmas.{contains_same, contains_cases, contains_none}
use Rattle.cluster_model.specs.Lane.{HostedStore, LaneStanding, Opens, HasOneFlight, choices}
use Rattle.cluster_model.specs.Site.{SiteShape, partition_of, numbers_of, service_disk, SiteImage, SiteView, lane_in}
use Rattle.cluster_model.specs.Agreement.{hosts_in, some_of, two_of, with_writing, with_finished, IsInEach, Durable, KeepsSite, AreSighted, IsFoundAgain, IsSaved, SurvivesStops}
use Rattle.cluster_model.proofs.LaneLemmas.{lane_opens}
use Rattle.cluster_model.proofs.SiteLemmas.{more_numbers}

-- what is shown of an image is what the hosts may show
sighted_may : (shape : SiteShape) (durable : Durable) (passing : List Roster) (image : SiteImage) (sightings : List Sighting) → KeepsSite shape durable passing image → AreSighted shape image sightings
    → (each : Sighting) → Contains sightings each → MayShow durable.sights each.host each.shown
sighted_may shape durable passing image sightings keeps are each is =
    let seen = are each is in
    let shown = keeps.shown each.host in
    subst (λ (s : Option Roster). MayShow durable.sights each.host s) (shows_once (image (service_disk seen.0)) shown.0 each.shown (shown.2 seen.0 seen.1) seen.2) shown.1

-- no other rosters may pass over an image
pub passes_over : (shape : SiteShape) (durable : Durable) (passing : List Roster) (image : SiteImage) (sightings : List Sighting) (roster : Roster) → KeepsSite shape durable passing image → AreSighted shape image sightings → MayOpenBy sightings roster
    → Contains passing roster
passes_over shape durable passing image sightings roster keeps are passes = keeps.only sightings roster (sighted_may shape durable passing image sightings keeps are) passes

-- the hosts of one of several rosters
pub host_in : (rosters : List Roster) (roster : Roster) (host : Host) → Contains rosters roster → Contains roster.hosts host → Contains (hosts_in rosters) host
host_in [] roster host none is = absurd (contains_none roster none)
host_in (first ∷ rosters) roster host one is = ⊎_elim
    (λ here. Contains-append_left first.hosts (hosts_in rosters) host (subst (λ (r : Roster). Contains r.hosts host) here is))
    (λ there. Contains-append_right first.hosts (hosts_in rosters) host (host_in rosters roster host there is))
    (contains_cases first rosters roster one)

pub some_in : (one : Option Roster) (roster : Roster) → one ≡ Some roster → Contains (some_of one) roster
some_in None roster e = absurd cc
some_in (Some first) roster e = contains_same first [] roster (sym (some_is first roster e))

-- while a cluster is open two rosters may pass
pub two_pass : (rosters : Rosters) (sights : Sights) (sightings : List Sighting) (roster : Roster) → KeepsRosters rosters sights → ((each : Sighting) → Contains sightings each → MayShow sights each.host each.shown) → MayOpenBy sightings roster
    → Contains (two_of rosters) roster
two_pass rosters sights sightings roster keeps seen passes = ⊎_elim
    (λ last. Contains-append_left (some_of (last_finished rosters)) (some_of rosters.writing) roster (some_in (last_finished rosters) roster last))
    (λ writes. Contains-append_right (some_of (last_finished rosters)) (some_of rosters.writing) roster (some_in rosters.writing roster writes))
    (only_two_pass rosters sights sightings roster keeps seen passes)

-- the store that is found has what was answered, or that and the flight
flown : (standing : LaneStanding) (store : HostedStore) (one : HasOneFlight standing) → Contains (choices standing) store → (store.changes ≡ standing.store.changes) ⊎ (store.changes ≡ standing.store.changes ++ one.flight)
flown standing store one is = ⊎_elim (λ here. inl (ap (λ (s : HostedStore). s.changes) here)) (λ there. one.each store there) (contains_cases standing.store standing.perhaps store is)

pub found_again : (shape : SiteShape) (durable : Durable) (passing : List Roster) (image : SiteImage) (sightings : List Sighting) (roster : Roster) (partition : ℕ) (standing : LaneStanding) → KeepsSite shape durable passing image → AreSighted shape image sightings
    → MayOpenBy sightings roster → slice_get durable.standings partition ≡ Some standing
    → (store : HostedStore) × Contains (choices standing) store × Opens (partition_of shape partition) (numbers_of shape.hosts roster.hosts) (lane_in image partition) store
found_again shape durable passing image sightings roster partition standing keeps are passes here =
    let may = passes_over shape durable passing image sightings roster keeps are passes in
    lane_opens (partition_of shape partition) (numbers_of shape.hosts (hosts_in passing)) (numbers_of shape.hosts roster.hosts) standing (lane_in image partition) (keeps.lanes partition standing here)
    (more_numbers shape.hosts roster.hosts (hosts_in passing) (λ host is. host_in passing roster host may is))
    (keeps.owners partition standing here roster may)

pub survives : (shape : SiteShape) (durable : Durable) (passing : List Roster) (image : SiteImage) (sightings : List Sighting) (roster : Roster) (partition : ℕ) (standing : LaneStanding) → KeepsSite shape durable passing image → AreSighted shape image sightings
    → MayOpenBy sightings roster → slice_get durable.standings partition ≡ Some standing → IsFoundAgain shape standing partition roster.hosts image
survives shape durable passing image sightings roster partition standing keeps are passes here one =
    let opened = found_again shape durable passing image sightings roster partition standing keeps are passes here in
    (opened.0, opened.2, flown standing opened.0 one opened.1)

-- over the disks themselves
pub saved_survives : (shape : SiteShape) (durable : Durable) (passing : List Roster) (views : SiteView) → IsSaved shape durable passing views → SurvivesStops shape durable views
saved_survives shape durable passing views saved = λ image sightings roster partition standing taken are passes here. survives shape durable passing image sightings roster partition standing (saved image taken) are passes here

-- ---- owners stay members

-- a change begins whose roster has it
pub begin_agrees : (hosts : List Host) (rosters : Rosters) (new : Roster) (number : ℕ) → IsInEach hosts (two_of rosters) number → Contains (numbers_of hosts new.hosts) number → IsInEach hosts (two_of (with_writing rosters new)) number
begin_agrees hosts rosters new number each is = λ roster may. ⊎_elim
    (λ last. each roster (Contains-append_left (some_of (last_finished rosters)) (some_of rosters.writing) roster last))
    (λ now. ⊎_elim (λ here. subst (λ (r : Roster). Contains (numbers_of hosts r.hosts) number) (sym here) is) (λ none. absurd (contains_none roster none)) (contains_cases new [] roster now))
    (Contains-append_cases (some_of (last_finished rosters)) (new ∷ []) roster may)

-- a change ends, or is given up
pub finish_agrees : (hosts : List Host) (rosters : Rosters) (new : Roster) (number : ℕ) → IsInEach hosts (two_of rosters) number → rosters.writing ≡ Some new → IsInEach hosts (two_of (with_finished rosters new)) number
finish_agrees hosts rosters new number each writing = λ roster may. ⊎_elim
    (λ here. each roster (Contains-append_right (some_of (last_finished rosters)) (some_of rosters.writing) roster (some_in rosters.writing roster (writing ∙ ap (λ (r : Roster). Some r) (sym here)))))
    (λ none. absurd (contains_none roster none))
    (contains_cases new [] roster may)

pub give_up_agrees : (hosts : List Host) (rosters : Rosters) (number : ℕ) → IsInEach hosts (two_of rosters) number → IsInEach hosts (two_of (without_writing rosters)) number
give_up_agrees hosts rosters number each = λ roster may. ⊎_elim
    (λ last. each roster (Contains-append_left (some_of (last_finished rosters)) (some_of rosters.writing) roster last))
    (λ none. absurd (contains_none roster none))
    (Contains-append_cases (some_of (last_finished rosters)) [] roster may)
