-- What can't be answered, or be left, in a worked run: each would follow from a wrong definition.
use Rattle.std.proofs.Common.{◌≡◌, ◌⊎◌, inl, inr, ⊎_elim, ◌≤◌, List, [], ◌∷◌, Option, Some, None, Bool, true, false, refl, sym, ◌∙◌, ap, subst, arith, if◌then◌else◌}
use Rattle.std.specs.Prelude.{Contains}
use Rattle.cache_model.specs.Caches.{same}
use Rattle.cache_model.specs.Change.{put}
use Rattle.roster_form.specs.Membership.{Host, joining_host}
use Rattle.roster_form.specs.Shown.{MayShow}
use Rattle.roster_form.specs.Choice.{Sighting, MayOpenBy}
use Rattle.roster_form.specs.Succession.{first_listed, last_finished}
use Rattle.roster_form.specs.declared.roster.Roster.{Roster}
use Rattle.roster_form.proofs.PassLemmas.{some_is, back_cases, chosen_is_shown, chosen_is_latest}
use Rattle.roster_form.proofs.ContainsLemmas.{contains_first, contains_cases, contains_none}
use Rattle.cluster_model.specs.Lane.{HostedStore, LaneStanding}
use Rattle.cluster_model.specs.LaneSteps.{standing_for}
use Rattle.cluster_model.specs.Site.{SiteShape}
use Rattle.cluster_model.specs.Agreement.{Durable}
use Rattle.cluster_model.specs.Memory.{Setting}
use Rattle.cluster_model.specs.Restart.{later_roster, counting_roster, AreTakenBy, Picks}
use Rattle.command_plans.specs.Asked.{create, recover, join, fault_of, not_created, damaged_roster, SiteAnswer, refused}
use Rattle.command_plans.specs.Found.{not_sealed, FoundSite}
use Rattle.command_plans.specs.Stage.{RunStage, unknown, found_as, closed, opened, RunState}
use Rattle.command_plans.specs.OpeningPlans.{first_hosted, first_roster}
use Rattle.command_plans.specs.Steps.{nothing_kept, found_plan, kept_plan, FollowsPlan, NoneRose}
use Rattle.command_plans.proofs.CarriedOutLemmas.{answer_cases, answered_once}
use Rattle.command_plans.proofs.WorkedRuns.{runs, fails_in, oldest, newest, tried_at, command_plan, stage_of_run}
use Rattle.command_plans.proofs.Rows.{a, b, c, site, put_a}

-- what the disks keep at a stage
abbrev kept_at : RunStage → Durable
kept_at unknown = nothing_kept
kept_at (found_as found) = nothing_kept
kept_at (closed durable) = durable
kept_at (opened one) = one.durable

abbrev three : Setting
three = site (a ∷ b ∷ c ∷ [])

one_of_one : {T : Type 0} (first item : T) → Contains (first ∷ []) item → item ≡ first
one_of_one first item is = ⊎_elim (λ it. it) (λ none. absurd (contains_none item none)) (contains_cases first [] item is)

-- ---- a roster that was lost can't pass

abbrev joining_c : Roster
joining_c = record { epoch = 4; hosts = a ∷ b ∷ c ∷ []; joining = Some 2; partitions = 1 }

abbrev two_hosts : Roster
two_hosts = record { epoch = 3; hosts = a ∷ b ∷ []; joining = None; partitions = 1 }

-- a join of c failed at b: a shows the new roster, b perhaps
abbrev cut_join : Durable
cut_join = kept_at (stage_of_run three oldest (closed nothing_kept) (runs (create a) ∷ runs (join b) ∷ fails_in (join c) 4 ∷ []))

what_a_shows : cut_join.sights a ≡ Some joining_c ∷ []
what_a_shows = refl

what_b_shows : cut_join.sights b ≡ Some joining_c ∷ Some two_hosts ∷ []
what_b_shows = refl

abbrev joining_b : Roster
joining_b = record { epoch = 2; hosts = a ∷ b ∷ []; joining = Some 1; partitions = 1 }

abbrev a_alone : Roster
a_alone = record { epoch = 1; hosts = a ∷ []; joining = None; partitions = 1 }

-- what a host shows, by whether it is b, a or c: the last that was written to it
abbrev shown_to : Bool → Bool → Bool → List (Option Roster)
shown_to is_b is_a is_c =
    if is_b then Some joining_c ∷ Some two_hosts ∷ [] else if is_a then Some joining_c ∷ [] else if is_c then None ∷ []
    else if is_b then Some two_hosts ∷ [] else if is_a then Some two_hosts ∷ [] else if is_b then Some joining_b ∷ [] else if is_a then Some joining_b ∷ []
    else if is_b then None ∷ [] else if is_a then Some a_alone ∷ [] else None ∷ []

what_hosts_show : (host : Host) → cut_join.sights host ≡ shown_to (same b host) (same a host) (same c host)
what_hosts_show host = refl

-- a host shows one of these rosters, or none
shown_case : (is_b is_a is_c : Bool) (roster : Roster) → Contains (shown_to is_b is_a is_c) (Some roster) → (roster ≡ joining_c) ⊎ (roster ≡ two_hosts)
shown_case true is_a is_c roster is = ⊎_elim
    (λ it. inl (some_is roster joining_c it))
    (λ more. inr (some_is roster two_hosts (one_of_one (Some two_hosts) (Some roster) more)))
    (contains_cases (Some joining_c) (Some two_hosts ∷ []) (Some roster) is)
shown_case false true is_c roster is = inl (some_is roster joining_c (one_of_one (Some joining_c) (Some roster) is))
shown_case false false true roster is = absurd (let clash : Some roster ≡ None = one_of_one None (Some roster) is in cc)
shown_case false false false roster is = absurd (let clash : Some roster ≡ None = one_of_one None (Some roster) is in cc)

only_one : (shown roster : Roster) (more : List (Option Roster)) → more ≡ Some roster ∷ [] → Contains more (Some shown) → shown ≡ roster
only_one shown roster more e is = some_is shown roster (one_of_one (Some roster) (Some shown) (subst (λ (l : List (Option Roster)). Contains l (Some shown)) e is))

-- whatever hosts come back, and whatever each shows that it may show: they open the cluster by the roster of the join or by none,
-- and by neither of the rosters of earlier epochs
a_lost_roster_does_not_pass : (sightings : List Sighting) (roster : Roster) → ((each : Sighting) → Contains sightings each → MayShow cut_join.sights each.host each.shown) → MayOpenBy sightings roster → roster ≡ joining_c
a_lost_roster_does_not_pass sightings roster may opens =
    let shower = chosen_is_shown sightings roster opens.chosen in
    ⊎_elim
    (λ it. it)
    (λ old.
    let here : Contains roster.hosts a = subst (λ (l : List Host). Contains l a) (sym (ap (λ (r : Roster). r.hosts) old)) (contains_first a (b ∷ [])) in
    let back = back_cases roster sightings a (opens.back a here) in
    ⊎_elim
    (λ shows.
    let is : shows.0 ≡ joining_c = only_one shows.0 joining_c (cut_join.sights a) what_a_shows (subst (λ (h : Host). Contains (cut_join.sights h) (Some shows.0)) back.2 (subst (λ (o : Option Roster). Contains (cut_join.sights back.0.host) o) shows.1 (may back.0 back.1))) in
    let latest : shows.0.epoch ≤ roster.epoch = chosen_is_latest sightings roster back.0 shows.0 opens.chosen back.1 shows.1 in
    let first : shows.0.epoch ≡ 4 = ap (λ (r : Roster). r.epoch) is in
    let second : roster.epoch ≡ 3 = ap (λ (r : Roster). r.epoch) old in
    absurd (omega (arith, latest, first, second)))
    (λ joins. absurd (let was : joining_host roster ≡ None = ap joining_host old in let clash : None ≡ Some a = sym was ∙ joins in cc))
    back.3)
    (shown_case (same b shower.0.host) (same a shower.0.host) (same c shower.0.host) roster (subst (λ (o : Option Roster). Contains (cut_join.sights shower.0.host) o) shower.2 (may shower.0 shower.1)))

-- ---- a recovery after a failed creation opens what nobody put

-- its first roster was being written
abbrev half_made : Durable
half_made = tried_at (command_plan (site (a ∷ b ∷ [])) (closed nothing_kept) (create a)).acts 4 (command_plan (site (a ∷ b ∷ [])) (closed nothing_kept) (create a)).durable

taken_is_empty : (shape : SiteShape) (counting : Option Roster) (news : List LaneStanding) (standing : LaneStanding) → AreTakenBy shape counting half_made.standings news → Contains news standing → (standing.store.changes ≡ []) × (standing.perhaps ≡ [])
taken_is_empty shape None news standing e is = absurd (contains_none standing (subst (λ (l : List LaneStanding). Contains l standing) e is))
taken_is_empty shape (Some roster) [] standing e is = absurd e
taken_is_empty shape (Some roster) (new ∷ []) standing e is =
    let it : standing ≡ new = one_of_one new standing is in
    let first : HostedStore = first_hosted (site (a ∷ b ∷ [])) 0 0 in
    let store : new.store ≡ first = one_of_one first new.store e.0.0 in
    (ap (λ (s : LaneStanding). s.store.changes) it ∙ ap (λ (s : HostedStore). s.changes) store, ap (λ (s : LaneStanding). s.perhaps) it ∙ e.0.2)
taken_is_empty shape (Some roster) (new ∷ other ∷ news) standing e is = absurd e.1

-- whatever a restart picks, each partition is empty, and nothing is in doubt
nothing_was_put : (picked : Durable) (standing : LaneStanding) → Picks (site (a ∷ b ∷ [])).shape half_made picked → Contains picked.standings standing → (standing.store.changes ≡ []) × (standing.perhaps ≡ [])
nothing_was_put picked standing picks is = taken_is_empty (site (a ∷ b ∷ [])).shape (counting_roster picked.rosters) picked.standings standing picks.each is

-- ---- 'not created' where a sealed file is damaged

-- b has a damaged roster, and a has none
abbrev damaged_b : FoundSite
damaged_b = record { sights = λ host. None ∷ []; damages = record { host = b; file = 0; offset = 9 } ∷ []; files = λ partition host file. not_sealed }

a_damaged_file_is_no_lack : (old new : RunState) (answer : SiteAnswer) → FollowsPlan (site (a ∷ b ∷ [])).shape (found_plan (site (a ∷ b ∷ [])) damaged_b (recover (b ∷ a ∷ []))) old answer new → answer ≡ refused not_created → ⊥
a_damaged_file_is_no_lack old new answer carried e = ⊎_elim
    (λ own. absurd (let clash : refused (damaged_roster b 0 9) ≡ refused not_created = sym own ∙ e in cc))
    (λ fault. absurd (let clash : refused (fault_of _) ≡ refused not_created = sym fault.2 ∙ e in cc))
    (answer_cases (site (a ∷ b ∷ [])).shape (found_plan (site (a ∷ b ∷ [])) damaged_b (recover (b ∷ a ∷ []))) old new answer carried)

-- ---- a fault in another command than its rise

-- a put failed, and the recovery after it meets no fault of its own
abbrev after_a_fault : Durable
after_a_fault = kept_at (stage_of_run (site (a ∷ [])) newest (closed nothing_kept) (runs (create a) ∷ put_a 1 ∷ []))

a_fault_is_answered_once : (old new : RunState) (host : Host) → NoneRose old.faults new.faults → FollowsPlan (site (a ∷ [])).shape (kept_plan (site (a ∷ [])) after_a_fault (recover (a ∷ []))) old (refused (fault_of host)) new → ⊥
a_fault_is_answered_once old new host none carried =
    let own = answered_once (site (a ∷ [])).shape (kept_plan (site (a ∷ [])) after_a_fault (recover (a ∷ []))) old new (refused (fault_of host)) none carried in
    absurd cc

-- ---- a restart that forgets what was synced

-- a put was answered
abbrev synced : Durable
synced = kept_at (stage_of_run (site (a ∷ [])) oldest (closed nothing_kept) (runs (create a) ∷ put_a 1 ∷ []))

abbrev one_standing : LaneStanding
one_standing = standing_for (record { host = 0; id = record { partition = 0; version = 1; epoch = 1; host = 0 }; changes = put c a (1 ∷ []) ∷ []; end = 58 })

what_was_put : (standing : LaneStanding) → Contains synced.standings standing → standing.store.changes ≡ put c a (1 ∷ []) ∷ []
what_was_put standing is = ap (λ (s : LaneStanding). s.store.changes) (one_of_one one_standing standing is)

-- with a roster that counts, the one partition stands for its store, and for nothing else
taken_as_it_was : (counting : Option Roster) (roster : Roster) (news : List LaneStanding) → counting ≡ Some roster → AreTakenBy (site (a ∷ [])).shape counting (one_standing ∷ []) news → news ≡ one_standing ∷ []
taken_as_it_was None roster news e are = absurd cc
taken_as_it_was (Some one) roster [] e are = absurd are
taken_as_it_was (Some one) roster (new ∷ []) e are =
    let store : new.store ≡ one_standing.store = one_of_one one_standing.store new.store are.0.0 in
    let perhaps : new.perhaps ≡ [] = are.0.2 in
    λ i. record { store = store i; perhaps = perhaps i } ∷ []
taken_as_it_was (Some one) roster (new ∷ other ∷ news) e are = absurd are.1

-- whatever a restart picks, the put stands there, and nothing else does
what_was_synced_stays : (picked : Durable) → Picks (site (a ∷ [])).shape synced picked → picked.standings ≡ one_standing ∷ []
what_was_synced_stays picked picks =
    let writing : picked.rosters.writing ≡ None = ⊎_elim (λ kept. kept.0) (λ gone. gone.0) picks.writing in
    let finished : picked.rosters.finished ≡ first_roster (site (a ∷ [])).shape a ∷ [] = picks.finished in
    let counts : counting_roster picked.rosters ≡ Some (first_roster (site (a ∷ [])).shape a) = ap (λ (w : Option Roster). later_roster w (last_finished picked.rosters)) writing ∙ ap first_listed finished in
    taken_as_it_was (counting_roster picked.rosters) (first_roster (site (a ∷ [])).shape a) picked.standings counts picks.each
