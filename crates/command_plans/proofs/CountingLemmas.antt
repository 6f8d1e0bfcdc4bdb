-- After a restart the roster that a recovery chooses is the one that counts.
use Rattle.std.proofs.Common.{◌≡◌, ⊎_elim, Bool, true, false, List, [], ◌∷◌, Option, Some, None, refl, sym, ◌∙◌, ap, subst, if◌then◌else◌}
use Rattle.std.specs.Prelude.{Contains}
use Rattle.roster_form.specs.Membership.{Host}
use Rattle.roster_form.specs.Shown.{Sights, MayShow}
use Rattle.roster_form.specs.Choice.{Sighting, chosen_roster, is_back, missing_hosts, MayOpenBy}
use Rattle.roster_form.specs.declared.roster.Roster.{Roster}
use Rattle.roster_form.specs.Succession.{Rosters, KeepsRosters, MayPass, last_finished}
use Rattle.roster_form.proofs.PassLemmas.{only_two_pass}
use Rattle.roster_form.proofs.ContainsLemmas.{contains_first, contains_cases, contains_none}
use Rattle.roster_form.proofs.SuccessionLemmas.{unseen}
use Rattle.cluster_model.specs.Restart.{later_roster, counting_roster, IsShownBySome}
use Rattle.command_plans.specs.OpeningPlans.{sight_of, sightings_at}

-- each host shows one thing
abbrev pub ShowsOne : Sights → Type 0
ShowsOne sights = (host : Host) → (shown : Option Roster) × (sights host ≡ shown ∷ [])

-- where none of these hosts is missing each is back
all_back : (roster : Roster) (found : List Sighting) (hosts : List Host) (host : Host) → missing_hosts roster found hosts ≡ [] → Contains hosts host → is_back roster found host ≡ true
all_back roster found [] host e is = absurd (contains_none host is)
all_back roster found (first ∷ hosts) host e is = go (is_back roster found first) refl e (λ none there. all_back roster found hosts host none there)
  where
    go : (b : Bool) → is_back roster found first ≡ b → (if b then missing_hosts roster found hosts else first ∷ missing_hosts roster found hosts) ≡ [] → (missing_hosts roster found hosts ≡ [] → Contains hosts host → is_back roster found host ≡ true) → is_back roster found host ≡ true
    go true back none later = ⊎_elim (λ here. ap (λ (h : Host). is_back roster found h) here ∙ back) (λ there. later none there) (contains_cases first hosts host is)
    go false back none later = absurd cc

-- what is seen of a host is what it may show
seen_may : (sights : Sights) (hosts : List Host) (each : Sighting) → ShowsOne sights → Contains (sightings_at sights hosts) each → MayShow sights each.host each.shown
seen_may sights [] each one is = absurd (contains_none each is)
seen_may sights (first ∷ hosts) each one is = ⊎_elim
    (λ here. subst (λ (s : Sighting). MayShow sights s.host s.shown) (sym here) (subst (λ (l : List (Option Roster)). Contains l (sight_of l)) (sym (one first).1) (contains_first (one first).0 [])))
    (λ there. seen_may sights hosts each one there)
    (contains_cases (record { host = first; shown = sight_of (sights first) }) (sightings_at sights hosts) each is)

-- it is the one thing that the host shows
only_one : (sights : Sights) (host : Host) (shown : Option Roster) → (one : ShowsOne sights) → MayShow sights host shown → shown ≡ (one host).0
only_one sights host shown one may = ⊎_elim (λ it. it) (λ none. absurd (contains_none shown none)) (contains_cases (one host).0 [] shown (subst (λ (l : List (Option Roster)). Contains l shown) (one host).1 may))

-- a roster by which the present hosts may open the cluster is the one that counts
opens_by_counting : (rosters : Rosters) (sights : Sights) (found : List Sighting) (roster : Roster) → KeepsRosters rosters sights → ShowsOne sights → ((new : Roster) → rosters.writing ≡ Some new → IsShownBySome sights (Some new))
    → ((each : Sighting) → Contains found each → MayShow sights each.host each.shown) → MayOpenBy found roster → counting_roster rosters ≡ Some roster
opens_by_counting rosters sights found roster keeps one seen may passes = go rosters.writing refl (only_two_pass rosters sights found roster keeps may passes)
  where
    go : (writing : Option Roster) → rosters.writing ≡ writing → MayPass rosters roster → counting_roster rosters ≡ Some roster
    go None e which = ap (λ (w : Option Roster). later_roster w (last_finished rosters)) e ∙ ⊎_elim (λ last. last) (λ writes. absurd (let n : None ≡ Some roster = sym e ∙ writes in cc)) which
    go (Some new) e which = ap (λ (w : Option Roster). later_roster w (last_finished rosters)) e ∙ ⊎_elim
        (λ last.
        let s = seen new e in
        absurd (unseen rosters sights found roster new keeps last e may (λ each shown is here. only_one sights each.host shown one here ∙ sym (only_one sights each.host each.shown one (may each is))) passes s.0 s.1))
        (λ writes. sym e ∙ writes)
        which

-- so is the chosen one where no host of it is missing
pub chosen_counts : (rosters : Rosters) (sights : Sights) (hosts : List Host) (chosen : Roster) → KeepsRosters rosters sights → ShowsOne sights → ((new : Roster) → rosters.writing ≡ Some new → IsShownBySome sights (Some new))
    → chosen_roster (sightings_at sights hosts) ≡ Some chosen → missing_hosts chosen (sightings_at sights hosts) chosen.hosts ≡ [] → counting_roster rosters ≡ Some chosen
chosen_counts rosters sights hosts chosen keeps one seen e none =
    let found = sightings_at sights hosts in
    opens_by_counting rosters sights found chosen keeps one seen (λ each is. seen_may sights hosts each one is) (record { chosen = e; back = λ host is. all_back chosen found chosen.hosts host none is })
