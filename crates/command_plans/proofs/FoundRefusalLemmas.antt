-- What is on the disks where a recovery of what a run found is refused.
use Rattle.std.proofs.Common.{◌≡◌, ◌≤◌, ◌<◌, ◌⊎◌, inl, inr, ⊎_elim, ℕ, zero, suc, ◌+◌, List, [], ◌∷◌, slice_get, Option, Some, None, Bool, true, false, refl, sym, ◌∙◌, ap, subst, arith, unwrap_or, if◌then◌else◌}
use Rattle.std.specs.Prelude.{Contains, nat_lt}
use Rattle.std.specs.Cmp.Lexicographic.{bytes_decides}
use Rattle.cache_model.specs.Caches.{same}
use Rattle.std.specs.List.{filter}
use Rattle.roster_form.specs.Choice.{chosen_roster, later_of, Sighting}
use Rattle.roster_form.specs.Membership.{Host}
use Rattle.roster_form.specs.Shown.{Sights, Shows}
use Rattle.roster_form.specs.declared.roster.Roster.{Roster}
use Rattle.roster_form.proofs.PassLemmas.{some_is}
use Rattle.roster_form.proofs.ContainsLemmas.{contains_first, contains_same, contains_later, contains_cases, contains_none}
use Rattle.store_journal.specs.Created.{IsUnsealed}
use Rattle.cluster_model.specs.Memory.{Setting}
use Rattle.cluster_model.specs.Site.{SiteShape, SiteImage, partition_of, numbers_of, lane_disk, service_disk, is_among}
use Rattle.cluster_model.specs.Acts.{Act}
use Rattle.cluster_model.proofs.SiteLemmas.{host_of_number}
use Rattle.command_plans.specs.Asked.{SiteRefusal, no_cluster, not_member, no_store, damaged_store, not_created, SiteAnswer, refused}
use Rattle.command_plans.specs.Found.{FileSight, damaged_from, FoundSite, RosterDamage, IsFileOf, IsFoundSite, IsDamagedFile, LaneFile, lane_files, LaneFinding, finds_none, finds_damage, finds_store, lane_finding, damage_of, earlier_damage, first_damage}
use Rattle.command_plans.specs.OpeningPlans.{LanesFound, all_found, refused_at_lane, found_before, lanes_with, lanes_found, first_stranger, present_hosts, sight_of, sightings_at, roster_reads, missing_by, load_found, recover_found_by, recover_found_seen, recover_found_plan}
use Rattle.command_plans.specs.Plan.{Plan, name_of, numbers_up, numbers_below, refuses_by, refused_or}
use Rattle.command_plans.specs.Stage.{Goes, restarts, found_as}
use Rattle.command_plans.proofs.FoundLemmas.{damage_found, none_found, lane_file_is, is_lane_file}

-- ---- a refusal at a partition

-- why the partitions aren't loaded: at this one no store is found, or a damaged file
pub record IsRefusedAt (shape : SiteShape) (found : FoundSite) (hosts partitions : List ℕ) (refusal : SiteRefusal) : Type 0 where
  pub partition : ℕ
  pub among : Contains partitions partition
  pub cause : ((refusal ≡ no_store partition) × (lane_finding found hosts partition ≡ finds_none))
      ⊎ ((host file offset : ℕ) × (refusal ≡ damaged_store (name_of shape host) partition file offset) × (lane_finding found hosts partition ≡ finds_damage host file offset))

abbrev refusal_in : LanesFound → SiteRefusal
refusal_in (all_found standings) = no_cluster
refusal_in (refused_at_lane count refusal) = refusal

abbrev is_refused : LanesFound → Type 0
is_refused (all_found standings) = ⊥
is_refused (refused_at_lane count refusal) = Unit {0}

refused_lanes : (shape : SiteShape) (found : FoundSite) (hosts partitions : List ℕ) (count : ℕ) (refusal : SiteRefusal) → lanes_found shape found hosts partitions ≡ refused_at_lane count refusal → IsRefusedAt shape found hosts partitions refusal
refused_lanes shape found hosts [] count refusal is = absurd (subst is_refused (sym is) tt)
refused_lanes shape found hosts (partition ∷ partitions) count refusal is = by (λ c r rest. refused_lanes shape found hosts partitions c r rest) (lane_finding found hosts partition) refl is
  where
    by : ((c : ℕ) (r : SiteRefusal) → lanes_found shape found hosts partitions ≡ refused_at_lane c r → IsRefusedAt shape found hosts partitions r) → (finding : LaneFinding) → lane_finding found hosts partition ≡ finding
        → lanes_with shape partition finding (lanes_found shape found hosts partitions) ≡ refused_at_lane count refusal → IsRefusedAt shape found hosts (partition ∷ partitions) refusal
    by later finds_none e lanes = record { partition = partition; among = contains_first partition partitions; cause = inl (sym (ap refusal_in lanes), e) }
    by later (finds_damage host file offset) e lanes = record { partition = partition; among = contains_first partition partitions; cause = inr (host, file, offset, sym (ap refusal_in lanes), e) }
    by later (finds_store store file) e lanes = others (lanes_found shape found hosts partitions) refl lanes
      where
        others : (rest : LanesFound) → lanes_found shape found hosts partitions ≡ rest → found_before store rest ≡ refused_at_lane count refusal → IsRefusedAt shape found hosts (partition ∷ partitions) refusal
        others (all_found standings) r lanes_ = absurd (subst is_refused (sym lanes_) tt)
        others (refused_at_lane c one) r lanes_ =
            let found_ = later c refusal (r ∙ ap (λ (s : SiteRefusal). refused_at_lane c s) (ap refusal_in lanes_)) in
            record { partition = found_.partition; among = contains_later partition partitions found_.partition found_.among; cause = found_.cause }

up_to : (first count number : ℕ) → Contains (numbers_up first count) number → number < first + count
up_to first zero number among = absurd (contains_none number among)
up_to first (suc count) number among = ⊎_elim
    (λ here. omega (arith, here))
    (λ there. let less = up_to (suc first) count number there in omega (arith, less))
    (contains_cases first (numbers_up (suc first) count) number among)

below_count : (count number : ℕ) → Contains (numbers_below count) number → number < count
below_count count number among = let up = up_to 0 count number among in omega (arith, up)

-- ---- of which plan

abbrev refusal_of : SiteAnswer → SiteRefusal
refusal_of (refused refusal) = refusal
refusal_of other = no_cluster

-- the refusal is one of a recovery that read all rosters
abbrev IsLaneRefusal : SiteRefusal → Type 0
IsLaneRefusal (no_store partition) = Unit {0}
IsLaneRefusal (damaged_store host partition file offset) = Unit {0}
IsLaneRefusal other = ⊥

abbrev IsNotCreated : SiteRefusal → Type 0
IsNotCreated not_created = Unit {0}
IsNotCreated other = ⊥

-- the site has all hosts, where another refusal is answered
past_strangers : (P : SiteRefusal → Type 0) → ((host : Host) → P (not_member host) → ⊥) → (stranger : Option Host) (goes : Goes) (plan : Plan) (refusal : SiteRefusal) → P refusal
    → (refused_or (refuses_by stranger not_member) goes plan).answer ≡ refused refusal → plan.answer ≡ refused refusal
past_strangers P apart None goes plan refusal has is = is
past_strangers P apart (Some host) goes plan refusal has is = absurd (apart host (subst P (sym (ap refusal_of is)) has))

-- the roster that was chosen, and the partition at which the recovery is refused
record IsRefusedByLanes (setting : Setting) (found : FoundSite) (sightings : List Sighting) (refusal : SiteRefusal) : Type 0 where
  chosen : Roster
  is : chosen_roster sightings ≡ Some chosen
  at : IsRefusedAt setting.shape found (numbers_of setting.shape.hosts chosen.hosts) (numbers_below setting.shape.partitions) refusal

loaded : (setting : Setting) (found : FoundSite) (reads : List Act) (chosen : Roster) (lanes : LanesFound) (refusal : SiteRefusal) → IsLaneRefusal refusal → (load_found setting found reads chosen lanes).answer ≡ refused refusal
    → (count : ℕ) × (lanes ≡ refused_at_lane count refusal)
loaded setting found reads chosen (all_found standings) refusal has is = absurd (subst IsLaneRefusal (sym (ap refusal_of is)) has)
loaded setting found reads chosen (refused_at_lane count one) refusal has is = (count, ap (λ (r : SiteRefusal). refused_at_lane count r) (ap refusal_of is))

refused_lane : (setting : Setting) (found : FoundSite) (reads : List Act) (damage : Option RosterDamage) (chosen : Option Roster) (missing : List Host) (sightings : List Sighting) (refusal : SiteRefusal) → chosen_roster sightings ≡ chosen → IsLaneRefusal refusal
    → (recover_found_by setting found reads damage chosen missing).answer ≡ refused refusal → IsRefusedByLanes setting found sightings refusal
refused_lane setting found reads (Some damage) chosen missing sightings refusal e has is = absurd (subst IsLaneRefusal (sym (ap refusal_of is)) has)
refused_lane setting found reads None None missing sightings refusal e has is = absurd (subst IsLaneRefusal (sym (ap refusal_of is)) has)
refused_lane setting found reads None (Some chosen) (first ∷ missing) sightings refusal e has is = absurd (subst IsLaneRefusal (sym (ap refusal_of is)) has)
refused_lane setting found reads None (Some chosen) [] sightings refusal e has is =
    let hosts = numbers_of setting.shape.hosts chosen.hosts in
    let lanes = lanes_found setting.shape found hosts (numbers_below setting.shape.partitions) in
    let at = loaded setting found reads chosen lanes refusal has is in
    record { chosen = chosen; is = e; at = refused_lanes setting.shape found hosts (numbers_below setting.shape.partitions) at.0 refusal at.1 }

lane_refusal : (setting : Setting) (found : FoundSite) (present : List Host) (refusal : SiteRefusal) → IsLaneRefusal refusal → (recover_found_plan setting found present).answer ≡ refused refusal
    → IsRefusedByLanes setting found (sightings_at found.sights (present_hosts setting.shape present)) refusal
lane_refusal setting found present refusal has is =
    let hosts = present_hosts setting.shape present in
    let sightings = sightings_at found.sights hosts in
    refused_lane setting found (roster_reads setting.shape hosts) (first_damage found.damages hosts) (chosen_roster sightings) (missing_by (chosen_roster sightings) sightings) sightings refusal refl has
    (past_strangers IsLaneRefusal (λ host none. none) (first_stranger setting.shape present) (restarts (found_as found)) (recover_found_seen setting found hosts sightings) refusal has is)

-- ---- on the disks

abbrev damage_parts : SiteRefusal → Host × ℕ × ℕ × ℕ
damage_parts (damaged_store host partition file offset) = (host, partition, file, offset)
damage_parts other = ([], 0, 0, 0)

abbrev IsDamagedStore : SiteRefusal → Type 0
IsDamagedStore (damaged_store host partition file offset) = Unit {0}
IsDamagedStore other = ⊥

abbrev IsNoStore : SiteRefusal → Type 0
IsNoStore (no_store partition) = Unit {0}
IsNoStore other = ⊥

abbrev partition_in : SiteRefusal → ℕ
partition_in (no_store partition) = partition
partition_in other = 0

file_is_damaged : (shape : SiteShape) (found : FoundSite) (named : List Host) (image : SiteImage) (partition host file offset : ℕ) → IsFoundSite shape found image → partition < shape.partitions
    → lane_finding found (numbers_of shape.hosts named) partition ≡ finds_damage host file offset
    → (slice_get shape.hosts host ≡ Some (name_of shape host)) × IsDamagedFile (partition_of shape partition) (image (lane_disk partition host) file) offset
file_is_damaged shape found named image partition host file offset on below finding =
    let hosts = numbers_of shape.hosts named in
    let damage = damage_found (lane_files (found.files partition) hosts) host file offset finding in
    let at = lane_file_is (found.files partition) hosts damage.at damage.among in
    let name = host_of_number shape.hosts named damage.at.host at.host in
    let is = on.lanes partition damage.at.host name.0 damage.at.file below name.1 at.file in
    let seen = subst (λ (s : FileSight). IsFileOf (partition_of shape partition) damage.at.host s (image (lane_disk partition damage.at.host) damage.at.file)) (sym at.sight) is in
    let bytes = ⊎_elim
    (λ bare. inl (subst (λ (s : FileSight). IsFileOf (partition_of shape partition) damage.at.host s (image (lane_disk partition damage.at.host) damage.at.file)) bare seen))
    (λ headed.
    let whole : IsFileOf (partition_of shape partition) damage.at.host (damaged_from headed.0 offset) (image (lane_disk partition damage.at.host) damage.at.file) =
    subst (λ (s : FileSight). IsFileOf (partition_of shape partition) damage.at.host s (image (lane_disk partition damage.at.host) damage.at.file)) headed.1 seen in
    inr whole.2)
    damage.sight in
    let here : slice_get shape.hosts host ≡ Some name.0 = ap (slice_get shape.hosts) (sym damage.host_is) ∙ name.1 in (
      here ∙ ap (λ (h : Host). Some h) (sym (ap (λ (o : Option Host). unwrap_or o []) here)),
      subst (λ (h : ℕ). IsDamagedFile (partition_of shape partition) (image (lane_disk partition h) file) offset) damage.host_is
          (subst (λ (f : ℕ). IsDamagedFile (partition_of shape partition) (image (lane_disk partition damage.at.host) f) offset) damage.file_is bytes),
    )

-- a damaged file is so
pub damaged_is_so : (setting : Setting) (found : FoundSite) (present : List Host) (image : SiteImage) (host : Host) (partition file offset : ℕ) → IsFoundSite setting.shape found image
    → (recover_found_plan setting found present).answer ≡ refused (damaged_store host partition file offset)
    → (number : ℕ) × (slice_get setting.shape.hosts number ≡ Some host) × IsDamagedFile (partition_of setting.shape partition) (image (lane_disk partition number) file) offset
damaged_is_so setting found present image host partition file offset on is =
    let refusal = lane_refusal setting found present (damaged_store host partition file offset) tt is in
    let at = refusal.at in
    ⊎_elim
    (λ none. absurd (subst IsDamagedStore none.0 tt))
    (λ damaged.
    let below = below_count setting.shape.partitions at.partition at.among in
    let found_ = file_is_damaged setting.shape found refusal.chosen.hosts image at.partition damaged.0 damaged.1 damaged.2 on below damaged.4 in
    subst
    (λ (parts : Host × ℕ × ℕ × ℕ). (number : ℕ) × (slice_get setting.shape.hosts number ≡ Some parts.0) × IsDamagedFile (partition_of setting.shape parts.1) (image (lane_disk parts.1 number) parts.2) parts.3)
    (sym (ap damage_parts damaged.3))
    (damaged.0, found_.0, found_.1))
    at.cause

-- where no store is found no host of the chosen roster has a sealed file of the partition
pub none_is_so : (setting : Setting) (found : FoundSite) (present : List Host) (image : SiteImage) (partition : ℕ) → IsFoundSite setting.shape found image → (recover_found_plan setting found present).answer ≡ refused (no_store partition)
    → (chosen : Roster) × (chosen_roster (sightings_at found.sights (present_hosts setting.shape present)) ≡ Some chosen)
    × ((number file : ℕ) → Contains (numbers_of setting.shape.hosts chosen.hosts) number → file ≤ 1 → IsUnsealed (image (lane_disk partition number) file))
none_is_so setting found present image partition on is =
    let refusal = lane_refusal setting found present (no_store partition) tt is in
    let at = refusal.at in
    let hosts = numbers_of setting.shape.hosts refusal.chosen.hosts in (
      refusal.chosen,
      refusal.is,
      λ number file among low. ⊎_elim
          (λ none.
          let same_one : partition ≡ at.partition = ap partition_in none.0 in
          let name = host_of_number setting.shape.hosts refusal.chosen.hosts number among in
          let slot : LaneFile = record { host = number; file = file; sight = found.files at.partition number file } in
          let bare = none_found (lane_files (found.files at.partition) hosts) none.1 slot (is_lane_file (found.files at.partition) hosts number file among low) in
          let seen = on.lanes at.partition number name.0 file (below_count setting.shape.partitions at.partition at.among) name.1 low in
          subst (λ (p : ℕ). IsUnsealed (image (lane_disk p number) file)) (sym same_one)
          (subst (λ (s : FileSight). IsFileOf (partition_of setting.shape at.partition) number s (image (lane_disk at.partition number) file)) bare seen))
          (λ damaged. absurd (subst IsNoStore damaged.3 tt))
          at.cause,
    )

-- ---- no roster

-- where none is chosen each of these hosts shows nothing
none_chosen : (sightings : List Sighting) → chosen_roster sightings ≡ None → (each : Sighting) → Contains sightings each → each.shown ≡ None
none_chosen [] is each among = absurd (contains_none each among)
none_chosen (first ∷ others) is each among = by (λ none there. none_chosen others none each there) first.shown (chosen_roster others) refl refl is (contains_cases first others each among)
  where
    by : (chosen_roster others ≡ None → Contains others each → each.shown ≡ None) → (shown chosen : Option Roster) → first.shown ≡ shown → chosen_roster others ≡ chosen → later_of shown chosen ≡ None → (each ≡ first) ⊎ Contains others each → each.shown ≡ None
    by later None None e rest none which = ⊎_elim (λ here. ap (λ (s : Sighting). s.shown) here ∙ e) (later rest) which
    by later None (Some roster) e rest none which = absurd cc
    by later (Some shown) None e rest none which = absurd cc
    by later (Some shown) (Some roster) e rest none which = absurd (one_or_other (nat_lt shown.epoch roster.epoch) none)
      where
        one_or_other : (b : Bool) → (if b then Some roster else Some shown) ≡ None → ⊥
        one_or_other true e_ = cc
        one_or_other false e_ = cc

-- a host without a damaged roster
no_damage_of : (damages : List RosterDamage) (host : Host) → damage_of damages host ≡ None → (damage : RosterDamage) → Contains damages damage → damage.host ≡ host → ⊥
no_damage_of [] host none damage among is = contains_none damage among
no_damage_of (first ∷ damages) host none damage among is = by (λ rest there. no_damage_of damages host rest damage there is) (same first.host host) refl none (contains_cases first damages damage among)
  where
    by : (damage_of damages host ≡ None → Contains damages damage → ⊥) → (b : Bool) → same first.host host ≡ b → (if b then Some first else damage_of damages host) ≡ None → (damage ≡ first) ⊎ Contains damages damage → ⊥
    by later true e none_ which = cc
    by later false e none_ which = ⊎_elim (λ here. let no : true ≡ false = sym ((bytes_decides first.host host).1 (ap (λ (d : RosterDamage). d.host) (sym here) ∙ is)) ∙ e in cc) (later none_) which

no_damage : (damages : List RosterDamage) (hosts : List Host) → first_damage damages hosts ≡ None → (host : Host) → Contains hosts host → damage_of damages host ≡ None
no_damage damages [] none host among = absurd (contains_none host among)
no_damage damages (first ∷ hosts) none host among = by (λ rest there. no_damage damages hosts rest host there) (damage_of damages first) refl none (contains_cases first hosts host among)
  where
    by : (first_damage damages hosts ≡ None → Contains hosts host → damage_of damages host ≡ None) → (damage : Option RosterDamage) → damage_of damages first ≡ damage → earlier_damage damage (first_damage damages hosts) ≡ None → (host ≡ first) ⊎ Contains hosts host
        → damage_of damages host ≡ None
    by later None e rest which = ⊎_elim (λ here. ap (damage_of damages) here ∙ e) (later rest) which
    by later (Some damage) e rest which = absurd cc

-- of a filtered list
pub kept_in : (test : Host → Bool) (hosts : List Host) (host : Host) → Contains hosts host → test host ≡ true → Contains (filter test hosts) host
kept_in test [] host among passes = absurd (contains_none host among)
kept_in test (first ∷ hosts) host among passes = by (λ there. kept_in test hosts host there passes) (test first) refl (contains_cases first hosts host among)
  where
    by : (Contains hosts host → Contains (filter test hosts) host) → (b : Bool) → test first ≡ b → (host ≡ first) ⊎ Contains hosts host → Contains (if b then first ∷ filter test hosts else filter test hosts) host
    by later true t which = ⊎_elim (λ here. contains_same first (filter test hosts) host here) (λ there. contains_later first (filter test hosts) host (later there)) which
    by later false t which = ⊎_elim (λ here. absurd (let no : true ≡ false = sym passes ∙ (ap test here ∙ t) in cc)) later which

seen_in : (sights : Sights) (hosts : List Host) (host : Host) → Contains hosts host → Contains (sightings_at sights hosts) (record { host = host; shown = sight_of (sights host) })
seen_in sights [] host among = absurd (contains_none host among)
seen_in sights (first ∷ hosts) host among = ⊎_elim
    (λ here. contains_same (seen first) (sightings_at sights hosts) (seen host) (ap seen here))
    (λ there. contains_later (seen first) (sightings_at sights hosts) (seen host) (seen_in sights hosts host there))
    (contains_cases first hosts host among)
  where
    seen : Host → Sighting
    seen h = record { host = h; shown = sight_of (sights h) }

pub in_list : (hosts : List Host) (number : ℕ) (host : Host) → slice_get hosts number ≡ Some host → Contains hosts host
in_list [] number host here = absurd cc
in_list (first ∷ hosts) zero host here = contains_same first hosts host (sym (some_is first host here))
in_list (first ∷ hosts) (suc number) host here = contains_later first hosts host (in_list hosts number host here)

-- it is refused so only where none is damaged, and none is chosen
not_created_by : (setting : Setting) (found : FoundSite) (reads : List Act) (damage : Option RosterDamage) (chosen : Option Roster) (missing : List Host) → (recover_found_by setting found reads damage chosen missing).answer ≡ refused not_created → (damage ≡ None) × (chosen ≡ None)
not_created_by setting found reads (Some damage) chosen missing is = absurd (subst IsNotCreated (sym (ap refusal_of is)) tt)
not_created_by setting found reads None None missing is = (refl, refl)
not_created_by setting found reads None (Some chosen) (first ∷ missing) is = absurd (subst IsNotCreated (sym (ap refusal_of is)) tt)
not_created_by setting found reads None (Some chosen) [] is = absurd (by (lanes_found setting.shape found (numbers_of setting.shape.hosts chosen.hosts) (numbers_below setting.shape.partitions)) refl is)
  where
    by : (lanes : LanesFound) → lanes_found setting.shape found (numbers_of setting.shape.hosts chosen.hosts) (numbers_below setting.shape.partitions) ≡ lanes → (load_found setting found reads chosen lanes).answer ≡ refused not_created → ⊥
    by (all_found standings) e is_ = subst IsNotCreated (sym (ap refusal_of is_)) tt
    by (refused_at_lane count refusal) e is_ =
        let at = refused_lanes setting.shape found (numbers_of setting.shape.hosts chosen.hosts) (numbers_below setting.shape.partitions) count refusal e in
        let one : refusal ≡ not_created = ap refusal_of is_ in
        ⊎_elim (λ none. subst IsNotCreated (sym one ∙ none.0) tt) (λ damaged. subst IsNotCreated (sym one ∙ damaged.3) tt) at.cause

-- where no cluster was created no present host shows a roster
pub not_created_is_so : (setting : Setting) (found : FoundSite) (present : List Host) (image : SiteImage) → IsFoundSite setting.shape found image → (recover_found_plan setting found present).answer ≡ refused not_created
    → (number : ℕ) (host : Host) → slice_get setting.shape.hosts number ≡ Some host → is_among present host ≡ true → Shows (image (service_disk number)) None
not_created_is_so setting found present image on is number host here is_present =
    let hosts = present_hosts setting.shape present in
    let sightings = sightings_at found.sights hosts in
    let nothing = not_created_by setting found (roster_reads setting.shape hosts) (first_damage found.damages hosts) (chosen_roster sightings) (missing_by (chosen_roster sightings) sightings)
    (past_strangers IsNotCreated (λ h none. none) (first_stranger setting.shape present) (restarts (found_as found)) (recover_found_seen setting found hosts sightings) not_created tt is) in
    let among = kept_in (is_among present) setting.shape.hosts host (in_list setting.shape.hosts number host here) is_present in
    let bare = none_chosen sightings nothing.1 (record { host = host; shown = sight_of (found.sights host) }) (seen_in found.sights hosts host among) in
    ⊎_elim
    (λ shows. subst (λ (one : Option Roster). Shows (image (service_disk number)) one) (sym (ap sight_of shows.1) ∙ bare) shows.2)
    (λ damaged. absurd (no_damage_of found.damages host (no_damage found.damages hosts nothing.0 host among) damaged.0 damaged.1 damaged.2))
    (on.services number host here)
