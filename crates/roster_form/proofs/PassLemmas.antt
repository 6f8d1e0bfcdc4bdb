-- The chosen roster is the latest, and the hosts that are back show a roster or are joining; so which rosters may pass.
use Rattle.std.proofs.Common.{◌≡◌, ◌≢◌, ◌⊎◌, inl, inr, ⊎_elim, ◌<◌, ◌≤◌, Bool, true, false, ◌&&◌, ◌||◌, nat_lt, List, [], ◌∷◌, Option, Some, None, is_some, refl, sym, ◌∙◌, ap, subst, arith, if◌then◌else◌}
use Rattle.std.specs.Prelude.{Contains}
use Rattle.std.specs.Cmp.Lexicographic.{bytes_decides}
use Rattle.std.proofs.lemmas.Bool.{ltb-true, ltb-false}
use Rattle.cache_model.specs.Caches.{same}
use Rattle.roster_form.specs.Membership.{Host, joining_host}
use Rattle.roster_form.specs.declared.roster.Roster.{Roster}
use Rattle.roster_form.specs.Shown.{Sights, MayShow}
use Rattle.roster_form.specs.Choice.{Sighting, later_of, chosen_roster, is_host, is_back, MayOpenBy}
use Rattle.roster_form.specs.Succession.{Changes, joins, settles, leaves, Succeeds, HasMember, AreSuccessive, Rosters, listed_with, first_listed, MayPass, IsGivenTo, KeepsRosters}
use Rattle.roster_form.proofs.ContainsLemmas.{contains_first, contains_same, contains_later, contains_cases, contains_none}

-- ---- choices

pub some_is : {T : Type 0} (a b : T) → Some a ≡ Some b → a ≡ b
some_is a b e = cc

or_cases : (a b : Bool) → (a || b) ≡ true → (a ≡ true) ⊎ (b ≡ true)
or_cases true b e = inl refl
or_cases false b e = inr e

and_both : (a b : Bool) → (a && b) ≡ true → (a ≡ true) × (b ≡ true)
and_both true b e = (refl, e)
and_both false b e = absurd cc

is_shown : (shown : Option Roster) → is_some shown ≡ true → (roster : Roster) × (shown ≡ Some roster)
is_shown None e = absurd cc
is_shown (Some roster) e = (roster, refl)

is_host_of : (joining : Option Host) (host : Host) → is_host joining host ≡ true → joining ≡ Some host
is_host_of None host e = absurd cc
is_host_of (Some joining) host e = ap (λ (h : Host). Some h) ((bytes_decides joining host).0 e)

-- a host that is back stands among those found, and shows a roster or is joining
pub back_cases : (roster : Roster) (found : List Sighting) (host : Host) → is_back roster found host ≡ true
    → (each : Sighting) × Contains found each × (each.host ≡ host) × (((shown : Roster) × (each.shown ≡ Some shown)) ⊎ (joining_host roster ≡ Some host))
back_cases roster [] host e = absurd cc
back_cases roster (first ∷ others) host e = ⊎_elim
    (λ here.
    let both = and_both (same first.host host) (is_some first.shown || is_host (joining_host roster) host) here in
    (first, contains_first first others, (bytes_decides first.host host).0 both.0, ⊎_elim (λ s. inl (is_shown first.shown s)) (λ j. inr (is_host_of (joining_host roster) host j)) (or_cases (is_some first.shown) (is_host (joining_host roster) host) both.1)))
    (λ there. let r = back_cases roster others host there in (r.0, contains_later first others r.0 r.1, r.2, r.3))
    (or_cases (same first.host host && (is_some first.shown || is_host (joining_host roster) host)) (is_back roster others host) e)

-- ---- the chosen roster

picked : (b : Bool) (first second roster : Roster) → (if b then Some second else Some first) ≡ Some roster → (Some first ≡ Some roster) ⊎ (Some second ≡ Some roster)
picked true first second roster e = inr e
picked false first second roster e = inl e

later_cases : (a b : Option Roster) (roster : Roster) → later_of a b ≡ Some roster → (a ≡ Some roster) ⊎ (b ≡ Some roster)
later_cases None b roster e = inr e
later_cases (Some first) None roster e = inl e
later_cases (Some first) (Some second) roster e = picked (nat_lt first.epoch second.epoch) first second roster e

-- some host shows it
pub chosen_is_shown : (found : List Sighting) (roster : Roster) → chosen_roster found ≡ Some roster → (each : Sighting) × Contains found each × (each.shown ≡ Some roster)
chosen_is_shown [] roster e = absurd cc
chosen_is_shown (first ∷ others) roster e = ⊎_elim
    (λ here. (first, contains_first first others, here))
    (λ there. let r = chosen_is_shown others roster there in (r.0, contains_later first others r.0 r.1, r.2))
    (later_cases first.shown (chosen_roster others) roster e)

-- of two the later is no earlier than each
abbrev IsNoEarlier : Option Roster → Roster → Type 0
IsNoEarlier later roster = (least : Roster) × (later ≡ Some least) × (roster.epoch ≤ least.epoch)

pick_left : (b : Bool) (first second : Roster) → nat_lt first.epoch second.epoch ≡ b → IsNoEarlier (if b then Some second else Some first) first
pick_left true first second e = (second, refl, let less : first.epoch < second.epoch = ltb-true first.epoch second.epoch e in omega (arith, less))
pick_left false first second e = (first, refl, omega arith)

pick_right : (b : Bool) (first second : Roster) → nat_lt first.epoch second.epoch ≡ b → IsNoEarlier (if b then Some second else Some first) second
pick_right true first second e = (second, refl, omega arith)
pick_right false first second e = (first, refl, let most : second.epoch ≤ first.epoch = ltb-false first.epoch second.epoch e in omega (arith, most))

later_left : (a b : Option Roster) (roster : Roster) → a ≡ Some roster → IsNoEarlier (later_of a b) roster
later_left None b roster e = absurd cc
later_left (Some first) None roster e = (first, refl, let is = some_is first roster e in subst (λ (r : Roster). r.epoch ≤ first.epoch) is (omega arith))
later_left (Some first) (Some second) roster e = subst (λ (r : Roster). IsNoEarlier (later_of (Some first) (Some second)) r) (some_is first roster e) (pick_left (nat_lt first.epoch second.epoch) first second refl)

later_right : (a b : Option Roster) (roster : Roster) → b ≡ Some roster → IsNoEarlier (later_of a b) roster
later_right None b roster e = (roster, e, omega arith)
later_right (Some first) None roster e = absurd cc
later_right (Some first) (Some second) roster e = subst (λ (r : Roster). IsNoEarlier (later_of (Some first) (Some second)) r) (some_is second roster e) (pick_right (nat_lt first.epoch second.epoch) first second refl)

shown_by : (found : List Sighting) (each : Sighting) (shown : Roster) → Contains found each → each.shown ≡ Some shown → IsNoEarlier (chosen_roster found) shown
shown_by [] each shown none e = absurd (contains_none each none)
shown_by (first ∷ others) each shown is e = ⊎_elim
    (λ here. later_left first.shown (chosen_roster others) shown (ap (λ (f : Sighting). f.shown) (sym here) ∙ e))
    (λ there.
    let r = shown_by others each shown there e in
    let l = later_right first.shown (chosen_roster others) r.0 r.1 in
    (l.0, l.1, omega (arith, r.2, l.2)))
    (contains_cases first others each is)

-- no host that is found shows a later one
pub chosen_is_latest : (found : List Sighting) (roster : Roster) (each : Sighting) (shown : Roster) → chosen_roster found ≡ Some roster → Contains found each → each.shown ≡ Some shown → shown.epoch ≤ roster.epoch
chosen_is_latest found roster each shown chosen is e =
    let r = shown_by found each shown is e in
    subst (λ (t : Roster). shown.epoch ≤ t.epoch) (some_is r.0 roster (sym r.1 ∙ chosen)) r.2

-- ---- who may pass

pub given_is_listed : (rosters : List Roster) (roster : Roster) (host : Host) → IsGivenTo rosters roster host → Contains rosters roster
given_is_listed [] roster host none = absurd none
given_is_listed (new ∷ older) roster host given = ⊎_elim
    (λ here. contains_same new older roster here.0)
    (λ there. contains_later new older roster (given_is_listed older roster host there))
    given

not_none : (joining : Option Host) (host : Host) → joining ≡ None → joining ≢ Some host
not_none joining host none some = let e : None ≡ Some host = sym none ∙ some in absurd cc

-- a roster and the next one have a host in common, which isn't joining in the first
pub common_host : (old new : Roster) → Changes old new → HasMember old → HasMember new → (host : Host) × Contains old.hosts host × Contains new.hosts host × (joining_host old ≢ Some host)
common_host old new (joins host apart none some only all in_new) member other = (member.0, member.1, all member.0 member.1, member.2)
common_host old new (settles host some none alike) member other = (member.0, member.1, subst (λ (l : List Host). Contains l member.0) (sym alike) member.1, member.2)
common_host old new (leaves host among none still only all) member other = (other.0, (only other.0 other.1).0, other.1, not_none (joining_host old) other.0 none)

-- each roster of a succession but the first of the list has a next one in it
pub has_next : (first : Roster) (others : List Roster) (roster : Roster) → AreSuccessive (first ∷ others) → Contains others roster → (next : Roster) × Contains (first ∷ others) next × Succeeds roster next × HasMember roster × HasMember next
has_next first [] roster are none = absurd (contains_none roster none)
has_next first (second ∷ others) roster are is = ⊎_elim
    (λ here. subst (λ (r : Roster). (next : Roster) × Contains (first ∷ second ∷ others) next × Succeeds r next × HasMember r × HasMember next) (sym here)
    (first, contains_first first (second ∷ others), are.0, member_of second others are.2, are.1.1))
    (λ there. let r = has_next second others roster are.2 there in (r.0, contains_later first (second ∷ others) r.0 r.1, r.2, r.3, r.4))
    (contains_cases second others roster is)
  where
    member_of : (r : Roster) (rest : List Roster) → AreSuccessive (r ∷ rest) → HasMember r
    member_of r [] a = a.1.1
    member_of r (s ∷ rest) a = a.1.1

-- those that are finished are successive by themselves
pub finished_are : (writing : Option Roster) (finished : List Roster) → AreSuccessive (listed_with writing finished) → AreSuccessive finished
finished_are None finished are = are
finished_are (Some new) [] are = tt
finished_are (Some new) (last ∷ older) are = are.2

pub listed_cases : (writing : Option Roster) (finished : List Roster) (roster : Roster) → Contains (listed_with writing finished) roster → (writing ≡ Some roster) ⊎ Contains finished roster
listed_cases None finished roster is = inr is
listed_cases (Some new) finished roster is = ⊎_elim (λ here. inl (ap (λ (r : Roster). Some r) (sym here))) (λ there. inr there) (contains_cases new finished roster is)

-- a roster before the last finished one can't be chosen by hosts of which all of its own are back
not_earlier : (rosters : Rosters) (sights : Sights) (found : List Sighting) (roster next : Roster) → KeepsRosters rosters sights → ((each : Sighting) → Contains found each → MayShow sights each.host each.shown) → MayOpenBy found roster
    → Contains rosters.finished next → Succeeds roster next → HasMember roster → HasMember next → ⊥
not_earlier rosters sights found roster next keeps seen passes is after member other =
    let common = common_host roster next after.change member other in
    let back = back_cases roster found common.0 (passes.back common.0 common.1) in
    ⊎_elim
    (λ some.
    let may : MayShow sights common.0 (Some some.0) = subst (λ (h : Host). MayShow sights h (Some some.0)) back.2 (subst (λ (s : Option Roster). MayShow sights back.0.host s) some.1 (seen back.0 back.1)) in
    let least = keeps.onward next some.0 common.0 is common.2 may in
    let most = chosen_is_latest found roster back.0 some.0 passes.chosen back.1 some.1 in
    absurd (omega (arith, least, most, after.next)))
    (λ joining. absurd (common.3 joining))
    back.3

finished_passes : (finished : List Roster) (writing : Option Roster) (sights : Sights) (found : List Sighting) (roster : Roster) → KeepsRosters (record { finished = finished; writing = writing }) sights
    → ((each : Sighting) → Contains found each → MayShow sights each.host each.shown) → MayOpenBy found roster → Contains finished roster → first_listed finished ≡ Some roster
finished_passes [] writing sights found roster keeps seen passes is = absurd (contains_none roster is)
finished_passes (last ∷ older) writing sights found roster keeps seen passes is = ⊎_elim
    (λ here. ap (λ (r : Roster). Some r) (sym here))
    (λ there.
    let next = has_next last older roster (finished_are writing (last ∷ older) keeps.successive) there in
    absurd (not_earlier (record { finished = last ∷ older; writing = writing }) sights found roster next.0 keeps seen passes next.1 next.2 next.3 next.4))
    (contains_cases last older roster is)

pub only_two_pass : (rosters : Rosters) (sights : Sights) (found : List Sighting) (roster : Roster) → KeepsRosters rosters sights
    → ((each : Sighting) → Contains found each → MayShow sights each.host each.shown) → MayOpenBy found roster → MayPass rosters roster
only_two_pass rosters sights found roster keeps seen passes =
    let shown = chosen_is_shown found roster passes.chosen in
    let may : MayShow sights shown.0.host (Some roster) = subst (λ (s : Option Roster). MayShow sights shown.0.host s) shown.2 (seen shown.0 shown.1) in
    ⊎_elim
    (λ writing. inr writing)
    (λ is. inl (finished_passes rosters.finished rosters.writing sights found roster keeps seen passes is))
    (listed_cases rosters.writing rosters.finished roster (given_is_listed (listed_with rosters.writing rosters.finished) roster shown.0.host (keeps.known shown.0.host roster may)))
