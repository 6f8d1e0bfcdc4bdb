-- The loops of the judge, host by host.
use Rattle.std.proofs.Common.{◌≡◌, ⊎_elim, ℕ, ◌+◌, ◌<◌, ◌≤◌, Bool, true, false, cond, ◌&&◌, ◌||◌, nat_lt, List, [], ◌∷◌, length, drop, get_or, Option, Some, None, is_some, refl, sym, ◌∙◌, ap, arith}
use Rattle.std.proofs.lemmas.Bool.{cases_lt, lt-ltb, le-ltb}
use Rattle.std.proofs.lemmas.List.{drop_more, drop_all}
use Rattle.cache_model.specs.Caches.{same}
use Rattle.roster_form.specs.Membership.{Host, joining_host}
use Rattle.roster_form.specs.Choice.{Sighting, later_of, chosen_roster, is_host, is_back}
use Rattle.roster_form.specs.declared.roster.Roster.{Roster}
use Rattle.roster_book.specs.declared.found.Found.{Found}
use Rattle.quorum.specs.Judged.{sightings_of}

-- what is later of three, by the three comparisons
abbrev left_first : Roster → Roster → Roster → Bool → Bool → Bool → Option Roster
left_first a b c true bc ac = cond bc (Some c) (Some b)
left_first a b c false bc ac = cond ac (Some c) (Some a)

abbrev right_first : Roster → Roster → Roster → Bool → Bool → Bool → Option Roster
right_first a b c ab true ac = cond ac (Some c) (Some a)
right_first a b c ab false ac = cond ab (Some b) (Some a)

left_is : (a b c : Roster) (ab bc ac : Bool) → nat_lt b.epoch c.epoch ≡ bc → nat_lt a.epoch c.epoch ≡ ac → later_of (cond ab (Some b) (Some a)) (Some c) ≡ left_first a b c ab bc ac
left_is a b c true bc ac second third = ap (λ (t : Bool). cond t (Some c) (Some b)) second
left_is a b c false bc ac second third = ap (λ (t : Bool). cond t (Some c) (Some a)) third

right_is : (a b c : Roster) (ab bc ac : Bool) → nat_lt a.epoch b.epoch ≡ ab → nat_lt a.epoch c.epoch ≡ ac → later_of (Some a) (cond bc (Some c) (Some b)) ≡ right_first a b c ab bc ac
right_is a b c ab true ac first third = ap (λ (t : Bool). cond t (Some c) (Some a)) third
right_is a b c ab false ac first third = ap (λ (t : Bool). cond t (Some b) (Some a)) first

of_three : (a b c : Roster) (ab bc ac : Bool) → nat_lt a.epoch b.epoch ≡ ab → nat_lt b.epoch c.epoch ≡ bc → nat_lt a.epoch c.epoch ≡ ac → left_first a b c ab bc ac ≡ right_first a b c ab bc ac
    → later_of (later_of (Some a) (Some b)) (Some c) ≡ later_of (Some a) (later_of (Some b) (Some c))
of_three a b c ab bc ac first second third same =
    ap (λ (t : Bool). later_of (cond t (Some b) (Some a)) (Some c)) first ∙ left_is a b c ab bc ac second third ∙ same
    ∙ sym (ap (λ (t : Bool). later_of (Some a) (cond t (Some c) (Some b))) second ∙ right_is a b c ab bc ac first third)

-- of three rosters the later doesn't depend on which two are compared first
later_joined : (a b c : Option Roster) → later_of (later_of a b) c ≡ later_of a (later_of b c)
later_joined None b c = refl
later_joined (Some a) None c = refl
later_joined (Some a) (Some b) None = go (nat_lt a.epoch b.epoch)
  where
    go : (less : Bool) → later_of (cond less (Some b) (Some a)) None ≡ cond less (Some b) (Some a)
    go true = refl
    go false = refl
later_joined (Some a) (Some b) (Some c) = ⊎_elim
    (λ ab. ⊎_elim
    (λ bc. of_three a b c true true true (lt-ltb a.epoch b.epoch ab) (lt-ltb b.epoch c.epoch bc) (lt-ltb a.epoch c.epoch (omega (arith, ab, bc))) refl)
    (λ cb. ⊎_elim
    (λ ac. of_three a b c true false true (lt-ltb a.epoch b.epoch ab) (le-ltb b.epoch c.epoch cb) (lt-ltb a.epoch c.epoch ac) refl)
    (λ ca. of_three a b c true false false (lt-ltb a.epoch b.epoch ab) (le-ltb b.epoch c.epoch cb) (le-ltb a.epoch c.epoch ca) refl)
    (cases_lt a.epoch c.epoch))
    (cases_lt b.epoch c.epoch))
    (λ ba. ⊎_elim
    (λ bc. ⊎_elim
    (λ ac. of_three a b c false true true (le-ltb a.epoch b.epoch ba) (lt-ltb b.epoch c.epoch bc) (lt-ltb a.epoch c.epoch ac) refl)
    (λ ca. of_three a b c false true false (le-ltb a.epoch b.epoch ba) (lt-ltb b.epoch c.epoch bc) (le-ltb a.epoch c.epoch ca) refl)
    (cases_lt a.epoch c.epoch))
    (λ cb. of_three a b c false false false (le-ltb a.epoch b.epoch ba) (le-ltb b.epoch c.epoch cb) (le-ltb a.epoch c.epoch (omega (arith, ba, cb))) refl)
    (cases_lt b.epoch c.epoch))
    (cases_lt a.epoch b.epoch)

-- what is left of the sightings, from the next on
sightings_more : (found : List Found) (hosts : List Host) (i : ℕ) (f : Found) (h : Host) → length found ≡ length hosts → i < length found
    → sightings_of (drop i found) (drop i hosts) ≡ record { host = get_or hosts i h; shown = (get_or found i f).roster } ∷ sightings_of (drop (i + 1) found) (drop (i + 1) hosts)
sightings_more found hosts i f h alike here =
    ap (λ (l : List Found). sightings_of l (drop i hosts)) (drop_more found i f here)
    ∙ ap (λ (l : List Host). sightings_of (get_or found i f ∷ drop (i + 1) found) l) (drop_more hosts i h (omega (arith, alike, here)))

later_none_right : (a : Option Roster) → later_of a None ≡ a
later_none_right None = refl
later_none_right (Some a) = refl

pub chosen_more : (found : List Found) (hosts : List Host) (i : ℕ) (f : Found) (chosen next all : Option Roster) → length found ≡ length hosts → i < length found → next ≡ later_of chosen (get_or found i f).roster
    → later_of chosen (chosen_roster (sightings_of (drop i found) (drop i hosts))) ≡ all → later_of next (chosen_roster (sightings_of (drop (i + 1) found) (drop (i + 1) hosts))) ≡ all
chosen_more found hosts i f chosen next all alike here is so_far =
    let rest = chosen_roster (sightings_of (drop (i + 1) found) (drop (i + 1) hosts)) in
    ap (λ (c : Option Roster). later_of c rest) is ∙ later_joined chosen (get_or found i f).roster rest
    ∙ ap (λ (l : List Sighting). later_of chosen (chosen_roster l)) (sym (sightings_more found hosts i f [] alike here)) ∙ so_far

pub chosen_all : (found : List Found) (hosts : List Host) (i : ℕ) (chosen all : Option Roster) → length found ≤ i → later_of chosen (chosen_roster (sightings_of (drop i found) (drop i hosts))) ≡ all → chosen ≡ all
chosen_all found hosts i chosen all past so_far =
    sym (later_none_right chosen) ∙ ap (λ (l : List Found). later_of chosen (chosen_roster (sightings_of l (drop i hosts)))) (sym (drop_all i found past)) ∙ so_far

-- one host more is judged
abbrev is_sighted : Roster → Found → Host → Host → Bool
is_sighted roster found name host = same name host && (is_some found.roster || is_host (joining_host roster) host)

pub back_more : (roster : Roster) (found : List Found) (hosts : List Host) (i : ℕ) (f : Found) (h : Host) (host : Host) → length found ≡ length hosts → i < length found
    → is_back roster (sightings_of (drop i found) (drop i hosts)) host ≡ (is_sighted roster (get_or found i f) (get_or hosts i h) host || is_back roster (sightings_of (drop (i + 1) found) (drop (i + 1) hosts)) host)
back_more roster found hosts i f h host alike here = ap (λ (l : List Sighting). is_back roster l host) (sightings_more found hosts i f h alike here)

pub not_yet : (roster : Roster) (found : List Found) (hosts : List Host) (i : ℕ) (f : Found) (h : Host) (host : Host) (all : Bool) → length found ≡ length hosts → i < length found → is_sighted roster (get_or found i f) (get_or hosts i h) host ≡ false
    → is_back roster (sightings_of (drop i found) (drop i hosts)) host ≡ all → is_back roster (sightings_of (drop (i + 1) found) (drop (i + 1) hosts)) host ≡ all
not_yet roster found hosts i f h host all alike here not so_far =
    sym (ap (λ (t : Bool). t || is_back roster (sightings_of (drop (i + 1) found) (drop (i + 1) hosts)) host) not) ∙ sym (back_more roster found hosts i f h host alike here) ∙ so_far

pub is_there : (roster : Roster) (found : List Found) (hosts : List Host) (i : ℕ) (f : Found) (h : Host) (host : Host) (all : Bool) → length found ≡ length hosts → i < length found → is_sighted roster (get_or found i f) (get_or hosts i h) host ≡ true
    → is_back roster (sightings_of (drop i found) (drop i hosts)) host ≡ all → true ≡ all
is_there roster found hosts i f h host all alike here is so_far =
    sym (ap (λ (t : Bool). t || is_back roster (sightings_of (drop (i + 1) found) (drop (i + 1) hosts)) host) is) ∙ sym (back_more roster found hosts i f h host alike here) ∙ so_far

pub back_end : (roster : Roster) (found : List Found) (hosts : List Host) (i : ℕ) (host : Host) → length found ≤ i → is_back roster (sightings_of (drop i found) (drop i hosts)) host ≡ false
back_end roster found hosts i host past = ap (λ (l : List Found). is_back roster (sightings_of l (drop i hosts)) host) (drop_all i found past)
