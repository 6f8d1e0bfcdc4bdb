-- The chosen roster is the best one.
use Rattle.std.proofs.Common.{◌≡◌, ◌↔◌, ⊎_elim, ◌<◌, ◌≤◌, Bool, true, false, nat_lt, List, [], ◌∷◌, ◌++◌, Option, Some, None, refl, sym, ◌∙◌, ap, subst, arith, if◌then◌else◌}
use Rattle.std.specs.Prelude.{Contains}
use Rattle.std.proofs.lemmas.Bool.{ltb-true, ltb-false, lt-ltb, le-ltb}
use Rattle.roster_form.specs.Choice.{Sighting, later_of, chosen_roster}
use Rattle.roster_form.specs.declared.roster.Roster.{Roster}
use Rattle.roster_form.proofs.ContainsLemmas.{contains_first, contains_later, contains_cases, contains_none}
use Rattle.roster_form.proofs.PassLemmas.{some_is, chosen_is_shown, chosen_is_latest}
use Rattle.quorum.specs.Best.{IsBest}
use Rattle.quorum.proofs.JudgedLemmas.{shown_none}

-- one host before the others, which shows none or an earlier roster
best_later : (sighting : Sighting) (others : List Sighting) (roster : Roster) → ((other : Roster) → sighting.shown ≡ Some other → other.epoch < roster.epoch) → IsBest others roster → IsBest (sighting ∷ others) roster
best_later sighting others roster less best = record {
  before = sighting ∷ best.before;
  first = best.first;
  after = best.after;
  place = ap (λ (l : List Sighting). sighting ∷ l) best.place;
  shown = best.shown;
  earlier = λ each other is e. ⊎_elim
      (λ here. less other (ap (λ (s : Sighting). s.shown) (sym here) ∙ e))
      (λ there. best.earlier each other there e)
      (contains_cases sighting best.before each is);
  no_later = best.no_later;
}

-- the first host's is the best, where no other host shows a later one
best_first : (sighting : Sighting) (others : List Sighting) (roster : Roster) → sighting.shown ≡ Some roster → ((each : Sighting) (other : Roster) → Contains others each → each.shown ≡ Some other → other.epoch ≤ roster.epoch) → IsBest (sighting ∷ others) roster
best_first sighting others roster shown most = record {
  before = [];
  first = sighting;
  after = others;
  place = refl;
  shown = shown;
  earlier = λ each other is e. absurd (contains_none each is);
  no_later = most;
}

pub chosen_is_best : (sightings : List Sighting) (roster : Roster) → chosen_roster sightings ≡ Some roster → IsBest sightings roster
chosen_is_best [] roster e = absurd cc
chosen_is_best (sighting ∷ others) roster e = go (chosen_is_best others roster) sighting.shown refl (chosen_roster others) refl e
  where
    picked : (chosen_roster others ≡ Some roster → IsBest others roster) → (shown second : Roster) → sighting.shown ≡ Some shown → chosen_roster others ≡ Some second → (less : Bool) → nat_lt shown.epoch second.epoch ≡ less → (if less then Some second else Some shown) ≡ Some roster → IsBest (sighting ∷ others) roster
    picked best shown second own rest true t e =
        let later : shown.epoch < second.epoch = ltb-true shown.epoch second.epoch t in
        let same : second ≡ roster = some_is second roster e in
        best_later sighting others roster
        (λ other is. subst (λ (r : Roster). r.epoch < roster.epoch) (some_is shown other (sym own ∙ is)) (subst (λ (r : Roster). shown.epoch < r.epoch) same later))
        (best (rest ∙ e))
    picked best shown second own rest false t e =
        let most : second.epoch ≤ shown.epoch = ltb-false shown.epoch second.epoch t in
        let same : shown ≡ roster = some_is shown roster e in
        best_first sighting others roster (own ∙ e)
        (λ each other is its.
        let below = chosen_is_latest others second each other rest is its in
        subst (λ (r : Roster). other.epoch ≤ r.epoch) same (omega (arith, below, most)))

    go : (chosen_roster others ≡ Some roster → IsBest others roster) → (shown : Option Roster) → sighting.shown ≡ shown → (chosen : Option Roster) → chosen_roster others ≡ chosen → later_of shown chosen ≡ Some roster → IsBest (sighting ∷ others) roster
    go best None own chosen rest e = best_later sighting others roster (λ other is. absurd (let n : None ≡ Some other = sym own ∙ is in cc)) (best (rest ∙ e))
    go best (Some shown) own None rest e =
        best_first sighting others roster (own ∙ e) (λ each other is its. absurd (let n : None ≡ Some other = sym (shown_none others rest each is) ∙ its in cc))
    go best (Some shown) own (Some second) rest e = picked best shown second own rest (nat_lt shown.epoch second.epoch) refl e

-- of two, the first where the second isn't later, and the second where it is
later_first : (roster : Roster) (second : Option Roster) → ((other : Roster) → second ≡ Some other → other.epoch ≤ roster.epoch) → later_of (Some roster) second ≡ Some roster
later_first roster None most = refl
later_first roster (Some other) most =
    let le : other.epoch ≤ roster.epoch = most other refl in
    ap (λ (b : Bool). if b then Some other else Some roster) (le-ltb roster.epoch other.epoch le)

later_second : (first : Option Roster) (roster : Roster) → ((other : Roster) → first ≡ Some other → other.epoch < roster.epoch) → later_of first (Some roster) ≡ Some roster
later_second None roster less = refl
later_second (Some other) roster less =
    let lt : other.epoch < roster.epoch = less other refl in
    ap (λ (b : Bool). if b then Some roster else Some other) (lt-ltb other.epoch roster.epoch lt)

best_in : (before : List Sighting) (first : Sighting) (after : List Sighting) (roster : Roster) → first.shown ≡ Some roster
    → ((each : Sighting) (other : Roster) → Contains before each → each.shown ≡ Some other → other.epoch < roster.epoch)
    → ((each : Sighting) (other : Roster) → Contains after each → each.shown ≡ Some other → other.epoch ≤ roster.epoch) → chosen_roster (before ++ first ∷ after) ≡ Some roster
best_in [] first after roster shown earlier no_later =
    ap (λ (s : Option Roster). later_of s (chosen_roster after)) shown
    ∙ later_first roster (chosen_roster after) (λ other e. let r = chosen_is_shown after other e in no_later r.0 other r.1 r.2)
best_in (sighting ∷ before) first after roster shown earlier no_later =
    ap (λ (s : Option Roster). later_of sighting.shown s) (best_in before first after roster shown (λ each other is e. earlier each other (contains_later sighting before each is) e) no_later)
    ∙ later_second sighting.shown roster (λ other e. earlier sighting other (contains_first sighting before) e)

pub chosen_best : (sightings : List Sighting) (roster : Roster) → chosen_roster sightings ≡ Some roster ↔ IsBest sightings roster
chosen_best sightings roster = (
  chosen_is_best sightings roster,
  λ best. ap (λ (l : List Sighting). chosen_roster l) best.place ∙ best_in best.before best.first best.after roster best.shown best.earlier best.no_later,
)
