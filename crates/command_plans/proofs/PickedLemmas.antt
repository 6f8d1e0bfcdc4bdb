-- Whatever a restart picks is a closed cluster again.
use Rattle.std.proofs.Common.{◌≡◌, ◌⊎◌, inl, inr, ⊎_elim, ℕ, suc, List, [], ◌∷◌, length, All, Option, Some, None, refl, sym, ◌∙◌, ap, subst, arith}
use Rattle.std.specs.Prelude.{Contains}
use Rattle.std.proofs.lemmas.List.Elements.{All-cons}
use Rattle.roster_form.specs.declared.roster.Roster.{Roster}
use Rattle.roster_form.specs.Succession.{Rosters, listed, listed_with, first_listed, last_finished}
use Rattle.roster_form.proofs.ContainsLemmas.{contains_later}
use Rattle.cluster_model.specs.Lane.{LaneStanding}
use Rattle.cluster_model.specs.Site.{SiteShape, numbers_of}
use Rattle.cluster_model.specs.Agreement.{Durable}
use Rattle.cluster_model.specs.Restart.{later_roster, counting_roster, AreTaken, AreTakenBy, Picks}
use Rattle.cluster_model.proofs.PicksLemmas.{picked_keeps}
use Rattle.command_plans.specs.Kept.{MayBePicked, IsHeldAt, AreHeldBy, KeepsClosed}

-- a finished roster is listed
pub finished_in_list : (writing : Option Roster) (finished : List Roster) (roster : Roster) → Contains finished roster → Contains (listed_with writing finished) roster
finished_in_list None finished roster is = is
finished_in_list (Some new) finished roster is = contains_later new finished roster is

-- the rosters that are picked are some of those before
listed_before : (old new : Rosters) → new.finished ≡ old.finished → (new.writing ≡ old.writing) ⊎ (new.writing ≡ None) → (roster : Roster) → Contains (listed new) roster → Contains (listed old) roster
listed_before old new finished (inl same) roster is =
    subst (λ (w : Option Roster). Contains (listed_with w old.finished) roster) same (subst (λ (l : List Roster). Contains (listed_with new.writing l) roster) finished is)
listed_before old new finished (inr none) roster is =
    finished_in_list old.writing old.finished roster (subst (λ (w : Option Roster). Contains (listed_with w old.finished) roster) none (subst (λ (l : List Roster). Contains (listed_with new.writing l) roster) finished is))

-- where a roster counts afterwards, one did before
counted : (writing last : Option Roster) (roster : Roster) → last ≡ Some roster → (one : Roster) × (later_roster writing last ≡ Some one)
counted None last roster e = (roster, e)
counted (Some new) last roster e = (new, refl)

-- so it did among the rosters from which these were picked
counted_before : (old new : Rosters) (roster : Roster) → new.finished ≡ old.finished → (new.writing ≡ old.writing) ⊎ (new.writing ≡ None) → counting_roster new ≡ Some roster → (one : Roster) × (counting_roster old ≡ Some one)
counted_before old new roster finished (inl same) e =
    (roster, subst (λ (w : Option Roster). later_roster w (last_finished old) ≡ Some roster) same (subst (λ (l : List Roster). later_roster new.writing (first_listed l) ≡ Some roster) finished e))
counted_before old new roster finished (inr none) e = counted old.writing (last_finished old) roster
    (subst (λ (w : Option Roster). later_roster w (last_finished old) ≡ Some roster) none (subst (λ (l : List Roster). later_roster new.writing (first_listed l) ≡ Some roster) finished e))

-- what is taken stands for one store on these hosts
taken_held : (hosts : List ℕ) (olds news : List LaneStanding) → AreTaken hosts olds news → (length news ≡ length olds) × All (IsHeldAt hosts) news
taken_held hosts [] [] are = (refl, λ i d within. absurd (omega (arith, within)))
taken_held hosts [] (new ∷ news) are = absurd are
taken_held hosts (old ∷ olds) [] are = absurd are
taken_held hosts (old ∷ olds) (new ∷ news) are =
    let rest = taken_held hosts olds news are.1 in
    (ap suc rest.0, All-cons (IsHeldAt hosts) new news (record { one = are.0.2; host = are.0.1 }) rest.1)

-- so does each partition, on a host of the roster that counts
held_by : (shape : SiteShape) (counts : Option Roster) (olds news : List LaneStanding) → ((roster : Roster) → counts ≡ Some roster → length olds ≡ shape.partitions) → AreTakenBy shape counts olds news → AreHeldBy shape counts news
held_by shape None olds news number taken = taken
held_by shape (Some roster) olds news number taken = let are = taken_held (numbers_of shape.hosts roster.hosts) olds news taken in (are.0 ∙ number roster refl, are.1)

-- it is a closed cluster again
pub restart_closes : (shape : SiteShape) (old new : Durable) → MayBePicked shape old → Picks shape old new → KeepsClosed shape new
restart_closes shape old new may picks = record {
  rosters = record {
    rosters = picked_keeps shape old new may.rosters.rosters picks;
    of_site = λ roster is. may.rosters.of_site roster (listed_before old.rosters new.rosters picks.finished same_or_none roster is);
  };
  one = λ host. let s = picks.shown host in (s.0, s.1);
  seen = λ roster e. ⊎_elim (λ kept. kept.1 roster (sym kept.0 ∙ e)) (λ gone. absurd (let n : None ≡ Some roster = sym gone.0 ∙ e in cc)) picks.writing;
  held = held_by shape (counting_roster new.rosters) old.standings new.standings
      (λ roster e. let before = counted_before old.rosters new.rosters roster picks.finished same_or_none e in may.number before.0 before.1)
      picks.each;
}
  where
    same_or_none : (new.rosters.writing ≡ old.rosters.writing) ⊎ (new.rosters.writing ≡ None)
    same_or_none = ⊎_elim (λ kept. inl kept.0) (λ gone. inr gone.0) picks.writing
