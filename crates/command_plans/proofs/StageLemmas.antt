-- What the disks keep at a stage of a run survives a stop, and is a stage again after a restart.
use Rattle.std.proofs.Common.{◌≡◌, ◌⊎◌, inl, inr, ⊎_elim, refl, sym, ◌∙◌, subst, true, false, Bool, List, [], ◌∷◌, Option, Some, None}
use Rattle.std.specs.Prelude.{Contains}
use Rattle.roster_form.specs.declared.roster.Roster.{Roster}
use Rattle.roster_form.proofs.ContainsLemmas.{contains_none}
use Rattle.cluster_model.specs.Agreement.{Durable, two_of, some_of, KeepsSite, IsSaved, SurvivesStops}
use Rattle.cluster_model.specs.Restart.{counting_roster, AreTakenBy, Picks, IsSeenOrNot, AreRestarted}
use Rattle.cluster_model.specs.Site.{SiteShape, SiteImage, SiteView}
use Rattle.cluster_model.proofs.AgreementLemmas.{passes_over, saved_survives}
use Rattle.cluster_model.proofs.RestartLemmas.{stop_is_stored}
use Rattle.command_plans.specs.OnDisks.{only_counted, IsStageOn}
use Rattle.command_plans.proofs.RecoveryLemmas.{bare, bare_keeps}
use Rattle.command_plans.specs.Stage.{OpenSite, unknown, closed, opened, RunStage, IsClosedAs, IsRestartOf}

-- ---- with no roster yet

-- a cluster has no roster
record HasNone (durable : Durable) : Type 0 where
  finished : durable.rosters.finished ≡ []
  writing : durable.rosters.writing ≡ None
  two : two_of durable.rosters ≡ []

counted_cases : (durable : Durable) → (HasNone durable × (only_counted durable ≡ bare durable)) ⊎ (only_counted durable ≡ durable)
counted_cases durable = by durable.rosters.finished durable.rosters.writing
  where
    made : List Roster → Option Roster → Durable
    made finished writing = record { rosters = record { finished = finished; writing = writing }; sights = durable.sights; standings = durable.standings }

    by : (finished : List Roster) (writing : Option Roster) → (HasNone (made finished writing) × (only_counted (made finished writing) ≡ bare (made finished writing))) ⊎ (only_counted (made finished writing) ≡ made finished writing)
    by [] None = inl (record { finished = refl; writing = refl; two = refl }, refl)
    by [] (Some new) = inr refl
    by (first ∷ others) None = inr refl
    by (first ∷ others) (Some new) = inr refl

-- without its partitions it keeps the site no less
naked_keeps : (shape : SiteShape) (durable : Durable) (passing : List Roster) (image : SiteImage) → KeepsSite shape durable passing image → KeepsSite shape (bare durable) passing image
naked_keeps shape durable passing image keeps = record {
  rosters = keeps.rosters;
  of_site = keeps.of_site;
  only = keeps.only;
  shown = keeps.shown;
  lanes = λ partition standing e. absurd cc;
  owners = λ partition standing e. absurd cc;
}

counted_keeps : (shape : SiteShape) (durable : Durable) (passing : List Roster) (image : SiteImage) → KeepsSite shape durable passing image → KeepsSite shape (only_counted durable) passing image
counted_keeps shape durable passing image keeps = ⊎_elim
    (λ none. subst (λ (d : Durable). KeepsSite shape d passing image) (sym none.1) (naked_keeps shape durable passing image keeps))
    (λ alike. subst (λ (d : Durable). KeepsSite shape d passing image) (sym alike) keeps)
    (counted_cases durable)

-- and no roster can open the cluster
unopened : (shape : SiteShape) (durable : Durable) (passing : List Roster) (views : SiteView) → HasNone durable → IsSaved shape (bare durable) passing views → SurvivesStops shape durable views
unopened shape durable passing views none saved image sightings roster partition standing taken sighted passes here =
    let among = passes_over shape (bare durable) (two_of durable.rosters) image sightings roster (bare_keeps shape (bare durable) passing image (saved image taken)) sighted passes in
    absurd (contains_none roster (subst (λ (l : List Roster). Contains l roster) none.two among))

-- what may be picked of it, may be without its partitions
picks_counted : (shape : SiteShape) (durable picked : Durable) → Picks shape (only_counted durable) picked → Picks shape durable picked
picks_counted shape durable picked picks = ⊎_elim
    (λ none. of_none none.0 (subst (λ (d : Durable). Picks shape d picked) none.1 picks))
    (λ alike. subst (λ (d : Durable). Picks shape d picked) alike picks)
    (counted_cases durable)
  where
    uncounted : HasNone durable → Picks shape (bare durable) picked → counting_roster picked.rosters ≡ None
    uncounted none chosen = ⊎_elim
        (λ kept. no_roster (chosen.finished ∙ none.finished) (kept.0 ∙ none.writing))
        (λ forgotten. no_roster (chosen.finished ∙ none.finished) forgotten.0)
        chosen.writing
      where
        no_roster : picked.rosters.finished ≡ [] → picked.rosters.writing ≡ None → counting_roster picked.rosters ≡ None
        no_roster no_finished no_writing = λ i. counting_roster (record { finished = no_finished i; writing = no_writing i })

    of_none : HasNone durable → Picks shape (bare durable) picked → Picks shape durable picked
    of_none none chosen = record {
      shown = chosen.shown;
      finished = chosen.finished;
      writing = chosen.writing;
      each = subst (λ (counting : Option Roster). AreTakenBy shape counting durable.standings picked.standings) (sym (uncounted none chosen))
          (subst (λ (counting : Option Roster). AreTakenBy shape counting [] picked.standings) (uncounted none chosen) chosen.each);
    }

-- ---- survival

-- what a closed cluster has survives
pub closed_survives : (shape : SiteShape) (durable : Durable) (views : SiteView) → IsStageOn shape (closed durable) views → SurvivesStops shape durable views
closed_survives shape durable views kept = ⊎_elim
    (λ none. unopened shape durable kept.0 views none.0 (subst (λ (d : Durable). IsSaved shape d kept.0 views) none.1 kept.1))
    (λ alike. saved_survives shape durable kept.0 views (subst (λ (d : Durable). IsSaved shape d kept.0 views) alike kept.1))
    (counted_cases durable)

-- so does what an open one has
pub opened_survives : (shape : SiteShape) (site : OpenSite) (views : SiteView) → site.known ≡ true → IsStageOn shape (opened site) views → SurvivesStops shape site.durable views
opened_survives shape site views known kept = saved_survives shape site.durable (two_of site.durable.rosters) views (kept known)

-- ---- restarts

-- what is picked is closed, and the disks keep it
picked_closes : (shape : SiteShape) (durable : Durable) (passing : List Roster) (old new : SiteView) (image : SiteImage) → IsSaved shape durable passing old → AreRestarted old new image → IsSeenOrNot shape durable passing image
    → (picked : Durable) × Picks shape durable picked × IsStageOn shape (closed picked) new
picked_closes shape durable passing old new image saved restarted decided =
    let picked = stop_is_stored shape durable passing old new image saved restarted decided in
    let counts = some_of (counting_roster picked.0.rosters) in
    (picked.0, picked.1, (counts, λ after taken. counted_keeps shape picked.0 counts after (picked.2 after taken)))

pub closes : (shape : SiteShape) (durable : Durable) (passing : List Roster) (old new : SiteView) (image : SiteImage) → IsSaved shape (only_counted durable) passing old → AreRestarted old new image → IsSeenOrNot shape (only_counted durable) passing image
    → (stage : RunStage) × IsRestartOf shape (closed durable) stage × IsStageOn shape stage new
closes shape durable passing old new image saved restarted decided =
    let picked = picked_closes shape (only_counted durable) passing old new image saved restarted decided in
    (closed picked.0, (picked.0, picks_counted shape durable picked.0 picked.1, refl), picked.2)

-- an open cluster is closed, or nothing is known any more
pub reopens : (shape : SiteShape) (site : OpenSite) (old new : SiteView) (image : SiteImage) → IsStageOn shape (opened site) old → AreRestarted old new image → (site.known ≡ true → IsSeenOrNot shape site.durable (two_of site.durable.rosters) image)
    → (stage : RunStage) × IsRestartOf shape (opened site) stage × IsStageOn shape stage new
reopens shape site old new image kept restarted decided = by site.known kept decided
  where
    by : (known : Bool) → (known ≡ true → IsSaved shape site.durable (two_of site.durable.rosters) old) → (known ≡ true → IsSeenOrNot shape site.durable (two_of site.durable.rosters) image)
        → (stage : RunStage) × IsClosedAs shape known site.durable stage × IsStageOn shape stage new
    by true saved seen =
        let picked = picked_closes shape site.durable (two_of site.durable.rosters) old new image (saved refl) restarted (seen refl) in
        (closed picked.0, (picked.0, picked.1, refl), picked.2)
    by false saved seen = (unknown, refl, tt)
