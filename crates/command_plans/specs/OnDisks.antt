-- What the disks of a site keep at a stage of a run.
use Rattle.std.specs.Prelude.{⊤, ◌≡◌, List, [], ◌∷◌, true}
use Rattle.roster_form.specs.declared.roster.Roster.{Roster}
use Rattle.roster_form.specs.Succession.{listed}
use Rattle.cluster_model.specs.Site.{SiteShape, SiteImage, SiteView, IsTaken}
use Rattle.cluster_model.specs.Agreement.{Durable, two_of, IsSaved}
use Rattle.command_plans.specs.Found.{IsFoundSite}
use Rattle.command_plans.specs.Stage.{RunStage, unknown, found_as, closed, opened}

-- with no roster yet no partition counts: of a creation that didn't come so far the stores may be built or not
abbrev pub only_counted : Durable → Durable
only_counted durable = counted_by (listed durable.rosters) durable
  where
    counted_by : List Roster → Durable → Durable
    counted_by [] durable = record { rosters = durable.rosters; sights = durable.sights; standings = [] }
    counted_by (first ∷ others) durable = durable

-- Whatever a stop now leaves of the disks, it is as the stage says. A run may begin at any stage that its disks keep.
-- 1. Where nothing is known they keep anything.
-- 2. Of what was found each file is what it was found to be.
-- 3. Of a closed cluster they keep what the stage has, where some rosters may pass and no others.
-- 4. Of an open one they do, where the last finished roster may pass and the one being written; unless more may stand on them.
abbrev pub IsStageOn : SiteShape → RunStage → SiteView → Type 0
IsStageOn shape unknown views = ⊤
IsStageOn shape (found_as found) views = (image : SiteImage) → IsTaken views image → IsFoundSite shape found image
IsStageOn shape (closed durable) views = (passing : List Roster) × IsSaved shape (only_counted durable) passing views
IsStageOn shape (opened site) views = site.known ≡ true → IsSaved shape site.durable (two_of site.durable.rosters) views
