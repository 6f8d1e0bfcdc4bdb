-- A restart: each disk takes one of the images that a stop may have left, and what the disks then keep is one of the choices.
use Rattle.std.specs.Prelude.{⊤, ◌≡◌, ◌⊎◌, ℕ, List, [], ◌∷◌, slice_get, Option, Some, None, Contains}
use Rattle.roster_form.specs.Membership.{Host}
use Rattle.roster_form.specs.declared.roster.Roster.{Roster}
use Rattle.roster_form.specs.Shown.{Sights, MayShow, Shows}
use Rattle.roster_form.specs.Succession.{Rosters, last_finished}
use Rattle.cluster_model.specs.Lane.{LaneStanding, choices}
use Rattle.cluster_model.specs.Site.{SiteShape, numbers_of, DiskOf, service_disk, SiteImage, SiteView, IsTaken}
use Rattle.cluster_model.specs.Agreement.{Durable}

-- ---- which roster counts

abbrev pub later_roster : Option Roster → Option Roster → Option Roster
later_roster None last = last
later_roster (Some new) last = Some new

-- the roster that counts once each disk has one image: the one being written, if a host shows it, else the last finished one
abbrev pub counting_roster : Rosters → Option Roster
counting_roster rosters = later_roster rosters.writing (last_finished rosters)

-- some host of the site shows this roster
abbrev pub IsSeen : SiteShape → SiteImage → Roster → Type 0
IsSeen shape image roster = (number : ℕ) × (host : Host) × (slice_get shape.hosts number ≡ Some host) × Shows (image (service_disk number)) (Some roster)

-- Some host shows the roster that is being written, and then that one may pass; or none does, and then the last finished one may.
abbrev pub IsSeenOrNot : SiteShape → Durable → List Roster → SiteImage → Type 0
IsSeenOrNot shape durable passing image =
    (((roster : Roster) → durable.rosters.writing ≡ Some roster → IsSeen shape image roster × Contains passing roster)
    × (durable.rosters.writing ≡ None → (roster : Roster) → last_finished durable.rosters ≡ Some roster → Contains passing roster))
    ⊎ (((roster : Roster) → durable.rosters.writing ≡ Some roster → IsSeen shape image roster → ⊥)
    × ((roster : Roster) → last_finished durable.rosters ≡ Some roster → Contains passing roster))

-- ---- what is picked

-- each partition stands for one of its choices, on one of these hosts
abbrev pub AreTaken : List ℕ → List LaneStanding → List LaneStanding → Type 0
AreTaken hosts [] [] = ⊤
AreTaken hosts (old ∷ olds) (new ∷ news) = (Contains (choices old) new.store × Contains hosts new.store.host × (new.perhaps ≡ [])) × AreTaken hosts olds news
AreTaken hosts [] (new ∷ news) = ⊥
AreTaken hosts (old ∷ olds) [] = ⊥

-- with no roster there is no partition
abbrev pub AreTakenBy : SiteShape → Option Roster → List LaneStanding → List LaneStanding → Type 0
AreTakenBy shape None olds news = news ≡ []
AreTakenBy shape (Some roster) olds news = AreTaken (numbers_of shape.hosts roster.hosts) olds news

-- some host may show this
abbrev pub IsShownBySome : Sights → Option Roster → Type 0
IsShownBySome sights shown = (host : Host) × MayShow sights host shown

-- Each disk takes one of its images: each host shows one thing that it might show; a roster that was being written and
-- that no host shows is forgotten; each partition stands for one of its choices, on a host that counts.
pub record Picks (shape : SiteShape) (old new : Durable) : Type 0 where
  pub shown : (host : Host) → (one : Option Roster) × (new.sights host ≡ one ∷ []) × MayShow old.sights host one
  pub finished : new.rosters.finished ≡ old.rosters.finished
  pub writing : ((new.rosters.writing ≡ old.rosters.writing) × ((roster : Roster) → old.rosters.writing ≡ Some roster → IsShownBySome new.sights (Some roster)))
      ⊎ ((new.rosters.writing ≡ None) × ((roster : Roster) → old.rosters.writing ≡ Some roster → IsShownBySome new.sights (Some roster) → ⊥))
  pub each : AreTakenBy shape (counting_roster new.rosters) old.standings new.standings

-- nothing is in flight: each partition stands for one store, each host shows one thing, and no roster is being written
pub record IsAtRest (durable : Durable) : Type 0 where
  pub standings : (standing : LaneStanding) → Contains durable.standings standing → standing.perhaps ≡ []
  pub sights : (host : Host) → (one : Option Roster) × (durable.sights host ≡ one ∷ [])
  pub writing : durable.rosters.writing ≡ None
  pub made : (roster : Roster) × (last_finished durable.rosters ≡ Some roster)

-- ---- the disks

-- all were restarted: each has one image, which it might have left before
pub record AreRestarted (old new : SiteView) (image : SiteImage) : Type 0 where
  pub fewer : IsTaken old image
  pub one : (other : SiteImage) → IsTaken new other → (disk : DiskOf) → other disk ≡ image disk
