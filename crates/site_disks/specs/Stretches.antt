-- What holds at every moment while the disks of a site change.
use Rattle.std.specs.Prelude.{◌≤◌, List, [], ◌∷◌}
use Rattle.disk_trait.specs.View.{View}
use Rattle.disk_trait.specs.Moments.{Onward}
use Rattle.cluster_model.specs.Site.{DiskOf, SiteView, SiteImage}
use Rattle.site_disks.specs.SiteDisks.{SiteDisks, views_of}

-- each disk's part of this is what a stop at some moment from the one view to the other might have left of it
abbrev pub IsMoment : SiteView → SiteView → SiteImage → Type 0
IsMoment old new image = (disk : DiskOf) → (new disk).since (old disk).clock (image disk)

-- no disk was restarted, no count fell, each goes on telling, and time went on
pub record SiteGoesOn (old new : SiteView) : Type 0 where
  pub later : (disk : DiskOf) → (old disk).clock ≤ (new disk).clock
  pub onward : (disk : DiskOf) → Onward (old disk) (new disk)

-- A stretch of calls: P holds in whatever a stop may leave at any moment of it, even were the disks to stop at different moments.
pub record Stretch {D : Type 0} (view : D → View) (old new : SiteDisks D) (P : SiteImage → Type 0) : Type 0 where
  pub goes_on : SiteGoesOn (views_of view old) (views_of view new)
  pub moments : (image : SiteImage) → IsMoment (views_of view old) (views_of view new) image → P image

-- One stretch after the other, from these disks over those in the list to the last ones. In which order the stretches come shows in
-- what a call that failed leaves.
abbrev pub AreStretches : {D : Type 0} → (D → View) → SiteDisks D → List (SiteDisks D) → SiteDisks D → (SiteImage → Type 0) → Type 0
AreStretches view old [] new P = Stretch view old new P
AreStretches view old (mid ∷ more) new P = Stretch view old mid P × AreStretches view mid more new P

-- calls were made, one stretch after the other, and P holds throughout
pub record HoldsThrough {D : Type 0} (view : D → View) (old new : SiteDisks D) (P : SiteImage → Type 0) : Type 0 where
  pub between : List (SiteDisks D)
  pub each : AreStretches view old between new P
