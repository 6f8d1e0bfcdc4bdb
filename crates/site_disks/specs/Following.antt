-- How the images of a site follow acts.
use Rattle.std.specs.Prelude.{◌≡◌, List, [], ◌∷◌}
use Rattle.cluster_model.specs.Site.{SiteShape, SiteImage, SiteView, IsTaken}
use Rattle.cluster_model.specs.Agreement.{Durable}
use Rattle.cluster_model.specs.Acts.{Act, done}
use Rattle.cluster_model.specs.Carried.{IsDoneOver, IsCarriedOver}

-- from the one image to the other all of these acts are done, one after the other
abbrev pub AreDoneOver : SiteShape → List Act → Durable → SiteImage → SiteImage → Type 0
AreDoneOver shape [] durable old new = new ≡ old
AreDoneOver shape (act ∷ acts) durable old new = (mid : SiteImage) × IsDoneOver shape act durable old mid × AreDoneOver shape acts (done act durable) mid new

-- of some image of these disks all acts are done
pub record IsDoneFrom (shape : SiteShape) (acts : List Act) (durable : Durable) (views : SiteView) (image : SiteImage) : Type 0 where
  pub from : SiteImage
  pub taken : IsTaken views from
  pub done : AreDoneOver shape acts durable from image

-- of some image of these disks some of the acts are done, and perhaps one more is tried; the disks then keep this
pub record IsCarriedFrom (shape : SiteShape) (acts : List Act) (durable kept : Durable) (views : SiteView) (image : SiteImage) : Type 0 where
  pub from : SiteImage
  pub taken : IsTaken views from
  pub carried : IsCarriedOver shape acts durable kept from image
