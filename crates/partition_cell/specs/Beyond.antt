-- The files that no cell writes: from 2 on.
use Rattle.std.specs.Prelude.{◌≡◌, ℕ, ◌≤◌, List}
use Rattle.disk_trait.specs.View.{Image, View}
use Rattle.disk_trait.specs.Moments.{After, Throughout}
use Rattle.disk_lane.specs.Lanes.{OnHost}

-- they hold what they held
abbrev pub SameBeyond : Image → Image → Type 0
SameBeyond old new = (f : ℕ) → 2 ≤ f → new f ≡ old f

-- At every moment between the one lane and the other, in every image of this host's disk, they hold what they held in an image of
-- it before.
abbrev pub OthersStay : {D : Type 0} → (D → View) → ℕ → List D → List D → Type 0
OthersStay view host old new = OnHost host old new (λ before now. Throughout (view before) (view now) (After (view before) SameBeyond))
