-- The disks of a lane, one for each host, and what a stop may leave of all of them.
use Rattle.std.specs.Prelude.{◌≡◌, ◌≢◌, ℕ, ◌<◌, List, [], ◌∷◌, length, slice_get, Some}
use Rattle.disk_trait.specs.View.{Image, View}
use Rattle.disk_trait.specs.Calls.{Rose}
use Rattle.disk_trait.specs.Moments.{Throughout, Onward}

-- what every file of every host holds, by the host's number
abbrev pub LaneImage : Type 0
LaneImage = ℕ → Image

-- what a stop now may leave of the whole lane: of each disk one of its images
abbrev pub IsLaneImage : {D : Type 0} → (D → View) → List D → LaneImage → Type 0
IsLaneImage view disks ms = (h : ℕ) (disk : _) → slice_get disks h ≡ Some disk → (view disk).images (ms h)

-- the same of all hosts but one
abbrev pub IsElsewhere : {D : Type 0} → (D → View) → List D → ℕ → LaneImage → Type 0
IsElsewhere view disks host ms = (h : ℕ) (disk : _) → h ≢ host → slice_get disks h ≡ Some disk → (view disk).images (ms h)

-- an image of this host's disk which, beside whatever the other disks may hold, has P
abbrev pub Beside : {D : Type 0} → (D → View) → List D → ℕ → (LaneImage → Type 0) → Image → Type 0
Beside view disks host P m = (ms : LaneImage) → ms host ≡ m → IsElsewhere view disks host ms → P ms

-- the bytes of files 0 and 1 on these hosts, in their order
abbrev pub files_on : LaneImage → List ℕ → List (List ℕ)
files_on ms [] = []
files_on ms (host ∷ hosts) = ms host 0 ∷ ms host 1 ∷ files_on ms hosts

-- this host's disk as it was, and as it is now, are in this relation
abbrev pub OnHost : {D : Type 0} → ℕ → List D → List D → (D → D → Type 0) → Type 0
OnHost host old new R = (before now : _) → slice_get old host ≡ Some before → slice_get new host ≡ Some now → R before now

-- An event writes one disk of a lane. From the disks before it to those after it this host's disk alone has changed. At every
-- moment of it, in every image that a stop may then leave of the whole lane, P holds. The disk's count of faults hasn't fallen,
-- and it goes on telling.
pub record LaneEvent {D : Type 0} (view : D → View) (host : ℕ) (old new : List D) (P : LaneImage → Type 0) : Type 0 where
  pub there : host < length old
  pub as_many : length new ≡ length old
  pub others : (h : ℕ) → h ≢ host → slice_get new h ≡ slice_get old h
  pub moments : OnHost host old new (λ before now. Throughout (view before) (view now) (Beside view old host P))
  pub onward : OnHost host old new (λ before now. Onward (view before) (view now))

-- this host's disk has failed between the one lane and the other: the cause of a fault
pub record HasFailedOn {D : Type 0} (view : D → View) (host : ℕ) (old new : List D) : Type 0 where
  pub before : D
  pub now : D
  pub was : slice_get old host ≡ Some before
  pub is : slice_get new host ≡ Some now
  pub rose : Rose (view before).faults (view now).faults
