-- Where a run stands: what is known of its disks, and whether a cluster is open.
use Rattle.std.specs.Prelude.{◌≡◌, ℕ, List, [], ◌∷◌, map, Option, None, Bool, true, false}
use Rattle.roster_form.specs.Membership.{Host}
use Rattle.roster_form.specs.Shown.{MayShow}
use Rattle.roster_form.specs.declared.roster.Roster.{Roster}
use Rattle.cluster_model.specs.Lane.{LaneStanding}
use Rattle.cluster_model.specs.Site.{SiteShape, FaultCounts}
use Rattle.cluster_model.specs.Agreement.{Durable}
use Rattle.cluster_model.specs.Memory.{PartState}
use Rattle.cluster_model.specs.Restart.{Picks}
use Rattle.command_plans.specs.Found.{FoundSite}

-- what only memory has of an open cluster: the state of each partition, and how many calls each one's trail has
pub record OpenMemory : Type 0 where
  pub parts : List PartState
  pub trails : List ℕ

-- a partition that was just opened was told the version of its store
abbrev pub opened_part : LaneStanding → PartState
opened_part standing = record { told = standing.store.id.version; move = None; waits = None; mark = None }

-- what memory has of a cluster that was just opened
abbrev pub opened_memory : List LaneStanding → OpenMemory
opened_memory standings = record { parts = map opened_part standings; trails = map (λ standing. 0) standings }

-- An open cluster: what its disks keep, what memory has, and whether the disks are known to keep that and nothing else. They are
-- not where they don't tell what they hold, or where a host that wasn't present may show something else.
pub record OpenSite : Type 0 where
  pub durable : Durable
  pub memory : OpenMemory
  pub known : Bool

-- Whether a cluster is open, and what is known of the disks.
pub data RunStage : Type 0 where
  -- none is open; anything may be found
  unknown : RunStage
  -- none is open; this was found as the run began
  found_as : FoundSite → RunStage
  -- none is open; the disks keep this, perhaps without a roster: so it is after a creation that was broken off
  closed : Durable → RunStage
  opened : OpenSite → RunStage

-- a stage, and how often each disk has failed
pub record RunState : Type 0 where
  pub stage : RunStage
  pub faults : FaultCounts

-- where a run goes on: as it is, or after a restart of all disks
pub data Goes : Type 0 where
  goes_on : RunStage → Goes
  restarts : RunStage → Goes

-- ---- a restart

-- each host shows one of the things that it might show, and all else is as it was found
pub record IsFoundAgainAs (old new : FoundSite) : Type 0 where
  pub shown : (host : Host) → (one : Option Roster) × (new.sights host ≡ one ∷ []) × MayShow old.sights host one
  pub damages : new.damages ≡ old.damages
  pub files : new.files ≡ old.files

-- what is known of the disks of a cluster that was closed: one of the choices that they left, or nothing
abbrev pub IsClosedAs : SiteShape → Bool → Durable → RunStage → Type 0
IsClosedAs shape true durable new = (picked : Durable) × Picks shape durable picked × (new ≡ closed picked)
IsClosedAs shape false durable new = new ≡ unknown

-- all disks are restarted: what was open is closed, and each disk takes one of its images
abbrev pub IsRestartOf : SiteShape → RunStage → RunStage → Type 0
IsRestartOf shape unknown new = new ≡ unknown
IsRestartOf shape (found_as found) new = (again : FoundSite) × IsFoundAgainAs found again × (new ≡ found_as again)
IsRestartOf shape (closed durable) new = IsClosedAs shape true durable new
IsRestartOf shape (opened site) new = IsClosedAs shape site.known site.durable new

-- the run goes on so
abbrev pub GoesTo : SiteShape → Goes → RunStage → Type 0
GoesTo shape (goes_on stage) new = new ≡ stage
GoesTo shape (restarts stage) new = IsRestartOf shape stage new
