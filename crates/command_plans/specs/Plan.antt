-- A plan: what is going to be done, in which order, and what is answered; and refusals in their order.
use Rattle.std.specs.Prelude.{ℕ, zero, suc, ◌+◌, List, [], ◌∷◌, slice_get, Option, Some, None, Bool, true, false, unwrap_or, if◌then◌else◌}
use Rattle.cache_model.specs.Caches.{same}
use Rattle.roster_form.specs.Membership.{Host}
use Rattle.cluster_model.specs.Site.{SiteShape, DiskOf, lane_disk, service_disk}
use Rattle.cluster_model.specs.SiteSteps.{changed_at}
use Rattle.cluster_model.specs.Agreement.{Durable}
use Rattle.cluster_model.specs.Memory.{MoveState, PartState, with_told}
use Rattle.cluster_model.specs.Acts.{SiteHost, Act}
use Rattle.command_plans.specs.Asked.{SiteRefusal, SiteAnswer, refused}
use Rattle.command_plans.specs.Stage.{OpenMemory, OpenSite, opened, Goes, goes_on}

-- What is going to be done: what the disks keep as it begins, the acts in their order, the answer where all are done, and
-- where the run goes on, by what the disks then keep: after all of them, and after one that failed or was broken off.
pub record Plan : Type 0 where
  pub durable : Durable
  pub acts : List Act
  pub answer : SiteAnswer
  pub done_goes : Durable → Goes
  pub failed_goes : Durable → Goes

-- nothing is done, the run goes on so, and this is answered
abbrev pub answers_with : Durable → Goes → SiteAnswer → Plan
answers_with durable goes answer = record { durable = durable; acts = []; answer = answer; done_goes = λ after. goes; failed_goes = λ after. goes }

-- ---- refusals

-- the first refusal of several
infixl 10 ◌or_first◌
abbrev pub ◌or_first◌ : Option SiteRefusal → Option SiteRefusal → Option SiteRefusal
None or_first other = other
(Some refusal) or_first other = Some refusal

-- refused where this is so
abbrev pub refuses_if : Bool → SiteRefusal → Option SiteRefusal
refuses_if true refusal = Some refusal
refuses_if false refusal = None

-- refused where there is one, by it
abbrev pub refuses_by : {T : Type 0} → Option T → (T → SiteRefusal) → Option SiteRefusal
refuses_by None refusal = None
refuses_by (Some one) refusal = Some (refusal one)

-- refused, or else the plan; a refusal calls no disk
abbrev pub refused_or : Option SiteRefusal → Goes → Plan → Plan
refused_or None goes plan = plan
refused_or (Some refusal) goes plan = answers_with plan.durable goes (refused refusal)

-- ---- hosts

-- the number of the named host; of a name that none has, one past the last
abbrev pub number_of : List Host → Host → ℕ
number_of [] name = 0
number_of (first ∷ hosts) name = if same first name then 0 else suc (number_of hosts name)

-- a host of the site, by its name
abbrev pub host_named : SiteShape → Host → SiteHost
host_named shape name = record { number = number_of shape.hosts name; name = name }

-- the name of the host with this number
abbrev pub name_of : SiteShape → ℕ → Host
name_of shape number = unwrap_or (slice_get shape.hosts number) []

-- the host that has the disk, by its number
abbrev pub host_of_disk : DiskOf → ℕ
host_of_disk (lane_disk partition host) = host
host_of_disk (service_disk host) = host

-- the first of a list
abbrev pub first_in : {T : Type 0} → List T → Option T
first_in [] = None
first_in (first ∷ others) = Some first

-- the numbers below this one, rising
abbrev pub numbers_up : ℕ → ℕ → List ℕ
numbers_up first zero = []
numbers_up first (suc more) = first ∷ numbers_up (suc first) more

abbrev pub numbers_below : ℕ → List ℕ
numbers_below count = numbers_up 0 count

-- ---- an open cluster goes on

-- with this in memory, where each partition was told the versions of the stores that may be found
abbrev pub open_with : OpenSite → OpenMemory → Durable → Goes
open_with site memory durable = goes_on (opened (record { durable = durable; memory = record { parts = with_told durable.standings memory.parts; trails = memory.trails }; known = site.known }))

-- with what it has in memory
abbrev pub open_as : OpenSite → Durable → Goes
open_as site durable = open_with site site.memory durable

-- the state of this partition is another
abbrev pub with_part : OpenMemory → ℕ → (PartState → PartState) → OpenMemory
with_part memory partition change = record { parts = changed_at memory.parts partition change; trails = memory.trails }

-- its trail has one call more
abbrev pub with_entered : OpenMemory → ℕ → OpenMemory
with_entered memory partition = record { parts = memory.parts; trails = changed_at memory.trails partition (λ count. count + 1) }

abbrev pub with_move : Option MoveState → PartState → PartState
with_move move part = record { told = part.told; move = move; waits = part.waits; mark = part.mark }

abbrev pub with_waits : Option ℕ → PartState → PartState
with_waits waits part = record { told = part.told; move = part.move; waits = waits; mark = part.mark }
