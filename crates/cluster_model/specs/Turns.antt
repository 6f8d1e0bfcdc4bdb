-- To which hosts a change of the roster is written, and in which order.
use Rattle.std.specs.Prelude.{⊤, ◌⊎◌, ◌==◌, List, [], ◌∷◌, ◌++◌, map, Option, Some, None, Bool, not, ◌||◌, true, false, Contains}
use Rattle.std.specs.List.{filter}
use Rattle.roster_form.specs.Membership.{Host}
use Rattle.roster_form.specs.declared.roster.Roster.{Roster}
use Rattle.roster_form.specs.Shown.{Sights}
use Rattle.cluster_model.specs.Acts.{SiteHost, Act, writes, begins, finishes}

-- Each of these hosts is one of the new roster or of the last one; those of the last one come before any other, or came before.
abbrev pub AreInTurn : Roster → Roster → List Host → List SiteHost → Type 0
AreInTurn last new before [] = ⊤
AreInTurn last new before (host ∷ hosts) =
    (Contains new.hosts host.name ⊎ Contains last.hosts host.name) × (Contains last.hosts host.name ⊎ ((other : Host) → Contains last.hosts other → Contains before other)) × AreInTurn last new (host.name ∷ before) hosts

-- each host of the roster is one of these
abbrev pub ReachesAll : Roster → List SiteHost → Type 0
ReachesAll roster hosts = (host : Host) → Contains roster.hosts host → Contains (map (λ each. each.name) hosts) host

-- a change, written to these hosts
abbrev pub change_acts : Roster → List SiteHost → List Act
change_acts new hosts = begins new ∷ map writes hosts ++ finishes ∷ []

-- the host may show something else than this roster
abbrev pub lacks : Roster → List (Option Roster) → Bool
lacks new [] = false
lacks new (None ∷ shown) = true
lacks new (Some roster ∷ shown) = not (roster.epoch == new.epoch) || lacks new shown

-- a change that was begun goes on: the roster goes to those that may lack it
abbrev pub rest_acts : Roster → List SiteHost → Sights → List Act
rest_acts new hosts sights = map writes (filter (λ host. lacks new (sights host.name)) hosts) ++ finishes ∷ []
