-- How a run ends, and why.
use Rattle.std.specs.Prelude.{◌≡◌, ℕ, List, Option}
use Rattle.script_loop.specs.Ends.{ReportsFault}
use Rattle.script_loop.specs.declared.status.Status.{Status}
use Rattle.script_loop.specs.declared.status.Status.TheVariants.{Done, WordFault, ScriptFault, ReadFault, WriteFault, NoMemory}
use Rattle.cluster_cli.specs.declared.site.Site.{Site}
use Rattle.plan_words.specs.Words.{HasNoPlan}
use Rattle.report_lines.specs.declared.fault.Fault.TheVariants.{Words}

-- why a run may end so
abbrev pub StatusHasCause : Status → Type 0 → Type 0 → Type 0 → Type 0
StatusHasCause Done no_plan read write = Unit {0}
StatusHasCause WordFault no_plan read write = no_plan
StatusHasCause ScriptFault no_plan read write = Unit {0}
StatusHasCause ReadFault no_plan read write = read
StatusHasCause WriteFault no_plan read write = write
StatusHasCause NoMemory no_plan read write = Unit {0}

-- the arguments have a plan
abbrev pub HasPlan : List (List ℕ) → Type 0
HasPlan words = HasNoPlan words → ⊥

-- How a run ends whose arguments have no plan: with status 1 the line that says so was written whole, and else a part of it,
-- since the sink failed or memory ran out. Nothing is read of the source, and nothing of the site is touched.
pub record IsRefused {D V : Type 0} (status : Status) (left rest old new : Option (List ℕ)) (site after : Site D V) : Type 0 where
  pub written : ReportsFault Words old status new
  pub unread : rest ≡ left
  pub untouched : after ≡ site
