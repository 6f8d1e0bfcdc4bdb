use Rattle.std.proofs.Common.{map}
use Rattle.cluster_model.specs.Site.{site_view}
use Rattle.command_plans.proofs.StageLemmas.{closed_survives, opened_survives}
use Rattle.command_plans.proofs.stage_laws.every_stage_is_survived.Goals as goal

pub returns-clause-closed : goal.returns-clause-closed
returns-clause-closed g c = λ shape durable. closed_survives shape durable (site_view g.D.Disk.view (map (λ disks. disks.items) c.args.lanes.now) c.args.services.now)

pub returns-clause-opened : goal.returns-clause-opened
returns-clause-opened g c = λ shape site. opened_survives shape site (site_view g.D.Disk.view (map (λ disks. disks.items) c.args.lanes.now) c.args.services.now)
