use Rattle.std.proofs.Common.{map}
use Rattle.cluster_model.specs.Site.{site_view}
use Rattle.command_plans.proofs.StageLemmas.{closes, reopens}
use Rattle.command_plans.proofs.stage_laws.a_restart_leads_to_a_stage.Goals as goal

pub returns-clause-closed : goal.returns-clause-closed
returns-clause-closed g c = λ shape durable passing image.
    closes shape durable passing
    (site_view g.D.Disk.view (map (λ disks. disks.items) c.args.lanes.now) c.args.services.now)
    (site_view g.D.Disk.view (map (λ disks. disks.items) c.args.lanes_after.now) c.args.services_after.now)
    image

pub returns-clause-opened : goal.returns-clause-opened
returns-clause-opened g c = λ shape site image.
    reopens shape site
    (site_view g.D.Disk.view (map (λ disks. disks.items) c.args.lanes.now) c.args.services.now)
    (site_view g.D.Disk.view (map (λ disks. disks.items) c.args.lanes_after.now) c.args.services_after.now)
    image
