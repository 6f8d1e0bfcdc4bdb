use Rattle.std.proofs.Common.{map}
use Rattle.cluster_model.specs.Site.{site_view}
use Rattle.cluster_model.proofs.RestartLemmas.{stop_is_stored}
use Rattle.cluster_model.proofs.restart_laws.a_stop_is_stored.Goals as goal

pub returns : goal.returns
returns g c = λ shape durable passing image saved restarted decided.
    stop_is_stored shape durable passing
    (site_view g.D.Disk.view (map (λ disks. disks.items) c.args.lanes.now) c.args.services.now)
    (site_view g.D.Disk.view (map (λ disks. disks.items) c.args.lanes_after.now) c.args.services_after.now)
    image saved restarted decided
