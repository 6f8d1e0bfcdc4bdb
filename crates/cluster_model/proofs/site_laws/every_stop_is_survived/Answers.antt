use Rattle.std.proofs.Common.{map}
use Rattle.cluster_model.specs.Site.{site_view}
use Rattle.cluster_model.proofs.AgreementLemmas.{saved_survives}
use Rattle.cluster_model.proofs.site_laws.every_stop_is_survived.Goals as goal

pub returns : goal.returns
returns g c = λ shape durable passing saved. saved_survives shape durable passing (site_view g.D.Disk.view (map (λ disks. disks.items) c.args.lanes.now) c.args.services.now) saved
