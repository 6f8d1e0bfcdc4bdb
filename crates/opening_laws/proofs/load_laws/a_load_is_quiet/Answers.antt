use Rattle.std.proofs.Common.{map}
use Rattle.opening_laws.proofs.LoadActsLemmas.{load_follows}
use Rattle.opening_laws.proofs.load_laws.a_load_is_quiet.Goals as goal

pub returns : goal.returns
returns g c = λ shape hosts durable image has told pending keep loadable moment.
    load_follows g.D.Disk.view shape hosts durable (map (λ disks. disks.items) c.args.old.now) (map (λ disks. disks.items) c.args.new.now) c.args.services.now image has told pending keep loadable moment
