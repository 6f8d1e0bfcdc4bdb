use Rattle.cluster_commands.proofs.FilesLemmas.{settled_first}
use Rattle.cluster_commands.proofs.partition.make_partition.Goals as goal

pub create-requires-clause-settled : goal.create-requires-clause-settled
create-requires-clause-settled g c disk at f le = settled_first g.D.Disk.view c.args.disks.items c.requires.settled f disk le at
