use Rattle.std.proofs.Common.{◌∙◌}
use Rattle.disk_memory.specs.Logged.{logged}
use Rattle.disk_memory.proofs.LoggedLemmas.{log_restarts}
use Rattle.disk_memory.proofs.MirroredLemmas.{restart_all_after}
use Rattle.disk_memory.proofs.MemoryViewLemmas.{seen_is_image}
use Rattle.disk_memory.proofs.medium.Medium.restart.Goals as goal

pub invariant_of-self : goal.invariant_of-self
invariant_of-self c =
    let self = c.args.self.now in
    record {
      eleven = c.restart_all.ensures.count ∙ self.eleven;
      mirrors = restart_all_after self.pick self.log c.restart.new.self self.files.items c.restart_all.new.files.items c.restart.ensures.calls c.restart.ensures.restarted self.mirrors
          c.restart_all.ensures.count c.restart_all.ensures.each;
      seen_is_image = seen_is_image self.pick (logged c.restart.new.self);
    }

pub returns-clause-restarts : goal.returns-clause-restarts
returns-clause-restarts c = log_restarts c.args.self.now.log c.restart.new.self c.restart.ensures.calls c.restart.ensures.restarted
