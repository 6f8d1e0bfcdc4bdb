use Rattle.std.proofs.Common.{◌≡◌, ◌∙◌, ap, subst, sym, List, [], ◌∷◌, ◌++◌}
use Rattle.disk_memory.specs.DiskCall.{DiskCall, SyncCall}
use Rattle.disk_memory.specs.Logged.{logged}
use Rattle.disk_memory.specs.Mirrored.{AllMirror}
use Rattle.disk_memory.proofs.MemoryViewLemmas.{seen_is_image}
use Rattle.disk_memory.proofs.medium.Medium.sync.Goals as goal

pub invariant_of-self-in-Break-branch-2 : goal.invariant_of-self-in-Break-branch-2
invariant_of-self-in-Break-branch-2 c =
    let self = c.args.self.now in
    let old = logged self.log in
    record {
      eleven = c.sync_one.ensures.count ∙ self.eleven;
      mirrors = subst (λ (l : List DiskCall). AllMirror self.pick l c.sync_one.new.files.items) (sym c.make_room.ensures.unchanged) (c.in_err-sync_one.ensures.err self.pick old self.mirrors);
      seen_is_image = seen_is_image self.pick (logged c.make_room.new.self);
    }

pub invariant_of-self-2 : goal.invariant_of-self-2
invariant_of-self-2 c =
    let self = c.args.self.now in
    let old = logged self.log in
    let is : logged c.add.new.self ≡ old ++ SyncCall c.args.file ∷ [] = c.add.ensures ∙ ap (λ (l : List DiskCall). l ++ SyncCall c.args.file ∷ []) c.make_room.ensures.unchanged in
    record {
      eleven = c.sync_one.ensures.count ∙ self.eleven;
      mirrors = c.in_ok-sync_one.ensures.ok self.pick old (logged c.add.new.self) is self.mirrors;
      seen_is_image = seen_is_image self.pick (logged c.add.new.self);
    }
