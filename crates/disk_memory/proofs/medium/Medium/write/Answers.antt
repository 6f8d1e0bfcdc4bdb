use Rattle.std.proofs.Common.{◌≡◌, ◌∙◌, ap, subst, sym, ℕ, List, [], ◌∷◌, ◌++◌, rules}
use Rattle.disk_memory.specs.DiskCall.{DiskCall, WriteCall}
use Rattle.disk_memory.specs.Logged.{logged}
use Rattle.disk_memory.specs.Mirrored.{AllMirror}
use Rattle.disk_memory.proofs.MemoryViewLemmas.{seen_is_image}
use Rattle.disk_memory.proofs.medium.Medium.write.Goals as goal

pub invariant_of-self-in-Break-branch-3 : goal.invariant_of-self-in-Break-branch-3
invariant_of-self-in-Break-branch-3 c =
    let self = c.args.self.now in
    let old = logged self.log in
    record {
      eleven = c.write_one.ensures.count ∙ self.eleven;
      mirrors = subst (λ (l : List DiskCall). AllMirror self.pick l c.write_one.new.files.items) (sym c.make_room.ensures.unchanged) (c.in_err-write_one.ensures.err old self.mirrors);
      seen_is_image = seen_is_image self.pick (logged c.make_room.new.self);
    }

pub invariant_of-self-2 : goal.invariant_of-self-2
invariant_of-self-2 c =
    let self = c.args.self.now in
    let old = logged self.log in
    let same : c.in_ok-kept.kept.items ≡ c.args.bytes.now = search rules in
    let is : logged c.add.new.self ≡ old ++ WriteCall c.args.file c.args.at c.args.bytes.now ∷ [] =
    c.add.ensures ∙ ap (λ (l : List DiskCall). l ++ WriteCall c.args.file c.args.at c.in_ok-kept.kept.items ∷ []) c.make_room.ensures.unchanged ∙ ap (λ (l : List ℕ). old ++ WriteCall c.args.file c.args.at l ∷ []) same in
    record {
      eleven = c.write_one.ensures.count ∙ self.eleven;
      mirrors = c.in_ok-write_one.ensures.ok old (logged c.add.new.self) is c.requires.offset self.mirrors;
      seen_is_image = seen_is_image self.pick (logged c.add.new.self);
    }
