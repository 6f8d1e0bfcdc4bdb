use Rattle.std.proofs.Common.{cond, ap, ◌∙◌, sym}
use Rattle.std.specs.Map.{keys_of}
use Rattle.partition_map.specs.Order.{with_name}
use Rattle.partition_map.proofs.MarkLemmas.{with_name-marked}
use Rattle.partition_map.proofs.names.mark_name.Goals as goal

pub returns-then-is_present-clause-keys : goal.returns-then-is_present-clause-keys
returns-then-is_present-clause-keys c =
    let marks = c.args.names.now.entries in
    sym (with_name-marked c.args.name marks (c.requires.marked ∙ c.if-not-was_present.false))
    ∙ sym (ap (λ b. cond b (with_name (keys_of marks) c.args.name) (keys_of marks)) c.if-is_present.true)
