use Rattle.std.proofs.Common.{◌≡◌, ◌∙◌, sym, ap, arith, ◌-◌, drop, take, length, length-drop}
use Rattle.std.proofs.lemmas.List.{take_all}
use Rattle.roster_form.specs.RosterFault.{joining_in}
use Rattle.roster_form.proofs.RosterTextLemmas.{found, read_is_text}
use Rattle.roster_form.proofs.decode.read_roster.Goals as goal

pub read_names-requires : goal.read_names-requires
read_names-requires c =
    let is = found c.args.partitions c.args.text.now c.type_inv.text c.ranges.partitions.fits c.requires in
    let whole : take (length c.args.text.now - 41) (drop 41 c.args.text.now) ≡ drop 41 c.args.text.now = take_all (length c.args.text.now - 41) (drop 41 c.args.text.now) (let long = length-drop 41 c.args.text.now in omega (arith, long)) in
    (is.names.hosts, is.names.size ∙ sym c.u8_at.ensures, is.names.names, whole ∙ is.names.spelled)

pub returns-clause-text : goal.returns-clause-text
returns-clause-text c =
    let is = found c.args.partitions c.args.text.now c.type_inv.text c.ranges.partitions.fits c.requires in
    let whole : take (length c.args.text.now - 41) (drop 41 c.args.text.now) ≡ drop 41 c.args.text.now = take_all (length c.args.text.now - 41) (drop 41 c.args.text.now) (let long = length-drop 41 c.args.text.now in omega (arith, long)) in
    read_is_text c.args.partitions c.args.text.now c.in_ok-hosts.hosts c.u64_at.result c.joining_in.result is c.in_ok-hosts.ensures.limits (sym whole ∙ c.in_ok-hosts.ensures.text.0) c.u64_at.ensures (c.joining_in.ensures ∙ ap joining_in c.u8_at-2.ensures)
