use Rattle.std.proofs.Common.{refl}
use Rattle.cluster_commands.specs.declared.cluster.Opened.{Opened}
use Rattle.cluster_commands.proofs.RenewLemmas.{IsRenewing, renewing_done_if, renewing_refused_if, renewing_broken_if, renewing_served_if, renewing_serving, renewing_onward}
use Rattle.cluster_commands.proofs.events.renew_cell.Goals as goal

pub returns-clause-renewed : goal.returns-clause-renewed
returns-clause-renewed g c partition there =
    let view = g.D.Disk.view in
    let o = c.args.cluster.now in
    let e = c.renew-renewed.ensures in
    let n : Opened g.row.D.Denot = record o { kept = c.renew-renewed.new.self } in
    let said : IsRenewing view o n c.renew-renewed.result = record { renewed = e.renewed; anew = e.anew; refused = e.refused; trail = e.trail; kept = e.kept; event = e.event; busy = e.busy; version_end = e.version_end; untouched = e.untouched; fault = e.fault } in
    renewing_done_if view o n c.requires.serving partition there refl c.renew-renewed.result said

pub returns-clause-refused : goal.returns-clause-refused
returns-clause-refused g c partition there =
    let view = g.D.Disk.view in
    let o = c.args.cluster.now in
    let e = c.renew-renewed.ensures in
    let n : Opened g.row.D.Denot = record o { kept = c.renew-renewed.new.self } in
    let said : IsRenewing view o n c.renew-renewed.result = record { renewed = e.renewed; anew = e.anew; refused = e.refused; trail = e.trail; kept = e.kept; event = e.event; busy = e.busy; version_end = e.version_end; untouched = e.untouched; fault = e.fault } in
    renewing_refused_if view o n c.requires.serving partition there refl c.follows_its_trail.ensures.sound.0 c.follows_its_trail.ensures.sound.1 c.renew-renewed.result said

pub returns-clause-broken : goal.returns-clause-broken
returns-clause-broken g c partition there =
    let view = g.D.Disk.view in
    let o = c.args.cluster.now in
    let e = c.renew-renewed.ensures in
    let n : Opened g.row.D.Denot = record o { kept = c.renew-renewed.new.self } in
    let said : IsRenewing view o n c.renew-renewed.result = record { renewed = e.renewed; anew = e.anew; refused = e.refused; trail = e.trail; kept = e.kept; event = e.event; busy = e.busy; version_end = e.version_end; untouched = e.untouched; fault = e.fault } in
    renewing_broken_if view o n c.requires.serving partition there refl c.follows_its_trail.ensures.sound.0 c.follows_its_trail.ensures.sound.1 c.renew-renewed.result said

pub returns-clause-served : goal.returns-clause-served
returns-clause-served g c =
    let view = g.D.Disk.view in
    let o = c.args.cluster.now in
    let e = c.renew-renewed.ensures in
    let n : Opened g.row.D.Denot = record o { kept = c.renew-renewed.new.self } in
    let said : IsRenewing view o n c.renew-renewed.result = record { renewed = e.renewed; anew = e.anew; refused = e.refused; trail = e.trail; kept = e.kept; event = e.event; busy = e.busy; version_end = e.version_end; untouched = e.untouched; fault = e.fault } in
    renewing_served_if view o n c.requires.serving c.renew-renewed.result said

pub returns-clause-serving : goal.returns-clause-serving
returns-clause-serving g c =
    let view = g.D.Disk.view in
    let o = c.args.cluster.now in
    let e = c.renew-renewed.ensures in
    let n : Opened g.row.D.Denot = record o { kept = c.renew-renewed.new.self } in
    let said : IsRenewing view o n c.renew-renewed.result = record { renewed = e.renewed; anew = e.anew; refused = e.refused; trail = e.trail; kept = e.kept; event = e.event; busy = e.busy; version_end = e.version_end; untouched = e.untouched; fault = e.fault } in
    renewing_serving view o n c.requires.serving c.renew-renewed.result said

pub returns-clause-onward : goal.returns-clause-onward
returns-clause-onward g c =
    let view = g.D.Disk.view in
    let o = c.args.cluster.now in
    let e = c.renew-renewed.ensures in
    let n : Opened g.row.D.Denot = record o { kept = c.renew-renewed.new.self } in
    let said : IsRenewing view o n c.renew-renewed.result = record { renewed = e.renewed; anew = e.anew; refused = e.refused; trail = e.trail; kept = e.kept; event = e.event; busy = e.busy; version_end = e.version_end; untouched = e.untouched; fault = e.fault } in
    renewing_onward view o n c.requires.serving c.renew-renewed.result said
