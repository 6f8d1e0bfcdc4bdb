use Rattle.std.proofs.Common.{refl}
use Rattle.cluster_commands.specs.declared.cluster.Opened.{Opened}
use Rattle.cluster_commands.proofs.AskLemmas.{IsAsked, replied_if, refused_if, broken_if, served_if, asked_serving, asked_onward}
use Rattle.cluster_commands.proofs.EventLemmas.{has_pairs}
use Rattle.cluster_commands.proofs.events.ask_cell.Goals as goal

pub call-asked-requires-clause-pairs : goal.call-asked-requires-clause-pairs
call-asked-requires-clause-pairs g c mutation is = has_pairs c.args.request mutation c.requires.part is

pub returns-clause-replied : goal.returns-clause-replied
returns-clause-replied g c =
    let view = g.D.Disk.view in
    let o = c.args.cluster.now in
    let e = c.call-asked.ensures in
    let n : Opened g.row.D.Denot = record o { kept = c.call-asked.new.self; calls = c.saturating_add-number.result } in
    let said : IsAsked view o n c.saturating_add-number.result c.args.request c.call-asked.result = record { receipt = e.receipt; entered = e.entered; base = e.base; place = e.place; refused = e.refused; read = e.read; event = e.event; durable = e.durable; grown = e.grown; left = e.left; failed = e.failed; early = e.early; causes = e.causes; fault = e.fault } in
    replied_if view o n c.saturating_add-number.result c.args.request c.requires.serving refl c.follows_its_trail.ensures.contents c.call-asked.result said c.follows_its_trail-2.ensures.contents

pub returns-clause-refused : goal.returns-clause-refused
returns-clause-refused g c =
    let view = g.D.Disk.view in
    let o = c.args.cluster.now in
    let e = c.call-asked.ensures in
    let n : Opened g.row.D.Denot = record o { kept = c.call-asked.new.self; calls = c.saturating_add-number.result } in
    let said : IsAsked view o n c.saturating_add-number.result c.args.request c.call-asked.result = record { receipt = e.receipt; entered = e.entered; base = e.base; place = e.place; refused = e.refused; read = e.read; event = e.event; durable = e.durable; grown = e.grown; left = e.left; failed = e.failed; early = e.early; causes = e.causes; fault = e.fault } in
    refused_if view o n c.saturating_add-number.result c.args.request c.requires.serving refl c.follows_its_trail.ensures.contents c.follows_its_trail-2.ensures.sound.0 c.follows_its_trail-2.ensures.sound.1 c.call-asked.result said

pub returns-clause-broken : goal.returns-clause-broken
returns-clause-broken g c =
    let view = g.D.Disk.view in
    let o = c.args.cluster.now in
    let e = c.call-asked.ensures in
    let n : Opened g.row.D.Denot = record o { kept = c.call-asked.new.self; calls = c.saturating_add-number.result } in
    let said : IsAsked view o n c.saturating_add-number.result c.args.request c.call-asked.result = record { receipt = e.receipt; entered = e.entered; base = e.base; place = e.place; refused = e.refused; read = e.read; event = e.event; durable = e.durable; grown = e.grown; left = e.left; failed = e.failed; early = e.early; causes = e.causes; fault = e.fault } in
    broken_if view o n c.saturating_add-number.result c.args.request c.requires.serving refl c.follows_its_trail.ensures.contents c.follows_its_trail-2.ensures.sound.0 c.follows_its_trail-2.ensures.sound.1 c.call-asked.result said

pub returns-clause-served : goal.returns-clause-served
returns-clause-served g c =
    let view = g.D.Disk.view in
    let o = c.args.cluster.now in
    let e = c.call-asked.ensures in
    let n : Opened g.row.D.Denot = record o { kept = c.call-asked.new.self; calls = c.saturating_add-number.result } in
    let said : IsAsked view o n c.saturating_add-number.result c.args.request c.call-asked.result = record { receipt = e.receipt; entered = e.entered; base = e.base; place = e.place; refused = e.refused; read = e.read; event = e.event; durable = e.durable; grown = e.grown; left = e.left; failed = e.failed; early = e.early; causes = e.causes; fault = e.fault } in
    served_if view o n c.saturating_add-number.result c.args.request c.requires.serving c.call-asked.result said

pub returns-clause-serving : goal.returns-clause-serving
returns-clause-serving g c =
    let view = g.D.Disk.view in
    let o = c.args.cluster.now in
    let e = c.call-asked.ensures in
    let n : Opened g.row.D.Denot = record o { kept = c.call-asked.new.self; calls = c.saturating_add-number.result } in
    let said : IsAsked view o n c.saturating_add-number.result c.args.request c.call-asked.result = record { receipt = e.receipt; entered = e.entered; base = e.base; place = e.place; refused = e.refused; read = e.read; event = e.event; durable = e.durable; grown = e.grown; left = e.left; failed = e.failed; early = e.early; causes = e.causes; fault = e.fault } in
    asked_serving view o n c.saturating_add-number.result c.args.request c.requires.serving c.call-asked.result said

pub returns-clause-onward : goal.returns-clause-onward
returns-clause-onward g c =
    let view = g.D.Disk.view in
    let o = c.args.cluster.now in
    let e = c.call-asked.ensures in
    let n : Opened g.row.D.Denot = record o { kept = c.call-asked.new.self; calls = c.saturating_add-number.result } in
    let said : IsAsked view o n c.saturating_add-number.result c.args.request c.call-asked.result = record { receipt = e.receipt; entered = e.entered; base = e.base; place = e.place; refused = e.refused; read = e.read; event = e.event; durable = e.durable; grown = e.grown; left = e.left; failed = e.failed; early = e.early; causes = e.causes; fault = e.fault } in
    asked_onward view o n c.saturating_add-number.result c.args.request c.requires.serving c.call-asked.result said
