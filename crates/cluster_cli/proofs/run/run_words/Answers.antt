use Rattle.std.proofs.Common.{◌≡◌, ◌≤◌, refl, List, ℕ, length, sym, ◌∙◌, subst, ap, Err, arith}
use Rattle.disk_trait.specs.View.{View}
use Rattle.disk_trait.specs.Moments.{Later}
use Rattle.fault_count.specs.Rose.{Rose}
use Rattle.report_lines.specs.declared.fault.Fault.TheVariants.{Words}
use Rattle.script_loop.specs.Ends.{EndsReport}
use Rattle.script_loop.specs.declared.status.Status.TheVariants.{NoMemory}
use Rattle.script_loop.proofs.EndsLemmas.{nothing_reported, ends_at_start, run_at_start}
use Rattle.cluster_commands.specs.OnDisk.{DiskIsIn, lane_view}
use Rattle.cluster_cli.specs.Sites.{FromStart, IsLeftBy, run_on}
use Rattle.cluster_commands.specs.State.{State, begun}
use Rattle.cluster_cli.proofs.SiteLemmas.{planned_lanes, site_disk, given_lane, lanes_given, unchanged_disk, left_at_start, not_started, for_disk}
use Rattle.cluster_cli.proofs.run.run_words.Goals as goal

pub take_disks-disks-requires : goal.take_disks-disks-requires
take_disks-disks-requires g c =
    let of = c.requires.site _ _ c.in-Ok.ensures.plan in
    let hosts = ap length (of.0 ∙ c.in-Ok.ensures.plan.hosts_are) in
    record { lanes = planned_lanes c.args.site.now.lanes.items _ _ (of.1 ∙ c.in-Ok.ensures.plan.partitions_are) (omega (arith, hosts, c.args.site.now.hosts.ok.0)) c.requires.lanes }

pub returns-clause-ends : goal.returns-clause-ends
returns-clause-ends g c = λ plan script left old new disks.
    let planned = c.run_plan-planned in
    let taken = c.take_disks-disks in
    let view = g.D.Disk.view in
    for_disk planned.result.finish.status c.args.site.now.hosts.items (view old) (view new) (lane_view view taken.result.items) (lane_view view planned.result.disks.items)
    (λ span. EndsReport span script (Rose (g.S.Source.faults c.args.source.now) (g.S.Source.faults planned.new.source)) (g.K.Sink.written c.args.sink.now) planned.result.finish.status (g.S.Source.left planned.new.source) (g.K.Sink.written planned.new.sink))
    (site_disk view c.args.site.now.lanes.items (record { disks = taken.result }) old taken.ensures.taken disks.old_is)
    (site_disk view c.push_reserved.new.self.items (record { disks = planned.result.disks }) new (given_lane taken.new.lanes.items c.push_reserved.new.self.items (record { disks = planned.result.disks }) c.push_reserved.ensures.items taken.ensures.none) disks.new_is)
    (subst (λ (hosts : List (List ℕ)). FromStart planned.result.finish.status (lane_view view taken.result.items) (lane_view view planned.result.disks.items)
    (λ (first : State). EndsReport (run_on hosts first (lane_view view planned.result.disks.items)) script (Rose (g.S.Source.faults c.args.source.now) (g.S.Source.faults planned.new.source)) (g.K.Sink.written c.args.sink.now) planned.result.finish.status (g.S.Source.left planned.new.source) (g.K.Sink.written planned.new.sink)))
    c.deref.ensures.value (planned.ensures.ends script left))

pub returns-clause-kept : goal.returns-clause-kept
returns-clause-kept g c = λ plan old new disks.
    let planned = c.run_plan-planned in
    let taken = c.take_disks-disks in
    let view = g.D.Disk.view in
    for_disk planned.result.finish.status c.args.site.now.hosts.items (view old) (view new) (lane_view view taken.result.items) (lane_view view planned.result.disks.items) (IsLeftBy planned.result.finish.status)
    (site_disk view c.args.site.now.lanes.items (record { disks = taken.result }) old taken.ensures.taken disks.old_is)
    (site_disk view c.push_reserved.new.self.items (record { disks = planned.result.disks }) new (given_lane taken.new.lanes.items c.push_reserved.new.self.items (record { disks = planned.result.disks }) c.push_reserved.ensures.items taken.ensures.none) disks.new_is)
    (subst (λ (hosts : List (List ℕ)). FromStart planned.result.finish.status (lane_view view taken.result.items) (lane_view view planned.result.disks.items) (λ (first : State). IsLeftBy planned.result.finish.status (run_on hosts first (lane_view view planned.result.disks.items))))
    c.deref.ensures.value planned.ensures.kept)

pub returns-clause-given_back : goal.returns-clause-given_back
returns-clause-given_back g c =
    let planned = c.run_plan-planned in
    let taken = c.take_disks-disks in
    let view = g.D.Disk.view in
    let of = c.requires.site _ _ c.in-Ok.ensures.plan in
    let hosts = ap length (of.0 ∙ c.in-Ok.ensures.plan.hosts_are) in
    let given = given_lane taken.new.lanes.items c.push_reserved.new.self.items (record { disks = planned.result.disks }) c.push_reserved.ensures.items taken.ensures.none in
    record {
      same = refl;
      lanes = lanes_given c.push_reserved.new.self.items _ _ (record { disks = planned.result.disks }) (of.1 ∙ c.in-Ok.ensures.plan.partitions_are) (omega (arith, hosts, c.args.site.now.hosts.ok.0)) given
          (let one = planned.ensures.one in omega (arith, one, planned.result.disks.ok.0));
      later = λ old new disks.
          subst (λ (w : View). Later (view old) w) (site_disk view c.push_reserved.new.self.items (record { disks = planned.result.disks }) new given disks.new_is)
          (subst (λ (v : View). Later v (lane_view view planned.result.disks.items)) (site_disk view c.args.site.now.lanes.items (record { disks = taken.result }) old taken.ensures.taken disks.old_is) planned.ensures.later);
    }

pub returns-in-Err-Words-clause-words : goal.returns-in-Err-Words-clause-words
returns-in-Err-Words-clause-words g c = λ is. c.in-Err-Words.ensures.words c.in-Err-Words.reason (ap Err c.in-Err-Words.field-0-is)

pub returns-in-Err-Words-clause-ends : goal.returns-in-Err-Words-clause-ends
returns-in-Err-Words-clause-ends g c = λ plan script left old new disks. absurd (plan (c.in-Err-Words.ensures.words c.in-Err-Words.reason (ap Err c.in-Err-Words.field-0-is)))

pub returns-in-Err-Words-clause-kept : goal.returns-in-Err-Words-clause-kept
returns-in-Err-Words-clause-kept g c = λ plan old new disks. absurd (plan (c.in-Err-Words.ensures.words c.in-Err-Words.reason (ap Err c.in-Err-Words.field-0-is)))

pub returns-in-Err-NoMemory-clause-refused : goal.returns-in-Err-NoMemory-clause-refused
returns-in-Err-NoMemory-clause-refused g c = λ none. record { written = nothing_reported Words _; unread = refl; untouched = refl }

pub returns-in-Err-NoMemory-clause-ends : goal.returns-in-Err-NoMemory-clause-ends
returns-in-Err-NoMemory-clause-ends g c = λ plan script left old new disks tells files does hold.
    let view = g.D.Disk.view in
    let disk : new ≡ old = unchanged_disk c.args.site.now.lanes.items old new disks in
    let first = begun tells files (view old).faults (view old).restarts in
    let unmoved : DiskIsIn (view new) first = subst (λ (d : g.row.D.Denot). DiskIsIn (view d) first) (sym disk) (left_at_start tells files (view old) hold) in
    let same : (view old).faults ≤ (view old).faults = omega arith in
    ((view old).faults, (view old).restarts, same, not_started view old new disk, ends_at_start (run_on c.args.site.now.hosts.items first (view new)) script _ _ _ unmoved)

pub returns-in-Err-NoMemory-clause-kept : goal.returns-in-Err-NoMemory-clause-kept
returns-in-Err-NoMemory-clause-kept g c = λ plan old new disks tells files does hold.
    let view = g.D.Disk.view in
    let disk : new ≡ old = unchanged_disk c.args.site.now.lanes.items old new disks in
    let first = begun tells files (view old).faults (view old).restarts in
    let unmoved : DiskIsIn (view new) first = subst (λ (d : g.row.D.Denot). DiskIsIn (view d) first) (sym disk) (left_at_start tells files (view old) hold) in
    let same : (view old).faults ≤ (view old).faults = omega arith in
    ((view old).faults, (view old).restarts, same, not_started view old new disk, run_at_start (run_on c.args.site.now.hosts.items first (view new)) unmoved)
