use Rattle.std.proofs.Common.{◌≡◌, length, ◌<◌, arith, refl, sym, subst, ◌∙◌, ap, Err}
use Rattle.std.proofs.lemmas.Option.{slice_get_read}
use Rattle.std.proofs.lemmas.Result.{err_from_is_err_and}
use Rattle.slot_board.specs.declared.board.SlotKind.TheVariants.{Blank}
use Rattle.slot_board.specs.Slots.{slot_at, hosts_of}
use Rattle.disk_trait.specs.declared.DiskRefusal.TheVariants.{Failed}
use Rattle.partition_cell.specs.Cells.{Cell}
use Rattle.file_kinds.proofs.KindLemmas.{blank_there}
use Rattle.partition_cell.proofs.BeyondLemmas.{others_moved}
use Rattle.partition_cell.proofs.EnteredLemmas.{id_at}
use Rattle.partition_cell.proofs.StepLemmas.{building, build_ended, build_begun, call_onward}
use Rattle.disk_lane.proofs.LaneLemmas.{failed_on}
use Rattle.partition_cell.proofs.cell.Cell.start_build.Goals as goal

pub begin-requires-clause-blank : goal.begin-requires-clause-blank
begin-requires-clause-blank g c m is =
    let there = subst (λ (s : Cell g.row.D.Denot). c.args.to < hosts_of s.board) (sym c.self.view_is) c.requires.there in
    let here : c.args.to < length c.self.inside.disks.items = omega (arith, c.self.invariant.hosts, there) in
    let was = slice_get_read c.self.inside.disks.items _ c.args.to c.index_mut.result.now refl here c.index_mut.ensures.value in
    let blank = subst (λ (s : Cell g.row.D.Denot). (slot_at s.board c.args.to c.args.file).kind ≡ Blank) (sym c.self.view_is) c.requires.blank in
    blank_there _ _ _ (slot_at c.self.inside.board c.args.to c.args.file).kind _ (m c.args.file) blank (c.self.invariant.kinds c.args.to _ was m is c.args.file c.requires.file)

pub invariant_of-self : goal.invariant_of-self
invariant_of-self g c =
    let there = subst (λ (s : Cell g.row.D.Denot). c.args.to < hosts_of s.board) (sym c.self.view_is) c.requires.there in
    let here : c.args.to < length c.self.inside.disks.items = omega (arith, c.self.invariant.hosts, there) in
    let was = slice_get_read c.self.inside.disks.items _ c.args.to c.index_mut.result.now refl here c.index_mut.ensures.value in
    let blank = subst (λ (s : Cell g.row.D.Denot). (slot_at s.board c.args.to c.args.file).kind ≡ Blank) (sym c.self.view_is) c.requires.blank in
    let still = ap (λ (s : Cell g.row.D.Denot). s.moving) c.self.view_is ∙ c.requires.still in
    build_ended g.D.Disk.view _ c.self.invariant c.args.to _ was c.begin.new.disk c.args.file blank c.begin.ensures.moments _ still

pub returns-in_err-build-clause-event : goal.returns-in_err-build-clause-event
returns-in_err-build-clause-event g c =
    let there = subst (λ (s : Cell g.row.D.Denot). c.args.to < hosts_of s.board) (sym c.self.view_is) c.requires.there in
    let here : c.args.to < length c.self.inside.disks.items = omega (arith, c.self.invariant.hosts, there) in
    let was = slice_get_read c.self.inside.disks.items _ c.args.to c.index_mut.result.now refl here c.index_mut.ensures.value in
    let blank = subst (λ (s : Cell g.row.D.Denot). (slot_at s.board c.args.to c.args.file).kind ≡ Blank) (sym c.self.view_is) c.requires.blank in
    rw (← c.self.view_is) (building g.D.Disk.view _ c.self.invariant c.args.to _ was c.begin.new.disk c.args.file blank c.begin.ensures.moments (call_onward (g.D.Disk.view c.index_mut.result.now) (g.D.Disk.view c.begin.new.disk) c.begin.result c.begin.ensures.cause c.begin.ensures.tells))

pub returns-in_err-build-clause-failed : goal.returns-in_err-build-clause-failed
returns-in_err-build-clause-failed g c is =
    let p = err_from_is_err_and c.from_residual.result c.from_residual.ensures.1 in
    let e : p.0 ≡ Failed = cc (sym p.1 ∙ is) in
    let there = subst (λ (s : Cell g.row.D.Denot). c.args.to < hosts_of s.board) (sym c.self.view_is) c.requires.there in
    let here : c.args.to < length c.self.inside.disks.items = omega (arith, c.self.invariant.hosts, there) in
    let was = slice_get_read c.self.inside.disks.items _ c.args.to c.index_mut.result.now refl here c.index_mut.ensures.value in
    let blank = subst (λ (s : Cell g.row.D.Denot). (slot_at s.board c.args.to c.args.file).kind ≡ Blank) (sym c.self.view_is) c.requires.blank in
    rw (← c.self.view_is) (failed_on g.D.Disk.view c.self.inside.disks.items c.args.to _ c.begin.new.disk was (c.begin.ensures.cause.failed (c.in_err-build.was ∙ ap Err (sym p.2 ∙ e))))

pub invariant_of-self-2 : goal.invariant_of-self-2
invariant_of-self-2 g c =
    let there = subst (λ (s : Cell g.row.D.Denot). c.args.to < hosts_of s.board) (sym c.self.view_is) c.requires.there in
    let here : c.args.to < length c.self.inside.disks.items = omega (arith, c.self.invariant.hosts, there) in
    let was = slice_get_read c.self.inside.disks.items _ c.args.to c.index_mut.result.now refl here c.index_mut.ensures.value in
    let blank = subst (λ (s : Cell g.row.D.Denot). (slot_at s.board c.args.to c.args.file).kind ≡ Blank) (sym c.self.view_is) c.requires.blank in
    build_begun g.D.Disk.view _ c.self.invariant c.args.to _ was c.begin.new.disk c.args.file blank c.begin.ensures.moments
    c.in_ok-build.build (record { id = record { partition = c.self.inside.partition; version = c.in-Some.version; epoch = c.args.epoch; host = c.args.to }; partitions = c.self.inside.partitions }) _
    refl refl c.in-Some.ensures.0 c.in-Some.ensures.1 there c.requires.file c.in_ok-build.ensures.begun c.in_ok-build.ensures.build.0 c.in_ok-build.ensures.build.1 refl

pub returns-clause-begun : goal.returns-clause-begun
returns-clause-begun g c =
    let b = c.in_ok-build.ensures.build in
    rw (← c.self.view_is) (_, refl, refl, b.1 ∙ id_at c.self.inside.partition c.in-Some.version _ c.args.epoch c.args.to c.in-Some.ensures.0, b.3)

pub returns-clause-event : goal.returns-clause-event
returns-clause-event g c =
    let there = subst (λ (s : Cell g.row.D.Denot). c.args.to < hosts_of s.board) (sym c.self.view_is) c.requires.there in
    let here : c.args.to < length c.self.inside.disks.items = omega (arith, c.self.invariant.hosts, there) in
    let was = slice_get_read c.self.inside.disks.items _ c.args.to c.index_mut.result.now refl here c.index_mut.ensures.value in
    let blank = subst (λ (s : Cell g.row.D.Denot). (slot_at s.board c.args.to c.args.file).kind ≡ Blank) (sym c.self.view_is) c.requires.blank in
    rw (← c.self.view_is) (building g.D.Disk.view _ c.self.invariant c.args.to _ was c.begin.new.disk c.args.file blank c.begin.ensures.moments (call_onward (g.D.Disk.view c.index_mut.result.now) (g.D.Disk.view c.begin.new.disk) c.begin.result c.begin.ensures.cause c.begin.ensures.tells))

pub returns-in_err-build-clause-others : goal.returns-in_err-build-clause-others
returns-in_err-build-clause-others g c =
    let there = subst (λ (s : Cell g.row.D.Denot). c.args.to < hosts_of s.board) (sym c.self.view_is) c.requires.there in
    let here : c.args.to < length c.self.inside.disks.items = omega (arith, c.self.invariant.hosts, there) in
    let was = slice_get_read c.self.inside.disks.items _ c.args.to c.index_mut.result.now refl here c.index_mut.ensures.value in
    rw (← c.self.view_is) (others_moved g.D.Disk.view c.self.inside.disks.items c.args.to _ c.begin.new.disk was c.args.file c.requires.file _ c.begin.ensures.moments)

pub returns-clause-others : goal.returns-clause-others
returns-clause-others g c =
    let there = subst (λ (s : Cell g.row.D.Denot). c.args.to < hosts_of s.board) (sym c.self.view_is) c.requires.there in
    let here : c.args.to < length c.self.inside.disks.items = omega (arith, c.self.invariant.hosts, there) in
    let was = slice_get_read c.self.inside.disks.items _ c.args.to c.index_mut.result.now refl here c.index_mut.ensures.value in
    rw (← c.self.view_is) (others_moved g.D.Disk.view c.self.inside.disks.items c.args.to _ c.begin.new.disk was c.args.file c.requires.file _ c.begin.ensures.moments)
