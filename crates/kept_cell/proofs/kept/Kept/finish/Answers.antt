use Rattle.std.proofs.Common.{◌≡◌, ℕ, Err, sym, subst, ap, ◌∙◌}
use Rattle.std.proofs.lemmas.Result.{err_from_is_err_and}
use Rattle.call_trail.specs.declared.refusal.CallRefusal.TheVariants.{NoMemory}
use Rattle.partition_cell.specs.Entered.{HasGrown, IsNotEntered}
use Rattle.partition_cell.proofs.EnteredLemmas.{where_refused}
use Rattle.partition_cell.specs.Cells.{caches_of}
use Rattle.kept_cell.proofs.KeptLemmas.{entered}
use Rattle.kept_cell.proofs.kept.Kept.finish.Goals as goal

pub returns-in_err-enter-clause-event : goal.returns-in_err-enter-clause-event
returns-in_err-enter-clause-event g c = rw (← c.self.view_is) c.enter.ensures.event

pub invariant_of-self-2 : goal.invariant_of-self-2
invariant_of-self-2 g c =
    let agrees = c.contents.ensures.agrees in
    rw (c.push.ensures.base, c.push.ensures.entries)
    (entered c.self.inside.trail.base c.self.inside.trail.entries c.args.entry c.args.prepared.mutation agrees.0 (caches_of c.self.inside.cell) (caches_of c.enter.new.self)
    c.requires.asked c.self.invariant agrees.1.contents (c.in_ok-enter.ensures.applied agrees.0 agrees.1).contents)

pub returns-clause-event : goal.returns-clause-event
returns-clause-event g c = rw (← c.self.view_is) c.enter.ensures.event

pub returns-in_err-enter-clause-left : goal.returns-in_err-enter-clause-left
returns-in_err-enter-clause-left g c =
    rw (← c.self.view_is) (where_refused c.from_residual.result (IsNotEntered c.self.inside.cell c.enter.new.self c.args.epoch c.args.prepared.mutation) c.in_err-enter.ensures.refused.1)

pub returns-in_err-enter-clause-others : goal.returns-in_err-enter-clause-others
returns-in_err-enter-clause-others g c = rw (← c.self.view_is) c.enter.ensures.others

pub returns-clause-others : goal.returns-clause-others
returns-clause-others g c = rw (← c.self.view_is) c.enter.ensures.others

pub returns-clause-grown : goal.returns-clause-grown
returns-clause-grown g c =
    rw (← c.self.view_is) (subst (λ (n : ℕ). HasGrown c.self.inside.cell c.enter.new.self c.args.epoch n) c.mutation.ensures.spelled c.in_ok-enter.ensures.grown)

pub returns-in_err-enter-clause-no_memory : goal.returns-in_err-enter-clause-no_memory
returns-in_err-enter-clause-no_memory g c =
    let p = err_from_is_err_and c.from_residual.result c.from_residual.ensures.1 in
    rw (← c.self.view_is) (λ err disk at spares.
    let e : p.0 ≡ NoMemory = cc (sym p.1 ∙ err) in
    c.enter.ensures.no_memory (c.in_err-enter.was ∙ ap Err (sym p.2 ∙ e)) disk at spares)
