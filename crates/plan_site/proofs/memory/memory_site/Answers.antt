use Rattle.std.proofs.Common.{◌≡◌, ℕ, [], ◌∙◌, sym, ap, subst, Option, Some, Err}
use Rattle.disk_memory.specs.declared.disk.MemoryDisk.{MemoryDisk}
use Rattle.disk_memory.specs.History.{history_of, view_of}
use Rattle.disk_trait.specs.View.{Image, Tells}
use Rattle.plan_site.specs.Planned.{cut_history}
use Rattle.plan_site.proofs.memory.memory_site.Goals as goal

-- two disks that are one
same_some : {T : Type 0} (a b : T) → Some a ≡ Some b → a ≡ b
same_some a b is = cc

pub returns-in-Err-Words-clause-site : goal.returns-in-Err-Words-clause-site
returns-in-Err-Words-clause-site c = λ planned count plan. absurd (c.in-Err-Words.ensures.words c.in-Err-Words.field-0-0 (ap Err c.in-Err-Words.field-0-is) planned count plan)

pub returns-clause-disk : goal.returns-clause-disk
returns-clause-disk c = λ disk cut pick first plan.
    let alone = c.in-Ok.ensures.disk_alone cut pick plan in
    let here : c.in_ok-disk.disk ≡ disk = same_some _ _ (sym c.in_ok-lanes.ensures.disk ∙ first) in
    ap history_of (sym here) ∙ c.in_ok-disk.ensures.history ∙ c.disk_plan.ensures ∙ ap (λ (n : Option ℕ). cut_history n c.in-Ok.plan.pick) (sym alone.0) ∙ ap (λ (n : ℕ). cut_history cut n) (sym alone.1)

pub returns-clause-empty : goal.returns-clause-empty
returns-clause-empty c = λ disk first.
    let here : c.in_ok-disk.disk ≡ disk = same_some _ _ (sym c.in_ok-lanes.ensures.disk ∙ first) in
    subst (λ (d : MemoryDisk). Tells (view_of d) × ((m : Image) → (view_of d).images m → (f : ℕ) → m f ≡ [])) here (c.in_ok-disk.ensures.tells, c.in_ok-disk.ensures.empty)
