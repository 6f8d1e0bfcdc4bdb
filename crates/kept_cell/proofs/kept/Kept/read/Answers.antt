use Rattle.std.proofs.Common.{◌≡◌, length, arith, ap}
use Rattle.call_trail.specs.Trails.{most_entries}
use Rattle.kept_cell.specs.KeptCells.{KeptCell}
use Rattle.kept_cell.proofs.kept.Kept.read.Goals as goal

pub push-requires-clause-more : goal.push-requires-clause-more
push-requires-clause-more g c =
    let size = c.is_full.ensures.most in
    let not_full : length c.self.inside.trail.entries ≡ most_entries → ⊥ = λ e. let yes = c.is_full.ensures.full.1 e in cc yes in
    let after = ap (λ (k : KeptCell g.row.D.Denot). length k.trail.entries) c.self-2.view_is in
    let kept = ap length c.spell.ensures.trail.0 in
    let before = ap (λ (k : KeptCell g.row.D.Denot). length k.trail.entries) c.self.view_is in
    omega (arith, size, not_full, after, kept, before)
