-- Why a mutation is refused.
use Rattle.std.proofs.Common.{◌≡◌, ◌⊎◌, ⊎_elim, ℕ, ◌+◌, ◌^◌, ◌<◌, arith, Result, Err, Some, None, IsErrOf, ◌↔◌, refl, sym, ◌∙◌, ap, subst}
use Rattle.cache_key.specs.declared.request.Mutation.{Mutation}
use Rattle.cache_model.specs.PlainList.{live}
use Rattle.call_trail.specs.declared.refusal.CallRefusal.{CallRefusal}
use Rattle.call_trail.specs.declared.refusal.CallRefusal.TheVariants.{Suspended, Pinned, TrailFull, StoreFull, VersionEnd, Fault, NoMemory}
use Rattle.partition_cell.specs.declared.moving.Moving.{Moving}
use Rattle.partition_cell.specs.Cells.{caches_of}
use Rattle.partition_cell.specs.Limits.{IsFit, IsFullFor}
use Rattle.slot_board.specs.Slots.{told_by}
use Rattle.kept_cell.specs.KeptCells.{KeptCell, HasFullTrail, ChangeCauses}

-- where a store is being built on this host
abbrev IsMovingTo : {D : Type 0} → KeptCell D → ℕ → Type 0
IsMovingTo kept to = (moving : Moving) × (kept.cell.moving ≡ Some moving) × (moving.host ≡ to)

module _ {D : Type 0} (kept : KeptCell D) (mutation : Mutation) where
  -- a store is being built
  pub causes_pinned : {T : Type 0} (to : ℕ) → ((n : ℕ) → (Some to ≡ Some n) ↔ IsMovingTo kept n) → ChangeCauses {T = T} kept mutation (Err (Pinned to))
  causes_pinned to target =
      let is = (target to).0 refl in
      let moves : kept.cell.moving ≡ None → ⊥ = λ none. let wrong : Some is.0 ≡ None = sym is.1 ∙ none in cc wrong in
      record {
        pinned = λ n. (
          λ e. let same : to ≡ n = cc e in (target n).0 (ap Some same),
          λ has. let e : Some to ≡ Some n = (target n).1 has in let same : to ≡ n = cc e in ap (λ (k : ℕ). Err (Pinned k)) same,
        );
        trail_full = (λ e. absurd (cc e), λ has. absurd (moves has.0));
        store_full = λ size. (λ e. absurd (cc e), λ has. absurd (moves has.0));
        version_end = (λ e. absurd (cc e), λ has. absurd (moves has.0));
        fault = λ host e. absurd (cc e);
        suspended = λ n e. absurd (cc e);
      }

  -- none is, and the trail has room
  module _ (still : kept.cell.moving ≡ None) (room : HasFullTrail kept → ⊥) where
    rests : (to : ℕ) → IsMovingTo kept to → ⊥
    rests to has = let wrong : Some has.0 ≡ None = sym has.1 ∙ still in cc wrong

    -- it was refused before a device was called
    pub causes_prepared : {S T : Type 0} (r : Result S CallRefusal) (refusal : CallRefusal) → r ≡ Err refusal
        → ((to : ℕ) → ¬ IsErrOf r (Pinned to) ⊎ IsMovingTo kept to)
        → ((size : ℕ) → IsErrOf r (StoreFull size) ↔ ((kept.cell.moving ≡ None) × (size ≡ live (caches_of kept.cell)) × IsFullFor kept.cell mutation))
        → (IsErrOf r VersionEnd ↔ ((kept.cell.moving ≡ None) × (IsFullFor kept.cell mutation → ⊥) × (IsFit kept.cell → ⊥) × (told_by kept.cell.board + 1 ≡ 2 ^ 58)))
        → ((host : ℕ) → ¬ IsErrOf r (Fault host)) → ((n : ℕ) → ¬ IsErrOf r (Suspended n)) → ¬ IsErrOf r TrailFull
        → ChangeCauses {T = T} kept mutation (Err refusal)
    causes_prepared r refusal is pinned full end fault suspended trail = record {
      pinned = λ to. (
        λ e. let same : refusal ≡ Pinned to = cc e in ⊎_elim (λ never. absurd (never (is ∙ ap Err same))) (λ has. has) (pinned to),
        λ has. absurd (rests to has),
      );
      trail_full = (λ e. let same : refusal ≡ TrailFull = cc e in absurd (trail (is ∙ ap Err same)), λ has. absurd (room has.1));
      store_full = λ size. (
        λ e. let same : refusal ≡ StoreFull size = cc e in let has = (full size).0 (is ∙ ap Err same) in (still, room, has.1, has.2),
        λ has. let e : Err refusal ≡ Err (StoreFull size) = sym is ∙ (full size).1 (still, has.2, has.3) in let same : refusal ≡ StoreFull size = cc e in ap Err same,
      );
      version_end = (
        λ e. let same : refusal ≡ VersionEnd = cc e in let has = end.0 (is ∙ ap Err same) in (still, room, has.1, has.2, has.3),
        λ has. let e : Err refusal ≡ Err VersionEnd = sym is ∙ end.1 (still, has.2, has.3, has.4) in let same : refusal ≡ VersionEnd = cc e in ap Err same,
      );
      fault = λ host e. let same : refusal ≡ Fault host = cc e in absurd (fault host (is ∙ ap Err same));
      suspended = λ n e. let same : refusal ≡ Suspended n = cc e in absurd (suspended n (is ∙ ap Err same));
    }

    -- its memory was taken, and a device refused it, or memory ran out
    module _ (fits : IsFullFor kept.cell mutation → ⊥) (version : (IsFit kept.cell → ⊥) → told_by kept.cell.board + 1 < 2 ^ 58) where
      causes_memory : {T : Type 0} → ChangeCauses {T = T} kept mutation (Err NoMemory)
      causes_memory = record {
        pinned = λ to. (λ e. absurd (cc e), λ has. absurd (rests to has));
        trail_full = (λ e. absurd (cc e), λ has. absurd (room has.1));
        store_full = λ size. (λ e. absurd (cc e), λ has. absurd (fits has.3));
        version_end = (λ e. absurd (cc e), λ has. let below = version has.3 in let at = has.4 in absurd (omega (arith, below, at)));
        fault = λ host e. absurd (cc e);
        suspended = λ n e. absurd (cc e);
      }

      causes_fault : {T : Type 0} → ChangeCauses {T = T} kept mutation (Err (Fault kept.cell.owner))
      causes_fault = record {
        pinned = λ to. (λ e. absurd (cc e), λ has. absurd (rests to has));
        trail_full = (λ e. absurd (cc e), λ has. absurd (room has.1));
        store_full = λ size. (λ e. absurd (cc e), λ has. absurd (fits has.3));
        version_end = (λ e. absurd (cc e), λ has. let below = version has.3 in let at = has.4 in absurd (omega (arith, below, at)));
        fault = λ host e. let same : kept.cell.owner ≡ host = cc e in sym same;
        suspended = λ n e. absurd (cc e);
      }

      pub causes_entered : {T : Type 0} (refusal : CallRefusal) → (refusal ≡ NoMemory) ⊎ (refusal ≡ Fault kept.cell.owner) → ChangeCauses {T = T} kept mutation (Err refusal)
      causes_entered {T} refusal is = ⊎_elim
          (λ e. subst (λ (r : CallRefusal). ChangeCauses {T = T} kept mutation (Err r)) (sym e) (causes_memory {T = T}))
          (λ e. subst (λ (r : CallRefusal). ChangeCauses {T = T} kept mutation (Err r)) (sym e) (causes_fault {T = T}))
          is
