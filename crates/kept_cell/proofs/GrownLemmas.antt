-- What became of the store of a cell whose map was made ready has become of it before, too.
use Rattle.std.proofs.Common.{◌≡◌, inl, inr, ⊎_elim, ℕ, sym, ◌∙◌, ap, subst, arith, List}
use Rattle.cache_key.specs.declared.request.Mutation.{Mutation}
use Rattle.cache_model.specs.PlainList.{live}
use Rattle.disk_trait.specs.View.{View}
use Rattle.slot_board.specs.Slots.{slot_at, told_by}
use Rattle.partition_cell.specs.Beyond.{OthersStay}
use Rattle.partition_cell.specs.Cells.{Cell, caches_of}
use Rattle.partition_cell.specs.Entered.{next_id, HasGrown, IsNotRenewed, IsNotEntered}
use Rattle.partition_cell.specs.Limits.{IsFit}
use Rattle.partition_cell.proofs.EnteredLemmas.{next_same}
use Rattle.kept_cell.specs.KeptCells.{IsReadied}
use Rattle.kept_cell.proofs.KeptLemmas.{fit_back}

-- the same cell as one that was made ready
pub readied_then : {D : Type 0} (a b n : Cell D) → n ≡ b → b ≡ record a { maps = b.maps } → IsReadied a n
readied_then a b n same kept = subst (λ (x : Cell _). x ≡ record a { maps = x.maps }) (sym same) kept

module _ {D : Type 0} (a b : Cell D) (kept : b ≡ record a { maps = b.maps }) (same : caches_of b ≡ caches_of a) where
  fit_before : IsFit b → IsFit a
  fit_before fit = record {
    sound = record {
      none = sym (ap (λ (c : Cell D). c.flight) kept) ∙ fit.sound.none;
      no_doubt = λ h f le is. fit.sound.no_doubt h f le (ap (λ (c : Cell D). (slot_at c.board h f).kind) kept ∙ is);
    };
    short =
        let end = ap (λ (c : Cell D). c.store.end) kept in
        let size = ap live same in
        omega (arith, fit.short, end, size);
  }

  told_before : told_by b.board ≡ told_by a.board
  told_before = ap (λ (c : Cell D). told_by c.board) kept

  pub grown_before : (d : Cell D) (epoch added : ℕ) → HasGrown b d epoch added → HasGrown a d epoch added
  grown_before d epoch added grown = ⊎_elim
      (λ is. inl (
        fit_before is.0,
        record {
          owner = is.1.owner ∙ ap (λ (c : Cell D). c.owner) kept;
          id = is.1.id ∙ ap (λ (c : Cell D). c.store.id) kept;
          file = is.1.file ∙ ap (λ (c : Cell D). c.store.file) kept;
          end = let end = ap (λ (c : Cell D). c.store.end) kept in omega (arith, is.1.end, end);
          board = is.1.board ∙ ap (λ (c : Cell D). c.board) kept;
        },
      ))
      (λ is. inr (
        λ fit. is.0 (fit_back a b kept same fit),
        record {
          id =
              is.1.id ∙ next_same a b b.owner epoch (ap (λ (c : Cell D). c.number) kept) told_before
              ∙ ap (λ (h : ℕ). next_id a h epoch) (ap (λ (c : Cell D). c.owner) kept);
          other = let file = ap (λ (c : Cell D). c.store.file) kept in omega (arith, is.1.other, file);
          end = let size = ap live same in omega (arith, is.1.end, size);
          told = let told = told_before in omega (arith, is.1.told, told);
        },
      ))
      grown

  pub not_renewed_before : (d : Cell D) → (IsFit b → ⊥) × IsNotRenewed b d → (IsFit a → ⊥) × IsNotRenewed a d
  not_renewed_before d is = (
    λ fit. is.0 (fit_back a b kept same fit),
    record {
      store = is.1.store ∙ ap (λ (c : Cell D). c.store) kept;
      flight = is.1.flight ∙ ap (λ (c : Cell D). c.flight) kept;
      told =
          let told = told_before in
          ⊎_elim (λ (e : told_by d.board ≡ told_by b.board). inl (e ∙ told)) (λ e. inr (omega (arith, e, told))) is.1.told;
    },
  )

  pub not_entered_before : (d : Cell D) (epoch : ℕ) (mutation : Mutation) → IsNotEntered b d epoch mutation → IsNotEntered a d epoch mutation
  not_entered_before d epoch mutation is = ⊎_elim (λ one. inl (not_renewed_before d one)) (λ two. inr (grown_before d epoch 0 two.0, two.1)) is

  pub others_before : (view : D → View) (last : List D) → OthersStay view b.owner b.disks last → OthersStay view a.owner a.disks last
  others_before view last stay = subst (λ (c : Cell D). OthersStay view c.owner c.disks last) kept stay
