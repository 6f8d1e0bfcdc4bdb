-- The two durable writes of an append, over what the disk tells.
use Rattle.std.proofs.Common.{◌≡◌, inl, ℕ, ◌+◌, ◌≤◌, List, [], ◌∷◌, ◌++◌, length, take, sym, ◌∙◌, ap, subst, arith}
use Rattle.cache_key.specs.declared.request.Mutation.{Mutation}
use Rattle.disk_trait.specs.View.{Image, View, Tells}
use Rattle.disk_trait.specs.Calls.{Torn, Moved, written}
use Rattle.disk_trait.specs.Moments.{After, Throughout}
use Rattle.disk_trait.proofs.Runs.{followed_in, weakened, holds_now}
use Rattle.record_form.specs.declared.header.Header.{Header}
use Rattle.record_form.specs.GroupText.{IsGroup, tail_text}
use Rattle.store_journal.specs.Text.{IsText, end_of}
use Rattle.store_journal.specs.AtRest.{IsKeptIn, AtRest, OldOrNew}
use Rattle.store_journal.specs.declared.store.Store.{Store}
use Rattle.store_journal.proofs.TextLemmas.{Staged, after_gate, is_staged, staged_long, torn_gate, opened_gate, long_enough, end-push}

-- the closed gate is there
pub room : (store : Store) (header : Header) (groups : List (List Mutation)) (group : List Mutation) → IsGroup group → (bytes : List ℕ) → IsKeptIn store header groups bytes → store.end + 1 ≤ length bytes
room store header groups group fits bytes kept = omega (arith, kept.gate, long_enough header groups group fits bytes kept.text)

module _ (a b : View) (store : Store) (header : Header) (groups : List (List Mutation)) (group : List Mutation) (tail : List ℕ) (fits : IsGroup group) (is_tail : tail ≡ tail_text group) (rests : AtRest a store header groups) where
  -- the write after the gate
  pub first_write : Throughout a b (After a (Moved store.file (Torn (store.end + 1) (length tail))))
      → Throughout a b (After a (Moved store.file (λ old new. OldOrNew header groups group new)))
  first_write all = weakened a b _ _ all (λ m has.
      let kept = rests has.0 has.1 in
      let prefix = subst (λ (e : ℕ). take (e + 1) (m store.file) ≡ take (e + 1) (has.0 store.file)) kept.gate has.2.here.before in
      (has.0, has.1, record { here = inl (after_gate header groups group fits (has.0 store.file) (m store.file) kept.text prefix); others = has.2.others }))

  -- between the two writes
  module _ (first : Throughout a b (After a (Moved store.file (Torn (store.end + 1) (length tail))))) (durable : (m : Image) → b.images m → m store.file ≡ written (a.seen store.file) (store.end + 1) tail) where
    source : (m : Image) → b.images m → Tells a
    source m is = let from = holds_now a b _ first m is in a.told from.0 from.1

    stage : (m : Image) (is : b.images m) → Staged header groups group fits (a.seen store.file) (m store.file) (rests a.seen (source m is)).text
    stage m is =
        let kept = rests a.seen (source m is) in
        let whole : m store.file ≡ written (a.seen store.file) (end_of groups + 1) (tail_text group) = durable m is ∙ (λ i. written (a.seen store.file) (kept.gate i + 1) (is_tail i)) in
        subst (λ (l : List ℕ). Staged header groups group fits (a.seen store.file) l kept.text) (sym whole) (is_staged header groups group fits (a.seen store.file) kept.text)

    pub gate_there : Tells b → store.end ≤ length (b.seen store.file)
    gate_there is = let kept = rests a.seen (source b.seen is) in omega (arith, kept.gate, staged_long header groups group fits _ _ kept.text (stage b.seen is))

    pub second_write : (c : View) → Throughout b c (After b (Moved store.file (Torn store.end 1))) → Throughout a c (After a (Moved store.file (λ old new. OldOrNew header groups group new)))
    second_write c second =
        followed_in a b c store.file _ _ (λ old new. OldOrNew header groups group new) first second
        (λ o m is torn.
        let kept = rests o is in
        inl (after_gate header groups group fits (o store.file) (m store.file) kept.text (subst (λ (e : ℕ). take (e + 1) (m store.file) ≡ take (e + 1) (o store.file)) kept.gate torn.before)))
        (λ o m n is mid r torn.
        let kept = rests a.seen (source m mid) in
        torn_gate header groups group fits (a.seen store.file) (m store.file) (n store.file) kept.text (stage m mid) (subst (λ (e : ℕ). Torn e 1 (m store.file) (n store.file)) kept.gate torn))

    -- the store at the end, whose gate has moved
    pub appended : (c : View) → Throughout b c (After b (Moved store.file (Torn store.end 1))) → ((n : Image) → c.images n → n store.file ≡ written (b.seen store.file) store.end (1 ∷ []))
        → (later : Store) → later.file ≡ store.file → later.id ≡ store.id → later.end ≡ store.end + length tail → AtRest c later header (groups ++ group ∷ [])
    appended c second opened later same_file same_id moved n is =
        let from = holds_now b c _ second n is in
        let here = b.told from.0 from.1 in
        let kept = rests a.seen (source b.seen here) in
        let whole : n store.file ≡ written (b.seen store.file) (end_of groups) (1 ∷ []) = opened n is ∙ (λ i. written (b.seen store.file) (kept.gate i) (1 ∷ [])) in
        record {
          text = subst (λ (l : List ℕ). IsText header (groups ++ group ∷ []) l) (sym (ap n same_file ∙ whole)) (opened_gate header groups group fits (a.seen store.file) (b.seen store.file) kept.text (stage b.seen here));
          gate = omega (arith, moved, kept.gate, end-push groups group, ap length is_tail);
          named = same_id ∙ kept.named;
        }
