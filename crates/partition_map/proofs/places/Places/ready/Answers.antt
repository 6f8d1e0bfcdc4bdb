use Rattle.std.proofs.Common.{◌≡◌, ℕ, List, None, is_some, true, false, refl, ap, ◌∙◌, sym, subst}
use Rattle.std.specs.List.{list_any}
use Rattle.cache_model.specs.Caches.{same}
use Rattle.std.specs.Ordering.{nat_cmp}
use Rattle.std.specs.Cmp.Lexicographic.{slice_cmp}
use Rattle.std.specs.Map.{lookup}
use Rattle.std.specs.BTreeMap.{is_at}
use Rattle.partition_map.specs.Place.{place_count, place_bytes, value_count, value_bytes}
use Rattle.partition_map.proofs.SumLemmas.{total-hidden}
use Rattle.partition_map.proofs.ValueLemmas.{values-hidden}
use Rattle.partition_map.proofs.HiddenLemmas.{hides-one}
use Rattle.partition_map.proofs.places.Places.ready.Goals as goal

pub invariant_of-self-2 : goal.invariant_of-self-2
invariant_of-self-2 c =
    let es = c.self.inside.entries.entries in
    let k = c.in_ok-key.key in
    let absent : is_some (lookup (is_at (slice_cmp nat_cmp k)) es) ≡ false = ap (λ q. is_some (lookup (is_at (slice_cmp nat_cmp q)) es)) c.in_ok-key.ensures ∙ sym c.contains_key.ensures ∙ c.if-contains_key.false in (
      c.self.invariant.0 ∙ sym (ap value_count c.in_ok-insert.ensures.entries ∙ total-hidden place_count es k None c.insert.ensures.was_ordered refl absent),
      c.self.invariant.1 ∙ sym (ap value_bytes c.in_ok-insert.ensures.entries ∙ total-hidden place_bytes es k None c.insert.ensures.was_ordered refl absent),
      c.insert.ensures.ordered,
    )

pub returns-clause-values : goal.returns-clause-values
returns-clause-values c =
    let es = c.self.inside.entries.entries in
    let k = c.in_ok-key.key in
    let absent : is_some (lookup (is_at (slice_cmp nat_cmp k)) es) ≡ false = ap (λ q. is_some (lookup (is_at (slice_cmp nat_cmp q)) es)) c.in_ok-key.ensures ∙ sym c.contains_key.ensures ∙ c.if-contains_key.false in
    rw (← c.self.view_is) (record {
      values = values-hidden es c.insert.new.self.entries k c.in_ok-insert.ensures.updates.0 absent;
      count = ap value_count c.in_ok-insert.ensures.entries ∙ total-hidden place_count es k None c.insert.ensures.was_ordered refl absent;
      bytes = ap value_bytes c.in_ok-insert.ensures.entries ∙ total-hidden place_bytes es k None c.insert.ensures.was_ordered refl absent;
    })

pub returns-clause-hidden : goal.returns-clause-hidden
returns-clause-hidden c =
    rw (← c.self.view_is) (λ keys one only. hides-one keys c.self.inside.entries.entries c.insert.new.self.entries c.in_ok-key.key c.in_ok-insert.ensures.updates.0 (subst (λ (k : List ℕ). list_any (same k) keys ≡ true) (sym c.in_ok-key.ensures) one) only)
