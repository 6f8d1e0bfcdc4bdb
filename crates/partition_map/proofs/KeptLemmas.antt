-- The kept sums, where one extent is changed.
use Rattle.std.proofs.Common.{◌≡◌, ℕ, ◌+◌, ◌*◌, ◌/◌, ◌<◌, ◌≤◌, ◌^◌, List, [], ◌∷◌, Bool, true, false, cond, ◌&&◌, length, Option, Some, None, option_and_then, sum_by, ap, ◌∙◌, sym, refl, subst, arith}
use Rattle.std.specs.Option.{option_map_or}
use Rattle.std.specs.List.{AllByRecursion}
use Rattle.std.specs.Map.{lookup, keys_of}
use Rattle.std.proofs.lemmas.Map.{keys-set_value}
use Rattle.cache_key.specs.declared.request.Mutation.{Mutation}
use Rattle.cache_key.specs.declared.request.Mutation.TheVariants.{Put, Remove, Ensure, Truncate, Destroy, Batch}
use Rattle.cache_model.specs.Caches.{same, Pairs, Caches, value_in}
use Rattle.cache_model.specs.Change.{change_of, ensure, batch}
use Rattle.cache_model.specs.Contents.{IsRising, NamesRise, KeysRise}
use Rattle.cache_model.specs.PlainList.{plain_cache, plain_list, spelled_length, live}
use Rattle.cache_model.specs.Step.{IsChangedBy}
use Rattle.cache_model.proofs.ContentsLemmas.{same-itself}
use Rattle.cache_model.proofs.EntriesLemmas.{weight_at, weight-changed, weight_apart}
use Rattle.cache_model.proofs.GrowthLemmas.{live_grown, sum_by-flat_map, measured, length_is_sum}
use Rattle.partition_map.specs.declared.change.Shift.{Shift}
use Rattle.partition_map.specs.declared.extent.Extent.{Extent}
use Rattle.partition_map.specs.Extents.{Extents, extent_shown, caches_in, IsWhole, AreKept}
use Rattle.partition_map.specs.Order.{cache_changed, brings}
use Rattle.partition_map.specs.Readiness.{HasFewPairs, room_for}
use Rattle.partition_map.specs.Written.{IsShift}
use Rattle.partition_map.proofs.ShownLemmas.{lookup-shown_by}
use Rattle.partition_map.proofs.ChangedLemmas.{WholeHere, whole-lookup, whole-set_value, whole-after, names_rise-caches_in, keys_rise-caches_in, IsWritten-set_value, IsChangedBy-written}

-- ---- the limit stays

and_false : (b : Bool) → (b && false) ≡ false
and_false true = refl
and_false false = refl

-- a batch without pairs is an ensure
IsChangedBy-batch_empty : (cache : List ℕ) (old new : Caches) → IsChangedBy (batch cache []) old new → IsChangedBy (ensure cache) old new
IsChangedBy-batch_empty cache old new changed = record {
  names_rise = changed.names_rise;
  keys_rise = changed.keys_rise;
  presence = changed.presence;
  values = λ other key. changed.values other key ∙ ap (λ b. cond b None (value_in old other key)) (and_false (same cache other));
}

pub live_within : (mutation : Mutation) (old new : Caches) → NamesRise old → NamesRise new → KeysRise old → KeysRise new → IsChangedBy (change_of mutation) old new → live old < 2 ^ 48
    → (brings (change_of mutation) ≡ true → HasFewPairs (change_of mutation) × (live old + room_for (change_of mutation) < 2 ^ 48)) → live new < 2 ^ 48
live_within (Put c k v) old new a b d e changed fits ready = omega (arith, live_grown (Put c k v) tt (omega arith) old new a b d e changed, (ready refl).1)
live_within (Remove c k) old new a b d e changed fits ready = omega (arith, live_grown (Remove c k) tt (omega arith) old new a b d e changed, fits)
live_within (Ensure c) old new a b d e changed fits ready = omega (arith, live_grown (Ensure c) tt (omega arith) old new a b d e changed, (ready refl).1)
live_within (Truncate c) old new a b d e changed fits ready = omega (arith, live_grown (Truncate c) tt (omega arith) old new a b d e changed, fits)
live_within (Destroy c) old new a b d e changed fits ready = omega (arith, live_grown (Destroy c) tt (omega arith) old new a b d e changed, fits)
live_within (Batch c []) old new a b d e changed fits ready = omega (arith, live_grown (Ensure c) tt (omega arith) old new a b d e (IsChangedBy-batch_empty c old new changed), (ready refl).1)
live_within (Batch c (p ∷ ps)) old new a b d e changed fits ready = omega (arith, live_grown (Batch c (p ∷ ps)) (omega arith) (ready refl).0 old new a b d e changed, (ready refl).1)

-- ---- the sums of the plain list

weight-measure : (m : Mutation → ℕ) (name : List ℕ) (o : Option Pairs) → weight_at (measured m) name o ≡ option_map_or (λ pairs. sum_by m (plain_cache name pairs)) o 0
weight-measure m name None = refl
weight-measure m name (Some pairs) = refl

items-measure : (name : List ℕ) (o : Option Pairs) → option_map_or (λ pairs. length (plain_cache name pairs)) o 0 ≡ option_map_or (λ pairs. sum_by (λ _. 1) (plain_cache name pairs)) o 0
items-measure name None = refl
items-measure name (Some pairs) = length_is_sum (plain_cache name pairs)

-- what the whole list measures, before and after one cache was replaced
pub record IsMoved (m : Mutation → ℕ) (name : List ℕ) (old new : Extents) (before now : Extent) : Type 0 where
  pub moved : sum_by m (plain_list (caches_in new)) + option_map_or (λ pairs. sum_by m (plain_cache name pairs)) (extent_shown before) 0 ≡ sum_by m (plain_list (caches_in old)) + option_map_or (λ pairs. sum_by m (plain_cache name pairs)) (extent_shown now) 0
  pub gone : option_map_or (λ pairs. sum_by m (plain_cache name pairs)) (extent_shown before) 0 ≤ sum_by m (plain_list (caches_in old))
  pub come : option_map_or (λ pairs. sum_by m (plain_cache name pairs)) (extent_shown now) 0 ≤ sum_by m (plain_list (caches_in new))

found_shown : (es : Extents) (name : List ℕ) (e : Extent) → IsRising (keys_of es) → lookup (same name) es ≡ Some e → lookup (same name) (caches_in es) ≡ extent_shown e
found_shown es name e rise is = lookup-shown_by extent_shown es name rise ∙ ap (option_and_then extent_shown) is

pub moved : (m : Mutation → ℕ) (name : List ℕ) (old new : Extents) (before now : Extent) → IsRising (keys_of old) → IsRising (keys_of new)
    → lookup (same name) old ≡ Some before → lookup (same name) new ≡ Some now
    → ((other : List ℕ) → same name other ≡ false → lookup (same other) new ≡ lookup (same other) old)
    → IsMoved m name old new before now
moved m name old new before now rise new_rise was is others =
    let list = sum_by-flat_map m (λ (c : List ℕ × Pairs). plain_cache c.0 c.1) (caches_in old) in
    let list_new = sum_by-flat_map m (λ (c : List ℕ × Pairs). plain_cache c.0 c.1) (caches_in new) in
    let gone : weight_at (measured m) name (lookup (same name) (caches_in old)) ≡ option_map_or (λ pairs. sum_by m (plain_cache name pairs)) (extent_shown before) 0 = ap (weight_at (measured m) name) (found_shown old name before rise was) ∙ weight-measure m name (extent_shown before) in
    let come : weight_at (measured m) name (lookup (same name) (caches_in new)) ≡ option_map_or (λ pairs. sum_by m (plain_cache name pairs)) (extent_shown now) 0 = ap (weight_at (measured m) name) (found_shown new name now new_rise is) ∙ weight-measure m name (extent_shown now) in
    let both = weight-changed (measured m) name (caches_in old) (caches_in new) (names_rise-caches_in old rise) (names_rise-caches_in new new_rise) (λ other apart. lookup-shown_by extent_shown new other new_rise ∙ ap (option_and_then extent_shown) (others other apart) ∙ sym (lookup-shown_by extent_shown old other rise)) in
    record {
      moved = omega (arith, list, list_new, gone, come, both);
      gone = omega (arith, list, gone, weight_apart (measured m) name (caches_in old));
      come = omega (arith, list_new, come, weight_apart (measured m) name (caches_in new));
    }

-- ---- after a shift

pub record IsShiftKept (mutation : Mutation) (old new : Extents) (shift : Shift) (count total : ℕ) : Type 0 where
  pub changed : IsChangedBy (change_of mutation) (caches_in old) (caches_in new)
  pub items_gone : shift.gone_items ≤ count
  pub items_fit : count + shift.come_items < shift.gone_items + 2 ^ 62
  pub bytes_gone : shift.gone_bytes ≤ total
  pub bytes_fit : total + shift.come_bytes < shift.gone_bytes + 2 ^ 62
  pub kept : (n b : ℕ) → n + shift.gone_items ≡ count + shift.come_items → b + shift.gone_bytes ≡ total + shift.come_bytes → AreKept new n b

small : (b n : ℕ) → 42 + b + 6 * ((n + 63) / 64) < 2 ^ 48 → (b < 2 ^ 48) × (n < 2 ^ 60)
small b n fits = (omega (arith, fits), omega (arith, fits))

pub shift_kept : (mutation : Mutation) (old new : Extents) (shift : Shift) (count total : ℕ) → AreKept old count total → IsShift (change_of mutation) old new shift
    → (brings (change_of mutation) ≡ true → HasFewPairs (change_of mutation) × (live (caches_in old) + room_for (change_of mutation) < 2 ^ 48))
    → IsShiftKept mutation old new shift count total
shift_kept mutation old new shift count total kept s ready =
    let name : List ℕ = cache_changed (change_of mutation) in
    let rises : IsRising (keys_of new) = subst (λ (es : Extents). IsRising (keys_of es)) (sym s.entries) (subst IsRising (sym (keys-set_value (same name) old s.now)) kept.rises) in
    let before_whole = subst WholeHere s.was (whole-lookup (same name) old kept.whole) in
    let now_whole = whole-after mutation s.before s.now before_whole s.of.after in
    let whole = subst (λ (es : Extents). AllByRecursion (λ e. IsWhole e.1) es) (sym s.entries) (whole-set_value (same name) old s.now kept.whole now_whole) in
    let written = λ (other : List ℕ). ap (λ (es : Extents). lookup (same other) es) s.entries ∙ IsWritten-set_value name old s.before s.now s.was other in
    let changed = IsChangedBy-written mutation old new s.before s.now kept.rises rises kept.whole whole s.was written s.of.after in
    let fits = live_within mutation (caches_in old) (caches_in new) (names_rise-caches_in old kept.rises) (names_rise-caches_in new rises) (keys_rise-caches_in old kept.whole) (keys_rise-caches_in new whole) changed kept.fits ready in
    let is : lookup (same name) new ≡ Some s.now = written name ∙ ap (λ b. cond b (Some s.now) (lookup (same name) old)) (same-itself name) in
    let others = λ (other : List ℕ) (apart : same name other ≡ false). written other ∙ ap (λ b. cond b (Some s.now) (lookup (same other) old)) apart in
    let few = small (sum_by spelled_length (plain_list (caches_in new))) (length (plain_list (caches_in new))) fits in
    let few_before = small (sum_by spelled_length (plain_list (caches_in old))) (length (plain_list (caches_in old))) kept.fits in
    let items = moved (λ _. 1) name old new s.before s.now kept.rises rises s.was is others in
    let bytes = moved spelled_length name old new s.before s.now kept.rises rises s.was is others in
    let gone_items = s.of.gone_items ∙ items-measure name (extent_shown s.before) in
    let come_items = s.of.come_items ∙ items-measure name (extent_shown s.now) in
    let gone_bytes = s.of.gone_bytes (omega (arith, bytes.gone, few_before.0)) in
    let come_bytes = s.of.come_bytes (omega (arith, bytes.come, few.0)) in
    let listed = length_is_sum (plain_list (caches_in old)) in
    let listed_new = length_is_sum (plain_list (caches_in new)) in
    record {
      changed = changed;
      items_gone = omega (arith, gone_items, items.gone, listed, kept.items);
      items_fit = omega (arith, gone_items, come_items, items.moved, listed, listed_new, kept.items, few.1);
      bytes_gone = omega (arith, gone_bytes, bytes.gone, kept.bytes);
      bytes_fit = omega (arith, gone_bytes, come_bytes, bytes.moved, kept.bytes, few.0);
      kept = λ n b items_are bytes_are. record {
        whole = whole;
        rises = rises;
        items = omega (arith, gone_items, come_items, items.moved, listed, listed_new, kept.items, items_are);
        bytes = omega (arith, gone_bytes, come_bytes, bytes.moved, kept.bytes, bytes_are);
        fits = fits;
      };
    }
