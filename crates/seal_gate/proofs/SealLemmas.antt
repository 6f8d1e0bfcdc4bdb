-- What follows of sealed, erased and settled files.
use Rattle.std.proofs.Common.{◌≡◌, ◌≢◌, ℕ, ◌≤◌, ◌<◌, ◌∷◌, List, length, drop, get_or, refl, sym, ◌∙◌, ap, arith, length-drop}
use Rattle.disk_trait.specs.View.{View}
use Rattle.disk_trait.specs.Calls.{Moved}
use Rattle.disk_trait.specs.Moments.{After, Throughout}
use Rattle.disk_trait.proofs.Runs.{holds_now}
use Rattle.seal_gate.specs.Seal.{IsSealed, IsShort, StaysShort, ButFirst, IsSettled, Each}

-- a file that is too short isn't sealed
pub short_is_unsealed : (bytes : List ℕ) → IsShort bytes → IsSealed bytes → ⊥
short_is_unsealed bytes short sealed = omega (arith, short, sealed.long)

-- nor is one that was blanked or erased
pub erased_is_unsealed : (old bytes : List ℕ) → bytes ≡ 0 ∷ drop 1 old → IsSealed bytes → ⊥
erased_is_unsealed old bytes is sealed = sealed.first (ap (λ (l : List ℕ). get_or l 0 0) is)

-- one that was long enough is sealed by `seal`
pub sealed_is_sealed : (old bytes : List ℕ) → 41 ≤ length old → bytes ≡ 1 ∷ drop 1 old → IsSealed bytes
sealed_is_sealed old bytes long is = record {
  first = λ zero. let one : get_or bytes 0 0 ≡ 1 = ap (λ (l : List ℕ). get_or l 0 0) is in omega (arith, zero, one);
  long = omega (arith, ap length is, length-drop 1 old);
}

-- such a file differs from what it was in its first byte alone
pub first_set : (first : ℕ) (old bytes : List ℕ) → 0 < length old → bytes ≡ first ∷ drop 1 old → ButFirst old bytes
first_set first old bytes some is = record { rest = ap (λ (l : List ℕ). drop 1 l) is; as_long = omega (arith, ap length is, length-drop 1 old) }

-- nothing has changed
pub but_first_none : (bytes : List ℕ) → ButFirst bytes bytes
but_first_none bytes = record { rest = refl; as_long = refl }

-- one change after another
pub but_first_joined : (x y z : List ℕ) → ButFirst x y → ButFirst y z → ButFirst x z
but_first_joined x y z first second = record { rest = second.rest ∙ first.rest; as_long = second.as_long ∙ first.as_long }

-- a file that is too short is blanked again
pub stays_short_joined : (x y z : List ℕ) → StaysShort x y → StaysShort y z → StaysShort x z
stays_short_joined x y z first second = record { short = second.short; rest = second.rest ∙ first.rest }

-- a file with one image is settled
pub settled_at : (v : View) (file : ℕ) (bytes : List ℕ) → Each v file (λ image. image ≡ bytes) → IsSettled v file
settled_at v file bytes each m is = each m is ∙ sym (each v.seen (v.told m is))

-- a file stays settled while another one moves
pub settled_elsewhere : (a b : View) (file other : ℕ) (step : List ℕ → List ℕ → Type 0) → other ≢ file → IsSettled a other → Throughout a b (After a (Moved file step))
    → b.seen other ≡ a.seen other → IsSettled b other
settled_elsewhere a b file other step ne settled all seen m is =
    let from = holds_now a b (After a (Moved file step)) all m is in
    from.2.others other ne ∙ settled from.0 from.1 ∙ sym seen

-- and while no image is new
pub settled_same : (a b : View) (file : ℕ) → IsSettled a file → Throughout a b a.images → b.seen file ≡ a.seen file → IsSettled b file
settled_same a b file settled all seen m is = settled m (holds_now a b a.images all m is) ∙ sym seen
