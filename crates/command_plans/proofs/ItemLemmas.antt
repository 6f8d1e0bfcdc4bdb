-- One item of a list is changed.
use Rattle.std.proofs.Common.{◌≡◌, ◌≢◌, ℕ, zero, suc, List, [], ◌∷◌, length, slice_get, Some, refl, sym, ap}
use Rattle.roster_form.proofs.PassLemmas.{some_is}
use Rattle.cluster_model.specs.SiteSteps.{changed_at}

-- there are as many
pub changed_length : {T : Type 0} (items : List T) (index : ℕ) (change : T → T) → length (changed_at items index change) ≡ length items
changed_length [] index change = refl
changed_length (first ∷ others) zero change = refl
changed_length (first ∷ others) (suc index) change = ap suc (changed_length others index change)

-- at this index it is what the item becomes
pub changed_item : {T : Type 0} (items : List T) (index : ℕ) (change : T → T) (item : T) → slice_get items index ≡ Some item → slice_get (changed_at items index change) index ≡ Some (change item)
changed_item [] index change item e = absurd cc
changed_item (first ∷ others) zero change item e = ap (λ t. Some (change t)) (some_is first item e)
changed_item (first ∷ others) (suc index) change item e = changed_item others index change item e

-- what stands there became so of an item
pub item_changed : {T : Type 0} (items : List T) (index : ℕ) (change : T → T) (item : T) → slice_get (changed_at items index change) index ≡ Some item → (old : T) × (slice_get items index ≡ Some old) × (item ≡ change old)
item_changed [] index change item e = absurd cc
item_changed (first ∷ others) zero change item e = (first, refl, sym (some_is (change first) item e))
item_changed (first ∷ others) (suc index) change item e = item_changed others index change item e

-- at others nothing changes
pub others_stay : {T : Type 0} (items : List T) (index other : ℕ) (change : T → T) → other ≢ index → slice_get (changed_at items index change) other ≡ slice_get items other
others_stay [] index other change ne = refl
others_stay (first ∷ others) zero zero change ne = absurd (ne refl)
others_stay (first ∷ others) zero (suc other) change ne = refl
others_stay (first ∷ others) (suc index) zero change ne = refl
others_stay (first ∷ others) (suc index) (suc other) change ne = others_stay others index other change (λ e. ne (ap suc e))
