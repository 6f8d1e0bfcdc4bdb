use Rattle.std.proofs.Common.{◌≡◌, ℕ, List, [], Some, None, cond, ap, ◌∙◌, sym, subst}
use Rattle.std.specs.Map.{lookup, set_value}
use Rattle.cache_model.specs.Caches.{same}
use Rattle.cache_model.proofs.ContentsLemmas.{same-itself}
use Rattle.cache_model.proofs.ShownLemmas.{same-is_at}
use Rattle.partition_map.specs.Extents.{Extents, presence_held}
use Rattle.partition_map.specs.Hidden.{HideOnlyOf}
use Rattle.partition_map.specs.Place.{HidesOnly}
use Rattle.partition_map.specs.Written.{ShowsAgain}
use Rattle.partition_map.proofs.ChangedLemmas.{IsWritten-set_value, ShowsAgain-set_value}
use Rattle.partition_map.proofs.HiddenLemmas.{HideOnlyOf-written, HideOnlyOf-absent}
use Rattle.partition_map.proofs.change.forget_places.Goals as goal

pub returns-in-Some-clause-shown : goal.returns-in-Some-clause-shown
returns-in-Some-clause-shown c =
    let name = c.args.readied.now.cache in
    let es = c.args.extents.now.entries in
    let now = c.forget.new.self in
    let was : lookup (same name) es ≡ Some c.in-Some.extent.now = ap (λ test. lookup test es) (same-is_at name) ∙ sym c.in-Some.ensures.value in
    let entries : (c.get_mut.follows.lender now).entries ≡ set_value (same name) es now = (c.get_mut.follows.holds now).0 ∙ ap (λ test. set_value test es now) (sym (same-is_at name)) in
    subst (ShowsAgain es) (sym entries) (ShowsAgain-set_value name es c.in-Some.extent.now now was c.forget.ensures.shown)

pub returns-in-Some-clause-hidden : goal.returns-in-Some-clause-hidden
returns-in-Some-clause-hidden c = λ only.
    let name = c.args.readied.now.cache in
    let keys = c.args.readied.now.keys.items in
    let es = c.args.extents.now.entries in
    let now = c.forget.new.self in
    let was : lookup (same name) es ≡ Some c.in-Some.extent.now = ap (λ test. lookup test es) (same-is_at name) ∙ sym c.in-Some.ensures.value in
    let entries : (c.get_mut.follows.lender now).entries ≡ set_value (same name) es now = (c.get_mut.follows.holds now).0 ∙ ap (λ test. set_value test es now) (sym (same-is_at name)) in
    subst (λ (new : Extents). HideOnlyOf name [] new) (sym entries) (HideOnlyOf-written name keys [] es (set_value (same name) es now) c.in-Some.extent.now now was (IsWritten-set_value name es c.in-Some.extent.now now was) (λ were. c.forget.ensures.hidden (subst (λ (ks : List (List ℕ)). HidesOnly ks c.in-Some.extent.now.places) (sym c.as_slice.ensures.value) were)) only)

pub returns-in-None-clause-hidden : goal.returns-in-None-clause-hidden
returns-in-None-clause-hidden c = λ only.
    let name = c.args.readied.now.cache in
    let es = c.args.extents.now.entries in
    let none : lookup (same name) es ≡ None = ap (λ test. lookup test es) (same-is_at name) ∙ sym c.in-None.ensures.value in
    subst (λ (new : Extents). HideOnlyOf name [] new) (sym (ap (λ m. m.entries) c.get_mut.follows.holds-at-none)) (HideOnlyOf-absent name c.args.readied.now.keys.items [] es none only)

pub returns-in-Some-clause-presence : goal.returns-in-Some-clause-presence
returns-in-Some-clause-presence c =
    let name = c.args.readied.now.cache in
    let es = c.args.extents.now.entries in
    let now = c.forget.new.self in
    let was : lookup (same name) es ≡ Some c.in-Some.extent.now = ap (λ test. lookup test es) (same-is_at name) ∙ sym c.in-Some.ensures.value in
    let entries : (c.get_mut.follows.lender now).entries ≡ set_value (same name) es now = (c.get_mut.follows.holds now).0 ∙ ap (λ test. set_value test es now) (sym (same-is_at name)) in
    let found : lookup (same name) (c.get_mut.follows.lender now).entries ≡ Some now = ap (lookup (same name)) entries ∙ IsWritten-set_value name es c.in-Some.extent.now now was name ∙ ap (λ b. cond b (Some now) (lookup (same name) es)) (same-itself name) in
    c.is_present.ensures ∙ sym (ap presence_held found)

pub returns-in-None-clause-presence : goal.returns-in-None-clause-presence
returns-in-None-clause-presence c =
    let name = c.args.readied.now.cache in
    let es = c.args.extents.now.entries in
    let none : lookup (same name) es ≡ None = ap (λ test. lookup test es) (same-is_at name) ∙ sym c.in-None.ensures.value in
    sym (ap presence_held (ap (λ (m : Extents). lookup (same name) m) (ap (λ m. m.entries) c.get_mut.follows.holds-at-none) ∙ none))
