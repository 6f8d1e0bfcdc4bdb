use Rattle.std.proofs.Common.{◌≡◌, ℕ, List, [], Some, cond, ap, ◌∙◌, sym, subst}
use Rattle.std.specs.Map.{lookup, set_value}
use Rattle.std.proofs.lemmas.Result.{on_ok_weaker}
use Rattle.cache_model.specs.Caches.{same}
use Rattle.cache_model.specs.Change.{change_of}
use Rattle.cache_model.proofs.ContentsLemmas.{same-itself}
use Rattle.cache_model.proofs.ShownLemmas.{same-is_at}
use Rattle.partition_map.specs.Extents.{Extents}
use Rattle.partition_map.specs.Hidden.{keys_put, HideOnlyOf}
use Rattle.partition_map.specs.Order.{cache_changed}
use Rattle.partition_map.specs.Written.{ShowsAgain}
use Rattle.partition_map.proofs.ChangedLemmas.{IsWritten-set_value, ShowsAgain-set_value, ShowsAgain-chain}
use Rattle.partition_map.proofs.HiddenLemmas.{HideOnlyOf-written}
use Rattle.partition_map.proofs.change.ready_extent.Goals as goal

pub returns-in-Some-clause-ready : goal.returns-in-Some-clause-ready
returns-in-Some-clause-ready c =
    let name = cache_changed (change_of c.args.mutation.now) in
    let es = c.add_hidden.new.extents.entries in
    let now = c.ready.new.self in
    let was : lookup (same name) es ≡ Some c.in-Some.extent.now = ap (λ k. lookup (same k) es) (sym c.named-2.ensures) ∙ ap (λ test. lookup test es) (same-is_at c.named-2.result.now) ∙ sym c.in-Some.ensures.value in
    let entries : (c.get_mut.follows.lender now).entries ≡ set_value (same name) es now = (c.get_mut.follows.holds now).0 ∙ ap (λ test. set_value test es now) (sym (same-is_at c.named-2.result.now)) ∙ ap (λ k. set_value (same k) es now) c.named-2.ensures in
    let found : lookup (same name) (c.get_mut.follows.lender now).entries ≡ Some now = ap (lookup (same name)) entries ∙ IsWritten-set_value name es c.in-Some.extent.now now was name ∙ ap (λ b. cond b (Some now) (lookup (same name) es)) (same-itself name) in
    on_ok_weaker c.ready.result (λ applicable. (now, found, applicable)) c.ready.ensures.ready

pub returns-in-Some-clause-shown : goal.returns-in-Some-clause-shown
returns-in-Some-clause-shown c =
    let name = cache_changed (change_of c.args.mutation.now) in
    let es = c.add_hidden.new.extents.entries in
    let now = c.ready.new.self in
    let was : lookup (same name) es ≡ Some c.in-Some.extent.now = ap (λ k. lookup (same k) es) (sym c.named-2.ensures) ∙ ap (λ test. lookup test es) (same-is_at c.named-2.result.now) ∙ sym c.in-Some.ensures.value in
    let entries : (c.get_mut.follows.lender now).entries ≡ set_value (same name) es now = (c.get_mut.follows.holds now).0 ∙ ap (λ test. set_value test es now) (sym (same-is_at c.named-2.result.now)) ∙ ap (λ k. set_value (same k) es now) c.named-2.ensures in
    ShowsAgain-chain c.args.extents.now.entries es _ c.add_hidden.ensures.shown (subst (ShowsAgain es) (sym entries) (ShowsAgain-set_value name es c.in-Some.extent.now now was c.ready.ensures.shown))

pub returns-in-Some-clause-hidden : goal.returns-in-Some-clause-hidden
returns-in-Some-clause-hidden c = λ nothing.
    let name = cache_changed (change_of c.args.mutation.now) in
    let keys = keys_put (change_of c.args.mutation.now) in
    let es = c.add_hidden.new.extents.entries in
    let now = c.ready.new.self in
    let was : lookup (same name) es ≡ Some c.in-Some.extent.now = ap (λ k. lookup (same k) es) (sym c.named-2.ensures) ∙ ap (λ test. lookup test es) (same-is_at c.named-2.result.now) ∙ sym c.in-Some.ensures.value in
    let entries : (c.get_mut.follows.lender now).entries ≡ set_value (same name) es now = (c.get_mut.follows.holds now).0 ∙ ap (λ test. set_value test es now) (sym (same-is_at c.named-2.result.now)) ∙ ap (λ k. set_value (same k) es now) c.named-2.ensures in
    let only : HideOnlyOf name [] es = subst (λ (k : List ℕ). HideOnlyOf k [] es) c.named.ensures (c.add_hidden.ensures.hidden nothing) in
    subst (λ (new : Extents). HideOnlyOf name keys new) (sym entries) (HideOnlyOf-written name [] keys es (set_value (same name) es now) c.in-Some.extent.now now was (IsWritten-set_value name es c.in-Some.extent.now now was) c.ready.ensures.hidden only)
