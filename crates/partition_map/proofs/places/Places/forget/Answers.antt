use Rattle.std.proofs.Common.{◌≡◌, true, false, ap, ◌∙◌, sym}
use Rattle.partition_map.specs.Place.{PlaceList, is_hidden, hides}
use Rattle.partition_map.proofs.HiddenLemmas.{SameValues-forgotten, hides-forgotten, hides-others}
use Rattle.partition_map.proofs.places.Places.forget.Goals as goal

pub returns-then-is_hidden-clause-values : goal.returns-then-is_hidden-clause-values
returns-then-is_hidden-clause-values c =
    let key = c.args.key.now in
    let hidden : hides c.args.self.now key ≡ true = sym (ap (λ (ps : PlaceList). hides ps key) c.self.view_is) ∙ sym (c.is_hidden.ensures ∙ ap is_hidden c.get.ensures.value) ∙ c.if-is_hidden.true in
    SameValues-forgotten c.args.self.now c.remove.new.self key c.remove.ensures.found c.remove.ensures.entries hidden

pub returns-then-is_hidden-clause-hidden : goal.returns-then-is_hidden-clause-hidden
returns-then-is_hidden-clause-hidden c = λ keys. hides-forgotten keys c.args.self.now c.remove.new.self c.args.key.now c.remove.ensures.found

pub returns-else-is_hidden-clause-hidden : goal.returns-else-is_hidden-clause-hidden
returns-else-is_hidden-clause-hidden c =
    let key = c.args.key.now in
    let shown : hides c.args.self.now key ≡ false = sym (ap (λ (ps : PlaceList). hides ps key) c.self.view_is) ∙ sym (c.is_hidden.ensures ∙ ap is_hidden c.get.ensures.value) ∙ c.if-is_hidden.false in
    λ keys. hides-others keys c.args.self.now key shown
