use Rattle.std.proofs.Common.{ℕ, List, IfNone, sym, subst}
use Rattle.plan_words.specs.Words.{AreNoOptions}
use Rattle.plan_words.proofs.WordsLemmas.{four_words}
use Rattle.plan_words.proofs.words.chosen_by.Goals as goal

pub returns-in-len4-clause-none : goal.returns-in-len4-clause-none
returns-in-len4-clause-none c =
    let four = four_words c.args.options.now _ _ _ _ _ _ _ _ c.in-len4.len_at_least c.in-len4.len_below c.first-item.is c.cut-item.is c.second-item.is c.pick-item.is
    c.as_str-in-len4.ensures.value c.as_str-in-len4-2.ensures.value c.as_str-in-len4-3.ensures.value c.as_str-in-len4-4.ensures.value in
    subst (λ (options : List (List ℕ)). IfNone c.two_chosen.result (AreNoOptions c.args.host.now options)) (sym four) c.two_chosen.ensures.none
