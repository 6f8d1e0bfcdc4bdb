-- What holds throughout some acts holds at each of their ends, within them, and wherever they are cut short.
use Rattle.std.proofs.Common.{◌≡◌, ⊎_elim, List, [], ◌∷◌, ◌++◌, refl, sym, subst}
use Rattle.cluster_model.specs.Agreement.{Durable}
use Rattle.cluster_model.specs.Acts.{Act, tried, done, all_done, AreCutShort, KeepsRostersAt, KeepsRostersThroughout}
use Rattle.command_plans.specs.Kept.{HoldsThroughout}

-- it is so before the first act
pub holds_first : (P : Durable → Type 0) (acts : List Act) (durable : Durable) → HoldsThroughout P acts durable → P durable
holds_first P [] durable holds = holds
holds_first P (act ∷ acts) durable holds = holds.0

-- after some acts it is so throughout the others
pub holds_after : (P : Durable → Type 0) (before after : List Act) (durable : Durable) → HoldsThroughout P (before ++ after) durable → HoldsThroughout P after (all_done before durable)
holds_after P [] after durable holds = holds
holds_after P (act ∷ before) after durable holds = holds_after P before after (done act durable) holds.2

-- after the last act
pub holds_last : (P : Durable → Type 0) (acts : List Act) (durable : Durable) → HoldsThroughout P acts durable → P (all_done acts durable)
holds_last P [] durable holds = holds
holds_last P (act ∷ acts) durable holds = holds_last P acts (done act durable) holds.2

-- within one of them
pub holds_within : (P : Durable → Type 0) (acts before after : List Act) (act : Act) (durable : Durable) → acts ≡ before ++ act ∷ after → HoldsThroughout P acts durable → P (tried act (all_done before durable))
holds_within P acts before after act durable whole holds =
    let rest : HoldsThroughout P (act ∷ after) (all_done before durable) = holds_after P before (act ∷ after) durable (subst (λ (l : List Act). HoldsThroughout P l durable) whole holds) in rest.1

-- wherever they are cut short
pub holds_cut : (P : Durable → Type 0) (acts : List Act) (durable computed : Durable) → AreCutShort acts durable computed → HoldsThroughout P acts durable → P computed
holds_cut P acts durable computed cut holds =
    let rest : HoldsThroughout P cut.after (all_done cut.before durable) = holds_after P cut.before cut.after durable (subst (λ (l : List Act). HoldsThroughout P l durable) cut.whole holds) in
    ⊎_elim
    (λ here. subst P (sym here) (holds_first P cut.after (all_done cut.before durable) rest))
    (λ next.
    let there : HoldsThroughout P (next.0 ∷ next.1) (all_done cut.before durable) = subst (λ (l : List Act). HoldsThroughout P l (all_done cut.before durable)) next.2 rest in
    subst P (sym next.3) there.1)
    cut.next

-- of one list after another
pub holds_then : (P : Durable → Type 0) (acts more : List Act) (durable : Durable) → HoldsThroughout P acts durable → HoldsThroughout P more (all_done acts durable) → HoldsThroughout P (acts ++ more) durable
holds_then P [] more durable first next = next
holds_then P (act ∷ acts) more durable first next = (first.0, first.1, holds_then P acts more (done act durable) first.2 next)

-- what they come to
pub all_done_then : (acts more : List Act) (durable : Durable) → all_done (acts ++ more) durable ≡ all_done more (all_done acts durable)
all_done_then [] more durable = refl
all_done_then (act ∷ acts) more durable = all_done_then acts more (done act durable)

-- the rosters are kept before the first
pub rosters_first : (acts : List Act) (durable : Durable) → KeepsRostersThroughout acts durable → KeepsRostersAt durable
rosters_first [] durable keeps = keeps
rosters_first (act ∷ acts) durable keeps = keeps.0
