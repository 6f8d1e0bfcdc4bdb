-- What holds throughout some acts holds wherever they are cut short; and which changes are in flight.
use Rattle.std.proofs.Common.{◌≡◌, inl, inr, ⊎_elim, ℕ, List, [], ◌∷◌, ◌++◌, sym, ◌∙◌, ap, subst}
use Rattle.std.specs.Prelude.{Contains}
use Rattle.cache_model.specs.Change.{Change}
use Rattle.roster_form.proofs.ContainsLemmas.{contains_cases, contains_none}
use Rattle.cluster_model.specs.Lane.{HostedStore, LaneStanding, HasOneFlight}
use Rattle.cluster_model.specs.LaneSteps.{standing_for, with_doubt}
use Rattle.cluster_model.specs.Agreement.{Durable}
use Rattle.cluster_model.specs.Acts.{Act, done, all_done, appended, AreCutShort, KeepsRostersAt, KeepsRostersThroughout}

at_start : (acts : List Act) (durable : Durable) → KeepsRostersThroughout acts durable → KeepsRostersAt durable
at_start [] durable keeps = keeps
at_start (act ∷ acts) durable keeps = keeps.0

-- after some acts
after_some : (before after : List Act) (durable : Durable) → KeepsRostersThroughout (before ++ after) durable → KeepsRostersThroughout after (all_done before durable)
after_some [] after durable keeps = keeps
after_some (act ∷ before) after durable keeps = after_some before after (done act durable) keeps.2

-- wherever they are cut short
pub cut_short_keeps : (acts : List Act) (durable kept : Durable) → AreCutShort acts durable kept → KeepsRostersThroughout acts durable → KeepsRostersAt kept
cut_short_keeps acts durable kept cut keeps =
    let rest : KeepsRostersThroughout cut.after (all_done cut.before durable) = after_some cut.before cut.after durable (subst (λ (l : List Act). KeepsRostersThroughout l durable) cut.whole keeps) in
    ⊎_elim
    (λ here. subst KeepsRostersAt (sym here) (at_start cut.after (all_done cut.before durable) rest))
    (λ next.
    let there : KeepsRostersThroughout (next.0 ∷ next.1) (all_done cut.before durable) = subst (λ (l : List Act). KeepsRostersThroughout l (all_done cut.before durable)) next.2 rest in
    subst KeepsRostersAt (sym next.3) there.1)
    cut.next

-- a group that is being added to a store with nothing in flight is what is in flight
pub appending_flies : (standing : LaneStanding) (group : List Change) (size : ℕ) → standing.perhaps ≡ [] → HasOneFlight (with_doubt standing (appended standing.store group size))
appending_flies standing group size none = record {
  flight = group;
  each = λ store is. ⊎_elim
      (λ here. inr (ap (λ (s : HostedStore). s.changes) here))
      (λ there. absurd (contains_none store (subst (λ (l : List HostedStore). Contains l store) none there)))
      (contains_cases (appended standing.store group size) standing.perhaps store is);
}

-- a store of the same contents that is being sealed leaves that as it is
pub sealing_flies : (standing : LaneStanding) (store : HostedStore) → HasOneFlight standing → store.changes ≡ standing.store.changes → HasOneFlight (with_doubt standing store)
sealing_flies standing store one same = record {
  flight = one.flight;
  each = λ other is. ⊎_elim (λ here. inl (ap (λ (s : HostedStore). s.changes) here ∙ same)) (λ there. one.each other there) (contains_cases store standing.perhaps other is);
}

-- one that is sealed ends it
pub sealed_flies : (store : HostedStore) → HasOneFlight (standing_for store)
sealed_flies store = record { flight = []; each = λ other none. absurd (contains_none other none) }
