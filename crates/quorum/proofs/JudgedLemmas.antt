-- The verdict is exact.
use Rattle.std.proofs.Common.{◌≡◌, ◌↔◌, ⊎_elim, ℕ, Bool, true, false, List, [], ◌∷◌, Option, Some, None, refl, sym, ◌∙◌, ap, subst, if◌then◌else◌}
use Rattle.std.specs.Prelude.{Contains}
use Rattle.roster_form.specs.Membership.{Host}
use Rattle.roster_form.proofs.ContainsLemmas.{contains_first, contains_same, contains_later, contains_cases, contains_none}
use Rattle.roster_form.specs.Choice.{Sighting, later_of, chosen_roster, is_back, missing_hosts}
use Rattle.roster_form.specs.declared.roster.Roster.{Roster}
use Rattle.quorum.specs.Judged.{verdict_with, verdict_by, verdict_of, MayOpenAs}
use Rattle.quorum.specs.declared.verdict.Verdict.TheVariants.{Met, Short, NotCreated}

-- a host is missing where it is one of these and isn't back
abbrev pub IsMissing : Roster → List Sighting → List Host → Host → Type 0
IsMissing roster sightings hosts host = Contains hosts host × (is_back roster sightings host ≡ false)

pub missing_are : (roster : Roster) (sightings : List Sighting) (hosts : List Host) (host : Host) → Contains (missing_hosts roster sightings hosts) host ↔ IsMissing roster sightings hosts host
missing_are roster sightings [] host = (λ none. absurd (contains_none host none), λ none. absurd (contains_none host none.0))
missing_are roster sightings (first ∷ hosts) host = go (missing_are roster sightings hosts host) (is_back roster sightings first) refl
  where
    go : (rest : Contains (missing_hosts roster sightings hosts) host ↔ IsMissing roster sightings hosts host) → (b : Bool) → is_back roster sightings first ≡ b → Contains (if b then missing_hosts roster sightings hosts else first ∷ missing_hosts roster sightings hosts) host ↔ IsMissing roster sightings (first ∷ hosts) host
    go rest true e = (
      λ is. let r = rest.0 is in (contains_later first hosts host r.0, r.1),
      λ is. ⊎_elim (λ here. absurd (let t : is_back roster sightings first ≡ false = ap (λ (h : Host). is_back roster sightings h) (sym here) ∙ is.1 in cc)) (λ there. rest.1 (there, is.1)) (contains_cases first hosts host is.0),
    )
    go rest false e = (
      λ is. ⊎_elim
          (λ here. (contains_same first hosts host here, ap (λ (h : Host). is_back roster sightings h) here ∙ e))
          (λ there. let r = rest.0 there in (contains_later first hosts host r.0, r.1))
          (contains_cases first (missing_hosts roster sightings hosts) host is),
      λ is. ⊎_elim
          (λ here. contains_same first (missing_hosts roster sightings hosts) host here)
          (λ there. contains_later first (missing_hosts roster sightings hosts) host (rest.1 (there, is.1)))
          (contains_cases first hosts host is.0),
    )

true_or_false : (b : Bool) → (b ≡ false → ⊥) → b ≡ true
true_or_false true f = refl
true_or_false false f = absurd (f refl)

-- met exactly where the hosts may open the cluster
record IsMet (roster : Roster) (epoch : ℕ) (hosts missing : List Host) : Type 0 where
  same_epoch : roster.epoch ≡ epoch
  same_hosts : roster.hosts ≡ hosts
  none : missing ≡ []

with_met : (roster : Roster) (epoch : ℕ) (hosts missing : List Host) → verdict_with roster missing ≡ Met epoch hosts → IsMet roster epoch hosts missing
with_met roster epoch hosts [] e = record { same_epoch = cc; same_hosts = cc; none = refl }
with_met roster epoch hosts (host ∷ others) e = absurd cc

by_met : (chosen : Option Roster) (sightings : List Sighting) (epoch : ℕ) (hosts : List Host) → verdict_by chosen sightings ≡ Met epoch hosts → (roster : Roster) × (chosen ≡ Some roster) × IsMet roster epoch hosts (missing_hosts roster sightings roster.hosts)
by_met None sightings epoch hosts e = absurd cc
by_met (Some roster) sightings epoch hosts e = (roster, refl, with_met roster epoch hosts (missing_hosts roster sightings roster.hosts) e)

with_empty : (roster : Roster) (missing : List Host) → missing ≡ [] → verdict_with roster missing ≡ Met roster.epoch roster.hosts
with_empty roster [] e = refl
with_empty roster (host ∷ hosts) e = absurd cc

all_back : (missing : List Host) → ((host : Host) → Contains missing host → ⊥) → missing ≡ []
all_back [] none = refl
all_back (host ∷ hosts) none = absurd (none host (contains_first host hosts))

pub met_passes : (sightings : List Sighting) (epoch : ℕ) (hosts : List Host) → verdict_of sightings ≡ Met epoch hosts ↔ MayOpenAs sightings epoch hosts
met_passes sightings epoch hosts = (
  λ e.
      let r = by_met (chosen_roster sightings) sightings epoch hosts e in
      let roster = r.0 in (
        roster,
        record {
          chosen = r.1;
          back = λ host is. true_or_false (is_back roster sightings host) (λ no_back.
              contains_none host (subst (λ (l : List Host). Contains l host) r.2.none ((missing_are roster sightings roster.hosts host).1 (is, no_back))));
        },
        r.2.same_epoch,
        r.2.same_hosts,
      ),
  λ opens.
      let roster = opens.0 in
      let passes = opens.1 in
      ap (λ (c : Option Roster). verdict_by c sightings) passes.chosen
      ∙ with_empty roster (missing_hosts roster sightings roster.hosts)
      (all_back (missing_hosts roster sightings roster.hosts) (λ host is.
      let r = (missing_are roster sightings roster.hosts host).0 is in
      let b : is_back roster sightings host ≡ true = passes.back host r.0 in
      let f : is_back roster sightings host ≡ false = r.1 in absurd cc))
      ∙ (λ i. Met (opens.2 i) (opens.3 i)),
)

-- not created exactly where no present host shows a roster
with_other : (roster : Roster) (missing : List Host) → verdict_with roster missing ≡ NotCreated → ⊥
with_other roster [] e = absurd cc
with_other roster (host ∷ hosts) e = absurd cc

by_none : (chosen : Option Roster) (sightings : List Sighting) → verdict_by chosen sightings ≡ NotCreated → chosen ≡ None
by_none None sightings e = refl
by_none (Some roster) sightings e = absurd (with_other roster (missing_hosts roster sightings roster.hosts) e)

picked_some : (b : Bool) (first second : Roster) → (if b then Some second else Some first) ≡ None → ⊥
picked_some true first second e = absurd cc
picked_some false first second e = absurd cc

later_none : (a b : Option Roster) → later_of a b ≡ None → (a ≡ None) × (b ≡ None)
later_none None b e = (refl, e)
later_none (Some first) None e = absurd cc
later_none (Some first) (Some second) e = absurd (picked_some _ first second e)

pub shown_none : (sightings : List Sighting) → chosen_roster sightings ≡ None → (each : Sighting) → Contains sightings each → each.shown ≡ None
shown_none [] e each is = absurd (contains_none each is)
shown_none (first ∷ others) e each is =
    let both = later_none first.shown (chosen_roster others) e in
    ⊎_elim (λ here. ap (λ (f : Sighting). f.shown) here ∙ both.0) (λ there. shown_none others both.1 each there) (contains_cases first others each is)

none_shown : (sightings : List Sighting) → ((each : Sighting) → Contains sightings each → each.shown ≡ None) → chosen_roster sightings ≡ None
none_shown [] all = refl
none_shown (first ∷ others) all = ap (λ (s : Option Roster). later_of s (chosen_roster others)) (all first (contains_first first others)) ∙ none_shown others (λ each is. all each (contains_later first others each is))

pub not_created_is : (sightings : List Sighting) → verdict_of sightings ≡ NotCreated ↔ ((each : Sighting) → Contains sightings each → each.shown ≡ None)
not_created_is sightings = (
  λ e. shown_none sightings (by_none (chosen_roster sightings) sightings e),
  λ all. ap (λ (c : Option Roster). verdict_by c sightings) (none_shown sightings all),
)

-- short: these are the missing hosts of the chosen roster, of which there are some
short_is : (a b : List Host) → Short a ≡ Short b → a ≡ b
short_is a b e = cc

with_short : (roster : Roster) (missing hosts : List Host) → verdict_with roster missing ≡ Short hosts → missing ≡ hosts
with_short roster [] hosts e = absurd cc
with_short roster (host ∷ others) hosts e = short_is (host ∷ others) hosts e

by_short : (chosen : Option Roster) (sightings : List Sighting) (hosts : List Host) → verdict_by chosen sightings ≡ Short hosts → (roster : Roster) × (chosen ≡ Some roster) × (missing_hosts roster sightings roster.hosts ≡ hosts)
by_short None sightings hosts e = absurd cc
by_short (Some roster) sightings hosts e = (roster, refl, with_short roster (missing_hosts roster sightings roster.hosts) hosts e)

pub short_names : (sightings : List Sighting) (hosts : List Host) → verdict_of sightings ≡ Short hosts
    → (roster : Roster) × (chosen_roster sightings ≡ Some roster) × ((host : Host) → Contains hosts host ↔ (Contains roster.hosts host × (is_back roster sightings host ≡ false)))
short_names sightings hosts e =
    let r = by_short (chosen_roster sightings) sightings hosts e in
    (r.0, r.1, λ host. subst (λ (l : List Host). Contains l host ↔ IsMissing r.0 sightings r.0.hosts host) r.2 (missing_are r.0 sightings r.0.hosts host))
