-- The first roster of a cluster, which was begun, goes to those of its hosts that may lack it.
use Rattle.std.proofs.Common.{◌≡◌, ◌⊎◌, inl, inr, ⊎_elim, ◌==◌, ◌||◌, Bool, true, false, not, List, [], ◌∷◌, ◌++◌, map, Option, Some, None, refl, sym, ◌∙◌, ap, subst, if◌then◌else◌}
use Rattle.std.specs.Prelude.{Contains}
use Rattle.std.specs.List.{filter}
use Rattle.std.specs.Cmp.Lexicographic.{bytes_decides}
use Rattle.cache_model.specs.Caches.{same}
use Rattle.roster_form.specs.Membership.{Host}
use Rattle.roster_form.specs.Shown.{Sights, MayShow}
use Rattle.roster_form.specs.declared.roster.Roster.{Roster}
use Rattle.roster_form.specs.Succession.{Rosters, KeepsRosters, IsNextHost, ShowsAlso}
use Rattle.roster_form.proofs.PassLemmas.{given_is_listed}
use Rattle.roster_form.proofs.ContainsLemmas.{contains_first, contains_same, contains_later, contains_cases, contains_none}
use Rattle.roster_form.proofs.SuccessionLemmas.{write_keeps, finish_keeps}
use Rattle.cluster_model.specs.Lane.{LaneStanding}
use Rattle.cluster_model.specs.Agreement.{Durable}
use Rattle.cluster_model.specs.Acts.{SiteHost, writes, finishes, sights_with, KeepsRostersAt, KeepsRostersThroughout}
use Rattle.cluster_model.specs.Turns.{ReachesAll, lacks, rest_acts}

-- ---- what a host shows

-- what a host shows after another or itself was written to
shown_case : (b : Bool) (sights : Sights) (host other : Host) (shown : List (Option Roster)) (one : Option Roster) → same host other ≡ b → Contains (if b then shown else sights other) one → ((other ≡ host) × Contains shown one) ⊎ Contains (sights other) one
shown_case true sights host other shown one e is = inl (sym ((bytes_decides host other).0 e), is)
shown_case false sights host other shown one e is = inr is

-- what a host shows once this host shows these
shown_after : (sights : Sights) (host : Host) (shown : List (Option Roster)) (other : Host) (one : Option Roster) → MayShow (sights_with sights host shown) other one → ((other ≡ host) × Contains shown one) ⊎ MayShow sights other one
shown_after sights host shown other one is = shown_case (same host other) sights host other shown one refl is

-- where one roster alone is shown it is that
it_alone : (new : Roster) (one : Option Roster) → Contains (Some new ∷ []) one → one ≡ Some new
it_alone new one is = ⊎_elim (λ it. it) (λ none. absurd (contains_none one none)) (contains_cases (Some new) [] one is)

-- a host that was written to shows no more than the roster
also_done : (sights : Sights) (host : Host) (new : Roster) → ShowsAlso host (Some new) sights (sights_with sights host (Some new ∷ []))
also_done sights host new other one is = ⊎_elim (λ here. inr (here.0, it_alone new one here.1)) (λ there. inl there) (shown_after sights host (Some new ∷ []) other one is)

-- one that may have been written to shows the roster or what it showed
also_tried : (sights : Sights) (host : Host) (new : Roster) → ShowsAlso host (Some new) sights (sights_with sights host (Some new ∷ sights host))
also_tried sights host new other one is = ⊎_elim
    (λ here. ⊎_elim (λ it. inr (here.0, it)) (λ old. inl (subst (λ (h : Host). MayShow sights h one) (sym here.0) old)) (contains_cases (Some new) (sights host) one here.1))
    (λ there. inl there)
    (shown_after sights host (Some new ∷ sights host) other one is)

-- it shows nothing but this roster
abbrev HasAlone : Sights → Roster → Host → Type 0
HasAlone sights new host = (one : Option Roster) → MayShow sights host one → one ≡ Some new

-- the host itself
own_case : (b : Bool) (shown : List (Option Roster)) (new : Roster) (one : Option Roster) → b ≡ true → Contains (if b then Some new ∷ [] else shown) one → one ≡ Some new
own_case true shown new one e is = it_alone new one is
own_case false shown new one e is = absurd cc

-- a host has it alone once it was written to it, and others stay as they were
alone_after : (sights : Sights) (host : Host) (new : Roster) (other : Host) → (other ≡ host) ⊎ HasAlone sights new other → HasAlone (sights_with sights host (Some new ∷ [])) new other
alone_after sights host new other (inl it) one may = own_case (same host other) (sights other) new one ((bytes_decides host other).1 (sym it)) may
alone_after sights host new other (inr only) one may = ⊎_elim (λ here. it_alone new one here.1) (λ old. only one old) (shown_after sights host (Some new ∷ []) other one may)

-- ---- the writes

-- the first roster is being written
abbrev writing_first : Roster → Rosters
writing_first new = record { finished = []; writing = Some new }

-- it is written to these hosts, and then each of its hosts has it alone
first_writes : (new : Roster) (hosts : List SiteHost) (sights : Sights) (standings : List LaneStanding) → KeepsRosters (writing_first new) sights → ((each : SiteHost) → Contains hosts each → Contains new.hosts each.name)
    → ((host : Host) → Contains new.hosts host → HasAlone sights new host ⊎ Contains (map (λ each. each.name) hosts) host)
    → KeepsRostersThroughout (map writes hosts ++ finishes ∷ []) (record { rosters = writing_first new; sights = sights; standings = standings })
first_writes new [] sights standings keeps among all =
    (keeps, keeps, finish_keeps [] new sights keeps (λ host one is may. ⊎_elim (λ only. only one may) (λ none. absurd (contains_none host none)) (all host is)))
first_writes new (host ∷ hosts) sights standings keeps among all =
    let next : IsNextHost (writing_first new) sights new host.name = record { given = inl (among host (contains_first host hosts)); turn = λ last e. absurd (let n : None ≡ Some last = e in cc) } in (
      keeps,
      write_keeps (writing_first new) new host.name sights (sights_with sights host.name (Some new ∷ sights host.name)) keeps refl next (also_tried sights host.name new),
      first_writes new hosts (sights_with sights host.name (Some new ∷ [])) standings
          (write_keeps (writing_first new) new host.name sights (sights_with sights host.name (Some new ∷ [])) keeps refl next (also_done sights host.name new))
          (λ each is. among each (contains_later host hosts each is))
          (λ one is. ⊎_elim
          (λ only. inl (alone_after sights host.name new one (inr only)))
          (λ has. ⊎_elim (λ here. inl (alone_after sights host.name new one (inl here))) (λ there. inr there) (contains_cases host.name (map (λ each. each.name) hosts) one has))
          (all one is)),
    )

-- ---- who may lack it

-- a longer list lacks it where the rest does
lacks_less : (b : Bool) (new : Roster) (shown : List (Option Roster)) → (not b || lacks new shown) ≡ false → lacks new shown ≡ false
lacks_less true new shown e = e
lacks_less false new shown e = absurd cc

-- a host that doesn't lack it shows rosters alone
some_roster : (new : Roster) (shown : List (Option Roster)) (one : Option Roster) → lacks new shown ≡ false → Contains shown one → (roster : Roster) × (one ≡ Some roster)
some_roster new [] one e is = absurd (contains_none one is)
some_roster new (None ∷ shown) one e is = absurd cc
some_roster new (Some roster ∷ shown) one e is =
    ⊎_elim (λ here. (roster, here)) (λ there. some_roster new shown one (lacks_less (roster.epoch == new.epoch) new shown e) there) (contains_cases (Some roster) shown one is)

-- no other roster was given to any host
shows_first : (new : Roster) (sights : Sights) (host : Host) → KeepsRosters (writing_first new) sights → lacks new (sights host) ≡ false → HasAlone sights new host
shows_first new sights host keeps e one may =
    let r = some_roster new (sights host) one e may in
    let given = given_is_listed (new ∷ []) r.0 host (keeps.known host r.0 (subst (λ (s : Option Roster). MayShow sights host s) r.1 may)) in
    r.1 ∙ ap (λ (t : Roster). Some t) (⊎_elim (λ it. it) (λ none. absurd (contains_none r.0 none)) (contains_cases new [] r.0 given))

-- what passes a test is of the list
of_filtered : (test : SiteHost → Bool) (hosts : List SiteHost) (each : SiteHost) → Contains (filter test hosts) each → Contains hosts each
of_filtered test [] each is = absurd (contains_none each is)
of_filtered test (first ∷ hosts) each is = go (test first) (λ there. of_filtered test hosts each there) is
  where
    go : (b : Bool) → (Contains (filter test hosts) each → Contains hosts each) → Contains (if b then first ∷ filter test hosts else filter test hosts) each → Contains (first ∷ hosts) each
    go true later has = ⊎_elim (λ here. contains_same first hosts each here) (λ there. contains_later first hosts each (later there)) (contains_cases first (filter test hosts) each has)
    go false later has = contains_later first hosts each (later has)

-- a named host passes the test, or fails it
lacks_or_not : (new : Roster) (sights : Sights) (hosts : List SiteHost) (host : Host) → Contains (map (λ each. each.name) hosts) host
    → (lacks new (sights host) ≡ false) ⊎ Contains (map (λ each. each.name) (filter (λ (each : SiteHost). lacks new (sights each.name)) hosts)) host
lacks_or_not new sights [] host is = absurd (contains_none host is)
lacks_or_not new sights (first ∷ hosts) host is = go (lacks new (sights first.name)) refl (λ there. lacks_or_not new sights hosts host there) (contains_cases first.name (map (λ each. each.name) hosts) host is)
  where
    names : List SiteHost → List Host
    names l = map (λ each. each.name) l

    test : SiteHost → Bool
    test each = lacks new (sights each.name)

    go : (b : Bool) → lacks new (sights first.name) ≡ b → (Contains (names hosts) host → (lacks new (sights host) ≡ false) ⊎ Contains (names (filter test hosts)) host) → (host ≡ first.name) ⊎ Contains (names hosts) host
        → (lacks new (sights host) ≡ false) ⊎ Contains (names (if b then first ∷ filter test hosts else filter test hosts)) host
    go true t later (inl here) = inr (contains_same first.name (names (filter test hosts)) host here)
    go false t later (inl here) = inl (ap (λ (h : Host). lacks new (sights h)) here ∙ t)
    go true t later (inr there) = ⊎_elim (λ no. inl no) (λ has. inr (contains_later first.name (names (filter test hosts)) host has)) (later there)
    go false t later (inr there) = later there

-- so the rosters are kept throughout
pub first_rest_keeps : (new : Roster) (hosts : List SiteHost) (durable : Durable) → durable.rosters ≡ record { finished = []; writing = Some new } → KeepsRostersAt durable → ((each : SiteHost) → Contains hosts each → Contains new.hosts each.name) → ReachesAll new hosts
    → KeepsRostersThroughout (rest_acts new hosts durable.sights) durable
first_rest_keeps new hosts durable e keeps among all =
    subst (λ (d : Durable). KeepsRostersThroughout (rest_acts new hosts durable.sights) d) (λ i. record { rosters = sym e i; sights = durable.sights; standings = durable.standings })
    (first_writes new (filter (λ host. lacks new (durable.sights host.name)) hosts) durable.sights durable.standings kept
    (λ each is. among each (of_filtered (λ host. lacks new (durable.sights host.name)) hosts each is))
    (λ host is. ⊎_elim (λ no. inl (shows_first new durable.sights host kept no)) (λ has. inr has) (lacks_or_not new durable.sights hosts host (all host is))))
  where
    kept : KeepsRosters (writing_first new) durable.sights
    kept = subst (λ (r : Rosters). KeepsRosters r durable.sights) e keeps
