-- The hosts to which a recovery writes: each of the roster's, and a joining one after all others.
use Rattle.std.proofs.Common.{◌≡◌, ◌≢◌, ◌⊎◌, inl, inr, ⊎_elim, ℕ, zero, suc, Bool, true, false, not, List, [], ◌∷◌, ◌++◌, map, slice_get, Option, Some, None, refl, sym, ◌∙◌, ap, subst, if◌then◌else◌}
use Rattle.std.specs.Prelude.{Contains}
use Rattle.std.specs.List.{filter}
use Rattle.std.specs.Cmp.Lexicographic.{bytes_decides}
use Rattle.std.proofs.lemmas.List.Elements.{Contains-append_left, Contains-append_right, Contains-append_cases}
use Rattle.cache_model.specs.Caches.{same}
use Rattle.roster_form.specs.Membership.{Host, host_at, joining_host}
use Rattle.roster_form.specs.declared.roster.Roster.{Roster}
use Rattle.roster_form.specs.Succession.{Changes, joins, settles, leaves}
use Rattle.roster_form.proofs.PassLemmas.{some_is}
use Rattle.roster_form.proofs.ContainsLemmas.{contains_first, contains_same, contains_later, contains_cases, contains_none}
use Rattle.cluster_model.specs.Site.{SiteShape}
use Rattle.cluster_model.specs.Members.{is_other}
use Rattle.cluster_model.specs.Acts.{SiteHost}
use Rattle.cluster_model.specs.Turns.{AreInTurn, ReachesAll}
use Rattle.cluster_model.proofs.SiteLemmas.{same_or_other}
use Rattle.cluster_model.proofs.MembersLemmas.{in_filtered}
use Rattle.command_plans.specs.Plan.{host_named}
use Rattle.command_plans.specs.ChangePlans.{in_turn, hosts_named}

-- what passes a test is of the list, and passes
out_of_filtered : (test : Host → Bool) (hosts : List Host) (host : Host) → Contains (filter test hosts) host → Contains hosts host × (test host ≡ true)
out_of_filtered test [] host is = absurd (contains_none host is)
out_of_filtered test (first ∷ hosts) host is = go (test first) refl (λ there. out_of_filtered test hosts host there) is
  where
    go : (b : Bool) → test first ≡ b → (Contains (filter test hosts) host → Contains hosts host × (test host ≡ true)) → Contains (if b then first ∷ filter test hosts else filter test hosts) host → Contains (first ∷ hosts) host × (test host ≡ true)
    go true t later has = ⊎_elim
        (λ here. (contains_same first hosts host here, ap test here ∙ t))
        (λ there. let r = later there in (contains_later first hosts host r.0, r.1))
        (contains_cases first (filter test hosts) host has)
    go false t later has = let r = later has in (contains_later first hosts host r.0, r.1)

-- what the test says
other_is : (host one : Host) → is_other host one ≡ true → one ≢ host
other_is host one e is = let t : same host one ≡ true = (bytes_decides host one).1 (sym is) in let f : false ≡ true = sym (ap not t) ∙ e in cc

-- ---- which hosts

-- the names of the named hosts
names_back : (shape : SiteShape) (names : List Host) → map (λ (each : SiteHost). each.name) (hosts_named shape names) ≡ names
names_back shape [] = refl
names_back shape (name ∷ names) = ap (λ (l : List Host). name ∷ l) (names_back shape names)

-- each host comes in its turn
in_turn_all : (joining : Option Host) (hosts : List Host) (host : Host) → Contains hosts host → Contains (in_turn joining hosts) host
in_turn_all None hosts host is = is
in_turn_all (Some joining) hosts host is = ⊎_elim
    (λ it. Contains-append_right (filter (is_other joining) hosts) (joining ∷ []) host (contains_same joining [] host it))
    (λ ne. Contains-append_left (filter (is_other joining) hosts) (joining ∷ []) host (in_filtered joining hosts host is ne))
    (same_or_other (same host joining) host joining refl)

-- and no other host does
pub in_turn_part : (joining : Option Host) (hosts : List Host) (host : Host) → ((one : Host) → joining ≡ Some one → Contains hosts one) → Contains (in_turn joining hosts) host → Contains hosts host
in_turn_part None hosts host among is = is
in_turn_part (Some joining) hosts host among is = ⊎_elim
    (λ other. (out_of_filtered (is_other joining) hosts host other).0)
    (λ last. ⊎_elim (λ here. subst (λ (h : Host). Contains hosts h) (sym here) (among joining refl)) (λ none. absurd (contains_none host none)) (contains_cases joining [] host last))
    (Contains-append_cases (filter (is_other joining) hosts) (joining ∷ []) host is)

-- a host by its number
got : (hosts : List Host) (index : ℕ) (host : Host) → slice_get hosts index ≡ Some host → Contains hosts host
got [] index host e = absurd cc
got (first ∷ hosts) zero host e = contains_same first hosts host (sym (some_is first host e))
got (first ∷ hosts) (suc index) host e = contains_later first hosts host (got hosts index host e)

-- a host by its number, if there is one
host_there : (hosts : List Host) (joining : Option ℕ) (host : Host) → host_at hosts joining ≡ Some host → Contains hosts host
host_there hosts None host e = absurd cc
host_there hosts (Some index) host e = got hosts index host e

-- the joining host is one of the roster's
pub joining_in : (roster : Roster) (host : Host) → joining_host roster ≡ Some host → Contains roster.hosts host
joining_in roster host e = host_there roster.hosts roster.joining host e

-- each host of the roster is reached
pub reaches_all : (shape : SiteShape) (joining : Option Host) (roster : Roster) (hosts : List Host) → hosts ≡ roster.hosts → ReachesAll roster (hosts_named shape (in_turn joining hosts))
reaches_all shape joining roster hosts same_hosts host is =
    subst (λ (l : List Host). Contains l host) (sym (names_back shape (in_turn joining hosts))) (in_turn_all joining hosts host (subst (λ (l : List Host). Contains l host) (sym same_hosts) is))

-- ---- in which order

-- hosts of both rosters may come in any order
pub turns_of_both : (shape : SiteShape) (last new : Roster) (before names : List Host) → ((host : Host) → Contains names host → Contains new.hosts host) → ((host : Host) → Contains names host → Contains last.hosts host)
    → AreInTurn last new before (hosts_named shape names)
turns_of_both shape last new before [] news lasts = tt
turns_of_both shape last new before (name ∷ names) news lasts = (
  inl (news name (contains_first name names)),
  inl (lasts name (contains_first name names)),
  turns_of_both shape last new (name ∷ before) names (λ host is. news host (contains_later name names host is)) (λ host is. lasts host (contains_later name names host is)),
)

-- and a new one after all of the last roster
turns_then : (shape : SiteShape) (last new : Roster) (joining : Host) (before names : List Host) → ((host : Host) → Contains names host → Contains new.hosts host) → ((host : Host) → Contains names host → Contains last.hosts host) → Contains new.hosts joining
    → ((host : Host) → Contains last.hosts host → Contains before host ⊎ Contains names host) → AreInTurn last new before (hosts_named shape (names ++ joining ∷ []))
turns_then shape last new joining before [] news lasts among all = (inl among, inr (λ host is. ⊎_elim (λ b. b) (λ none. absurd (contains_none host none)) (all host is)), tt)
turns_then shape last new joining before (name ∷ names) news lasts among all = (
  inl (news name (contains_first name names)),
  inl (lasts name (contains_first name names)),
  turns_then shape last new joining (name ∷ before) names (λ host is. news host (contains_later name names host is)) (λ host is. lasts host (contains_later name names host is)) among
      (λ host is. ⊎_elim
      (λ b. inl (contains_later name before host b))
      (λ has. ⊎_elim (λ here. inl (contains_same name before host here)) (λ there. inr there) (contains_cases name names host has))
      (all host is)),
)

-- the rest of a change goes to the hosts of its roster
pub turns_of_change : (shape : SiteShape) (last new : Roster) → Changes last new → AreInTurn last new [] (hosts_named shape (in_turn (joining_host new) new.hosts))
turns_of_change shape last new (joins host apart none some only all in_new) =
    subst (λ (j : Option Host). AreInTurn last new [] (hosts_named shape (in_turn j new.hosts))) (sym some)
    (turns_then shape last new host [] (filter (is_other host) new.hosts)
    (λ one is. (out_of_filtered (is_other host) new.hosts one is).0)
    (λ one is.
    let both = out_of_filtered (is_other host) new.hosts one is in
    ⊎_elim (λ old. old) (λ it. absurd (other_is host one both.1 it)) (only one both.0))
    in_new
    (λ one is. inr (in_filtered host new.hosts one (all one is) (λ it. apart (subst (λ (h : Host). Contains last.hosts h) it is)))))
turns_of_change shape last new (settles host some none alike) =
    subst (λ (j : Option Host). AreInTurn last new [] (hosts_named shape (in_turn j new.hosts))) (sym none)
    (turns_of_both shape last new [] new.hosts (λ one is. is) (λ one is. subst (λ (l : List Host). Contains l one) alike is))
turns_of_change shape last new (leaves host among still none only all) =
    subst (λ (j : Option Host). AreInTurn last new [] (hosts_named shape (in_turn j new.hosts))) (sym none)
    (turns_of_both shape last new [] new.hosts (λ one is. is) (λ one is. (only one is).0))

-- a host that is named is one of these
pub named_in_turn : (shape : SiteShape) (names : List Host) (each : SiteHost) → Contains (hosts_named shape names) each → Contains names each.name
named_in_turn shape [] each is = absurd (contains_none each is)
named_in_turn shape (name ∷ names) each is = ⊎_elim
    (λ here. contains_same name names each.name (ap (λ (h : SiteHost). h.name) here))
    (λ there. contains_later name names each.name (named_in_turn shape names each there))
    (contains_cases (host_named shape name) (hosts_named shape names) each is)
