-- A change of the roster that was begun goes on, and keeps the cluster.
use Rattle.std.proofs.Common.{◌≡◌, ◌⊎◌, inl, inr, ⊎_elim, ℕ, zero, suc, List, [], ◌∷◌, ◌++◌, slice_get, Option, Some, None, refl, sym, ◌∙◌, ap, subst}
use Rattle.std.specs.Prelude.{Contains}
use Rattle.std.specs.List.{filter}
use Rattle.std.proofs.lemmas.List.{append-nil}
use Rattle.roster_form.specs.Membership.{Host, host_at, joining_host}
use Rattle.roster_form.specs.declared.roster.Roster.{Roster}
use Rattle.roster_form.specs.Succession.{Rosters, Succeeds, IsGoodRoster, AreSuccessive, Changes, joins, settles, leaves, listed}
use Rattle.roster_form.proofs.PassLemmas.{some_is}
use Rattle.roster_form.proofs.ContainsLemmas.{contains_first, contains_same, contains_later}
use Rattle.cluster_model.specs.Site.{SiteShape, numbers_of}
use Rattle.cluster_model.specs.Agreement.{two_of, with_finished, IsInEach, IsRosterOf, Durable}
use Rattle.cluster_model.specs.Memory.{PartState}
use Rattle.cluster_model.specs.Acts.{SiteHost, Act, all_done, KeepsRostersThroughout}
use Rattle.cluster_model.specs.Turns.{change_acts, lacks, rest_acts}
use Rattle.cluster_model.proofs.TurnsLemmas.{change_keeps, rest_keeps}
use Rattle.command_plans.specs.ChangePlans.{settled_from, with_last, hosts_named, settle_acts, going_on_acts}
use Rattle.command_plans.specs.Kept.{HoldsThroughout, KeepsCluster, NoneJoins}
use Rattle.command_plans.proofs.NextRosterLemmas.{settled_succeeds, settled_good, settled_of_site}
use Rattle.command_plans.proofs.RosterActLemmas.{Fits, roster_acts_keep, HoldsCalled}
use Rattle.command_plans.proofs.TurnLemmas.{reaches, with_last_has, changing_turn, rest_ends, rest_are, change_are, rest_called, change_called, nobody_joins}
use Rattle.command_plans.proofs.ThroughoutLemmas.{holds_last, holds_then}

-- ---- one change

-- a host that is one of each roster that may pass is one of the finished roster
pub fits_same : (shape : SiteShape) (parts : List PartState) (durable : Durable) (last new : Roster) (older : List Roster) → durable.rosters ≡ record { finished = last ∷ older; writing = None } → KeepsCluster shape parts durable → IsRosterOf shape new
    → ((number : ℕ) → Contains (numbers_of shape.hosts last.hosts) number → Contains (numbers_of shape.hosts new.hosts) number) → Fits shape parts durable.standings new
fits_same shape parts durable last new older is keeps of_site wider = record {
  of_site = of_site;
  owners = λ partition standing e. wider standing.store.host (in_last standing.store.host (keeps.each partition standing e).owner);
  targets = λ partition part move e f. wider move.to (in_last move.to (keeps.targets partition part move e f));
}
  where
    in_last : (number : ℕ) → IsInEach shape.hosts (two_of durable.rosters) number → Contains (numbers_of shape.hosts last.hosts) number
    in_last number each = each last (subst (λ (r : Rosters). Contains (two_of r) last) (sym is) (contains_first last []))

-- a change keeps the cluster
pub change_held : (shape : SiteShape) (parts : List PartState) (durable : Durable) (last new : Roster) (older : List Roster) (hosts : List SiteHost) → KeepsCluster shape parts durable → KeepsRostersThroughout (change_acts new hosts) durable → Fits shape parts durable.standings new
    → HoldsThroughout (KeepsCluster shape parts) (change_acts new hosts) durable
change_held shape parts durable last new older hosts keeps rosters fits = roster_acts_keep shape parts durable.standings (change_acts new hosts) durable refl (change_are shape parts durable.standings new hosts fits) keeps rosters

-- ---- a change that was begun

-- this roster follows that one, and is being written; it is of this host that it goes on
pub record IsGoingOn (durable : Durable) (last new : Roster) (older : List Roster) (host : Host) : Type 0 where
  pub rosters : durable.rosters ≡ record { finished = last ∷ older; writing = Some new }
  pub either : Contains new.hosts host ⊎ Contains last.hosts host
  pub joining : (joining_host new ≡ None) ⊎ (joining_host new ≡ Some host)

-- each host of the new roster is one of the last, or this one
new_hosts : (last new : Roster) (host : Host) → Changes last new → (joining_host new ≡ None) ⊎ (joining_host new ≡ Some host) → (other : Host) → Contains new.hosts other → Contains last.hosts other ⊎ (other ≡ host)
new_hosts last new host (joins one apart none joining from to has) which other is = ⊎_elim
    (λ old. inl old)
    (λ it. inr (it ∙ some_is one host (sym joining ∙ ⊎_elim (λ no. absurd (let e : Some one ≡ None = sym joining ∙ no in cc)) (λ some. some) which)))
    (from other is)
new_hosts last new host (settles one was now alike) which other is = inl (subst (λ (l : List Host). Contains l other) alike is)
new_hosts last new host (leaves one among none now from to) which other is = inl (from other is).0

-- of a join each host of the last roster is one of the new one
old_hosts : (last new : Roster) (host : Host) → Changes last new → joining_host new ≡ Some host → (other : Host) → Contains last.hosts other → Contains new.hosts other
old_hosts last new host (joins one apart none joining from to has) some other is = to other is
old_hosts last new host (settles one was now alike) some other is = absurd (let no : Some host ≡ None = sym some ∙ now in cc)
old_hosts last new host (leaves one among none now from to) some other is = absurd (let no : Some host ≡ None = sym some ∙ now in cc)

pub joining_in : (hosts : List Host) (joining : Option ℕ) (host : Host) → host_at hosts joining ≡ Some host → Contains hosts host
joining_in hosts None host e = absurd cc
joining_in hosts (Some index) host e = at hosts index e
  where
    at : (names : List Host) (index_ : ℕ) → slice_get names index_ ≡ Some host → Contains names host
    at [] index_ e_ = absurd cc
    at (first ∷ names) zero e_ = contains_same first names host (sym (some_is first host e_))
    at (first ∷ names) (suc index_) e_ = contains_later first names host (at names index_ e_)

-- ---- it goes on

pub good_last : (last : Roster) (rosters : List Roster) → AreSuccessive (last ∷ rosters) → IsGoodRoster last
good_last last [] are = are.1
good_last last (first ∷ others) are = are.1

-- what is known of it
record Pending (shape : SiteShape) (parts : List PartState) (durable : Durable) (last new : Roster) (older : List Roster) (host : Host) (hosts : List SiteHost) : Type 0 where
  keeps : KeepsCluster shape parts durable
  writing : durable.rosters.writing ≡ Some new
  after : with_finished durable.rosters new ≡ record { finished = new ∷ last ∷ older; writing = None }
  succeeds : Succeeds last new
  good : IsGoodRoster new
  rosters : KeepsRostersThroughout (rest_acts new hosts durable.sights) durable

pending : (shape : SiteShape) (parts : List PartState) (durable : Durable) (last new : Roster) (older : List Roster) (host : Host) → IsGoingOn durable last new older host → KeepsCluster shape parts durable
    → Pending shape parts durable last new older host (hosts_named shape (with_last host last.hosts))
pending shape parts durable last new older host on keeps =
    let are : AreSuccessive (new ∷ last ∷ older) = subst (λ (r : Rosters). AreSuccessive (listed r)) on.rosters keeps.rosters.rosters.successive in
    record {
      keeps = keeps;
      writing = ap (λ (r : Rosters). r.writing) on.rosters;
      after = ap (λ (r : Rosters). with_finished r new) on.rosters;
      succeeds = are.0;
      good = are.1;
      rosters = rest_keeps last new older (hosts_named shape (with_last host last.hosts)) durable on.rosters keeps.rosters.rosters
          (changing_turn shape last new host last.hosts (λ name is ne. is) (λ name is ne. is) on.either)
          (reaches shape new (with_last host last.hosts) (λ other is. with_last_has host last.hosts other (new_hosts last new host are.0.change on.joining other is)));
    }

-- the roster in which the host has joined is written, after the one in which it was joining
settle_held : (shape : SiteShape) (parts : List PartState) (durable : Durable) (last new : Roster) (older : List Roster) (host : Host) → durable.rosters ≡ record { finished = new ∷ last ∷ older; writing = None } → KeepsCluster shape parts durable → Succeeds last new
    → IsGoodRoster new → joining_host new ≡ Some host → HoldsThroughout (KeepsCluster shape parts) (change_acts (settled_from new) (hosts_named shape (with_last host last.hosts))) durable
settle_held shape parts durable last new older host is keeps succeeds good joining =
    let settled = settled_from new in
    let hosts = hosts_named shape (with_last host last.hosts) in
    let of_site = keeps.rosters.of_site new (subst (λ (r : Rosters). Contains (listed r) new) (sym is) (contains_first new (last ∷ older))) in
    let all = new_hosts last new host succeeds.change (inr joining) in
    let rosters = change_keeps new settled (last ∷ older) hosts durable is keeps.rosters.rosters (settled_succeeds new host joining) (settled_good new host good joining)
    (changing_turn shape new settled host last.hosts (λ name among ne. old_hosts last new host succeeds.change joining name among)
    (λ name among ne. ⊎_elim (λ old. old) (λ it. absurd (ne it)) (all name among)) (inl (joining_in new.hosts new.joining host joining)))
    (reaches shape settled (with_last host last.hosts) (λ other among. with_last_has host last.hosts other (all other among))) in
    change_held shape parts durable new settled (last ∷ older) hosts keeps rosters (fits_same shape parts durable new settled (last ∷ older) is keeps (settled_of_site shape new of_site) (λ number among. among))

-- before, within and after each of its acts
pub going_on_held : (shape : SiteShape) (parts : List PartState) (durable : Durable) (last new : Roster) (older : List Roster) (host : Host) → IsGoingOn durable last new older host → KeepsCluster shape parts durable
    → HoldsThroughout (KeepsCluster shape parts) (going_on_acts durable new (hosts_named shape (with_last host last.hosts))) durable
going_on_held shape parts durable last new older host on keeps = by (joining_host new) refl on.joining
  where
    hosts : List SiteHost
    hosts = hosts_named shape (with_last host last.hosts)

    known : Pending shape parts durable last new older host hosts
    known = pending shape parts durable last new older host on keeps

    rest : HoldsThroughout (KeepsCluster shape parts) (rest_acts new hosts durable.sights) durable
    rest = roster_acts_keep shape parts durable.standings (rest_acts new hosts durable.sights) durable refl (rest_are shape parts durable.standings (filter (λ each. lacks new (durable.sights each.name)) hosts)) keeps known.rosters

    now : Durable
    now = all_done (rest_acts new hosts durable.sights) durable

    ended : now.rosters ≡ record { finished = new ∷ last ∷ older; writing = None }
    ended = rest_ends (filter (λ each. lacks new (durable.sights each.name)) hosts) durable new known.writing ∙ known.after

    kept_now : KeepsCluster shape parts now
    kept_now = holds_last (KeepsCluster shape parts) (rest_acts new hosts durable.sights) durable rest

    by : (joining : Option Host) → joining_host new ≡ joining → (joining_host new ≡ None) ⊎ (joining_host new ≡ Some host) → HoldsThroughout (KeepsCluster shape parts) (rest_acts new hosts durable.sights ++ settle_acts new joining hosts) durable
    by None e which = holds_then (KeepsCluster shape parts) (rest_acts new hosts durable.sights) [] durable rest kept_now
    by (Some one) e which =
        let is_host : joining_host new ≡ Some host = ⊎_elim (λ none. absurd (let no : Some one ≡ None = sym e ∙ none in cc)) (λ some. some) which in
        holds_then (KeepsCluster shape parts) (rest_acts new hosts durable.sights) (change_acts (settled_from new) hosts) durable rest (settle_held shape parts now last new older host ended kept_now known.succeeds known.good is_host)

-- wherever a call fails nobody joins
pub going_on_called : (shape : SiteShape) (durable : Durable) (new : Roster) (hosts : List SiteHost) → durable.rosters.writing ≡ Some new → HoldsCalled NoneJoins (going_on_acts durable new hosts) durable
going_on_called shape durable new hosts writing = by (joining_host new) refl
  where
    rest : List SiteHost
    rest = filter (λ each. lacks new (durable.sights each.name)) hosts

    by : (joining : Option Host) → joining_host new ≡ joining → HoldsCalled NoneJoins (rest_acts new hosts durable.sights ++ settle_acts new joining hosts) durable
    by None e = rest_called rest [] durable new writing (λ after is. nobody_joins after durable.rosters new is e)
    by (Some one) e = rest_called rest (change_acts (settled_from new) hosts) durable new writing
        (λ after is. settled after)
      where
        settled : (after : Durable) → HoldsCalled NoneJoins (change_acts (settled_from new) hosts) after
        settled after = subst (λ (acts : List Act). HoldsCalled NoneJoins acts after) (append-nil (change_acts (settled_from new) hosts))
            (change_called (settled_from new) hosts [] after (λ later is. nobody_joins later after.rosters (settled_from new) is refl))
