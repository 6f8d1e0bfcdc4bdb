-- A join and a leave keep the cluster: before, within and after each of their acts, and nobody joins where a call fails.
use Rattle.std.proofs.Common.{◌≡◌, ◌⊎◌, inl, inr, ⊎_elim, ℕ, zero, suc, ◌+◌, ◌==◌, List, [], ◌∷◌, ◌++◌, map, length, slice_get, Option, Some, None, Bool, true, false, not, refl, sym, ◌∙◌, ap, subst, if◌then◌else◌}
use Rattle.std.specs.Prelude.{Contains, nat_lt, nat_le}
use Rattle.std.specs.List.{filter}
use Rattle.std.specs.Cmp.Lexicographic.{bytes_decides}
use Rattle.std.proofs.lemmas.Bool.{eqb-false, ltb-true, leb-false}
use Rattle.std.proofs.lemmas.List.{append-nil, append_assoc}
use Rattle.cache_model.specs.Caches.{same}
use Rattle.roster_form.specs.Choice.{is_host}
use Rattle.roster_form.specs.Membership.{Host, epoch_end, joining_host}
use Rattle.roster_form.specs.Shown.{Sights, MayShow}
use Rattle.roster_form.specs.declared.roster.Roster.{Roster}
use Rattle.roster_form.specs.Succession.{Rosters, ShowsAlso, AreSuccessive, listed, last_finished}
use Rattle.roster_form.proofs.PassLemmas.{some_is}
use Rattle.roster_form.proofs.ContainsLemmas.{contains_first, contains_cases, contains_none, contains_same, contains_later}
use Rattle.roster_form.proofs.SuccessionLemmas.{erase_keeps}
use Rattle.cluster_model.specs.Lane.{LaneStanding}
use Rattle.cluster_model.specs.Site.{SiteShape, is_among, numbers_of, lane_disk}
use Rattle.cluster_model.specs.Agreement.{two_of, IsInEach, IsRosterOf, Durable}
use Rattle.cluster_model.specs.Members.{left_by, hosts_or_none, joining_or_none, either_host, pending_join, pending_leave_by, pending_leave, is_member}
use Rattle.cluster_model.specs.Memory.{MoveState, PartState, Setting, moves_to, first_owned}
use Rattle.cluster_model.specs.Acts.{SiteHost, Act, quiet, clears, sights_with, without_host, tried, done, KeepsRostersThroughout}
use Rattle.cluster_model.specs.Turns.{change_acts}
use Rattle.cluster_model.proofs.SiteLemmas.{among_in, more_numbers}
use Rattle.cluster_model.proofs.TurnsLemmas.{change_keeps, two_changes_keep}
use Rattle.command_plans.specs.Asked.{SiteRefusal, SiteAnswer, joined, not_member, change_pending, last_host, owns_partition, epoch_ended}
use Rattle.command_plans.specs.ChangePlans.{epoch_of_join, joined_by, settled_from, with_last, hosts_named, going_on_acts, other_pending, going_on_plan, lanes_of_host, clearing_acts, join_acts, new_join_plan, join_plan, new_leave_plan, leave_again_plan, leave_plan}
use Rattle.command_plans.specs.Kept.{IsSite, HoldsThroughout, HoldsWhereCalled, KeepsStanding, KeepsCluster, NoneJoins, KeepsOpen}
use Rattle.command_plans.specs.Plan.{Plan, ◌or_first◌, refuses_if, refuses_by, refused_or, number_of, host_named, numbers_below}
use Rattle.command_plans.specs.Stage.{OpenSite, Goes, goes_on, opened}
use Rattle.command_plans.proofs.FoundRefusalLemmas.{in_list}
use Rattle.command_plans.proofs.NextRosterLemmas.{from_filtered, with_host_cases, with_host_old, with_host_new, MayBeJoined, joins_then, joined_succeeds, joined_of_site, joined_good, settled_succeeds, settled_good, settled_of_site, MayLeave, left_succeeds, left_of_site, left_good}
use Rattle.command_plans.proofs.RosterActLemmas.{Fits, are_then, roster_acts_keep, HoldsCalled, where_called}
use Rattle.command_plans.proofs.TurnLemmas.{reaches, with_last_has, changing_turn, change_are, change_called, nobody_joins}
use Rattle.command_plans.proofs.GoingOnLemmas.{fits_same, change_held, IsGoingOn, joining_in, good_last, going_on_held, going_on_called}
use Rattle.command_plans.proofs.ChangeCasesLemmas.{none_of, not_refused, none_given, negated, rosters_are, nothing_written, no_join, not_in_last, in_last, owned_none, item_too, number_stays}

-- ---- good acts

-- the cluster is kept throughout, and nobody joins where a call fails
abbrev IsGood : SiteShape → List PartState → Durable → List Act → Type 0
IsGood shape parts durable acts = HoldsThroughout (KeepsCluster shape parts) acts durable × HoldsCalled NoneJoins acts durable

-- a refusal has no act
refused_good : (shape : SiteShape) (parts : List PartState) (durable : Durable) (refusal : Option SiteRefusal) (goes : Goes) (plan : Plan) → IsGood shape parts durable [] → (refusal ≡ None → IsGood shape parts durable plan.acts)
    → IsGood shape parts durable (refused_or refusal goes plan).acts
refused_good shape parts durable None goes plan none next = next refl
refused_good shape parts durable (Some refusal) goes plan none next = none

-- ---- a host is cleared

shown_cleared : (sights : Sights) (host : Host) (shown : List (Option Roster)) → ((one : Option Roster) → Contains shown one → (one ≡ None) ⊎ Contains (sights host) one) → ShowsAlso host None sights (sights_with sights host shown)
shown_cleared sights host shown each other one may = by (same host other) refl may
  where
    by : (b : Bool) → same host other ≡ b → Contains (if b then shown else sights other) one → MayShow sights other one ⊎ ((other ≡ host) × (one ≡ None))
    by true e is =
        let it : host ≡ other = (bytes_decides host other).0 e in
        ⊎_elim (λ none. inr (sym it, none)) (λ was. inl (subst (λ (h : Host). Contains (sights h) one) it was)) (each one is)
    by false e is = inl is

-- what passes a filter was there
from_filter : {T : Type 0} (test : T → Bool) (items : List T) (item : T) → Contains (filter test items) item → Contains items item
from_filter test [] item is = is
from_filter test (first ∷ items) item is = by (test first) (λ there. from_filter test items item there) is
  where
    by : (b : Bool) → (Contains (filter test items) item → Contains items item) → Contains (if b then first ∷ filter test items else filter test items) item → Contains (first ∷ items) item
    by true later has = ⊎_elim (λ here. contains_same first items item here) (λ there. contains_later first items item (later there)) (contains_cases first (filter test items) item has)
    by false later has = contains_later first items item (later has)

mapped_item : (change : LaneStanding → LaneStanding) (items : List LaneStanding) (index : ℕ) (item : LaneStanding) → slice_get (map change items) index ≡ Some item → (old : LaneStanding) × (slice_get items index ≡ Some old) × (item ≡ change old)
mapped_item change [] index item e = absurd cc
mapped_item change (first ∷ others) zero item e = (first, refl, sym (some_is (change first) item e))
mapped_item change (first ∷ others) (suc index) item e = mapped_item change others index item e

mapped_length : (change : LaneStanding → LaneStanding) (items : List LaneStanding) → length (map change items) ≡ length items
mapped_length change [] = refl
mapped_length change (first ∷ others) = ap suc (mapped_length change others)

clears_keeps : (shape : SiteShape) (parts : List PartState) (durable : Durable) (host : SiteHost) → KeepsCluster shape parts durable → ((last : Roster) → last_finished durable.rosters ≡ Some last → ¬ Contains last.hosts host.name) → KeepsCluster shape parts (done (clears host) durable)
clears_keeps shape parts durable host keeps apart = record {
  rosters = record {
    rosters = erase_keeps durable.rosters host.name durable.sights (sights_with durable.sights host.name (None ∷ [])) keeps.rosters.rosters apart
        (shown_cleared durable.sights host.name (None ∷ []) (λ one is. ⊎_elim (λ it. inl it) (λ none. absurd (contains_none one none)) (contains_cases None [] one is)));
    of_site = keeps.rosters.of_site;
  };
  made = keeps.made;
  number = mapped_length (without_host host.number) durable.standings ∙ keeps.number;
  each = λ partition standing e.
      let was = mapped_item (without_host host.number) durable.standings partition standing e in
      subst (λ (s : LaneStanding). KeepsStanding shape (done (clears host) durable) s) (sym was.2) (less was.0 (keeps.each partition was.0 was.1));
  targets = keeps.targets;
}
  where
    less : (standing : LaneStanding) → KeepsStanding shape durable standing → KeepsStanding shape (done (clears host) durable) (without_host host.number standing)
    less standing one = record { owner = one.owner; flight = one.flight; each = λ store is. one.each store (from_filter (λ s. not (host.number == s.host)) standing.perhaps store is) }

tried_keeps : (shape : SiteShape) (parts : List PartState) (durable : Durable) (host : SiteHost) → KeepsCluster shape parts durable → ((last : Roster) → last_finished durable.rosters ≡ Some last → ¬ Contains last.hosts host.name) → KeepsCluster shape parts (tried (clears host) durable)
tried_keeps shape parts durable host keeps apart = record {
  rosters = record {
    rosters = erase_keeps durable.rosters host.name durable.sights (sights_with durable.sights host.name (None ∷ durable.sights host.name)) keeps.rosters.rosters apart
        (shown_cleared durable.sights host.name (None ∷ durable.sights host.name) (λ one is. contains_cases None (durable.sights host.name) one is));
    of_site = keeps.rosters.of_site;
  };
  made = keeps.made;
  number = keeps.number;
  each = λ partition standing e. let one = keeps.each partition standing e in record { owner = one.owner; flight = one.flight; each = one.each };
  targets = keeps.targets;
}

quiets_good : (shape : SiteShape) (parts : List PartState) (durable : Durable) (host : ℕ) (numbers : List ℕ) (more : List Act) → KeepsCluster shape parts durable → NoneJoins durable → IsGood shape parts durable more
    → IsGood shape parts durable (map (λ partition. quiet (lane_disk partition host)) numbers ++ more)
quiets_good shape parts durable host [] more keeps nobody next = next
quiets_good shape parts durable host (number ∷ numbers) more keeps nobody next =
    let rest = quiets_good shape parts durable host numbers more keeps nobody next in ((keeps, keeps, rest.0), (λ disk e. nobody, rest.1))

-- its lanes, then its service disk, and then other acts
clearing_good : (shape : SiteShape) (parts : List PartState) (durable : Durable) (host : Host) (more : List Act) → KeepsCluster shape parts durable → NoneJoins durable → ((last : Roster) → last_finished durable.rosters ≡ Some last → ¬ Contains last.hosts host)
    → (KeepsCluster shape parts (done (clears (host_named shape host)) durable) → IsGood shape parts (done (clears (host_named shape host)) durable) more) → IsGood shape parts durable (clearing_acts shape host ++ more)
clearing_good shape parts durable host more keeps nobody apart next =
    let cleared = host_named shape host in
    let after = clears_keeps shape parts durable cleared keeps apart in
    let good = next after in
    let here : IsGood shape parts durable (clears cleared ∷ more) = ((keeps, tried_keeps shape parts durable cleared keeps apart, good.0), (λ disk e. nobody, good.1)) in
    subst (λ (acts : List Act). IsGood shape parts durable acts) (sym (append_assoc (lanes_of_host shape host) (clears cleared ∷ []) more))
    (quiets_good shape parts durable (number_of shape.hosts host) (numbers_below shape.partitions) (clears cleared ∷ more) keeps nobody here)

-- ---- a join

-- its two rosters are written
joins_good : (shape : SiteShape) (parts : List PartState) (durable : Durable) (last : Roster) (older : List Roster) (host : Host) → durable.rosters ≡ record { finished = last ∷ older; writing = None } → KeepsCluster shape parts durable → MayBeJoined shape last host
    → IsGood shape parts durable (join_acts shape last host)
joins_good shape parts durable last older host is keeps may = (
  roster_acts_keep shape parts durable.standings (join_acts shape last host) durable refl
      (are_then shape parts durable.standings (change_acts (joined_by last host) hosts) (change_acts settled hosts) (change_are shape parts durable.standings (joined_by last host) hosts fits_joined) (change_are shape parts durable.standings settled hosts fits_settled))
      keeps rosters,
  change_called (joined_by last host) hosts (change_acts settled hosts) durable (λ after e. second after),
)
  where
    settled : Roster
    settled = settled_from (joined_by last host)

    hosts : List SiteHost
    hosts = hosts_named shape (with_last host (joined_by last host).hosts)

    of_site : IsRosterOf shape (joined_by last host)
    of_site = joined_of_site shape last host may

    fits_joined : Fits shape parts durable.standings (joined_by last host)
    fits_joined = fits_same shape parts durable last (joined_by last host) older is keeps of_site (λ number among. more_numbers shape.hosts last.hosts (joined_by last host).hosts (with_host_old host last.hosts) number among)

    fits_settled : Fits shape parts durable.standings (settled_from (joined_by last host))
    fits_settled = fits_same shape parts durable last (settled_from (joined_by last host)) older is keeps (settled_of_site shape (joined_by last host) of_site)
        (λ number among. more_numbers shape.hosts last.hosts (joined_by last host).hosts (with_host_old host last.hosts) number among)

    all : (other : Host) → Contains (joined_by last host).hosts other → Contains (with_last host (joined_by last host).hosts) other
    all other among = with_last_has host (joined_by last host).hosts other (inl among)

    rosters : KeepsRostersThroughout (join_acts shape last host) durable
    rosters = two_changes_keep last (joined_by last host) (settled_from (joined_by last host)) older (hosts_named shape (with_last host (joined_by last host).hosts)) (hosts_named shape (with_last host (joined_by last host).hosts)) durable is keeps.rosters.rosters
        (joined_succeeds shape last host may) (joined_good shape last host may)
        (changing_turn shape last (joined_by last host) host (joined_by last host).hosts
        (λ name among ne. ⊎_elim (λ it. absurd (ne it)) (λ old. old) (with_host_cases host last.hosts name among)) (λ name among ne. with_host_old host last.hosts name among) (inl (with_host_new host last.hosts)))
        (reaches shape (joined_by last host) (with_last host (joined_by last host).hosts) all)
        (settled_succeeds (joined_by last host) host (joins_then shape last host may)) (settled_good (joined_by last host) host (joined_good shape last host may) (joins_then shape last host may))
        (changing_turn shape (joined_by last host) (settled_from (joined_by last host)) host (joined_by last host).hosts (λ name among ne. among) (λ name among ne. among) (inl (with_host_new host last.hosts)))
        (reaches shape (settled_from (joined_by last host)) (with_last host (joined_by last host).hosts) all)

    second : (after : Durable) → HoldsCalled NoneJoins (change_acts (settled_from (joined_by last host)) (hosts_named shape (with_last host (joined_by last host).hosts))) after
    second after = subst (λ (acts : List Act). HoldsCalled NoneJoins acts after) (append-nil (change_acts (settled_from (joined_by last host)) (hosts_named shape (with_last host (joined_by last host).hosts))))
        (change_called (settled_from (joined_by last host)) (hosts_named shape (with_last host (joined_by last host).hosts)) [] after (λ later e. nobody_joins later after.rosters (settled_from (joined_by last host)) e refl))

-- a join that begins
new_join_good : (setting : Setting) (site : OpenSite) (host : Host) (last : Option Roster) → IsSite setting.shape → KeepsOpen setting.shape site → last_finished site.durable.rosters ≡ last → is_among setting.shape.hosts host ≡ true
    → pending_join site.durable.rosters ≡ None → pending_leave site.durable.rosters ≡ None → is_member site.durable.rosters host ≡ false → IsGood setting.shape site.memory.parts site.durable (new_join_plan setting site host last).acts
new_join_good setting site host None of_site keeps is among join leave member = (keeps.cluster, keeps.joined)
new_join_good setting site host (Some last) of_site keeps is among join leave member =
    clearing_good setting.shape site.memory.parts site.durable host (if nat_lt (last.epoch + 2) epoch_end then join_acts setting.shape last host else []) keeps.cluster keeps.joined
    (λ one e has. apart (subst (λ (r : Roster). Contains r.hosts host) (some_is one last (sym e ∙ is)) has))
    (λ after. by (nat_lt (last.epoch + 2) epoch_end) refl after)
  where
    rosters : Rosters
    rosters = site.durable.rosters

    are : (older : List Roster) × (site.durable.rosters ≡ record { finished = last ∷ older; writing = site.durable.rosters.writing })
    are = rosters_are site.durable.rosters last is

    written : site.durable.rosters.writing ≡ None
    written = nothing_written site.durable.rosters last are.0 are.1 keeps.cluster.rosters.rosters.successive join leave

    whole : site.durable.rosters ≡ record { finished = last ∷ are.0; writing = None }
    whole = are.1 ∙ ap (λ (w : Option Roster). record { finished = last ∷ are.0; writing = w }) written

    none : joining_host last ≡ None
    none = sym (ap joining_or_none is) ∙ keeps.joined written

    apart : Contains last.hosts host → ⊥
    apart = not_in_last site.durable.rosters last host is none leave member

    successive : AreSuccessive (last ∷ are.0)
    successive = subst (λ (r : Rosters). AreSuccessive (listed r)) whole keeps.cluster.rosters.rosters.successive

    by : (b : Bool) → nat_lt (last.epoch + 2) epoch_end ≡ b → KeepsCluster setting.shape site.memory.parts (done (clears (host_named setting.shape host)) site.durable)
        → IsGood setting.shape site.memory.parts (done (clears (host_named setting.shape host)) site.durable) (if b then join_acts setting.shape last host else [])
    by true e after = joins_good setting.shape site.memory.parts (done (clears (host_named setting.shape host)) site.durable) last are.0 host whole after (record {
      site = of_site;
      good = good_last last are.0 successive;
      of_site = keeps.cluster.rosters.of_site last (subst (λ (r : Rosters). Contains (listed r) last) (sym whole) (contains_first last are.0));
      among = among_in setting.shape.hosts host among;
      apart = apart;
      none = none;
      epochs = ltb-true (last.epoch + 2) epoch_end e;
    })
    by false e after = (after, keeps.joined)

-- ---- one that is pending

is_host_true : (joining : Option Host) (host : Host) → is_host joining host ≡ true → joining ≡ Some host
is_host_true None host e = absurd cc
is_host_true (Some one) host e = ap (λ (h : Host). Some h) ((bytes_decides one host).0 e)

join_facts : (last new : Roster) (host : Host) → is_host (either_host (joining_host new) (joining_host last)) host ≡ true → (Contains new.hosts host ⊎ Contains last.hosts host) × ((joining_host new ≡ None) ⊎ (joining_host new ≡ Some host))
join_facts last new host e = by (joining_host new) refl e
  where
    by : (joining : Option Host) → joining_host new ≡ joining → is_host (either_host joining (joining_host last)) host ≡ true → (Contains new.hosts host ⊎ Contains last.hosts host) × ((joining_host new ≡ None) ⊎ (joining_host new ≡ Some host))
    by None j is = (inr (joining_in last.hosts last.joining host (is_host_true (joining_host last) host is)), inl j)
    by (Some one) j is =
        let it : joining_host new ≡ Some host = j ∙ is_host_true (Some one) host is in (inl (joining_in new.hosts new.joining host it), inr it)

either_none : (one other : Option Host) → either_host one other ≡ None → one ≡ None
either_none None other e = refl
either_none (Some host) other e = absurd cc

leave_facts : (last new : Roster) (host : Host) → is_host (pending_leave_by (Some new) (Some last) (either_host (joining_host new) (joining_host last))) host ≡ true → Contains last.hosts host × (joining_host new ≡ None)
leave_facts last new host e = by (either_host (joining_host new) (joining_host last)) refl e
  where
    by : (join : Option Host) → either_host (joining_host new) (joining_host last) ≡ join → is_host (pending_leave_by (Some new) (Some last) join) host ≡ true → Contains last.hosts host × (joining_host new ≡ None)
    by None j is =
        let first = is_host_true (slice_get (filter (λ h. not (is_among new.hosts h)) last.hosts) 0) host is in
        (from_filter (λ h. not (is_among new.hosts h)) last.hosts host (in_list (filter (λ h. not (is_among new.hosts h)) last.hosts) 0 host first), either_none (joining_host new) (joining_host last) j)
    by (Some one) j is = absurd (let no : false ≡ true = is in cc)

-- a change that was begun, of this host
on_good : (setting : Setting) (site : OpenSite) (host : Host) (new : Roster) → KeepsOpen setting.shape site → site.durable.rosters.writing ≡ Some new
    → ((last : Roster) (older : List Roster) → site.durable.rosters ≡ record { finished = last ∷ older; writing = Some new } → IsGoingOn site.durable last new older host)
    → IsGood setting.shape site.memory.parts site.durable (going_on_acts site.durable new (hosts_named setting.shape (with_last host (hosts_or_none (last_finished site.durable.rosters)))))
on_good setting site host new keeps writing on =
    let last = keeps.cluster.made in
    let are = rosters_are site.durable.rosters last.0 last.1 in
    let whole : site.durable.rosters ≡ record { finished = last.0 ∷ are.0; writing = Some new } = are.1 ∙ ap (λ (w : Option Roster). record { finished = last.0 ∷ are.0; writing = w }) writing in
    subst (λ (names : List Host). IsGood setting.shape site.memory.parts site.durable (going_on_acts site.durable new (hosts_named setting.shape (with_last host names)))) (sym (ap hosts_or_none last.1)) (
      going_on_held setting.shape site.memory.parts site.durable last.0 new are.0 host (on last.0 are.0 whole) keeps.cluster,
      going_on_called setting.shape site.durable new (hosts_named setting.shape (with_last host last.0.hosts)) writing,
    )

-- ---- a join, whole

join_goes_on : (setting : Setting) (site : OpenSite) (host : Host) (answer : SiteAnswer) (writing : Option Roster) → KeepsOpen setting.shape site → site.durable.rosters.writing ≡ writing → is_host (pending_join site.durable.rosters) host ≡ true
    → IsGood setting.shape site.memory.parts site.durable (going_on_plan setting site host answer writing).acts
join_goes_on setting site host answer None keeps is join = (keeps.cluster, keeps.joined)
join_goes_on setting site host answer (Some new) keeps is join = on_good setting site host new keeps is
    (λ last older whole.
    let facts = join_facts last new host (subst (λ (r : Rosters). is_host (pending_join r) host ≡ true) whole join) in
    record { rosters = whole; either = facts.0; joining = facts.1 })

pub join_good : (setting : Setting) (site : OpenSite) (host : Host) → IsSite setting.shape → KeepsOpen setting.shape site → IsGood setting.shape site.memory.parts site.durable (join_plan setting site host).acts
join_good setting site host of_site keeps = refused_good setting.shape site.memory.parts site.durable _ _ _ (keeps.cluster, keeps.joined)
    (λ e.
    let f = none_of _ _ e in
    let g = none_of _ _ f.0 in
    let h = none_of _ _ g.0 in
    by (is_host (pending_join site.durable.rosters) host) refl (negated (is_among setting.shape.hosts host) (not_refused _ _ h.0)) (none_given (pending_leave site.durable.rosters) change_pending h.1)
    (none_given (other_pending host (pending_join site.durable.rosters)) change_pending g.1) (not_refused _ _ f.1))
  where
    by : (b : Bool) → is_host (pending_join site.durable.rosters) host ≡ b → is_among setting.shape.hosts host ≡ true → pending_leave site.durable.rosters ≡ None → other_pending host (pending_join site.durable.rosters) ≡ None
        → is_member site.durable.rosters host ≡ false
        → IsGood setting.shape site.memory.parts site.durable
        (if b then going_on_plan setting site host (joined (epoch_of_join site.durable.rosters site.durable.rosters.writing) host) site.durable.rosters.writing else new_join_plan setting site host (last_finished site.durable.rosters)).acts
    by true e among leave other member = join_goes_on setting site host _ site.durable.rosters.writing keeps refl e
    by false e among leave other member = new_join_good setting site host (last_finished site.durable.rosters) of_site keeps refl among (no_join host (pending_join site.durable.rosters) other e) leave member

-- ---- a leave

leave_goes_on : (setting : Setting) (site : OpenSite) (host : Host) (writing : Option Roster) → KeepsOpen setting.shape site → site.durable.rosters.writing ≡ writing → is_host (pending_leave site.durable.rosters) host ≡ true
    → IsGood setting.shape site.memory.parts site.durable (leave_again_plan setting site host writing).acts
leave_goes_on setting site host None keeps is leave = (keeps.cluster, keeps.joined)
leave_goes_on setting site host (Some new) keeps is leave = on_good setting site host new keeps is
    (λ last older whole.
    let facts = leave_facts last new host (subst (λ (r : Rosters). is_host (pending_leave r) host ≡ true) whole leave) in
    record { rosters = whole; either = inr facts.0; joining = inl facts.1 })

-- the roster without the host is written
left_acts_good : (setting : Setting) (site : OpenSite) (host : Host) (last : Roster) (older : List Roster) → IsSite setting.shape → KeepsOpen setting.shape site → site.durable.rosters ≡ record { finished = last ∷ older; writing = None } → MayLeave last host
    → first_owned (number_of setting.shape.hosts host) 0 site.durable.standings site.memory.parts ≡ None
    → IsGood setting.shape site.memory.parts site.durable (change_acts (left_by last host) (hosts_named setting.shape (with_last host last.hosts)))
left_acts_good setting site host last older of_site keeps whole may owned = (
  change_held setting.shape site.memory.parts site.durable last left older hosts keeps.cluster rosters fits,
  subst (λ (acts : List Act). HoldsCalled NoneJoins acts site.durable) (append-nil (change_acts left hosts))
      (change_called left hosts [] site.durable (λ after e. nobody_joins after site.durable.rosters left e refl)),
)
  where
    left : Roster
    left = left_by last host

    hosts : List SiteHost
    hosts = hosts_named setting.shape (with_last host last.hosts)

    rosters : KeepsRostersThroughout (change_acts (left_by last host) (hosts_named setting.shape (with_last host last.hosts))) site.durable
    rosters = change_keeps last (left_by last host) older (hosts_named setting.shape (with_last host last.hosts)) site.durable whole keeps.cluster.rosters.rosters (left_succeeds last host may) (left_good last host may)
        (changing_turn setting.shape last (left_by last host) host last.hosts (λ name is ne. is) (λ name is ne. is) (inr may.among))
        (reaches setting.shape (left_by last host) (with_last host last.hosts) (λ other is. with_last_has host last.hosts other (inl (from_filtered host last.hosts other is).0)))

    alike : length site.durable.standings ≡ length site.memory.parts
    alike = keeps.cluster.number ∙ sym keeps.parts

    numbered : (number : ℕ) → IsInEach setting.shape.hosts (two_of site.durable.rosters) number → Contains (numbers_of setting.shape.hosts last.hosts) number
    numbered number each = each last (subst (λ (r : Rosters). Contains (two_of r) last) (sym whole) (contains_first last []))

    fits : Fits setting.shape site.memory.parts site.durable.standings (left_by last host)
    fits = record {
      of_site = left_of_site setting.shape last host (keeps.cluster.rosters.of_site last (subst (λ (r : Rosters). Contains (listed r) last) (sym whole) (contains_first last older)));
      owners = λ partition standing e.
          let part = item_too site.durable.standings site.memory.parts partition standing alike e in
          let apart = owned_none (number_of setting.shape.hosts host) 0 site.durable.standings site.memory.parts partition standing part.0 owned e part.1 in
          number_stays setting.shape last host standing.store.host of_site.rise (numbered standing.store.host (keeps.cluster.each partition standing e).owner) (eqb-false standing.store.host (number_of setting.shape.hosts host) apart.0);
      targets = λ partition part move e f.
          let standing = item_too site.memory.parts site.durable.standings partition part (sym alike) e in
          let apart = owned_none (number_of setting.shape.hosts host) 0 site.durable.standings site.memory.parts partition standing.0 part owned standing.1 e in
          number_stays setting.shape last host move.to of_site.rise (numbered move.to (keeps.cluster.targets partition part move e f))
          (eqb-false move.to (number_of setting.shape.hosts host) (ap (λ (m : Option MoveState). moves_to m (number_of setting.shape.hosts host)) (sym f) ∙ apart.1));
    }

-- a leave that begins
new_leave_good : (setting : Setting) (site : OpenSite) (host : Host) (last : Option Roster) → IsSite setting.shape → KeepsOpen setting.shape site → last_finished site.durable.rosters ≡ last → pending_join site.durable.rosters ≡ None
    → pending_leave site.durable.rosters ≡ None → is_member site.durable.rosters host ≡ true → IsGood setting.shape site.memory.parts site.durable (new_leave_plan setting site host last).acts
new_leave_good setting site host None of_site keeps is join leave member = (keeps.cluster, keeps.joined)
new_leave_good setting site host (Some last) of_site keeps is join leave member = refused_good setting.shape site.memory.parts site.durable _ _ _ (keeps.cluster, keeps.joined)
    (λ e.
    let f = none_of _ _ e in
    let g = none_of _ _ f.0 in
    let are = rosters_are site.durable.rosters last is in
    let written = nothing_written site.durable.rosters last are.0 are.1 keeps.cluster.rosters.rosters.successive join leave in
    let whole : site.durable.rosters ≡ record { finished = last ∷ are.0; writing = None } = are.1 ∙ ap (λ (w : Option Roster). record { finished = last ∷ are.0; writing = w }) written in
    let successive : AreSuccessive (last ∷ are.0) = subst (λ (r : Rosters). AreSuccessive (listed r)) whole keeps.cluster.rosters.rosters.successive in
    let more = leb-false epoch_end (last.epoch + 1) (not_refused (nat_le epoch_end (last.epoch + 1)) epoch_ended f.1) in
    left_acts_good setting site host last are.0 of_site keeps whole
    (record {
      good = good_last last are.0 successive;
      among = in_last site.durable.rosters last host is member;
      several = not_refused (length last.hosts == 1) last_host g.0;
      none = sym (ap joining_or_none is) ∙ keeps.joined written;
      epochs = more;
    })
    (none_given (first_owned (number_of setting.shape.hosts host) 0 site.durable.standings site.memory.parts) owns_partition g.1))

pub leave_good : (setting : Setting) (site : OpenSite) (host : Host) → IsSite setting.shape → KeepsOpen setting.shape site → IsGood setting.shape site.memory.parts site.durable (leave_plan setting site host).acts
leave_good setting site host of_site keeps = by (is_host (pending_leave site.durable.rosters) host) refl
  where
    begun : IsGood setting.shape site.memory.parts site.durable
        (refused_or
        (refuses_if (not (is_member site.durable.rosters host)) (not_member host) or_first refuses_by (pending_join site.durable.rosters) change_pending or_first refuses_by (pending_leave site.durable.rosters) change_pending)
        (goes_on (opened site))
        (new_leave_plan setting site host (last_finished site.durable.rosters))).acts
    begun = refused_good setting.shape site.memory.parts site.durable _ _ _ (keeps.cluster, keeps.joined)
        (λ e.
        let f = none_of _ _ e in
        let g = none_of _ _ f.0 in
        new_leave_good setting site host (last_finished site.durable.rosters) of_site keeps refl (none_given (pending_join site.durable.rosters) change_pending g.1) (none_given (pending_leave site.durable.rosters) change_pending f.1)
        (negated (is_member site.durable.rosters host) (not_refused _ _ g.0)))

    by : (b : Bool) → is_host (pending_leave site.durable.rosters) host ≡ b
        → IsGood setting.shape site.memory.parts site.durable
        (if b
        then leave_again_plan setting site host site.durable.rosters.writing
        else refused_or
        (refuses_if (not (is_member site.durable.rosters host)) (not_member host) or_first refuses_by (pending_join site.durable.rosters) change_pending or_first refuses_by (pending_leave site.durable.rosters) change_pending)
        (goes_on (opened site))
        (new_leave_plan setting site host (last_finished site.durable.rosters))).acts
    by true e = leave_goes_on setting site host site.durable.rosters.writing keeps refl e
    by false e = begun

-- ---- the law

pub join_called : (setting : Setting) (site : OpenSite) (host : Host) → IsSite setting.shape → KeepsOpen setting.shape site → HoldsWhereCalled NoneJoins (join_plan setting site host).acts site.durable
join_called setting site host of_site keeps = where_called NoneJoins (join_plan setting site host).acts site.durable (join_good setting site host of_site keeps).1

pub leave_called : (setting : Setting) (site : OpenSite) (host : Host) → IsSite setting.shape → KeepsOpen setting.shape site → HoldsWhereCalled NoneJoins (leave_plan setting site host).acts site.durable
leave_called setting site host of_site keeps = where_called NoneJoins (leave_plan setting site host).acts site.durable (leave_good setting site host of_site keeps).1

pub join_held : (setting : Setting) (site : OpenSite) (host : Host) → IsSite setting.shape → KeepsOpen setting.shape site → HoldsThroughout (KeepsCluster setting.shape site.memory.parts) (join_plan setting site host).acts site.durable
join_held setting site host of_site keeps = (join_good setting site host of_site keeps).0

pub leave_held : (setting : Setting) (site : OpenSite) (host : Host) → IsSite setting.shape → KeepsOpen setting.shape site → HoldsThroughout (KeepsCluster setting.shape site.memory.parts) (leave_plan setting site host).acts site.durable
leave_held setting site host of_site keeps = (leave_good setting site host of_site keeps).0
