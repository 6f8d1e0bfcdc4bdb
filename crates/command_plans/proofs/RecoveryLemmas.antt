-- A recovery keeps the site, wherever it is cut short: also while the roster that was being written goes to the hosts that lack it,
-- and no other may pass.
use Rattle.std.proofs.Common.{◌≡◌, ◌<◌, ◌⊎◌, inl, inr, ⊎_elim, ℕ, List, [], ◌∷◌, ◌++◌, map, Option, Some, Bool, true, false, refl, sym, ◌∙◌, ap, subst, arith, if◌then◌else◌}
use Rattle.std.specs.Prelude.{Contains}
use Rattle.std.specs.Cmp.Lexicographic.{bytes_decides}
use Rattle.cache_model.specs.Caches.{same}
use Rattle.disk_lane.specs.Lanes.{LaneImage}
use Rattle.disk_trait.specs.View.{Image}
use Rattle.roster_form.specs.Membership.{Host}
use Rattle.roster_form.specs.declared.roster.Roster.{Roster}
use Rattle.roster_form.specs.Shown.{Sights, MayShow, Shows}
use Rattle.roster_form.specs.Choice.{Sighting, MayOpenBy}
use Rattle.roster_form.specs.Succession.{Rosters, KeepsRosters, IsShownByAll, last_finished, first_listed, AreSuccessive, HasMember}
use Rattle.roster_form.proofs.ContainsLemmas.{contains_same, contains_first, contains_cases, contains_none}
use Rattle.roster_form.proofs.PassLemmas.{some_is, back_cases, chosen_is_latest, finished_are, only_two_pass}
use Rattle.roster_form.proofs.SuccessionLemmas.{front_in, written_is_later}
use Rattle.cluster_model.specs.Lane.{KeepsLane}
use Rattle.cluster_model.specs.Site.{SiteShape, partition_of, numbers_of, service_disk, SiteImage, is_among}
use Rattle.cluster_model.specs.SiteSteps.{with_rosters, with_sights}
use Rattle.cluster_model.specs.Agreement.{hosts_in, two_of, with_finished, Durable, KeepsSite}
use Rattle.cluster_model.specs.Acts.{SiteHost, Act, writes, finishes, sights_with, written_to, perhaps_written_to, finished_with, done, tried, KeepsRostersAt, KeepsRostersThroughout}
use Rattle.cluster_model.specs.Carried.{MovesService, MovesRoster, ShowsTheSame, MayFinish, IsCarriedOver}
use Rattle.cluster_model.proofs.AgreementLemmas.{two_pass}
use Rattle.cluster_model.proofs.CarriedLemmas.{carried_keeps}
use Rattle.cluster_model.proofs.SiteLemmas.{among_in, in_among}
use Rattle.cluster_model.proofs.SiteStepLemmas.{service_step_keeps, finish_site}
use Rattle.command_plans.specs.OpeningPlans.{roster_reads}

-- ---- a roster that some host surely shows

-- some host shows this roster, and nothing else
pub record IsSure (sights : Sights) (new : Roster) : Type 0 where
  pub host : Host
  pub may : MayShow sights host (Some new)
  pub only : (shown : Option Roster) → MayShow sights host shown → shown ≡ Some new

pub contains_or_not : (hosts : List Host) (host : Host) → Contains hosts host ⊎ (Contains hosts host → ⊥)
contains_or_not hosts host = by (is_among hosts host) refl
  where
    by : (b : Bool) → is_among hosts host ≡ b → Contains hosts host ⊎ (Contains hosts host → ⊥)
    by true e = inl (among_in hosts host e)
    by false e = inr (λ is. let no : true ≡ false = sym (in_among hosts host is) ∙ e in cc)

member_of : (finished : List Roster) (last : Roster) → AreSuccessive finished → first_listed finished ≡ Some last → HasMember last
member_of [] last are e = absurd cc
member_of (first ∷ []) last are e = subst HasMember (some_is first last e) are.1.1
member_of (first ∷ second ∷ older) last are e = subst HasMember (some_is first last e) are.1.1

-- then no other may pass
pub only_new : (rosters : Rosters) (sights : Sights) (sightings : List Sighting) (roster new : Roster) → KeepsRosters rosters sights → rosters.writing ≡ Some new → IsSure sights new
    → ((each : Sighting) → Contains sightings each → MayShow sights each.host each.shown) → MayOpenBy sightings roster → roster ≡ new
only_new rosters sights sightings roster new keeps is sure seen passes = ⊎_elim
    (λ last. absurd (earlier last))
    (λ writes. some_is roster new (sym writes ∙ is))
    (only_two_pass rosters sights sightings roster keeps seen passes)
  where
    of_host : roster.epoch < new.epoch → (host : Host) → Contains roster.hosts host → ((shown : Option Roster) → MayShow sights host shown → shown ≡ Some new) → ⊥
    of_host less host of only =
        let back = back_cases roster sightings host (passes.back host of) in
        let its : MayShow sights host back.0.shown = subst (λ (h : Host). MayShow sights h back.0.shown) back.2 (seen back.0 back.1) in
        let most = chosen_is_latest sightings roster back.0 new passes.chosen back.1 (only back.0.shown its) in
        omega (arith, less, most)

    earlier : last_finished rosters ≡ Some roster → ⊥
    earlier last =
        let less = written_is_later rosters.writing rosters.finished new roster keeps.successive is (front_in rosters.finished roster last) in
        let member = member_of rosters.finished roster (finished_are rosters.writing rosters.finished keeps.successive) last in
        ⊎_elim
        (λ of. of_host less sure.host of sure.only)
        (λ not. of_host less member.0 member.1 (λ shown may. keeps.in_order roster new sure.host member.0 shown last is not sure.may member.1 may))
        (contains_or_not roster.hosts sure.host)

-- the roster is written to one more host: still some host surely shows it
sure_with : (sights : Sights) (new : Roster) (name : Host) (shown : List (Option Roster)) → Contains shown (Some new) → ((one : Option Roster) → Contains shown one → (one ≡ Some new) ⊎ Contains (sights name) one) → IsSure sights new
    → IsSure (sights_with sights name shown) new
sure_with sights new name shown has each sure = record { host = sure.host; may = may (same name sure.host); only = λ one is. only (same name sure.host) refl one is }
  where
    may : (b : Bool) → Contains (if b then shown else sights sure.host) (Some new)
    may true = has
    may false = sure.may

    only : (b : Bool) → same name sure.host ≡ b → (one : Option Roster) → Contains (if b then shown else sights sure.host) one → one ≡ Some new
    only true e one is = ⊎_elim (λ it. it) (λ there. sure.only one (subst (λ (h : Host). Contains (sights h) one) ((bytes_decides name sure.host).0 e) there)) (each one is)
    only false e one is = sure.only one is

-- ---- one act

-- what the disks keep but for their partitions
abbrev pub bare : Durable → Durable
bare durable = record { rosters = durable.rosters; sights = durable.sights; standings = [] }

pub bare_keeps : (shape : SiteShape) (durable : Durable) (passing : List Roster) (image : SiteImage) → KeepsSite shape durable passing image → KeepsSite shape (bare durable) (two_of durable.rosters) image
bare_keeps shape durable passing image keeps = record {
  rosters = keeps.rosters;
  of_site = keeps.of_site;
  only = λ sightings roster may passes. two_pass durable.rosters durable.sights sightings roster keeps.rosters may passes;
  shown = keeps.shown;
  lanes = λ partition standing e. absurd cc;
  owners = λ partition standing e. absurd cc;
}

wider_with : (sights : Sights) (host : Host) (shown : List (Option Roster)) (other : Host) (one : Option Roster) → MayShow sights other one → (other ≡ host) ⊎ MayShow (sights_with sights host shown) other one
wider_with sights host shown other one may = by (same host other) refl
  where
    by : (b : Bool) → same host other ≡ b → (other ≡ host) ⊎ Contains (if b then shown else sights other) one
    by true e = inl (sym ((bytes_decides host other).0 e))
    by false e = inr may

own_sights : (sights : Sights) (host : Host) (shown : List (Option Roster)) → sights_with sights host shown host ≡ shown
own_sights sights host shown = by (same host host) ((bytes_decides host host).1 refl)
  where
    by : (b : Bool) → b ≡ true → (if b then shown else sights host) ≡ shown
    by true e = refl
    by false e = absurd cc

-- the roster is written to a host, whose service disk shows one of these
new_write_keeps : (shape : SiteShape) (durable : Durable) (new : Roster) (host : SiteHost) (shown : List (Option Roster)) (old next : SiteImage) → KeepsSite shape durable (new ∷ []) old → durable.rosters.writing ≡ Some new
    → IsSure (sights_with durable.sights host.name shown) new → KeepsRosters durable.rosters (sights_with durable.sights host.name shown) → MovesService shape host shown old next
    → KeepsSite shape (with_sights durable (sights_with durable.sights host.name shown)) (new ∷ []) next
new_write_keeps shape durable new host shown old next keeps writing sure rosters moves =
    let sights = sights_with durable.sights host.name shown in
    let naked = service_step_keeps shape (bare durable) sights old next host.number host.name (bare_keeps shape durable (new ∷ []) old keeps) moves.others moves.numbered rosters
    (wider_with durable.sights host.name shown) (subst (λ (l : List (Option Roster)). (one : Option Roster) × Shows (next (service_disk host.number)) one × Contains l one) (sym (own_sights durable.sights host.name shown)) moves.shows) in
    record {
      rosters = rosters;
      of_site = keeps.of_site;
      only = λ sightings roster may passes. contains_same new [] roster (only_new durable.rosters sights sightings roster new rosters writing sure may passes);
      shown = naked.shown;
      lanes = λ partition standing e. subst (λ (l : LaneImage). KeepsLane (partition_of shape partition) (numbers_of shape.hosts (hosts_in (new ∷ []))) standing l) (sym (moves.others.lanes partition)) (keeps.lanes partition standing e);
      owners = keeps.owners;
    }

-- it ends: each of its hosts shows it
new_finish_keeps : (shape : SiteShape) (durable : Durable) (new : Roster) (image : SiteImage) → KeepsSite shape durable (new ∷ []) image → durable.rosters.writing ≡ Some new → MayFinish durable
    → KeepsSite shape (with_rosters durable (with_finished durable.rosters new)) (new ∷ []) image
new_finish_keeps shape durable new image keeps writing may =
    let alike : may.new ≡ new = some_is may.new new (sym (ap (λ (r : Rosters). r.writing) may.rosters) ∙ writing) in
    let all : IsShownByAll durable.sights new = subst (λ (r : Roster). IsShownByAll durable.sights r) alike may.all in
    let rosters : durable.rosters ≡ record { finished = may.finished; writing = Some new } = may.rosters ∙ ap (λ (r : Roster). record { finished = may.finished; writing = Some r }) alike in
    let naked = finish_site shape may.finished new (bare durable) image rosters (bare_keeps shape durable (new ∷ []) image keeps) all in
    record { rosters = naked.rosters; of_site = naked.of_site; only = naked.only; shown = naked.shown; lanes = keeps.lanes; owners = keeps.owners }

-- a service disk is read
quiet_keeps : (shape : SiteShape) (durable : Durable) (passing : List Roster) (number : ℕ) (old next : SiteImage) → KeepsSite shape durable passing old → ShowsTheSame number old next → KeepsSite shape durable passing next
quiet_keeps shape durable passing number old next keeps moves = record {
  rosters = keeps.rosters;
  of_site = keeps.of_site;
  only = keeps.only;
  shown = λ host. let s = keeps.shown host in (
    s.0,
    s.1,
    λ n at. ⊎_elim
        (λ it. subst (λ (k : ℕ). Shows (next (service_disk k)) s.0) (sym it) (moves.same s.0 (subst (λ (k : ℕ). Shows (old (service_disk k)) s.0) it (s.2 n at))))
        (λ alike. subst (λ (m : Image). Shows m s.0) (sym alike) (s.2 n at))
        (moves.others.services n),
  );
  lanes = λ partition standing e. subst (λ (l : LaneImage). KeepsLane (partition_of shape partition) (numbers_of shape.hosts (hosts_in passing)) standing l) (sym (moves.others.lanes partition)) (keeps.lanes partition standing e);
  owners = keeps.owners;
}

-- ---- several acts

-- the site is kept, whatever rosters may pass
abbrev pub IsSiteKept : SiteShape → Durable → SiteImage → Type 0
IsSiteKept shape durable image = (passing : List Roster) × KeepsSite shape durable passing image

pub still_kept : (shape : SiteShape) (durable kept : Durable) (passing : List Roster) (old next : SiteImage) → KeepsSite shape durable passing old → kept ≡ durable → next ≡ old → IsSiteKept shape kept next
still_kept shape durable kept passing old next keeps is alike = (passing, subst (λ (d : Durable). KeepsSite shape d passing next) (sym is) (subst (λ (m : SiteImage). KeepsSite shape durable passing m) (sym alike) keeps))

at_its_start : (acts : List Act) (durable : Durable) → KeepsRostersThroughout acts durable → KeepsRostersAt durable
at_its_start [] durable keeps = keeps
at_its_start (act ∷ acts) durable keeps = keeps.0

-- it is surely shown after one more write of it, and where it may have been written
sure_written : (sights : Sights) (new : Roster) (name : Host) → IsSure sights new → IsSure (sights_with sights name (Some new ∷ [])) new
sure_written sights new name sure = sure_with sights new name (Some new ∷ []) (contains_first (Some new) [])
    (λ one is. ⊎_elim (λ it. inl it) (λ there. absurd (contains_none one there)) (contains_cases (Some new) [] one is)) sure

sure_perhaps : (sights : Sights) (new : Roster) (name : Host) → IsSure sights new → IsSure (sights_with sights name (Some new ∷ sights name)) new
sure_perhaps sights new name sure = sure_with sights new name (Some new ∷ sights name) (contains_first (Some new) (sights name)) (λ one is. contains_cases (Some new) (sights name) one is) sure

-- of a disk that was written to, with the roster that is being written
moves_new : (shape : SiteShape) (durable : Durable) (host : SiteHost) (new : Roster) (shown : Roster → List (Option Roster)) (old next : SiteImage) → durable.rosters.writing ≡ Some new → MovesRoster shape durable host shown old next → MovesService shape host (shown new) old next
moves_new shape durable host new shown old next writing moves = subst (λ (r : Roster). MovesService shape host (shown r) old next) (some_is moves.roster new (sym moves.writing ∙ writing)) moves.moves

perhaps_new : (shape : SiteShape) (durable : Durable) (new : Roster) (host : SiteHost) (old next : SiteImage) → durable.rosters.writing ≡ Some new → KeepsSite shape durable (new ∷ []) old → IsSure durable.sights new
    → MovesRoster shape durable host (λ roster. Some roster ∷ durable.sights host.name) old next → KeepsRostersAt (tried (writes host) durable) → KeepsSite shape (tried (writes host) durable) (new ∷ []) next
perhaps_new shape durable new host old next writing keeps sure moves rosters =
    subst (λ (w : Option Roster). KeepsRostersAt (perhaps_written_to durable host.name w) → KeepsSite shape (perhaps_written_to durable host.name w) (new ∷ []) next) (sym writing)
    (λ r. new_write_keeps shape durable new host (Some new ∷ durable.sights host.name) old next keeps writing (sure_perhaps durable.sights new host.name sure) r
    (moves_new shape durable host new (λ roster. Some roster ∷ durable.sights host.name) old next writing moves))
    rosters

finish_new : (shape : SiteShape) (durable : Durable) (new : Roster) (old next : SiteImage) → durable.rosters.writing ≡ Some new → KeepsSite shape durable (new ∷ []) old → (next ≡ old) × MayFinish durable
    → KeepsSite shape (done finishes durable) (two_of (done finishes durable).rosters) next
finish_new shape durable new old next writing keeps finish =
    subst (λ (w : Option Roster). KeepsSite shape (with_rosters durable (finished_with durable.rosters w)) (two_of (finished_with durable.rosters w)) next) (sym writing)
    (subst (λ (m : SiteImage). KeepsSite shape (with_rosters durable (with_finished durable.rosters new)) (new ∷ []) m) (sym finish.0) (new_finish_keeps shape durable new old keeps writing finish.1))

-- the roster goes to hosts that lack it, and then the acts go on that follow
pub rest_carried : (shape : SiteShape) (new : Roster) (hosts : List SiteHost) (more : List Act) (durable kept : Durable) (old next : SiteImage) → durable.rosters.writing ≡ Some new → KeepsSite shape durable (new ∷ []) old → IsSure durable.sights new
    → KeepsRostersThroughout (map writes hosts ++ finishes ∷ more) durable → IsCarriedOver shape (map writes hosts ++ finishes ∷ more) durable kept old next → IsSiteKept shape kept next
rest_carried shape new [] more durable kept old next writing keeps sure rosters (inl none) = still_kept shape durable kept (new ∷ []) old next keeps none.0 none.1
rest_carried shape new [] more durable kept old next writing keeps sure rosters (inr (inl some)) = still_kept shape durable kept (new ∷ []) old next keeps some.0 some.1
rest_carried shape new [] more durable kept old next writing keeps sure rosters (inr (inr others)) =
    (two_of kept.rosters, carried_keeps shape more (done finishes durable) kept others.0 next (finish_new shape durable new old others.0 writing keeps others.1) rosters.2 others.2)
rest_carried shape new (host ∷ hosts) more durable kept old next writing keeps sure rosters (inl none) = still_kept shape durable kept (new ∷ []) old next keeps none.0 none.1
rest_carried shape new (host ∷ hosts) more durable kept old next writing keeps sure rosters (inr (inl some)) =
    (new ∷ [], subst (λ (d : Durable). KeepsSite shape d (new ∷ []) next) (sym some.0) (perhaps_new shape durable new host old next writing keeps sure some.1 rosters.1))
rest_carried shape new (host ∷ hosts) more durable kept old next writing keeps sure rosters (inr (inr others)) =
    let acts = map writes hosts ++ finishes ∷ more in
    let sights = sights_with durable.sights host.name (Some new ∷ []) in
    let still = sure_written durable.sights new host.name sure in
    subst (λ (w : Option Roster). KeepsRostersThroughout acts (written_to durable host.name w) → IsCarriedOver shape acts (written_to durable host.name w) kept others.0 next → IsSiteKept shape kept next) (sym writing)
    (λ kept_ carried.
    rest_carried shape new hosts more (with_sights durable sights) kept others.0 next writing
    (new_write_keeps shape durable new host (Some new ∷ []) old others.0 keeps writing still (at_its_start acts (with_sights durable sights) kept_)
    (moves_new shape durable host new (λ roster. Some roster ∷ []) old others.0 writing others.1))
    still kept_ carried)
    rosters.2 others.2

-- rosters are read, and then the acts go on that follow
pub reads_carried : (shape : SiteShape) (hosts : List Host) (more : List Act) (durable kept : Durable) (passing : List Roster) (old next : SiteImage) → KeepsSite shape durable passing old → IsCarriedOver shape (roster_reads shape hosts ++ more) durable kept old next
    → ((mid : SiteImage) → KeepsSite shape durable passing mid → IsCarriedOver shape more durable kept mid next → IsSiteKept shape kept next) → IsSiteKept shape kept next
reads_carried shape [] more durable kept passing old next keeps carried goes_on = goes_on old keeps carried
reads_carried shape (host ∷ hosts) more durable kept passing old next keeps (inl none) goes_on = still_kept shape durable kept passing old next keeps none.0 none.1
reads_carried shape (host ∷ hosts) more durable kept passing old next keeps (inr (inl some)) goes_on = (passing, subst (λ (d : Durable). KeepsSite shape d passing next) (sym some.0) (quiet_keeps shape durable passing _ old next keeps some.1))
reads_carried shape (host ∷ hosts) more durable kept passing old next keeps (inr (inr others)) goes_on =
    reads_carried shape hosts more durable kept passing others.0 next (quiet_keeps shape durable passing _ old others.0 keeps others.1) others.2 goes_on

-- a recovery with a roster that was being written
pub recovery_carried : (shape : SiteShape) (new : Roster) (present : List Host) (hosts : List SiteHost) (more : List Act) (durable kept : Durable) (old next : SiteImage) → durable.rosters.writing ≡ Some new → KeepsSite shape durable (new ∷ []) old
    → ((host : Host) × (durable.sights host ≡ Some new ∷ [])) → KeepsRostersThroughout (map writes hosts ++ finishes ∷ more) durable → IsCarriedOver shape (roster_reads shape present ++ (map writes hosts ++ finishes ∷ more)) durable kept old next
    → IsSiteKept shape kept next
recovery_carried shape new present hosts more durable kept old next writing keeps alone rosters carried =
    let sure : IsSure durable.sights new = record {
      host = alone.0;
      may = subst (λ (l : List (Option Roster)). Contains l (Some new)) (sym alone.1) (contains_first (Some new) []);
      only = λ shown may. ⊎_elim (λ it. it) (λ there. absurd (contains_none shown there)) (contains_cases (Some new) [] shown (subst (λ (l : List (Option Roster)). Contains l shown) alone.1 may));
    } in
    reads_carried shape present (map writes hosts ++ finishes ∷ more) durable kept (new ∷ []) old next keeps carried
    (λ mid still goes_on. rest_carried shape new hosts more durable kept mid next writing still sure rosters goes_on)

-- a recovery without one
pub other_carried : (shape : SiteShape) (present : List Host) (more : List Act) (durable kept : Durable) (old next : SiteImage) → KeepsSite shape durable (two_of durable.rosters) old → KeepsRostersThroughout more durable
    → IsCarriedOver shape (roster_reads shape present ++ more) durable kept old next → IsSiteKept shape kept next
other_carried shape present more durable kept old next keeps rosters carried =
    reads_carried shape present more durable kept (two_of durable.rosters) old next keeps carried
    (λ mid still goes_on. (two_of kept.rosters, carried_keeps shape more durable kept mid next still rosters goes_on))
