-- Acts that leave the standings as they are: what they keep holds wherever they are cut short, and of what is left after them a restart may pick.
use Rattle.std.proofs.Common.{◌≡◌, inl, inr, ⊎_elim, ℕ, suc, List, [], ◌∷◌, ◌++◌, map, length, All, Option, Some, None, refl, sym, ◌∙◌, ap, subst, arith}
use Rattle.std.specs.Prelude.{⊤, Contains}
use Rattle.std.specs.List.{flat_map}
use Rattle.std.proofs.lemmas.List.Elements.{All-cons, All-tail}
use Rattle.roster_form.specs.Membership.{Host}
use Rattle.roster_form.specs.Shown.{Sights}
use Rattle.roster_form.specs.declared.roster.Roster.{Roster}
use Rattle.roster_form.specs.Succession.{Rosters, listed, listed_with, KeepsRosters}
use Rattle.roster_form.proofs.ContainsLemmas.{contains_first, contains_cases, contains_none}
use Rattle.cluster_model.specs.Lane.{HostedStore, LaneStanding}
use Rattle.cluster_model.specs.Site.{SiteShape, DiskOf}
use Rattle.cluster_model.specs.Agreement.{IsRosterOf, Durable}
use Rattle.cluster_model.specs.Acts.{SiteHost, Act, quiet, writes, begins, finishes, written_to, perhaps_written_to, finished_with, done, tried, all_done, KeepsRostersThroughout}
use Rattle.command_plans.specs.Kept.{HoldsThroughout, KeepsRostersOf, MayBePicked, IsHeldAt}
use Rattle.command_plans.specs.Steps.{AreLeft, IsKeptAfter}
use Rattle.command_plans.proofs.PickedLemmas.{finished_in_list}
use Rattle.command_plans.proofs.FollowedLemmas.{left_length}
use Rattle.command_plans.proofs.ThroughoutLemmas.{rosters_first}

-- ---- what holds throughout some acts

-- ---- quiet acts

-- each of them changes nothing that the disks stand for
abbrev pub AreQuiet : List Act → Type 0
AreQuiet [] = ⊤
AreQuiet (act ∷ acts) = ((disk : DiskOf) × (act ≡ quiet disk)) × AreQuiet acts

-- a call on one disk for each item
pub quiet_each : {T : Type 0} (disk : T → DiskOf) (items : List T) → AreQuiet (map (λ item. quiet (disk item)) items)
quiet_each disk [] = tt
quiet_each disk (item ∷ items) = ((disk item, refl), quiet_each disk items)

-- two lists of them
pub quiet_both : (acts others : List Act) → AreQuiet acts → AreQuiet others → AreQuiet (acts ++ others)
quiet_both [] others are also = also
quiet_both (act ∷ acts) others are also = (are.0, quiet_both acts others are.1 also)

-- a list of them for each item
pub quiet_flat : {T : Type 0} (each : T → List Act) (items : List T) → ((item : T) → AreQuiet (each item)) → AreQuiet (flat_map each items)
quiet_flat each [] are = tt
quiet_flat each (item ∷ items) are = quiet_both (each item) (flat_map each items) (are item) (quiet_flat each items are)

-- they leave what is kept
pub quiet_done : (acts : List Act) (durable : Durable) → AreQuiet acts → all_done acts durable ≡ durable
quiet_done [] durable are = refl
quiet_done (act ∷ acts) durable are = ap (λ (a : Act). all_done acts (done a durable)) are.0.1 ∙ quiet_done acts durable are.1

-- so what holds before them holds throughout
pub quiet_holds : (P : Durable → Type 0) (acts : List Act) (durable : Durable) → AreQuiet acts → P durable → HoldsThroughout P acts durable
quiet_holds P [] durable are holds = holds
quiet_holds P (act ∷ acts) durable are holds = (
  holds,
  subst (λ (a : Act). P (tried a durable)) (sym are.0.1) holds,
  subst (λ (a : Act). HoldsThroughout P acts (done a durable)) (sym are.0.1) (quiet_holds P acts durable are.1 holds),
)

-- ---- acts that leave the standings

-- each roster is one of the site
abbrev pub AreOfSite : SiteShape → Rosters → Type 0
AreOfSite shape rosters = (roster : Roster) → Contains (listed rosters) roster → IsRosterOf shape roster

-- its rosters are of the site where these were, and each partition stands for what it did
abbrev StandsStill : SiteShape → Durable → Durable → Type 0
StandsStill shape old new = (AreOfSite shape old.rosters → AreOfSite shape new.rosters) × (new.standings ≡ old.standings)

-- so it is after the act, and within it
abbrev pub IsSteadyAct : SiteShape → Act → Type 0
IsSteadyAct shape act = (durable : Durable) → StandsStill shape durable (done act durable) × StandsStill shape durable (tried act durable)

-- each of these acts is steady
abbrev pub AreSteady : SiteShape → List Act → Type 0
AreSteady shape [] = ⊤
AreSteady shape (act ∷ acts) = IsSteadyAct shape act × AreSteady shape acts

-- two lists of steady acts
pub steady_both : (shape : SiteShape) (acts others : List Act) → AreSteady shape acts → AreSteady shape others → AreSteady shape (acts ++ others)
steady_both shape [] others are also = also
steady_both shape (act ∷ acts) others are also = (are.0, steady_both shape acts others are.1 also)

-- a roster that is written to a host changes what the host shows alone
written_still : (shape : SiteShape) (durable : Durable) (host : Host) (writing : Option Roster) → StandsStill shape durable (written_to durable host writing) × StandsStill shape durable (perhaps_written_to durable host writing)
written_still shape durable host None = ((λ are. are, refl), (λ are. are, refl))
written_still shape durable host (Some new) = ((λ are. are, refl), (λ are. are, refl))

-- so writes to several hosts are steady
pub writes_steady : (shape : SiteShape) (hosts : List SiteHost) → AreSteady shape (map writes hosts)
writes_steady shape [] = tt
writes_steady shape (host ∷ hosts) = (λ durable. written_still shape durable host.name durable.rosters.writing, writes_steady shape hosts)

-- a change begins, with a roster of the site
pub begins_steady : (shape : SiteShape) (new : Roster) → IsRosterOf shape new → IsSteadyAct shape (begins new)
begins_steady shape new of_site durable = (
  (
    λ are roster is. ⊎_elim
        (λ here. subst (λ (r : Roster). IsRosterOf shape r) (sym here) of_site)
        (λ there. are roster (finished_in_list durable.rosters.writing durable.rosters.finished roster there))
        (contains_cases new durable.rosters.finished roster is),
    refl,
  ),
  (λ are. are, refl),
)

-- a roster that is finished was listed as the one being written
finished_before : (rosters : Rosters) (writing : Option Roster) (roster : Roster) → rosters.writing ≡ writing → Contains (listed (finished_with rosters writing)) roster → Contains (listed rosters) roster
finished_before rosters None roster e is = is
finished_before rosters (Some new) roster e is = subst (λ (w : Option Roster). Contains (listed_with w rosters.finished) roster) (sym e) is

-- a change ends
pub finishes_steady : (shape : SiteShape) → IsSteadyAct shape finishes
finishes_steady shape durable = ((λ are roster is. are roster (finished_before durable.rosters durable.rosters.writing roster refl is), refl), (λ are. are, refl))

-- the rosters are kept, and this is what each partition stands for
pub record IsSteady (shape : SiteShape) (standings : List LaneStanding) (durable : Durable) : Type 0 where
  pub rosters : KeepsRostersOf shape durable
  pub still : durable.standings ≡ standings

-- steady acts that keep the rosters keep both
pub steady_holds : (shape : SiteShape) (standings : List LaneStanding) (acts : List Act) (durable : Durable) → AreSteady shape acts → KeepsRostersThroughout acts durable → IsSteady shape standings durable → HoldsThroughout (IsSteady shape standings) acts durable
steady_holds shape standings [] durable are keeps is = is
steady_holds shape standings (act ∷ acts) durable are keeps is =
    let both = are.0 durable in (
      is,
      record { rosters = record { rosters = keeps.1; of_site = both.1.0 is.rosters.of_site }; still = both.1.1 ∙ is.still },
      steady_holds shape standings acts (done act durable) are.1 keeps.2 (record { rosters = record { rosters = rosters_first acts (done act durable) keeps.2; of_site = both.0.0 is.rosters.of_site }; still = both.0.1 ∙ is.still }),
    )

-- ---- what is kept after some acts

-- a list that has nothing is empty
empty_if : (stores : List HostedStore) → ((store : HostedStore) → Contains stores store → ⊥) → stores ≡ []
empty_if [] none = refl
empty_if (first ∷ stores) none = absurd (none first (contains_first first stores))

-- a partition that stands for one store is left as it is
left_held : (hosts : List ℕ) (acts : List Act) (partition : ℕ) (olds news : List LaneStanding) → AreLeft acts partition olds news → All (IsHeldAt hosts) olds → All (IsHeldAt hosts) news
left_held hosts acts partition [] [] are held = held
left_held hosts acts partition [] (new ∷ news) are held = absurd are
left_held hosts acts partition (old ∷ olds) [] are held = absurd are
left_held hosts acts partition (old ∷ olds) (new ∷ news) are held =
    let first : IsHeldAt hosts old = held 0 old (omega arith) in
    All-cons (IsHeldAt hosts) new news
    (record {
      one = empty_if new.perhaps (λ store is. contains_none store (subst (λ (l : List HostedStore). Contains l store) first.one (are.0.no_more store is)));
      host = subst (λ (s : HostedStore). Contains hosts s.host) (sym are.0.same) first.host;
    })
    (left_held hosts acts (suc partition) olds news are.1 (All-tail (IsHeldAt hosts) old olds held))

-- the rosters, what is shown, the number of standings, and where stores are held
pub record IsAlike (computed kept : Durable) : Type 0 where
  pub rosters : kept.rosters ≡ computed.rosters
  pub sights : kept.sights ≡ computed.sights
  pub number : length kept.standings ≡ length computed.standings
  pub held : (hosts : List ℕ) → All (IsHeldAt hosts) computed.standings → All (IsHeldAt hosts) kept.standings

-- what is kept after some acts is alike
pub kept_alike : (acts : List Act) (computed kept : Durable) → IsKeptAfter acts computed kept → IsAlike computed kept
kept_alike acts computed kept (inl same) = subst (λ (d : Durable). IsAlike computed d) (sym same) (record { rosters = refl; sights = refl; number = refl; held = λ hosts held. held })
kept_alike acts computed kept (inr less) = record {
  rosters = less.1;
  sights = less.2;
  number = left_length acts 0 computed.standings kept.standings less.3;
  held = λ hosts held. left_held hosts acts 0 computed.standings kept.standings less.3 held;
}

-- so its rosters are kept too
pub alike_rosters : (shape : SiteShape) (computed kept : Durable) → IsAlike computed kept → KeepsRostersOf shape computed → KeepsRostersOf shape kept
alike_rosters shape computed kept alike keeps = record {
  rosters = subst (λ (s : Sights). KeepsRosters kept.rosters s) (sym alike.sights) (subst (λ (r : Rosters). KeepsRosters r computed.sights) (sym alike.rosters) keeps.rosters);
  of_site = subst (λ (r : Rosters). AreOfSite shape r) (sym alike.rosters) keeps.of_site;
}

-- of what is kept after steady acts a restart may pick
pub steady_picked : (shape : SiteShape) (standings : List LaneStanding) (acts : List Act) (computed kept : Durable) → length standings ≡ shape.partitions → IsSteady shape standings computed → IsKeptAfter acts computed kept → MayBePicked shape kept
steady_picked shape standings acts computed kept number is left =
    let alike = kept_alike acts computed kept left in
    record { rosters = alike_rosters shape computed kept alike is.rosters; number = λ roster e. alike.number ∙ ap length is.still ∙ number }
