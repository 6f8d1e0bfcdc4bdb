-- A change of the roster keeps the rosters, act by act.
use Rattle.std.proofs.Common.{◌≡◌, ◌⊎◌, inl, inr, ⊎_elim, ◌==◌, ◌||◌, List, [], ◌∷◌, ◌++◌, map, Option, Some, None, Bool, true, false, not, refl, sym, ◌∙◌, ap, subst, arith, if◌then◌else◌}
use Rattle.std.specs.Prelude.{Contains}
use Rattle.std.specs.List.{filter}
use Rattle.std.proofs.lemmas.Bool.{eqb-true}
use Rattle.std.specs.Cmp.Lexicographic.{bytes_decides}
use Rattle.cache_model.specs.Caches.{same}
use Rattle.roster_form.specs.Membership.{Host}
use Rattle.roster_form.specs.declared.roster.Roster.{Roster}
use Rattle.roster_form.specs.Shown.{Sights, MayShow}
use Rattle.roster_form.specs.Succession.{Succeeds, IsGoodRoster, Rosters, KeepsRosters, IsNextHost, ShowsAlso}
use Rattle.roster_form.proofs.PassLemmas.{some_is, given_is_listed}
use Rattle.roster_form.proofs.ContainsLemmas.{contains_first, contains_same, contains_later, contains_cases, contains_none}
use Rattle.roster_form.proofs.SuccessionLemmas.{falls, write_keeps, begin_keeps, finish_keeps, first_keeps}
use Rattle.cluster_model.specs.Agreement.{Durable}
use Rattle.cluster_model.specs.Acts.{SiteHost, Act, writes, begins, finishes, sights_with, KeepsRostersAt, KeepsRostersThroughout}
use Rattle.cluster_model.specs.Turns.{AreInTurn, ReachesAll, change_acts, lacks, rest_acts}

-- ---- what a host shows

sights_case : (b : Bool) (sights : Sights) (host other : Host) (shown : List (Option Roster)) (one : Option Roster) → same host other ≡ b → Contains (if b then shown else sights other) one → ((other ≡ host) × Contains shown one) ⊎ Contains (sights other) one
sights_case true sights host other shown one e is = inl (sym ((bytes_decides host other).0 e), is)
sights_case false sights host other shown one e is = inr is

shown_now : (sights : Sights) (host : Host) (shown : List (Option Roster)) (other : Host) (one : Option Roster) → MayShow (sights_with sights host shown) other one → ((other ≡ host) × Contains shown one) ⊎ MayShow sights other one
shown_now sights host shown other one is = sights_case (same host other) sights host other shown one refl is

only_this : (new : Roster) (one : Option Roster) → Contains (Some new ∷ []) one → one ≡ Some new
only_this new one is = ⊎_elim (λ it. it) (λ none. absurd (contains_none one none)) (contains_cases (Some new) [] one is)

done_also : (sights : Sights) (host : Host) (new : Roster) → ShowsAlso host (Some new) sights (sights_with sights host (Some new ∷ []))
done_also sights host new other one is = ⊎_elim (λ here. inr (here.0, only_this new one here.1)) (λ there. inl there) (shown_now sights host (Some new ∷ []) other one is)

tried_also : (sights : Sights) (host : Host) (new : Roster) → ShowsAlso host (Some new) sights (sights_with sights host (Some new ∷ sights host))
tried_also sights host new other one is = ⊎_elim
    (λ here. ⊎_elim (λ it. inr (here.0, it)) (λ old. inl (subst (λ (h : Host). MayShow sights h one) (sym here.0) old)) (contains_cases (Some new) (sights host) one here.1))
    (λ there. inl there)
    (shown_now sights host (Some new ∷ sights host) other one is)

-- it shows nothing but this roster
abbrev ShowsOnly : Sights → Roster → Host → Type 0
ShowsOnly sights new host = (one : Option Roster) → MayShow sights host one → one ≡ Some new

written_case : (b : Bool) (shown : List (Option Roster)) (new : Roster) (one : Option Roster) → b ≡ true → Contains (if b then Some new ∷ [] else shown) one → one ≡ Some new
written_case true shown new one e is = only_this new one is
written_case false shown new one e is = absurd cc

-- a host shows it alone once it is written to it, and other hosts show what they showed
shows_written : (sights : Sights) (host : Host) (new : Roster) (other : Host) → (other ≡ host) ⊎ ShowsOnly sights new other → ShowsOnly (sights_with sights host (Some new ∷ [])) new other
shows_written sights host new other (inl it) one may = written_case (same host other) (sights other) new one ((bytes_decides host other).1 (sym it)) may
shows_written sights host new other (inr only) one may = ⊎_elim (λ here. only_this new one here.1) (λ old. only one old) (shown_now sights host (Some new ∷ []) other one may)

-- ---- the writes of a change

abbrev at : List Roster → Option Roster → Sights → Durable → Durable
at finished writing sights durable = record { rosters = record { finished = finished; writing = writing }; sights = sights; standings = durable.standings }

writes_keep : (last new : Roster) (older : List Roster) (before : List Host) (hosts : List SiteHost) (sights : Sights) (durable : Durable) → KeepsRosters (record { finished = last ∷ older; writing = Some new }) sights
    → ((host : Host) → Contains before host → ShowsOnly sights new host) → AreInTurn last new before hosts → ((host : Host) → Contains new.hosts host → Contains before host ⊎ Contains (map (λ each. each.name) hosts) host)
    → (rest : List Act) → ((now : Sights) → KeepsRosters (record { finished = new ∷ last ∷ older; writing = None }) now → KeepsRostersThroughout rest (at (new ∷ last ∷ older) None now durable))
    → KeepsRostersThroughout (map writes hosts ++ finishes ∷ rest) (at (last ∷ older) (Some new) sights durable)
writes_keep last new older before [] sights durable keeps only turns all rest go =
    let ended = finish_keeps (last ∷ older) new sights keeps (λ host one is may. ⊎_elim (λ b. only host b one may) (λ none. absurd (contains_none host none)) (all host is)) in
    (keeps, keeps, go sights ended)
writes_keep last new older before (host ∷ hosts) sights durable keeps only turns all rest go =
    let rosters : Rosters = record { finished = last ∷ older; writing = Some new } in
    let next : IsNextHost rosters sights new host.name = record {
      given = turns.0;
      turn = λ l is. ⊎_elim
          (λ member. inl (subst (λ (r : Roster). Contains r.hosts host.name) (some_is last l is) member))
          (λ behind. inr (λ other one in_last may. only other (behind other (subst (λ (r : Roster). Contains r.hosts other) (sym (some_is last l is)) in_last)) one may))
          turns.1;
    } in (
      keeps,
      write_keeps rosters new host.name sights (sights_with sights host.name (Some new ∷ sights host.name)) keeps refl next (tried_also sights host.name new),
      writes_keep last new older (host.name ∷ before) hosts (sights_with sights host.name (Some new ∷ [])) durable
          (write_keeps rosters new host.name sights (sights_with sights host.name (Some new ∷ [])) keeps refl next (done_also sights host.name new))
          (λ other is. shows_written sights host.name new other (⊎_elim (λ it. inl it) (λ there. inr (only other there)) (contains_cases host.name before other is)))
          turns.2
          (λ h is. ⊎_elim
          (λ b. inl (contains_later host.name before h b))
          (λ there. ⊎_elim (λ here. inl (contains_same host.name before h here)) (λ later. inr later) (contains_cases host.name (map (λ each. each.name) hosts) h there))
          (all h is))
          rest
          go,
    )

-- a whole change, and what follows it
change_then : (last new : Roster) (older : List Roster) (hosts : List SiteHost) (sights : Sights) (durable : Durable) → KeepsRosters (record { finished = last ∷ older; writing = None }) sights → Succeeds last new → IsGoodRoster new
    → AreInTurn last new [] hosts → ReachesAll new hosts
    → (rest : List Act) → ((now : Sights) → KeepsRosters (record { finished = new ∷ last ∷ older; writing = None }) now → KeepsRostersThroughout rest (at (new ∷ last ∷ older) None now durable))
    → KeepsRostersThroughout (begins new ∷ map writes hosts ++ finishes ∷ rest) (at (last ∷ older) None sights durable)
change_then last new older hosts sights durable keeps after good turns all rest go =
    (keeps, keeps, writes_keep last new older [] hosts sights durable (begin_keeps last older new sights keeps after good) (λ host none. absurd (contains_none host none)) turns (λ host is. inr (all host is)) rest go)

so_at : (rosters : Rosters) (acts : List Act) (durable : Durable) → durable.rosters ≡ rosters → KeepsRostersThroughout acts (record { rosters = rosters; sights = durable.sights; standings = durable.standings }) → KeepsRostersThroughout acts durable
so_at rosters acts durable is keeps = subst (λ (d : Durable). KeepsRostersThroughout acts d) (λ i. record { rosters = sym is i; sights = durable.sights; standings = durable.standings }) keeps

pub change_keeps : (last new : Roster) (older : List Roster) (hosts : List SiteHost) (durable : Durable) → durable.rosters ≡ record { finished = last ∷ older; writing = None } → KeepsRostersAt durable → Succeeds last new → IsGoodRoster new
    → AreInTurn last new [] hosts → ReachesAll new hosts → KeepsRostersThroughout (change_acts new hosts) durable
change_keeps last new older hosts durable is keeps after good turns all =
    so_at (record { finished = last ∷ older; writing = None }) (change_acts new hosts) durable is
    (change_then last new older hosts durable.sights durable (subst (λ (r : Rosters). KeepsRosters r durable.sights) is keeps) after good turns all [] (λ now k. k))

append_writes : (hosts : List SiteHost) (acts others : List Act) → (map writes hosts ++ acts) ++ others ≡ map writes hosts ++ (acts ++ others)
append_writes [] acts others = refl
append_writes (host ∷ hosts) acts others = λ i. writes host ∷ append_writes hosts acts others i

-- two changes, one after the other
pub two_changes_keep : (last joined settled : Roster) (older : List Roster) (hosts others : List SiteHost) (durable : Durable) → durable.rosters ≡ record { finished = last ∷ older; writing = None } → KeepsRostersAt durable
    → Succeeds last joined → IsGoodRoster joined → AreInTurn last joined [] hosts → ReachesAll joined hosts
    → Succeeds joined settled → IsGoodRoster settled → AreInTurn joined settled [] others → ReachesAll settled others → KeepsRostersThroughout (change_acts joined hosts ++ change_acts settled others) durable
two_changes_keep last joined settled older hosts others durable is keeps after good turns all again better in_turn reaches =
    so_at (record { finished = last ∷ older; writing = None }) (change_acts joined hosts ++ change_acts settled others) durable is
    (subst (λ (acts : List Act). KeepsRostersThroughout acts (at (last ∷ older) None durable.sights durable)) (ap (λ (l : List Act). begins joined ∷ l) (sym (append_writes hosts (finishes ∷ []) (change_acts settled others))))
    (change_then last joined older hosts durable.sights durable (subst (λ (r : Rosters). KeepsRosters r durable.sights) is keeps) after good turns all (change_acts settled others)
    (λ now k. change_then joined settled (last ∷ older) others now durable k again better in_turn reaches [] (λ l m. m))))

-- ---- a change that was begun goes on

lacks_rest : (b : Bool) (new : Roster) (shown : List (Option Roster)) → (not b || lacks new shown) ≡ false → (b ≡ true) × (lacks new shown ≡ false)
lacks_rest true new shown e = (refl, e)
lacks_rest false new shown e = absurd cc

-- a host that doesn't lack it shows rosters of its epoch alone
not_lacking : (new : Roster) (shown : List (Option Roster)) (one : Option Roster) → lacks new shown ≡ false → Contains shown one → (roster : Roster) × (one ≡ Some roster) × (roster.epoch ≡ new.epoch)
not_lacking new [] one e is = absurd (contains_none one is)
not_lacking new (None ∷ shown) one e is = absurd cc
not_lacking new (Some roster ∷ shown) one e is =
    let both = lacks_rest (roster.epoch == new.epoch) new shown e in
    ⊎_elim (λ here. (roster, here, eqb-true roster.epoch new.epoch both.0)) (λ there. not_lacking new shown one both.1 there) (contains_cases (Some roster) shown one is)

-- so it shows this one and nothing else
shows_it : (last new : Roster) (older : List Roster) (sights : Sights) (host : Host) → KeepsRosters (record { finished = last ∷ older; writing = Some new }) sights → lacks new (sights host) ≡ false → ShowsOnly sights new host
shows_it last new older sights host keeps e one is =
    let r = not_lacking new (sights host) one e is in
    ⊎_elim
    (λ it. r.1 ∙ ap (λ (q : Roster). Some q) it)
    (λ before. absurd (let less = falls new (last ∷ older) r.0 keeps.successive before in let alike = r.2 in omega (arith, less, alike)))
    (contains_cases new (last ∷ older) r.0 (given_is_listed (new ∷ last ∷ older) r.0 host (keeps.known host r.0 (subst (λ (o : Option Roster). MayShow sights host o) r.1 is))))

-- ---- those who lack it, in their order

named_passing : (test : SiteHost → Bool) (hosts : List SiteHost) (each : SiteHost) → Contains hosts each → test each ≡ true → Contains (map (λ one. one.name) (filter test hosts)) each.name
named_passing test [] each is e = absurd (contains_none each is)
named_passing test (first ∷ hosts) each is e = go (test first) refl (contains_cases first hosts each is) (λ there. named_passing test hosts each there e)
  where
    go : (b : Bool) → test first ≡ b → (each ≡ first) ⊎ Contains hosts each → (Contains hosts each → Contains (map (λ one. one.name) (filter test hosts)) each.name)
        → Contains (map (λ one. one.name) (if b then first ∷ filter test hosts else filter test hosts)) each.name
    go true t which later = ⊎_elim
        (λ here. contains_same first.name (map (λ one. one.name) (filter test hosts)) each.name (ap (λ (h : SiteHost). h.name) here))
        (λ there. contains_later first.name (map (λ one. one.name) (filter test hosts)) each.name (later there))
        which
    go false t which later = ⊎_elim (λ here. absurd (let no : true ≡ false = sym e ∙ (ap test here ∙ t) in cc)) later which

passing_named : (test : SiteHost → Bool) (hosts : List SiteHost) (host : Host) → Contains (map (λ one. one.name) (filter test hosts)) host → (each : SiteHost) × Contains hosts each × (each.name ≡ host) × (test each ≡ true)
passing_named test [] host is = absurd (contains_none host is)
passing_named test (first ∷ hosts) host is = go (test first) refl (λ there. passing_named test hosts host there) is
  where
    go : (b : Bool) → test first ≡ b → (Contains (map (λ one. one.name) (filter test hosts)) host → (each : SiteHost) × Contains hosts each × (each.name ≡ host) × (test each ≡ true))
        → Contains (map (λ one. one.name) (if b then first ∷ filter test hosts else filter test hosts)) host → (each : SiteHost) × Contains (first ∷ hosts) each × (each.name ≡ host) × (test each ≡ true)
    go true t later has = ⊎_elim
        (λ here. (first, contains_first first hosts, sym here, t))
        (λ there. let r = later there in (r.0, contains_later first hosts r.0 r.1, r.2, r.3))
        (contains_cases first.name (map (λ one. one.name) (filter test hosts)) host has)
    go false t later has = let r = later has in (r.0, contains_later first hosts r.0 r.1, r.2, r.3)

named : (hosts : List SiteHost) (host : Host) → Contains (map (λ one. one.name) hosts) host → (each : SiteHost) × Contains hosts each × (each.name ≡ host)
named [] host is = absurd (contains_none host is)
named (first ∷ hosts) host is = ⊎_elim
    (λ here. (first, contains_first first hosts, sym here))
    (λ there. let r = named hosts host there in (r.0, contains_later first hosts r.0 r.1, r.2))
    (contains_cases first.name (map (λ one. one.name) hosts) host is)

filtered_turns : (last new : Roster) (test : SiteHost → Bool) (seen before : List Host) (hosts : List SiteHost) → AreInTurn last new seen hosts → ((host : Host) → Contains seen host → Contains before host)
    → ((each : SiteHost) → Contains hosts each → test each ≡ false → Contains before each.name) → AreInTurn last new before (filter test hosts)
filtered_turns last new test seen before [] turns all skipped = tt
filtered_turns last new test seen before (first ∷ hosts) turns all skipped =
    go (test first) refl
    (filtered_turns last new test (first.name ∷ seen) (first.name ∷ before) hosts turns.2
    (λ host i. ⊎_elim (λ here. contains_same first.name before host here) (λ there. contains_later first.name before host (all host there)) (contains_cases first.name seen host i))
    (λ each i e. contains_later first.name before each.name (skipped each (contains_later first hosts each i) e)))
    (λ here. filtered_turns last new test (first.name ∷ seen) before hosts turns.2
    (λ host i. ⊎_elim (λ e. subst (λ (h : Host). Contains before h) (sym e) here) (λ there. all host there) (contains_cases first.name seen host i))
    (λ each i e. skipped each (contains_later first hosts each i) e))
  where
    turn : Contains last.hosts first.name ⊎ ((other : Host) → Contains last.hosts other → Contains before other)
    turn = ⊎_elim (λ member. inl member) (λ behind. inr (λ other is. all other (behind other is))) turns.1

    go : (b : Bool) → test first ≡ b → AreInTurn last new (first.name ∷ before) (filter test hosts) → (Contains before first.name → AreInTurn last new before (filter test hosts))
        → AreInTurn last new before (if b then first ∷ filter test hosts else filter test hosts)
    go true t takes skips = (turns.0, turn, takes)
    go false t takes skips = skips (skipped first (contains_first first hosts) t)

-- the roster that is being written goes to those that may lack it
pub rest_keeps : (last new : Roster) (older : List Roster) (hosts : List SiteHost) (durable : Durable) → durable.rosters ≡ record { finished = last ∷ older; writing = Some new } → KeepsRostersAt durable → AreInTurn last new [] hosts → ReachesAll new hosts
    → KeepsRostersThroughout (rest_acts new hosts durable.sights) durable
rest_keeps last new older hosts durable is keeps turns all =
    so_at (record { finished = last ∷ older; writing = Some new }) (rest_acts new hosts durable.sights) durable is
    (writes_keep last new older (map (λ one. one.name) (filter has_it hosts)) (filter test hosts) durable.sights durable kept
    (λ host i. let r = passing_named has_it hosts host i in subst (λ (h : Host). ShowsOnly durable.sights new h) r.2 (shows_it last new older durable.sights r.0.name kept (is_no (test r.0) r.3)))
    (filtered_turns last new test [] (map (λ one. one.name) (filter has_it hosts)) hosts turns (λ host none. absurd (contains_none host none)) (λ each i e. named_passing has_it hosts each i (ap not e)))
    (λ host i. let r = named hosts host (all host i) in either_way r.0 r.1 host r.2 (test r.0) refl)
    []
    (λ now k. k))
  where
    kept : KeepsRosters (record { finished = last ∷ older; writing = Some new }) durable.sights
    kept = subst (λ (r : Rosters). KeepsRosters r durable.sights) is keeps

    test : SiteHost → Bool
    test host = lacks new (durable.sights host.name)

    has_it : SiteHost → Bool
    has_it host = not (test host)

    is_no : (b : Bool) → not b ≡ true → b ≡ false
    is_no true e = absurd cc
    is_no false e = refl

    either_way : (each : SiteHost) → Contains hosts each → (host : Host) → each.name ≡ host → (b : Bool) → test each ≡ b → Contains (map (λ one. one.name) (filter has_it hosts)) host ⊎ Contains (map (λ one. one.name) (filter test hosts)) host
    either_way each i host e true t = inr (subst (λ (h : Host). Contains (map (λ one. one.name) (filter test hosts)) h) e (named_passing test hosts each i t))
    either_way each i host e false t = inl (subst (λ (h : Host). Contains (map (λ one. one.name) (filter has_it hosts)) h) e (named_passing has_it hosts each i (ap not t)))

-- ---- a creation

pub create_keeps : (first : Roster) (host : SiteHost) (durable : Durable) → durable.rosters ≡ record { finished = []; writing = None } → first.epoch ≡ 1 → IsGoodRoster first → first.hosts ≡ host.name ∷ []
    → ((other : Host) (roster : Roster) → MayShow durable.sights other (Some roster) → ⊥) → KeepsRostersThroughout (change_acts first (host ∷ [])) durable
create_keeps first host durable is one good hosts none =
    so_at (record { finished = []; writing = None }) (change_acts first (host ∷ [])) durable is
    (empty, empty, (begun, write_keeps during first host.name durable.sights (sights_with durable.sights host.name (Some first ∷ durable.sights host.name)) begun refl next (tried_also durable.sights host.name first), (written, written, ended)))
  where
    during : Rosters
    during = record { finished = []; writing = Some first }

    empty : KeepsRosters (record { finished = []; writing = None }) durable.sights
    empty = record {
      successive = tt;
      known = λ other roster may. absurd (none other roster may);
      onward = λ past roster other i. absurd (contains_none past i);
      shows = λ last other e. absurd (let n : None ≡ Some last = e in cc);
      in_order = λ last new other another shown e. absurd (let n : None ≡ Some last = e in cc);
    }

    begun : KeepsRosters during durable.sights
    begun = first_keeps first durable.sights one good none

    only_host : (name : Host) → Contains first.hosts name → name ≡ host.name
    only_host name i = ⊎_elim (λ here. here) (λ no. absurd (contains_none name no)) (contains_cases host.name [] name (subst (λ (l : List Host). Contains l name) hosts i))

    next : IsNextHost during durable.sights first host.name
    next = record { given = inl (subst (λ (l : List Host). Contains l host.name) (sym hosts) (contains_first host.name [])); turn = λ last e. absurd (let n : None ≡ Some last = e in cc) }

    written : KeepsRosters during (sights_with durable.sights host.name (Some first ∷ []))
    written = write_keeps during first host.name durable.sights (sights_with durable.sights host.name (Some first ∷ [])) begun refl next (done_also durable.sights host.name first)

    ended : KeepsRosters (record { finished = first ∷ []; writing = None }) (sights_with durable.sights host.name (Some first ∷ []))
    ended = finish_keeps [] first (sights_with durable.sights host.name (Some first ∷ [])) written (λ name shown i may. shows_written durable.sights host.name first name (inl (only_host name i)) shown may)
