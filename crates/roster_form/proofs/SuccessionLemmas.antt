-- What keeps the rosters: beginning a change, one write, the end of a change, a change that nobody saw, a stop, an erasure.
use Rattle.std.proofs.Common.{◌≡◌, ◌⊎◌, inl, inr, ⊎_elim, ◌<◌, ◌≤◌, Bool, true, false, List, [], ◌∷◌, Option, Some, None, refl, sym, ◌∙◌, ap, subst, arith}
use Rattle.std.specs.Prelude.{Contains}
use Rattle.std.specs.Cmp.Lexicographic.{bytes_decides}
use Rattle.cache_model.specs.Caches.{same}
use Rattle.roster_form.specs.Membership.{Host}
use Rattle.roster_form.specs.declared.roster.Roster.{Roster}
use Rattle.roster_form.specs.Shown.{Sights, MayShow}
use Rattle.roster_form.specs.Choice.{Sighting, MayOpenBy}
use Rattle.roster_form.specs.Succession.{Succeeds, HasMember, IsGoodRoster, AreSuccessive, Rosters, listed_with, listed, first_listed, last_finished, IsInFirst, IsGivenTo, KeepsRosters, IsNextHost, IsShownByAll, ShowsNoMore, ShowsAlso, without_writing}
use Rattle.roster_form.proofs.PassLemmas.{some_is, finished_are, chosen_is_latest, back_cases, given_is_listed}
use Rattle.roster_form.proofs.ContainsLemmas.{contains_same, contains_later, contains_cases, contains_none}

-- whether two hosts are one
host_cases : (b : Bool) (one other : Host) → same one other ≡ b → (one ≡ other) ⊎ (one ≡ other → ⊥)
host_cases true one other e = inl ((bytes_decides one other).0 e)
host_cases false one other e = inr (λ is. let t : same one other ≡ true = (bytes_decides one other).1 is in absurd cc)

-- whether it is one of these
member_cases : (hosts : List Host) (host : Host) → Contains hosts host ⊎ (Contains hosts host → ⊥)
member_cases [] host = inr (contains_none host)
member_cases (first ∷ others) host = ⊎_elim
    (λ here. inl (contains_same first others host here))
    (λ not. ⊎_elim (λ there. inl (contains_later first others host there)) (λ nor. inr (λ is. ⊎_elim not nor (contains_cases first others host is))) (member_cases others host))
    (host_cases (same host first) host first refl)

pub front_in : (finished : List Roster) (past : Roster) → first_listed finished ≡ Some past → Contains finished past
front_in [] past e = absurd cc
front_in (first ∷ others) past e = contains_same first others past (sym (some_is first past e))

-- epochs fall along a succession
pub falls : (new : Roster) (older : List Roster) (past : Roster) → AreSuccessive (new ∷ older) → Contains older past → past.epoch < new.epoch
falls new [] past are none = absurd (contains_none past none)
falls new (old ∷ older) past are is = ⊎_elim
    (λ here. subst (λ (r : Roster). r.epoch < new.epoch) (sym here) (let e = are.0.next in omega (arith, e)))
    (λ there. let less = falls old older past are.2 there in let e = are.0.next in omega (arith, less, e))
    (contains_cases old older past is)

-- the one being written is later than each finished one
pub written_is_later : (writing : Option Roster) (finished : List Roster) (new past : Roster) → AreSuccessive (listed_with writing finished) → writing ≡ Some new → Contains finished past → past.epoch < new.epoch
written_is_later None finished new past are e is = absurd cc
written_is_later (Some first) finished new past are e is = subst (λ (r : Roster). past.epoch < r.epoch) (some_is first new e) (falls first finished past are is)

-- the one being written is given to its hosts and to those of the one that it follows
given_writing : (writing : Option Roster) (finished : List Roster) (new : Roster) (host : Host) → writing ≡ Some new → (Contains new.hosts host ⊎ IsInFirst host finished) → IsGivenTo (listed_with writing finished) new host
given_writing None finished new host e to = absurd cc
given_writing (Some first) finished new host e to = inl (sym is, subst (λ (r : Roster). Contains r.hosts host ⊎ IsInFirst host finished) (sym is) to)
  where
    is : first ≡ new
    is = some_is first new e

given_cases : (writing : Option Roster) (finished : List Roster) (roster : Roster) (host : Host) → IsGivenTo (listed_with writing finished) roster host → (writing ≡ Some roster) ⊎ IsGivenTo finished roster host
given_cases None finished roster host is = inr is
given_cases (Some new) finished roster host is = ⊎_elim (λ here. inl (ap (λ (r : Roster). Some r) (sym here.0))) (λ there. inr there) is

-- a stop leaves each host fewer choices
pub fewer_keep : (rosters : Rosters) (old new : Sights) → KeepsRosters rosters old → ShowsNoMore old new → KeepsRosters rosters new
fewer_keep rosters old new keeps fewer = record {
  successive = keeps.successive;
  known = λ host roster may. keeps.known host roster (fewer host (Some roster) may);
  onward = λ past roster host is of may. keeps.onward past roster host is of (fewer host (Some roster) may);
  shows = λ last host is of may. keeps.shows last host is of (fewer host None may);
  in_order = λ last next host other shown is writes not may of also. keeps.in_order last next host other shown is writes not (fewer host (Some next) may) of (fewer other shown also);
}

-- the roster is written to one host that may have it
pub write_keeps : (rosters : Rosters) (new : Roster) (host : Host) (old now : Sights) → KeepsRosters rosters old → rosters.writing ≡ Some new → IsNextHost rosters old new host → ShowsAlso host (Some new) old now → KeepsRosters rosters now
write_keeps rosters new host old now keeps writing next more = record {
  successive = keeps.successive;
  known = λ h roster may. ⊎_elim
      (λ before. keeps.known h roster before)
      (λ now_shown.
      subst (λ (r : Roster). IsGivenTo (listed rosters) r h) (sym (some_is roster new now_shown.1))
      (subst (λ (k : Host). IsGivenTo (listed rosters) new k) (sym now_shown.0) (given_writing rosters.writing rosters.finished new host writing next.given)))
      (more h (Some roster) may);
  onward = λ past roster h is of may. ⊎_elim
      (λ before. keeps.onward past roster h is of before)
      (λ now_shown.
      let less = written_is_later rosters.writing rosters.finished new past keeps.successive writing is in
      subst (λ (r : Roster). past.epoch ≤ r.epoch) (sym (some_is roster new now_shown.1)) (omega (arith, less)))
      (more h (Some roster) may);
  shows = λ last h is of may. ⊎_elim (λ before. keeps.shows last h is of before) (λ now_shown. absurd (let e : None ≡ Some new = now_shown.1 in cc)) (more h None may);
  in_order = λ last following h other shown is writes not may of also.
      let same : Some new ≡ Some following = sym writing ∙ writes in
      let others : (o : Host) (s : Option Roster) → Contains last.hosts o → MayShow old o s → s ≡ Some following = ⊎_elim
      (λ before. λ o s. keeps.in_order last following h o s is writes not before)
      (λ now_shown. ⊎_elim
      (λ member. absurd (not (subst (λ (k : Host). Contains last.hosts k) (sym now_shown.0) member)))
      (λ all. λ o s in_last seen. all o s in_last seen ∙ same)
      (next.turn last is))
      (more h (Some following) may) in
      ⊎_elim (λ before. others other shown of before) (λ now_shown. now_shown.1 ∙ same) (more other shown also);
}

-- a change begins: no host shows its roster yet
pub begin_keeps : (last : Roster) (older : List Roster) (new : Roster) (sights : Sights) → KeepsRosters (record { finished = last ∷ older; writing = None }) sights → Succeeds last new → IsGoodRoster new
    → KeepsRosters (record { finished = last ∷ older; writing = Some new }) sights
begin_keeps last older new sights keeps after member = record {
  successive = (after, member, keeps.successive);
  known = λ host roster may. inr (keeps.known host roster may);
  onward = keeps.onward;
  shows = keeps.shows;
  in_order = λ l following host other shown is writes not may of also.
      absurd (let less = falls new (last ∷ older) following (after, member, keeps.successive) (given_is_listed (last ∷ older) following host (keeps.known host following may)) in
      let same : new ≡ following = some_is new following writes in
      let e : new.epoch ≡ following.epoch = ap (λ (r : Roster). r.epoch) same in
      omega (arith, less, e));
}

-- the change ends: each of its hosts shows it and nothing else
pub finish_keeps : (finished : List Roster) (new : Roster) (sights : Sights) → KeepsRosters (record { finished = finished; writing = Some new }) sights → IsShownByAll sights new → KeepsRosters (record { finished = new ∷ finished; writing = None }) sights
finish_keeps finished new sights keeps all = record {
  successive = keeps.successive;
  known = keeps.known;
  onward = λ past roster host is of may. ⊎_elim
      (λ here.
      let same : roster ≡ new = some_is roster new (all host (Some roster) (subst (λ (r : Roster). Contains r.hosts host) here of) may) in
      let e : past.epoch ≡ new.epoch = ap (λ (r : Roster). r.epoch) here in
      let f : roster.epoch ≡ new.epoch = ap (λ (r : Roster). r.epoch) same in
      omega (arith, e, f))
      (λ there. keeps.onward past roster host there of may)
      (contains_cases new finished past is);
  shows = λ last host is of may. absurd (let e : None ≡ Some new = all host None (subst (λ (r : Roster). Contains r.hosts host) (sym (some_is new last is)) of) may in cc);
  in_order = λ last following host other shown is writes not may of also. absurd (let e : None ≡ Some following = writes in cc);
}

-- a change that no host may show is given up
pub abandon_keeps : (rosters : Rosters) (new : Roster) (sights : Sights) → KeepsRosters rosters sights → rosters.writing ≡ Some new → ((host : Host) → MayShow sights host (Some new) → ⊥) → KeepsRosters (without_writing rosters) sights
abandon_keeps rosters new sights keeps writing none = record {
  successive = finished_are rosters.writing rosters.finished keeps.successive;
  known = λ host roster may. ⊎_elim
      (λ is. absurd (none host (subst (λ (r : Roster). MayShow sights host (Some r)) (some_is roster new (sym is ∙ writing)) may)))
      (λ is. is)
      (given_cases rosters.writing rosters.finished roster host (keeps.known host roster may));
  onward = keeps.onward;
  shows = keeps.shows;
  in_order = λ last following host other shown is writes not may of also. absurd (let e : None ≡ Some following = writes in cc);
}

-- a host that isn't recorded loses what it showed
pub erase_keeps : (rosters : Rosters) (host : Host) (old new : Sights) → KeepsRosters rosters old → ((last : Roster) → last_finished rosters ≡ Some last → ¬ Contains last.hosts host) → ShowsAlso host None old new → KeepsRosters rosters new
erase_keeps rosters host old new keeps left more =
    let still : (h : Host) (roster : Roster) → MayShow new h (Some roster) → MayShow old h (Some roster) =
    λ h roster may. ⊎_elim (λ before. before) (λ gone. absurd (let e : Some roster ≡ None = gone.1 in cc)) (more h (Some roster) may) in
    record {
      successive = keeps.successive;
      known = λ h roster may. keeps.known h roster (still h roster may);
      onward = λ past roster h is of may. keeps.onward past roster h is of (still h roster may);
      shows = λ last h is of may. ⊎_elim (λ before. keeps.shows last h is of before) (λ gone. left last is (subst (λ (k : Host). Contains last.hosts k) gone.0 of)) (more h None may);
      in_order = λ last following h other shown is writes not may of also.
          let all = λ (o : Host) (s : Option Roster). keeps.in_order last following h o s is writes not (still h following may) in
          ⊎_elim
          (λ before. all other shown of before)
          (λ gone. absurd (left last is (subst (λ (k : Host). Contains last.hosts k) gone.0 of)))
          (more other shown also);
    }

-- the first roster is being written while no host shows one
pub first_keeps : (first : Roster) (sights : Sights) → first.epoch ≡ 1 → IsGoodRoster first → ((host : Host) (roster : Roster) → MayShow sights host (Some roster) → ⊥)
    → KeepsRosters (record { finished = []; writing = Some first }) sights
first_keeps first sights one member none = record {
  successive = (one, member);
  known = λ host roster may. absurd (none host roster may);
  onward = λ past roster host is of may. absurd (contains_none past is);
  shows = λ last host is of may. absurd (let e : None ≡ Some last = is in cc);
  in_order = λ last following host other shown is writes not may of also. absurd (let e : None ≡ Some last = is in cc);
}

-- a host of a finished roster that isn't joining
last_member : (finished : List Roster) (last : Roster) → AreSuccessive finished → first_listed finished ≡ Some last → HasMember last
last_member [] last are e = absurd cc
last_member (first ∷ []) last are e = subst HasMember (some_is first last e) are.1.1
last_member (first ∷ second ∷ older) last are e = subst HasMember (some_is first last e) are.1.1

-- Where the hosts that are present may open the cluster by the last finished roster, no host at all shows a later one:
-- a change that was begun was shown by none, once each host shows one thing.
pub unseen : (rosters : Rosters) (sights : Sights) (found : List Sighting) (last new : Roster) → KeepsRosters rosters sights → last_finished rosters ≡ Some last → rosters.writing ≡ Some new
    → ((each : Sighting) → Contains found each → MayShow sights each.host each.shown) → ((each : Sighting) (shown : Option Roster) → Contains found each → MayShow sights each.host shown → shown ≡ each.shown)
    → MayOpenBy found last → (host : Host) → MayShow sights host (Some new) → ⊥
unseen rosters sights found last new keeps is writes seen single passes host may =
    let member = last_member rosters.finished last (finished_are rosters.writing rosters.finished keeps.successive) is in
    let less = written_is_later rosters.writing rosters.finished new last keeps.successive writes (front_in rosters.finished last is) in
    -- a host of the last roster shows no later one
    let of_member : (h : Host) → Contains last.hosts h → MayShow sights h (Some new) → ⊥ = λ h of shown.
    let back = back_cases last found h (passes.back h of) in
    let here = single back.0 (Some new) back.1 (subst (λ (k : Host). MayShow sights k (Some new)) (sym back.2) shown) in
    let most = chosen_is_latest found last back.0 new passes.chosen back.1 (sym here) in
    omega (arith, less, most) in
    ⊎_elim
    (λ of. of_member host of may)
    (λ not.
    let back = back_cases last found member.0 (passes.back member.0 member.1) in
    let its : MayShow sights member.0 back.0.shown = subst (λ (k : Host). MayShow sights k back.0.shown) back.2 (seen back.0 back.1) in
    let e = keeps.in_order last new host member.0 back.0.shown is writes not may member.1 its in
    of_member member.0 member.1 (subst (λ (s : Option Roster). MayShow sights member.0 s) e its))
    (member_cases last.hosts host)

-- each host that has the roster alone shows nothing else
pub alone_is_shown : (new : Roster) (sights : Sights) → ((host : Host) → Contains new.hosts host → sights host ≡ Some new ∷ []) → IsShownByAll sights new
alone_is_shown new sights alone host shown is may = ⊎_elim (λ e. e) (λ none. absurd (contains_none shown none)) (contains_cases (Some new) [] shown (subst (λ (l : List (Option Roster)). Contains l shown) (alone host is) may))
