-- A member is a host of each roster that may pass; who is left when a host leaves.
use Rattle.std.proofs.Common.{◌≡◌, ◌≢◌, ◌⊎◌, inl, inr, ⊎_elim, List, [], ◌∷◌, ◌++◌, slice_get, Option, Some, None, Bool, true, false, not, ◌&&◌, refl, sym, ◌∙◌, ap, subst, if◌then◌else◌}
use Rattle.std.specs.Prelude.{Contains}
use Rattle.std.specs.List.{filter}
use Rattle.std.specs.Cmp.Lexicographic.{bytes_decides}
use Rattle.cache_model.specs.Caches.{same}
use Rattle.roster_form.specs.Membership.{Host, joining_host}
use Rattle.roster_form.specs.Choice.{is_host}
use Rattle.roster_form.specs.declared.roster.Roster.{Roster}
use Rattle.roster_form.specs.Succession.{Changes, joins, settles, leaves, AreSuccessive, Rosters, listed, listed_with, first_listed}
use Rattle.roster_form.proofs.ContainsLemmas.{contains_first, contains_same, contains_later, contains_cases, contains_none}
use Rattle.cluster_model.specs.Site.{is_among}
use Rattle.cluster_model.specs.Agreement.{some_of, two_of}
use Rattle.cluster_model.specs.Members.{is_other, either_host, pending_leave_by, pending_leave, is_member}
use Rattle.cluster_model.proofs.SiteLemmas.{same_or_other, among_in, in_among}

both_are : (a b : Bool) → (a && b) ≡ true → (a ≡ true) × (b ≡ true)
both_are true b e = (refl, e)
both_are false b e = absurd cc

is_not : (b : Bool) → not b ≡ true → b ≡ false
is_not true e = absurd cc
is_not false e = refl

-- the first host that fails a test, where one does
first_out : (test : Host → Bool) (hosts : List Host) (host : Host) → Contains hosts host → test host ≡ false
    → (first : Host) × (slice_get (filter (λ h. not (test h)) hosts) 0 ≡ Some first) × (test first ≡ false) × Contains hosts first
first_out test [] host is e = absurd (contains_none host is)
first_out test (first ∷ hosts) host is e = go (test first) refl (λ there. first_out test hosts host there e)
  where
    go : (b : Bool) → test first ≡ b → (Contains hosts host → (one : Host) × (slice_get (filter (λ h. not (test h)) hosts) 0 ≡ Some one) × (test one ≡ false) × Contains hosts one)
        → (one : Host) × (slice_get (if not b then first ∷ filter (λ h. not (test h)) hosts else filter (λ h. not (test h)) hosts) 0 ≡ Some one) × (test one ≡ false) × Contains (first ∷ hosts) one
    go false t again = (first, refl, t, contains_first first hosts)
    go true t again =
        let r = again (⊎_elim (λ here. absurd (let f : true ≡ false = sym t ∙ (ap test (sym here) ∙ e) in cc)) (λ there. there) (contains_cases first hosts host is)) in
        (r.0, r.1, r.2, contains_later first hosts r.0 r.3)

-- a host of the last finished roster that isn't the one that leaves is one of the next roster
in_next : (last new : Roster) (host : Host) → Changes last new → Contains last.hosts host → is_host (pending_leave (record { finished = last ∷ []; writing = Some new })) host ≡ false → Contains new.hosts host
in_next last new host (joins joining apart none some only all in_new) is other = all host is
in_next last new host (settles joining some none alike) is other = subst (λ (l : List Host). Contains l host) (sym alike) is
in_next last new host (leaves leaving among none still only all) is other = go (is_among new.hosts host) refl
  where
    unless_in : (one : Host) → Contains last.hosts one → is_among new.hosts one ≡ false → one ≡ leaving
    unless_in one here out = ⊎_elim
        (λ e. e)
        (λ ne. absurd (let t : is_among new.hosts one ≡ true = in_among new.hosts one (all one here ne) in cc))
        (same_or_other (same one leaving) one leaving refl)

    go : (b : Bool) → is_among new.hosts host ≡ b → Contains new.hosts host
    go true e = among_in new.hosts host e
    go false e =
        let f = first_out (is_among new.hosts) last.hosts host is e in
        let joining : either_host (joining_host new) (joining_host last) ≡ None = ap (λ (n : Option Host). either_host n (joining_host last)) still ∙ none in
        let pending : pending_leave_by (Some new) (Some last) (either_host (joining_host new) (joining_host last)) ≡ Some f.0 = ap (λ (j : Option Host). pending_leave_by (Some new) (Some last) j) joining ∙ f.1 in
        let one : f.0 ≡ host = unless_in f.0 f.3 f.2 ∙ sym (unless_in host is e) in
        let yes : is_host (pending_leave_by (Some new) (Some last) (either_host (joining_host new) (joining_host last))) host ≡ true = ap (λ (p : Option Host). is_host p host) pending ∙ (bytes_decides f.0 host).1 one in
        absurd (let no_more : false ≡ true = sym other ∙ yes in cc)

-- a member is a host of both
member_by : (writing : Option Roster) (finished : List Roster) (host : Host) → AreSuccessive (listed_with writing finished) → is_member (record { finished = finished; writing = writing }) host ≡ true
    → (roster : Roster) → Contains (some_of (first_listed finished) ++ some_of writing) roster → Contains roster.hosts host
member_by writing [] host are e = absurd (let both = both_are (is_among [] host && not (is_host None host)) (not (is_host (pending_leave (record { finished = []; writing = writing })) host)) e in let f : false ≡ true = both.0 in cc)
member_by None (last ∷ older) host are e =
    let both = both_are (is_among last.hosts host && not (is_host (joining_host last) host)) true e in
    let one = both_are (is_among last.hosts host) (not (is_host (joining_host last) host)) both.0 in
    λ roster is. ⊎_elim (λ here. subst (λ (r : Roster). Contains r.hosts host) (sym here) (among_in last.hosts host one.0)) (λ none. absurd (contains_none roster none)) (contains_cases last [] roster is)
member_by (Some new) (last ∷ older) host are e =
    let leaving : Bool = is_host (pending_leave_by (Some new) (Some last) (either_host (joining_host new) (joining_host last))) host in
    let both = both_are (is_among last.hosts host && not (is_host (joining_host last) host)) (not leaving) e in
    let one = both_are (is_among last.hosts host) (not (is_host (joining_host last) host)) both.0 in
    let here_now = among_in last.hosts host one.0 in
    let next = in_next last new host are.0.change here_now (is_not leaving both.1) in
    λ roster is. ⊎_elim
    (λ here. subst (λ (r : Roster). Contains r.hosts host) (sym here) here_now)
    (λ there. ⊎_elim (λ here. subst (λ (r : Roster). Contains r.hosts host) (sym here) next) (λ none. absurd (contains_none roster none)) (contains_cases new [] roster there))
    (contains_cases last (new ∷ []) roster is)

pub member_in_each : (rosters : Rosters) (host : Host) → AreSuccessive (listed rosters) → is_member rosters host ≡ true → (roster : Roster) → Contains (two_of rosters) roster → Contains roster.hosts host
member_in_each rosters host are e = member_by rosters.writing rosters.finished host are e

-- ---- who is left

not_same : (b : Bool) (host one : Host) → same host one ≡ b → one ≢ host → not b ≡ true
not_same true host one e ne = absurd (ne (sym ((bytes_decides host one).0 e)))
not_same false host one e ne = refl

stays_in : (b : Bool) (first : Host) (rest : List Host) (one : Host) → ((b ≡ true) × (one ≡ first)) ⊎ Contains rest one → Contains (if b then first ∷ rest else rest) one
stays_in true first rest one is = ⊎_elim (λ here. contains_same first rest one here.1) (λ there. contains_later first rest one there) is
stays_in false first rest one is = ⊎_elim (λ here. absurd (let e : false ≡ true = here.0 in cc)) (λ there. there) is

pub in_filtered : (host : Host) (hosts : List Host) (one : Host) → Contains hosts one → one ≢ host → Contains (filter (is_other host) hosts) one
in_filtered host [] one is ne = absurd (contains_none one is)
in_filtered host (first ∷ hosts) one is ne = stays_in (is_other host first) first (filter (is_other host) hosts) one
    (⊎_elim
    (λ here. inl (ap (λ (h : Host). is_other host h) (sym here) ∙ not_same (same host one) host one refl ne, here))
    (λ there. inr (in_filtered host hosts one there ne))
    (contains_cases first hosts one is))
