-- The members of a roster: its hosts but the one that is joining.
use Rattle.std.proofs.Common.{◌≡◌, ◌≢◌, ◌↔◌, ⊎_elim, ℕ, zero, suc, ◌<◌, List, [], ◌∷◌, length, get_or, true, false, Option, Some, None, sym, ◌∙◌, ap, arith}
use Rattle.std.specs.Prelude.{Contains, slice_get}
use Rattle.std.specs.Ordering.{nat_cmp}
use Rattle.std.specs.declared.cmp.Ordering.TheVariants.{Less}
use Rattle.std.specs.Cmp.Lexicographic.{slice_cmp, bytes_decides}
use Rattle.std.specs.List.{AllByRecursion, IsDistinct, remove}
use Rattle.std.proofs.lemmas.List.Elements.{Contains-get_or}
use Rattle.std.proofs.lemmas.Map.Keys.{sorted_head, sorted_tail}
use Rattle.std.proofs.lemmas.Option.{slice_get_within, get_or_from_slice_get, slice_get-get_or}
use Rattle.cache_model.specs.Caches.{same}
use Rattle.cache_model.specs.Contents.{IsRising}
use Rattle.cache_model.proofs.EntriesLemmas.{IsDistinct-from_rising, rising_cons}
use Rattle.roster_form.specs.Membership.{Host, IsRoster, MayJoin, host_at, joining_host}
use Rattle.roster_form.specs.Succession.{HasMember}
use Rattle.roster_form.specs.declared.roster.Roster.{Roster}
use Rattle.roster_form.proofs.ContainsLemmas.{contains_same, contains_later, contains_cases, contains_none}
use Rattle.roster_form.proofs.PassLemmas.{some_is}
use Rattle.roster_book.specs.Standing.{hosts_but, members_of}

-- none of these is the host
apart : (host : Host) (hosts : List Host) (other : Host) → AllByRecursion (λ each. same host each ≡ false) hosts → Contains hosts other → other ≢ host
apart host [] other all is = absurd (contains_none other is)
apart host (first ∷ hosts) other all is = λ e. ⊎_elim
    (λ here. let t : same host first ≡ true = (bytes_decides host first).1 (sym e ∙ here) in let f : same host first ≡ false = all.0 in absurd cc)
    (λ there. apart host hosts other all.1 there e)
    (contains_cases first hosts other is)

contains_at : (hosts : List Host) (i : ℕ) (host : Host) → slice_get hosts i ≡ Some host → Contains hosts host
contains_at hosts i host e = (i, slice_get_within hosts i host e, get_or_from_slice_get hosts i host host e)

-- without the host with this index there are the others
but_one : (hosts : List Host) (i : ℕ) (joining host : Host) → IsDistinct same hosts → slice_get hosts i ≡ Some joining → Contains (remove hosts i) host ↔ (Contains hosts host × (host ≢ joining))
unfolding IsDistinct
but_one [] i joining host once e = absurd cc
but_one (first ∷ hosts) zero joining host once e =
    let is : first ≡ joining = some_is first joining e in (
      λ there. (contains_later first hosts host there, λ one. apart first hosts host once.0 there (one ∙ sym is)),
      λ both. ⊎_elim (λ here. absurd (both.1 (here ∙ is))) (λ there. there) (contains_cases first hosts host both.0),
    )
but_one (first ∷ hosts) (suc i) joining host once e =
    let rest = but_one hosts i joining host once.1 e in (
      λ is. ⊎_elim
          (λ here. (contains_same first hosts host here, λ one. apart first hosts joining once.0 (contains_at hosts i joining e) (sym one ∙ here)))
          (λ there. let r = rest.0 there in (contains_later first hosts host r.0, r.1))
          (contains_cases first (remove hosts i) host is),
      λ both. ⊎_elim
          (λ here. contains_same first (remove hosts i) host here)
          (λ there. contains_later first (remove hosts i) host (rest.1 (there, both.1)))
          (contains_cases first hosts host both.0),
    )

pub joined : (roster : Roster) (host : Host) → IsRoster roster → Contains (members_of roster) host ↔ (Contains roster.hosts host × (joining_host roster ≢ Some host))
joined roster host is = go roster.joining is.joining
  where
    go : (joining : Option ℕ) → MayJoin roster.epoch roster.hosts joining → Contains (hosts_but joining roster.hosts) host ↔ (Contains roster.hosts host × (host_at roster.hosts joining ≢ Some host))
    go None may = (λ there. (there, λ e. absurd cc), λ both. both.0)
    go (Some index) may =
        let e = slice_get-get_or roster.hosts index [] may.0 in
        let rest = but_one roster.hosts index (get_or roster.hosts index []) host (IsDistinct-from_rising roster.hosts is.rise) e in (
          λ there. let r = rest.0 there in (r.0, λ one. r.1 (some_is host (get_or roster.hosts index []) (sym one ∙ e))),
          λ both. rest.1 (both.0, λ one. both.1 (e ∙ ap (λ (h : Host). Some h) (sym one))),
        )

-- they rise as the hosts do
all_but_one : (P : Host → Type 0) (hosts : List Host) (i : ℕ) → AllByRecursion P hosts → AllByRecursion P (remove hosts i)
all_but_one P [] zero all = all
all_but_one P [] (suc i) all = all
all_but_one P (first ∷ hosts) zero all = all.1
all_but_one P (first ∷ hosts) (suc i) all = (all.0, all_but_one P hosts i all.1)

rise_but_one : (hosts : List Host) (i : ℕ) → IsRising hosts → IsRising (remove hosts i)
rise_but_one [] zero rise = rise
rise_but_one [] (suc i) rise = rise
rise_but_one (first ∷ hosts) zero rise = sorted_tail (slice_cmp nat_cmp) first hosts rise
rise_but_one (first ∷ hosts) (suc i) rise =
    rising_cons first (remove hosts i)
    (all_but_one (λ other. slice_cmp nat_cmp first other ≡ Less) hosts i (sorted_head (slice_cmp nat_cmp) first hosts rise))
    (rise_but_one hosts i (sorted_tail (slice_cmp nat_cmp) first hosts rise))

pub members_rise : (roster : Roster) → IsRoster roster → IsRising (members_of roster)
members_rise roster is = go roster.joining
  where
    go : (joining : Option ℕ) → IsRising (hosts_but joining roster.hosts)
    go None = is.rise
    go (Some index) = rise_but_one roster.hosts index is.rise

-- there is a member where the roster has one
pub some_joined : (roster : Roster) → IsRoster roster → 0 < length (members_of roster) ↔ HasMember roster
some_joined roster is = (
  λ long.
      let first = get_or (members_of roster) 0 [] in
      let r = (joined roster first is).0 (Contains-get_or (members_of roster) 0 [] long) in (first, r.0, r.1),
  λ member. let there = (joined roster member.0 is).1 (member.1, member.2) in let within = there.1 in omega arith,
)
