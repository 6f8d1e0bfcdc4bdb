-- The next roster of a change: it follows the last one, and is within the limits.
use Rattle.std.proofs.Common.{◌≡◌, ◌≢◌, ◌≤◌, ◌<◌, ◌⊎◌, inl, inr, ⊎_elim, ℕ, suc, ◌+◌, ◌==◌, List, [], ◌∷◌, length, slice_get, Option, Some, None, Bool, true, false, not, refl, sym, ◌∙◌, ap, subst, arith, if◌then◌else◌}
use Rattle.std.specs.Prelude.{Contains, All}
use Rattle.std.specs.List.{filter, AllByRecursion}
use Rattle.std.specs.declared.cmp.Ordering.{Ordering}
use Rattle.std.specs.declared.cmp.Ordering.TheVariants.{Less, Equal, Greater}
use Rattle.std.specs.Ordering.{nat_cmp, is_lt, is_eq, ordering_reverse}
use Rattle.std.specs.Cmp.Lexicographic.{slice_cmp, texts_ties, bytes_decides, nat_list_cmp_total}
use Rattle.std.proofs.lemmas.List.Elements.{All-contains, All-nil, All-cons}
use Rattle.std.proofs.lemmas.Map.Keys.{sorted_head, sorted_tail}
use Rattle.cache_key.specs.Names.{IsName}
use Rattle.cache_model.specs.Caches.{same}
use Rattle.cache_model.specs.Contents.{IsRising}
use Rattle.cache_model.proofs.EntriesLemmas.{rising_none, rising_cons}
use Rattle.roster_form.specs.Membership.{Host, most_hosts, epoch_end, host_at, joining_host, MayJoin}
use Rattle.roster_form.specs.declared.roster.Roster.{Roster}
use Rattle.roster_form.specs.Succession.{joins, settles, leaves, Succeeds, IsGoodRoster}
use Rattle.roster_form.proofs.PassLemmas.{some_is}
use Rattle.roster_form.proofs.ContainsLemmas.{contains_first, contains_same, contains_later, contains_cases, contains_none}
use Rattle.cluster_model.specs.Site.{SiteShape}
use Rattle.cluster_model.specs.Agreement.{IsRosterOf}
use Rattle.cluster_model.specs.Members.{is_other, left_by}
use Rattle.cluster_model.proofs.MembersLemmas.{in_filtered}
use Rattle.command_plans.specs.ChangePlans.{with_host, joined_by, settled_from}
use Rattle.command_plans.specs.Kept.{IsSite}
use Rattle.command_plans.specs.Plan.{number_of}

-- ---- names in byte order

-- a name isn't below itself
pub irreflexive : (name : Host) → slice_cmp nat_cmp name name ≡ Less → ⊥
irreflexive name less = subst is_below (sym less ∙ nat_list_cmp_total.antisymm name name ∙ ap ordering_reverse less) tt
  where
    is_below : Ordering → Type 0
    is_below Less = Unit {0}
    is_below Equal = ⊥
    is_below Greater = ⊥

below_each : (P : Host → Type 0) (names : List Host) (name : Host) → AllByRecursion P names → Contains names name → P name
below_each P [] name all is = absurd (contains_none name is)
below_each P (first ∷ names) name all is = ⊎_elim (λ here. subst P (sym here) all.0) (λ there. below_each P names name all.1 there) (contains_cases first names name is)

all_below : {P : Host → Type 0} (names : List Host) → ((name : Host) → Contains names name → P name) → AllByRecursion P names
all_below [] each = tt
all_below (first ∷ names) each = (each first (contains_first first names), all_below names (λ name is. each name (contains_later first names name is)))

pub first_below : (first : Host) (names : List Host) (name : Host) → IsRising (first ∷ names) → Contains names name → slice_cmp nat_cmp first name ≡ Less
first_below first names name rise is = below_each (λ other. slice_cmp nat_cmp first other ≡ Less) names name (sorted_head (slice_cmp nat_cmp) first names rise) is

-- rising names among other rising names are no more than those
pub rising_within : (names wide : List Host) → IsRising names → IsRising wide → ((name : Host) → Contains names name → Contains wide name) → length names ≤ length wide
rising_within [] wide rise wide_rise among = omega (arith)
rising_within (name ∷ names) [] rise wide_rise among = absurd (contains_none name (among name (contains_first name names)))
rising_within (name ∷ names) (first ∷ wide) rise wide_rise among = ⊎_elim
    (λ here.
    let less = rising_within names wide (sorted_tail (slice_cmp nat_cmp) name names rise) (sorted_tail (slice_cmp nat_cmp) first wide wide_rise)
    (λ other is. ⊎_elim
    (λ it. absurd (irreflexive name (subst (λ (n : Host). slice_cmp nat_cmp name n ≡ Less) (it ∙ sym here) (first_below name names other rise is))))
    (λ there. there)
    (contains_cases first wide other (among other (contains_later name names other is)))) in
    omega (arith, less))
    (λ later.
    let above = first_below first wide name wide_rise later in
    let less = rising_within (name ∷ names) wide rise (sorted_tail (slice_cmp nat_cmp) first wide wide_rise)
    (λ other is. ⊎_elim
    (λ it. absurd (⊎_elim
    (λ one. irreflexive first (subst (λ (n : Host). slice_cmp nat_cmp first n ≡ Less) (sym one ∙ it) above))
    (λ more. irreflexive first (subst (λ (n : Host). slice_cmp nat_cmp first n ≡ Less) it (nat_list_cmp_total.trans first name other above (first_below name names other rise more))))
    (contains_cases name names other is)))
    (λ there. there)
    (contains_cases first wide other (among other is))) in
    omega (arith, less))
    (contains_cases first wide name (among name (contains_first name names)))

-- ---- one host more

pub with_host_cases : (host : Host) (hosts : List Host) (other : Host) → Contains (with_host host hosts) other → (other ≡ host) ⊎ Contains hosts other
with_host_cases host [] other is = contains_cases host [] other is
with_host_cases host (first ∷ hosts) other is = by (λ there. with_host_cases host hosts other there) (is_lt (slice_cmp nat_cmp host first)) is
  where
    by : (Contains (with_host host hosts) other → (other ≡ host) ⊎ Contains hosts other) → (b : Bool) → Contains (if b then host ∷ first ∷ hosts else first ∷ with_host host hosts) other → (other ≡ host) ⊎ Contains (first ∷ hosts) other
    by later true has = contains_cases host (first ∷ hosts) other has
    by later false has = ⊎_elim
        (λ here. inr (contains_same first hosts other here))
        (λ there. ⊎_elim (λ it. inl it) (λ old. inr (contains_later first hosts other old)) (later there))
        (contains_cases first (with_host host hosts) other has)

pub with_host_new : (host : Host) (hosts : List Host) → Contains (with_host host hosts) host
with_host_new host [] = contains_first host []
with_host_new host (first ∷ hosts) = by (with_host_new host hosts) (is_lt (slice_cmp nat_cmp host first))
  where
    by : Contains (with_host host hosts) host → (b : Bool) → Contains (if b then host ∷ first ∷ hosts else first ∷ with_host host hosts) host
    by later true = contains_first host (first ∷ hosts)
    by later false = contains_later first (with_host host hosts) host later

pub with_host_old : (host : Host) (hosts : List Host) (other : Host) → Contains hosts other → Contains (with_host host hosts) other
with_host_old host [] other is = absurd (contains_none other is)
with_host_old host (first ∷ hosts) other is = by (λ there. with_host_old host hosts other there) (is_lt (slice_cmp nat_cmp host first))
  where
    by : (Contains hosts other → Contains (with_host host hosts) other) → (b : Bool) → Contains (if b then host ∷ first ∷ hosts else first ∷ with_host host hosts) other
    by later true = contains_later host (first ∷ hosts) other is
    by later false = ⊎_elim (λ here. contains_same first (with_host host hosts) other here) (λ there. contains_later first (with_host host hosts) other (later there)) (contains_cases first hosts other is)

with_host_rises : (host : Host) (hosts : List Host) → IsRising hosts → (Contains hosts host → ⊥) → IsRising (with_host host hosts)
with_host_rises host [] rise apart = rising_cons host [] tt rising_none
with_host_rises host (first ∷ hosts) rise apart =
    by (with_host_rises host hosts (sorted_tail (slice_cmp nat_cmp) first hosts rise) (λ is. apart (contains_later first hosts host is))) (slice_cmp nat_cmp host first) refl
  where
    by : IsRising (with_host host hosts) → (o : Ordering) → slice_cmp nat_cmp host first ≡ o → IsRising (if is_lt o then host ∷ first ∷ hosts else first ∷ with_host host hosts)
    by later Less is = rising_cons host (first ∷ hosts)
        (is, all_below hosts (λ name among. nat_list_cmp_total.trans host first name is (first_below first hosts name rise among))) rise
    by later Equal is = absurd (apart (contains_same first hosts host ((bytes_decides host first).0 (texts_ties host first ∙ ap is_eq is))))
    by later Greater is = rising_cons first (with_host host hosts)
        (all_below (with_host host hosts) (λ name among. ⊎_elim
        (λ it. subst (λ (n : Host). slice_cmp nat_cmp first n ≡ Less) (sym it) (nat_list_cmp_total.antisymm first host ∙ ap ordering_reverse is))
        (λ old. first_below first hosts name rise old)
        (with_host_cases host hosts name among)))
        later

-- ---- by its number

pub number_finds : (hosts : List Host) (host : Host) → Contains hosts host → slice_get hosts (number_of hosts host) ≡ Some host
number_finds [] host is = absurd (contains_none host is)
number_finds (first ∷ hosts) host is = by (λ there. number_finds hosts host there) (same first host) refl
  where
    by : (Contains hosts host → slice_get hosts (number_of hosts host) ≡ Some host) → (b : Bool) → same first host ≡ b → slice_get (first ∷ hosts) (if b then 0 else suc (number_of hosts host)) ≡ Some host
    by later true e = ap (λ (h : Host). Some h) ((bytes_decides first host).0 e)
    by later false e = later (⊎_elim (λ here. absurd (let no : true ≡ false = sym ((bytes_decides first host).1 (sym here)) ∙ e in cc)) (λ there. there) (contains_cases first hosts host is))

number_below : (hosts : List Host) (host : Host) → Contains hosts host → number_of hosts host < length hosts
number_below [] host is = absurd (contains_none host is)
number_below (first ∷ hosts) host is = by (λ there. number_below hosts host there) (same first host) refl
  where
    by : (Contains hosts host → number_of hosts host < length hosts) → (b : Bool) → same first host ≡ b → (if b then 0 else suc (number_of hosts host)) < length (first ∷ hosts)
    by later true e = omega (arith)
    by later false e =
        let less = later (⊎_elim (λ here. absurd (let no : true ≡ false = sym ((bytes_decides first host).1 (sym here)) ∙ e in cc)) (λ there. there) (contains_cases first hosts host is)) in
        omega (arith, less)

-- ---- the roster in which a host is joining

-- the host may join: the site has it, the last roster hasn't, and nobody joins
pub record MayBeJoined (shape : SiteShape) (last : Roster) (host : Host) : Type 0 where
  pub site : IsSite shape
  pub good : IsGoodRoster last
  pub of_site : IsRosterOf shape last
  pub among : Contains shape.hosts host
  pub apart : Contains last.hosts host → ⊥
  pub none : joining_host last ≡ None
  pub epochs : last.epoch + 2 < epoch_end

pub joins_then : (shape : SiteShape) (last : Roster) (host : Host) → MayBeJoined shape last host → joining_host (joined_by last host) ≡ Some host
joins_then shape last host may = number_finds (with_host host last.hosts) host (with_host_new host last.hosts)

pub joined_succeeds : (shape : SiteShape) (last : Roster) (host : Host) → MayBeJoined shape last host → Succeeds last (joined_by last host)
joined_succeeds shape last host may = record {
  next = refl;
  site = refl;
  change = joins host may.apart may.none (joins_then shape last host may)
      (λ other is. ⊎_elim (λ it. inr it) (λ old. inl old) (with_host_cases host last.hosts other is)) (with_host_old host last.hosts) (with_host_new host last.hosts);
}

pub joined_of_site : (shape : SiteShape) (last : Roster) (host : Host) → MayBeJoined shape last host → IsRosterOf shape (joined_by last host)
joined_of_site shape last host may = record {
  partitions = may.of_site.partitions;
  hosts = λ other is. ⊎_elim (λ it. subst (λ (h : Host). Contains shape.hosts h) (sym it) may.among) (λ old. may.of_site.hosts other old) (with_host_cases host last.hosts other is);
}

all_of : (P : Host → Type 0) (names : List Host) → ((name : Host) → Contains names name → P name) → All P names
all_of P [] each = All-nil P
all_of P (first ∷ names) each = All-cons P first names (each first (contains_first first names)) (all_of P names (λ name is. each name (contains_later first names name is)))

-- the names of hosts of the site that rise are names, and no more than a roster may have
names_of_site : (shape : SiteShape) (names : List Host) → IsSite shape → ((name : Host) → Contains names name → Contains shape.hosts name) → All IsName names
names_of_site shape names site among = all_of IsName names (λ name is. All-contains IsName shape.hosts name site.names (among name is))

few_of_site : (shape : SiteShape) (names : List Host) → IsSite shape → IsRising names → ((name : Host) → Contains names name → Contains shape.hosts name) → length names ≤ most_hosts
few_of_site shape names site rise among =
    let less = rising_within names shape.hosts rise site.rise among in
    let most = site.most in
    omega (arith, less, most)

some_among : (names : List Host) (name : Host) → Contains names name → 1 ≤ length names
some_among [] name is = absurd (contains_none name is)
some_among (first ∷ names) name is = omega (arith)

pub joined_good : (shape : SiteShape) (last : Roster) (host : Host) → MayBeJoined shape last host → IsGoodRoster (joined_by last host)
joined_good shape last host may =
    let hosts = with_host host last.hosts in
    let rise = with_host_rises host last.hosts may.good.0.rise may.apart in
    let of_site = joined_of_site shape last host may in
    let least = may.good.0.least in
    let epochs = may.epochs in
    let member = may.good.1 in (
      record {
        least = omega (arith, least);
        below = omega (arith, epochs);
        some = some_among hosts host (with_host_new host last.hosts);
        most = few_of_site shape hosts may.site rise of_site.hosts;
        names = names_of_site shape hosts may.site of_site.hosts;
        rise = rise;
        joining = (number_below hosts host (with_host_new host last.hosts), omega (arith, epochs));
        partitions = may.good.0.partitions;
      },
      (
        member.0,
        with_host_old host last.hosts member.0 member.1,
        λ e. may.apart (subst (λ (h : Host). Contains last.hosts h) (some_is member.0 host (sym e ∙ joins_then shape last host may)) member.1),
      ),
    )

-- ---- the roster in which it has joined

-- of a roster with a joining host the next epoch is one too
next_below : (epoch : ℕ) (hosts : List Host) (joining : Option ℕ) (host : Host) → host_at hosts joining ≡ Some host → MayJoin epoch hosts joining → epoch + 1 < epoch_end
next_below epoch hosts None host e may = absurd cc
next_below epoch hosts (Some index) host e may = may.1

pub settled_succeeds : (last : Roster) (host : Host) → joining_host last ≡ Some host → Succeeds last (settled_from last)
settled_succeeds last host joining = record { next = refl; site = refl; change = settles host joining refl refl }

pub settled_good : (last : Roster) (host : Host) → IsGoodRoster last → joining_host last ≡ Some host → IsGoodRoster (settled_from last)
settled_good last host good joining =
    let least = good.0.least in
    let below = next_below last.epoch last.hosts last.joining host joining good.0.joining in (
      record {
        least = omega (arith, least);
        below = below;
        some = good.0.some;
        most = good.0.most;
        names = good.0.names;
        rise = good.0.rise;
        joining = tt;
        partitions = good.0.partitions;
      },
      (good.1.0, good.1.1, λ e. let no : None ≡ Some good.1.0 = e in cc),
    )

pub settled_of_site : (shape : SiteShape) (last : Roster) → IsRosterOf shape last → IsRosterOf shape (settled_from last)
settled_of_site shape last of_site = record { partitions = of_site.partitions; hosts = of_site.hosts }

-- ---- the roster without a host

pub from_filtered : (host : Host) (hosts : List Host) (one : Host) → Contains (filter (is_other host) hosts) one → Contains hosts one × (one ≢ host)
from_filtered host [] one is = absurd (contains_none one is)
from_filtered host (first ∷ hosts) one is = by (λ there. from_filtered host hosts one there) (same host first) refl is
  where
    by : (Contains (filter (is_other host) hosts) one → Contains hosts one × (one ≢ host)) → (b : Bool) → same host first ≡ b → Contains (if not b then first ∷ filter (is_other host) hosts else filter (is_other host) hosts) one → Contains (first ∷ hosts) one × (one ≢ host)
    by later true e has = let old = later has in (contains_later first hosts one old.0, old.1)
    by later false e has = ⊎_elim
        (λ here. (contains_same first hosts one here, λ it. let no : true ≡ false = sym ((bytes_decides host first).1 (sym it ∙ here)) ∙ e in cc))
        (λ there. let old = later there in (contains_later first hosts one old.0, old.1))
        (contains_cases first (filter (is_other host) hosts) one has)

filtered_rises : (host : Host) (hosts : List Host) → IsRising hosts → IsRising (filter (is_other host) hosts)
filtered_rises host [] rise = rise
filtered_rises host (first ∷ hosts) rise = by (filtered_rises host hosts (sorted_tail (slice_cmp nat_cmp) first hosts rise)) (is_other host first)
  where
    by : IsRising (filter (is_other host) hosts) → (b : Bool) → IsRising (if b then first ∷ filter (is_other host) hosts else filter (is_other host) hosts)
    by later true = rising_cons first (filter (is_other host) hosts) (all_below (filter (is_other host) hosts) (λ name is. first_below first hosts name rise (from_filtered host hosts name is).0)) later
    by later false = later

-- the host may leave: it is one of several, and nobody joins
pub record MayLeave (last : Roster) (host : Host) : Type 0 where
  pub good : IsGoodRoster last
  pub among : Contains last.hosts host
  pub several : (length last.hosts == 1) ≡ false
  pub none : joining_host last ≡ None
  pub epochs : last.epoch + 1 < epoch_end

pub same_or_not : (one other : Host) → (one ≡ other) ⊎ (one ≢ other)
same_or_not one other = by (same one other) refl
  where
    by : (b : Bool) → same one other ≡ b → (one ≡ other) ⊎ (one ≢ other)
    by true e = inl ((bytes_decides one other).0 e)
    by false e = inr (λ it. let no : true ≡ false = sym ((bytes_decides one other).1 it) ∙ e in cc)

-- of several hosts one is another
another : (hosts : List Host) (host : Host) → IsRising hosts → Contains hosts host → (length hosts == 1) ≡ false → (one : Host) × Contains hosts one × (one ≢ host)
another [] host rise among several = absurd (contains_none host among)
another (first ∷ []) host rise among several = absurd cc
another (first ∷ second ∷ hosts) host rise among several = ⊎_elim
    (λ here. (
      second,
      contains_later first (second ∷ hosts) second (contains_first second hosts),
      λ it. irreflexive first (subst (λ (n : Host). slice_cmp nat_cmp first n ≡ Less) (it ∙ sym here) (first_below first (second ∷ hosts) second rise (contains_first second hosts))),
    ))
    (λ ne. (first, contains_first first (second ∷ hosts), ne))
    (same_or_not first host)

pub left_succeeds : (last : Roster) (host : Host) → MayLeave last host → Succeeds last (left_by last host)
left_succeeds last host may = record {
  next = refl;
  site = refl;
  change = leaves host may.among may.none refl (λ other is. from_filtered host last.hosts other is) (λ other is ne. in_filtered host last.hosts other is ne);
}

pub left_of_site : (shape : SiteShape) (last : Roster) (host : Host) → IsRosterOf shape last → IsRosterOf shape (left_by last host)
left_of_site shape last host of_site = record { partitions = of_site.partitions; hosts = λ other is. of_site.hosts other (from_filtered host last.hosts other is).0 }

pub left_good : (last : Roster) (host : Host) → MayLeave last host → IsGoodRoster (left_by last host)
left_good last host may =
    let hosts = filter (is_other host) last.hosts in
    let rise = filtered_rises host last.hosts may.good.0.rise in
    let one = another last.hosts host may.good.0.rise may.among may.several in
    let stays = in_filtered host last.hosts one.0 one.1 one.2 in
    let least = may.good.0.least in
    let epochs = may.epochs in
    let fewer = rising_within hosts last.hosts rise may.good.0.rise (λ name is. (from_filtered host last.hosts name is).0) in
    let most = may.good.0.most in (
      record {
        least = omega (arith, least);
        below = epochs;
        some = some_among hosts one.0 stays;
        most = omega (arith, fewer, most);
        names = all_of IsName hosts (λ name is. All-contains IsName last.hosts name may.good.0.names (from_filtered host last.hosts name is).0);
        rise = rise;
        joining = tt;
        partitions = may.good.0.partitions;
      },
      (one.0, stays, λ e. let no : None ≡ Some one.0 = e in cc),
    )
