-- Where a change of the roster may begin: by its refusals, by what is pending, and by who owns a partition.
use Rattle.std.proofs.Common.{◌≡◌, ◌≢◌, ℕ, zero, suc, ◌+◌, ◌==◌, List, [], ◌∷◌, length, slice_get, Option, Some, None, Bool, true, false, not, ◌&&◌, ◌||◌, refl, sym, ◌∙◌, ap, subst, arith, if◌then◌else◌}
use Rattle.std.specs.Prelude.{Contains}
use Rattle.std.specs.List.{filter}
use Rattle.std.specs.declared.cmp.Ordering.TheVariants.{Less}
use Rattle.std.specs.Ordering.{nat_cmp}
use Rattle.std.specs.Cmp.Lexicographic.{slice_cmp, bytes_decides}
use Rattle.std.proofs.lemmas.Map.Keys.{sorted_tail}
use Rattle.cache_model.specs.Caches.{same}
use Rattle.cache_model.specs.Contents.{IsRising}
use Rattle.roster_form.specs.Choice.{is_host}
use Rattle.roster_form.specs.Membership.{Host, joining_host}
use Rattle.roster_form.specs.declared.roster.Roster.{Roster}
use Rattle.roster_form.specs.Succession.{Rosters, AreSuccessive, Changes, joins, settles, leaves, listed, first_listed, last_finished}
use Rattle.roster_form.proofs.PassLemmas.{some_is}
use Rattle.roster_form.proofs.ContainsLemmas.{contains_none}
use Rattle.cluster_model.specs.Lane.{LaneStanding}
use Rattle.cluster_model.specs.Site.{SiteShape, is_among, numbers_of}
use Rattle.cluster_model.specs.Members.{left_by, hosts_or_none, joining_or_none, either_host, pending_join, pending_leave_by, pending_leave, is_member}
use Rattle.cluster_model.specs.Memory.{PartState, moves_to, first_owned}
use Rattle.cluster_model.proofs.MembersLemmas.{in_filtered}
use Rattle.cluster_model.proofs.SiteLemmas.{among_in, in_among, host_of_number, number_of_host}
use Rattle.command_plans.specs.Asked.{SiteRefusal}
use Rattle.command_plans.specs.ChangePlans.{other_pending}
use Rattle.command_plans.specs.Plan.{◌or_first◌, refuses_if, refuses_by, number_of}
use Rattle.command_plans.proofs.FoundRefusalLemmas.{kept_in, in_list}
use Rattle.command_plans.proofs.NextRosterLemmas.{first_below, irreflexive}

-- ---- refusals

pub none_of : (first second : Option SiteRefusal) → (first or_first second) ≡ None → (first ≡ None) × (second ≡ None)
none_of None second e = (refl, e)
none_of (Some refusal) second e = absurd cc

pub not_refused : (b : Bool) (refusal : SiteRefusal) → refuses_if b refusal ≡ None → b ≡ false
not_refused true refusal e = absurd cc
not_refused false refusal e = refl

pub none_given : {T : Type 0} (one : Option T) (refusal : T → SiteRefusal) → refuses_by one refusal ≡ None → one ≡ None
none_given None refusal e = refl
none_given (Some it) refusal e = absurd cc

pub negated : (b : Bool) → not b ≡ false → b ≡ true
negated true e = refl
negated false e = absurd cc

-- ---- rosters

-- what the finished rosters are, by the last one
pub rosters_are : (rosters : Rosters) (last : Roster) → last_finished rosters ≡ Some last → (older : List Roster) × (rosters ≡ record { finished = last ∷ older; writing = rosters.writing })
rosters_are rosters last e = by rosters.finished refl e
  where
    by : (finished : List Roster) → rosters.finished ≡ finished → first_listed finished ≡ Some last → (older : List Roster) × (rosters ≡ record { finished = last ∷ older; writing = rosters.writing })
    by [] is first = absurd cc
    by (one ∷ older) is first =
        let all : rosters.finished ≡ last ∷ older = is ∙ ap (λ (r : Roster). r ∷ older) (some_is one last first) in
        (older, λ i. record { finished = all i; writing = rosters.writing })

-- ---- nothing is pending

nothing_first : (hosts : List Host) (host : Host) → Contains hosts host → slice_get hosts 0 ≡ None → ⊥
nothing_first [] host is none = contains_none host is
nothing_first (first ∷ hosts) host is none = cc

-- of each change a join or a leave is pending
no_change : (last new : Roster) → Changes last new → either_host (joining_host new) (joining_host last) ≡ None → slice_get (filter (λ host. not (is_among new.hosts host)) last.hosts) 0 ≡ None → ⊥
no_change last new (joins host apart none joining from to has) join leave = let no : Some host ≡ None = ap (λ (j : Option Host). either_host j (joining_host last)) (sym joining) ∙ join in cc
no_change last new (settles host was now alike) join leave =
    let no : Some host ≡ None = ap (λ (j : Option Host). either_host j (Some host)) (sym now) ∙ ap (λ (j : Option Host). either_host (joining_host new) j) (sym was) ∙ join in cc
no_change last new (leaves host among none now from to) join leave =
    nothing_first (filter (λ h. not (is_among new.hosts h)) last.hosts) host (kept_in (λ h. not (is_among new.hosts h)) last.hosts host among (by (is_among new.hosts host) refl)) leave
  where
    by : (b : Bool) → is_among new.hosts host ≡ b → not b ≡ true
    by true e = absurd ((from host (among_in new.hosts host e)).1 refl)
    by false e = refl

pub nothing_written : (rosters : Rosters) (last : Roster) (older : List Roster) → rosters ≡ record { finished = last ∷ older; writing = rosters.writing } → AreSuccessive (listed rosters) → pending_join rosters ≡ None → pending_leave rosters ≡ None → rosters.writing ≡ None
nothing_written rosters last older is are join leave = by rosters.writing refl
  where
    by : (writing : Option Roster) → rosters.writing ≡ writing → writing ≡ None
    by None e = refl
    by (Some new) e =
        let whole : rosters ≡ record { finished = last ∷ older; writing = Some new } = is ∙ ap (λ (w : Option Roster). record { finished = last ∷ older; writing = w }) e in
        let successive : AreSuccessive (new ∷ last ∷ older) = subst (λ (r : Rosters). AreSuccessive (listed r)) whole are in
        let joining : either_host (joining_host new) (joining_host last) ≡ None = subst (λ (r : Rosters). pending_join r ≡ None) whole join in
        let leaving : pending_leave_by (Some new) (Some last) (either_host (joining_host new) (joining_host last)) ≡ None = subst (λ (r : Rosters). pending_leave r ≡ None) whole leave in
        absurd (no_change last new successive.0.change joining (subst (λ (j : Option Host). pending_leave_by (Some new) (Some last) j ≡ None) joining leaving))

-- no other join is pending, and this one neither
pub no_join : (host : Host) (join : Option Host) → other_pending host join ≡ None → is_host join host ≡ false → join ≡ None
no_join host None other own = refl
no_join host (Some one) other own = by (same host one) refl other
  where
    by : (b : Bool) → same host one ≡ b → (if not b then Some one else None) ≡ None → Some one ≡ None
    by true e none = absurd (let no : true ≡ false = sym ((bytes_decides one host).1 (sym ((bytes_decides host one).0 e))) ∙ own in cc)
    by false e none = none

-- a host that is no member, where nothing is pending, is none of the last roster
pub not_in_last : (rosters : Rosters) (last : Roster) (host : Host) → last_finished rosters ≡ Some last → joining_host last ≡ None → pending_leave rosters ≡ None → is_member rosters host ≡ false → Contains last.hosts host → ⊥
not_in_last rosters last host is none leave member among =
    let here : is_among last.hosts host ≡ true = in_among last.hosts host among in
    let no : true ≡ false =
    (λ i. sym here i && not (is_host (sym none i) host) && not (is_host (sym leave i) host))
    ∙ ap (λ (l : Option Roster). is_among (hosts_or_none l) host && not (is_host (joining_or_none l) host) && not (is_host (pending_leave rosters) host)) (sym is)
    ∙ member in
    cc

-- and a member is one of it
pub in_last : (rosters : Rosters) (last : Roster) (host : Host) → last_finished rosters ≡ Some last → is_member rosters host ≡ true → Contains last.hosts host
in_last rosters last host is member =
    let whole : (is_among last.hosts host && not (is_host (joining_host last) host) && not (is_host (pending_leave rosters) host)) ≡ true =
    ap (λ (l : Option Roster). is_among (hosts_or_none l) host && not (is_host (joining_or_none l) host) && not (is_host (pending_leave rosters) host)) (sym is) ∙ member in
    among_in last.hosts host (first_of (is_among last.hosts host) (not (is_host (joining_host last) host)) (not (is_host (pending_leave rosters) host)) whole)
  where
    first_of : (a b c : Bool) → (a && b && c) ≡ true → a ≡ true
    first_of true b c e = refl
    first_of false b c e = absurd (let no : false ≡ true = e in cc)

-- ---- who owns a partition

either_false : (a b : Bool) → (a || b) ≡ false → (a ≡ false) × (b ≡ false)
either_false true b e = absurd cc
either_false false b e = (refl, e)

taken_or : (b : Bool) (first : ℕ) (rest : Option ℕ) → (if b then Some first else rest) ≡ None → (b ≡ false) × (rest ≡ None)
taken_or true first rest e = absurd cc
taken_or false first rest e = (refl, e)

pub owned_none : (number first : ℕ) (standings : List LaneStanding) (parts : List PartState) (partition : ℕ) (standing : LaneStanding) (part : PartState) → first_owned number first standings parts ≡ None → slice_get standings partition ≡ Some standing
    → slice_get parts partition ≡ Some part → ((standing.store.host == number) ≡ false) × (moves_to part.move number ≡ false)
owned_none number first [] parts partition standing part none at there = absurd cc
owned_none number first (one ∷ standings) [] partition standing part none at there = absurd cc
owned_none number first (one ∷ standings) (state ∷ parts) zero standing part none at there =
    let apart = either_false (one.store.host == number) (moves_to state.move number) (taken_or (one.store.host == number || moves_to state.move number) first (first_owned number (first + 1) standings parts) none).0 in (
      ap (λ (s : LaneStanding). s.store.host == number) (sym (some_is one standing at)) ∙ apart.0,
      ap (λ (p : PartState). moves_to p.move number) (sym (some_is state part there)) ∙ apart.1,
    )
owned_none number first (one ∷ standings) (state ∷ parts) (suc partition) standing part none at there =
    owned_none number (first + 1) standings parts partition standing part (taken_or (one.store.host == number || moves_to state.move number) first (first_owned number (first + 1) standings parts) none).1 at there

-- of two lists as long as each other
pub item_too : {A B : Type 0} (some : List A) (others : List B) (index : ℕ) (item : A) → length some ≡ length others → slice_get some index ≡ Some item → (other : B) × (slice_get others index ≡ Some other)
item_too [] others index item e at = absurd cc
item_too (first ∷ some) [] index item e at = absurd cc
item_too (first ∷ some) (other ∷ others) zero item e at = (other, refl)
item_too (first ∷ some) (other ∷ others) (suc index) item e at = item_too some others index item (let less : length some ≡ length others = omega (arith, e) in less) at

-- ---- numbers of hosts

pub one_number : (hosts : List Host) (host : Host) (number : ℕ) → IsRising hosts → slice_get hosts number ≡ Some host → number ≡ number_of hosts host
one_number [] host number rise at = absurd cc
one_number (first ∷ hosts) host zero rise at = by (same first host) refl
  where
    by : (b : Bool) → same first host ≡ b → 0 ≡ (if b then 0 else suc (number_of hosts host))
    by true e = refl
    by false e = absurd (let no : true ≡ false = sym ((bytes_decides first host).1 (some_is first host at)) ∙ e in cc)
one_number (first ∷ hosts) host (suc number) rise at = by (one_number hosts host number (sorted_tail (slice_cmp nat_cmp) first hosts rise) at) (same first host) refl
  where
    by : number ≡ number_of hosts host → (b : Bool) → same first host ≡ b → suc number ≡ (if b then 0 else suc (number_of hosts host))
    by later true e = absurd (irreflexive first (subst (λ (h : Host). slice_cmp nat_cmp first h ≡ Less) (sym ((bytes_decides first host).0 e)) (first_below first hosts host rise (in_list hosts number host at))))
    by later false e = ap suc later

-- a number of a host stays one after another host has left
pub number_stays : (shape : SiteShape) (last : Roster) (host : Host) (number : ℕ) → IsRising shape.hosts → Contains (numbers_of shape.hosts last.hosts) number → number ≢ number_of shape.hosts host → Contains (numbers_of shape.hosts (left_by last host).hosts) number
number_stays shape last host number rise among apart =
    let name = host_of_number shape.hosts last.hosts number among in
    number_of_host shape.hosts (left_by last host).hosts number name.0 name.1
    (in_filtered host last.hosts name.0 name.2 (λ it. apart (one_number shape.hosts host number rise (name.1 ∙ ap (λ (h : Host). Some h) it))))
