-- The calls of a load are quiet.
use Rattle.std.proofs.Common.{◌≡◌, ◌≢◌, ⊎_elim, ℕ, zero, suc, ◌+◌, ◌<◌, ◌≤◌, nat_lt, Bool, true, false, List, [], ◌∷◌, ◌++◌, length, slice_get, Some, refl, sym, ◌∙◌, ap, subst, arith}
use Rattle.std.specs.Prelude.{Contains}
use Rattle.std.specs.List.{flat_map}
use Rattle.std.proofs.lemmas.Bool.{cases_eq, cases_lt, lt-ltb, le-ltb}
use Rattle.disk_lane.specs.Lanes.{LaneImage}
use Rattle.disk_trait.specs.View.{View}
use Rattle.roster_form.specs.Membership.{Host}
use Rattle.roster_form.specs.declared.roster.Roster.{Roster}
use Rattle.roster_form.proofs.ContainsLemmas.{contains_first, contains_none}
use Rattle.cluster_model.specs.Acts.{Act}
use Rattle.cluster_model.specs.Agreement.{hosts_in, two_of, Durable}
use Rattle.cluster_model.specs.Carried.{MovesLane}
use Rattle.cluster_model.specs.Lane.{LaneStanding, KeepsLane}
use Rattle.cluster_model.specs.Site.{SiteShape, partition_of, numbers_of, DiskOf, lane_disk, service_disk, SiteImage, SiteView, lane_in, IsTaken}
use Rattle.cluster_model.proofs.AgreementLemmas.{host_in}
use Rattle.cluster_model.proofs.SiteLemmas.{host_of_number, more_numbers}
use Rattle.command_plans.specs.OpeningPlans.{lane_calls, lane_loads}
use Rattle.command_plans.specs.Plan.{numbers_up}
use Rattle.site_disks.specs.Following.{AreDoneOver, IsDoneFrom}
use Rattle.site_disks.specs.SiteDisks.{views_of, HasLanesFor}
use Rattle.site_disks.specs.Stretches.{IsMoment}
use Rattle.site_disks.specs.Told.{SiteTells, IsNothingPending}
use Rattle.open_lanes.specs.Opened.{KeepNewest}
use Rattle.opening_laws.specs.Loadable.{IsLoadable}
use Rattle.opening_laws.proofs.LaneErasedLemmas.{erased_keeps}
use Rattle.opening_laws.proofs.LaneBeforeLemmas.{LaneBefore, lane_before}

-- the one or the other
by_order : Bool → LaneImage → LaneImage → LaneImage
by_order true below above = below
by_order false below above = above

-- the disks of the partitions below this one have the one image, and the others another
mixed : ℕ → SiteImage → SiteImage → SiteImage
mixed count below above (lane_disk partition host) = by_order (nat_lt partition count) (lane_in below partition) (lane_in above partition) host
mixed count below above (service_disk host) = above (service_disk host)

-- a partition below has the one
mixed_below : (count : ℕ) (below above : SiteImage) (partition : ℕ) → partition < count → lane_in (mixed count below above) partition ≡ lane_in below partition
unfolding mixed by_order
mixed_below count below above partition less = λ i host. by_order (lt-ltb partition count less i) (lane_in below partition) (lane_in above partition) host

-- and any other the other
mixed_above : (count : ℕ) (below above : SiteImage) (partition : ℕ) → count ≤ partition → lane_in (mixed count below above) partition ≡ lane_in above partition
unfolding mixed by_order
mixed_above count below above partition most = λ i host. by_order (le-ltb partition count most i) (lane_in below partition) (lane_in above partition) host

-- and so have the service disks
mixed_service : (count : ℕ) (below above : SiteImage) (host : ℕ) → mixed count below above (service_disk host) ≡ above (service_disk host)
unfolding mixed
mixed_service count below above host = refl

-- one partition more is below, and the others are as they were
mixed_elsewhere : (partition : ℕ) (below above : SiteImage) (other : ℕ) → other ≢ partition → lane_in (mixed (suc partition) below above) other ≡ lane_in (mixed partition below above) other
mixed_elsewhere partition below above other apart = ⊎_elim
    (λ less. mixed_below (suc partition) below above other (omega (arith, less)) ∙ sym (mixed_below partition below above other less))
    (λ most. mixed_above (suc partition) below above other (omega (arith, most, apart)) ∙ sym (mixed_above partition below above other most))
    (cases_lt other partition)

-- images are the same where each disk of each is
same_image : (one other : SiteImage) → ((partition : ℕ) → lane_in one partition ≡ lane_in other partition) → ((host : ℕ) → one (service_disk host) ≡ other (service_disk host)) → one ≡ other
same_image one other lanes services = λ i disk. each disk i
  where
    each : (disk : DiskOf) → one disk ≡ other disk
    each (lane_disk partition host) = ap (λ (l : LaneImage). l host) (lanes partition)
    each (service_disk host) = services host

-- ---- one lane

-- a host of some roster
some_roster : (rosters : List Roster) (host : Host) → Contains (hosts_in rosters) host → (roster : Roster) × Contains rosters roster
some_roster [] host is = absurd (contains_none host is)
some_roster (roster ∷ rosters) host is = (roster, contains_first roster rosters)

-- the host of a partition's store is one of these, where any is
owner_listed : (shape : SiteShape) (hosts : List ℕ) (durable : Durable) (partition : ℕ) (standing : LaneStanding) → IsLoadable shape hosts durable → slice_get durable.standings partition ≡ Some standing → (host : ℕ) → Contains hosts host
    → Contains hosts standing.store.host
owner_listed shape hosts durable partition standing loadable at host is =
    let rosters : List Roster = two_of durable.rosters in
    let named = host_of_number shape.hosts (hosts_in rosters) host ((loadable.recorded host).1 is) in
    let one = some_roster rosters named.0 named.2 in
    (loadable.recorded standing.store.host).0
    (more_numbers shape.hosts one.0.hosts (hosts_in rosters) (λ name among. host_in rosters one.0 name one.1 among) standing.store.host (loadable.owner partition standing at one.0 one.1))

-- a partition whose disks came from this image keeps what it stands for
lane_keeps : (views : SiteView) (shape : SiteShape) (hosts : List ℕ) (durable : Durable) (partition : ℕ) (new : LaneImage) → IsLoadable shape hosts durable → (before : LaneBefore views hosts shape.partitions partition new)
    → (standing : LaneStanding) → slice_get durable.standings partition ≡ Some standing → KeepsLane (partition_of shape partition) (numbers_of shape.hosts (hosts_in (two_of durable.rosters))) standing before.lane
    → KeepsLane (partition_of shape partition) (numbers_of shape.hosts (hosts_in (two_of durable.rosters))) standing new
lane_keeps views shape hosts durable partition new loadable before standing at keeps =
    let recorded : List ℕ = numbers_of shape.hosts (hosts_in (two_of durable.rosters)) in
    ⊎_elim
    (λ same. subst (λ (l : LaneImage). KeepsLane (partition_of shape partition) recorded standing l) (sym same) keeps)
    (λ came. erased_keeps (partition_of shape partition) recorded hosts standing before.lane new keeps (loadable.one partition standing at) (λ h is. (loadable.recorded h).1 is)
    (owner_listed shape hosts durable partition standing loadable at came.1.host came.1.newest.listed) came.1)
    before.came

-- with no host nothing was called
none_came : (views : SiteView) (hosts : List ℕ) (partitions partition : ℕ) (new : LaneImage) → hosts ≡ [] → (before : LaneBefore views hosts partitions partition new) → new ≡ before.lane
none_came views hosts partitions partition new none before =
    ⊎_elim (λ same. same) (λ came. absurd (contains_none came.1.host (subst (λ (l : List ℕ). Contains l came.1.host) none came.1.newest.listed))) before.came

-- ---- the calls

-- calls of a lane that find nothing to do
calls_then : (shape : SiteShape) (hosts calls : List ℕ) (durable : Durable) (partition : ℕ) (more : List Act) (mid new : SiteImage) → IsLoadable shape hosts durable → AreDoneOver shape more durable mid new
    → AreDoneOver shape (lane_calls calls partition ++ more) durable mid new
calls_then shape hosts [] durable partition more mid new loadable next = next
calls_then shape hosts (host ∷ calls) durable partition more mid new loadable next = (
  mid,
  record { others = record { lanes = λ other apart. refl; services = λ h. refl }; keeps = λ standing at keeps. (keeps, loadable.owner partition standing at) },
  calls_then shape hosts calls durable partition more mid new loadable next,
)

-- the first call of a lane stands for all
lane_then : (shape : SiteShape) (hosts calls : List ℕ) (durable : Durable) (partition : ℕ) (more : List Act) (old mid new : SiteImage) → IsLoadable shape hosts durable → (calls ≡ [] → mid ≡ old)
    → MovesLane shape durable partition (λ standing. standing) old mid → AreDoneOver shape more durable mid new → AreDoneOver shape (lane_calls calls partition ++ more) durable old new
lane_then shape hosts [] durable partition more old mid new loadable idle moves next = subst (λ (m : SiteImage). AreDoneOver shape more durable m new) (idle refl) next
lane_then shape hosts (host ∷ calls) durable partition more old mid new loadable idle moves next = (mid, moves, calls_then shape hosts calls durable partition more mid new loadable next)

-- ---- the site

-- the image that all came from
start : (views : SiteView) (hosts : List ℕ) (partitions : ℕ) (image : SiteImage) → ((partition : ℕ) → LaneBefore views hosts partitions partition (lane_in image partition)) → SiteImage
start views hosts partitions image before (lane_disk partition host) = (before partition).lane host
start views hosts partitions image before (service_disk host) = image (service_disk host)

-- so it is of each partition
start_lane : (views : SiteView) (hosts : List ℕ) (partitions : ℕ) (image : SiteImage) → (before : (partition : ℕ) → LaneBefore views hosts partitions partition (lane_in image partition)) → (partition : ℕ)
    → lane_in (start views hosts partitions image before) partition ≡ (before partition).lane
unfolding start
start_lane views hosts partitions image before partition = refl

-- and of each service disk
start_service : (views : SiteView) (hosts : List ℕ) (partitions : ℕ) (image : SiteImage) → (before : (partition : ℕ) → LaneBefore views hosts partitions partition (lane_in image partition)) → (host : ℕ)
    → start views hosts partitions image before (service_disk host) ≡ image (service_disk host)
unfolding start
start_service views hosts partitions image before host = refl

-- a stop might have left it before
start_taken : (views : SiteView) (hosts : List ℕ) (partitions : ℕ) (image : SiteImage) → (before : (partition : ℕ) → LaneBefore views hosts partitions partition (lane_in image partition))
    → ((host : ℕ) → (views (service_disk host)).images (image (service_disk host))) → IsTaken views (start views hosts partitions image before)
unfolding start
start_taken views hosts partitions image before services (lane_disk partition host) = (before partition).taken host
start_taken views hosts partitions image before services (service_disk host) = services host

-- the partition's disks go on to their images, and what it stands for stays
one_moves : (views : SiteView) (shape : SiteShape) (hosts : List ℕ) (durable : Durable) (image : SiteImage) → IsLoadable shape hosts durable
    → (before : (partition : ℕ) → LaneBefore views hosts shape.partitions partition (lane_in image partition)) → (partition : ℕ)
    → MovesLane shape durable partition (λ standing. standing) (mixed partition image (start views hosts shape.partitions image before)) (mixed (suc partition) image (start views hosts shape.partitions image before))
one_moves views shape hosts durable image loadable before partition =
    let from : SiteImage = start views hosts shape.partitions image before in
    let recorded : List ℕ = numbers_of shape.hosts (hosts_in (two_of durable.rosters)) in
    record {
      others = record {
        lanes = λ other apart. mixed_elsewhere partition image from other apart;
        services = λ host. mixed_service (suc partition) image from host ∙ sym (mixed_service partition image from host);
      };
      keeps = λ standing at keeps. (
        subst (λ (l : LaneImage). KeepsLane (partition_of shape partition) recorded standing l) (sym (mixed_below (suc partition) image from partition (omega arith)))
            (lane_keeps views shape hosts durable partition (lane_in image partition) loadable (before partition) standing at
            (subst (λ (l : LaneImage). KeepsLane (partition_of shape partition) recorded standing l)
            (mixed_above partition image from partition (omega arith) ∙ start_lane views hosts shape.partitions image before partition) keeps)),
        loadable.owner partition standing at,
      );
    }

-- with no host none has moved
one_idle : (views : SiteView) (hosts : List ℕ) (partitions : ℕ) (image : SiteImage) → (before : (partition : ℕ) → LaneBefore views hosts partitions partition (lane_in image partition)) → (partition : ℕ) → hosts ≡ []
    → mixed (suc partition) image (start views hosts partitions image before) ≡ mixed partition image (start views hosts partitions image before)
one_idle views hosts partitions image before partition none =
    let from : SiteImage = start views hosts partitions image before in
    same_image (mixed (suc partition) image from) (mixed partition image from)
    (λ other. ⊎_elim
    (λ here. subst (λ (p : ℕ). lane_in (mixed (suc partition) image from) p ≡ lane_in (mixed partition image from) p) (sym here)
    (mixed_below (suc partition) image from partition (omega arith) ∙ none_came views hosts partitions partition (lane_in image partition) none (before partition)
    ∙ sym (mixed_above partition image from partition (omega arith) ∙ start_lane views hosts partitions image before partition)))
    (λ apart. mixed_elsewhere partition image from other apart)
    (cases_eq other partition))
    (λ host. mixed_service (suc partition) image from host ∙ sym (mixed_service partition image from host))

-- the calls of some partitions, one after the other, from this one on
all_follow : (views : SiteView) (shape : SiteShape) (hosts : List ℕ) (durable : Durable) (image : SiteImage) → IsLoadable shape hosts durable
    → (before : (partition : ℕ) → LaneBefore views hosts shape.partitions partition (lane_in image partition)) → (first count : ℕ)
    → AreDoneOver shape (flat_map (lane_calls hosts) (numbers_up first count)) durable (mixed first image (start views hosts shape.partitions image before)) (mixed (first + count) image (start views hosts shape.partitions image before))
all_follow views shape hosts durable image loadable before first zero = ap (λ (n : ℕ). mixed n image (start views hosts shape.partitions image before)) (omega arith)
all_follow views shape hosts durable image loadable before first (suc count) =
    let from : SiteImage = start views hosts shape.partitions image before in
    lane_then shape hosts hosts durable first (flat_map (lane_calls hosts) (numbers_up (suc first) count)) (mixed first image from) (mixed (suc first) image from) (mixed (first + suc count) image from) loadable
    (λ none. one_idle views hosts shape.partitions image before first none)
    (one_moves views shape hosts durable image loadable before first)
    (subst (λ (n : ℕ). AreDoneOver shape (flat_map (lane_calls hosts) (numbers_up (suc first) count)) durable (mixed (suc first) image from) (mixed n image from)) (omega arith)
    (all_follow views shape hosts durable image loadable before (suc first) count))

-- before the first partition all is as it was
first_mixed : (views : SiteView) (hosts : List ℕ) (partitions : ℕ) (image : SiteImage) → (before : (partition : ℕ) → LaneBefore views hosts partitions partition (lane_in image partition))
    → mixed 0 image (start views hosts partitions image before) ≡ start views hosts partitions image before
first_mixed views hosts partitions image before =
    let from : SiteImage = start views hosts partitions image before in
    same_image (mixed 0 image from) from (λ partition. mixed_above 0 image from partition (omega arith)) (λ host. mixed_service 0 image from host)

-- after the last partition all is as it is
last_mixed : (views : SiteView) (hosts : List ℕ) (partitions : ℕ) (image : SiteImage) → (before : (partition : ℕ) → LaneBefore views hosts partitions partition (lane_in image partition))
    → mixed partitions image (start views hosts partitions image before) ≡ image
last_mixed views hosts partitions image before =
    let from : SiteImage = start views hosts partitions image before in
    same_image (mixed partitions image from) image
    (λ partition. ⊎_elim
    (λ less. mixed_below partitions image from partition less)
    (λ most. mixed_above partitions image from partition most ∙ start_lane views hosts partitions image before partition
    ∙ ⊎_elim (λ same. sym same) (λ came. absurd (let less = came.0 in omega (arith, less, most))) (before partition).came)
    (cases_lt partition partitions))
    (λ host. mixed_service partitions image from host ∙ start_service views hosts partitions image before host)

-- At every moment of a load the images follow its calls.
pub load_follows : {D : Type 0} (view : D → View) (shape : SiteShape) (hosts : List ℕ) (durable : Durable) (old new : List (List D)) (services : List D) (image : SiteImage) → HasLanesFor shape.partitions (length shape.hosts) old
    → SiteTells (views_of view (record { lanes = old; services = services })) → IsNothingPending (views_of view (record { lanes = old; services = services }))
    → KeepNewest view hosts shape.partitions old new → IsLoadable shape hosts durable
    → IsMoment (views_of view (record { lanes = old; services = services })) (views_of view (record { lanes = new; services = services })) image
    → IsDoneFrom shape (lane_loads hosts shape.partitions) durable (views_of view (record { lanes = old; services = services })) image
load_follows view shape hosts durable old new services image has told pending keep loadable moment =
    let before = lane_before view hosts shape.partitions old new services image has.lane_each keep told pending moment in
    let views : SiteView = views_of view (record { lanes = old; services = services }) in
    let from : SiteImage = start views hosts shape.partitions image before in
    record {
      from = from;
      taken = start_taken views hosts shape.partitions image before (λ host. (views (service_disk host)).only_now (image (service_disk host)) (moment (service_disk host)));
      done = subst (λ (n : SiteImage). AreDoneOver shape (lane_loads hosts shape.partitions) durable from n) (last_mixed views hosts shape.partitions image before)
          (subst (λ (o : SiteImage). AreDoneOver shape (lane_loads hosts shape.partitions) durable o (mixed shape.partitions image from)) (first_mixed views hosts shape.partitions image before)
          (subst (λ (n : ℕ). AreDoneOver shape (lane_loads hosts shape.partitions) durable (mixed 0 image from) (mixed n image from)) (omega arith) (all_follow views shape hosts durable image loadable before 0 shape.partitions)));
    }
