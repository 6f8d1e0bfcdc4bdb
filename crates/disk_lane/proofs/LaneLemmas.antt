-- Events of a lane, one after the other.
use Rattle.std.proofs.Common.{◌≡◌, ◌≢◌, ⊎_elim, ℕ, zero, suc, ◌<◌, ◌≤◌, List, [], ◌∷◌, length, refl, sym, ◌∙◌, ap, subst, arith, slice_get, slice_set, Some, Option, length-set, get_or-set_other, get_or-set_same}
use Rattle.std.proofs.lemmas.Option.{slice_get-get_or, slice_get_past, slice_get_within}
use Rattle.std.proofs.lemmas.Bool.{cases_eq, cases_lt}
use Rattle.fault_count.specs.Rose.{Rose}
use Rattle.disk_trait.specs.View.{Image, View}
use Rattle.disk_trait.specs.Moments.{Throughout, Onward}
use Rattle.disk_trait.proofs.Runs.{started, weakened, joined, holds_now, onward_none, onward_joined}
use Rattle.disk_lane.specs.Lanes.{LaneImage, IsLaneImage, IsElsewhere, Beside, OnHost, LaneEvent, HasFailedOn}

-- one element written
pub written_other : {X : Type 0} (xs : List X) (i k : ℕ) (v : X) → k ≢ i → slice_get (slice_set xs i v) k ≡ slice_get xs k
written_other xs i k v ne = ⊎_elim
    (λ lt. slice_get-get_or (slice_set xs i v) k v (omega (arith, length-set xs i v)) ∙ ap Some (get_or-set_other xs i k v v ne) ∙ sym (slice_get-get_or xs k v lt))
    (λ le. slice_get_past (slice_set xs i v) k (omega (arith, length-set xs i v)) ∙ sym (slice_get_past xs k le))
    (cases_lt k (length xs))

pub written_same : {X : Type 0} (xs : List X) (i : ℕ) (v : X) → i < length xs → slice_get (slice_set xs i v) i ≡ Some v
written_same xs i v lt = slice_get-get_or (slice_set xs i v) i v (omega (arith, length-set xs i v)) ∙ ap Some (get_or-set_same xs i v v lt)

pub some_same : {X : Type 0} (a b : X) (o : Option X) → o ≡ Some a → o ≡ Some b → a ≡ b
some_same a b o p q = cc

-- each host within the list has a disk
pub disk_there : {X : Type 0} (xs : List X) (k : ℕ) → k < length xs → (x : X) × (slice_get xs k ≡ Some x)
disk_there [] k lt = absurd (omega (arith, lt))
disk_there (x ∷ xs) zero lt = (x, refl)
disk_there (x ∷ xs) (suc k) lt = disk_there xs k (omega (arith, lt))

module _ {D : Type 0} (view : D → View) where
  -- an image of this host's disk, beside one of each other disk, is one of the lane
  pub put_beside : (disks : List D) (host : ℕ) (disk : D) (ms : LaneImage) → slice_get disks host ≡ Some disk → (view disk).images (ms host)
      → IsElsewhere view disks host ms → IsLaneImage view disks ms
  put_beside disks host disk ms at here elsewhere h other is = ⊎_elim
      (λ e.
      let mine : disk ≡ other = some_same disk other (slice_get disks host) at (subst (λ (k : ℕ). slice_get disks k ≡ Some other) e is) in
      subst (λ (k : ℕ). (view other).images (ms k)) (sym e) (subst (λ (d : D). (view d).images (ms host)) mine here))
      (λ ne. elsewhere h other ne is)
      (cases_eq h host)

  pub taken_elsewhere : (disks : List D) (host : ℕ) (ms : LaneImage) → IsLaneImage view disks ms → IsElsewhere view disks host ms
  taken_elsewhere disks host ms is h other ne at = is h other at

  -- no call was made
  pub no_event : (disks : List D) (host : ℕ) (P : LaneImage → Type 0) → host < length disks → ((ms : LaneImage) → IsLaneImage view disks ms → P ms)
      → LaneEvent view host disks disks P
  no_event disks host P there all = record {
    there = there;
    as_many = refl;
    others = λ h ne. refl;
    moments = λ before now was is.
        let one : before ≡ now = some_same before now (slice_get disks host) was is in
        subst (λ (d : D). Throughout (view before) (view d) (Beside view disks host P)) one
        (started (view before) (Beside view disks host P)
        (λ m image ms same elsewhere.
        all ms (put_beside disks host before ms was (subst (λ (i : Image). (view before).images i) (sym same) image) elsewhere)));
    onward = λ before now was is.
        let one : before ≡ now = some_same before now (slice_get disks host) was is in
        subst (λ (d : D). Onward (view before) (view d)) one (onward_none (view before));
  }

  -- one event after another, on the same disk
  pub events_joined : (a b c : List D) (host : ℕ) (P : LaneImage → Type 0) → LaneEvent view host a b P → LaneEvent view host b c P → LaneEvent view host a c P
  events_joined a b c host P first second =
      let mid = disk_there b host second.there in
      record {
        there = first.there;
        as_many = second.as_many ∙ first.as_many;
        others = λ h ne. second.others h ne ∙ first.others h ne;
        moments = λ before now was is.
            joined (view before) (view mid.0) (view now) (Beside view a host P)
            (first.moments before mid.0 was mid.1)
            (weakened (view mid.0) (view now) (Beside view b host P) (Beside view a host P) (second.moments mid.0 now mid.1 is)
            (λ m has ms same elsewhere. has ms same (λ h disk ne at. elsewhere h disk ne (sym (first.others h ne) ∙ at))));
        onward = λ before now was is. onward_joined (view before) (view mid.0) (view now) (first.onward before mid.0 was mid.1) (second.onward mid.0 now mid.1 is);
      }

  -- what holds at each moment holds at the end
  pub ends_so : (a b : List D) (host : ℕ) (P : LaneImage → Type 0) → LaneEvent view host a b P → (ms : LaneImage) → IsLaneImage view b ms → P ms
  ends_so a b host P event ms is =
      let before = disk_there a host event.there in
      let now = disk_there b host (let many = event.as_many in let there = event.there in omega (arith, many, there)) in
      holds_now (view before.0) (view now.0) (Beside view a host P) (event.moments before.0 now.0 before.1 now.1) (ms host) (is host now.0 now.1)
      ms refl (λ h disk ne at. is h disk (event.others h ne ∙ at))

  -- no disk's count of faults falls in an event
  faults_rise : (a b : List D) (other : ℕ) (P : LaneImage → Type 0) → LaneEvent view other a b P → (host : ℕ) (before now : D) → slice_get a host ≡ Some before → slice_get b host ≡ Some now
      → (view before).faults ≤ (view now).faults
  faults_rise a b other P event host before now was is = ⊎_elim
      (λ e.
      (event.onward before now (subst (λ (k : ℕ). slice_get a k ≡ Some before) e was) (subst (λ (k : ℕ). slice_get b k ≡ Some now) e is)).faults)
      (λ ne.
      let one : before ≡ now = some_same before now (slice_get a host) was (sym (event.others host ne) ∙ is) in
      subst (λ (d : D). (view before).faults ≤ (view d).faults) one (omega arith))
      (cases_eq host other)

  -- a failure isn't undone by a later event
  pub failure_stays : (a b c : List D) (host other : ℕ) (P : LaneImage → Type 0) → HasFailedOn view host a b → LaneEvent view other b c P → HasFailedOn view host a c
  failure_stays a b c host other P failed event =
      let last = disk_there c host (let many = event.as_many in let there = slice_get_within b host failed.now failed.is in omega (arith, many, there)) in
      record {
        before = failed.before;
        now = last.0;
        was = failed.was;
        is = last.1;
        rose = λ below.
            let more = faults_rise b c other P event host failed.now last.0 failed.is last.1 in
            let rose = failed.rose (omega (arith, more, below)) in
            omega (arith, rose, more);
      }

  -- nor does it count for less after an earlier one
  pub failure_later : (a b c : List D) (host other : ℕ) (P : LaneImage → Type 0) → LaneEvent view other a b P → HasFailedOn view host b c → HasFailedOn view host a c
  failure_later a b c host other P event failed =
      let first = disk_there a host (let many = event.as_many in let there = slice_get_within b host failed.before failed.was in omega (arith, many, there)) in
      record {
        before = first.0;
        now = failed.now;
        was = first.1;
        is = failed.is;
        rose = λ below.
            let more = faults_rise a b other P event host first.0 failed.before first.1 failed.was in
            let rose = failed.rose below in
            omega (arith, rose, more);
      }

  -- A call on the disk of one host, where P holds at each of its moments beside whatever the other disks hold.
  module _ (disks : List D) (host : ℕ) (before now : D) (was : slice_get disks host ≡ Some before) where
    disk_now : (last : D) → slice_get (slice_set disks host now) host ≡ Some last → now ≡ last
    disk_now last at = some_same now last (slice_get (slice_set disks host now) host) (written_same disks host now (slice_get_within disks host before was)) at

    -- a relation of the disk before the call and after it
    pub on_host : (R : D → D → Type 0) → R before now → OnHost host disks (slice_set disks host now) R
    on_host R has first last is_first is_last =
        let one : before ≡ first = some_same before first (slice_get disks host) was is_first in
        let two : now ≡ last = disk_now last is_last in
        subst (λ (d : D). R d last) one (subst (λ (d : D). R before d) two has)

    pub event : (P : LaneImage → Type 0) → Throughout (view before) (view now) (Beside view disks host P) → Onward (view before) (view now)
        → LaneEvent view host disks (slice_set disks host now) P
    event P all on = record {
      there = slice_get_within disks host before was;
      as_many = length-set disks host now;
      others = λ h ne. written_other disks host h now ne;
      moments = on_host (λ a b. Throughout (view a) (view b) (Beside view disks host P)) all;
      onward = on_host (λ a b. Onward (view a) (view b)) on;
    }

    pub failed_on : Rose (view before).faults (view now).faults → HasFailedOn view host disks (slice_set disks host now)
    failed_on rose = record {
      before = before;
      now = now;
      was = was;
      is = written_same disks host now (slice_get_within disks host before was);
      rose = rose;
    }
