-- Files 2 and up of a lane stay as they were.
use Rattle.std.proofs.Common.{◌≡◌, ℕ, ◌<◌, ◌≤◌, List, length, refl, ◌∙◌, subst, arith, slice_get, slice_set, Some}
use Rattle.disk_trait.specs.View.{View}
use Rattle.disk_trait.specs.Calls.{Moved}
use Rattle.disk_trait.specs.Moments.{After, Throughout}
use Rattle.disk_trait.proofs.Runs.{started, weakened, followed}
use Rattle.disk_lane.proofs.LaneLemmas.{some_same, disk_there, on_host}
use Rattle.partition_cell.specs.Beyond.{SameBeyond, OthersStay}

module _ {D : Type 0} (view : D → View) where
  -- no call was made
  pub others_none : (disks : List D) (host : ℕ) → OthersStay view host disks disks
  others_none disks host before now was is =
      let one : before ≡ now = some_same before now (slice_get disks host) was is in
      subst (λ (d : D). Throughout (view before) (view d) (After (view before) SameBeyond)) one
      (started (view before) (After (view before) SameBeyond) (λ m image. (m, image, λ f le. refl)))

  -- a call on file 0 or 1
  pub others_moved : (disks : List D) (host : ℕ) (before now : D) → slice_get disks host ≡ Some before → (file : ℕ) → file ≤ 1 → (step : List ℕ → List ℕ → Type 0)
      → Throughout (view before) (view now) (After (view before) (Moved file step)) → OthersStay view host disks (slice_set disks host now)
  others_moved disks host before now was file le step all =
      on_host view disks host before now was (λ a b. Throughout (view a) (view b) (After (view a) SameBeyond))
      (weakened (view before) (view now) (After (view before) (Moved file step)) (After (view before) SameBeyond) all
      (λ m has. (has.0, has.1, λ f far. has.2.others f (λ same. omega (arith, le, far, same)))))

  -- one event after another on the same disk
  pub others_joined : (a b c : List D) (host : ℕ) → OthersStay view host a b → (other : ℕ) → other ≡ host → other < length b → OthersStay view other b c → OthersStay view host a c
  others_joined a b c host first other same there second before now was is =
      let mid = disk_there b host (omega (arith, same, there)) in
      let after : OthersStay view host b c = subst (λ (h : ℕ). OthersStay view h b c) same second in
      followed (view before) (view mid.0) (view now) SameBeyond SameBeyond SameBeyond (first before mid.0 was mid.1) (after mid.0 now mid.1 is)
      (λ o m image stays. stays)
      (λ o m n image between stays goes f far. goes f far ∙ stays f far)
