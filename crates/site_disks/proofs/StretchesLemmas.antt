-- Stretches of calls on the disks of a site.
use Rattle.std.proofs.Common.{◌≡◌, ⊎_elim, ℕ, List, [], ◌∷◌, ◌++◌, length, slice_get, refl, sym, subst, arith}
use Rattle.std.proofs.lemmas.Option.{slice_get_cases}
use Rattle.disk_lane.specs.Lanes.{OnHost}
use Rattle.disk_trait.specs.View.{View}
use Rattle.disk_trait.specs.Moments.{Onward}
use Rattle.cluster_model.specs.Site.{SiteImage, IsTaken, no_disk, view_or_none}
use Rattle.site_disks.specs.SiteDisks.{SiteDisks, views_of}
use Rattle.site_disks.specs.Stretches.{Stretch, AreStretches, HoldsThrough}

-- ---- each disk

-- each disk of one list, and the disk at the same place in the other, are in this relation, which nothing has to itself where there is none
pub on_each : {D : Type 0} (view : D → View) (old new : List D) (R : View → View → Type 0) → length new ≡ length old → R no_disk no_disk → ((h : ℕ) → OnHost h old new (λ before now. R (view before) (view now)))
    → (h : ℕ) → R (view_or_none view (slice_get old h)) (view_or_none view (slice_get new h))
on_each view old new R as_many none each h =
    ⊎_elim
    (λ was. ⊎_elim
    (λ is. subst (λ o. R (view_or_none view o) (view_or_none view (slice_get new h))) (sym was.2) (subst (λ n. R (view was.0) (view_or_none view n)) (sym is.2) (each h was.0 is.0 was.2 is.2)))
    (λ past. absurd (omega (arith, was.1, past.0, as_many)))
    (slice_get_cases new h).1)
    (λ past. ⊎_elim
    (λ is. absurd (omega (arith, is.1, past.0, as_many)))
    (λ also. subst (λ o. R (view_or_none view o) (view_or_none view (slice_get new h))) (sym past.1) (subst (λ n. R no_disk (view_or_none view n)) (sym also.1) none))
    (slice_get_cases new h).1)
    (slice_get_cases old h).1

-- a disk that isn't there goes on
pub none_goes_on : Onward no_disk no_disk
none_goes_on = record { faults = omega (arith); restarts = refl; spares = λ s. s; tells = λ t. t }

-- ---- stretches

-- nothing was called
pub stays : {D : Type 0} (view : D → View) (disks : SiteDisks D) (P : SiteImage → Type 0) → ((image : SiteImage) → IsTaken (views_of view disks) image → P image) → Stretch view disks disks P
stays view disks P all = record {
  goes_on = record { later = λ disk. omega (arith); onward = λ disk. record { faults = omega (arith); restarts = refl; spares = λ s. s; tells = λ t. t } };
  moments = λ image moment. all image (λ disk. (views_of view disks disk).only_now (image disk) (moment disk));
}

-- what holds throughout holds at the end
pub at_the_end : {D : Type 0} (view : D → View) (old new : SiteDisks D) (P : SiteImage → Type 0) → Stretch view old new P → (image : SiteImage) → IsTaken (views_of view new) image → P image
at_the_end view old new P stretch image taken =
    stretch.moments image (λ disk. (views_of view new disk).counts_now (views_of view old disk).clock (image disk) (stretch.goes_on.later disk) (taken disk))

weaker : {D : Type 0} (view : D → View) (old : SiteDisks D) (mids : List (SiteDisks D)) (new : SiteDisks D) (P Q : SiteImage → Type 0) → ((image : SiteImage) → P image → Q image) → AreStretches view old mids new P → AreStretches view old mids new Q
weaker view old [] new P Q so stretch = record { goes_on = stretch.goes_on; moments = λ image moment. so image (stretch.moments image moment) }
weaker view old (mid ∷ more) new P Q so each = (record { goes_on = each.0.goes_on; moments = λ image moment. so image (each.0.moments image moment) }, weaker view mid more new P Q so each.1)

-- what follows holds too
pub holds_so : {D : Type 0} (view : D → View) (old new : SiteDisks D) (P Q : SiteImage → Type 0) → ((image : SiteImage) → P image → Q image) → HoldsThrough view old new P → HoldsThrough view old new Q
holds_so view old new P Q so through = record { between = through.between; each = weaker view old through.between new P Q so through.each }

joined : {D : Type 0} (view : D → View) (old : SiteDisks D) (mids : List (SiteDisks D)) (mid : SiteDisks D) (more : List (SiteDisks D)) (new : SiteDisks D) (P : SiteImage → Type 0) → AreStretches view old mids mid P → AreStretches view mid more new P
    → AreStretches view old (mids ++ mid ∷ more) new P
joined view old [] mid more new P first then_ = (first, then_)
joined view old (one ∷ mids) mid more new P first then_ = (first.0, joined view one mids mid more new P first.1 then_)

-- one after the other
pub holds_on : {D : Type 0} (view : D → View) (old mid new : SiteDisks D) (P : SiteImage → Type 0) → HoldsThrough view old mid P → HoldsThrough view mid new P → HoldsThrough view old new P
holds_on view old mid new P first then_ = record { between = first.between ++ mid ∷ then_.between; each = joined view old first.between mid then_.between new P first.each then_.each }

-- a single one
pub holds_in : {D : Type 0} (view : D → View) (old new : SiteDisks D) (P : SiteImage → Type 0) → Stretch view old new P → HoldsThrough view old new P
holds_in view old new P stretch = record { between = []; each = stretch }

last_of : {D : Type 0} (view : D → View) (old : SiteDisks D) (mids : List (SiteDisks D)) (new : SiteDisks D) (P : SiteImage → Type 0) → AreStretches view old mids new P → (image : SiteImage) → IsTaken (views_of view new) image → P image
last_of view old [] new P stretch image taken = at_the_end view old new P stretch image taken
last_of view old (mid ∷ more) new P each image taken = last_of view mid more new P each.1 image taken

-- and what holds throughout holds at the end
pub holds_at_the_end : {D : Type 0} (view : D → View) (old new : SiteDisks D) (P : SiteImage → Type 0) → HoldsThrough view old new P → (image : SiteImage) → IsTaken (views_of view new) image → P image
holds_at_the_end view old new P through image taken = last_of view old through.between new P through.each image taken
