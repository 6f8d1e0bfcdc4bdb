-- From what image the disks of a partition came, at any moment of a load.
use Rattle.std.proofs.Common.{◌≡◌, ◌⊎◌, inl, inr, ⊎_elim, ℕ, ◌<◌, List, [], length, slice_get, Option, Some, None, refl, sym, ◌∙◌, subst, arith}
use Rattle.std.specs.Option.{option_map_or}
use Rattle.std.proofs.lemmas.Option.{slice_get_cases}
use Rattle.disk_lane.specs.Lanes.{LaneImage}
use Rattle.disk_trait.specs.View.{Image, View, Tells}
use Rattle.disk_trait.specs.Moments.{After}
use Rattle.file_kinds.specs.Kinds.{PartitionNumber}
use Rattle.newest_store.specs.Choice.{seen_on, AllTell, OnlyReadsLane}
use Rattle.partition_cell.specs.Loaded.{ErasesBesideNewest}
use Rattle.partition_cell.specs.Older.{IsOlderFile, ErasesOnly}
use Rattle.cluster_model.specs.Site.{lane_disk, SiteImage, SiteView, lane_in, view_or_none, lane_or_none}
use Rattle.site_disks.specs.SiteDisks.{views_of}
use Rattle.site_disks.specs.Stretches.{IsMoment}
use Rattle.site_disks.specs.Told.{SiteTells, IsNothingPending}
use Rattle.open_lanes.specs.Opened.{KeepNewest}
use Rattle.opening_laws.proofs.LaneErasedLemmas.{ErasesBeside, newest_in}

-- An image of the partition's disks, of which this one came: it is the same, or files beside the newest were erased.
pub record LaneBefore (views : SiteView) (hosts : List ℕ) (partitions partition : ℕ) (new : LaneImage) : Type 0 where
  pub lane : LaneImage
  pub taken : (h : ℕ) → (views (lane_disk partition h)).images (lane h)
  pub came : (new ≡ lane) ⊎ ((partition < partitions) × ErasesBeside hosts lane new)

-- what is at this place of two lists as long is in this relation, which nothing has to itself where there is none
both_at : {T : Type 0} (old new : List T) (place : ℕ) (R : Option T → Option T → Type 0) → length new ≡ length old → R None None
    → ((before now : T) → place < length old → slice_get old place ≡ Some before → slice_get new place ≡ Some now → R (Some before) (Some now)) → R (slice_get old place) (slice_get new place)
both_at old new place R as_many none each =
    ⊎_elim
    (λ was. ⊎_elim
    (λ is. subst (λ o. R o (slice_get new place)) (sym was.2) (subst (λ n. R (Some was.0) n) (sym is.2) (each was.0 is.0 was.1 was.2 is.2)))
    (λ past. absurd (omega (arith, was.1, past.0, as_many)))
    (slice_get_cases new place).1)
    (λ past. ⊎_elim
    (λ is. absurd (omega (arith, is.1, past.0, as_many)))
    (λ also. subst (λ o. R o (slice_get new place)) (sym past.1) (subst (λ n. R None n) (sym also.1) none))
    (slice_get_cases new place).1)
    (slice_get_cases old place).1

-- ---- one lane

-- what a read gives of a file
seen_is : {D : Type 0} (view : D → View) (o : Option D) (f : ℕ) → (view_or_none view o).seen f ≡ option_map_or (λ disk. (view disk).seen) o (λ file. []) f
seen_is view None f = refl
seen_is view (Some disk) f = refl

-- at each moment of a read a disk is as it was
read_before : {D : Type 0} (view : D → View) (old new : List D) → OnlyReadsLane view old new → (h : ℕ) (m : Image) → (view_or_none view (slice_get new h)).since (view_or_none view (slice_get old h)).clock m
    → (view_or_none view (slice_get old h)).images m
read_before view old new reads h = both_at old new h (λ o n. (m : Image) → (view_or_none view n).since (view_or_none view o).clock m → (view_or_none view o).images m) reads.as_many (λ m is. is)
    (λ before now within was is. (reads.each h before now was is).moments.each)

-- at each moment of an erasure a disk has come from an image before
erased_before : {D : Type 0} (view : D → View) (hosts : List ℕ) (number : PartitionNumber) (old new : List D) → (e : ErasesBesideNewest view hosts number old new) → (h : ℕ) (m : Image)
    → (view_or_none view (slice_get new h)).since (view_or_none view (slice_get old h)).clock m → After (view_or_none view (slice_get old h)) (ErasesOnly (IsOlderFile hosts e.host e.file h)) m
erased_before view hosts number old new e h =
    both_at old new h (λ o n. (m : Image) → (view_or_none view n).since (view_or_none view o).clock m → After (view_or_none view o) (ErasesOnly (IsOlderFile hosts e.host e.file h)) m) e.erases.as_many
    (λ m is. (m, is, record { files = λ f. inl refl; others = λ f out. refl }))
    (λ before now within was is. (e.erases.moments h before now was is).each)

-- nothing is read where there is no disk
none_read : {D : Type 0} (view : D → View) → OnlyReadsLane view [] []
none_read view = record { as_many = refl; each = λ h before now was is. absurd cc }

-- the disks of one partition, which may not be there
in_lane : {D : Type 0} (view : D → View) (hosts : List ℕ) (partitions : ℕ) (old new : List (List D)) → KeepNewest view hosts partitions old new → (partition : ℕ)
    → OnlyReadsLane view (lane_or_none (slice_get old partition)) (lane_or_none (slice_get new partition))
    ⊎ ((partition < length old) × ErasesBesideNewest view hosts (record { partition = partition; partitions = partitions }) (lane_or_none (slice_get old partition)) (lane_or_none (slice_get new partition)))
in_lane view hosts partitions old new keep partition =
    both_at old new partition (λ o n. OnlyReadsLane view (lane_or_none o) (lane_or_none n) ⊎ ((partition < length old) × ErasesBesideNewest view hosts (record { partition = partition; partitions = partitions }) (lane_or_none o) (lane_or_none n)))
    keep.as_many (inl (none_read view))
    (λ before now within was is. ⊎_elim (λ reads. inl reads) (λ erases. inr (within, erases)) (keep.each partition before now was is))

-- At each moment of a load the disks of a partition have come from an image before.
pub lane_before : {D : Type 0} (view : D → View) (hosts : List ℕ) (partitions : ℕ) (old new : List (List D)) (services : List D) (image : SiteImage) → length old ≡ partitions → KeepNewest view hosts partitions old new
    → SiteTells (views_of view (record { lanes = old; services = services })) → IsNothingPending (views_of view (record { lanes = old; services = services }))
    → IsMoment (views_of view (record { lanes = old; services = services })) (views_of view (record { lanes = new; services = services })) image
    → (partition : ℕ) → LaneBefore (views_of view (record { lanes = old; services = services })) hosts partitions partition (lane_in image partition)
lane_before view hosts partitions old new services image as_many keep told pending moment partition = go (in_lane view hosts partitions old new keep partition)
  where
    go : OnlyReadsLane view (lane_or_none (slice_get old partition)) (lane_or_none (slice_get new partition))
        ⊎ ((partition < length old) × ErasesBesideNewest view hosts (record { partition = partition; partitions = partitions }) (lane_or_none (slice_get old partition)) (lane_or_none (slice_get new partition)))
        → LaneBefore (views_of view (record { lanes = old; services = services })) hosts partitions partition (lane_in image partition)
    go (inl reads) = record {
      lane = lane_in image partition;
      taken = λ h. read_before view (lane_or_none (slice_get old partition)) (lane_or_none (slice_get new partition)) reads h (image (lane_disk partition h)) (moment (lane_disk partition h));
      came = inl refl;
    }
    go (inr erased) =
        let e = erased.1 in
        let less = erased.0 in
        let step = λ (h : ℕ). erased_before view hosts (record { partition = partition; partitions = partitions }) (lane_or_none (slice_get old partition)) (lane_or_none (slice_get new partition)) e h (image (lane_disk partition h)) (moment (lane_disk partition h)) in
        let tell : AllTell view (lane_or_none (slice_get old partition)) hosts = λ host disk listed at. subst (λ o. Tells (view_or_none view o)) at (told (lane_disk partition host)) in
        record {
          lane = λ h. (step h).0;
          taken = λ h. (step h).1;
          came = inr (
            omega (arith, less, as_many),
            record {
              host = e.host;
              file = e.file;
              newest = newest_in (seen_on view (lane_or_none (slice_get old partition))) (λ h. (step h).0) hosts e.host e.file
                  (λ h f low. pending (lane_disk partition h) f low (step h).0 (step h).1 ∙ seen_is view (slice_get (lane_or_none (slice_get old partition)) h) f) (e.newest tell);
              each = λ h. (step h).2;
            },
          );
        }
