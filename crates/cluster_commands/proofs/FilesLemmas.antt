-- What is known of the files of a disk goes on.
use Rattle.std.proofs.Common.{◌≡◌, ℕ, ◌≤◌, arith, List, [], ◌∷◌, ◌++◌, take, drop, length, slice_get, Some, refl, sym, ◌∙◌, ap, subst}
use Rattle.std.proofs.Math.Seq.{take-append_seam}
use Rattle.cache_model.specs.Caches.{Caches}
use Rattle.cache_model.specs.Change.{Change}
use Rattle.cache_model.specs.Contents.{SameContents, AreContentsAfter}
use Rattle.disk_lane.specs.Lanes.{OnHost}
use Rattle.disk_trait.specs.View.{View}
use Rattle.disk_trait.specs.Calls.{Fewer}
use Rattle.disk_trait.specs.Moments.{Onward}
use Rattle.newest_store.proofs.NewestLemmas.{file_cases}
use Rattle.seal_gate.specs.Seal.{IsSettled}
use Rattle.cluster_commands.specs.OnDisk.{FilesHold, lane_view, IsDiskRestarted}
use Rattle.cluster_commands.specs.State.{KnownFiles, unknown, no_store, store_in}

-- fewer images keep what all kept
pub files_fewer : (files : KnownFiles) (v w : View) → Fewer v w → FilesHold files v → FilesHold files w
files_fewer unknown v w fewer is = tt
files_fewer no_store v w fewer is = λ m image. is m (fewer m image)
files_fewer (store_in known) v w fewer is = λ m image. is m (fewer m image)

-- what the first disk of a lane tells
pub view_first : {D : Type 0} (view : D → View) (disks : List D) (disk : D) → slice_get disks 0 ≡ Some disk → lane_view view disks ≡ view disk
view_first view [] disk is = absurd cc
view_first view (first ∷ rest) disk is = let same : first ≡ disk = cc in ap view same

-- nothing is pending on it
pub settled_first : {D : Type 0} (view : D → View) (disks : List D) → IsSettled (lane_view view disks) 0 × IsSettled (lane_view view disks) 1 → (f : ℕ) (disk : D) → f ≤ 1 → slice_get disks 0 ≡ Some disk → IsSettled (view disk) f
settled_first view disks settled f disk le at = subst (λ (v : View). IsSettled v f) (view_first view disks disk at) (file_cases (λ k. IsSettled (lane_view view disks) k) f le settled.0 settled.1)

-- what the one disk of a lane keeps
pub onward_first : {D : Type 0} (view : D → View) (old new : List D) → length old ≡ 1 → length new ≡ length old → OnHost 0 old new (λ before now. Onward (view before) (view now)) → Onward (lane_view view old) (lane_view view new)
onward_first view [] new one many on = absurd (omega (arith, one))
onward_first view (before ∷ rest) [] one many on = absurd (omega (arith, one, many))
onward_first view (before ∷ rest) (now ∷ others) one many on = on before now refl refl

-- what is written back from a slice of the one disk
pub restarted_slice : {D : Type 0} (view : D → View) (start first old new : List D) (len : ℕ) → len ≡ length old → old ≡ start → length start ≡ 1 → first ≡ old → length new ≡ 1
    → IsDiskRestarted (lane_view view first) (lane_view view new) → IsDiskRestarted (lane_view view start) (lane_view view (take len (new ++ drop (length new) old)))
restarted_slice {D} view start first old new len full here one same alone is =
    let count : length old ≡ 1 = ap length here ∙ one in
    let whole : take len (new ++ drop (length new) old) ≡ new = ap (λ (n : ℕ). take n (new ++ drop (length new) old)) (full ∙ count ∙ sym alone) ∙ take-append_seam new (drop (length new) old) in
    subst (λ (disks : List D). IsDiskRestarted (lane_view view start) (lane_view view disks)) (sym whole)
    (subst (λ (disks : List D). IsDiskRestarted (lane_view view disks) (lane_view view new)) (same ∙ here) is)

-- contents after changes that leave the same
pub contents_of_same : (changes others : List Change) (caches : Caches) → SameContents changes others → AreContentsAfter others caches → AreContentsAfter changes caches
contents_of_same changes others caches same is = record {
  names_rise = is.names_rise;
  keys_rise = is.keys_rise;
  presence = λ cache. is.presence cache ∙ sym (same.presence cache);
  values = λ cache key. is.values cache key ∙ sym (same.values cache key);
}
