-- What the calls since a sync may leave of a file is an image of it.
use Rattle.std.proofs.Common.{◌≡◌, ◌≢◌, ⊎_elim, ℕ, ◌≤◌, ◌<◌, ◌+◌, ◌-◌, List, [], ◌∷◌, length, take, drop, get_or, sym, ◌∙◌, ap, subst, arith}
use Rattle.std.proofs.lemmas.List.{get_or-take, get_or-drop}
use Rattle.disk_trait.specs.View.{Image, View}
use Rattle.disk_trait.specs.Calls.{Moved, Follows, Fewer}
use Rattle.disk_trait.specs.CrashImage.{FileChange, Makes, MayLeave, seen_length, least_length, greatest_length, IsPending, IsImageAfter}
use Rattle.disk_trait.specs.CrashImage.FileChange.{Wrote, CutTo}

-- a byte before an offset up to which two texts agree
pub same_before : (at : ℕ) (old new : List ℕ) (offset : ℕ) → take at new ≡ take at old → offset < at → get_or new offset 0 ≡ get_or old offset 0
same_before at old new offset same lt = sym (get_or-take at new offset 0 lt) ∙ ap (λ (l : List ℕ). get_or l offset 0) same ∙ get_or-take at old offset 0 lt

-- a byte at or after an offset from which two texts agree
pub same_after : (from : ℕ) (old new : List ℕ) (offset : ℕ) → drop from new ≡ drop from old → from ≤ offset → get_or new offset 0 ≡ get_or old offset 0
same_after from old new offset same le =
    let past : ℕ = offset - from in
    let at_old : get_or (drop from old) past 0 ≡ get_or old (from + past) 0 = get_or-drop from old past 0 in
    let at_new : get_or (drop from new) past 0 ≡ get_or new (from + past) 0 = get_or-drop from new past 0 in
    let here : from + past ≡ offset = omega arith in
    subst (λ (k : ℕ). get_or new k 0 ≡ get_or old k 0) here (sym at_new ∙ ap (λ (l : List ℕ). get_or l past 0) same ∙ at_old)

-- the length that a read sees lies between the least and the greatest
pub seen_between : (changes : List FileChange) (synced : ℕ) → (least_length changes synced ≤ seen_length changes synced) × (seen_length changes synced ≤ greatest_length changes synced)
seen_between [] synced = (omega arith, omega arith)
seen_between (newest ∷ older) synced = (omega arith, omega arith)

-- each text that the calls may make is an image
pub image_left : (changes : List FileChange) (synced image : List ℕ) → MayLeave changes synced image → IsImageAfter changes synced image
image_left [] synced image is = record {
  no_shorter = omega (arith, ap length is);
  no_longer = omega (arith, ap length is);
  stays = λ offset lt outside. ap (λ (l : List ℕ). get_or l offset 0) is;
}
image_left (Wrote at count ∷ older) synced image left =
    let was = image_left older synced left.0 left.1 in
    record {
      no_shorter = omega (arith, was.no_shorter, left.2.no_shorter);
      no_longer = omega (arith, was.no_longer, left.2.no_longer);
      stays = λ offset lt outside. ⊎_elim
          (λ prefix. same_before at left.0 image offset left.2.before prefix)
          (λ following. same_after (at + count) left.0 image offset left.2.after following)
          outside.0
          ∙ was.stays offset (omega arith) outside.1;
    }
image_left (CutTo to ∷ older) synced image left =
    let was = image_left older synced left.0 left.1 in
    record {
      no_shorter = omega (arith, was.no_shorter, left.2.no_shorter);
      no_longer = omega (arith, was.no_longer, left.2.no_longer);
      stays = λ offset lt outside. same_before to left.0 image offset left.2.before (omega arith) ∙ was.stays offset (omega arith) outside;
    }

-- nothing is pending where each image of the file is what was synced
pub nothing_pending : (v : View) (file : ℕ) (synced : List ℕ) → ((m : Image) → v.images m → m file ≡ synced) → IsPending v file synced []
nothing_pending v file synced settled = settled

-- a write or a cut of the file is one call more
pub change_pending : (a b : View) (file : ℕ) (synced : List ℕ) (changes : List FileChange) (change : FileChange) → IsPending a file synced changes → Follows (Moved file (Makes change)) a b
    → IsPending b file synced (change ∷ changes)
change_pending a b file synced changes change pending follows m is =
    let from = follows m is in (from.0 file, pending from.0 from.1, from.2.here)

-- a call on another file is none
pub other_pending : (a b : View) (file other : ℕ) (step : List ℕ → List ℕ → Type 0) (synced : List ℕ) (changes : List FileChange) → other ≢ file → IsPending a other synced changes
    → Follows (Moved file step) a b → IsPending b other synced changes
other_pending a b file other step synced changes ne pending follows m is =
    let from = follows m is in subst (λ (l : List ℕ). MayLeave changes synced l) (sym (from.2.others other ne)) (pending from.0 from.1)

-- nor is a call that leaves no new image
pub fewer_pending : (a b : View) (file : ℕ) (synced : List ℕ) (changes : List FileChange) → IsPending a file synced changes → Fewer a b → IsPending b file synced changes
fewer_pending a b file synced changes pending fewer m is = pending m (fewer m is)

-- while these calls are pending each image is one in the plain sense, and so is what a read gives
pub pending_image : (v : View) (file : ℕ) (synced : List ℕ) (changes : List FileChange) → IsPending v file synced changes → (m : Image) → v.images m → IsImageAfter changes synced (m file)
pending_image v file synced changes pending m is = image_left changes synced (m file) (pending m is)
