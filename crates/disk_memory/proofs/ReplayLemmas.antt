-- What a stop may leave of a file, from change to change.
use Rattle.std.proofs.Common.{◌≡◌, ⊎_elim, ℕ, ◌+◌, ◌<◌, ◌≤◌, min, max, List, length, take, refl, ◌∙◌, arith, length-take}
use Rattle.std.proofs.lemmas.List.{ext_get_or, get_or-take}
use Rattle.disk_trait.specs.Calls.{Torn, Shorn}
use Rattle.disk_trait.proofs.EveryImage.{image_before_write, image_before_cut}
use Rattle.disk_memory.specs.Replay.{FileState, MayBeLeft, laid, clean, after_write, after_cut}
use Rattle.disk_memory.proofs.LaidLemmas.{length-laid, laid_before, laid_after}

-- ---- a write

module _ (state : FileState) (pick at : ℕ) (bytes : List ℕ) where
  end_long : length (laid state.seen at bytes) ≡ max (length state.seen) (at + length bytes)
  end_long = length-laid state.seen at bytes

  -- an image on which the write was done in part
  pub write_keeps : (image more : List ℕ) → MayBeLeft state image → length more ≤ length bytes → MayBeLeft (after_write pick at bytes state) (laid image at more)
  write_keeps image more is short = record {
    no_shorter = omega (arith, length-laid image at more, is.no_shorter);
    no_longer = omega (arith, length-laid image at more, is.no_longer, end_long);
    stays = λ i lt outside.
        let least : i < state.least = omega arith in
        ⊎_elim (λ before. laid_before image at more i before) (λ following. laid_after image at more i (omega arith)) outside.0 ∙ is.stays i least outside.1;
  }

  -- or not at all
  pub write_leaves : (image : List ℕ) → MayBeLeft state image → MayBeLeft (after_write pick at bytes state) image
  write_leaves image is = record {
    no_shorter = omega (arith, is.no_shorter);
    no_longer = omega (arith, is.no_longer, end_long);
    stays = λ i lt outside. is.stays i (omega arith) outside.1;
  }

module _ (state : FileState) (pick at : ℕ) (bytes : List ℕ) (seen : MayBeLeft state state.seen) (offset : at ≤ length state.seen) where
  -- the image before the write that one after it comes from
  pub write_image : (new : List ℕ) → MayBeLeft (after_write pick at bytes state) new → (old : List ℕ) × MayBeLeft state old × Torn at (length bytes) old new
  write_image new is =
      let long = end_long state pick at bytes in
      image_before_write state.synced (length state.seen) state.least state.greatest at (length bytes) state.ranges new seen.no_shorter seen.no_longer offset
      (record {
        no_shorter = omega (arith, is.no_shorter, long);
        no_longer = omega (arith, is.no_longer, long);
        stays = λ i lt outside. is.stays i (omega (arith, long)) outside;
      })

-- ---- a cut

module _ (state : FileState) (pick to : ℕ) (seen : MayBeLeft state state.seen) where
  cut_long : length (take to state.seen) ≡ min to (length state.seen)
  cut_long = length-take to state.seen

  pub cut_keeps : (image : List ℕ) → MayBeLeft state image → MayBeLeft (after_cut pick to state) (take to image)
  cut_keeps image is = record {
    no_shorter = omega (arith, length-take to image, cut_long, is.no_shorter, seen.no_shorter);
    no_longer = omega (arith, length-take to image, is.no_longer);
    stays = λ i lt outside. get_or-take to image i 0 (omega (arith, cut_long)) ∙ is.stays i (omega arith) outside;
  }

  pub cut_leaves : (image : List ℕ) → MayBeLeft state image → MayBeLeft (after_cut pick to state) image
  cut_leaves image is = record {
    no_shorter = omega (arith, is.no_shorter);
    no_longer = omega (arith, is.no_longer);
    stays = λ i lt outside. is.stays i (omega arith) outside;
  }

  pub cut_image : (new : List ℕ) → MayBeLeft (after_cut pick to state) new → (old : List ℕ) × MayBeLeft state old × Shorn to old new
  cut_image new is = image_before_cut state.synced (length state.seen) state.least state.greatest to state.ranges new seen.no_shorter seen.no_longer
      (record {
        no_shorter = omega (arith, is.no_shorter, cut_long);
        no_longer = omega (arith, is.no_longer, cut_long);
        stays = λ i lt outside. is.stays i (omega (arith, cut_long)) outside;
      })

-- ---- a sync or a restart

pub clean_image : (bytes : List ℕ) → MayBeLeft (clean bytes) bytes
clean_image bytes = record { no_shorter = omega arith; no_longer = omega arith; stays = λ i lt outside. refl }

pub clean_only : (bytes new : List ℕ) → MayBeLeft (clean bytes) new → new ≡ bytes
clean_only bytes new is = ext_get_or 0 new bytes (omega (arith, is.no_shorter, is.no_longer)) (λ i lt. is.stays i (omega (arith, is.no_longer)) tt)
