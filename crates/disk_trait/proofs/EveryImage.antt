-- Each image of a file is one that the calls since its sync may leave: an image from before the last of them is built.
use Rattle.std.proofs.Common.{◌≡◌, inl, inr, ⊎_elim, ℕ, ◌≤◌, ◌<◌, ◌+◌, ◌-◌, List, [], ◌∷◌, length, max, min, take, drop, map, get_or, sym, ◌∙◌, arith, cond, nat_lt}
use Rattle.std.specs.List.{range_with_len}
use Rattle.std.proofs.lemmas.List.{get_or-take, get_or-drop, length-take, length-drop}
use Rattle.std.proofs.lemmas.List.FromFn.{get_or-map-range_with_len, length-map-range_with_len}
use Rattle.std.proofs.lemmas.Grind.{same_number_lists}
use Rattle.std.proofs.lemmas.Bool.{cases_lt}
use Rattle.std.proofs.lemmas.Bool.Decides.{nat_tests}
use Rattle.disk_trait.specs.Calls.{Torn, Shorn}
use Rattle.disk_trait.specs.CrashImage.{Range, IsOutside, IsImage, FileChange, MayLeave, seen_length, written_ranges, IsImageAfter, IsWithoutGap}
use Rattle.disk_trait.specs.CrashImage.FileChange.{Wrote, CutTo}
use Rattle.disk_trait.proofs.CrashImageLemmas.{seen_between}
use Rattle.disk_trait.proofs.Runs.{shorn_none}

-- a text of n bytes, each by its offset
abbrev text : (ℕ → ℕ) → ℕ → List ℕ
text byte n = map byte (range_with_len 0 n)

text_length : (byte : ℕ → ℕ) (n : ℕ) → length (text byte n) ≡ n
text_length byte n = length-map-range_with_len byte 0 n

text_at : (byte : ℕ → ℕ) (n offset : ℕ) → offset < n → get_or (text byte n) offset 0 ≡ byte offset
text_at byte n offset lt = get_or-map-range_with_len byte 0 n offset offset 0 lt (omega arith)

-- the first below the offset, the second from it on
abbrev split : ℕ → ℕ → ℕ → ℕ → ℕ
split to first second offset = cond (nat_lt offset to) first second

split_below : (to first second offset : ℕ) → offset < to → split to first second offset ≡ first
split_below to first second offset lt = grind (arith, nat_tests)

split_from : (to first second offset : ℕ) → to ≤ offset → split to first second offset ≡ second
split_from to first second offset le = grind (arith, nat_tests)

-- prefixes of two texts that agree there
same_prefix : (to : ℕ) (old new : List ℕ) → min to (length old) ≡ min to (length new) → ((offset : ℕ) → offset < to → offset < length new → get_or new offset 0 ≡ get_or old offset 0) → take to new ≡ take to old
same_prefix to old new lengths same = same_number_lists (take to new) (take to old)
    (length-take to new ∙ sym lengths ∙ sym (length-take to old))
    (λ offset lt. let within : offset < min to (length new) = omega (arith, lt, length-take to new) in
    get_or-take to new offset 0 (omega arith) ∙ same offset (omega arith) (omega arith) ∙ sym (get_or-take to old offset 0 (omega arith)))

-- ends of two texts that agree there
same_end : (from : ℕ) (old new : List ℕ) → length old - from ≡ length new - from → ((offset : ℕ) → from ≤ offset → offset < length new → get_or new offset 0 ≡ get_or old offset 0) → drop from new ≡ drop from old
same_end from old new lengths same = same_number_lists (drop from new) (drop from old)
    (length-drop from new ∙ sym lengths ∙ sym (length-drop from old))
    (λ offset lt. let within : offset < length new - from = omega (arith, lt, length-drop from new) in
    get_or-drop from new offset 0 ∙ same (from + offset) (omega arith) (omega arith) ∙ sym (get_or-drop from old offset 0))

-- one write, over numbers for the lengths so far
module _ (synced : List ℕ) (seen least greatest at count : ℕ) (ranges : List Range) (image : List ℕ) (low : least ≤ seen) (high : seen ≤ greatest) (offset_told : at ≤ seen)
    (is : IsImage synced (min (max seen (at + count)) least) (max (max seen (at + count)) greatest) (record { at = at; count = count } ∷ ranges) image) where
  -- the synced bytes in the range, and those of the image elsewhere
  byte_before : ℕ → ℕ
  byte_before offset = split at (get_or image offset 0) (split (at + count) (get_or synced offset 0) (get_or image offset 0) offset) offset

  before_write : List ℕ
  before_write = text byte_before (min (length image) greatest)

  outside_same : (offset : ℕ) → IsOutside offset (record { at = at; count = count }) → byte_before offset ≡ get_or image offset 0
  unfolding byte_before
  outside_same offset outside = ⊎_elim
      (λ prefix. split_below at _ _ offset prefix)
      (λ following. split_from at _ _ offset (omega arith) ∙ split_from (at + count) _ _ offset following)
      outside

  inside_synced : (offset : ℕ) → at ≤ offset → offset < at + count → byte_before offset ≡ get_or synced offset 0
  unfolding byte_before
  inside_synced offset from to = split_from at _ _ offset from ∙ split_below (at + count) _ _ offset to

  before_at : (offset : ℕ) → offset < min (length image) greatest → get_or before_write offset 0 ≡ byte_before offset
  unfolding before_write
  before_at offset lt = text_at byte_before (min (length image) greatest) offset lt

  before_length : length before_write ≡ min (length image) greatest
  unfolding before_write
  before_length = text_length byte_before (min (length image) greatest)

  write_image : IsImage synced least greatest ranges before_write
  write_image = record {
    no_shorter = omega (arith, before_length, is.no_shorter);
    no_longer = omega (arith, before_length);
    stays = λ offset lt outside.
        let within : offset < min (length image) greatest = omega (arith, is.no_shorter) in
        before_at offset within ∙ ⊎_elim
        (λ prefix. outside_same offset (inl prefix) ∙ is.stays offset (omega arith) (inl prefix, outside))
        (λ from. ⊎_elim
        (λ to. inside_synced offset from to)
        (λ following. outside_same offset (inr following) ∙ is.stays offset (omega arith) (inr following, outside))
        (cases_lt offset (at + count)))
        (cases_lt offset at);
  }

  write_torn : Torn at count before_write image
  write_torn = record {
    before = same_prefix at before_write image (omega (arith, before_length, is.no_longer))
        (λ offset lt within. sym (before_at offset (omega arith) ∙ outside_same offset (inl lt)));
    after = same_end (at + count) before_write image (omega (arith, before_length, is.no_longer))
        (λ offset from within. sym (before_at offset (omega (arith, is.no_longer)) ∙ outside_same offset (inr from)));
    no_shorter = omega (arith, before_length);
    no_longer = omega (arith, before_length, is.no_longer);
  }

-- one cut, which left the image at least as long
module _ (synced : List ℕ) (seen least greatest to : ℕ) (ranges : List Range) (image : List ℕ) (low : least ≤ seen) (high : seen ≤ greatest) (reached : to ≤ length image)
    (is : IsImage synced (min (min seen to) least) (max (min seen to) greatest) ranges image) where
  -- the image up to the cut, and after it the synced bytes
  byte_uncut : ℕ → ℕ
  byte_uncut offset = split to (get_or image offset 0) (get_or synced offset 0) offset

  before_cut : List ℕ
  before_cut = text byte_uncut (max (length image) least)

  uncut_at : (offset : ℕ) → offset < max (length image) least → get_or before_cut offset 0 ≡ byte_uncut offset
  unfolding before_cut
  uncut_at offset lt = text_at byte_uncut (max (length image) least) offset lt

  uncut_length : length before_cut ≡ max (length image) least
  unfolding before_cut
  uncut_length = text_length byte_uncut (max (length image) least)

  uncut_prefix : (offset : ℕ) → offset < to → byte_uncut offset ≡ get_or image offset 0
  unfolding byte_uncut
  uncut_prefix offset lt = split_below to _ _ offset lt

  uncut_after : (offset : ℕ) → to ≤ offset → byte_uncut offset ≡ get_or synced offset 0
  unfolding byte_uncut
  uncut_after offset le = split_from to _ _ offset le

  cut_image : IsImage synced least greatest ranges before_cut
  cut_image = record {
    no_shorter = omega (arith, uncut_length);
    no_longer = omega (arith, uncut_length, is.no_longer);
    stays = λ offset lt outside. uncut_at offset (omega arith) ∙ ⊎_elim
        (λ prefix. uncut_prefix offset prefix ∙ is.stays offset (omega arith) outside)
        (λ following. uncut_after offset following)
        (cases_lt offset to);
  }

  cut_shorn : Shorn to before_cut image
  cut_shorn = record {
    before = same_prefix to before_cut image (omega (arith, uncut_length))
        (λ offset lt within. sym (uncut_at offset (omega arith) ∙ uncut_prefix offset lt));
    no_longer = omega (arith, uncut_length);
    no_shorter = omega (arith, uncut_length);
  }

-- the image was no longer than the cut: it may have stood before it too
short_cut_image : (synced : List ℕ) (seen least greatest to : ℕ) (ranges : List Range) (image : List ℕ) → least ≤ seen → seen ≤ greatest → length image < to
    → IsImage synced (min (min seen to) least) (max (min seen to) greatest) ranges image → IsImage synced least greatest ranges image
short_cut_image synced seen least greatest to ranges image low high short is = record {
  no_shorter = omega (arith, is.no_shorter);
  no_longer = omega (arith, is.no_longer);
  stays = λ offset lt outside. is.stays offset (omega (arith, is.no_shorter)) outside;
}

-- an image that a write may have made comes from one before it
pub image_before_write : (synced : List ℕ) (seen least greatest at count : ℕ) (ranges : List Range) (image : List ℕ) → least ≤ seen → seen ≤ greatest → at ≤ seen
    → IsImage synced (min (max seen (at + count)) least) (max (max seen (at + count)) greatest) (record { at = at; count = count } ∷ ranges) image
    → (before : List ℕ) × IsImage synced least greatest ranges before × Torn at count before image
image_before_write synced seen least greatest at count ranges image low high told is = (
  before_write synced seen least greatest at count ranges image low high told is,
  write_image synced seen least greatest at count ranges image low high told is,
  write_torn synced seen least greatest at count ranges image low high told is,
)

-- and so does one that a cut may have made
pub image_before_cut : (synced : List ℕ) (seen least greatest to : ℕ) (ranges : List Range) (image : List ℕ) → least ≤ seen → seen ≤ greatest
    → IsImage synced (min (min seen to) least) (max (min seen to) greatest) ranges image
    → (before : List ℕ) × IsImage synced least greatest ranges before × Shorn to before image
image_before_cut synced seen least greatest to ranges image low high is = ⊎_elim
    (λ short. (image, short_cut_image synced seen least greatest to ranges image low high short is, shorn_none to image))
    (λ reached. (
      before_cut synced seen least greatest to ranges image low high reached is,
      cut_image synced seen least greatest to ranges image low high reached is,
      cut_shorn synced seen least greatest to ranges image low high reached is,
    ))
    (cases_lt (length image) to)

-- each image is left by these calls
pub image_is_left : (changes : List FileChange) (synced image : List ℕ) → IsWithoutGap changes (length synced) → IsImageAfter changes synced image → MayLeave changes synced image
image_is_left [] synced image told is =
    same_number_lists image synced (omega (arith, is.no_shorter, is.no_longer)) (λ offset lt. is.stays offset (omega (arith, is.no_longer)) tt)
image_is_left (Wrote at count ∷ older) synced image told is =
    let between = seen_between older (length synced) in
    let from = image_before_write synced (seen_length older (length synced)) _ _ at count (written_ranges older) image between.0 between.1 told.0 is in
    (from.0, image_is_left older synced from.0 told.1 from.1, from.2)
image_is_left (CutTo to ∷ older) synced image told is =
    let between = seen_between older (length synced) in
    let from = image_before_cut synced (seen_length older (length synced)) _ _ to (written_ranges older) image between.0 between.1 is in
    (from.0, image_is_left older synced from.0 told from.1, from.2)
