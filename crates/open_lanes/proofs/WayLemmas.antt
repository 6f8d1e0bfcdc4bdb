-- Lanes that are opened one after the other.
use Rattle.std.proofs.Common.{◌≡◌, ℕ, ◌+◌, ◌<◌, ◌≤◌, List, [], ◌∷◌, ◌++◌, length, slice_get, Some, Option, option_to_list, map, reverse, refl, sym, ◌∙◌, ap, subst, arith}
use Rattle.std.proofs.lemmas.List.{append_assoc, append-nil, reverse-reverse, map-append, length-append, length-map, length-reverse}
use Rattle.std.proofs.lemmas.Option.{slice_get_within}
use Rattle.disk_lane.proofs.LaneLemmas.{some_same, disk_there}
use Rattle.kept_cell.specs.KeptCells.{KeptCell}
use Rattle.site_disks.specs.declared.site.Lane.{Lane}
use Rattle.site_disks.specs.SiteDisks.{disks_in_lanes}
use Rattle.open_lanes.specs.Opened.{lanes_of_kept, InEachLane}
use Rattle.open_lanes.proofs.PlacesLemmas.{at_place, mapped_from, map_reversed, reversed_last, each_place}

-- a list without elements
pub no_element : {X : Type 0} (xs : List X) → length xs ≡ 0 → xs ≡ []
no_element [] none = refl
no_element (x ∷ xs) none = absurd (omega (arith, none))

-- all lanes are back, once no cell is left
pub all_back : {D : Type 0} (kept : List (KeptCell D)) (lanes turned : List (Lane D)) (whole : List (List D)) → length kept ≡ 0 → lanes_of_kept kept ++ reverse (disks_in_lanes lanes) ≡ whole → turned ≡ reverse lanes → disks_in_lanes turned ≡ whole
all_back kept lanes turned whole none joined is =
    ap disks_in_lanes is ∙ map_reversed (λ lane. lane.disks.items) lanes ∙ subst (λ (ks : List (KeptCell _)). lanes_of_kept ks ++ reverse (disks_in_lanes lanes) ≡ whole) (no_element kept none) joined

-- The first of these lanes have their cells, each in this relation to its partition and its disks before. The others are left, the
-- last one first.
pub record IsPartWay {D : Type 0} (R : ℕ → List D → KeptCell D → Type 0) (old left : List (List D)) (kept : List (KeptCell D)) : Type 0 where
  pub begun : List (List D)
  pub whole : old ≡ begun ++ reverse left
  pub as_many : length begun ≡ length kept
  pub each : (p : ℕ) (before : List D) (one : KeptCell D) → slice_get begun p ≡ Some before → slice_get kept p ≡ Some one → R p before one

module _ {D : Type 0} (R : ℕ → List D → KeptCell D → Type 0) (old : List (List D)) where
  -- none has its cell yet
  pub none_begun : (left : List (List D)) (kept : List (KeptCell D)) → left ≡ reverse old → length kept ≡ 0 → IsPartWay R old left kept
  none_begun left kept is none = record {
    begun = [];
    whole = sym (ap reverse is ∙ reverse-reverse old);
    as_many = sym none;
    each = λ p before one was. absurd (cc was);
  }

  -- all have
  pub all_begun : (left : List (List D)) (kept : List (KeptCell D)) → IsPartWay R old left kept → length left ≡ 0
      → (length kept ≡ length old) × ((p : ℕ) (before : List D) (one : KeptCell D) → slice_get old p ≡ Some before → slice_get kept p ≡ Some one → R p before one)
  all_begun left kept way none =
      let is : old ≡ way.begun = way.whole ∙ ap (λ (l : List (List D)). way.begun ++ reverse l) (no_element left none) ∙ append-nil way.begun in
      (sym way.as_many ∙ sym (ap length is), λ p before one was. way.each p before one (subst (λ (l : List (List D)). slice_get l p ≡ Some before) is was))

  module _ (left rest : List (List D)) (kept : List (KeptCell D)) (way : IsPartWay R old left kept) (before : List D) (next : left ≡ rest ++ before ∷ []) where
    -- the lanes before are those that have begun, this one, and the others
    whole_of : old ≡ way.begun ++ before ∷ reverse rest
    whole_of = way.whole ∙ ap (λ (l : List (List D)). way.begun ++ l) (ap reverse next ∙ reversed_last rest before)

    -- the next one's disks
    pub next_there : slice_get old (length kept) ≡ Some before
    next_there = subst (λ (l : List (List D)). slice_get l (length kept) ≡ Some before) (sym whole_of) (at_place way.begun before (reverse rest) (length kept) (sym way.as_many))

    -- one more has its cell
    pub one_more : (grown : List (KeptCell D)) (one : KeptCell D) → grown ≡ kept ++ one ∷ [] → R (length kept) before one → IsPartWay R old rest grown
    one_more grown one grows is = subst (λ (ks : List (KeptCell D)). IsPartWay R old rest ks) (sym grows) (record {
      begun = way.begun ++ before ∷ [];
      whole = whole_of ∙ sym (append_assoc way.begun (before ∷ []) (reverse rest));
      as_many = let many = way.as_many in omega (arith, many, length-append way.begun (before ∷ []), length-append kept (one ∷ []));
      each = each_place R way.begun kept before one [] [] way.as_many way.each is (λ p i b a lt was none. absurd (cc none));
    })

    module _ (new : List (List D)) (after : List D) (back : new ≡ lanes_of_kept kept ++ after ∷ reverse rest) where
      -- as many lanes are back
      pub as_many_back : length new ≡ length old
      as_many_back =
          let many = way.as_many in
          omega (arith, many, ap length whole_of, ap length back, length-append way.begun (before ∷ reverse rest), length-append (lanes_of_kept kept) (after ∷ reverse rest), length-map kept (λ each. each.cell.disks))

      -- the one that was refused is back at its place
      pub refused_there : slice_get new (length kept) ≡ Some after
      refused_there =
          subst (λ (l : List (List D)). slice_get l (length kept) ≡ Some after) (sym back)
          (at_place (lanes_of_kept kept) after (reverse rest) (length kept) (sym (length-map kept (λ each. each.cell.disks))))

      -- so each lane is in a relation: those of cells, the one that was refused, and the others, which are as they were
      pub each_back : (Q : ℕ → List D → List D → Type 0)
          → ((p : ℕ) (b : List D) (one : KeptCell D) → p < length kept → R p b one → Q p b one.cell.disks)
          → Q (length kept) before after
          → ((p : ℕ) (b : List D) → length kept < p → slice_get old p ≡ Some b → Q p b b)
          → InEachLane old new Q
      each_back Q first here still p b a was is =
          let same : length (lanes_of_kept kept) ≡ length kept = length-map kept (λ each. each.cell.disks) in
          each_place Q way.begun (lanes_of_kept kept) before after (reverse rest) (reverse rest) (way.as_many ∙ sym same)
          (λ q c d started ended.
          let one = mapped_from (λ (each : KeptCell D). each.cell.disks) kept q d ended in
          subst (Q q c) one.2 (first q c one.0 (slice_get_within kept q one.0 one.1) (way.each q c one.0 started one.1)))
          (subst (λ (n : ℕ). Q n before after) (sym same) here)
          (λ q i c d lt place one other.
          subst (Q q c) (some_same c d (slice_get (reverse rest) i) one other)
          (still q c (omega (arith, lt, same)) (subst (λ (l : List (List D)). slice_get l q ≡ Some c) (sym whole_of) place)))
          p b a
          (subst (λ (l : List (List D)). slice_get l p ≡ Some b) whole_of was)
          (subst (λ (l : List (List D)). slice_get l p ≡ Some a) back is)

-- a lane that was taken from the end of the list
pub popped_lane : {D : Type 0} (lanes rest : List (Lane D)) (taken : Option (Lane D)) (lane : Lane D) → lanes ≡ rest ++ option_to_list taken → taken ≡ Some lane → disks_in_lanes lanes ≡ disks_in_lanes rest ++ lane.disks.items ∷ []
popped_lane {D} lanes rest taken lane whole is =
    ap disks_in_lanes (whole ∙ ap (λ (o : Option (Lane D)). rest ++ option_to_list o) is) ∙ map-append (λ lane. lane.disks.items) rest (lane ∷ [])

-- none is left
pub none_left : {D : Type 0} (lanes : List (Lane D)) → length lanes ≡ 0 → length (disks_in_lanes lanes) ≡ 0
none_left lanes none = length-map lanes (λ lane. lane.disks.items) ∙ none
