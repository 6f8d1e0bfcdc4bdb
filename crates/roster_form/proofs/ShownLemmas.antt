-- What an image of a service disk shows, also while a roster is written to it.
use Rattle.std.proofs.Common.{◌≡◌, ◌≢◌, ◌⊎◌, inl, inr, ⊎_elim, ℕ, ◌<◌, ◌≤◌, List, ◌∷◌, get_or, Option, Some, None, refl, sym, ◌∙◌, ap, subst, arith}
use Rattle.std.proofs.lemmas.Bool.{cases_eq}
use Rattle.disk_trait.specs.View.{Image}
use Rattle.seal_gate.specs.Seal.{IsSealed}
use Rattle.store_journal.specs.Created.{IsUnsealed}
use Rattle.store_journal.specs.Stands.{version_in}
use Rattle.newest_store.specs.Newest.{IsNewest}
use Rattle.newest_store.proofs.NewestLemmas.{newest_once}
use Rattle.std.specs.Prelude.{Contains}
use Rattle.roster_form.proofs.ContainsLemmas.{contains_first, contains_later}
use Rattle.roster_form.specs.RosterText.{IsRosterText}
use Rattle.roster_form.specs.Shown.{Shows, ShowsOneOf, IsOther, IsEarlier, FileShows, IsWritingOver}
use Rattle.roster_form.specs.declared.roster.Roster.{Roster}
use Rattle.roster_form.proofs.RosterTextLemmas.{numbers_of, roster_once}

-- the epoch of a roster stands where the version of a store stands
pub epoch_of_text : (roster : Roster) (bytes : List ℕ) → IsRosterText roster bytes → version_in bytes ≡ roster.epoch
epoch_of_text roster bytes is = (numbers_of roster bytes is).epoch

pub text_is_sealed : (roster : Roster) (bytes : List ℕ) → IsRosterText roster bytes → IsSealed bytes
text_is_sealed roster bytes is = record {
  first = λ zero. is.sealed (sym (ap (λ (l : List ℕ). get_or l 0 0) is.text) ∙ zero);
  long = (numbers_of roster bytes is).long;
}

-- an image shows one thing
pub shows_once : (m : Image) (one other : Option Roster) → Shows m one → Shows m other → one ≡ other
shows_once m None None is also = refl
shows_once m None (Some other) is also = absurd (is also.0 also.1.one_of_two also.1.sealed)
shows_once m (Some one) None is also = absurd (also is.0 is.1.one_of_two is.1.sealed)
shows_once m (Some one) (Some other) is also =
    let file : is.0 ≡ also.0 = newest_once m is.0 also.0 is.1 also.1 in
    ap (λ (r : Roster). Some r) (roster_once one other (m also.0) (subst (λ (k : ℕ). IsRosterText one (m k)) file is.2) also.2)

-- of two files each that is one of them is the first or the second
pub of_two : (file other f : ℕ) → IsOther file other → f ≤ 1 → (f ≡ file) ⊎ (f ≡ other)
of_two file other f two within = ⊎_elim (λ e. inl e) (λ ne. let a = two.1 in let b = two.2 in let c : file ≢ other = two.0 in inr (grind (arith, ne, a, b, c, within))) (cases_eq f file)

pub other_way : (file other : ℕ) → IsOther file other → IsOther other file
other_way file other two = (λ e. two.0 (sym e), two.2, two.1)

-- a sealed file is the newest where the other isn't sealed or is older
pub becomes_newest : (m : Image) (file other : ℕ) → IsOther file other → IsSealed (m file) → (IsSealed (m other) → version_in (m other) < version_in (m file)) → IsNewest m file
becomes_newest m file other two sealed less = record {
  one_of_two = two.1;
  sealed = sealed;
  greatest = λ f within ne is. ⊎_elim
      (λ e. absurd (ne e))
      (λ e. inl (subst (λ (k : ℕ). version_in (m k) < version_in (m file)) (sym e) (less (subst (λ (k : ℕ). IsSealed (m k)) e is))))
      (of_two file other f two within);
}

-- while a roster is written, an image shows what the other file has, or the roster
pub writing_shows : (roster : Roster) (file other : ℕ) (sights : List (Option Roster)) (m : Image) → IsWritingOver roster file other sights m → ShowsOneOf (Some roster ∷ sights) m
writing_shows roster file other sights m is = go is.shown is.listed is.earlier is.there is.here
  where
    bare : IsUnsealed (m file) → IsUnsealed (m other) → (f : ℕ) → f ≤ 1 → IsUnsealed (m f)
    bare here there f within = ⊎_elim (λ e. subst (λ (k : ℕ). IsUnsealed (m k)) (sym e) here) (λ e. subst (λ (k : ℕ). IsUnsealed (m k)) (sym e) there) (of_two file other f is.two within)

    go : (shown : Option Roster) → Contains sights shown → IsEarlier shown roster → FileShows (m other) shown → IsUnsealed (m file) ⊎ IsNewest m other ⊎ IsRosterText roster (m file) → ShowsOneOf (Some roster ∷ sights) m
    go None listed earlier there (inl here) = (None, bare here there, contains_later (Some roster) sights None listed)
    go None listed earlier there (inr (inl newest)) = absurd (there newest.sealed)
    go None listed earlier there (inr (inr text)) = (Some roster, (file, becomes_newest m file other is.two (text_is_sealed roster (m file) text) (λ sealed. absurd (there sealed)), text), contains_first (Some roster) sights)
    go (Some shown) listed earlier there (inl here) =
        (Some shown, (other, becomes_newest m other file (other_way file other is.two) (text_is_sealed shown (m other) there) (λ sealed. absurd (here sealed)), there), contains_later (Some roster) sights (Some shown) listed)
    go (Some shown) listed earlier there (inr (inl newest)) = (Some shown, (other, newest, there), contains_later (Some roster) sights (Some shown) listed)
    go (Some shown) listed earlier there (inr (inr text)) = (
      Some roster,
      (
        file,
        becomes_newest m file other is.two (text_is_sealed roster (m file) text) (λ sealed.
            let a = epoch_of_text shown (m other) there in
            let b = epoch_of_text roster (m file) text in
            omega (arith, a, b, earlier)),
        text,
      ),
      contains_first (Some roster) sights,
    )

-- a write begins: the file isn't sealed, or the other is the newest
pub writing_begins : (roster : Roster) (file other : ℕ) (sights : List (Option Roster)) (m : Image) → IsOther file other → (IsSealed (m file) → IsNewest m other) → ((shown : Option Roster) → Contains sights shown → IsEarlier shown roster) → ShowsOneOf sights m
    → IsWritingOver roster file other sights m
writing_begins roster file other sights m two free earlier shows = go shows.0 shows.1 shows.2
  where
    go : (shown : Option Roster) → Shows m shown → Contains sights shown → IsWritingOver roster file other sights m
    go None none listed = record { two = two; shown = None; listed = listed; earlier = tt; there = none other two.2; here = inl (none file two.1) }
    go (Some shown) is listed =
        let newest : IsNewest m other = ⊎_elim
        (λ e. free (subst (λ (k : ℕ). IsSealed (m k)) e is.1.sealed))
        (λ e. subst (IsNewest m) e is.1)
        (of_two file other is.0 two is.1.one_of_two) in
        let same : is.0 ≡ other = newest_once m is.0 other is.1 newest in
        record { two = two; shown = Some shown; listed = listed; earlier = earlier (Some shown) listed; there = subst (λ (k : ℕ). IsRosterText shown (m k)) same is.2; here = inr (inl newest) }

-- the roster is written: it is all that is shown
pub written_shows : (roster : Roster) (file other : ℕ) (sights : List (Option Roster)) (m : Image) → IsWritingOver roster file other sights m → IsRosterText roster (m file) → Shows m (Some roster)
written_shows roster file other sights m is text = (file, becomes_newest m file other is.two (text_is_sealed roster (m file) text) (go is.shown is.earlier is.there), text)
  where
    go : (shown : Option Roster) → IsEarlier shown roster → FileShows (m other) shown → IsSealed (m other) → version_in (m other) < version_in (m file)
    go None earlier there sealed = absurd (there sealed)
    go (Some shown) earlier there sealed =
        let a = epoch_of_text shown (m other) there in
        let b = epoch_of_text roster (m file) text in
        omega (arith, a, b, earlier)
