-- What a write of a roster leaves of the other files, and of its own after Ok.
use Rattle.std.proofs.Common.{◌≡◌, ◌≢◌, ⊎_elim, ℕ, ◌-◌, ◌≤◌, List, [], ◌∷◌, Option, Some, None, refl, sym, ◌∙◌, subst, arith}
use Rattle.disk_trait.specs.View.{Image, View, Tells}
use Rattle.disk_trait.specs.Calls.{Moved, Same}
use Rattle.disk_trait.specs.Moments.{Now, After, Throughout}
use Rattle.disk_trait.proofs.Runs.{weakened, followed, holds_now, joined}
use Rattle.roster_form.proofs.ContainsLemmas.{contains_first, contains_later, contains_cases, contains_none}
use Rattle.roster_form.proofs.ShownLemmas.{writing_begins, writing_shows}
use Rattle.roster_form.specs.RosterText.{IsRosterText}
use Rattle.roster_form.specs.Shown.{Shows, ShowsOneOf, IsEarlier, IsWritingOver}
use Rattle.roster_form.specs.declared.roster.Roster.{Roster}
use Rattle.seal_gate.specs.Seal.{Each, IsSettled}
use Rattle.store_journal.specs.Created.{IsUnsealed}
use Rattle.roster_book.specs.Reading.{IsFreeFile}
use Rattle.roster_book.specs.Writing.{IsReadyToWrite, OnlyIn}
use Rattle.roster_book.proofs.ReadingLemmas.{newest_alike, free_is_ready}
use Rattle.roster_book.proofs.WritingLemmas.{other_apart}

-- calls that change one file
pub only_moved : (a b : View) (file : ℕ) (step : List ℕ → List ℕ → Type 0) → Throughout a b (After a (Moved file step)) → Throughout a b (After a (OnlyIn file))
only_moved a b file step all = weakened a b (After a (Moved file step)) (After a (OnlyIn file)) all (λ m has. (has.0, has.1, has.2.others))

-- calls that leave no new image
pub only_read : (a b : View) (file : ℕ) → Throughout a b a.images → Throughout a b (After a (OnlyIn file))
only_read a b file all = weakened a b a.images (After a (OnlyIn file)) all (λ m is. (m, is, λ f ne. refl))

-- one after the other
pub only_then : (a b c : View) (file : ℕ) → Throughout a b (After a (OnlyIn file)) → Throughout b c (After b (OnlyIn file)) → Throughout a c (After a (OnlyIn file))
only_then a b c file first second = followed a b c (OnlyIn file) (OnlyIn file) (OnlyIn file) first second (λ o m is r. r) (λ o m n is mid r s. λ f ne. s f ne ∙ r f ne)

-- one text in every image is what a read gives
pub one_text : (v : View) (file : ℕ) (text : List ℕ) → Each v file (λ bytes. bytes ≡ text) → IsSettled v file
one_text v file text each m is = each m is ∙ sym (each v.seen (v.told m is))

-- a file that was settled stays so where another one alone has changed
pub settled_beside : (a b : View) (file f : ℕ) → f ≢ file → Throughout a b (After a (OnlyIn file)) → ((k : ℕ) → k ≢ file → b.seen k ≡ a.seen k) → IsSettled a f → IsSettled b f
settled_beside a b file f ne all seen settled m is =
    let from = holds_now a b (After a (OnlyIn file)) all m is in
    from.2 f ne ∙ settled from.0 from.1 ∙ sym (seen f ne)

-- ---- over what a host shows

-- where files 0 and 1 are the same, the same is shown
shows_alike : (m n : Image) (shown : Option Roster) → ((f : ℕ) → f ≤ 1 → m f ≡ n f) → Shows m shown → Shows n shown
shows_alike m n None alike shows = λ f within. subst IsUnsealed (alike f within) (shows f within)
shows_alike m n (Some roster) alike shows = (shows.0, newest_alike m n shows.0 alike shows.1, subst (IsRosterText roster) (alike shows.0 shows.1.one_of_two) shows.2)

-- after reads each image has what was settled
at_rest : (old new : View) → Same old new → ((f : ℕ) → f ≤ 1 → IsSettled old f) → (m : Image) → new.images m → (f : ℕ) → f ≤ 1 → m f ≡ old.seen f
at_rest old new same settled m is f within = settled f within m (same.fewer m is)

-- what was settled is so after reads
pub settled_after : (old new : View) → Same old new → ((f : ℕ) → f ≤ 1 → IsSettled old f) → (f : ℕ) → f ≤ 1 → IsSettled new f
settled_after old new same settled f within m is = at_rest old new same settled m is f within ∙ sym (same.seen f)

-- where nothing is pending each image shows what a read does
pub shown_now : (v : View) (shown : Option Roster) → ((f : ℕ) → f ≤ 1 → IsSettled v f) → (Tells v → Shows v.seen shown) → (m : Image) → v.images m → Shows m shown
shown_now v shown settled shows m is = shows_alike v.seen m shown (λ f within. sym (settled f within m is)) (shows (v.told m is))

-- a write may begin after the reads that found its file; a disk without an image tells nothing, and nothing is asked of it
pub ready_after : (old new : View) (text : List ℕ) (file : ℕ) → Same old new → file ≤ 1 → (Tells old → IsFreeFile old.seen file) → ((f : ℕ) → f ≤ 1 → IsSettled old f) → IsReadyToWrite text file (1 - file) None new
ready_after old new text file same within free settled = (
  λ m is. (free_is_ready old new text file same within (free (old.told m (same.fewer m is))) settled).0 m is,
  λ m is. (free_is_ready old new text file same within (free (old.told m (same.fewer m is))) settled).1 m is,
)

-- and then the roster is being written over what is shown
pub over_now : (old new : View) (roster : Roster) (shown : Option Roster) (file : ℕ) → Same old new → file ≤ 1 → (Tells old → IsFreeFile old.seen file) → ((f : ℕ) → f ≤ 1 → IsSettled old f)
    → (Tells old → Shows old.seen shown) → IsEarlier shown roster → Now new (IsWritingOver roster file (1 - file) (shown ∷ []))
over_now old new roster shown file same within free settled shows earlier m is =
    writing_begins roster file (1 - file) (shown ∷ []) m (λ e. other_apart file within (sym e), within, omega (arith, within)) ((ready_after old new [] file same within free settled).1 m is)
    (λ one listed. ⊎_elim (λ e. subst (λ (s : Option Roster). IsEarlier s roster) (sym e) earlier) (λ none. absurd (contains_none one none)) (contains_cases shown [] one listed))
    (shown, shown_now old shown settled shows m (same.fewer m is), contains_first shown [])

-- at every moment of reads it shows what it showed
pub over_reads : (old mid : View) (roster : Roster) (shown : Option Roster) → ((f : ℕ) → f ≤ 1 → IsSettled old f) → (Tells old → Shows old.seen shown) → Throughout old mid old.images
    → Throughout old mid (ShowsOneOf (Some roster ∷ shown ∷ []))
over_reads old mid roster shown settled shows reads =
    weakened old mid old.images (ShowsOneOf (Some roster ∷ shown ∷ [])) reads (λ m is. (shown, shown_now old shown settled shows m is, contains_later (Some roster) (shown ∷ []) shown (contains_first shown [])))

-- at every moment of the reads and of the write it shows what it showed, or the roster
pub over_moments : (old mid new : View) (roster : Roster) (shown : Option Roster) (file : ℕ) → ((f : ℕ) → f ≤ 1 → IsSettled old f) → (Tells old → Shows old.seen shown) → Throughout old mid old.images
    → Throughout mid new (IsWritingOver roster file (1 - file) (shown ∷ [])) → Throughout old new (ShowsOneOf (Some roster ∷ shown ∷ []))
over_moments old mid new roster shown file settled shows reads writes =
    joined old mid new (ShowsOneOf (Some roster ∷ shown ∷ [])) (over_reads old mid roster shown settled shows reads)
    (weakened mid new (IsWritingOver roster file (1 - file) (shown ∷ [])) (ShowsOneOf (Some roster ∷ shown ∷ [])) writes (λ m is. writing_shows roster file (1 - file) (shown ∷ []) m is))
