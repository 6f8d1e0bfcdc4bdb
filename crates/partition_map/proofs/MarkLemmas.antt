-- Laws of marks.
use Rattle.std.proofs.Common.{◌≡◌, ℕ, List, [], ◌∷◌, ◌++◌, Bool, true, false, cond, Option, Some, None, is_some, unwrap_or, ap, ◌∙◌, sym, refl, subst}
use Rattle.std.specs.Map.{lookup, keys_of}
use Rattle.std.proofs.lemmas.Bool.{false≢true}
use Rattle.std.proofs.lemmas.Map.Made.{is_some-lookup}
use Rattle.cache_key.specs.declared.request.Mutation.{Mutation}
use Rattle.cache_key.specs.declared.request.Mutation.TheVariants.{Put, Remove, Ensure, Truncate, Destroy, Batch}
use Rattle.cache_model.specs.Caches.{same}
use Rattle.cache_model.specs.Change.{Change, change_of}
use Rattle.cache_model.specs.Contents.{IsRising, is_present_after}
use Rattle.cache_model.proofs.ContentsLemmas.{same-itself}
use Rattle.partition_map.specs.declared.change.Shift.{Shift}
use Rattle.partition_map.specs.declared.extent.Extent.{Extent}
use Rattle.partition_map.specs.After.{AgreesWith}
use Rattle.partition_map.specs.Extents.{Extents, Maps, presence_held, IsExtentAfter}
use Rattle.partition_map.specs.Hidden.{if_there, IsLeftThere}
use Rattle.partition_map.specs.Marks.{Marks, is_marked, AreMarked, AreRemarked}
use Rattle.partition_map.specs.Order.{cache_changed, brings, with_name}
use Rattle.partition_map.specs.Written.{IsShift, ShowsAgain}
use Rattle.partition_map.proofs.ChangedLemmas.{AreWhole, IsWritten, IsWritten-set_value, presence-caches_in, presence-agreed}

-- ---- one mark

unwrap_or-cond : (b mark : Bool) (found : Option Bool) → unwrap_or (cond b (Some mark) found) false ≡ cond b mark (unwrap_or found false)
unwrap_or-cond true mark found = refl
unwrap_or-cond false mark found = refl

-- it was written
pub AreRemarked-written : (name : List ℕ) (mark : Bool) (old new : Marks) → ((other : List ℕ) → lookup (same other) new ≡ cond (same name other) (Some mark) (lookup (same other) old)) → AreRemarked name mark old new
AreRemarked-written name mark old new written other = ap (λ found. unwrap_or found false) (written other) ∙ unwrap_or-cond (same name other) mark (lookup (same other) old)

marked-found : (found : Option Bool) → unwrap_or found false ≡ true → is_some found ≡ true
marked-found None there = absurd (false≢true there)
marked-found (Some mark) there = refl

-- a name that is marked as there has its number
pub with_name-marked : (name : List ℕ) (marks : Marks) → is_marked marks name ≡ true → with_name (keys_of marks) name ≡ keys_of marks
with_name-marked name marks there = ap (λ b. cond b (keys_of marks) (keys_of marks ++ name ∷ [])) (sym (is_some-lookup (same name) marks) ∙ marked-found (lookup (same name) marks) there)

-- ---- the marks beside the extents

-- what shows the same is marked the same
pub AreMarked-again : (marks : Marks) (old new : Extents) → AreWhole old → IsRising (keys_of old) → ShowsAgain old new → AreMarked marks old → AreMarked marks new
AreMarked-again marks old new whole rise again marked other =
    marked other
    ∙ sym (presence-caches_in old other rise)
    ∙ sym (ap (λ cs. is_some (lookup (same other) cs)) (again.shown whole rise))
    ∙ presence-caches_in new other (again.rises rise)

-- whether a cache is there after the changes that a map agrees with
pub marked-agreed : (changes : List Change) (maps : Maps) (marks : Marks) (cache : List ℕ) → IsRising (keys_of maps.extents) → AreMarked marks maps.extents → AgreesWith changes maps → is_marked marks cache ≡ is_present_after changes cache
marked-agreed changes maps marks cache rise marked agrees = marked cache ∙ presence-agreed changes maps cache rise agrees

presence-if_there : (found : Option Extent) → presence_held (if_there found) ≡ presence_held found
presence-if_there None = refl
presence-if_there (Some extent) = by extent.present refl
  where
    by : (b : Bool) → extent.present ≡ b → presence_held (cond b (Some extent) None) ≡ b
    by true there = there
    by false gone = refl

-- one extent was written, and is gone if its cache isn't there
AreMarked-changed : (cache : List ℕ) (marks marks_now : Marks) (old mid new : Extents) (now : Extent) → IsWritten cache old mid now → IsLeftThere cache mid new → AreRemarked cache now.present marks marks_now → AreMarked marks old → AreMarked marks_now new
AreMarked-changed cache marks marks_now old mid new now written left remarked marked other =
    remarked other
    ∙ ap (λ b. cond (same cache other) now.present b) (marked other)
    ∙ one (same cache other) (lookup (same other) old)
    ∙ sym (ap presence_held (written other))
    ∙ stays (same cache other) (lookup (same other) mid)
    ∙ sym (ap presence_held (left other))
  where
    one : (b : Bool) (found : Option Extent) → cond b now.present (presence_held found) ≡ presence_held (cond b (Some now) found)
    one true found = refl
    one false found = refl

    stays : (b : Bool) (found : Option Extent) → presence_held found ≡ presence_held (cond b (if_there found) found)
    stays true found = sym (presence-if_there found)
    stays false found = refl

-- ---- a cache that comes or goes

-- one that comes was brought by the change
comes-brought : (mutation : Mutation) (before now : Extent) → IsExtentAfter (change_of mutation) before now → before.present ≡ false → now.present ≡ true → brings (change_of mutation) ≡ true
comes-brought (Put c k v) before now after gone there = refl
comes-brought (Remove c k) before now after gone there = absurd (false≢true (sym gone ∙ sym after.presence ∙ there))
comes-brought (Ensure c) before now after gone there = refl
comes-brought (Truncate c) before now after gone there = absurd (false≢true (sym gone ∙ sym after.presence ∙ there))
comes-brought (Destroy c) before now after gone there = absurd (false≢true (sym (ap (λ b. cond b false before.present) (same-itself c)) ∙ sym after.presence ∙ there))
comes-brought (Batch c pairs) before now after gone there = refl

-- the names after a change, where each cache that was there has its number
names-changed : (mutation : Mutation) (before now : Extent) (names : List (List ℕ)) → IsExtentAfter (change_of mutation) before now → (before.present ≡ true → with_name names (cache_changed (change_of mutation)) ≡ names)
    → cond now.present (with_name names (cache_changed (change_of mutation))) names ≡ cond (brings (change_of mutation)) (with_name names (cache_changed (change_of mutation))) names
names-changed mutation before now names after known = by mutation after known
  where
    comes : (c : List ℕ) → now.present ≡ cond (same c c) true before.present → cond now.present (with_name names c) names ≡ with_name names c
    comes c presence = ap (λ b. cond b (with_name names c) names) (presence ∙ ap (λ b. cond b true before.present) (same-itself c))

    stays : (c : List ℕ) → now.present ≡ before.present → (before.present ≡ true → with_name names c ≡ names) → cond now.present (with_name names c) names ≡ names
    stays c presence is = ap (λ b. cond b (with_name names c) names) presence ∙ either before.present refl
      where
        either : (b : Bool) → before.present ≡ b → cond b (with_name names c) names ≡ names
        either true there = is there
        either false gone = refl

    by : (m : Mutation) → IsExtentAfter (change_of m) before now → (before.present ≡ true → with_name names (cache_changed (change_of m)) ≡ names) → cond now.present (with_name names (cache_changed (change_of m))) names ≡ cond (brings (change_of m)) (with_name names (cache_changed (change_of m))) names
    by (Put c k v) a is = comes c a.presence
    by (Remove c k) a is = stays c a.presence is
    by (Ensure c) a is = comes c a.presence
    by (Truncate c) a is = stays c a.presence is
    by (Destroy c) a is = ap (λ b. cond b (with_name names c) names) (a.presence ∙ ap (λ b. cond b false before.present) (same-itself c))
    by (Batch c pairs) a is = comes c a.presence

-- ---- the shift of a change

pub IsWritten-shift : (change : Change) (old mid : Extents) (shift : Shift) (s : IsShift change old mid shift) → IsWritten (cache_changed change) old mid s.now
IsWritten-shift change old mid shift s other = ap (lookup (same other)) s.entries ∙ IsWritten-set_value (cache_changed change) old s.before s.now s.was other

pub shift_presence : (change : Change) (old mid : Extents) (shift : Shift) → IsShift change old mid shift → shift.is_present ≡ presence_held (lookup (same shift.cache) mid)
shift_presence change old mid shift s =
    let name = cache_changed change in
    let found : lookup (same name) mid ≡ Some s.now = IsWritten-shift change old mid shift s name ∙ ap (λ b. cond b (Some s.now) (lookup (same name) old)) (same-itself name) in
    s.of.is_present ∙ sym (ap presence_held found) ∙ sym (ap (λ (n : List ℕ). presence_held (lookup (same n) mid)) s.of.cache)

pub shift_comes : (mutation : Mutation) (old mid : Extents) (shift : Shift) → IsShift (change_of mutation) old mid shift → shift.was_present ≡ false → shift.is_present ≡ true → brings (change_of mutation) ≡ true
shift_comes mutation old mid shift s gone there = comes-brought mutation s.before s.now s.of.after (sym s.of.was_present ∙ gone) (sym s.of.is_present ∙ there)

pub shift_marked : (change : Change) (old mid : Extents) (shift : Shift) (marks : Marks) → IsShift change old mid shift → AreMarked marks old → is_marked marks shift.cache ≡ shift.was_present
shift_marked change old mid shift marks s marked =
    marked shift.cache ∙ ap (λ (n : List ℕ). presence_held (lookup (same n) old)) s.of.cache ∙ ap presence_held s.was ∙ sym s.of.was_present

pub shift_names : (mutation : Mutation) (old mid : Extents) (shift : Shift) (marks : Marks) → IsShift (change_of mutation) old mid shift → AreMarked marks old
    → cond shift.is_present (with_name (keys_of marks) shift.cache) (keys_of marks) ≡ cond (brings (change_of mutation)) (with_name (keys_of marks) (cache_changed (change_of mutation))) (keys_of marks)
shift_names mutation old mid shift marks s marked =
    let names = keys_of marks in
    let name = cache_changed (change_of mutation) in
    ap (λ (n : List ℕ). cond shift.is_present (with_name names n) names) s.of.cache
    ∙ ap (λ b. cond b (with_name names name) names) s.of.is_present
    ∙ names-changed mutation s.before s.now names s.of.after (λ there. with_name-marked name marks (marked name ∙ ap presence_held s.was ∙ there))

pub shift_marks : (change : Change) (old mid new : Extents) (shift : Shift) (marks marks_now : Marks) → IsShift change old mid shift → IsLeftThere shift.cache mid new → AreRemarked shift.cache shift.is_present marks marks_now → AreMarked marks old → AreMarked marks_now new
shift_marks change old mid new shift marks marks_now s left remarked marked =
    AreMarked-changed (cache_changed change) marks marks_now old mid new s.now (IsWritten-shift change old mid shift s)
    (subst (λ (n : List ℕ). IsLeftThere n mid new) s.of.cache left)
    (λ other. remarked other ∙ ap (λ (n : List ℕ). cond (same n other) shift.is_present (is_marked marks other)) s.of.cache ∙ ap (λ b. cond (same (cache_changed change) other) b (is_marked marks other)) s.of.is_present)
    marked
