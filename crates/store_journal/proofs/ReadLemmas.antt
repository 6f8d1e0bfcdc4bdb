-- A file that is read piece after piece.
use Rattle.std.proofs.Common.{◌≡◌, ℕ, ◌+◌, ◌-◌, ◌≤◌, List, ◌++◌, length, take, drop, min, Result, Ok, Err, IfOk, sym, ◌∙◌, ap, subst, arith, length-take, length-drop}
use Rattle.std.proofs.lemmas.List.{take_at, drop_at, take_all, take-append-le}
use borrow.Rule.Slice.PartMut.{put_mid, post_of}
use Rattle.disk_trait.specs.View.{View, Tells}
use Rattle.disk_trait.specs.Calls.{Same, Cause, Rose, TimePasses}
use Rattle.disk_trait.specs.Moments.{Throughout}
use Rattle.disk_trait.specs.declared.DiskRefusal.{DiskRefusal}
use Rattle.disk_trait.specs.declared.DiskRefusal.TheVariants as refusals
use Rattle.disk_trait.proofs.Runs.{same_twice, same_joined, onward_joined, called_fewer}
use Rattle.record_form.proofs.HeaderLemmas.{take_on}
use Rattle.store_journal.specs.Loading.{OnlyReads, IsReadFault, load_fault}
use Rattle.store_journal.specs.declared.fault.LoadFault.{LoadFault}
use Rattle.store_journal.specs.declared.fault.LoadFault.TheVariants.{NoMemory}

piece_read : (xs ys seen : List ℕ) (a k n : ℕ) → a ≤ length xs → n ≤ length seen - a → take a xs ≡ take a seen → take n ys ≡ take n (drop a seen) → take (a + n) (put_mid a k xs ys) ≡ take (a + n) seen
piece_read xs ys seen a k n there within prefix piece =
    let rest = ys ++ post_of a k xs in
    let long : length (take a xs) ≡ a = omega (arith, length-take a xs, there) in
    let enough : n ≤ length ys = omega (arith, ap length piece, length-take n ys, length-take n (drop a seen), length-drop a seen, within) in
    take_on (take a xs ++ rest) a n
    ∙ (λ i. take_at (take a xs) rest a long i ++ take n (drop_at (take a xs) rest a long i))
    ∙ (λ i. prefix i ++ take-append-le n ys (post_of a k xs) enough i)
    ∙ ap (λ (l : List ℕ). take a seen ++ l) piece
    ∙ sym (take_on seen a n)

abbrev pub PieceTold : Result ℕ DiskRefusal → Type 0 → List ℕ → ℕ → ℕ → List ℕ → List ℕ → Type 0
PieceTold r T seen a k xs ys = IfOk r (λ n. T → take a xs ≡ take a seen → take (a + n) (put_mid a k xs ys) ≡ take (a + n) seen)

pub piece_told : (T : Type 0) (r : Result ℕ DiskRefusal) (xs ys seen : List ℕ) (a k most : ℕ) → a ≤ length xs → IfOk r (λ n. T → n ≡ min most (length seen - a)) → IfOk r (λ n. T → take n ys ≡ take n (drop a seen))
    → PieceTold r T seen a k xs ys
piece_told T (Ok n) xs ys seen a k most there count bytes = λ tells prefix. piece_read xs ys seen a k n there (omega (arith, count tells)) prefix (bytes tells)
piece_told T (Err refusal) xs ys seen a k most there count bytes = tt

-- nothing is written: by a call, and by calls in a row
pub reads_call : {T : Type 0} (a b : View) (r : Result T DiskRefusal) → Same a b → Throughout a b a.images → Cause a b r → OnlyReads a b
reads_call a b r same moments cause = record {
  same = same;
  moments = moments;
  onward = record { faults = cause.later; restarts = cause.restarts; spares = cause.spares; tells = λ tells. subst b.images (λ i f. sym (same.seen f) i) (same.no_fewer a.seen tells) };
}

pub reads_one : {T : Type 0} (a b : View) (r : Result T DiskRefusal) → Same a b → TimePasses a b → Cause a b r → OnlyReads a b
reads_one a b r same time cause = reads_call a b r same (called_fewer a b time same.fewer) cause

pub reads_on : {T : Type 0} (a b c : View) (r : Result T DiskRefusal) → OnlyReads a b → Same b c → Throughout b c b.images → Cause b c r → OnlyReads a c
reads_on a b c r first same moments cause =
    let second = reads_call b c r same moments cause in
    record {
      same = same_joined a b c first.same second.same;
      moments = same_twice a b c first.moments second.moments;
      onward = onward_joined a b c first.onward second.onward;
    }

-- why a read was refused
pub read_fails : {T : Type 0} (a b : View) (r : Result T DiskRefusal) (refusal : DiskRefusal) (fault : LoadFault) → Cause a b r → r ≡ Err refusal → fault ≡ load_fault refusal → IsReadFault a b fault
read_fails a b r refusals.Failed fault cause is same = subst (IsReadFault a b) (sym same) (cause.failed is)
read_fails a b r refusals.NoMemory fault cause is same = subst (IsReadFault a b) (sym same) tt

pub later_fails : {T : Type 0} (a b c : View) (r : Result T DiskRefusal) (refusal : DiskRefusal) (fault : LoadFault) → OnlyReads a b → Cause b c r → r ≡ Err refusal → fault ≡ load_fault refusal → IsReadFault a c fault
later_fails a b c r refusals.Failed fault so_far cause is same =
    let rose : Rose a.faults c.faults = λ below. let more = cause.failed is below in omega (arith, so_far.onward.faults, more) in
    subst (IsReadFault a c) (sym same) rose
later_fails a b c r refusals.NoMemory fault so_far cause is same = subst (IsReadFault a c) (sym same) tt

pub memory_fails : (a b : View) (fault : LoadFault) → fault ≡ NoMemory → IsReadFault a b fault
memory_fails a b fault same = subst (IsReadFault a b) (sym same) tt

-- a piece more has been read
pub piece_more : (a b : View) (file p q : ℕ) (old new : List ℕ) → OnlyReads a b → (Tells a → take p old ≡ take p (a.seen file)) → (Tells b → take p old ≡ take p (b.seen file) → take q new ≡ take q (b.seen file))
    → Tells a → take q new ≡ take q (a.seen file)
piece_more a b file p q old new so_far before more tells =
    let seen : b.seen file ≡ a.seen file = so_far.same.seen file in
    more (so_far.onward.tells tells) (before tells ∙ ap (take p) (sym seen)) ∙ ap (take q) seen

-- all of it
pub all_read : (a : View) (file p : ℕ) (n : ℕ) (bytes : List ℕ) → (Tells a → n ≡ length (a.seen file)) → length bytes ≡ n → n ≤ p → (Tells a → take p bytes ≡ take p (a.seen file)) → Tells a → bytes ≡ a.seen file
all_read a file p n bytes size long end so_far tells =
    sym (take_all p bytes (omega (arith, long, end))) ∙ so_far tells ∙ take_all p (a.seen file) (omega (arith, size tells, end))

-- a piece of no byte comes only from a disk that doesn't tell
pub none_told : (a b : View) (file n count : ℕ) (bytes : List ℕ) → OnlyReads a b → (Tells a → n ≡ length (a.seen file)) → length bytes ≡ n → (Tells b → length bytes ≡ length (b.seen file) → 1 ≤ count) → count ≡ 0 → Tells a → ⊥
none_told a b file n count bytes so_far size long some none tells =
    let seen : length (b.seen file) ≡ length (a.seen file) = ap length (so_far.same.seen file) in
    let least = some (so_far.onward.tells tells) (omega (arith, long, size tells, seen)) in
    omega (arith, least, none)
