-- What one more call in the history does to what the disk tells.
use Rattle.std.proofs.Common.{◌≡◌, ◌≢◌, inl, inr, ⊎_elim, ℕ, ◌+◌, ◌-◌, ◌/◌, ◌≤◌, List, [], ◌∷◌, ◌++◌, length, take, drop, refl, sym, ◌∙◌, ap, subst, arith, length-append, length-take, Bool, if◌then◌else◌, ◌==◌}
use Rattle.std.specs.Prelude.{replicate}
use Rattle.std.proofs.lemmas.Bool.{cases_eq, cases_lt}
use Rattle.std.proofs.lemmas.Bool.Decides.{eqb_tells}
use Rattle.std.proofs.lemmas.List.{take_all, take-append-le, append-nil, length-replicate}
use Rattle.disk_trait.specs.View.{Image}
use Rattle.disk_trait.specs.Calls.{Torn, Shorn, Moved, TimePasses, written}
use Rattle.disk_memory.specs.DiskCall.{DiskCall, WriteCall, CutCall, SyncCall, RestartCall}
use Rattle.disk_memory.specs.Replay.{FileState, MayBeLeft, IsSound, laid, laid_if_any, picked_bytes, clean, after_write, after_cut, after_change, replay, file_after}
use Rattle.disk_memory.specs.MemoryView.{AfterChanges, AreSound, DiskCounts, memory_view, seen_by}
use Rattle.disk_memory.proofs.ReplayLemmas.{write_keeps, write_leaves, write_image, cut_keeps, cut_leaves, cut_image, clean_image, clean_only}

-- a choice by two numbers
pub if_same : {A : Type 0} (a b : ℕ) (x y : A) → a ≡ b → (if a == b then x else y) ≡ x
if_same a b x y e = ⊎_elim (λ yes. ap (λ (t : Bool). if t then x else y) yes.0) (λ no. absurd (no.1 e)) (eqb_tells a b)

pub if_other : {A : Type 0} (a b : ℕ) (x y : A) → a ≢ b → (if a == b then x else y) ≡ y
if_other a b x y ne = ⊎_elim (λ yes. absurd (ne yes.1)) (λ no. ap (λ (t : Bool). if t then x else y) no.0) (eqb_tells a b)

pub by_choice : {A : Type 0} (P : A → Type 0) (a b : ℕ) (x y : A) → (a ≡ b → P x) → (a ≢ b → P y) → P (if a == b then x else y)
by_choice P a b x y first second = ⊎_elim (λ e. subst P (sym (if_same a b x y e)) (first e)) (λ ne. subst P (sym (if_other a b x y ne)) (second ne)) (cases_eq a b)

-- nothing of a write, or what is laid down
pub by_bytes : (P : List ℕ → Type 0) (bytes : List ℕ) (at : ℕ) (more : List ℕ) → P bytes → P (laid bytes at more) → P (laid_if_any bytes at more)
by_bytes P bytes at [] none some = none
by_bytes P bytes at (byte ∷ more) none some = some

-- ---- every history is sound

pub picked_short : (pick : ℕ) (bytes : List ℕ) → length (picked_bytes pick bytes) ≤ length bytes
picked_short pick bytes =
    by_choice (λ (l : List ℕ). length l ≤ length bytes) pick 1 bytes (if pick == 2 then replicate (length bytes) 255 else take (length bytes / 2) bytes)
    (λ e. omega arith)
    (λ ne. by_choice (λ (l : List ℕ). length l ≤ length bytes) pick 2 (replicate (length bytes) 255) (take (length bytes / 2) bytes)
    (λ e. omega (arith, length-replicate {A = ℕ} (length bytes) 255))
    (λ ne'. omega (arith, length-take (length bytes / 2) bytes)))

clean_sound : (bytes : List ℕ) → IsSound (clean bytes)
clean_sound bytes = record { seen = clean_image bytes; left = clean_image bytes }

write_sound : (pick at : ℕ) (bytes : List ℕ) (state : FileState) → IsSound state → IsSound (after_write pick at bytes state)
write_sound pick at bytes state sound =
    let P : List ℕ → Type 0 = λ l. MayBeLeft (after_write pick at bytes state) l in
    let part = picked_bytes pick bytes in
    record {
      seen = write_keeps state pick at bytes state.seen bytes sound.seen (omega arith);
      left = by_choice P pick 0 state.left (laid_if_any state.left at part)
          (λ zero. write_leaves state pick at bytes state.left sound.left)
          (λ more. by_bytes P state.left at part (write_leaves state pick at bytes state.left sound.left) (write_keeps state pick at bytes state.left part sound.left (picked_short pick bytes)));
    }

cut_sound : (pick to : ℕ) (state : FileState) → IsSound state → IsSound (after_cut pick to state)
cut_sound pick to state sound = record {
  seen = cut_keeps state pick to sound.seen state.seen sound.seen;
  left = by_choice (λ (l : List ℕ). MayBeLeft (after_cut pick to state) l) pick 0 state.left (take to state.left)
      (λ zero. cut_leaves state pick to sound.seen state.left sound.left)
      (λ more. cut_keeps state pick to sound.seen state.left sound.left);
}

change_sound : (pick f : ℕ) (state : FileState) (change : DiskCall) → IsSound state → IsSound (after_change pick f state change)
change_sound pick f state (WriteCall file at bytes) sound = by_choice IsSound file f (after_write pick at bytes state) state (λ e. write_sound pick at bytes state sound) (λ ne. sound)
change_sound pick f state (CutCall file to) sound = by_choice IsSound file f (after_cut pick to state) state (λ e. cut_sound pick to state sound) (λ ne. sound)
change_sound pick f state (SyncCall file) sound = by_choice IsSound file f (clean state.seen) state (λ e. clean_sound state.seen) (λ ne. sound)
change_sound pick f state RestartCall sound = clean_sound state.left

replay_sound : (pick f : ℕ) (state : FileState) (changes : List DiskCall) → IsSound state → IsSound (replay pick f state changes)
replay_sound pick f state [] sound = sound
replay_sound pick f state (change ∷ changes) sound = replay_sound pick f (after_change pick f state change) changes (change_sound pick f state change sound)

pub always_sound : (pick : ℕ) (changes : List DiskCall) → AreSound pick changes
always_sound pick changes f = replay_sound pick f (clean []) changes (clean_sound [])

pub seen_is_image : (pick : ℕ) (changes : List DiskCall) → AfterChanges pick changes (seen_by pick changes)
seen_is_image pick changes f = (always_sound pick changes f).seen

-- ---- one call more

replay-push : (pick f : ℕ) (state : FileState) (changes : List DiskCall) (change : DiskCall) → replay pick f state (changes ++ change ∷ []) ≡ after_change pick f (replay pick f state changes) change
replay-push pick f state [] change = refl
replay-push pick f state (c ∷ changes) change = replay-push pick f (after_change pick f state c) changes change

module _ (pick : ℕ) (changes later : List DiskCall) (change : DiskCall) (is : later ≡ changes ++ change ∷ []) where
  pub pushed : (f : ℕ) → file_after pick later f ≡ after_change pick f (file_after pick changes f) change
  pushed f = ap (λ (l : List DiskCall). file_after pick l f) is ∙ replay-push pick f (clean []) changes change

  one_longer : length later ≡ length changes + 1
  one_longer = ap length is ∙ length-append changes (change ∷ [])

  prefix_same : (k : ℕ) → k ≤ length changes → take k later ≡ take k changes
  prefix_same k le = ap (λ (l : List DiskCall). take k l) is ∙ take-append-le k changes (change ∷ []) le

  pub passes : (n n' : DiskCounts) (s : AfterChanges pick changes (seen_by pick changes)) (s' : AfterChanges pick later (seen_by pick later)) → TimePasses (memory_view pick changes n s) (memory_view pick later n' s')
  passes n n' s s' = record {
    later = omega (arith, one_longer);
    recent = λ t m le since. ⊎_elim
        (λ old. inl (record { moment = since.moment; from = since.from; within = omega (arith, one_longer); image = subst (λ (l : List DiskCall). AfterChanges pick l m) (prefix_same since.moment (omega (arith, one_longer))) since.image }))
        (λ new. inr (subst (λ (l : List DiskCall). AfterChanges pick l m) (take_all since.moment later (omega (arith, one_longer))) since.image))
        (cases_lt since.moment (length later));
    kept = λ t m le since. record { moment = since.moment; from = since.from; within = omega (arith, since.within, one_longer); image = subst (λ (l : List DiskCall). AfterChanges pick l m) (sym (prefix_same since.moment since.within)) since.image };
  }

pub passes_none : (pick : ℕ) (changes : List DiskCall) (n n' : DiskCounts) (s s' : AfterChanges pick changes (seen_by pick changes)) → TimePasses (memory_view pick changes n s) (memory_view pick changes n' s')
passes_none pick changes n n' s s' = record { later = omega arith; recent = λ t m le since. inl since; kept = λ t m le since. since }

-- ---- one file changes

-- the image with other bytes in one file
abbrev put : Image → ℕ → List ℕ → Image
put m file bytes f = if f == file then bytes else m f

module _ (pick file : ℕ) (old new : ℕ → FileState) (others : (f : ℕ) → f ≢ file → new f ≡ old f) (step : List ℕ → List ℕ → Type 0)
    (here : (bytes : List ℕ) → MayBeLeft (new file) bytes → (o : List ℕ) × MayBeLeft (old file) o × step o bytes) where
  one_file : (n : Image) → ((f : ℕ) → MayBeLeft (new f) (n f)) → (o : Image) × ((f : ℕ) → MayBeLeft (old f) (o f)) × Moved file step o n
  one_file n is =
      let from = here (n file) (is file) in
      let o = put n file from.0 in
      let same : o file ≡ from.0 = if_same file file from.0 (n file) refl in (
        o,
        λ f. ⊎_elim
            (λ e. subst (λ (k : ℕ). MayBeLeft (old k) (o k)) (sym e) (subst (λ (l : List ℕ). MayBeLeft (old file) l) (sym same) from.1))
            (λ ne. subst (λ (l : List ℕ). MayBeLeft (old f) l) (sym (if_other f file from.0 (n f) ne)) (subst (λ (h : FileState). MayBeLeft h (n f)) (others f ne) (is f)))
            (cases_eq f file),
        record {
          here = subst (λ (l : List ℕ). step l (n file)) (sym same) from.2;
          others = λ f ne. sym (if_other f file from.0 (n f) ne);
        },
      )

-- what a stop may leave of the other files it may still leave
pub others_left : (pick file : ℕ) (changes later : List DiskCall) → ((f : ℕ) → f ≢ file → file_after pick later f ≡ file_after pick changes f)
    → (m : Image) → AfterChanges pick changes m → (n : Image) × AfterChanges pick later n × ((f : ℕ) → f ≢ file → n f ≡ m f)
others_left pick file changes later others m is =
    let seen = seen_by pick later file in
    let n : Image = put m file seen in (
      n,
      λ f. ⊎_elim
          (λ e. subst (λ (k : ℕ). MayBeLeft (file_after pick later k) (n k)) (sym e) (subst (λ (l : List ℕ). MayBeLeft (file_after pick later file) l) (sym (if_same file file seen (m file) refl)) (always_sound pick later file).seen))
          (λ ne. subst (λ (l : List ℕ). MayBeLeft (file_after pick later f) l) (sym (if_other f file seen (m f) ne)) (subst (λ (h : FileState). MayBeLeft h (m f)) (sym (others f ne)) (is f)))
          (cases_eq f file),
      λ f ne. if_other f file seen (m f) ne,
    )

-- ---- a write

pub laid_within : (bytes : List ℕ) (at : ℕ) (more : List ℕ) → at ≤ length bytes → laid bytes at more ≡ written bytes at more
laid_within bytes at more le =
    let none : at - length bytes ≡ 0 = omega arith in
    let rest = drop (at + length more) bytes in
    ap (λ (k : ℕ). take at bytes ++ replicate k 0 ++ more ++ rest) none ∙ ap (λ (l : List ℕ). l ++ more ++ rest) (append-nil (take at bytes))

module _ (pick : ℕ) (changes later : List DiskCall) (file at : ℕ) (bytes : List ℕ) (is : later ≡ changes ++ WriteCall file at bytes ∷ []) where
  pub written_here : file_after pick later file ≡ after_write pick at bytes (file_after pick changes file)
  written_here = pushed pick changes later (WriteCall file at bytes) is file ∙ if_same file file _ _ refl

  pub write_others : (f : ℕ) → f ≢ file → file_after pick later f ≡ file_after pick changes f
  write_others f ne = pushed pick changes later (WriteCall file at bytes) is f ∙ if_other file f _ _ (λ e. ne (sym e))

  pub write_seen_others : (f : ℕ) → f ≢ file → seen_by pick later f ≡ seen_by pick changes f
  write_seen_others f ne = ap (λ (h : FileState). h.seen) (write_others f ne)

  pub write_follows : at ≤ length (seen_by pick changes file) → (n : Image) → AfterChanges pick later n → (o : Image) × AfterChanges pick changes o × Moved file (Torn at (length bytes)) o n
  write_follows offset = one_file pick file (file_after pick changes) (file_after pick later) write_others (Torn at (length bytes))
      (λ b image. write_image (file_after pick changes file) pick at bytes (always_sound pick changes file).seen offset b (subst (λ (h : FileState). MayBeLeft h b) written_here image))

  pub write_seen : at ≤ length (seen_by pick changes file) → seen_by pick later file ≡ written (seen_by pick changes file) at bytes
  write_seen offset = ap (λ (h : FileState). h.seen) written_here ∙ laid_within (file_after pick changes file).seen at bytes offset

-- ---- a cut

module _ (pick : ℕ) (changes later : List DiskCall) (file to : ℕ) (is : later ≡ changes ++ CutCall file to ∷ []) where
  pub cut_here : file_after pick later file ≡ after_cut pick to (file_after pick changes file)
  cut_here = pushed pick changes later (CutCall file to) is file ∙ if_same file file _ _ refl

  pub cut_others : (f : ℕ) → f ≢ file → file_after pick later f ≡ file_after pick changes f
  cut_others f ne = pushed pick changes later (CutCall file to) is f ∙ if_other file f _ _ (λ e. ne (sym e))

  pub cut_seen_others : (f : ℕ) → f ≢ file → seen_by pick later f ≡ seen_by pick changes f
  cut_seen_others f ne = ap (λ (h : FileState). h.seen) (cut_others f ne)

  pub cut_follows : (n : Image) → AfterChanges pick later n → (o : Image) × AfterChanges pick changes o × Moved file (Shorn to) o n
  cut_follows = one_file pick file (file_after pick changes) (file_after pick later) cut_others (Shorn to)
      (λ b image. cut_image (file_after pick changes file) pick to (always_sound pick changes file).seen b (subst (λ (h : FileState). MayBeLeft h b) cut_here image))

  pub cut_seen : seen_by pick later file ≡ take to (seen_by pick changes file)
  cut_seen = ap (λ (h : FileState). h.seen) cut_here

-- ---- a sync

module _ (pick : ℕ) (changes later : List DiskCall) (file : ℕ) (is : later ≡ changes ++ SyncCall file ∷ []) where
  pub sync_here : file_after pick later file ≡ clean (file_after pick changes file).seen
  sync_here = pushed pick changes later (SyncCall file) is file ∙ if_same file file _ _ refl

  pub sync_others : (f : ℕ) → f ≢ file → file_after pick later f ≡ file_after pick changes f
  sync_others f ne = pushed pick changes later (SyncCall file) is f ∙ if_other file f _ _ (λ e. ne (sym e))

  pub sync_seen : (f : ℕ) → seen_by pick later f ≡ seen_by pick changes f
  sync_seen f = ⊎_elim
      (λ e. subst (λ (k : ℕ). (file_after pick later k).seen ≡ (file_after pick changes k).seen) (sym e) (ap (λ (h : FileState). h.seen) sync_here))
      (λ ne. ap (λ (h : FileState). h.seen) (sync_others f ne))
      (cases_eq f file)

  pub sync_durable : (m : Image) → AfterChanges pick later m → m file ≡ seen_by pick changes file
  sync_durable m image = clean_only _ (m file) (subst (λ (h : FileState). MayBeLeft h (m file)) sync_here (image file))

  pub sync_fewer : (m : Image) → AfterChanges pick later m → AfterChanges pick changes m
  sync_fewer m image f = ⊎_elim
      (λ e. subst (λ (k : ℕ). MayBeLeft (file_after pick changes k) (m k)) (sym e) (subst (λ (l : List ℕ). MayBeLeft (file_after pick changes file) l) (sym (sync_durable m image)) (always_sound pick changes file).seen))
      (λ ne. subst (λ (h : FileState). MayBeLeft h (m f)) (sync_others f ne) (image f))
      (cases_eq f file)

-- ---- a restart

module _ (pick : ℕ) (changes later : List DiskCall) (is : later ≡ changes ++ RestartCall ∷ []) where
  pub restart_here : (f : ℕ) → file_after pick later f ≡ clean (file_after pick changes f).left
  restart_here f = pushed pick changes later RestartCall is f

  pub restart_fewer : (m : Image) → AfterChanges pick later m → AfterChanges pick changes m
  restart_fewer m image f =
      let left : m f ≡ (file_after pick changes f).left = clean_only _ (m f) (subst (λ (h : FileState). MayBeLeft h (m f)) (restart_here f) (image f)) in
      subst (λ (l : List ℕ). MayBeLeft (file_after pick changes f) l) (sym left) (always_sound pick changes f).left

  pub restart_durable : (m : Image) → AfterChanges pick later m → (f : ℕ) → m f ≡ seen_by pick later f
  restart_durable m image f =
      clean_only _ (m f) (subst (λ (h : FileState). MayBeLeft h (m f)) (restart_here f) (image f)) ∙ sym (ap (λ (h : FileState). h.seen) (restart_here f))
