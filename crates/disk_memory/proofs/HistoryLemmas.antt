-- What a call of the disk does to what it tells, in terms of its histories before and after.
use Rattle.std.proofs.Common.{◌≡◌, ◌≢◌, inl, inr, ⊎_elim, ℕ, ◌≤◌, List, [], ◌∷◌, ◌++◌, length, take, refl, sym, ◌∙◌, ap, subst, arith, Result, Ok, Err, Bool, true, false, if◌then◌else◌}
use Rattle.fault_count.specs.OneMore.{one_more_than}
use Rattle.disk_trait.specs.View.{Image}
use Rattle.disk_trait.specs.Calls.{Torn, Shorn, Moved, TimePasses, Cause, written}
use Rattle.disk_trait.specs.declared.DiskRefusal.{DiskRefusal}
use Rattle.disk_trait.specs.declared.DiskRefusal.TheVariants.{Failed}
use Rattle.disk_memory.specs.DiskCall.{DiskCall, WriteCall, CutCall, SyncCall, RestartCall}
use Rattle.disk_memory.specs.Replay.{FileState, file_after}
use Rattle.disk_memory.specs.MemoryView.{AfterChanges, Since, DiskCounts, memory_view, seen_by, taken_by}
use Rattle.disk_memory.specs.Restarts.{Restarts}
use Rattle.disk_memory.proofs.MemoryViewLemmas.{seen_is_image, others_left, write_others, cut_others, sync_others, passes, write_seen, write_seen_others, write_follows, cut_seen, cut_seen_others, cut_follows, sync_seen, sync_durable, sync_fewer, restart_here, restart_fewer, restart_durable}

-- the pick is the same, in other words
module _ (pick pick' : ℕ) (same : pick' ≡ pick) (changes later : List DiskCall) where
  image_as : (m : Image) → AfterChanges pick' later m → AfterChanges pick later m
  image_as m is = subst (λ (k : ℕ). AfterChanges k later m) same is

  seen_as : (f : ℕ) → seen_by pick' later f ≡ seen_by pick later f
  seen_as f = ap (λ (k : ℕ). seen_by k later f) same

  module _ (n n' : DiskCounts) (s : AfterChanges pick changes (seen_by pick changes)) (s' : AfterChanges pick' later (seen_by pick' later)) where
    passes_as : TimePasses (memory_view pick changes n s) (memory_view pick later n' (seen_is_image pick later)) → TimePasses (memory_view pick changes n s) (memory_view pick' later n' s')
    passes_as time = record {
      later = time.later;
      recent = λ t m le since. ⊎_elim inl (λ now. inr (subst (λ (k : ℕ). AfterChanges k later m) (sym same) now)) (time.recent t m le (subst (λ (k : ℕ). Since k later t m) same since));
      kept = λ t m le since. subst (λ (k : ℕ). Since k later t m) (sym same) (time.kept t m le since);
    }

    pub goes_on : (change : DiskCall) → later ≡ changes ++ change ∷ [] → TimePasses (memory_view pick changes n s) (memory_view pick' later n' s')
    goes_on change is = passes_as (passes pick changes later change is n n' s (seen_is_image pick later))

  pub cut_images : (file to : ℕ) → later ≡ changes ++ CutCall file to ∷ [] → (n : Image) → AfterChanges pick' later n → (o : Image) × AfterChanges pick changes o × Moved file (Shorn to) o n
  cut_images file to is n image = cut_follows pick changes later file to is n (image_as n image)

  pub cut_reads : (file to : ℕ) → later ≡ changes ++ CutCall file to ∷ [] → seen_by pick' later file ≡ take to (seen_by pick changes file)
  cut_reads file to is = seen_as file ∙ cut_seen pick changes later file to is

  pub cut_others_read : (file to : ℕ) → later ≡ changes ++ CutCall file to ∷ [] → (f : ℕ) → f ≢ file → seen_by pick' later f ≡ seen_by pick changes f
  cut_others_read file to is f ne = seen_as f ∙ cut_seen_others pick changes later file to is f ne

  pub write_images : (file at : ℕ) (bytes : List ℕ) → later ≡ changes ++ WriteCall file at bytes ∷ [] → at ≤ length (seen_by pick changes file)
      → (n : Image) → AfterChanges pick' later n → (o : Image) × AfterChanges pick changes o × Moved file (Torn at (length bytes)) o n
  write_images file at bytes is offset n image = write_follows pick changes later file at bytes is offset n (image_as n image)

  pub write_reads : (file at : ℕ) (bytes : List ℕ) → later ≡ changes ++ WriteCall file at bytes ∷ [] → at ≤ length (seen_by pick changes file) → seen_by pick' later file ≡ written (seen_by pick changes file) at bytes
  write_reads file at bytes is offset = seen_as file ∙ write_seen pick changes later file at bytes is offset

  pub write_others_read : (file at : ℕ) (bytes : List ℕ) → later ≡ changes ++ WriteCall file at bytes ∷ [] → (f : ℕ) → f ≢ file → seen_by pick' later f ≡ seen_by pick changes f
  write_others_read file at bytes is f ne = seen_as f ∙ write_seen_others pick changes later file at bytes is f ne

  -- of the other files a stop may leave what it might have left before
  others_as : (file : ℕ) → ((f : ℕ) → f ≢ file → file_after pick later f ≡ file_after pick changes f)
      → (m : Image) → AfterChanges pick changes m → (n : Image) × AfterChanges pick' later n × ((f : ℕ) → f ≢ file → n f ≡ m f)
  others_as file others m is =
      let left = others_left pick file changes later others m is in
      (left.0, subst (λ (k : ℕ). AfterChanges k later left.0) (sym same) left.1, left.2)

  pub write_keeps_others : (file at : ℕ) (bytes : List ℕ) → later ≡ changes ++ WriteCall file at bytes ∷ []
      → (m : Image) → AfterChanges pick changes m → (n : Image) × AfterChanges pick' later n × ((f : ℕ) → f ≢ file → n f ≡ m f)
  write_keeps_others file at bytes is = others_as file (write_others pick changes later file at bytes is)

  pub cut_keeps_others : (file to : ℕ) → later ≡ changes ++ CutCall file to ∷ []
      → (m : Image) → AfterChanges pick changes m → (n : Image) × AfterChanges pick' later n × ((f : ℕ) → f ≢ file → n f ≡ m f)
  cut_keeps_others file to is = others_as file (cut_others pick changes later file to is)

  pub sync_keeps_others : (file : ℕ) → later ≡ changes ++ SyncCall file ∷ []
      → (m : Image) → AfterChanges pick changes m → (n : Image) × AfterChanges pick' later n × ((f : ℕ) → f ≢ file → n f ≡ m f)
  sync_keeps_others file is = others_as file (sync_others pick changes later file is)

  pub unchanged_others : (file : ℕ) → later ≡ changes
      → (m : Image) → AfterChanges pick changes m → (n : Image) × AfterChanges pick' later n × ((f : ℕ) → f ≢ file → n f ≡ m f)
  unchanged_others file is = others_as file (λ f ne. ap (λ (l : List DiskCall). file_after pick l f) is)

  pub unchanged_images : (file : ℕ) (step : List ℕ → List ℕ → Type 0) → ((bytes : List ℕ) → step bytes bytes) → later ≡ changes
      → (n : Image) → AfterChanges pick' later n → (o : Image) × AfterChanges pick changes o × Moved file step o n
  unchanged_images file step none is n image =
      (n, subst (λ (l : List DiskCall). AfterChanges pick l n) is (image_as n image), record { here = none (n file); others = λ f ne. refl })

  pub synced_reads : (file : ℕ) → later ≡ changes ++ SyncCall file ∷ [] → (f : ℕ) → seen_by pick' later f ≡ seen_by pick changes f
  synced_reads file is f = seen_as f ∙ sync_seen pick changes later file is f

  pub synced_durable : (file : ℕ) → later ≡ changes ++ SyncCall file ∷ [] → (m : Image) → AfterChanges pick' later m → m file ≡ seen_by pick changes file
  synced_durable file is m image = sync_durable pick changes later file is m (image_as m image)

  pub synced_fewer : (file : ℕ) → later ≡ changes ++ SyncCall file ∷ [] → (m : Image) → AfterChanges pick' later m → AfterChanges pick changes m
  synced_fewer file is m image = sync_fewer pick changes later file is m (image_as m image)

  -- ---- a restart

  module _ (is : Restarts changes later) where
    pub restarted_fewer : (m : Image) → AfterChanges pick' later m → AfterChanges pick changes m
    restarted_fewer m image = ⊎_elim
        (λ e. subst (λ (l : List DiskCall). AfterChanges pick l m) (sym e) (restart_fewer pick is.before later is.now m (image_as m image)))
        (λ e. subst (λ (l : List DiskCall). AfterChanges pick l m) (sym e) (image_as m image))
        is.was

    pub restarted_durable : (m : Image) → AfterChanges pick' later m → (f : ℕ) → m f ≡ seen_by pick' later f
    restarted_durable m image f = restart_durable pick is.before later is.now m (image_as m image) f ∙ sym (seen_as f)

    pub restarted_reads : (f : ℕ) → seen_by pick' later f ≡ taken_by pick changes f
    restarted_reads f =
        let here = restart_here pick is.before later is.now f in
        seen_as f ∙ ap (λ (h : FileState). h.seen) here ∙ ⊎_elim
        (λ e. ap (λ (l : List DiskCall). taken_by pick l f) (sym e))
        (λ e. sym (ap (λ (l : List DiskCall). taken_by pick l f) e ∙ ap (λ (h : FileState). h.left) here))
        is.was

    pub restarted_time : (n n' : DiskCounts) (s : AfterChanges pick changes (seen_by pick changes)) (s' : AfterChanges pick' later (seen_by pick' later)) → TimePasses (memory_view pick changes n s) (memory_view pick' later n' s')
    restarted_time n n' s s' = passes_as n n' s s' (⊎_elim
        (λ e. passes pick changes later RestartCall (is.now ∙ ap (λ (l : List DiskCall). l ++ RestartCall ∷ []) (sym e)) n n' s (seen_is_image pick later))
        (λ e. record {
          later = omega (arith, ap length e);
          recent = λ t m le since. inl (subst (λ (l : List DiskCall). Since pick l t m) (sym e) since);
          kept = λ t m le since. subst (λ (l : List DiskCall). Since pick l t m) e since;
        })
        is.was)

-- the count has risen where the call failed
pub answered_cause : (pick pick' : ℕ) (changes later : List DiskCall) (s : AfterChanges pick changes (seen_by pick changes)) (s' : AfterChanges pick' later (seen_by pick' later))
    (n n' restarts : ℕ) (fails : Bool) (r : Result (Unit {0}) DiskRefusal) → n' ≡ (if fails then one_more_than n else n) → r ≡ (if fails then Err Failed else Ok tt)
    → Cause (memory_view pick changes (record { faults = n; restarts = restarts }) s) (memory_view pick' later (record { faults = n'; restarts = restarts }) s') r
answered_cause pick pick' changes later s s' n n' restarts true r count answer =
    record { later = omega arith; failed = λ e lt. omega arith; kept = λ not. absurd (not answer); spares = λ none. none; no_memory = λ e none. none; restarts = refl }
answered_cause pick pick' changes later s s' n n' restarts false r count answer =
    record { later = omega arith; failed = λ e. cc; kept = λ not. count; spares = λ none. none; no_memory = λ e none. none; restarts = refl }
