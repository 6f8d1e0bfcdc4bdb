-- How the plain bytes of a file go on from call to call.
use Rattle.std.proofs.Common.{◌≡◌, ◌≢◌, ◌⊎◌, inl, inr, ⊎_elim, ℕ, ◌+◌, ◌-◌, ◌<◌, ◌≤◌, min, max, List, [], ◌∷◌, ◌++◌, length, take, drop, set, map, get_or, refl, sym, ◌∙◌, ap, subst, arith, length-append, length-take, length-drop, Result, Ok, Err, OnOk, OnErr, Bool, true, false, if◌then◌else◌, ◌==◌}
use Rattle.std.specs.Prelude.{replicate}
use Rattle.std.proofs.lemmas.Bool.{cases_eq, cases_lt}
use Rattle.std.proofs.lemmas.List.{ext_get_or, get_or-take, get_or-drop, get_or_past, get_or_append_left, get_or-append_right, get_or-replicate, length-replicate, append-nil, take_all, drop_all, get_or-set_same, get_or-set_other, get_or_push, length-set}
use Rattle.disk_trait.specs.Calls.{written}
use Rattle.disk_memory.specs.Replay.{FileState, laid, laid_if_any, picked_bytes, clean, after_write, after_cut, file_after}
use Rattle.disk_memory.specs.DiskCall.{DiskCall, WriteCall, CutCall, SyncCall, RestartCall}
use Rattle.disk_memory.specs.MemoryView.{seen_by}
use Rattle.disk_memory.specs.Logged.{call_of, recorded, logged}
use Rattle.disk_memory.specs.declared.log.Log.{Log}
use Rattle.disk_memory.proofs.LoggedLemmas.{logged_restarted}
use Rattle.disk_memory.specs.declared.file.FileBytes.{FileBytes}
use Rattle.disk_memory.specs.Mirrored.{Agrees, Mirrors, AllMirror, visible}
use Rattle.disk_memory.proofs.LaidLemmas.{length-laid, laid_before, laid_here, laid_after}
use Rattle.disk_memory.proofs.MemoryViewLemmas.{by_bytes, by_choice, laid_within, picked_short, written_here, write_others, cut_here, cut_others, sync_here, sync_others, restart_here}

-- ---- zeros after a list

padded : (bytes : List ℕ) (k i : ℕ) → get_or (bytes ++ replicate k 0) i 0 ≡ get_or bytes i 0
padded bytes k i = ⊎_elim
    (λ lt. get_or_append_left bytes (replicate k 0) 0 i lt)
    (λ past. get_or-append_right bytes (replicate k 0) (length bytes) i 0 refl past
    ∙ ⊎_elim (λ lt. get_or-replicate k (i - length bytes) 0 0 lt) (λ le. get_or_past (replicate k 0) (i - length bytes) 0 (omega (arith, length-replicate {A = ℕ} k 0))) (cases_lt (i - length bytes) k)
    ∙ sym (get_or_past bytes i 0 past))
    (cases_lt i (length bytes))

length-padded : (bytes : List ℕ) (k : ℕ) → length (bytes ++ replicate k 0) ≡ length bytes + k
length-padded bytes k = omega (arith, length-append bytes (replicate k 0), length-replicate {A = ℕ} k 0)

-- bytes laid over a list that was filled up
pub laid-padded : (bytes : List ℕ) (at : ℕ) (more : List ℕ) → laid (bytes ++ replicate (at + length more - length bytes) 0) at more ≡ laid bytes at more
laid-padded bytes at more =
    let k = at + length more - length bytes in
    let full : List ℕ = bytes ++ replicate k 0 in
    ext_get_or 0 (laid full at more) (laid bytes at more) (omega (arith, length-laid full at more, length-laid bytes at more, length-padded bytes k))
    (λ i lt. ⊎_elim
    (λ before. laid_before full at more i before ∙ padded bytes k i ∙ sym (laid_before bytes at more i before))
    (λ from. ⊎_elim
    (λ here. laid_here full at more i from here ∙ sym (laid_here bytes at more i from here))
    (λ following. laid_after full at more i following ∙ padded bytes k i ∙ sym (laid_after bytes at more i following))
    (cases_lt i (at + length more)))
    (cases_lt i at))

-- ---- two lists outside a range

pub agrees_sym : (from to : ℕ) (xs ys : List ℕ) → Agrees from to xs ys → Agrees from to ys xs
agrees_sym from to xs ys is = record {
  same = λ i outside. sym (is.same i outside);
  no_earlier = λ ne. omega (arith, is.no_earlier (λ e. ne (sym e)));
  no_later = λ ne. omega (arith, is.no_later (λ e. ne (sym e)));
}

pub agrees_whole : (from to : ℕ) (xs ys : List ℕ) → xs ≡ ys → Agrees from to xs ys
agrees_whole from to xs ys e = record {
  same = λ i outside. ap (λ (l : List ℕ). get_or l i 0) e;
  no_earlier = λ ne. absurd (ne (ap length e));
  no_later = λ ne. absurd (ne (ap length e));
}

-- cut or filled up to the other's length, the range alone may differ
pub agrees_filled : (from to : ℕ) (xs ys : List ℕ) → Agrees from to xs ys
    → Agrees from (min to (length ys)) (take (length ys) xs ++ replicate (length ys - length (take (length ys) xs)) 0) ys
agrees_filled from to xs ys is =
    let n = length ys in
    let prefix : List ℕ = take n xs in
    let full : List ℕ = prefix ++ replicate (n - length prefix) 0 in
    let long : length full ≡ n = omega (arith, length-padded prefix (n - length prefix), length-take n xs) in
    record {
      same = λ i outside. ⊎_elim
          (λ lt. padded prefix (n - length prefix) i ∙ get_or-take n xs i 0 lt ∙ is.same i (⊎_elim (λ before. inl before) (λ following. inr (omega arith)) outside))
          (λ past. get_or_past full i 0 (omega arith) ∙ sym (get_or_past ys i 0 past))
          (cases_lt i n);
      no_earlier = λ ne. absurd (ne long);
      no_later = λ ne. absurd (ne long);
    }

-- and then copied
pub agrees_copied : (from to : ℕ) (xs ys more : List ℕ) → Agrees from to xs ys → length xs ≡ length ys → from < to → to ≤ length ys → more ≡ take (to - from) (drop from ys)
    → written xs from more ≡ ys
agrees_copied from to xs ys more is long lt le e =
    let count : length more ≡ to - from = ap length e ∙ length-take (to - from) (drop from ys) ∙ (let k : min (to - from) (length (drop from ys)) ≡ to - from = omega (arith, length-drop from ys) in k) in
    let same : laid xs from more ≡ ys = ext_get_or 0 (laid xs from more) ys (omega (arith, length-laid xs from more))
    (λ i lt'. ⊎_elim
    (λ before. laid_before xs from more i before ∙ is.same i (inl before))
    (λ after. ⊎_elim
    (λ here. laid_here xs from more i after here ∙ ap (λ (l : List ℕ). get_or l (i - from) 0) e ∙ get_or-take (to - from) (drop from ys) (i - from) 0 (omega arith) ∙ get_or-drop from ys (i - from) 0 ∙ ap (λ (k : ℕ). get_or ys k 0) (let k : from + (i - from) ≡ i = omega arith in k))
    (λ following. laid_after xs from more i following ∙ is.same i (inr (omega arith)))
    (cases_lt i (from + length more)))
    (cases_lt i from)) in
    sym (laid_within xs from more (omega arith)) ∙ same

pub agrees_all : (from to : ℕ) (xs ys : List ℕ) → Agrees from to xs ys → length xs ≡ length ys → to ≤ from → xs ≡ ys
agrees_all from to xs ys is long le = ext_get_or 0 xs ys long (λ i lt. is.same i (⊎_elim (λ before. inl before) (λ after. inr (omega arith)) (cases_lt i from)))

-- after a write of which the second list has got a part
pub agrees_laid : (from to : ℕ) (xs ys : List ℕ) (at : ℕ) (bytes more : List ℕ) → Agrees from to xs ys → at ≤ length xs → length more ≤ length bytes
    → Agrees (min from at) (max to (at + length bytes)) (laid xs at bytes) (laid ys at more)
agrees_laid from to xs ys at bytes more is offset short =
    let lx = length-laid xs at bytes in
    let ly = length-laid ys at more in
    record {
      same = λ i outside. ⊎_elim
          (λ before. laid_before xs at bytes i (omega arith) ∙ is.same i (inl (omega arith)) ∙ sym (laid_before ys at more i (omega arith)))
          (λ following. laid_after xs at bytes i (omega arith) ∙ is.same i (inr (omega arith)) ∙ sym (laid_after ys at more i (omega arith)))
          outside;
      no_earlier = λ ne. ⊎_elim (λ e. omega (arith, lx, ly)) (λ other. omega (arith, lx, ly, is.no_earlier other)) (cases_eq (length xs) (length ys));
      no_later = λ ne. ⊎_elim (λ e. omega (arith, lx, ly)) (λ other. omega (arith, lx, ly, is.no_later other)) (cases_eq (length xs) (length ys));
    }

-- or nothing
pub agrees_unlaid : (from to : ℕ) (xs ys : List ℕ) (at : ℕ) (bytes : List ℕ) → Agrees from to xs ys → at ≤ length xs
    → Agrees (min from at) (max to (at + length bytes)) (laid xs at bytes) ys
agrees_unlaid from to xs ys at bytes is offset =
    let lx = length-laid xs at bytes in
    record {
      same = λ i outside. ⊎_elim
          (λ before. laid_before xs at bytes i (omega arith) ∙ is.same i (inl (omega arith)))
          (λ following. laid_after xs at bytes i (omega arith) ∙ is.same i (inr (omega arith)))
          outside;
      no_earlier = λ ne. ⊎_elim (λ e. omega (arith, lx)) (λ other. omega (arith, lx, is.no_earlier other)) (cases_eq (length xs) (length ys));
      no_later = λ ne. ⊎_elim (λ e. omega (arith, lx)) (λ other. omega (arith, lx, is.no_later other)) (cases_eq (length xs) (length ys));
    }

pub agrees_part : (from to : ℕ) (xs ys : List ℕ) (at : ℕ) (bytes more : List ℕ) → Agrees from to xs ys → at ≤ length xs → length more ≤ length bytes
    → Agrees (min from at) (max to (at + length bytes)) (laid xs at bytes) (laid_if_any ys at more)
agrees_part from to xs ys at bytes more is offset short =
    by_bytes (λ (l : List ℕ). Agrees (min from at) (max to (at + length bytes)) (laid xs at bytes) l) ys at more
    (agrees_unlaid from to xs ys at bytes is offset) (agrees_laid from to xs ys at bytes more is offset short)

-- after a cut: an offset below it reads as before, and one after it as nothing
cut_same : (to i : ℕ) (xs : List ℕ) → (i < to) ⊎ (length xs ≤ i) → get_or (take to xs) i 0 ≡ get_or xs i 0
cut_same to i xs outside = ⊎_elim
    (λ lt. get_or-take to xs i 0 lt)
    (λ le. get_or_past (take to xs) i 0 (omega (arith, length-take to xs, ⊎_elim (λ lt. absurd (let no : ⊥ = omega arith in no)) (λ past. past) outside)) ∙ sym (get_or_past xs i 0 (⊎_elim (λ lt. absurd (let no : ⊥ = omega arith in no)) (λ past. past) outside)))
    (cases_lt i to)

-- the cut shortens the first list
pub agrees_cut : (from to : ℕ) (xs ys : List ℕ) (at : ℕ) → Agrees from to xs ys → Agrees (min from at) (max to (length xs)) (take at xs) (take at ys)
agrees_cut from to xs ys at is =
    let lx = length-take at xs in
    let ly = length-take at ys in
    record {
      same = λ i outside. ⊎_elim
          (λ before. cut_same at i xs (inl (omega arith)) ∙ is.same i (inl (omega arith)) ∙ sym (cut_same at i ys (inl (omega arith))))
          (λ following. cut_same at i xs (inr (omega arith)) ∙ get_or_past xs i 0 (omega arith) ∙ sym (⊎_elim
          (λ lt. get_or-take at ys i 0 lt ∙ sym (is.same i (inr (omega arith))) ∙ get_or_past xs i 0 (omega arith))
          (λ le. get_or_past (take at ys) i 0 (omega arith))
          (cases_lt i at)))
          outside;
      no_earlier = λ ne. ⊎_elim (λ e. omega (arith, lx, ly)) (λ other. omega (arith, lx, ly, is.no_earlier other)) (cases_eq (length xs) (length ys));
      no_later = λ ne. ⊎_elim (λ e. omega (arith, lx, ly)) (λ other. omega (arith, lx, ly, is.no_later other)) (cases_eq (length xs) (length ys));
    }

pub agrees_uncut : (from to : ℕ) (xs ys : List ℕ) (at : ℕ) → Agrees from to xs ys → Agrees (min from at) (max to (length xs)) (take at xs) ys
agrees_uncut from to xs ys at is =
    let lx = length-take at xs in
    record {
      same = λ i outside. ⊎_elim
          (λ before. cut_same at i xs (inl (omega arith)) ∙ is.same i (inl (omega arith)))
          (λ following. cut_same at i xs (inr (omega arith)) ∙ is.same i (inr (omega arith)))
          outside;
      no_earlier = λ ne. ⊎_elim (λ e. omega (arith, lx)) (λ other. omega (arith, lx, is.no_earlier other)) (cases_eq (length xs) (length ys));
      no_later = λ ne. ⊎_elim (λ e. omega (arith, lx)) (λ other. omega (arith, lx, is.no_later other)) (cases_eq (length xs) (length ys));
    }

-- the cut is after the first list
pub agrees_cut_after : (from to : ℕ) (xs ys : List ℕ) (at : ℕ) → Agrees from to xs ys → length xs ≤ at → Agrees from to xs (take at ys)
agrees_cut_after from to xs ys at is le =
    let ly = length-take at ys in
    record {
      same = λ i outside. ⊎_elim
          (λ lt. is.same i outside ∙ sym (get_or-take at ys i 0 lt))
          (λ past. get_or_past xs i 0 (omega arith) ∙ sym (get_or_past (take at ys) i 0 (omega arith)))
          (cases_lt i at);
      no_earlier = λ ne. ⊎_elim (λ e. omega (arith, ly)) (λ other. omega (arith, ly, is.no_earlier other)) (cases_eq (length xs) (length ys));
      no_later = λ ne. ⊎_elim (λ e. omega (arith, ly)) (λ other. omega (arith, ly, is.no_later other)) (cases_eq (length xs) (length ys));
    }

-- ---- bytes in memory

-- what is in them after a change of all of them in place
pub bytes_after : (count : ℕ) (old new : List ℕ) → length new ≡ length old → count ≡ length old → take count (new ++ drop (length new) old) ≡ new
bytes_after count old new long same =
    ap (λ (l : List ℕ). take count (new ++ l)) (drop_all (length new) old (omega arith)) ∙ ap (λ (l : List ℕ). take count l) (append-nil new) ∙ take_all count new (omega arith)

pub laid_filled : (bytes full new : List ℕ) (at : ℕ) (more : List ℕ) → full ≡ bytes ++ replicate (at + length more - length bytes) 0 → new ≡ written full at more → new ≡ laid bytes at more
laid_filled bytes full new at more filled is =
    let k = at + length more - length bytes in
    is ∙ ap (λ (l : List ℕ). written l at more) filled
    ∙ sym (laid_within (bytes ++ replicate k 0) at more (omega (arith, length-padded bytes k)))
    ∙ laid-padded bytes at more

pub filled_long : (bytes full : List ℕ) (end : ℕ) → full ≡ bytes ++ replicate (end - length bytes) 0 → end ≤ length full
filled_long bytes full end is = omega (arith, ap length is, length-padded bytes (end - length bytes))

pub aligned : (from to : ℕ) (bytes cut full new like : List ℕ) → cut ≡ take (length like) bytes → full ≡ cut ++ replicate (length like - length cut) 0
    → (Agrees from (min to (length like)) full like → new ≡ like) → Agrees from to bytes like → new ≡ like
aligned from to bytes cut full new like is filled goes agrees =
    goes (subst (λ (l : List ℕ). Agrees from (min to (length like)) l like) (sym (filled ∙ ap (λ (l : List ℕ). l ++ replicate (length like - length l) 0) is)) (agrees_filled from to bytes like agrees))

-- ---- a file in memory

visible_seen : (file : FileBytes) → file.taken ≡ false → visible file ≡ file.seen.items
visible_seen file e = ap (λ (b : Bool). if b then file.left.items else file.seen.items) e

visible_left : (file : FileBytes) → file.taken ≡ true → visible file ≡ file.left.items
visible_left file e = ap (λ (b : Bool). if b then file.left.items else file.seen.items) e

agrees_as : (from from' to to' : ℕ) (xs xs' ys ys' : List ℕ) → from' ≡ from → to' ≡ to → xs' ≡ xs → ys' ≡ ys → Agrees from to xs ys → Agrees from' to' xs' ys'
agrees_as from from' to to' xs xs' ys ys' ef et ex ey is =
    subst (λ (n : ℕ). Agrees n to' xs' ys') (sym ef) (subst (λ (n : ℕ). Agrees from n xs' ys') (sym et) (subst (λ (l : List ℕ). Agrees from to l ys') (sym ex) (subst (λ (l : List ℕ). Agrees from to xs l) (sym ey) is)))

-- a file with the same bytes
pub mirrors_same : (old new : FileBytes) (state : FileState) → new.seen.items ≡ old.seen.items → new.left.items ≡ old.left.items → new.from ≡ old.from → new.to ≡ old.to → new.taken ≡ old.taken
    → Mirrors old state → Mirrors new state
mirrors_same old new state seen left from to taken is = record {
  seen = ap (λ (b : Bool). if b then new.left.items else new.seen.items) taken
      ∙ ap (λ (l : List ℕ). if old.taken then l else new.seen.items) left
      ∙ ap (λ (l : List ℕ). if old.taken then old.left.items else l) seen ∙ is.seen;
  left = left ∙ is.left;
  agrees = agrees_as _ _ _ _ _ _ _ _ from to seen left is.agrees;
}

-- both are the same bytes
pub mirrors_settled : (new : FileBytes) (state : FileState) (bytes : List ℕ) → new.taken ≡ false → new.seen.items ≡ bytes → new.left.items ≡ bytes → state.seen ≡ bytes → state.left ≡ bytes → Mirrors new state
mirrors_settled new state bytes taken seen left is_seen is_left = record {
  seen = visible_seen new taken ∙ seen ∙ sym is_seen;
  left = left ∙ sym is_left;
  agrees = agrees_whole new.from new.to new.seen.items new.left.items (seen ∙ sym left);
}

pub mirrors_written : (old new : FileBytes) (pick at : ℕ) (bytes : List ℕ) (state : FileState) → old.taken ≡ false → at ≤ length state.seen → Mirrors old state
    → new.seen.items ≡ laid old.seen.items at bytes
    → new.left.items ≡ (if pick == 0 then old.left.items else laid_if_any old.left.items at (picked_bytes pick bytes))
    → new.from ≡ min old.from at → new.to ≡ max old.to (at + length bytes) → new.taken ≡ old.taken
    → Mirrors new (after_write pick at bytes state)
mirrors_written old new pick at bytes state fresh offset is seen left from to taken =
    let same : old.seen.items ≡ state.seen = sym (visible_seen old fresh) ∙ is.seen in
    let within : at ≤ length old.seen.items = omega (arith, ap length same) in
    let part = picked_bytes pick bytes in
    record {
      seen = visible_seen new (taken ∙ fresh) ∙ seen ∙ ap (λ (l : List ℕ). laid l at bytes) same;
      left = left ∙ ap (λ (l : List ℕ). if pick == 0 then l else laid_if_any l at part) is.left;
      agrees = agrees_as _ _ _ _ _ _ _ _ from to seen left (by_choice (λ (l : List ℕ). Agrees (min old.from at) (max old.to (at + length bytes)) (laid old.seen.items at bytes) l) pick 0 old.left.items (laid_if_any old.left.items at part)
          (λ zero. agrees_unlaid old.from old.to old.seen.items old.left.items at bytes is.agrees within)
          (λ more. agrees_part old.from old.to old.seen.items old.left.items at bytes part is.agrees within (picked_short pick bytes)));
    }

pub mirrors_cut : (old new : FileBytes) (pick to : ℕ) (state : FileState) → old.taken ≡ false → Mirrors old state
    → new.seen.items ≡ take to old.seen.items → new.left.items ≡ (if pick == 0 then old.left.items else take to old.left.items)
    → ((ys : List ℕ) → Agrees old.from old.to old.seen.items ys → Agrees new.from new.to (take to old.seen.items) (take to ys))
    → ((ys : List ℕ) → Agrees old.from old.to old.seen.items ys → Agrees new.from new.to (take to old.seen.items) ys)
    → new.taken ≡ old.taken → Mirrors new (after_cut pick to state)
mirrors_cut old new pick to state fresh is seen left both first taken = record {
  seen = visible_seen new (taken ∙ fresh) ∙ seen ∙ ap (λ (l : List ℕ). take to l) (sym (visible_seen old fresh) ∙ is.seen);
  left = left ∙ ap (λ (l : List ℕ). if pick == 0 then l else take to l) is.left;
  agrees = agrees_as _ _ _ _ _ _ _ _ refl refl seen left (by_choice (λ (l : List ℕ). Agrees new.from new.to (take to old.seen.items) l) pick 0 old.left.items (take to old.left.items)
      (λ zero. first old.left.items is.agrees) (λ more. both old.left.items is.agrees));
}

pub on_ok : {T E : Type 0} (r : Result T E) (Q : Type 0) → Q → OnOk r Q
on_ok (Ok v) Q q = q
on_ok (Err e) Q q = tt

pub on_ok_after : {T E : Type 0} (r : Result T E) (A Q : Type 0) → Q → OnOk r (A → Q)
on_ok_after (Ok v) A Q q = λ a. q
on_ok_after (Err e) A Q q = tt

pub on_err : {T E : Type 0} (r : Result T E) (Q : Type 0) → Q → OnErr r Q
on_err (Ok v) Q q = tt
on_err (Err e) Q q = q

-- ---- all files

module _ (pick i : ℕ) (old new : List DiskCall) (files : List FileBytes) (file : FileBytes) (all : AllMirror pick old files) where
  -- one file has changed
  pub all_after : ((f : ℕ) → f ≢ i → file_after pick new f ≡ file_after pick old f) → Mirrors file (file_after pick new i) → AllMirror pick new (set files i file)
  all_after others is f d lt =
      let lt' : f < length files = omega (arith, length-set files i file) in
      ⊎_elim
      (λ e. let here : i < length files = omega arith in
      subst (λ (k : ℕ). Mirrors (get_or (set files i file) k d) (file_after pick new k)) (sym e) (subst (λ (x : FileBytes). Mirrors x (file_after pick new i)) (sym (get_or-set_same files i file d here)) is))
      (λ ne. subst (λ (x : FileBytes). Mirrors x (file_after pick new f)) (sym (get_or-set_other files i f file d ne)) (subst (λ (h : FileState). Mirrors (get_or files f d) h) (sym (others f ne)) (all f d lt')))
      (cases_eq f i)

  -- or none
  pub all_kept : new ≡ old → Mirrors file (file_after pick old i) → AllMirror pick new (set files i file)
  all_kept same is =
      let state : (f : ℕ) → file_after pick new f ≡ file_after pick old f = λ f. ap (λ (l : List DiskCall). file_after pick l f) same in
      all_after (λ f ne. state f) (subst (λ (h : FileState). Mirrors file h) (sym (state i)) is)

-- the file that was read at its offset
pub one_of : (pick i : ℕ) (old : List DiskCall) (files : List FileBytes) (file : FileBytes) → AllMirror pick old files → i < length files → file ≡ get_or files i file → Mirrors file (file_after pick old i)
one_of pick i old files file all lt is = subst (λ (x : FileBytes). Mirrors x (file_after pick old i)) (sym is) (all i file lt)

pub all_pushed : (files : List FileBytes) (file : FileBytes) (state : FileState) → ((f : ℕ) (d : FileBytes) → f < length files → Mirrors (get_or files f d) state) → Mirrors file state
    → (f : ℕ) (d : FileBytes) → f < length (files ++ file ∷ []) → Mirrors (get_or (files ++ file ∷ []) f d) state
all_pushed files file state all is f d lt = ⊎_elim
    (λ before. subst (λ (x : FileBytes). Mirrors x state) (sym (get_or_append_left files (file ∷ []) d f before)) (all f d before))
    (λ past. subst (λ (x : FileBytes). Mirrors x state) (sym (get_or_push files file d f (omega (arith, length-append files (file ∷ []))))) is)
    (cases_lt f (length files))

-- every file restarted
pub all_restarted : (pick : ℕ) (before new : List DiskCall) (files files' : List FileBytes) → new ≡ before ++ RestartCall ∷ [] → AllMirror pick before files → length files' ≡ length files
    → ((f : ℕ) (d : FileBytes) (state : FileState) → f < length files → Mirrors (get_or files f d) state → Mirrors (get_or files' f d) (clean state.left)) → AllMirror pick new files'
all_restarted pick before new files files' is all long each f d lt =
    let lt' : f < length files = omega arith in
    subst (λ (h : FileState). Mirrors (get_or files' f d) h) (sym (restart_here pick before new is f)) (each f d (file_after pick before f) lt' (all f d lt'))

-- a second restart in a row
restarted_again : (pick : ℕ) (calls : List DiskCall) (r : Bool) (files files' : List FileBytes) → AllMirror pick (recorded calls r) files → length files' ≡ length files
    → ((f : ℕ) (d : FileBytes) (state : FileState) → f < length files → Mirrors (get_or files f d) state → Mirrors (get_or files' f d) (clean state.left)) → AllMirror pick (recorded calls true) files'
restarted_again pick calls false files files' all long each f d lt = all_restarted pick calls (calls ++ RestartCall ∷ []) files files' refl all long each f d lt
restarted_again pick calls true files files' all long each f d lt =
    let lt' : f < length files = omega arith in
    let state = file_after pick (calls ++ RestartCall ∷ []) f in
    let is = restart_here pick calls (calls ++ RestartCall ∷ []) refl f in
    let same : clean state.left ≡ state = ap (λ (h : FileState). clean h.left) is ∙ sym is in
    subst (λ (h : FileState). Mirrors (get_or files' f d) h) same (each f d state lt' (all f d lt'))

pub restart_all_after : (pick : ℕ) (old new : Log) (files files' : List FileBytes) → new.calls ≡ old.calls → new.restarted ≡ true → AllMirror pick (logged old) files → length files' ≡ length files
    → ((f : ℕ) (d : FileBytes) (state : FileState) → f < length files → Mirrors (get_or files f d) state → Mirrors (get_or files' f d) (clean state.left)) → AllMirror pick (logged new) files'
restart_all_after pick old new files files' calls r all long each =
    subst (λ (l : List DiskCall). AllMirror pick l files') (sym (logged_restarted old new calls r)) (restarted_again pick (map call_of old.calls.items) old.restarted files files' all long each)

-- one file more that has restarted
module _ (i : ℕ) (first files : List FileBytes) (file : FileBytes) (lt : i < length files) (others : (f : ℕ) (d : FileBytes) → i ≤ f → get_or files f d ≡ get_or first f d)
    (here : (d : FileBytes) (state : FileState) → Mirrors (get_or first i d) state → Mirrors file (clean state.left)) where
  pub restarted_more : ((f : ℕ) (d : FileBytes) (state : FileState) → f < i → Mirrors (get_or first f d) state → Mirrors (get_or files f d) (clean state.left))
      → (f : ℕ) (d : FileBytes) (state : FileState) → f < i + 1 → Mirrors (get_or first f d) state → Mirrors (get_or (set files i file) f d) (clean state.left)
  restarted_more done f d state below is = ⊎_elim
      (λ e. subst (λ (k : ℕ). Mirrors (get_or (set files i file) k d) (clean state.left)) (sym e)
      (subst (λ (x : FileBytes). Mirrors x (clean state.left)) (sym (get_or-set_same files i file d lt)) (here d state (subst (λ (k : ℕ). Mirrors (get_or first k d) state) e is))))
      (λ ne. subst (λ (x : FileBytes). Mirrors x (clean state.left)) (sym (get_or-set_other files i f file d ne)) (done f d state (omega arith) is))
      (cases_eq f i)

  pub others_more : (f : ℕ) (d : FileBytes) → i + 1 ≤ f → get_or (set files i file) f d ≡ get_or first f d
  others_more f d le = let ne : f ≢ i = omega arith in get_or-set_other files i f file d ne ∙ others f d (omega arith)

-- ---- the same of a call's answer

pub ok_to : {T E : Type 0} (r : Result T E) (P Q : Type 0) → OnOk r P → (P → Q) → OnOk r Q
ok_to (Ok v) P Q h go = go h
ok_to (Err e) P Q h go = tt

pub err_to : {T E : Type 0} (r : Result T E) (P Q : Type 0) → OnErr r P → (P → Q) → OnErr r Q
err_to (Ok v) P Q h go = tt
err_to (Err e) P Q h go = go h

module _ (pick i : ℕ) (files : List FileBytes) (was now : FileBytes) (lt : i < length files) (read : was ≡ get_or files i was) where
  pub all_written : (at : ℕ) (bytes : List ℕ) → ((state : FileState) → at ≤ length state.seen → Mirrors was state → Mirrors now (after_write pick at bytes state))
      → (old new : List DiskCall) → new ≡ old ++ WriteCall i at bytes ∷ [] → at ≤ length (seen_by pick old i) → AllMirror pick old files → AllMirror pick new (set files i now)
  all_written at bytes goes old new is offset all =
      all_after pick i old new files now all (write_others pick old new i at bytes is)
      (subst (λ (h : FileState). Mirrors now h) (sym (written_here pick old new i at bytes is)) (goes (file_after pick old i) offset (one_of pick i old files was all lt read)))

  pub all_cut : (to : ℕ) → ((state : FileState) → Mirrors was state → Mirrors now (after_cut pick to state))
      → (old new : List DiskCall) → new ≡ old ++ CutCall i to ∷ [] → AllMirror pick old files → AllMirror pick new (set files i now)
  all_cut to goes old new is all =
      all_after pick i old new files now all (cut_others pick old new i to is)
      (subst (λ (h : FileState). Mirrors now h) (sym (cut_here pick old new i to is)) (goes (file_after pick old i) (one_of pick i old files was all lt read)))

  pub all_refused : ((state : FileState) → Mirrors was state → Mirrors now state) → (old : List DiskCall) → AllMirror pick old files → AllMirror pick old (set files i now)
  all_refused goes old all = all_kept pick i old old files now all refl (goes (file_after pick old i) (one_of pick i old files was all lt read))

-- whatever the pick
module _ (i : ℕ) (files : List FileBytes) (was now : FileBytes) (lt : i < length files) (read : was ≡ get_or files i was) where
  pub all_synced : ((state : FileState) → Mirrors was state → Mirrors now (clean state.seen))
      → (pick : ℕ) (old new : List DiskCall) → new ≡ old ++ SyncCall i ∷ [] → AllMirror pick old files → AllMirror pick new (set files i now)
  all_synced goes pick old new is all =
      all_after pick i old new files now all (sync_others pick old new i is)
      (subst (λ (h : FileState). Mirrors now h) (sym (sync_here pick old new i is)) (goes (file_after pick old i) (one_of pick i old files was all lt read)))

  pub all_unsynced : ((state : FileState) → Mirrors was state → Mirrors now state) → (pick : ℕ) (old : List DiskCall) → AllMirror pick old files → AllMirror pick old (set files i now)
  all_unsynced goes pick old all = all_refused pick i files was now lt read goes old all
