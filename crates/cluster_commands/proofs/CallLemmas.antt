-- What a call of the partition, or a renewal, is to an open cluster.
use Rattle.std.proofs.Common.{◌≡◌, ◌≢◌, ◌⊎◌, inl, inr, ⊎_elim, ℕ, ◌+◌, ◌-◌, ◌^◌, ◌≤◌, ◌<◌, arith, List, [], ◌∷◌, ◌++◌, length, refl, sym, ◌∙◌, ap, subst, Bool, false, true, Option, Some, None, slice_get, Result, Ok, Err, IsErrOf, ◌↔◌}
use Rattle.std.specs.Prelude.{IsTrue}
use Rattle.fault_count.specs.Rose.{Rose}
use Rattle.cache_key.specs.declared.request.Mutation.{Mutation}
use Rattle.cache_key.specs.declared.request.Reply.{Reply}
use Rattle.cache_key.specs.declared.request.Request.{Request}
use Rattle.cache_model.specs.Caches.{Caches}
use Rattle.cache_model.specs.Change.{Change, change_of}
use Rattle.cache_model.specs.Contents.{AreContentsAfter}
use Rattle.cache_model.specs.PlainList.{live}
use Rattle.cache_model.specs.Reply.{mutation_of, reply_after}
use Rattle.call_trail.specs.Trails.{most_entries}
use Rattle.call_trail.specs.declared.refusal.CallRefusal.{CallRefusal}
use Rattle.call_trail.specs.declared.refusal.CallRefusal.TheVariants as calls
use Rattle.disk_lane.specs.Lanes.{LaneImage, LaneEvent, HasFailedOn}
use Rattle.disk_trait.specs.View.{View}
use Rattle.disk_trait.specs.Moments.{Onward}
use Rattle.file_kinds.specs.Kinds.{PartitionNumber}
use Rattle.file_kinds.specs.Order.{IsRecorded}
use Rattle.kept_cell.specs.KeptCells.{KeptCell, ChangeCauses}
use Rattle.partition_cell.specs.Cells.{Cell, caches_of, flight_of, in_flight, IsSoundCell}
use Rattle.partition_cell.specs.Entered.{record_length, next_id, IsAnew, IsLonger, HasGrown, IsNotRenewed, IsNotEntered}
use Rattle.partition_cell.specs.Limits.{IsFit, IsFullFor}
use Rattle.partition_cell.specs.Standing.{IsLone}
use Rattle.slot_board.specs.declared.board.Board.{Board}
use Rattle.slot_board.specs.Slots.{slot_at, told_by, is_free}
use Rattle.store_ident.specs.declared.ident.StoreId.{StoreId}
use Rattle.store_journal.specs.declared.store.Store.{Store}
use Rattle.cluster_commands.specs.State.{OpenCluster}
use Rattle.cluster_commands.specs.Events.{IsLiveAfter, IsFitAt, IsFullAt, HasLastVersion, store_after, IsBuiltAnew, IsNotBuilt, IsMadeFit, with_mutation, with_flight, IsDurable, IsNotDurable, IsRefusedFirst, IsAdmitted}
use Rattle.script_lines.specs.declared.answer.Refusal.TheVariants as refusals
use Rattle.cluster_commands.specs.OnDisk.{lane_view, IsClusterOf, IsServing}
use Rattle.cluster_commands.specs.declared.cluster.Opened.{Opened}

-- ---- the one disk

pub lane_onward : {D : Type 0} (view : D → View) (old new : List D) (P : LaneImage → Type 0) → length old ≡ 1 → LaneEvent view 0 old new P → Onward (lane_view view old) (lane_view view new)
lane_onward view [] new P one event = absurd (omega (arith, one))
lane_onward view (a ∷ []) [] P one event = let many = event.as_many in absurd (omega (arith, many))
lane_onward view (a ∷ []) (b ∷ bs) P one event = event.onward a b refl refl
lane_onward view (a ∷ c ∷ rest) new P one event = absurd (omega (arith, one))

pub lane_rose : {D : Type 0} (view : D → View) (old new : List D) (host : ℕ) → host ≡ 0 → HasFailedOn view host old new → Rose (lane_view view old).faults (lane_view view new).faults
lane_rose view [] new host zero failed =
    let was : slice_get [] 0 ≡ Some failed.before = subst (λ (h : ℕ). slice_get [] h ≡ Some failed.before) zero failed.was in absurd cc
lane_rose view (a ∷ more) [] host zero failed =
    let is : slice_get [] 0 ≡ Some failed.now = subst (λ (h : ℕ). slice_get [] h ≡ Some failed.now) zero failed.is in absurd cc
lane_rose {D} view (a ∷ more) (b ∷ others) host zero failed =
    let was : slice_get (a ∷ more) 0 ≡ Some failed.before = subst (λ (h : ℕ). slice_get (a ∷ more) h ≡ Some failed.before) zero failed.was in
    let is : slice_get (b ∷ others) 0 ≡ Some failed.now = subst (λ (h : ℕ). slice_get (b ∷ others) h ≡ Some failed.now) zero failed.is in
    let one : failed.before ≡ a = cc in
    let two : failed.now ≡ b = cc in
    subst (λ (x : D). Rose (view x).faults (view b).faults) one (subst (λ (y : D). Rose (view failed.before).faults (view y).faults) two failed.rose)

-- the partition is served as before
pub serving_on : {D : Type 0} (old new : KeptCell D) → IsServing old → new.cell.owner ≡ old.cell.owner → new.cell.number ≡ old.cell.number → new.cell.moving ≡ old.cell.moving
    → length new.cell.disks ≡ length old.cell.disks → IsServing new
serving_on old new is owner number moving many = record { number = number ∙ is.number; owner = owner ∙ is.owner; still = moving ∙ is.still; one = many ∙ is.one }

-- nothing was done
pub still_readied : {D : Type 0} (old new : Cell D) → new ≡ old → new ≡ record old { maps = new.maps }
still_readied {D} old new same = subst (λ (c : Cell D). c ≡ record old { maps = c.maps }) (sym same) refl

-- ---- the store

-- the same cell but for its map is as sound
sound_as : {D : Type 0} (a b : Cell D) → b ≡ record a { maps = b.maps } → IsSoundCell a → IsSoundCell b
sound_as a b kept sound = record {
  none = ap (λ (c : Cell _). c.flight) kept ∙ sound.none;
  no_doubt = λ h f le is. sound.no_doubt h f le (sym (ap (λ (c : Cell _). (slot_at c.board h f).kind) kept) ∙ is);
}

sound_back : {D : Type 0} (a b : Cell D) → b ≡ record a { maps = b.maps } → IsSoundCell b → IsSoundCell a
sound_back a b kept sound = record {
  none = sym (ap (λ (c : Cell _). c.flight) kept) ∙ sound.none;
  no_doubt = λ h f le is. sound.no_doubt h f le (ap (λ (c : Cell _). (slot_at c.board h f).kind) kept ∙ is);
}

-- the cluster whose store a commit goes to
pub record Fitted {D : Type 0} (o : Opened D) (before : OpenCluster) (cell : Cell D) (added : ℕ) : Type 0 where
  pub mid : OpenCluster
  pub fit : IsMadeFit (live (caches_of o.kept.cell)) before mid
  pub host : mid.host ≡ before.host
  pub file : mid.file ≡ cell.store.file
  pub id : mid.id ≡ cell.store.id
  pub end : mid.end + added ≡ cell.store.end
  pub told : mid.told ≡ told_by cell.board
  pub changes : mid.changes ≡ before.changes
  pub trail : mid.trail ≡ before.trail
  pub none : mid.flight ≡ []
  pub sound : IsTrue mid.sound
  pub lone : IsTrue mid.lone → IsLone cell

-- a lone store is lone where the owner, its file and what is known of the files are the same
lone_as : {D : Type 0} (a b : Cell D) → b.owner ≡ a.owner → b.store.file ≡ a.store.file → b.board ≡ a.board → IsLone a → IsLone b
lone_as a b owner file board lone = record {
  free = λ h f recorded le other. subst (λ (x : Board). is_free (slot_at x h f).kind ≡ true) (sym board)
      (lone.free h f (subst (λ (x : Board). IsRecorded x h) board recorded) le (λ same. other (same.0 ∙ sym owner, same.1 ∙ sym file)));
}

-- the identifier after a version
abbrev id_with : ℕ → ℕ → ℕ → StoreId
id_with partition told host = record { partition = partition; version = told + 1; epoch = 1; host = host }

some_length : (caches : Caches) → 1 ≤ live caches
some_length caches = omega arith

module _ {D : Type 0} (o : Opened D) (before : OpenCluster) (is : IsClusterOf o before) where
  abbrev pub size : ℕ
  size = live (caches_of o.kept.cell)

  pub live_now : IsLiveAfter before.changes size
  live_now = (caches_of o.kept.cell, is.contents, refl)

  fit_at : IsFit o.kept.cell → IsFitAt before size
  fit_at fit = (is.sound.1 fit.sound, let end = is.end in let short = fit.short in omega (arith, end, short))

  fit_in : IsFitAt before size → IsFit o.kept.cell
  fit_in fit = record { sound = is.sound.0 fit.0; short = let end = is.end in let short = fit.1 in omega (arith, end, short) }

  pub last_version : HasLastVersion before → told_by o.kept.cell.board + 1 ≡ 2 ^ 58
  last_version last = let told = is.told in omega (arith, told, last)

  pub version_last : told_by o.kept.cell.board + 1 ≡ 2 ^ 58 → HasLastVersion before
  version_last last = let told = is.told in omega (arith, told, last)

  -- the store that was built anew
  next_store : IsServing o.kept → store_after before.told ≡ next_id o.kept.cell o.kept.cell.owner 1
  next_store serving = sym (
      ap (λ (p : PartitionNumber). id_with p.partition (told_by o.kept.cell.board) o.kept.cell.owner) serving.number
      ∙ ap (λ (h : ℕ). id_with 0 (told_by o.kept.cell.board) h) serving.owner
      ∙ ap (λ (t : ℕ). id_with 0 t 0) (sym is.told)
      )

  module _ (cell : Cell D) (added : ℕ) where
    longer : IsFit o.kept.cell → IsLonger o.kept.cell cell added → Fitted o before cell added
    longer fit same = record {
      mid = before;
      fit = inl (fit_at fit, refl);
      host = refl;
      file = is.file ∙ sym same.file;
      id = is.id ∙ sym same.id;
      end = let was = is.end in let now = same.end in omega (arith, was, now);
      told = is.told ∙ sym (ap told_by same.board);
      changes = refl;
      trail = refl;
      none = is.flight ∙ ap in_flight fit.sound.none;
      sound = is.sound.1 fit.sound;
      lone = λ so. lone_as o.kept.cell cell same.owner same.file same.board (is.lone so);
    }

    anew : IsServing o.kept → (IsFit o.kept.cell → ⊥) → IsAnew o.kept.cell cell 1 added → Fitted o before cell added
    anew serving unfit built = record {
      mid = record before { file = cell.store.file; id = store_after before.told; end = size - 1; told = before.told + 1; flight = []; sound = true; lone = false };
      fit = inr (
        λ fit. unfit (fit_in fit),
        record {
          other = λ same. let two = built.other in let was = is.file in omega (arith, same, two, was);
          end = let some = some_length (caches_of o.kept.cell) in omega (arith, some);
          rest = refl;
        },
      );
      host = refl;
      file = refl;
      id = next_store serving ∙ sym built.id;
      end = let now = built.end in let some = some_length (caches_of o.kept.cell) in omega (arith, now, some);
      told = let was = is.told in let now = built.told in omega (arith, was, now);
      changes = refl;
      trail = refl;
      none = refl;
      sound = refl;
      lone = λ so. absurd (cc so);
    }

    pub fitted : IsServing o.kept → HasGrown o.kept.cell cell 1 added → Fitted o before cell added
    fitted serving grown = ⊎_elim (λ one. longer one.0 one.1) (λ two. anew serving two.0 two.1) grown

  -- ---- what a mutation leaves

  module _ (n : Opened D) (same_host : n.host ≡ o.host) where
    with_durable : (mutation : Mutation) (made : Fitted o before n.kept.cell (record_length mutation)) → AreContentsAfter (before.changes ++ change_of mutation ∷ []) (caches_of n.kept.cell) → IsSoundCell n.kept.cell
        → length n.kept.trail.entries ≡ length o.kept.trail.entries + 1 → IsClusterOf n (with_mutation made.mid mutation)
    with_durable mutation made contents sound more = record {
      host = made.host ∙ is.host ∙ sym same_host;
      file = made.file;
      id = made.id;
      end = made.end;
      told = made.told;
      contents = subst (λ (cs : List Change). AreContentsAfter (cs ++ change_of mutation ∷ []) (caches_of n.kept.cell)) (sym made.changes) contents;
      flight = made.none ∙ sym (ap in_flight sound.none);
      sound = (λ so. sound, λ so. made.sound);
      lone = made.lone;
      trail = let was = is.trail in let mid = made.trail in omega (arith, was, mid, more);
    }

    with_flying : (mutation : Mutation) (made : Fitted o before n.kept.cell 0) → caches_of n.kept.cell ≡ caches_of o.kept.cell → n.kept.cell.flight ≡ Some mutation
        → n.kept.trail.entries ≡ o.kept.trail.entries → IsClusterOf n (with_flight made.mid mutation)
    with_flying mutation made same flies entries = record {
      host = made.host ∙ is.host ∙ sym same_host;
      file = made.file;
      id = made.id;
      end = let e = made.end in omega (arith, e);
      told = made.told;
      contents = subst (λ (cs : List Change). AreContentsAfter cs (caches_of n.kept.cell)) (sym made.changes) (subst (λ (c : Caches). AreContentsAfter before.changes c) (sym same) is.contents);
      flight = sym (ap in_flight flies);
      sound = (λ so. absurd (cc so), λ sound. let wrong : Some mutation ≡ None = sym flies ∙ sound.none in absurd (cc wrong));
      lone = made.lone;
      trail = made.trail ∙ is.trail ∙ sym (ap length entries);
    }

    not_built : (sound : Bool) → (IsTrue sound ↔ IsSoundCell n.kept.cell) → IsNotRenewed o.kept.cell n.kept.cell → caches_of n.kept.cell ≡ caches_of o.kept.cell → n.kept.trail.entries ≡ o.kept.trail.entries
        → (after : OpenCluster) × IsClusterOf n after × IsNotBuilt before after
    not_built sound decides held same entries = (
      record before { told = told_by n.kept.cell.board; sound = sound; lone = false },
      record {
        host = is.host ∙ sym same_host;
        file = is.file ∙ sym (ap (λ (s : Store). s.file) held.store);
        id = is.id ∙ sym (ap (λ (s : Store). s.id) held.store);
        end = is.end ∙ sym (ap (λ (s : Store). s.end) held.store);
        told = refl;
        contents = subst (λ (c : Caches). AreContentsAfter before.changes c) (sym same) is.contents;
        flight = is.flight ∙ sym (ap in_flight held.flight);
        sound = decides;
        lone = λ so. absurd (cc so);
        trail = is.trail ∙ sym (ap length entries);
      },
      record {
        told = let was = is.told in ⊎_elim (λ (e : told_by n.kept.cell.board ≡ told_by o.kept.cell.board). inl (e ∙ sym was)) (λ e. inr (omega (arith, e, was))) held.told;
        rest = refl;
      },
    )

    -- the store was built anew
    pub rebuilt : IsServing o.kept → IsAnew o.kept.cell n.kept.cell 1 0 → IsSoundCell n.kept.cell → caches_of n.kept.cell ≡ caches_of o.kept.cell → n.kept.trail.entries ≡ o.kept.trail.entries
        → (after : OpenCluster) × IsClusterOf n after × IsBuiltAnew size before after × (after.id ≡ n.kept.cell.store.id)
    rebuilt serving built sound same entries = (
      record before { file = n.kept.cell.store.file; id = store_after before.told; end = n.kept.cell.store.end; told = before.told + 1; flight = []; sound = true; lone = false },
      record {
        host = is.host ∙ sym same_host;
        file = refl;
        id = next_store serving ∙ sym built.id;
        end = refl;
        told = let was = is.told in let now = built.told in omega (arith, was, now);
        contents = subst (λ (c : Caches). AreContentsAfter before.changes c) (sym same) is.contents;
        flight = sym (ap in_flight sound.none);
        sound = (λ so. sound, λ so. refl);
        lone = λ so. absurd (cc so);
        trail = is.trail ∙ sym (ap length entries);
      },
      record {
        other = λ e. let two = built.other in let was = is.file in omega (arith, e, two, was);
        end = let now = built.end in omega (arith, now);
        rest = refl;
      },
      next_store serving ∙ sym built.id,
    )

    -- it wasn't
    pub not_rebuilt : (sound : Bool) → (IsTrue sound ↔ IsSoundCell n.kept.cell) → IsNotRenewed o.kept.cell n.kept.cell → caches_of n.kept.cell ≡ caches_of o.kept.cell → n.kept.trail.entries ≡ o.kept.trail.entries
        → (after : OpenCluster) × IsClusterOf n after × IsNotBuilt before after
    not_rebuilt sound decides held same entries = not_built sound decides held same entries

    -- the mutation is durable
    pub durable : (mutation : Mutation) → IsServing o.kept → HasGrown o.kept.cell n.kept.cell 1 (record_length mutation) → AreContentsAfter (before.changes ++ change_of mutation ∷ []) (caches_of n.kept.cell) → IsSoundCell n.kept.cell
        → length n.kept.trail.entries ≡ length o.kept.trail.entries + 1 → (after : OpenCluster) × IsClusterOf n after × IsDurable size mutation before after
    durable mutation serving grown contents sound more =
        let made = fitted n.kept.cell (record_length mutation) serving grown in
        (with_mutation made.mid mutation, with_durable mutation made contents sound more, record { mid = made.mid; fit = made.fit; none = made.none; is = refl })

    -- it isn't
    pub not_durable : (mutation : Mutation) (sound : Bool) → (IsTrue sound ↔ IsSoundCell n.kept.cell) → IsServing o.kept → IsNotEntered o.kept.cell n.kept.cell 1 mutation → caches_of n.kept.cell ≡ caches_of o.kept.cell
        → n.kept.trail.entries ≡ o.kept.trail.entries → (after : OpenCluster) × IsClusterOf n after × IsNotDurable size mutation before after
    not_durable mutation sound decides serving held same entries = ⊎_elim
        (λ one. let left = not_built sound decides one.1 same entries in (left.0, left.1, inl (λ fit. one.0 (fit_in fit), left.2)))
        (λ two. let made = fitted n.kept.cell 0 serving two.0 in (with_flight made.mid mutation, with_flying mutation made same two.1 entries, inr (made.mid, made.fit, refl)))
        held

    -- nothing was done
    pub as_before : n.kept.cell ≡ record o.kept.cell { maps = n.kept.cell.maps } → caches_of n.kept.cell ≡ caches_of o.kept.cell → n.kept.trail.entries ≡ o.kept.trail.entries → IsClusterOf n before
    as_before kept same entries = record {
      host = is.host ∙ sym same_host;
      file = is.file ∙ sym (ap (λ (c : Cell D). c.store.file) kept);
      id = is.id ∙ sym (ap (λ (c : Cell D). c.store.id) kept);
      end = is.end ∙ sym (ap (λ (c : Cell D). c.store.end) kept);
      told = is.told ∙ sym (ap (λ (c : Cell D). told_by c.board) kept);
      contents = subst (λ (c : Caches). AreContentsAfter before.changes c) (sym same) is.contents;
      flight = is.flight ∙ sym (ap (λ (c : Cell D). flight_of c) kept);
      sound = (λ so. sound_as o.kept.cell n.kept.cell kept (is.sound.0 so), λ so. is.sound.1 (sound_back o.kept.cell n.kept.cell kept so));
      lone = λ so. lone_as o.kept.cell n.kept.cell (ap (λ (c : Cell D). c.owner) kept) (ap (λ (c : Cell D). c.store.file) kept) (ap (λ (c : Cell D). c.board) kept) (is.lone so);
      trail = is.trail ∙ sym (ap length entries);
    }

-- ---- why a mutation is refused

module _ {D : Type 0} (o : Opened D) (before : OpenCluster) (is : IsClusterOf o before) (serving : IsServing o.kept) where
  full_in : (mutation : Mutation) → IsFullAt (size o before is) mutation → IsFullFor o.kept.cell mutation
  full_in mutation full = record { takes = full.0; past = full.1 }

  full_at : (mutation : Mutation) → IsFullFor o.kept.cell mutation → IsFullAt (size o before is) mutation
  full_at mutation full = (full.takes, full.past)

  trail_at : before.trail ≡ most_entries → length o.kept.trail.entries ≡ most_entries
  trail_at full = sym is.trail ∙ full

  -- for the first reason that there is
  module _ {T : Type 0} (mutation : Mutation) (result : Result T CallRefusal) (causes : ChangeCauses o.kept mutation result) where
    pub first_trail : IsErrOf result calls.TrailFull → IsRefusedFirst before (size o before is) mutation refusals.TrailFull
    first_trail refused = is.trail ∙ (causes.trail_full.0 refused).1

    pub first_room : (length : ℕ) → IsErrOf result (calls.StoreFull length) → IsRefusedFirst before (size o before is) mutation (refusals.StoreFull length)
    first_room length refused = let why = (causes.store_full length).0 refused in ((λ full. why.1 (trail_at full)), full_at mutation why.3, why.2)

    pub first_version : IsErrOf result calls.VersionEnd → IsRefusedFirst before (size o before is) mutation refusals.VersionEnd
    first_version refused =
        let why = causes.version_end.0 refused in
        ((λ full. why.1 (trail_at full)), (λ full. why.2 (full_in mutation full)), (λ fit. why.3 (fit_in o before is fit)), version_last o before is why.4)

  -- for none of the reasons that come first
  pub admitted : {T : Type 0} (mutation : Mutation) (result : Result T CallRefusal) → ChangeCauses o.kept mutation result
      → ¬ IsErrOf result calls.TrailFull → ((length : ℕ) → ¬ IsErrOf result (calls.StoreFull length)) → ¬ IsErrOf result calls.VersionEnd → IsAdmitted before (size o before is) mutation
  admitted mutation result causes trail store version =
      let room : before.trail ≢ most_entries = λ full. trail (causes.trail_full.1 (serving.still, trail_at full)) in
      let no_full : length o.kept.trail.entries ≡ most_entries → ⊥ = λ full. room (is.trail ∙ full) in
      let fits : IsFullFor o.kept.cell mutation → ⊥ = λ full. store (live (caches_of o.kept.cell)) ((causes.store_full (live (caches_of o.kept.cell))).1 (serving.still, no_full, refl, full)) in
      record {
        trail = room;
        room = λ full. fits (full_in mutation full);
        version = λ unfit last. version (causes.version_end.1 (serving.still, no_full, fits, (λ fit. unfit (fit_at o before is fit)), last_version o before is last));
      }
