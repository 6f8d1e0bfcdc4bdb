-- What the partition answers, as a step of the state.
use Rattle.std.proofs.Common.{◌≡◌, ◌≢◌, ◌⊎◌, inl, inr, ⊎_elim, ℕ, ◌+◌, ◌^◌, ◌<◌, ◌≤◌, arith, List, [], ◌∷◌, ◌++◌, length, length-append, refl, sym, ◌∙◌, ap, subst, Bool, Option, Some, None, Result, Ok, Err, IfOk, IfErr, OnOk, OnErr, IsErrOf, ◌↔◌}
use Rattle.std.specs.Prelude.{IsTrue}
use Rattle.fault_count.specs.Rose.{Rose}
use Rattle.cache_key.specs.declared.request.Mutation.{Mutation}
use Rattle.cache_key.specs.declared.request.Reply.{Reply}
use Rattle.cache_key.specs.declared.request.Request.{Request}
use Rattle.cache_model.specs.Caches.{Caches}
use Rattle.cache_model.specs.Change.{Change, change_of}
use Rattle.cache_model.specs.Contents.{AreContentsAfter, SameContents}
use Rattle.cache_model.specs.Reply.{mutation_of, changes_in, changes_asked, reply_after}
use Rattle.cache_model.proofs.SameLemmas.{same_after_more}
use Rattle.call_trail.specs.declared.entry.Entry.{Entry}
use Rattle.call_trail.specs.declared.entry.Receipt.{Receipt}
use Rattle.call_trail.specs.declared.refusal.CallRefusal.{CallRefusal}
use Rattle.call_trail.specs.declared.refusal.CallRefusal.TheVariants as calls
use Rattle.call_trail.specs.Trails.{trail_changes, most_entries}
use Rattle.call_trail.proofs.TrailLemmas.{reply_same, changes_more}
use Rattle.disk_trait.specs.View.{View}
use Rattle.disk_lane.specs.Lanes.{LaneEvent, HasFailedOn}
use Rattle.disk_trait.specs.Moments.{Onward}
use Rattle.disk_trait.proofs.Runs.{onward_none}
use Rattle.file_kinds.specs.Kinds.{PartitionNumber}
use Rattle.kept_cell.specs.KeptCells.{KeptCell, entry_of, receipt_after, IsReadied, IsHeldBack, ReadCauses, ChangeCauses}
use Rattle.partition_cell.specs.Cells.{Cell, caches_of, flight_of, Surviving, SurvivingBefore, IsSoundCell}
use Rattle.slot_board.specs.Slots.{told_by}
use Rattle.partition_cell.specs.Entered.{record_length, HasGrown, IsNotEntered}
use Rattle.partition_cell.specs.Standing.{IsLone}
use Rattle.script_lines.specs.declared.answer.Outcome.{Outcome}
use Rattle.script_lines.specs.declared.answer.Outcome.TheVariants.{Replied, Refused}
use Rattle.script_lines.specs.declared.answer.Refusal.{Refusal}
use Rattle.script_lines.specs.declared.answer.Refusal.TheVariants as refusals
use Rattle.cluster_commands.specs.Breaks.{MutationBreaks, AskedBreaks, CallBreaks, PartBreaks}
use Rattle.cluster_commands.specs.Events.{IsRefusedFirst, IsAdmitted, AskedComesTo, CallChange, PartStep}
use Rattle.cluster_commands.specs.OnDisk.{lane_view, disks_in, IsClusterOf, IsServing, state_of, StateSteps}
use Rattle.cluster_commands.specs.Refusals.{call_refusal_at, IsServedRefusal}
use Rattle.cluster_commands.specs.State.{OpenCluster}
use Rattle.cluster_commands.specs.declared.cluster.Opened.{Opened}
use Rattle.cluster_commands.proofs.CallLemmas.{lane_onward, lane_rose, serving_on, still_readied, size, live_now, durable, not_durable, as_before, first_trail, first_room, first_version, admitted}
use Rattle.cluster_commands.proofs.EventLemmas.{counts_on}

-- two lists of changes with these contents leave the same
same_of : (changes others : List Change) (caches : Caches) → AreContentsAfter changes caches → AreContentsAfter others caches → SameContents changes others
same_of changes others caches one two = record {
  values = λ cache key. sym (one.values cache key) ∙ two.values cache key;
  presence = λ cache. sym (one.presence cache) ∙ two.presence cache;
}

contents_as : (changes others : List Change) (caches : Caches) → SameContents changes others → AreContentsAfter changes caches → AreContentsAfter others caches
contents_as changes others caches same is = record {
  names_rise = is.names_rise;
  keys_rise = is.keys_rise;
  presence = λ cache. is.presence cache ∙ same.presence cache;
  values = λ cache key. is.values cache key ∙ same.values cache key;
}

module _ {D : Type 0} (view : D → View) (o n : Opened D) (request : Request) (serving : IsServing o.kept) (same_host : n.host ≡ o.host)
    (law : AreContentsAfter (trail_changes o.kept.trail.base o.kept.trail.entries) (caches_of o.kept.cell)) (on : Onward (lane_view view (disks_in o)) (lane_view view (disks_in n))) where
  abbrev v : View
  v = lane_view view (disks_in o)

  abbrev w : View
  w = lane_view view (disks_in n)

  -- whatever the request is, by the mutation that it is
  step_to : (asked : Option Mutation) (before after : OpenCluster) (outcome : Outcome) (tells : Bool) → mutation_of request ≡ asked → AskedComesTo asked before request outcome after (Rose v.faults w.faults)
      → PartStep (state_of before v tells) request outcome (state_of after w tells)
  step_to asked before after outcome tells is comes =
      (counts_on before after v w tells on, subst (λ (a : Option Mutation). AskedComesTo a before request outcome after (Rose v.faults w.faults)) (sym is) comes)

  breaks_to : (asked : Option Mutation) (before after : OpenCluster) (tells : Bool) → mutation_of request ≡ asked → (after ≡ before) ⊎ AskedBreaks asked before after → PartBreaks (state_of before v tells) request (state_of after w tells)
  breaks_to asked before after tells is breaks =
      (counts_on before after v w tells on, ⊎_elim (λ same. inl same) (λ more. inr (subst (λ (a : Option Mutation). AskedBreaks a before after) (sym is) more)) breaks)

  -- ---- it is replied to

  module _ (reply : Reply) (right : reply ≡ reply_after (trail_changes o.kept.trail.base o.kept.trail.entries) request)
      (base : n.kept.trail.base ≡ o.kept.trail.base) (entry : Entry) (of_request : entry.request ≡ request) (entries : n.kept.trail.entries ≡ o.kept.trail.entries ++ entry ∷ [])
      (new_law : AreContentsAfter (trail_changes n.kept.trail.base n.kept.trail.entries) (caches_of n.kept.cell)) where
    model_reply : (before : OpenCluster) → IsClusterOf o before → reply ≡ reply_after before.changes request
    model_reply before is = right ∙ reply_same (trail_changes o.kept.trail.base o.kept.trail.entries) before.changes (caches_of o.kept.cell) request law is.contents

    one_more : length n.kept.trail.entries ≡ length o.kept.trail.entries + 1
    one_more = ap length entries ∙ length-append o.kept.trail.entries (entry ∷ [])

    more_changes : trail_changes n.kept.trail.base n.kept.trail.entries ≡ trail_changes o.kept.trail.base o.kept.trail.entries ++ changes_asked request
    more_changes =
        ap (λ (b : Caches). trail_changes b n.kept.trail.entries) base ∙ ap (λ (es : List Entry). trail_changes o.kept.trail.base es) entries
        ∙ changes_more o.kept.trail.base o.kept.trail.entries entry ∙ ap (λ (r : Request). trail_changes o.kept.trail.base o.kept.trail.entries ++ changes_asked r) of_request

    more_contents : (before : OpenCluster) → IsClusterOf o before → AreContentsAfter (before.changes ++ changes_asked request) (caches_of n.kept.cell)
    more_contents before is =
        let same = same_of (trail_changes o.kept.trail.base o.kept.trail.entries) before.changes (caches_of o.kept.cell) law is.contents in
        contents_as (trail_changes o.kept.trail.base o.kept.trail.entries ++ changes_asked request) (before.changes ++ changes_asked request) (caches_of n.kept.cell)
        (same_after_more (trail_changes o.kept.trail.base o.kept.trail.entries) before.changes (changes_asked request) same)
        (subst (λ (cs : List Change). AreContentsAfter cs (caches_of n.kept.cell)) more_changes new_law)

    -- a read
    pub read_replied : mutation_of request ≡ None → n.kept.cell ≡ o.kept.cell → length o.kept.trail.entries ≢ most_entries → StateSteps view o n (λ before after. PartStep before request (Replied reply) after)
    read_replied none kept room = record {
      steps = λ tells before is. (
        record before { trail = before.trail + 1 },
        record {
          host = is.host ∙ sym same_host;
          file = is.file ∙ sym (ap (λ (c : Cell D). c.store.file) kept);
          id = is.id ∙ sym (ap (λ (c : Cell D). c.store.id) kept);
          end = is.end ∙ sym (ap (λ (c : Cell D). c.store.end) kept);
          told = subst (λ (c : Cell D). before.told ≡ told_by c.board) (sym kept) is.told;
          contents = subst (λ (c : Cell D). AreContentsAfter before.changes (caches_of c)) (sym kept) is.contents;
          flight = subst (λ (c : Cell D). before.flight ≡ flight_of c) (sym kept) is.flight;
          sound = subst (λ (c : Cell D). IsTrue before.sound ↔ IsSoundCell c) (sym kept) is.sound;
          lone = λ so. subst (λ (c : Cell D). IsLone c) (sym kept) (is.lone so);
          trail = let was = is.trail in let more = one_more in omega (arith, was, more);
        },
        step_to None before (record before { trail = before.trail + 1 }) (Replied reply) tells none ((λ full. room (sym is.trail ∙ full)), model_reply before is, refl),
      );
    }

    -- a mutation
    pub mutation_replied : (mutation : Mutation) → mutation_of request ≡ Some mutation → HasGrown o.kept.cell n.kept.cell 1 (record_length mutation) → IsSoundCell n.kept.cell
        → ((before : OpenCluster) (is : IsClusterOf o before) → IsAdmitted before (size o before is) mutation) → StateSteps view o n (λ before after. PartStep before request (Replied reply) after)
    mutation_replied mutation some grown sound admits = record {
      steps = λ tells before is.
          let contents = subst (λ (a : Option Mutation). AreContentsAfter (before.changes ++ changes_in a) (caches_of n.kept.cell)) some (more_contents before is) in
          let to = durable o before is n same_host mutation serving grown contents sound one_more in
          (to.0, to.1, step_to (Some mutation) before to.0 (Replied reply) tells some (size o before is, live_now o before is, (admits before is, model_reply before is, to.2)));
    }

  -- ---- it isn't

  module _ (entries : n.kept.trail.entries ≡ o.kept.trail.entries) where
    -- a read is refused
    pub read_refused : (refusal : Refusal) → mutation_of request ≡ None → refusal ≡ refusals.TrailFull → length o.kept.trail.entries ≡ most_entries → n.kept.cell ≡ record o.kept.cell { maps = n.kept.cell.maps } → caches_of n.kept.cell ≡ caches_of o.kept.cell
        → StateSteps view o n (λ before after. PartStep before request (Refused refusal) after)
    read_refused refusal none is_full full kept same = record {
      steps = λ tells before is. (
        before,
        as_before o before is n same_host kept same entries,
        step_to None before before (Refused refusal) tells none (is.trail ∙ full, is_full, refl),
      );
    }

    -- a mutation is refused before anything is written
    pub refused_first : (mutation : Mutation) (refusal : Refusal) → mutation_of request ≡ Some mutation → ((before : OpenCluster) (is : IsClusterOf o before) → IsRefusedFirst before (size o before is) mutation refusal)
        → n.kept.cell ≡ record o.kept.cell { maps = n.kept.cell.maps } → caches_of n.kept.cell ≡ caches_of o.kept.cell → StateSteps view o n (λ before after. PartStep before request (Refused refusal) after)
    refused_first mutation refusal some why kept same = record {
      steps = λ tells before is. (
        before,
        as_before o before is n same_host kept same entries,
        step_to (Some mutation) before before (Refused refusal) tells some (size o before is, live_now o before is, inl (why before is, refl)),
      );
    }

    module _ (mutation : Mutation) (some : mutation_of request ≡ Some mutation) (sound : Bool) (decides : IsTrue sound ↔ IsSoundCell n.kept.cell) (same : caches_of n.kept.cell ≡ caches_of o.kept.cell)
        (admitted : (before : OpenCluster) (is : IsClusterOf o before) → IsAdmitted before (size o before is) mutation) where
      -- the disk failed
      pub refused_failed : (refusal : Refusal) → refusal ≡ refusals.Fault o.host → Rose v.faults w.faults → IsNotEntered o.kept.cell n.kept.cell 1 mutation → StateSteps view o n (λ before after. PartStep before request (Refused refusal) after)
      refused_failed refusal is_fault rose held = record {
        steps = λ tells before is.
            let to = not_durable o before is n same_host mutation sound decides serving held same entries in
            (to.0, to.1, step_to (Some mutation) before to.0 (Refused refusal) tells some (size o before is, live_now o before is, inr (admitted before is, is_fault ∙ ap refusals.Fault (sym is.host), rose, to.2)));
      }

      -- memory ran out in the commit, or in the renewal before it, or after one of them failed
      pub breaks_held : IsNotEntered o.kept.cell n.kept.cell 1 mutation → StateSteps view o n (λ before after. PartBreaks before request after)
      breaks_held held = record {
        steps = λ tells before is.
            let to = not_durable o before is n same_host mutation sound decides serving held same entries in
            (to.0, to.1, breaks_to (Some mutation) before to.0 tells some (inr (record { size = size o before is; live = live_now o before is; admitted = admitted before is; not_durable = to.2 })));
      }

    -- memory ran out before anything was written
    pub breaks_still : (asked : Option Mutation) → mutation_of request ≡ asked → n.kept.cell ≡ record o.kept.cell { maps = n.kept.cell.maps } → caches_of n.kept.cell ≡ caches_of o.kept.cell → StateSteps view o n (λ before after. PartBreaks before request after)
    breaks_still asked some kept same = record {
      steps = λ tells before is. (before, as_before o before is n same_host kept same entries, breaks_to asked before before tells some (inl refl));
    }

-- ---- what the call says

-- what the call of a partition says of the clusters before and after it
pub record IsAsked {D : Type 0} (view : D → View) (o n : Opened D) (number : ℕ) (request : Request) (result : Result Receipt CallRefusal) : Type 0 where
  pub receipt : IfOk result (λ receipt. receipt ≡ receipt_after o.kept 0 number request)
  pub entered : IfOk result (λ receipt. n.kept.trail.entries ≡ o.kept.trail.entries ++ entry_of receipt ∷ [])
  pub base : n.kept.trail.base ≡ o.kept.trail.base
  pub place : (n.kept.cell.owner ≡ o.kept.cell.owner) × (n.kept.cell.number ≡ o.kept.cell.number) × (n.kept.cell.moving ≡ o.kept.cell.moving)
  pub refused : OnErr result ((n.kept.trail.entries ≡ o.kept.trail.entries) × (caches_of n.kept.cell ≡ caches_of o.kept.cell))
  pub read : mutation_of request ≡ None → (n.kept.cell ≡ o.kept.cell) × ReadCauses o.kept result
  pub event : (mutation : Mutation) → mutation_of request ≡ Some mutation
      → LaneEvent view o.kept.cell.owner o.kept.cell.disks n.kept.cell.disks (λ ms. Surviving o.kept.cell ms ⊎ SurvivingBefore o.kept.cell (change_of mutation) ms)
  pub durable : (mutation : Mutation) → mutation_of request ≡ Some mutation → OnOk result (IsSoundCell n.kept.cell)
  pub grown : (mutation : Mutation) → mutation_of request ≡ Some mutation → OnOk result (HasGrown o.kept.cell n.kept.cell 1 (record_length mutation))
  pub left : (mutation : Mutation) → mutation_of request ≡ Some mutation → OnErr result (IsHeldBack o.kept.cell n.kept.cell 1 mutation)
  pub failed : (mutation : Mutation) (host : ℕ) → mutation_of request ≡ Some mutation → IsErrOf result (calls.Fault host) → IsNotEntered o.kept.cell n.kept.cell 1 mutation
  pub early : OnErr result (IsReadied o.kept.cell n.kept.cell ⊎ IsErrOf result calls.NoMemory ⊎ IsErrOf result (calls.Fault o.kept.cell.owner))
  pub causes : (mutation : Mutation) → mutation_of request ≡ Some mutation → ChangeCauses o.kept mutation result
  pub fault : (host : ℕ) → IsErrOf result (calls.Fault host) → HasFailedOn view host o.kept.cell.disks n.kept.cell.disks

-- the same of the same result
pub asked_as : {D : Type 0} (view : D → View) (o n : Opened D) (number : ℕ) (request : Request) (result other : Result Receipt CallRefusal) → result ≡ other
    → IsAsked view o n number request result → IsAsked view o n number request other
asked_as view o n number request result other same asked = subst (IsAsked view o n number request) same asked

shown_is : (found shown : Refusal) → Some found ≡ Some shown → shown ≡ found
shown_is found shown is = cc is

module _ {D : Type 0} (view : D → View) (o n : Opened D) (number : ℕ) (request : Request) (serving : IsServing o.kept) where
  -- the disk goes on
  asked_goes : (asked : Option Mutation) → mutation_of request ≡ asked → (result : Result Receipt CallRefusal) → IsAsked view o n number request result → Onward (lane_view view (disks_in o)) (lane_view view (disks_in n))
  asked_goes None none result said = subst (λ (c : Cell D). Onward (lane_view view o.kept.cell.disks) (lane_view view c.disks)) (sym (said.read none).0) (onward_none _)
  asked_goes (Some mutation) some result said =
      lane_onward view o.kept.cell.disks n.kept.cell.disks _ serving.one
      (subst (λ (h : ℕ). LaneEvent view h o.kept.cell.disks n.kept.cell.disks (λ ms. Surviving o.kept.cell ms ⊎ SurvivingBefore o.kept.cell (change_of mutation) ms)) serving.owner (said.event mutation some))

  pub asked_onward : (result : Result Receipt CallRefusal) → IsAsked view o n number request result → Onward (lane_view view (disks_in o)) (lane_view view (disks_in n))
  asked_onward result said = asked_goes (mutation_of request) refl result said

  as_many : (asked : Option Mutation) → mutation_of request ≡ asked → (result : Result Receipt CallRefusal) → IsAsked view o n number request result → length n.kept.cell.disks ≡ length o.kept.cell.disks
  as_many None none result said = ap (λ (c : Cell D). length c.disks) (said.read none).0
  as_many (Some mutation) some result said = (said.event mutation some).as_many

  pub asked_serving : (result : Result Receipt CallRefusal) → IsAsked view o n number request result → IsServing n.kept
  asked_serving result said = serving_on o.kept n.kept serving said.place.0 said.place.1 said.place.2 (as_many (mutation_of request) refl result said)

  -- a refusal is one of those that such a partition has
  served_for : (asked : Option Mutation) → mutation_of request ≡ asked → (refusal : CallRefusal) → IsAsked view o n number request (Err refusal) → IsServedRefusal refusal
  served_for asked is calls.TrailFull said = tt
  served_for asked is (calls.StoreFull live) said = tt
  served_for asked is calls.VersionEnd said = tt
  served_for asked is (calls.Fault host) said = tt
  served_for asked is calls.NoMemory said = tt
  served_for None none (calls.Suspended suspension) said = (said.read none).1.suspended suspension refl
  served_for (Some mutation) some (calls.Suspended suspension) said = (said.causes mutation some).suspended suspension refl
  served_for None none (calls.Pinned to) said = (said.read none).1.pinned to refl
  served_for (Some mutation) some (calls.Pinned to) said =
      let moves = ((said.causes mutation some).pinned to).0 refl in
      let wrong : Some moves.0 ≡ None = sym moves.1 ∙ serving.still in
      absurd (cc wrong)

  pub asked_served : (refusal : CallRefusal) → IsAsked view o n number request (Err refusal) → IsServedRefusal refusal
  asked_served refusal said = served_for (mutation_of request) refl refusal said

  module _ (same_host : n.host ≡ o.host) (law : AreContentsAfter (trail_changes o.kept.trail.base o.kept.trail.entries) (caches_of o.kept.cell)) where
    -- it is replied to
    module _ (receipt : Receipt) (said : IsAsked view o n number request (Ok receipt)) (new_law : AreContentsAfter (trail_changes n.kept.trail.base n.kept.trail.entries) (caches_of n.kept.cell)) where
      ok_for : (asked : Option Mutation) → mutation_of request ≡ asked → StateSteps view o n (λ before after. PartStep before request (Replied receipt.reply) after)
      ok_for None none =
          let read = said.read none in
          read_replied view o n request serving same_host law (asked_onward (Ok receipt) said) receipt.reply (ap (λ (r : Receipt). r.reply) said.receipt) said.base (entry_of receipt) (ap (λ (r : Receipt). r.request) said.receipt) said.entered new_law
          none read.0 (λ full. let e = read.1.trail_full.1 full in absurd (cc e))
      ok_for (Some mutation) some =
          mutation_replied view o n request serving same_host law (asked_onward (Ok receipt) said) receipt.reply (ap (λ (r : Receipt). r.reply) said.receipt) said.base (entry_of receipt) (ap (λ (r : Receipt). r.request) said.receipt) said.entered new_law
          mutation some (said.grown mutation some) (said.durable mutation some)
          (λ before is. admitted o before is serving mutation (Ok receipt) (said.causes mutation some) (λ e. absurd (cc e)) (λ size e. absurd (cc e)) (λ e. absurd (cc e)))

      pub asked_replied : StateSteps view o n (λ before after. PartStep before request (Replied receipt.reply) after)
      asked_replied = ok_for (mutation_of request) refl

    -- it isn't
    module _ (sound : Bool) (decides : IsTrue sound ↔ IsSoundCell n.kept.cell) where
      -- no disk was called, where the refusal is neither for memory nor a fault
      not_late : (refusal : CallRefusal) → IsAsked view o n number request (Err refusal) → refusal ≢ calls.NoMemory → refusal ≢ calls.Fault o.kept.cell.owner → IsReadied o.kept.cell n.kept.cell
      not_late refusal said memory fault = ⊎_elim (λ readied. readied) (λ late. ⊎_elim (λ e. absurd (memory (cc e))) (λ e. absurd (fault (cc e))) late) said.early

      refused_read : (refusal : CallRefusal) (shown : Refusal) → call_refusal_at refusal o.host ≡ Some shown → IsAsked view o n number request (Err refusal) → mutation_of request ≡ None
          → StateSteps view o n (λ before after. PartStep before request (Refused shown) after)
      refused_read calls.TrailFull shown is said none =
          let read = said.read none in
          read_refused view o n request serving same_host law (asked_onward (Err calls.TrailFull) said) said.refused.0 shown none (shown_is refusals.TrailFull shown is) (read.1.trail_full.0 refl)
          (still_readied o.kept.cell n.kept.cell read.0) said.refused.1
      refused_read (calls.StoreFull live) shown is said none = absurd ((said.read none).1.store_full live refl)
      refused_read calls.VersionEnd shown is said none = absurd ((said.read none).1.version_end refl)
      refused_read (calls.Fault host) shown is said none = absurd ((said.read none).1.fault host refl)
      refused_read calls.NoMemory shown is said none = absurd (cc is)
      refused_read (calls.Suspended suspension) shown is said none = absurd (cc is)
      refused_read (calls.Pinned to) shown is said none = absurd (cc is)

      module _ (mutation : Mutation) (some : mutation_of request ≡ Some mutation) where
        refused_change : (refusal : CallRefusal) (shown : Refusal) → call_refusal_at refusal o.host ≡ Some shown → IsAsked view o n number request (Err refusal)
            → StateSteps view o n (λ before after. PartStep before request (Refused shown) after)
        refused_change calls.TrailFull shown is said =
            refused_first view o n request serving same_host law (asked_onward (Err calls.TrailFull) said) said.refused.0 mutation shown some
            (λ before has. subst (λ (r : Refusal). IsRefusedFirst before (size o before has) mutation r) (sym (shown_is refusals.TrailFull shown is)) (first_trail o before has serving mutation (Err calls.TrailFull) (said.causes mutation some) refl))
            (not_late calls.TrailFull said (λ e. absurd (cc e)) (λ e. absurd (cc e))) said.refused.1
        refused_change (calls.StoreFull live) shown is said =
            refused_first view o n request serving same_host law (asked_onward (Err (calls.StoreFull live)) said) said.refused.0 mutation shown some
            (λ before has. subst (λ (r : Refusal). IsRefusedFirst before (size o before has) mutation r) (sym (shown_is (refusals.StoreFull live) shown is)) (first_room o before has serving mutation (Err (calls.StoreFull live)) (said.causes mutation some) live refl))
            (not_late (calls.StoreFull live) said (λ e. absurd (cc e)) (λ e. absurd (cc e))) said.refused.1
        refused_change calls.VersionEnd shown is said =
            refused_first view o n request serving same_host law (asked_onward (Err calls.VersionEnd) said) said.refused.0 mutation shown some
            (λ before has. subst (λ (r : Refusal). IsRefusedFirst before (size o before has) mutation r) (sym (shown_is refusals.VersionEnd shown is)) (first_version o before has serving mutation (Err calls.VersionEnd) (said.causes mutation some) refl))
            (not_late calls.VersionEnd said (λ e. absurd (cc e)) (λ e. absurd (cc e))) said.refused.1
        refused_change (calls.Fault host) shown is said =
            let causes = said.causes mutation some in
            refused_failed view o n request serving same_host law (asked_onward (Err (calls.Fault host)) said) said.refused.0 mutation some sound decides said.refused.1
            (λ before has. admitted o before has serving mutation (Err (calls.Fault host)) causes (λ e. absurd (cc e)) (λ length e. absurd (cc e)) (λ e. absurd (cc e)))
            shown (shown_is (refusals.Fault o.host) shown is) (lane_rose view o.kept.cell.disks n.kept.cell.disks host (causes.fault host refl ∙ serving.owner) (said.fault host refl)) (said.failed mutation host some refl)
        refused_change calls.NoMemory shown is said = absurd (cc is)
        refused_change (calls.Suspended suspension) shown is said = absurd (cc is)
        refused_change (calls.Pinned to) shown is said = absurd (cc is)

        -- it isn't answered: by what the call left
        module _ (refusal : CallRefusal) (said : IsAsked view o n number request (Err refusal)) where
          broken_still : IsReadied o.kept.cell n.kept.cell → StateSteps view o n (λ before after. PartBreaks before request after)
          broken_still readied = breaks_still view o n request serving same_host law (asked_onward (Err refusal) said) said.refused.0 (Some mutation) some readied said.refused.1

          broken_late : refusal ≢ calls.TrailFull → ((live : ℕ) → refusal ≢ calls.StoreFull live) → refusal ≢ calls.VersionEnd → StateSteps view o n (λ before after. PartBreaks before request after)
          broken_late trail store version = ⊎_elim
              (λ readied. broken_still readied)
              (λ held. breaks_held view o n request serving same_host law (asked_onward (Err refusal) said) said.refused.0 mutation some sound decides said.refused.1
              (λ before has. admitted o before has serving mutation (Err refusal) (said.causes mutation some) (λ e. trail (cc e)) (λ length e. store length (cc e)) (λ e. version (cc e))) held)
              (said.left mutation some)

        broken_change : (refusal : CallRefusal) → IsAsked view o n number request (Err refusal) → StateSteps view o n (λ before after. PartBreaks before request after)
        broken_change calls.TrailFull said = broken_still calls.TrailFull said (not_late calls.TrailFull said (λ e. absurd (cc e)) (λ e. absurd (cc e)))
        broken_change (calls.StoreFull live) said = broken_still (calls.StoreFull live) said (not_late (calls.StoreFull live) said (λ e. absurd (cc e)) (λ e. absurd (cc e)))
        broken_change calls.VersionEnd said = broken_still calls.VersionEnd said (not_late calls.VersionEnd said (λ e. absurd (cc e)) (λ e. absurd (cc e)))
        broken_change (calls.Fault host) said = broken_late (calls.Fault host) said (λ e. absurd (cc e)) (λ live e. absurd (cc e)) (λ e. absurd (cc e))
        broken_change calls.NoMemory said = broken_late calls.NoMemory said (λ e. absurd (cc e)) (λ live e. absurd (cc e)) (λ e. absurd (cc e))
        broken_change (calls.Suspended suspension) said = broken_late (calls.Suspended suspension) said (λ e. absurd (cc e)) (λ live e. absurd (cc e)) (λ e. absurd (cc e))
        broken_change (calls.Pinned to) said = broken_late (calls.Pinned to) said (λ e. absurd (cc e)) (λ live e. absurd (cc e)) (λ e. absurd (cc e))

      refused_for : (asked : Option Mutation) → mutation_of request ≡ asked → (refusal : CallRefusal) (shown : Refusal) → call_refusal_at refusal o.host ≡ Some shown → IsAsked view o n number request (Err refusal)
          → StateSteps view o n (λ before after. PartStep before request (Refused shown) after)
      refused_for None none refusal shown is said = refused_read refusal shown is said none
      refused_for (Some mutation) some refusal shown is said = refused_change mutation some refusal shown is said

      broken_for : (asked : Option Mutation) → mutation_of request ≡ asked → (refusal : CallRefusal) → IsAsked view o n number request (Err refusal) → StateSteps view o n (λ before after. PartBreaks before request after)
      broken_for None none refusal said =
          breaks_still view o n request serving same_host law (asked_onward (Err refusal) said) said.refused.0 None none (still_readied o.kept.cell n.kept.cell (said.read none).0) said.refused.1
      broken_for (Some mutation) some refusal said = broken_change mutation some refusal said

      pub asked_refused : (refusal : CallRefusal) (shown : Refusal) → call_refusal_at refusal o.host ≡ Some shown → IsAsked view o n number request (Err refusal)
          → StateSteps view o n (λ before after. PartStep before request (Refused shown) after)
      asked_refused refusal shown is said = refused_for (mutation_of request) refl refusal shown is said

      pub asked_broken : (refusal : CallRefusal) → IsAsked view o n number request (Err refusal) → StateSteps view o n (λ before after. PartBreaks before request after)
      asked_broken refusal said = broken_for (mutation_of request) refl refusal said

      -- the clauses of the call, whatever it answers
      pub refused_if : (result : Result Receipt CallRefusal) → IsAsked view o n number request result
          → IfErr result (λ refusal. (shown : Refusal) → call_refusal_at refusal n.host ≡ Some shown → StateSteps view o n (λ before after. PartStep before request (Refused shown) after))
      refused_if (Ok receipt) said = tt
      refused_if (Err refusal) said = λ shown is. asked_refused refusal shown (subst (λ (h : List ℕ). call_refusal_at refusal h ≡ Some shown) same_host is) said

      pub broken_if : (result : Result Receipt CallRefusal) → IsAsked view o n number request result → OnErr result (StateSteps view o n (λ before after. PartBreaks before request after))
      broken_if (Ok receipt) said = tt
      broken_if (Err refusal) said = asked_broken refusal said

    pub replied_if : (result : Result Receipt CallRefusal) → IsAsked view o n number request result → AreContentsAfter (trail_changes n.kept.trail.base n.kept.trail.entries) (caches_of n.kept.cell)
        → IfOk result (λ receipt. StateSteps view o n (λ before after. PartStep before request (Replied receipt.reply) after))
    replied_if (Ok receipt) said new_law = asked_replied receipt said new_law
    replied_if (Err refusal) said new_law = tt

  pub served_if : (result : Result Receipt CallRefusal) → IsAsked view o n number request result → IfErr result (λ refusal. IsServedRefusal refusal)
  served_if (Ok receipt) said = tt
  served_if (Err refusal) said = asked_served refusal said
