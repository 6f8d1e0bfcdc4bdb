-- What a renewal at a request is, as a step of the state.
use Rattle.std.proofs.Common.{◌≡◌, ◌≢◌, ◌⊎◌, inl, inr, ℕ, ◌+◌, ◌^◌, ◌<◌, ◌≤◌, arith, List, refl, sym, ◌∙◌, ap, subst, Bool, Result, Ok, Err, Some, None, IfOk, IfErr, OnOk, OnErr, IsErrOf, ◌↔◌}
use Rattle.std.specs.Prelude.{IsTrue}
use Rattle.fault_count.specs.Rose.{Rose}
use Rattle.disk_trait.specs.View.{View}
use Rattle.disk_trait.specs.Moments.{Onward}
use Rattle.call_trail.specs.Trails.{Trail}
use Rattle.disk_lane.specs.Lanes.{LaneEvent, HasFailedOn}
use Rattle.kept_cell.specs.KeptCells.{KeptCell}
use Rattle.partition_cell.specs.Cells.{Cell, caches_of, Surviving, IsSoundCell}
use Rattle.partition_cell.specs.Entered.{IsAnew, IsNotRenewed}
use Rattle.partition_cell.specs.declared.moving.Moving.{Moving}
use Rattle.partition_cell.specs.declared.refusal.MoveRefusal.{MoveRefusal}
use Rattle.partition_cell.specs.declared.refusal.MoveRefusal.TheVariants as moves
use Rattle.partition_map.specs.Extents.{Maps, caches_in}
use Rattle.slot_board.specs.Slots.{told_by}
use Rattle.store_ident.specs.declared.ident.StoreId.{StoreId}
use Rattle.script_lines.specs.declared.command.Event.TheVariants.{Renew}
use Rattle.script_lines.specs.declared.answer.Outcome.TheVariants.{Renewed, Refused}
use Rattle.script_lines.specs.declared.answer.Refusal.{Refusal}
use Rattle.script_lines.specs.declared.answer.Refusal.TheVariants as refusals
use Rattle.cluster_commands.specs.Breaks.{EventBreaks}
use Rattle.cluster_commands.specs.Events.{EventStep}
use Rattle.cluster_commands.specs.OnDisk.{lane_view, disks_in, IsClusterOf, IsServing, StateSteps}
use Rattle.cluster_commands.specs.Refusals.{renewal_refusal, IsServedMove}
use Rattle.cluster_commands.specs.State.{partition_count, OpenCluster}
use Rattle.cluster_commands.specs.declared.cluster.Opened.{Opened}
use Rattle.cluster_commands.proofs.CallLemmas.{lane_onward, lane_rose, serving_on, still_readied, size, live_now, last_version, version_last, rebuilt, not_rebuilt, as_before}
use Rattle.cluster_commands.proofs.EventLemmas.{counts_on}

-- the cluster has no such partition
pub no_partition : {D : Type 0} (view : D → View) (o : Opened D) (partition : ℕ) → partition_count ≤ partition → Onward (lane_view view (disks_in o)) (lane_view view (disks_in o))
    → StateSteps view o o (λ before after. EventStep before (Renew partition) (Refused (refusals.NoPartition partition)) after)
no_partition view o partition past on = record {
  steps = λ tells before is. (before, is, (counts_on before before (lane_view view (disks_in o)) (lane_view view (disks_in o)) tells on, (past, refl, refl)));
}

module _ {D : Type 0} (view : D → View) (o n : Opened D) (partition : ℕ) (there : partition < partition_count) (serving : IsServing o.kept) (same_host : n.host ≡ o.host) (same : caches_of n.kept.cell ≡ caches_of o.kept.cell)
    (entries : n.kept.trail.entries ≡ o.kept.trail.entries) (on : Onward (lane_view view (disks_in o)) (lane_view view (disks_in n))) where
  abbrev v : View
  v = lane_view view (disks_in o)

  abbrev w : View
  w = lane_view view (disks_in n)

  -- the store was built anew
  pub renewed : (id : StoreId) → (told_by o.kept.cell.board + 1 ≡ 2 ^ 58 → ⊥) → IsAnew o.kept.cell n.kept.cell 1 0 → IsSoundCell n.kept.cell → id ≡ n.kept.cell.store.id
      → StateSteps view o n (λ before after. EventStep before (Renew partition) (Renewed partition id) after)
  renewed id left built sound is_id = record {
    steps = λ tells before is.
        let to = rebuilt o before is n same_host serving built sound same entries in
        (to.0, to.1, (counts_on before to.0 v w tells on, (there, (λ last. left (last_version o before is last)), refl, size o before is, live_now o before is, to.2, is_id ∙ sym to.3)));
  }

  -- no version was left
  pub version_end : told_by o.kept.cell.board + 1 ≡ 2 ^ 58 → n.kept.cell ≡ record o.kept.cell { maps = n.kept.cell.maps } → StateSteps view o n (λ before after. EventStep before (Renew partition) (Refused refusals.VersionEnd) after)
  version_end last kept = record {
    steps = λ tells before is. (before, as_before o before is n same_host kept same entries, (counts_on before before v w tells on, (there, version_last o before is last, refl)));
  }

  module _ (sound : Bool) (decides : IsTrue sound ↔ IsSoundCell n.kept.cell) (left : told_by o.kept.cell.board + 1 ≡ 2 ^ 58 → ⊥) (held : IsNotRenewed o.kept.cell n.kept.cell) where
    -- the disk failed
    pub renewal_failed : (host : List ℕ) → host ≡ o.host → Rose v.faults w.faults → StateSteps view o n (λ before after. EventStep before (Renew partition) (Refused (refusals.Fault host)) after)
    renewal_failed host is_host rose = record {
      steps = λ tells before is.
          let to = not_rebuilt o before is n same_host sound decides held same entries in
          (to.0, to.1, (counts_on before to.0 v w tells on, (there, (λ last. left (last_version o before is last)), is_host ∙ sym is.host, rose, to.2)));
    }

    -- memory ran out
    pub renewal_breaks : StateSteps view o n (λ before after. EventBreaks before (Renew partition) after)
    renewal_breaks = record {
      steps = λ tells before is.
          let to = not_rebuilt o before is n same_host sound decides held same entries in
          (to.0, to.1, (counts_on before to.0 v w tells on, (there, (λ last. left (last_version o before is last)), to.2)));
    }

-- ---- what the renewal says

-- what a renewal of the partition says of the clusters before and after it
pub record IsRenewing {D : Type 0} (view : D → View) (o n : Opened D) (result : Result StoreId MoveRefusal) : Type 0 where
  pub renewed : IfOk result (λ id. (id ≡ n.kept.cell.store.id) × IsSoundCell n.kept.cell)
  pub anew : OnOk result (IsAnew o.kept.cell n.kept.cell 1 0)
  pub refused : OnErr result (IsNotRenewed o.kept.cell n.kept.cell)
  pub trail : n.kept.trail ≡ o.kept.trail
  pub kept : (n.kept.cell.maps ≡ o.kept.cell.maps) × (n.kept.cell.owner ≡ o.kept.cell.owner) × (n.kept.cell.number ≡ o.kept.cell.number) × (n.kept.cell.moving ≡ o.kept.cell.moving)
  pub event : LaneEvent view o.kept.cell.owner o.kept.cell.disks n.kept.cell.disks (Surviving o.kept.cell)
  pub busy : (to : ℕ) → IsErrOf result (moves.Busy to) ↔ ((moving : Moving) × (o.kept.cell.moving ≡ Some moving) × (moving.host ≡ to))
  pub version_end : IsErrOf result moves.VersionEnd ↔ ((o.kept.cell.moving ≡ None) × (told_by o.kept.cell.board + 1 ≡ 2 ^ 58))
  pub untouched : (IsErrOf result moves.VersionEnd ⊎ ((to : ℕ) × IsErrOf result (moves.Busy to))) → n.kept ≡ o.kept
  pub fault : (host : ℕ) → IsErrOf result (moves.Fault host) → (host ≡ o.kept.cell.owner) × HasFailedOn view host o.kept.cell.disks n.kept.cell.disks

-- the same of the same result
pub renewing_as : {D : Type 0} (view : D → View) (o n : Opened D) (result other : Result StoreId MoveRefusal) → result ≡ other → IsRenewing view o n result → IsRenewing view o n other
renewing_as view o n result other same said = subst (IsRenewing view o n) same said

refusal_shown : (found shown : Refusal) → Some found ≡ Some shown → shown ≡ found
refusal_shown found shown is = cc is

module _ {D : Type 0} (view : D → View) (o n : Opened D) (serving : IsServing o.kept) where
  pub renewing_onward : (result : Result StoreId MoveRefusal) → IsRenewing view o n result → Onward (lane_view view (disks_in o)) (lane_view view (disks_in n))
  renewing_onward result said =
      lane_onward view o.kept.cell.disks n.kept.cell.disks (Surviving o.kept.cell) serving.one (subst (λ (h : ℕ). LaneEvent view h o.kept.cell.disks n.kept.cell.disks (Surviving o.kept.cell)) serving.owner said.event)

  pub renewing_serving : (result : Result StoreId MoveRefusal) → IsRenewing view o n result → IsServing n.kept
  renewing_serving result said = serving_on o.kept n.kept serving said.kept.1 said.kept.2 said.kept.3 said.event.as_many

  not_busy : (to : ℕ) → IsRenewing view o n (Err (moves.Busy to)) → ⊥
  not_busy to said =
      let has = (said.busy to).0 refl in
      let wrong : Some has.0 ≡ None = sym has.1 ∙ serving.still in
      absurd (cc wrong)

  -- a refusal is one of those that such a partition has
  pub renewing_served : (refusal : MoveRefusal) → IsRenewing view o n (Err refusal) → IsServedMove refusal
  renewing_served moves.VersionEnd said = tt
  renewing_served (moves.Fault host) said = tt
  renewing_served moves.NoMemory said = tt
  renewing_served (moves.Busy to) said = not_busy to said

  -- a version is left, where that isn't what it is refused for
  version_left : (result : Result StoreId MoveRefusal) → IsRenewing view o n result → ¬ IsErrOf result moves.VersionEnd → told_by o.kept.cell.board + 1 ≡ 2 ^ 58 → ⊥
  version_left result said other last = other (said.version_end.1 (serving.still, last))

  contents_stay : (result : Result StoreId MoveRefusal) → IsRenewing view o n result → caches_of n.kept.cell ≡ caches_of o.kept.cell
  contents_stay result said = ap (λ (m : Maps). caches_in m.extents) said.kept.0

  module _ (partition : ℕ) (there : partition < partition_count) (same_host : n.host ≡ o.host) where
    pub renewing_done : (id : StoreId) → IsRenewing view o n (Ok id) → StateSteps view o n (λ before after. EventStep before (Renew partition) (Renewed partition id) after)
    renewing_done id said =
        renewed view o n partition there serving same_host (contents_stay (Ok id) said) (ap (λ (t : Trail). t.entries) said.trail) (renewing_onward (Ok id) said)
        id (version_left (Ok id) said (λ e. absurd (cc e))) said.anew said.renewed.1 said.renewed.0

    module _ (sound : Bool) (decides : IsTrue sound ↔ IsSoundCell n.kept.cell) where
      pub renewing_refused : (refusal : MoveRefusal) (shown : Refusal) → renewal_refusal refusal o.host ≡ Some shown → IsRenewing view o n (Err refusal)
          → StateSteps view o n (λ before after. EventStep before (Renew partition) (Refused shown) after)
      renewing_refused moves.VersionEnd shown is said =
          subst (λ (r : Refusal). StateSteps view o n (λ before after. EventStep before (Renew partition) (Refused r) after)) (sym (refusal_shown refusals.VersionEnd shown is))
          (version_end view o n partition there serving same_host (contents_stay (Err moves.VersionEnd) said) (ap (λ (t : Trail). t.entries) said.trail) (renewing_onward (Err moves.VersionEnd) said)
          (said.version_end.0 refl).1 (still_readied o.kept.cell n.kept.cell (ap (λ (k : KeptCell D). k.cell) (said.untouched (inl refl)))))
      renewing_refused (moves.Fault host) shown is said =
          let failed = said.fault host refl in
          subst (λ (r : Refusal). StateSteps view o n (λ before after. EventStep before (Renew partition) (Refused r) after)) (sym (refusal_shown (refusals.Fault o.host) shown is))
          (renewal_failed view o n partition there serving same_host (contents_stay (Err (moves.Fault host)) said) (ap (λ (t : Trail). t.entries) said.trail) (renewing_onward (Err (moves.Fault host)) said)
          sound decides (version_left (Err (moves.Fault host)) said (λ e. absurd (cc e))) said.refused o.host refl (lane_rose view o.kept.cell.disks n.kept.cell.disks host (failed.0 ∙ serving.owner) failed.1))
      renewing_refused moves.NoMemory shown is said = absurd (cc is)
      renewing_refused (moves.Busy to) shown is said = absurd (cc is)

      pub renewing_broken : (refusal : MoveRefusal) → refusal ≢ moves.VersionEnd → IsRenewing view o n (Err refusal) → StateSteps view o n (λ before after. EventBreaks before (Renew partition) after)
      renewing_broken refusal other said =
          renewal_breaks view o n partition there serving same_host (contents_stay (Err refusal) said) (ap (λ (t : Trail). t.entries) said.trail) (renewing_onward (Err refusal) said)
          sound decides (version_left (Err refusal) said (λ e. other (cc e))) said.refused

      -- the clauses of the renewal, whatever it answers
      pub renewing_refused_if : (result : Result StoreId MoveRefusal) → IsRenewing view o n result
          → IfErr result (λ refusal. (shown : Refusal) → renewal_refusal refusal n.host ≡ Some shown → StateSteps view o n (λ before after. EventStep before (Renew partition) (Refused shown) after))
      renewing_refused_if (Ok id) said = tt
      renewing_refused_if (Err refusal) said = λ shown is. renewing_refused refusal shown (subst (λ (h : List ℕ). renewal_refusal refusal h ≡ Some shown) same_host is) said

      pub renewing_broken_if : (result : Result StoreId MoveRefusal) → IsRenewing view o n result → IfErr result (λ refusal. refusal ≢ moves.VersionEnd → StateSteps view o n (λ before after. EventBreaks before (Renew partition) after))
      renewing_broken_if (Ok id) said = tt
      renewing_broken_if (Err refusal) said = λ other. renewing_broken refusal other said

    pub renewing_done_if : (result : Result StoreId MoveRefusal) → IsRenewing view o n result → IfOk result (λ id. StateSteps view o n (λ before after. EventStep before (Renew partition) (Renewed partition id) after))
    renewing_done_if (Ok id) said = renewing_done id said
    renewing_done_if (Err refusal) said = tt

  pub renewing_served_if : (result : Result StoreId MoveRefusal) → IsRenewing view o n result → IfErr result (λ refusal. IsServedMove refusal)
  renewing_served_if (Ok id) said = tt
  renewing_served_if (Err refusal) said = renewing_served refusal said
