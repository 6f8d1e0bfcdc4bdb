-- The plans of what is asked of one partition: a request, a renewal, and the steps of a move.
use Rattle.std.specs.Prelude.{ℕ, ◌+◌, ◌-◌, ◌*◌, ◌==◌, nat_lt, nat_le, List, [], ◌∷◌, ◌++◌, length, Option, Some, None, Bool, true, false, not, ◌&&◌, ◌||◌, if◌then◌else◌}
use Rattle.std.specs.List.{filter}
use Rattle.call_trail.specs.Trails.{most_entries}
use Rattle.cache_key.specs.declared.request.Mutation.{Mutation}
use Rattle.cache_key.specs.declared.request.Request.{Request}
use Rattle.cache_model.specs.Change.{Change, change_of}
use Rattle.cache_model.specs.PlainList.{growth_of}
use Rattle.cache_model.specs.Reply.{reply_after}
use Rattle.partition_cell.specs.Limits.{spare_length, most_live}
use Rattle.record_form.specs.HeaderText.{version_end}
use Rattle.roster_form.specs.Membership.{Host}
use Rattle.cluster_model.specs.Lane.{HostedStore, LaneStanding}
use Rattle.cluster_model.specs.Site.{SiteShape, lane_disk, numbers_of}
use Rattle.cluster_model.specs.Agreement.{Durable, hosts_in, two_of}
use Rattle.cluster_model.specs.Members.{is_member}
use Rattle.cluster_model.specs.Memory.{Setting, MoveState, PartState, next_store}
use Rattle.cluster_model.specs.Acts.{Act, quiet, appends, seals}
use Rattle.command_plans.specs.Asked.{SiteRefusal, not_member, no_partition, pinned_to, busy_to, trail_full, store_full, version_ended, same_host, not_moving, not_whole, not_settled, refused, replied, renewed, begun_to, copied, settled_at, sealed, dropped, given_up}
use Rattle.command_plans.specs.Stage.{OpenSite, opened, Goes, goes_on}
use Rattle.command_plans.specs.Plan.{Plan, answers_with, ◌or_first◌, refuses_if, refuses_by, refused_or, number_of, name_of, open_with, open_as, with_part, with_entered, with_move, with_waits}

-- ---- a partition that is open

-- one partition of an open cluster: its number, what it stands for, its state in memory, and the length of its trail
pub record OpenPart : Type 0 where
  pub partition : ℕ
  pub standing : LaneStanding
  pub state : PartState
  pub trail : ℕ

-- refused, with nothing changed
abbrev pub refused_at : OpenSite → SiteRefusal → Plan
refused_at site refusal = answers_with site.durable (goes_on (opened site)) (refused refusal)

-- the host of this number is one of a roster that may pass
abbrev pub is_recorded : SiteShape → Durable → ℕ → Bool
is_recorded shape durable host = nat_lt 0 (length (filter (λ number. number == host) (numbers_of shape.hosts (hosts_in (two_of durable.rosters)))))

-- nothing is in flight, and no recorded host has a store in doubt
abbrev pub is_sound : Setting → Durable → LaneStanding → Bool
is_sound setting durable standing = length (filter (λ store. is_recorded setting.shape durable store.host) standing.perhaps) == 0

-- the length of a store that has these contents alone
abbrev pub live_length : Setting → LaneStanding → ℕ
live_length setting standing = setting.gate standing.store.changes + 1

-- the store has to be built anew before a commit: it isn't sound, or it is longer than twice what its contents need, and 65,536 bytes
abbrev pub is_due : Setting → Durable → LaneStanding → Bool
is_due setting durable standing = not (is_sound setting durable standing) || nat_lt (2 * live_length setting standing + spare_length) standing.store.end

-- no version is left
abbrev pub is_last_version : PartState → Bool
is_last_version part = nat_le version_end (part.told + 1)

-- the host to which the store moves
abbrev pub moving_to : SiteShape → Option MoveState → Option Host
moving_to shape None = None
moving_to shape (Some move) = Some (name_of shape move.to)

-- the store built anew, on its own host
abbrev pub renewed_store : Setting → OpenSite → OpenPart → HostedStore
renewed_store setting site part = next_store setting site.durable part.partition part.state part.standing.store.host part.standing.store.changes

-- it is built, and then sealed
abbrev pub renewal_acts : Setting → OpenSite → OpenPart → List Act
renewal_acts setting site part = quiet (lane_disk part.partition part.standing.store.host) ∷ seals part.partition (renewed_store setting site part) ∷ []

-- ---- a request

-- the mutation may lengthen a store of the contents past the limit
abbrev pub is_full_for : Setting → LaneStanding → Mutation → Bool
is_full_for setting standing mutation = nat_lt 0 (growth_of mutation) && nat_lt most_live (live_length setting standing + growth_of mutation)

-- a commit: where that is due the store is built anew, and then the change is added to it
abbrev pub commit_acts : Setting → OpenSite → OpenPart → Change → List Act
commit_acts setting site part change =
    (if is_due setting site.durable part.standing then renewal_acts setting site part else []) ++ appends part.partition part.standing.store.host (change ∷ []) (setting.taken change) ∷ []

-- a request that changes nothing: only the trail may refuse it
abbrev pub read_plan : OpenSite → OpenPart → Request → Plan
read_plan site part request =
    refused_or (refuses_if (part.trail == most_entries) trail_full) (goes_on (opened site))
    (answers_with site.durable (open_with site (with_entered site.memory part.partition) site.durable) (replied (reply_after part.standing.store.changes request)))

-- a mutation: refused while the store moves, where the trail is full, where the store has no room, and where no version is left for one that is due
abbrev pub write_plan : Setting → OpenSite → OpenPart → Request → Mutation → Plan
write_plan setting site part request mutation =
    refused_or
    (refuses_by (moving_to setting.shape part.state.move) pinned_to or_first refuses_if (part.trail == most_entries) trail_full
    or_first refuses_if (is_full_for setting part.standing mutation) (store_full (live_length setting part.standing))
    or_first refuses_if (is_due setting site.durable part.standing && is_last_version part.state) version_ended)
    (goes_on (opened site))
    (record {
      durable = site.durable;
      acts = commit_acts setting site part (change_of mutation);
      answer = replied (reply_after part.standing.store.changes request);
      done_goes = open_with site (with_entered site.memory part.partition);
      failed_goes = open_as site;
    })

abbrev pub asked_plan : Setting → OpenSite → OpenPart → Request → Option Mutation → Plan
asked_plan setting site part request None = read_plan site part request
asked_plan setting site part request (Some mutation) = write_plan setting site part request mutation

-- ---- a renewal, and the steps of a move

-- refused while the store moves, and where no version is left
abbrev pub renew_plan : Setting → OpenSite → OpenPart → Plan
renew_plan setting site part =
    refused_or (refuses_by (moving_to setting.shape part.state.move) busy_to or_first refuses_if (is_last_version part.state) version_ended) (goes_on (opened site))
    (record {
      durable = site.durable;
      acts = renewal_acts setting site part;
      answer = renewed part.partition (renewed_store setting site part).id;
      done_goes = open_as site;
      failed_goes = open_as site;
    })

-- the partition's state is another, and the cluster goes on
abbrev pub goes_with : OpenSite → OpenPart → (PartState → PartState) → Durable → Goes
goes_with site part change = open_with site (with_part site.memory part.partition change)

-- all items are still to be written; an old file that waited is forgotten
abbrev pub with_begun : Setting → OpenPart → ℕ → PartState → PartState
with_begun setting part to old = with_waits None (with_move (Some (record { to = to; left = setting.items part.standing.store.changes; whole = false; settled = false })) old)

-- refused where the host is no member, while the store moves, where the host has it, and where no version is left
abbrev pub begin_plan : Setting → OpenSite → OpenPart → Host → Plan
begin_plan setting site part host =
    refused_or
    (refuses_if (not (is_member site.durable.rosters host)) (not_member host) or_first refuses_by (moving_to setting.shape part.state.move) busy_to
    or_first refuses_if (number_of setting.shape.hosts host == part.standing.store.host) same_host or_first refuses_if (is_last_version part.state) version_ended)
    (goes_on (opened site))
    (record {
      durable = site.durable;
      acts = quiet (lane_disk part.partition (number_of setting.shape.hosts host)) ∷ [];
      answer = begun_to part.partition host;
      done_goes = goes_with site part (with_begun setting part (number_of setting.shape.hosts host));
      failed_goes = open_as site;
    })

-- one record of 64 items or of the rest, or the closed gate
abbrev pub copied_more : MoveState → MoveState
copied_more move = record { to = move.to; left = move.left - 64; whole = move.left == 0; settled = move.settled }

abbrev pub synced : MoveState → MoveState
synced move = record { to = move.to; left = move.left; whole = move.whole; settled = true }

-- the next record is written; after the closed gate nothing is
abbrev pub copy_plan : OpenSite → OpenPart → MoveState → Plan
copy_plan site part move = record {
  durable = site.durable;
  acts = if move.whole then [] else quiet (lane_disk part.partition move.to) ∷ [];
  answer = copied part.partition (move.left == 0);
  done_goes = goes_with site part (with_move (Some (copied_more move)));
  failed_goes = goes_with site part (with_move None);
}

-- refused where the closed gate isn't written
abbrev pub settle_plan : OpenSite → OpenPart → MoveState → Plan
settle_plan site part move =
    refused_or (refuses_if (not move.whole) (not_whole move.left)) (goes_on (opened site))
    (record {
      durable = site.durable;
      acts = quiet (lane_disk part.partition move.to) ∷ [];
      answer = settled_at part.partition;
      done_goes = goes_with site part (with_move (Some (synced move)));
      failed_goes = goes_with site part (with_move None);
    })

-- the store that was moved
abbrev pub moved_store : Setting → OpenSite → OpenPart → MoveState → HostedStore
moved_store setting site part move = next_store setting site.durable part.partition part.state move.to part.standing.store.changes

-- refused where the closed gate isn't written, or isn't synced; then the old file waits to be dropped
abbrev pub seal_plan : Setting → OpenSite → OpenPart → MoveState → Plan
seal_plan setting site part move =
    refused_or (refuses_if (not move.whole) (not_whole move.left) or_first refuses_if (not move.settled) not_settled) (goes_on (opened site))
    (record {
      durable = site.durable;
      acts = seals part.partition (moved_store setting site part move) ∷ [];
      answer = sealed part.partition (moved_store setting site part move).id;
      done_goes = goes_with site part (λ old. with_waits (Some part.standing.store.host) (with_move None old));
      failed_goes = goes_with site part (with_move None);
    })

abbrev pub give_up_plan : OpenSite → OpenPart → Plan
give_up_plan site part = answers_with site.durable (goes_with site part (with_move None) site.durable) (given_up part.partition)

-- a step of a move, where one is under way
abbrev pub moving_plan : OpenSite → Option MoveState → (MoveState → Plan) → Plan
moving_plan site None plan = refused_at site not_moving
moving_plan site (Some move) plan = plan move

-- the file that the store moved from is erased, where one waits; a fault leaves it waiting
abbrev pub drop_plan : OpenSite → OpenPart → Option ℕ → Plan
drop_plan site part None = refused_at site not_moving
drop_plan site part (Some host) = record {
  durable = site.durable;
  acts = quiet (lane_disk part.partition host) ∷ [];
  answer = dropped part.partition;
  done_goes = goes_with site part (with_waits None);
  failed_goes = open_as site;
}

-- ---- a partition by its number

-- the partition of this number, if the cluster has one
abbrev pub part_with : ℕ → Option LaneStanding → Option PartState → Option ℕ → Option OpenPart
part_with partition (Some standing) (Some state) (Some trail) = Some (record { partition = partition; standing = standing; state = state; trail = trail })
part_with partition standing state trail = None

-- the plan on the partition; refused where there is none of this number
abbrev pub plan_on : OpenSite → ℕ → Option OpenPart → (OpenPart → Plan) → Plan
plan_on site partition None plan = refused_at site (no_partition partition)
plan_on site partition (Some part) plan = plan part
