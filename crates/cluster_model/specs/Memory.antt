-- What only memory has of the partitions of an open cluster, and the next store of one.
use Rattle.std.specs.Prelude.{ℕ, ◌+◌, ◌≤◌, ◌==◌, ◌||◌, max, List, [], ◌∷◌, Option, Some, None, Bool, false, Contains, if◌then◌else◌}
use Rattle.cache_model.specs.Change.{Change}
use Rattle.roster_form.specs.declared.roster.Roster.{Roster}
use Rattle.roster_form.specs.Succession.{last_finished}
use Rattle.cluster_model.specs.Lane.{HostedStore, LaneStanding, choices}
use Rattle.cluster_model.specs.Site.{SiteShape}
use Rattle.cluster_model.specs.Agreement.{Durable}

-- what doesn't change in a run: the site, the offset of the closed gate in a store that is built of these contents, the number of
-- its items, and the bytes that a change's record takes
pub record Setting : Type 0 where
  pub shape : SiteShape
  pub gate : List Change → ℕ
  pub items : List Change → ℕ
  pub taken : Change → ℕ

-- a store on its way to another host: how many items aren't written yet, whether its closed gate is, whether it was synced
pub record MoveState : Type 0 where
  pub to : ℕ
  pub left : ℕ
  pub whole : Bool
  pub settled : Bool

-- of one partition: the greatest version that a store of it was given, its move, where an old file waits to be dropped, and
-- how many changes it had when it was suspended
pub record PartState : Type 0 where
  pub told : ℕ
  pub move : Option MoveState
  pub waits : Option ℕ
  pub mark : Option ℕ

-- ---- versions

-- the epoch that new stores get
abbrev pub epoch_or_none : Option Roster → ℕ
epoch_or_none None = 0
epoch_or_none (Some roster) = roster.epoch

-- a store of these contents with the next version, on this host
abbrev pub next_store : Setting → Durable → ℕ → PartState → ℕ → List Change → HostedStore
next_store setting durable partition part host changes = record {
  host = host;
  id = record { partition = partition; version = part.told + 1; epoch = epoch_or_none (last_finished durable.rosters); host = host };
  changes = changes;
  end = setting.gate changes;
}

-- the greatest version among these stores and this one
abbrev pub greatest_version : List HostedStore → ℕ → ℕ
greatest_version [] least = least
greatest_version (store ∷ stores) least = greatest_version stores (max least store.id.version)

-- each partition was told the versions of the stores that may be found
abbrev pub with_told : List LaneStanding → List PartState → List PartState
with_told [] parts = []
with_told (standing ∷ standings) [] = []
with_told (standing ∷ standings) (part ∷ parts) =
    record { told = greatest_version (choices standing) part.told; move = part.move; waits = part.waits; mark = part.mark } ∷ with_told standings parts

-- no store that may be found has a greater version than the partition was told
abbrev pub IsTold : LaneStanding → PartState → Type 0
IsTold standing part = (store : HostedStore) → Contains (choices standing) store → store.id.version ≤ part.told

-- ---- owners

-- a store of the partition is on its way to this host
abbrev pub moves_to : Option MoveState → ℕ → Bool
moves_to None host = false
moves_to (Some move) host = move.to == host

-- the first partition that the host owns, or to which one moves, where the first one has this number
abbrev pub first_owned : ℕ → ℕ → List LaneStanding → List PartState → Option ℕ
first_owned host partition [] parts = None
first_owned host partition (standing ∷ standings) [] = None
first_owned host partition (standing ∷ standings) (part ∷ parts) =
    if standing.store.host == host || moves_to part.move host then Some partition else first_owned host (partition + 1) standings parts
