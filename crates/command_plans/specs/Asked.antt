-- What is asked of a cluster and of its partitions, and what is answered. Hosts are named; partitions are numbered from 0.
use Rattle.std.specs.Prelude.{ℕ, List, Bool}
use Rattle.cache_key.specs.declared.request.Request.{Request}
use Rattle.cache_key.specs.declared.request.Reply.{Reply}
use Rattle.cache_model.specs.Caches.{Caches}
use Rattle.roster_form.specs.Membership.{Host}
use Rattle.store_ident.specs.declared.ident.StoreId.{StoreId}

-- what a step asks of one partition, or of all of them
pub data SiteEvent : Type 0 where
  -- a request to a cache, in each partition that has a part of it
  call : Request → SiteEvent
  -- the store of a partition is built anew
  renew : ℕ → SiteEvent
  -- the store of a partition begins to move to a host
  begin : ℕ → Host → SiteEvent
  -- the next record of a moving store is written, or its closed gate
  copy : ℕ → SiteEvent
  -- what was written of it is synced
  settle : ℕ → SiteEvent
  -- it is sealed, and commits go to it
  seal : ℕ → SiteEvent
  -- the file that it moved from is erased
  drop_file : ℕ → SiteEvent
  -- its move is given up
  give_up : ℕ → SiteEvent

-- what a line of a script asks of the cluster
pub data SiteCommand : Type 0 where
  create : Host → SiteCommand
  recover : List Host → SiteCommand
  stop : SiteCommand
  dump : SiteCommand
  steps : List SiteEvent → SiteCommand
  join : Host → SiteCommand
  leave : Host → SiteCommand

-- why something wasn't carried out
pub data SiteRefusal : Type 0 where
  -- no cluster is open; or one is
  no_cluster : SiteRefusal
  cluster_open : SiteRefusal
  -- the site has no such host, or the host is no member
  not_member : Host → SiteRefusal
  -- a disk of this host failed
  fault_of : Host → SiteRefusal
  -- this host has a roster already; no host that is present has one; these hosts have to come back
  created_before : Host → SiteRefusal
  not_created : SiteRefusal
  short_of : List Host → SiteRefusal
  -- the roster in this file of the host leaves its form at this offset
  damaged_roster : Host → ℕ → ℕ → SiteRefusal
  -- no host of the cluster has a store of this partition; or the host's store of it, in this file, leaves its form at this offset
  no_store : ℕ → SiteRefusal
  damaged_store : Host → ℕ → ℕ → ℕ → SiteRefusal
  -- the cluster has no partition of this number
  no_partition : ℕ → SiteRefusal
  -- the store is moving to this host, so nothing may be changed; or so no other move may begin
  pinned_to : Host → SiteRefusal
  busy_to : Host → SiteRefusal
  -- the trail has no room; the store has none, which would be so long; no version is left
  trail_full : SiteRefusal
  store_full : ℕ → SiteRefusal
  version_ended : SiteRefusal
  -- the host has the store already; the store isn't moving; so many items aren't written; what was written isn't synced
  same_host : SiteRefusal
  not_moving : SiteRefusal
  not_whole : ℕ → SiteRefusal
  not_settled : SiteRefusal
  -- a join or leave of this host isn't finished; it has joined; it is the only one; it owns this partition; no epoch is left
  change_pending : Host → SiteRefusal
  already_member : SiteRefusal
  last_host : SiteRefusal
  owns_partition : ℕ → SiteRefusal
  epoch_ended : SiteRefusal

-- the contents of one partition, with the host of its store and the store's identifier
pub record PartitionShown : Type 0 where
  pub caches : Caches
  pub host : Host
  pub id : StoreId

-- what is answered where one plan is carried out
pub data SiteAnswer : Type 0 where
  refused : SiteRefusal → SiteAnswer
  created : Host → SiteAnswer
  -- at this epoch, with these hosts and so many partitions
  recovered : ℕ → List Host → ℕ → SiteAnswer
  stopped : SiteAnswer
  dumped : List PartitionShown → SiteAnswer
  -- at this epoch
  joined : ℕ → Host → SiteAnswer
  left_by_host : ℕ → Host → SiteAnswer
  replied : Reply → SiteAnswer
  -- of a partition: its new store; where it moves to; whether its copy is whole; or that it is done
  renewed : ℕ → StoreId → SiteAnswer
  begun_to : ℕ → Host → SiteAnswer
  copied : ℕ → Bool → SiteAnswer
  settled_at : ℕ → SiteAnswer
  sealed : ℕ → StoreId → SiteAnswer
  dropped : ℕ → SiteAnswer
  given_up : ℕ → SiteAnswer

-- the answer to a command: that of its plan, or the outcomes of its events, in their order
pub data CommandAnswer : Type 0 where
  answered : SiteAnswer → CommandAnswer
  stepped : List SiteAnswer → CommandAnswer
