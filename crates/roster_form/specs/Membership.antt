-- Who belongs to a cluster. Names are their bytes.
use Rattle.std.specs.Prelude.{⊤, ℕ, ◌+◌, ◌<◌, ◌≤◌, ◌^◌, List, length, slice_get, Option, Some, None, All}
use Rattle.cache_key.specs.Names.{IsName}
use Rattle.cache_model.specs.Contents.{IsRising}
use Rattle.roster_form.specs.declared.roster.Roster.{Roster}

-- a host, by its name
abbrev pub Host : Type 0
Host = List ℕ

-- the most hosts of a roster
abbrev pub most_hosts : ℕ
most_hosts = 16

-- epochs are below this
abbrev pub epoch_end : ℕ
epoch_end = 2 ^ 58

-- the host with this index, if there is an index and such a host
abbrev pub host_at : List Host → Option ℕ → Option Host
host_at hosts None = None
host_at hosts (Some index) = slice_get hosts index

-- the host that is still joining, if one is
abbrev pub joining_host : Roster → Option Host
joining_host roster = host_at roster.hosts roster.joining

-- the index is that of a host, and there is an epoch in which the host has joined
abbrev pub MayJoin : ℕ → List Host → Option ℕ → Type 0
MayJoin epoch hosts None = ⊤
MayJoin epoch hosts (Some index) = (index < length hosts) × (epoch + 1 < epoch_end)

-- the limits of a roster; its hosts rise in byte order, so that each stands once
pub record IsRoster (roster : Roster) : Type 0 where
  pub least : 1 ≤ roster.epoch
  pub below : roster.epoch < epoch_end
  pub some : 1 ≤ length roster.hosts
  pub most : length roster.hosts ≤ most_hosts
  pub names : All IsName roster.hosts
  pub rise : IsRising roster.hosts
  pub joining : MayJoin roster.epoch roster.hosts roster.joining
  pub partitions : roster.partitions < 2 ^ 16
