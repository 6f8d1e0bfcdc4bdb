-- Who is a member of a cluster, and whose change is pending.
use Rattle.std.specs.Prelude.{◌+◌, List, [], slice_get, Option, Some, None, Bool, not, ◌&&◌}
use Rattle.std.specs.List.{filter}
use Rattle.cache_model.specs.Caches.{same}
use Rattle.roster_form.specs.Membership.{Host, joining_host}
use Rattle.roster_form.specs.Choice.{is_host}
use Rattle.roster_form.specs.declared.roster.Roster.{Roster}
use Rattle.roster_form.specs.Succession.{Rosters, last_finished}
use Rattle.cluster_model.specs.Site.{is_among}

-- whether it is another host
abbrev pub is_other : Host → Host → Bool
is_other host other = not (same host other)

-- the roster after a leave of this host
abbrev pub left_by : Roster → Host → Roster
left_by last host = record { epoch = last.epoch + 1; hosts = filter (is_other host) last.hosts; joining = None; partitions = last.partitions }

abbrev pub hosts_or_none : Option Roster → List Host
hosts_or_none None = []
hosts_or_none (Some roster) = roster.hosts

abbrev pub joining_or_none : Option Roster → Option Host
joining_or_none None = None
joining_or_none (Some roster) = joining_host roster

abbrev pub either_host : Option Host → Option Host → Option Host
either_host None other = other
either_host (Some host) other = Some host

-- the host whose join is pending, by the roster being written and the last finished one
abbrev pub pending_join_by : Option Roster → Option Roster → Option Host
pending_join_by None last = None
pending_join_by (Some new) last = either_host (joining_host new) (joining_or_none last)

abbrev pub pending_join : Rosters → Option Host
pending_join rosters = pending_join_by rosters.writing (last_finished rosters)

-- the host whose leave is pending: where no join is, the one that the roster being written lacks
abbrev pub pending_leave_by : Option Roster → Option Roster → Option Host → Option Host
pending_leave_by None last joining = None
pending_leave_by (Some new) last None = slice_get (filter (λ host. not (is_among new.hosts host)) (hosts_or_none last)) 0
pending_leave_by (Some new) last (Some joining) = None

abbrev pub pending_leave : Rosters → Option Host
pending_leave rosters = pending_leave_by rosters.writing (last_finished rosters) (pending_join rosters)

-- a host of the last finished roster that has joined and isn't leaving
abbrev pub is_member : Rosters → Host → Bool
is_member rosters host =
    is_among (hosts_or_none (last_finished rosters)) host && not (is_host (joining_or_none (last_finished rosters)) host) && not (is_host (pending_leave rosters) host)
