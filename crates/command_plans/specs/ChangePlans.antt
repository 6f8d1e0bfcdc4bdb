-- The plans of a join and of a leave.
use Rattle.std.specs.Prelude.{ℕ, ◌+◌, ◌==◌, nat_lt, nat_le, List, [], ◌∷◌, ◌++◌, map, length, Option, Some, None, is_some, not, if◌then◌else◌}
use Rattle.std.specs.List.{filter}
use Rattle.std.specs.Ordering.{nat_cmp, is_lt}
use Rattle.std.specs.Cmp.Lexicographic.{slice_cmp}
use Rattle.roster_form.specs.Membership.{Host, epoch_end, joining_host}
use Rattle.roster_form.specs.Choice.{is_host}
use Rattle.roster_form.specs.declared.roster.Roster.{Roster}
use Rattle.roster_form.specs.Succession.{Rosters, last_finished}
use Rattle.cluster_model.specs.Site.{SiteShape, is_among, lane_disk}
use Rattle.cluster_model.specs.Agreement.{Durable}
use Rattle.cluster_model.specs.Members.{is_other, left_by, hosts_or_none, pending_join, pending_leave, is_member}
use Rattle.cluster_model.specs.Memory.{Setting, epoch_or_none, first_owned}
use Rattle.cluster_model.specs.Acts.{SiteHost, Act, quiet, clears}
use Rattle.cluster_model.specs.Turns.{change_acts, rest_acts}
use Rattle.command_plans.specs.Asked.{not_member, change_pending, already_member, last_host, owns_partition, epoch_ended, SiteAnswer, refused, joined, left_by_host}
use Rattle.command_plans.specs.Stage.{OpenSite, opened, Goes, goes_on}
use Rattle.command_plans.specs.Plan.{Plan, answers_with, ◌or_first◌, refuses_if, refuses_by, refused_or, number_of, host_named, numbers_below, open_with, open_as, with_waits}
use Rattle.command_plans.specs.PartPlans.{refused_at}

-- ---- the next roster

-- with one host more, in byte order
abbrev pub with_host : Host → List Host → List Host
with_host host [] = host ∷ []
with_host host (first ∷ hosts) = if is_lt (slice_cmp nat_cmp host first) then host ∷ first ∷ hosts else first ∷ with_host host hosts

-- the roster in which this host is joining
abbrev pub joined_by : Roster → Host → Roster
joined_by last host = record {
  epoch = last.epoch + 1;
  hosts = with_host host last.hosts;
  joining = Some (number_of (with_host host last.hosts) host);
  partitions = last.partitions;
}

-- the roster in which the joining host has joined
abbrev pub settled_from : Roster → Roster
settled_from last = record { epoch = last.epoch + 1; hosts = last.hosts; joining = None; partitions = last.partitions }

-- ---- to whom a roster is written

-- this host comes last
abbrev pub with_last : Host → List Host → List Host
with_last host hosts = filter (is_other host) hosts ++ host ∷ []

-- where a host is joining, it comes last
abbrev pub in_turn : Option Host → List Host → List Host
in_turn None hosts = hosts
in_turn (Some joining) hosts = with_last joining hosts

-- these hosts of the site, by their names
abbrev pub hosts_named : SiteShape → List Host → List SiteHost
hosts_named shape names = map (host_named shape) names

-- where a host is joining, the roster in which it has joined is written to the same hosts
abbrev pub settle_acts : Roster → Option Host → List SiteHost → List Act
settle_acts last None hosts = []
settle_acts last (Some joining) hosts = change_acts (settled_from last) hosts

-- a change that was begun goes on, and of a join the second roster follows
abbrev pub going_on_acts : Durable → Roster → List SiteHost → List Act
going_on_acts durable new hosts = rest_acts new hosts durable.sights ++ settle_acts new (joining_host new) hosts

-- the epoch at its end
abbrev pub end_epoch : Roster → ℕ
end_epoch new = if is_some (joining_host new) then new.epoch + 1 else new.epoch

-- ---- refusals

-- a change of another host is pending
abbrev pub other_pending : Host → Option Host → Option Host
other_pending host None = None
other_pending host (Some one) = if is_other host one then Some one else None

-- a change goes on: its roster goes to those hosts that may lack it, the changing host last
abbrev pub going_on_plan : Setting → OpenSite → Host → SiteAnswer → Option Roster → Plan
going_on_plan setting site host answer None = answers_with site.durable (goes_on (opened site)) answer
going_on_plan setting site host answer (Some new) = record {
  durable = site.durable;
  acts = going_on_acts site.durable new (hosts_named setting.shape (with_last host (hosts_or_none (last_finished site.durable.rosters))));
  answer = answer;
  done_goes = open_as site;
  failed_goes = open_as site;
}

-- ---- a join

-- the disks of one host in every lane
abbrev pub lanes_of_host : SiteShape → Host → List Act
lanes_of_host shape host = map (λ partition. quiet (lane_disk partition (number_of shape.hosts host))) (numbers_below shape.partitions)

-- the host's files are cleared, in every lane and then on its service disk
abbrev pub clearing_acts : SiteShape → Host → List Act
clearing_acts shape host = lanes_of_host shape host ++ clears (host_named shape host) ∷ []

-- the host's two rosters, each written to every host of it
abbrev pub join_acts : SiteShape → Roster → Host → List Act
join_acts shape last host =
    change_acts (joined_by last host) (hosts_named shape (with_last host (joined_by last host).hosts))
    ++ change_acts (settled_from (joined_by last host)) (hosts_named shape (with_last host (joined_by last host).hosts))

-- a join begins: the host is cleared, and then, where two epochs are left, its rosters are written
abbrev pub new_join_plan : Setting → OpenSite → Host → Option Roster → Plan
new_join_plan setting site host None = refused_at site (not_member host)
new_join_plan setting site host (Some last) = record {
  durable = site.durable;
  acts = clearing_acts setting.shape host ++ (if nat_lt (last.epoch + 2) epoch_end then join_acts setting.shape last host else []);
  answer = if nat_lt (last.epoch + 2) epoch_end then joined (last.epoch + 2) host else refused epoch_ended;
  done_goes = open_as site;
  failed_goes = open_as site;
}

abbrev pub epoch_of_join : Rosters → Option Roster → ℕ
epoch_of_join rosters None = epoch_or_none (last_finished rosters)
epoch_of_join rosters (Some new) = end_epoch new

-- Refused where the site has no such host, while another host's change or its own leave is pending, and where it is a member; a
-- pending join of this host goes on.
abbrev pub join_plan : Setting → OpenSite → Host → Plan
join_plan setting site host =
    refused_or
    (refuses_if (not (is_among setting.shape.hosts host)) (not_member host) or_first refuses_by (pending_leave site.durable.rosters) change_pending
    or_first refuses_by (other_pending host (pending_join site.durable.rosters)) change_pending or_first refuses_if (is_member site.durable.rosters host) already_member)
    (goes_on (opened site))
    (if is_host (pending_join site.durable.rosters) host
    then going_on_plan setting site host (joined (epoch_of_join site.durable.rosters site.durable.rosters.writing) host) site.durable.rosters.writing
    else new_join_plan setting site host (last_finished site.durable.rosters))

-- ---- a leave

-- no old file waits at this host any more
abbrev pub without_waiting : ℕ → Option ℕ → Option ℕ
without_waiting host None = None
without_waiting host (Some waits) = if waits == host then None else Some waits

abbrev pub after_leave : OpenSite → ℕ → Durable → Goes
after_leave site host = open_with site (record { parts = map (λ part. with_waits (without_waiting host part.waits) part) site.memory.parts; trails = site.memory.trails })

-- a leave begins: the roster without the host is written to every host of the last one
abbrev pub new_leave_plan : Setting → OpenSite → Host → Option Roster → Plan
new_leave_plan setting site host None = refused_at site (not_member host)
new_leave_plan setting site host (Some last) =
    refused_or
    (refuses_if (length last.hosts == 1) last_host or_first refuses_by (first_owned (number_of setting.shape.hosts host) 0 site.durable.standings site.memory.parts) owns_partition
    or_first refuses_if (nat_le epoch_end (last.epoch + 1)) epoch_ended)
    (goes_on (opened site))
    (record {
      durable = site.durable;
      acts = change_acts (left_by last host) (hosts_named setting.shape (with_last host last.hosts));
      answer = left_by_host (last.epoch + 1) host;
      done_goes = after_leave site (number_of setting.shape.hosts host);
      failed_goes = open_as site;
    })

-- a pending leave goes on
abbrev pub leave_again_plan : Setting → OpenSite → Host → Option Roster → Plan
leave_again_plan setting site host None = refused_at site (not_member host)
leave_again_plan setting site host (Some new) = record {
  durable = site.durable;
  acts = going_on_acts site.durable new (hosts_named setting.shape (with_last host (hosts_or_none (last_finished site.durable.rosters))));
  answer = left_by_host new.epoch host;
  done_goes = after_leave site (number_of setting.shape.hosts host);
  failed_goes = open_as site;
}

-- Refused where the host is no member, while another change is pending, where it is the only one, where it owns a partition or
-- one moves to it, and where no epoch is left; a pending leave of this host goes on.
abbrev pub leave_plan : Setting → OpenSite → Host → Plan
leave_plan setting site host =
    if is_host (pending_leave site.durable.rosters) host
    then leave_again_plan setting site host site.durable.rosters.writing
    else refused_or
    (refuses_if (not (is_member site.durable.rosters host)) (not_member host) or_first refuses_by (pending_join site.durable.rosters) change_pending
    or_first refuses_by (pending_leave site.durable.rosters) change_pending)
    (goes_on (opened site))
    (new_leave_plan setting site host (last_finished site.durable.rosters))
