-- What a member knows of its cluster: the last finished roster, and a change that is pending.
use Rattle.std.specs.Prelude.{ℕ, List, Option, Some, None}
use Rattle.std.specs.List.{remove}
use Rattle.roster_form.specs.Membership.{Host, joining_host}
use Rattle.roster_form.specs.declared.roster.Roster.{Roster}

-- an epoch, the hosts that are members in it, and the host whose join or leave isn't finished, if there is one
pub record Standing : Type 0 where
  pub epoch : ℕ
  pub members : List Host
  pub pending : Option Host

-- the hosts but the one with this index
abbrev pub hosts_but : Option ℕ → List Host → List Host
hosts_but None hosts = hosts
hosts_but (Some index) hosts = remove hosts index

-- the hosts of a roster that have joined
abbrev pub members_of : Roster → List Host
members_of roster = hosts_but roster.joining roster.hosts

-- what a roster that each of its hosts has says: a host that is joining in it is no member yet, and its join is pending
abbrev pub standing_of : Roster → Standing
standing_of roster = record { epoch = roster.epoch; members = members_of roster; pending = joining_host roster }
