use Rattle.std.proofs.Common.{◌≡◌, take}
use Rattle.cache_key.proofs.hosts.copy_hosts.Given as goal

-- the hosts so far
abbrev pub invariant-loop-host : goal.invariant-loop-host
invariant-loop-host l = l.copied.items ≡ take l.host-index l.hosts
