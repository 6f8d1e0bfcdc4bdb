-- Worked runs, computed from the definitions: sites of one to three hosts, with one or two partitions.
use Rattle.std.proofs.Common.{◌≡◌, ℕ, zero, suc, List, [], ◌∷◌, ◌++◌, Some, None, true, false, refl}
use Rattle.cache_key.specs.declared.request.Request.TheVariants.{Get, Put, Remove, Ensure, Destroy, PutAll, Size}
use Rattle.cache_model.specs.Change.{Change, put}
use Rattle.cache_key.specs.declared.request.Reply.TheVariants.{Value, Count, Done}
use Rattle.store_ident.specs.declared.ident.StoreId.{StoreId}
use Rattle.roster_form.specs.Membership.{Host}
use Rattle.roster_form.specs.Shown.{Sights}
use Rattle.roster_form.specs.declared.roster.Roster.{Roster}
use Rattle.cluster_model.specs.Memory.{Setting}
use Rattle.command_plans.specs.Asked.{call, renew, begin, copy, settle, seal, drop_file, give_up, create, recover, stop, dump, join, leave, no_cluster, cluster_open, not_member, fault_of, created_before, not_created, short_of, damaged_roster, no_store, damaged_store, no_partition, pinned_to, busy_to, trail_full, store_full, version_ended, same_host, not_moving, not_whole, not_settled, change_pending, already_member, last_host, owns_partition, epoch_ended, SiteAnswer, refused, created, recovered, stopped, dumped, joined, left_by_host, replied, renewed, begun_to, copied, settled_at, sealed, dropped, given_up}
use Rattle.command_plans.specs.Canonical.{canonical_setting}
use Rattle.command_plans.specs.Found.{FileSight, not_sealed, without_header, damaged_from, has_store, RosterDamage, FoundSite}
use Rattle.command_plans.specs.Stage.{RunStage, found_as, closed, opened}
use Rattle.command_plans.specs.Steps.{nothing_kept}
use Rattle.command_plans.proofs.WorkedRuns.{Try, runs, fails_in, event, event_fails_in, Pick, oldest, newest, answers_of_run}

abbrev pub a : Host
a = 97 ∷ []

abbrev pub b : Host
b = 98 ∷ []

abbrev pub c : Host
c = 99 ∷ []

abbrev pub site : List Host → Setting
site hosts = canonical_setting (record { hosts = hosts; partitions = 1 })

-- the answers of a run over empty disks
abbrev answers : List Host → Pick → List Try → List SiteAnswer
answers hosts pick tries = answers_of_run (site hosts) pick (closed nothing_kept) tries

abbrev id : ℕ → ℕ → ℕ → StoreId
id version epoch host = record { partition = 0; version = version; epoch = epoch; host = host }

-- the key a of cache c gets this value; what it has; that it has this
abbrev pub put_a : ℕ → Try
put_a value = event (call (Put c a (value ∷ [])))

abbrev get_a : Try
get_a = event (call (Get c a))

abbrev is : ℕ → SiteAnswer
is value = replied (Value (Some (value ∷ [])))

abbrev is_none : SiteAnswer
is_none = replied (Value None)

-- the dump of the one partition, with this value at its key
abbrev shows : ℕ → Host → StoreId → SiteAnswer
shows value host at = dumped (record { caches = (c, (a, value ∷ []) ∷ []) ∷ []; host = host; id = at } ∷ [])

-- ---- stops at rest, and what a put that failed leaves

at_rest : answers (a ∷ []) oldest (runs dump ∷ runs (create a) ∷ runs dump ∷ put_a 1 ∷ runs stop ∷ runs dump ∷ runs (recover (a ∷ [])) ∷ get_a ∷ runs dump ∷ event (renew 0) ∷ [])
    ≡ refused no_cluster ∷ created a ∷ dumped [] ∷ is_none ∷ stopped ∷ refused no_cluster ∷ recovered 1 (a ∷ []) 1 ∷ is 1 ∷ shows 1 a (id 1 1 0) ∷ renewed 0 (id 2 1 0) ∷ []
at_rest = refl

-- a stop shows the put that failed or it doesn't
a_put_that_failed_is_lost : answers (a ∷ []) oldest (runs (create a) ∷ event_fails_in (call (Put c a (1 ∷ []))) 0 ∷ get_a ∷ runs stop ∷ runs (recover (a ∷ [])) ∷ get_a ∷ runs dump ∷ [])
    ≡ created a ∷ refused (fault_of a) ∷ is_none ∷ stopped ∷ recovered 1 (a ∷ []) 1 ∷ is_none ∷ dumped [] ∷ []
a_put_that_failed_is_lost = refl

a_put_that_failed_is_there : answers (a ∷ []) newest (runs (create a) ∷ event_fails_in (call (Put c a (1 ∷ []))) 0 ∷ get_a ∷ runs stop ∷ runs (recover (a ∷ [])) ∷ get_a ∷ runs dump ∷ [])
    ≡ created a ∷ refused (fault_of a) ∷ is_none ∷ stopped ∷ recovered 1 (a ∷ []) 1 ∷ is 1 ∷ shows 1 a (id 1 1 0) ∷ []
a_put_that_failed_is_there = refl

-- the next put builds the store anew, and the one that failed is in no store
a_put_after_one_that_failed : answers (a ∷ []) newest (runs (create a) ∷ event_fails_in (call (Put c a (1 ∷ []))) 0 ∷ put_a 2 ∷ get_a ∷ runs stop ∷ runs (recover (a ∷ [])) ∷ runs dump ∷ [])
    ≡ created a ∷ refused (fault_of a) ∷ is_none ∷ is 2 ∷ stopped ∷ recovered 1 (a ∷ []) 1 ∷ shows 2 a (id 2 1 0) ∷ []
a_put_after_one_that_failed = refl

-- what a request replies after others
replies : answers (a ∷ []) oldest (runs (create a) ∷ event (call (Remove c a)) ∷ put_a 1 ∷ put_a 1 ∷ event (call (Remove c a)) ∷ event (call (Remove c a)) ∷ event (call (PutAll c ((a, 1 ∷ []) ∷ (a, 2 ∷ []) ∷ []))) ∷ get_a ∷ event (call (Size c)) ∷ [])
    ≡ created a ∷ is_none ∷ is_none ∷ is 1 ∷ is 1 ∷ is_none ∷ replied Done ∷ is 2 ∷ replied (Count 1) ∷ []
replies = refl

-- ---- short quorums

-- three hosts; the store moves to the third; two of them aren't enough, and nothing is written then
a_short_quorum : answers (a ∷ b ∷ c ∷ []) oldest
    (runs (create a) ∷ runs (join b) ∷ runs (join c) ∷ event (begin 0 c) ∷ event (copy 0) ∷ event (settle 0) ∷ event (seal 0) ∷ event (drop_file 0) ∷ runs stop ∷ runs (recover (a ∷ b ∷ [])) ∷ runs (recover (c ∷ b ∷ a ∷ c ∷ [])) ∷ [])
    ≡ created a ∷ joined 3 b ∷ joined 5 c ∷ begun_to 0 c ∷ copied 0 true ∷ settled_at 0 ∷ sealed 0 (id 2 5 2) ∷ dropped 0 ∷ stopped ∷ refused (short_of (c ∷ [])) ∷ recovered 5 (a ∷ b ∷ c ∷ []) 1 ∷ []
a_short_quorum = refl

-- a host that the site lacks is named, the first of them, before anything is read
a_stranger : answers (a ∷ b ∷ []) oldest (runs (recover (a ∷ c ∷ [])) ∷ runs (create c) ∷ runs (recover (a ∷ [])) ∷ runs (create a) ∷ runs stop ∷ runs (recover (b ∷ [])) ∷ runs (create b) ∷ runs (recover (a ∷ [])) ∷ runs (create a) ∷ runs (recover (a ∷ [])) ∷ runs (join c) ∷ [])
    ≡ refused (not_member c) ∷ refused (not_member c) ∷ refused not_created ∷ created a ∷ stopped ∷ refused not_created ∷ refused (created_before a) ∷ recovered 1 (a ∷ []) 1 ∷ refused cluster_open ∷ refused cluster_open ∷ refused (not_member c) ∷ []
a_stranger = refl

-- a recovery whose read fails is done again; so is one whose load fails
a_recovery_that_failed : answers (a ∷ []) oldest (runs (create a) ∷ put_a 1 ∷ runs stop ∷ fails_in (recover (a ∷ [])) 0 ∷ fails_in (recover (a ∷ [])) 1 ∷ runs (recover (a ∷ [])) ∷ get_a ∷ [])
    ≡ created a ∷ is_none ∷ stopped ∷ refused (fault_of a) ∷ refused (fault_of a) ∷ recovered 1 (a ∷ []) 1 ∷ is 1 ∷ []
a_recovery_that_failed = refl

-- ---- creations

-- a creation fails at its roster: it was forgotten, and another one makes the cluster
a_creation_that_is_forgotten : answers (a ∷ b ∷ []) oldest (fails_in (create a) 4 ∷ runs (recover (a ∷ [])) ∷ runs (create b) ∷ runs stop ∷ runs (create a) ∷ runs (recover (a ∷ [])) ∷ runs (recover (b ∷ [])) ∷ runs dump ∷ [])
    ≡ refused (fault_of a) ∷ refused not_created ∷ created b ∷ stopped ∷ refused (created_before b) ∷ refused not_created ∷ recovered 1 (b ∷ []) 1 ∷ dumped [] ∷ []
a_creation_that_is_forgotten = refl

-- or it was made, and is empty
a_creation_that_is_there : answers (a ∷ b ∷ []) newest (fails_in (create a) 4 ∷ runs (create b) ∷ runs (recover (b ∷ a ∷ [])) ∷ runs dump ∷ put_a 1 ∷ runs dump ∷ [])
    ≡ refused (fault_of a) ∷ refused (created_before a) ∷ recovered 1 (a ∷ []) 1 ∷ dumped [] ∷ is_none ∷ shows 1 a (id 1 1 0) ∷ []
a_creation_that_is_there = refl

-- it fails before its roster: no host shows one, whatever a restart takes
a_creation_before_its_roster : answers (a ∷ b ∷ []) newest (fails_in (create a) 2 ∷ runs (recover (a ∷ b ∷ [])) ∷ runs (create a) ∷ [])
    ≡ refused (fault_of a) ∷ refused not_created ∷ created a ∷ []
a_creation_before_its_roster = refl

-- ---- moves and seals

-- the steps of a move, and what each refuses
steps_of_a_move : answers (a ∷ b ∷ []) oldest
    (runs (create a) ∷ runs (join b) ∷ put_a 1 ∷ event (begin 0 b) ∷ event (settle 0) ∷ put_a 2 ∷ get_a ∷ event (begin 0 b) ∷ event (renew 0) ∷ event (copy 0) ∷ event (copy 0) ∷ event (copy 0) ∷ event (seal 0) ∷ event (give_up 0) ∷ event (copy 0) ∷ event (settle 0) ∷ event (seal 0) ∷ event (drop_file 0) ∷ event (give_up 0) ∷ put_a 2 ∷ [])
    ≡ created a ∷ joined 3 b ∷ is_none ∷ begun_to 0 b ∷ refused (not_whole 1) ∷ refused (pinned_to b) ∷ is 1 ∷ refused (busy_to b) ∷ refused (busy_to b) ∷ copied 0 false ∷ copied 0 true ∷ copied 0 true ∷ refused not_settled ∷ given_up 0 ∷ refused not_moving
    ∷ refused not_moving ∷ refused not_moving ∷ refused not_moving ∷ refused not_moving ∷ is 1 ∷ []
steps_of_a_move = refl

-- what a begin refuses, and a number past the partitions
what_a_begin_refuses : answers (a ∷ b ∷ []) oldest (runs (create a) ∷ event (begin 1 b) ∷ event (begin 0 b) ∷ event (begin 0 a) ∷ event (renew 1) ∷ event (copy 1) ∷ event (settle 1) ∷ event (seal 1) ∷ event (drop_file 1) ∷ event (give_up 1) ∷ [])
    ≡ created a ∷ refused (no_partition 1) ∷ refused (not_member b) ∷ refused same_host ∷ refused (no_partition 1) ∷ refused (no_partition 1) ∷ refused (no_partition 1) ∷ refused (no_partition 1) ∷ refused (no_partition 1) ∷ refused (no_partition 1) ∷ []
what_a_begin_refuses = refl

-- a move to b and back; b leaves and joins again
there_and_back : answers (a ∷ b ∷ []) oldest
    (runs (create a) ∷ runs (join b) ∷ put_a 1 ∷ event (begin 0 b) ∷ event (copy 0) ∷ event (copy 0) ∷ event (settle 0) ∷ event (seal 0) ∷ event (drop_file 0) ∷ runs (leave b)
    ∷ event (begin 0 a) ∷ event (copy 0) ∷ event (copy 0) ∷ event (settle 0) ∷ event (seal 0) ∷ runs (leave b) ∷ event (drop_file 0) ∷ put_a 2 ∷ runs (join b) ∷ runs stop ∷ runs (recover (a ∷ b ∷ [])) ∷ runs dump ∷ event (renew 0) ∷ [])
    ≡ created a ∷ joined 3 b ∷ is_none ∷ begun_to 0 b ∷ copied 0 false ∷ copied 0 true ∷ settled_at 0 ∷ sealed 0 (id 2 3 1) ∷ dropped 0 ∷ refused (owns_partition 0)
    ∷ begun_to 0 a ∷ copied 0 false ∷ copied 0 true ∷ settled_at 0 ∷ sealed 0 (id 3 3 0) ∷ left_by_host 4 b ∷ refused not_moving ∷ is 1 ∷ joined 6 b ∷ stopped ∷ recovered 6 (a ∷ b ∷ []) 1 ∷ shows 2 a (id 3 3 0) ∷ renewed 0 (id 4 6 0) ∷ []
there_and_back = refl

-- the seal of a move fails: a stop shows the old store, or the new one
abbrev a_seal_fails : List Try
a_seal_fails = runs (create a) ∷ runs (join b) ∷ put_a 1 ∷ event (begin 0 b) ∷ event (copy 0) ∷ event (copy 0) ∷ event (settle 0) ∷ event_fails_in (seal 0) 0 ∷ []

abbrev until_the_seal : List SiteAnswer
until_the_seal = created a ∷ joined 3 b ∷ is_none ∷ begun_to 0 b ∷ copied 0 false ∷ copied 0 true ∷ settled_at 0 ∷ refused (fault_of b) ∷ []

a_seal_that_failed_is_lost : answers (a ∷ b ∷ []) oldest (a_seal_fails ++ runs stop ∷ runs (recover (a ∷ b ∷ [])) ∷ runs dump ∷ event (renew 0) ∷ [])
    ≡ until_the_seal ++ stopped ∷ recovered 3 (a ∷ b ∷ []) 1 ∷ shows 1 a (id 1 1 0) ∷ renewed 0 (id 2 3 0) ∷ []
a_seal_that_failed_is_lost = refl

a_seal_that_failed_is_there : answers (a ∷ b ∷ []) newest (a_seal_fails ++ runs stop ∷ runs (recover (a ∷ b ∷ [])) ∷ runs dump ∷ event (renew 0) ∷ [])
    ≡ until_the_seal ++ stopped ∷ recovered 3 (a ∷ b ∷ []) 1 ∷ shows 1 b (id 2 3 1) ∷ renewed 0 (id 3 3 1) ∷ []
a_seal_that_failed_is_there = refl

-- a put after it builds the store anew first, with a greater version than the one in doubt
a_put_after_a_seal_that_failed : answers (a ∷ b ∷ []) newest (a_seal_fails ++ put_a 2 ∷ runs stop ∷ runs (recover (a ∷ b ∷ [])) ∷ runs dump ∷ [])
    ≡ until_the_seal ++ is 1 ∷ stopped ∷ recovered 3 (a ∷ b ∷ []) 1 ∷ shows 2 a (id 3 3 0) ∷ []
a_put_after_a_seal_that_failed = refl

-- a store in doubt on a host that has left counts for nothing: the next put isn't preceded by a build
a_doubt_that_leaves : answers (a ∷ b ∷ []) newest (a_seal_fails ++ runs (leave b) ∷ put_a 2 ∷ runs dump ∷ runs stop ∷ runs (recover (a ∷ [])) ∷ runs dump ∷ [])
    ≡ until_the_seal ++ left_by_host 4 b ∷ is 1 ∷ shows 2 a (id 1 1 0) ∷ stopped ∷ recovered 4 (a ∷ []) 1 ∷ shows 2 a (id 1 1 0) ∷ []
a_doubt_that_leaves = refl

-- a copy that fails ends the move, and so does a settle; nothing is in doubt then
a_copy_that_failed : answers (a ∷ b ∷ []) newest (runs (create a) ∷ runs (join b) ∷ event (begin 0 b) ∷ event_fails_in (copy 0) 0 ∷ event (copy 0) ∷ event (begin 0 b) ∷ event (copy 0) ∷ event_fails_in (settle 0) 0 ∷ event (seal 0) ∷ event_fails_in (begin 0 b) 0 ∷ put_a 1 ∷ runs dump ∷ [])
    ≡ created a ∷ joined 3 b ∷ begun_to 0 b ∷ refused (fault_of b) ∷ refused not_moving ∷ begun_to 0 b ∷ copied 0 true ∷ refused (fault_of b) ∷ refused not_moving ∷ refused (fault_of b) ∷ is_none ∷ shows 1 a (id 1 1 0) ∷ []
a_copy_that_failed = refl

-- the file that waits to be dropped waits on after a fault
a_drop_that_failed : answers (a ∷ b ∷ []) newest (runs (create a) ∷ runs (join b) ∷ event (begin 0 b) ∷ event (copy 0) ∷ event (settle 0) ∷ event (seal 0) ∷ event_fails_in (drop_file 0) 0 ∷ event (drop_file 0) ∷ event (drop_file 0) ∷ [])
    ≡ created a ∷ joined 3 b ∷ begun_to 0 b ∷ copied 0 true ∷ settled_at 0 ∷ sealed 0 (id 2 3 1) ∷ refused (fault_of a) ∷ dropped 0 ∷ refused not_moving ∷ []
a_drop_that_failed = refl

-- a renewal fails while its store is built, or at its seal, which has given its version
a_renewal_that_failed : answers (a ∷ []) oldest (runs (create a) ∷ put_a 1 ∷ event_fails_in (renew 0) 0 ∷ event (renew 0) ∷ event_fails_in (renew 0) 1 ∷ event (renew 0) ∷ [])
    ≡ created a ∷ is_none ∷ refused (fault_of a) ∷ renewed 0 (id 2 1 0) ∷ refused (fault_of a) ∷ renewed 0 (id 4 1 0) ∷ []
a_renewal_that_failed = refl

-- ---- joins

-- the first roster of a join fails at the second host, which has to come back then, whatever a stop shows
a_join_that_failed : answers (a ∷ b ∷ c ∷ []) oldest (runs (create a) ∷ runs (join b) ∷ fails_in (join c) 4 ∷ runs (leave a) ∷ runs (join b) ∷ runs stop ∷ runs (recover (a ∷ c ∷ [])) ∷ runs (recover (a ∷ b ∷ c ∷ [])) ∷ [])
    ≡ created a ∷ joined 3 b ∷ refused (fault_of b) ∷ refused (change_pending c) ∷ refused (change_pending c) ∷ stopped ∷ refused (short_of (b ∷ [])) ∷ recovered 5 (a ∷ b ∷ c ∷ []) 1 ∷ []
a_join_that_failed = refl

a_join_that_is_seen : answers (a ∷ b ∷ c ∷ []) newest (runs (create a) ∷ runs (join b) ∷ fails_in (join c) 4 ∷ runs stop ∷ runs (recover (a ∷ c ∷ [])) ∷ runs (recover (a ∷ b ∷ c ∷ [])) ∷ [])
    ≡ created a ∷ joined 3 b ∷ refused (fault_of b) ∷ stopped ∷ refused (short_of (b ∷ [])) ∷ recovered 5 (a ∷ b ∷ c ∷ []) 1 ∷ []
a_join_that_is_seen = refl

-- it fails at the first host: then it may be forgotten
a_join_that_is_forgotten : answers (a ∷ b ∷ c ∷ []) oldest (runs (create a) ∷ runs (join b) ∷ fails_in (join c) 3 ∷ runs stop ∷ runs (recover (a ∷ b ∷ [])) ∷ runs (join c) ∷ runs (join c) ∷ [])
    ≡ created a ∷ joined 3 b ∷ refused (fault_of a) ∷ stopped ∷ recovered 3 (a ∷ b ∷ []) 1 ∷ joined 5 c ∷ refused already_member ∷ []
a_join_that_is_forgotten = refl

-- it goes on without clearing the host again
a_join_that_goes_on : answers (a ∷ b ∷ c ∷ []) oldest (runs (create a) ∷ runs (join b) ∷ fails_in (join c) 4 ∷ runs (leave c) ∷ runs (join c) ∷ runs (leave c) ∷ [])
    ≡ created a ∷ joined 3 b ∷ refused (fault_of b) ∷ refused (not_member c) ∷ joined 5 c ∷ left_by_host 6 c ∷ []
a_join_that_goes_on = refl

-- its second roster fails: stores have the epoch of the first by then
a_join_that_goes_on_late : answers (a ∷ b ∷ []) oldest (runs (create a) ∷ fails_in (join b) 8 ∷ event (begin 0 b) ∷ event (renew 0) ∷ runs (join b) ∷ event (begin 0 b) ∷ [])
    ≡ created a ∷ refused (fault_of b) ∷ refused (not_member b) ∷ renewed 0 (id 2 2 0) ∷ joined 3 b ∷ begun_to 0 b ∷ []
a_join_that_goes_on_late = refl

-- clearing the host fails: no change is pending
a_clearing_that_failed : answers (a ∷ b ∷ []) oldest (runs (create a) ∷ fails_in (join b) 0 ∷ fails_in (join b) 1 ∷ runs (join b) ∷ runs (join a) ∷ [])
    ≡ created a ∷ refused (fault_of b) ∷ refused (fault_of b) ∷ joined 3 b ∷ refused already_member ∷ []
a_clearing_that_failed = refl

-- ---- leaves

what_a_leave_refuses : answers (a ∷ b ∷ c ∷ []) oldest (runs (create a) ∷ runs (leave b) ∷ runs (leave a) ∷ runs (join b) ∷ runs (leave a) ∷ event (begin 0 b) ∷ runs (leave b) ∷ event (give_up 0) ∷ runs (leave b) ∷ [])
    ≡ created a ∷ refused (not_member b) ∷ refused last_host ∷ joined 3 b ∷ refused (owns_partition 0) ∷ begun_to 0 b ∷ refused (owns_partition 0) ∷ given_up 0 ∷ left_by_host 4 b ∷ []
what_a_leave_refuses = refl

-- its roster fails at the host that stays: the host is no member meanwhile, and a stop may forget the leave
a_leave_that_is_forgotten : answers (a ∷ b ∷ []) oldest (runs (create a) ∷ runs (join b) ∷ fails_in (leave b) 1 ∷ event (begin 0 b) ∷ put_a 1 ∷ runs stop ∷ runs (recover (a ∷ [])) ∷ runs (recover (b ∷ a ∷ [])) ∷ [])
    ≡ created a ∷ joined 3 b ∷ refused (fault_of a) ∷ refused (not_member b) ∷ is_none ∷ stopped ∷ refused (short_of (b ∷ [])) ∷ recovered 3 (a ∷ b ∷ []) 1 ∷ []
a_leave_that_is_forgotten = refl

a_leave_that_is_seen : answers (a ∷ b ∷ []) newest (runs (create a) ∷ runs (join b) ∷ fails_in (leave b) 1 ∷ runs stop ∷ runs (recover (a ∷ [])) ∷ [])
    ≡ created a ∷ joined 3 b ∷ refused (fault_of a) ∷ stopped ∷ recovered 4 (a ∷ []) 1 ∷ []
a_leave_that_is_seen = refl

a_leave_that_goes_on : answers (a ∷ b ∷ []) oldest (runs (create a) ∷ runs (join b) ∷ fails_in (leave b) 2 ∷ runs (join b) ∷ runs (leave b) ∷ runs stop ∷ runs (recover (a ∷ [])) ∷ [])
    ≡ created a ∷ joined 3 b ∷ refused (fault_of b) ∷ refused (change_pending b) ∷ left_by_host 4 b ∷ stopped ∷ recovered 4 (a ∷ []) 1 ∷ []
a_leave_that_goes_on = refl

-- ---- what stands in the way of a change: a full trail, a full store, no version, no epoch

abbrev member_roster : ℕ → List Host → Roster
member_roster epoch hosts = record { epoch = epoch; hosts = hosts; joining = None; partitions = 1 }

-- a cluster at a and b in this epoch, whose partition was told this version, and has so many calls in its trail
abbrev open_at : ℕ → ℕ → ℕ → RunStage
open_at epoch told trail = opened (record {
  durable = record {
    rosters = record { finished = member_roster epoch (a ∷ b ∷ []) ∷ []; writing = None };
    sights = λ host. Some (member_roster epoch (a ∷ b ∷ [])) ∷ [];
    standings = record { store = record { host = 0; id = id told 1 0; changes = []; end = 131072 }; perhaps = [] } ∷ [];
  };
  memory = record { parts = record { told = told; move = None; waits = None; mark = None } ∷ []; trails = trail ∷ [] };
  known = true;
})

abbrev from : RunStage → List Try → List SiteAnswer
from stage tries = answers_of_run (site (a ∷ b ∷ c ∷ [])) oldest stage tries

-- a full trail refuses a read, too
a_full_trail : from (open_at 3 1 1048575) (get_a ∷ get_a ∷ put_a 1 ∷ event (call (Size c)) ∷ event (renew 0) ∷ []) ≡ is_none ∷ refused trail_full ∷ refused trail_full ∷ refused trail_full ∷ renewed 0 (id 2 3 0) ∷ []
a_full_trail = refl

-- without a version left nothing may be built; so a put that has to build first is refused
no_version_left : from (open_at 3 288230376151711743 0) (put_a 1 ∷ event (renew 0) ∷ event (begin 0 b) ∷ get_a ∷ []) ≡ refused version_ended ∷ refused version_ended ∷ refused version_ended ∷ is_none ∷ []
no_version_left = refl

-- without an epoch left the host that was to join is cleared, and no roster is written
no_epoch_left : from (open_at 288230376151711742 1 0) (runs (join c) ∷ fails_in (join c) 1 ∷ runs (leave b) ∷ runs (join b) ∷ []) ≡ refused epoch_ended ∷ refused (fault_of c) ∷ left_by_host 288230376151711743 b ∷ refused epoch_ended ∷ []
no_epoch_left = refl

-- where a store of the contents is so long already, a change that lengthens it is refused, and one that doesn't is not
abbrev long_site : Setting
long_site = record { shape = record { hosts = a ∷ []; partitions = 1 }; gate = λ changes. 67108849; items = λ changes. 1; taken = λ change. 15 }

a_full_store : answers_of_run long_site oldest (closed nothing_kept) (runs (create a) ∷ put_a 1 ∷ event (call (Remove c a)) ∷ event (call (Destroy c)) ∷ event (call (Ensure c)) ∷ event (call (PutAll c [])) ∷ [])
    ≡ created a ∷ refused (store_full 67108850) ∷ is_none ∷ replied Done ∷ replied Done ∷ replied Done ∷ []
a_full_store = refl

-- ---- several partitions: the parts of a request, by rising partition

abbrev two_partitions : Pick → List Try → List SiteAnswer
two_partitions pick tries = answers_of_run (canonical_setting (record { hosts = a ∷ b ∷ []; partitions = 2 })) pick (closed nothing_kept) tries

-- key a is in partition 0, and key b in partition 1
parts_of_requests : two_partitions oldest (runs (create a) ∷ event (call (PutAll c ((b, 9 ∷ []) ∷ (a, 1 ∷ []) ∷ []))) ∷ event (call (Size c)) ∷ event (call (Get c b)) ∷ event (renew 1) ∷ runs dump ∷ [])
    ≡ created a ∷ replied Done ∷ replied (Count 2) ∷ is 9 ∷ renewed 1 (record { partition = 1; version = 2; epoch = 1; host = 0 })
    ∷ dumped (record { caches = (c, (a, 1 ∷ []) ∷ []) ∷ []; host = a; id = id 1 1 0 } ∷ record { caches = (c, (b, 9 ∷ []) ∷ []) ∷ []; host = a; id = record { partition = 1; version = 2; epoch = 1; host = 0 } } ∷ []) ∷ []
parts_of_requests = refl

-- the first part fails, so the second isn't done; while partition 1 moves, the part of partition 0 is done and that of 1 is refused
parts_that_stop : two_partitions oldest (runs (create a) ∷ runs (join b) ∷ event_fails_in (call (PutAll c ((a, 1 ∷ []) ∷ (b, 9 ∷ []) ∷ []))) 0 ∷ event (call (Size c)) ∷ event (begin 1 b) ∷ event (call (PutAll c ((a, 1 ∷ []) ∷ (b, 9 ∷ []) ∷ []))) ∷ event (call (Size c)) ∷ [])
    ≡ created a ∷ joined 3 b ∷ refused (fault_of a) ∷ replied (Count 0) ∷ begun_to 1 b ∷ refused (pinned_to b) ∷ replied (Count 1) ∷ []
parts_that_stop = refl

-- ---- what a run finds as it begins

abbrev none_seen : Sights
none_seen host = None ∷ []

-- a and b show the roster of this epoch, and the files of the one partition are these: of a, and of b
abbrev files_with : FileSight → FileSight → FileSight → ℕ → ℕ → FileSight
files_with a0 a1 b0 zero zero = a0
files_with a0 a1 b0 zero (suc file) = a1
files_with a0 a1 b0 (suc host) zero = b0
files_with a0 a1 b0 (suc host) (suc file) = not_sealed

abbrev found_with : List RosterDamage → ℕ → FileSight → FileSight → FileSight → FoundSite
found_with damages epoch a0 a1 b0 = record {
  sights = λ host. Some (member_roster epoch (a ∷ b ∷ [])) ∷ [];
  damages = damages;
  files = λ partition. files_with a0 a1 b0;
}

abbrev store_at : ℕ → ℕ → List Change → FileSight
store_at host version changes = has_store (record { host = host; id = id version 3 host; changes = changes; end = 60 })

abbrev one : List Change
one = put c a (49 ∷ []) ∷ []

abbrev other : List Change
other = put c a (50 ∷ []) ∷ []

abbrev found_runs : FoundSite → List Try → List SiteAnswer
found_runs found tries = answers_of_run (site (a ∷ b ∷ [])) oldest (found_as found) tries

-- no roster and no store: nothing was created
nothing_is_found : found_runs (record { sights = none_seen; damages = []; files = λ partition host file. not_sealed }) (runs dump ∷ runs (recover (a ∷ b ∷ [])) ∷ runs (create b) ∷ runs stop ∷ runs (recover (b ∷ [])) ∷ [])
    ≡ refused no_cluster ∷ refused not_created ∷ created b ∷ stopped ∷ recovered 1 (b ∷ []) 1 ∷ []
nothing_is_found = refl

-- a damaged roster of a present host is refused, even where no host shows one; and a create is
a_roster_is_damaged : found_runs (record { sights = none_seen; damages = record { host = b; file = 1; offset = 7 } ∷ []; files = λ partition host file. not_sealed }) (runs (recover (a ∷ b ∷ [])) ∷ runs (recover (a ∷ [])) ∷ runs (create a) ∷ [])
    ≡ refused (damaged_roster b 1 7) ∷ refused not_created ∷ refused (created_before b) ∷ []
a_roster_is_damaged = refl

-- no file of the partition is sealed
no_store_is_found : found_runs (found_with [] 3 not_sealed not_sealed not_sealed) (runs (recover (a ∷ [])) ∷ runs (recover (a ∷ b ∷ [])) ∷ runs (create a) ∷ []) ≡ refused (short_of (b ∷ [])) ∷ refused (no_store 0) ∷ refused (created_before a) ∷ []
no_store_is_found = refl

-- the newest is damaged, or is another partition's; an older one doesn't count
the_newest_is_damaged : found_runs (found_with [] 3 (store_at 0 2 one) not_sealed (damaged_from 5 58)) (runs (recover (a ∷ b ∷ [])) ∷ runs (recover (a ∷ b ∷ [])) ∷ []) ≡ refused (damaged_store b 0 0 58) ∷ refused (damaged_store b 0 0 58) ∷ []
the_newest_is_damaged = refl

another_partition's : found_runs (found_with [] 3 (damaged_from 2 9) not_sealed (store_at 1 1 one)) (runs (recover (a ∷ b ∷ [])) ∷ []) ≡ refused (damaged_store a 0 0 9) ∷ []
another_partition's = refl

-- an older one that is damaged is erased; one without a header counts before any other
an_older_is_damaged : found_runs (found_with [] 3 (damaged_from 2 58) (store_at 0 4 one) (store_at 1 3 other)) (runs (recover (a ∷ b ∷ [])) ∷ get_a ∷ event (renew 0) ∷ runs stop ∷ runs (recover (a ∷ b ∷ [])) ∷ runs dump ∷ [])
    ≡ recovered 3 (a ∷ b ∷ []) 1 ∷ is 49 ∷ renewed 0 (id 5 3 0) ∷ stopped ∷ recovered 3 (a ∷ b ∷ []) 1 ∷ shows 49 a (id 5 3 0) ∷ []
an_older_is_damaged = refl

a_header_is_damaged : found_runs (found_with [] 3 (store_at 0 4 one) (without_header 1) (damaged_from 5 58)) (runs (recover (a ∷ b ∷ [])) ∷ []) ≡ refused (damaged_store a 0 1 1) ∷ []
a_header_is_damaged = refl

-- of tied versions the first counts: by host, and then by file
tied_versions : found_runs (found_with [] 3 not_sealed (store_at 0 4 one) (store_at 1 4 other)) (runs (recover (b ∷ a ∷ [])) ∷ runs dump ∷ []) ≡ recovered 3 (a ∷ b ∷ []) 1 ∷ shows 49 a (id 4 3 0) ∷ []
tied_versions = refl
