-- Worked examples, computed from the definitions: three hosts, of which the third joins, and one partition.
use Rattle.std.proofs.Common.{◌≡◌, ℕ, List, [], ◌∷◌, ◌++◌, map, Option, Some, None, true, false, refl}
use Rattle.cache_model.specs.Change.{Change, put}
use Rattle.roster_form.specs.declared.roster.Roster.{Roster}
use Rattle.roster_form.specs.Shown.{Sights}
use Rattle.cluster_model.specs.Lane.{HostedStore, choices}
use Rattle.cluster_model.specs.LaneSteps.{standing_for}
use Rattle.cluster_model.specs.Site.{numbers_of}
use Rattle.cluster_model.specs.Agreement.{two_of, Durable}
use Rattle.cluster_model.specs.Members.{pending_join, pending_leave, is_member, left_by}
use Rattle.cluster_model.specs.Restart.{counting_roster}
use Rattle.cluster_model.specs.Acts.{SiteHost, Act, appends, seals, writes, clears, begins, finishes, appended, done, tried, all_done}
use Rattle.cluster_model.specs.Turns.{change_acts, rest_acts}

abbrev a : SiteHost
a = record { number = 0; name = 97 ∷ [] }

abbrev b : SiteHost
b = record { number = 1; name = 98 ∷ [] }

abbrev c : SiteHost
c = record { number = 2; name = 99 ∷ [] }

abbrev roster : ℕ → List SiteHost → Option ℕ → Roster
roster epoch hosts joining = record { epoch = epoch; hosts = map (λ host. host.name) hosts; joining = joining; partitions = 1 }

-- a and b; then c joins; then it has joined
abbrev two : Roster
two = roster 3 (a ∷ b ∷ []) None

abbrev joining : Roster
joining = roster 4 (a ∷ b ∷ c ∷ []) (Some 2)

abbrev joined : Roster
joined = roster 5 (a ∷ b ∷ c ∷ []) None

abbrev store : ℕ → ℕ → List Change → HostedStore
store host version changes = record { host = host; id = record { partition = 0; version = version; epoch = 3; host = host }; changes = changes; end = 41 }

abbrev one : Change
one = put (120 ∷ []) (107 ∷ []) (49 ∷ [])

-- the cluster of a and b, its partition at a
abbrev shown_by_two : Sights
shown_by_two host = Some two ∷ []

abbrev at_rest : Durable
at_rest = record { rosters = record { finished = two ∷ []; writing = None }; sights = shown_by_two; standings = standing_for (store 0 1 []) ∷ [] }

-- ---- one partition

-- a put that failed: a stop shows the store without it or with it
a_put_that_failed : map choices (tried (appends 0 0 (one ∷ []) 20) at_rest).standings ≡ (store 0 1 [] ∷ appended (store 0 1 []) (one ∷ []) 20 ∷ []) ∷ []
a_put_that_failed = refl

-- a seal that failed, and then another one that didn't: nothing is in doubt
a_seal_after_one_that_failed : (done (seals 0 (store 1 3 [])) (tried (seals 0 (store 1 2 [])) at_rest)).standings ≡ standing_for (store 1 3 []) ∷ []
a_seal_after_one_that_failed = refl

-- a seal at b that failed, and then b is cleared: a stop shows nothing of it
a_host_is_cleared : (done (clears b) (tried (seals 0 (store 1 2 [])) at_rest)).standings ≡ standing_for (store 0 1 []) ∷ []
a_host_is_cleared = refl

-- ---- a join of c

abbrev join_acts : List Act
join_acts = change_acts joining (a ∷ b ∷ c ∷ []) ++ change_acts joined (a ∷ b ∷ c ∷ [])

-- cut short within its second write: a shows the new roster, b perhaps, and c still what it showed
abbrev cut : Durable
cut = tried (writes b) (all_done (begins joining ∷ writes a ∷ []) at_rest)

a_join_cut_short : map (λ host. cut.sights host.name) (a ∷ b ∷ c ∷ []) ≡ (Some joining ∷ []) ∷ (Some joining ∷ Some two ∷ []) ∷ (Some two ∷ []) ∷ []
a_join_cut_short = refl

both_may_pass : two_of cut.rosters ≡ two ∷ joining ∷ []
both_may_pass = refl

-- c isn't a member yet, and its join is pending; a and b are
who_is_a_member : map (λ host. is_member cut.rosters host.name) (a ∷ b ∷ c ∷ []) ≡ true ∷ true ∷ false ∷ []
who_is_a_member = refl

whose_join_is_pending : pending_join cut.rosters ≡ Some c.name
whose_join_is_pending = refl

-- it goes on with those that may lack the roster
it_goes_on : rest_acts joining (a ∷ b ∷ c ∷ []) cut.sights ≡ writes b ∷ writes c ∷ finishes ∷ []
it_goes_on = refl

-- the whole join: every roster is finished, and all three show the last one
the_whole_join : (all_done join_acts at_rest).rosters ≡ record { finished = joined ∷ joining ∷ two ∷ []; writing = None }
the_whole_join = refl

shown_after_it : map (λ host. (all_done join_acts at_rest).sights host.name) (a ∷ b ∷ c ∷ []) ≡ (Some joined ∷ []) ∷ (Some joined ∷ []) ∷ (Some joined ∷ []) ∷ []
shown_after_it = refl

-- ---- a leave of b

-- begun and not written: b isn't a member any more, its leave is pending, and the roster without it may count after a restart
abbrev leaving : Durable
leaving = all_done (begins (left_by two b.name) ∷ []) at_rest

a_leave_is_pending : pending_leave leaving.rosters ≡ Some b.name
a_leave_is_pending = refl

who_stays_a_member : map (λ host. is_member leaving.rosters host.name) (a ∷ b ∷ []) ≡ true ∷ false ∷ []
who_stays_a_member = refl

-- forgotten, the last finished one counts
a_leave_is_forgotten : counting_roster (record { finished = two ∷ []; writing = None }) ≡ Some two
a_leave_is_forgotten = refl

-- the numbers of named hosts, on a site of a, b and c
numbers_of_two : numbers_of (map (λ host. host.name) (a ∷ b ∷ c ∷ [])) (c.name ∷ a.name ∷ []) ≡ 0 ∷ 2 ∷ []
numbers_of_two = refl
