-- What is known of a cluster with its disks goes on with each answer.
use Rattle.std.proofs.Common.{◌≡◌, ℕ, List, ◌∙◌, subst, arith, Option, Some, None}
use Rattle.disk_trait.specs.View.{View}
use Rattle.disk_trait.specs.Moments.{Later}
use Rattle.script_lines.specs.declared.command.Command.{Command}
use Rattle.script_lines.specs.declared.answer.Answer.{Answer}
use Rattle.script_loop.specs.Chain.{Answers, Breaks, between, Refines}
use Rattle.cluster_commands.specs.Breaks.{CommandBreaks, IsCarriedOut, IsBrokenOff, Carries, BreaksOff}
use Rattle.cluster_commands.specs.Commands.{CommandStep}
use Rattle.cluster_commands.specs.OnDisk.{IsInState, IsReady, DiskIsIn, lane_of, lane_view}
use Rattle.cluster_commands.specs.State.{State}
use Rattle.cluster_commands.specs.declared.cluster.Cluster.{Cluster}
use Rattle.cluster_commands.specs.declared.cluster.Cluster.TheVariants.{Closed, Open}
use Rattle.cluster_cli.specs.Sites.{IsThere, BothThere, HasOneDisk, lane_left, run_on}

-- ---- what is there

-- what is there has the weaker property too
pub there_too : {T : Type 0} (item : Option T) (P Q : T → Type 0) → ((at : T) → P at → Q at) → IsThere item P → IsThere item Q
there_too None P Q goes is = absurd is
there_too (Some at) P Q goes is = goes at is

-- the new one has what each change leaves
pub new_there : {T : Type 0} (old new : Option T) (R : T → T → Type 0) (Q : T → Type 0) → ((before after : T) → R before after → Q after) → BothThere old new R → IsThere new Q
new_there None new R Q goes both = absurd both
new_there (Some old) None R Q goes both = absurd both
new_there (Some old) (Some new) R Q goes both = goes old new both

-- the lane of a cluster between two commands
pub ready_one : {D : Type 0} (view : D → View) (cluster : Cluster D) → IsReady view cluster → HasOneDisk cluster
ready_one view (Closed disks) ready = ready.0
ready_one view (Open cluster) ready = ready.one

module _ {D : Type 0} (view : D → View) where
  -- the cluster that is there is in this state
  abbrev pub IsFound : Option (Cluster D) → State → Type 0
  IsFound cluster state = IsThere cluster (λ c. IsInState view c state)

  -- what the disks of the cluster tell
  abbrev pub view_left : Option (Cluster D) → View
  view_left cluster = lane_view view (lane_left cluster)

  -- the disk goes on as each change leaves it
  pub later_there : (old new : Option (Cluster D)) (R : Cluster D → Cluster D → Type 0) → ((before after : Cluster D) → R before after → Later (lane_view view (lane_of before)) (lane_view view (lane_of after)))
      → BothThere old new R → Later (view_left old) (view_left new)
  later_there None new R goes both = absurd both
  later_there (Some old) None R goes both = absurd both
  later_there (Some old) (Some new) R goes both = goes old new both

  -- what the code and the disk are in, the disk is in
  disk_is_in : (cluster : Option (Cluster D)) (state : State) → IsFound cluster state → DiskIsIn (view_left cluster) state
  disk_is_in None state at = absurd at
  disk_is_in (Some cluster) state at = record { faults = (let same = at.faults in omega (arith, same)); restarts = at.restarts; files = at.files }

  -- a command was carried out
  carried_there : (hosts others : List (List ℕ)) (old new : Option (Cluster D)) (command : Command) (answer : Answer) (known : State)
      → others ≡ hosts → IsFound old known → BothThere old new (λ before after. Carries view others before command answer after × HasOneDisk after)
      → (next : State) × IsFound new next × CommandStep hosts known command answer next
  carried_there hosts others None new command answer known same is both = absurd is
  carried_there hosts others (Some old) None command answer known same is both = absurd both
  carried_there hosts others (Some old) (Some new) command answer known same is both =
      let done : IsCarriedOut view hosts known command answer new = subst (λ (hs : List (List ℕ)). IsCarriedOut view hs known command answer new) same (both.0.step known is) in
      (done.new, done.at, done.step)

  -- a command was broken off
  broken_there : (hosts others : List (List ℕ)) (old new : Option (Cluster D)) (command : Command) (known : State)
      → others ≡ hosts → IsFound old known → BothThere old new (λ before after. BreaksOff view others before command after × HasOneDisk after)
      → (next : State) × DiskIsIn (view_left new) next × CommandBreaks hosts known command next
  broken_there hosts others None new command known same is both = absurd is
  broken_there hosts others (Some old) None command known same is both = absurd both
  broken_there hosts others (Some old) (Some new) command known same is both =
      let gone : IsBrokenOff hosts known command (lane_view view (lane_of new)) = subst (λ (hs : List (List ℕ)). IsBrokenOff hs known command (lane_view view (lane_of new))) same (both.0.broken known is) in
      (gone.new, gone.at_end, gone.breaks)

  module _ {M : Type 0} (hosts_of : M → List (List ℕ)) (cluster_of : M → Option (Cluster D)) where
    -- the machine has these hosts, and is in this state
    abbrev pub IsSeen : List (List ℕ) → M → State → Type 0
    IsSeen hosts machine state = (hosts_of machine ≡ hosts) × IsFound (cluster_of machine) state

    pub refines : (does : Answers M) (breaks : Breaks M)
        → ((old new : M) (command : Command) (answer : Answer) → does old command answer new
        → (hosts_of new ≡ hosts_of old) × BothThere (cluster_of old) (cluster_of new) (λ before after. Carries view (hosts_of old) before command answer after × HasOneDisk after))
        → ((old new : M) (command : Command) → breaks old command new → BothThere (cluster_of old) (cluster_of new) (λ before after. BreaksOff view (hosts_of old) before command after × HasOneDisk after))
        → (hosts : List (List ℕ)) (first last : M) (state : State) → IsSeen hosts first state → Refines (IsSeen hosts) (between does breaks first last) (run_on hosts state (view_left (cluster_of last)))
    refines does breaks carries breaks_off hosts first last state is = record {
      begins = is;
      answered = λ old new command answer known seen step.
          let here = carries old new command answer step in
          let done = carried_there hosts (hosts_of old) (cluster_of old) (cluster_of new) command answer known seen.0 seen.1 here.1 in
          (done.0, (here.0 ∙ seen.0, done.1), done.2);
      broken = λ old new command known seen off end.
          let gone = broken_there hosts (hosts_of old) (cluster_of old) (cluster_of new) command known seen.0 seen.1 (breaks_off old new command off) in
          (gone.0, subst (λ (m : M). DiskIsIn (view_left (cluster_of m)) gone.0) end gone.1, gone.2);
      left = λ new known seen end. subst (λ (m : M). DiskIsIn (view_left (cluster_of m)) known) end (disk_is_in (cluster_of new) known seen.1);
    }
