-- What a create and a recovery do, whichever state they are in.
use Rattle.std.proofs.Common.{◌≡◌, ℕ, List, [], ◌∷◌, length, Some, refl, sym, subst}
use Rattle.std.specs.Prelude.{Contains}
use Rattle.fault_count.specs.OneMore.{IsOneMore}
use Rattle.disk_trait.specs.View.{View}
use Rattle.disk_trait.specs.Moments.{Onward, Later}
use Rattle.disk_trait.proofs.Runs.{later_joined, later_onward}
use Rattle.partition_cell.specs.Loaded.{IsLoadedCell, IsLoadRefusal}
use Rattle.partition_cell.specs.Made.{IsFirst, IsMakingFault}
use Rattle.partition_cell.specs.Standing.{IsLone}
use Rattle.partition_cell.specs.declared.refusal.CellRefusal.{CellRefusal}
use Rattle.script_lines.specs.declared.command.Command.TheVariants.{Create, Recover}
use Rattle.script_lines.specs.declared.answer.Answer.{Answer}
use Rattle.script_lines.specs.declared.answer.Answer.TheVariants as answered
use Rattle.script_lines.specs.declared.answer.Refusal.{Refusal}
use Rattle.script_lines.specs.declared.answer.Refusal.TheVariants as refusals
use Rattle.cluster_commands.specs.Breaks.{Carries, BreaksOff}
use Rattle.cluster_commands.specs.Commands.{made_at}
use Rattle.cluster_commands.specs.OnDisk.{IsClosed, lane_of, lane_view, disks_in, IsClusterOf, FilesHold, IsDiskRestarted}
use Rattle.cluster_commands.specs.Refusals.{opening_refusal}
use Rattle.cluster_commands.specs.State.{OpenCluster, KnownFiles, store_in, known_of}
use Rattle.cluster_commands.specs.declared.cluster.Cluster.{Cluster}
use Rattle.cluster_commands.specs.declared.cluster.Cluster.TheVariants.{Open}
use Rattle.cluster_commands.specs.declared.cluster.Opened.{Opened}
use Rattle.cluster_commands.proofs.CommandLemmas.{not_member_create, not_member_recover, half_create, made_create}
use Rattle.cluster_commands.proofs.KnownLemmas.{the_partition}
use Rattle.cluster_commands.proofs.MadeLemmas.{is_made, refused_create}
use Rattle.cluster_commands.proofs.RecoverLemmas.{broken_recover, refused_recover, opened_recover}

-- calls, and then a restart
count_after : (a b c : View) → Onward a b → IsOneMore b.restarts c.restarts → IsOneMore a.restarts c.restarts
count_after a b c first rose = subst (λ (n : ℕ). IsOneMore n c.restarts) first.restarts rose

restarted_after : (a b c : View) → Onward a b → Later b c → Later a c
restarted_after a b c first second = later_joined a b c (later_onward a b first) second

module _ {D : Type 0} (hosts : List (List ℕ)) (view : D → View) (old new : Cluster D) (was : IsClosed old) (host : List ℕ) where
  abbrev v : View
  v = lane_view view (lane_of old)

  abbrev w : View
  w = lane_view view (lane_of new)

  -- no host of the site
  module _ (answer : Answer) (shut : IsClosed new) (is : IsDiskRestarted v w) (lacks : ¬ Contains hosts host) (named : answer ≡ answered.Refused (refusals.NotMember host)) where
    pub creates_nowhere : Carries view hosts old (Create host) answer new
    creates_nowhere = record {
      step = λ state at. not_member_create hosts view old new state at was is.later host answer shut is.images is.counted lacks named;
      later = is.later;
    }

    pub recovers_nowhere : Carries view hosts old (Recover host) answer new
    recovers_nowhere = record {
      step = λ state at. not_member_recover hosts view old new state at was is.later host answer shut is.images is.counted lacks named;
      later = is.later;
    }

  module _ (has : Contains hosts host) where
    -- refused after calls of the disk, which is then restarted
    module _ (mid : List D) (answer : Answer) (shut : IsClosed new) (on : Onward v (lane_view view mid)) (is : IsDiskRestarted (lane_view view mid) w) (cause : CellRefusal) (refusal : Refusal)
        (why : opening_refusal cause host ≡ Some refusal) (named : answer ≡ answered.Refused refusal) where
      over : Later v w
      over = restarted_after v (lane_view view mid) w on is.later

      count : IsOneMore v.restarts w.restarts
      count = count_after v (lane_view view mid) w on is.counted

      pub create_refused : IsMakingFault view 0 (lane_of old) mid cause → Carries view hosts old (Create host) answer new
      create_refused fault = record {
        step = λ state at. refused_create hosts view old new mid state at was over is.later host answer shut count has cause refusal why named fault;
        later = over;
      }

      pub recovery_refused : length (lane_of old) ≡ 1 → ((files : KnownFiles) → FilesHold files v → FilesHold files (lane_view view mid)) → IsLoadRefusal view (0 ∷ []) the_partition (lane_of old) mid cause
          → Carries view hosts old (Recover host) answer new
      recovery_refused one keeps fault = record {
        step = λ state at. refused_recover hosts view old new mid state at was over one keeps is.images host answer shut count has cause refusal why named fault is.later;
        later = over;
      }

    -- memory ran out
    module _ (on : Onward v w) where
      pub create_broken : BreaksOff view hosts old (Create host) new
      create_broken = record {
        broken = λ state at. half_create hosts view old new state at was (later_onward v w on) host on has;
        later = later_onward v w on;
      }

      pub recovery_broken : length (lane_of old) ≡ 1 → ((files : KnownFiles) → FilesHold files v → FilesHold files w) → BreaksOff view hosts old (Recover host) new
      recovery_broken one keeps = record {
        broken = λ state at. broken_recover hosts view old new (lane_of new) state at was (later_onward v w on) one keeps (λ m image. image) host on;
        later = later_onward v w on;
      }

-- a cluster is opened
module _ {D : Type 0} (hosts : List (List ℕ)) (view : D → View) (old : Cluster D) (was : IsClosed old) (host : List ℕ) (has : Contains hosts host) (open_ : Opened D) (named : open_.host ≡ host) (begun : open_.kept.trail.entries ≡ [])
    (on : Onward (lane_view view (lane_of old)) (lane_view view (disks_in open_))) (stored : (seen : OpenCluster) → IsClusterOf open_ seen → FilesHold (store_in (known_of seen)) (lane_view view (disks_in open_))) where
  pub creates : IsFirst open_.kept.cell 0 0 1 → IsLone open_.kept.cell → Carries view hosts old (Create host) (answered.Created host) (Open open_)
  creates made lone =
      let is = is_made open_ host named made lone begun in
      record {
        step = λ state at. made_create hosts view old open_ (made_at host) state at was on is (stored (made_at host) is) host (answered.Created host) has refl refl;
        later = later_onward _ _ on;
      }

  pub recovers : length (lane_of old) ≡ 1 → IsLoadedCell view (0 ∷ []) the_partition (lane_of old) open_.kept.cell → Carries view hosts old (Recover host) (answered.Recovered 1 host 1) (Open open_)
  recovers one loaded = record {
    step = λ state at. opened_recover hosts view old open_ state at was on one loaded begun stored host (answered.Recovered 1 host 1) has named refl;
    later = later_onward _ _ on;
  }
