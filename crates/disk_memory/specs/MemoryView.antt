-- What a history of changing calls tells.
use Rattle.std.specs.Prelude.{ℕ, ◌≤◌, List, length, take}
use Rattle.std.proofs.Common.{sym, subst}
use Rattle.std.proofs.Math.Nat.{le_refl}
use Rattle.std.proofs.lemmas.List.{take_all}
use Rattle.disk_trait.specs.View.{Image, View}
use Rattle.disk_memory.specs.DiskCall.{DiskCall}
use Rattle.disk_memory.specs.Replay.{MayBeLeft, IsSound, file_after}

-- each file of it is an image after these calls
abbrev pub AfterChanges : ℕ → List DiskCall → Image → Type 0
AfterChanges pick changes m = (f : ℕ) → MayBeLeft (file_after pick changes f) (m f)

-- what a read gives
abbrev pub seen_by : ℕ → List DiskCall → Image
seen_by pick changes f = (file_after pick changes f).seen

-- what a restart takes
abbrev pub taken_by : ℕ → List DiskCall → Image
taken_by pick changes f = (file_after pick changes f).left

abbrev pub AreSound : ℕ → List DiskCall → Type 0
AreSound pick changes = (f : ℕ) → IsSound (file_after pick changes f)

-- the images of each moment from t on
pub record Since (pick : ℕ) (changes : List DiskCall) (t : ℕ) (m : Image) : Type 0 where
  pub moment : ℕ
  pub from : t ≤ moment
  pub within : moment ≤ length changes
  pub image : AfterChanges pick (take moment changes) m

pub counts : (pick : ℕ) (changes : List DiskCall) (t : ℕ) (m : Image) → t ≤ length changes → AfterChanges pick changes m → Since pick changes t m
counts pick changes t m le is = record {
  moment = length changes;
  from = le;
  within = le_refl (length changes);
  image = subst (λ (l : List DiskCall). AfterChanges pick l m) (sym (take_all (length changes) changes (le_refl (length changes)))) is;
}

pub none_else : (pick : ℕ) (changes : List DiskCall) (m : Image) → Since pick changes (length changes) m → AfterChanges pick changes m
none_else pick changes m since = subst (λ (l : List DiskCall). AfterChanges pick l m) (take_all since.moment changes since.from) since.image

-- how often the disk has failed, and was restarted
pub record DiskCounts : Type 0 where
  pub faults : ℕ
  pub restarts : ℕ

-- a moment is a number of calls
abbrev pub memory_view : (pick : ℕ) (changes : List DiskCall) (counts : DiskCounts) → AfterChanges pick changes (seen_by pick changes) → View
memory_view pick changes count is_image = record {
  seen = seen_by pick changes;
  images = AfterChanges pick changes;
  since = Since pick changes;
  clock = length changes;
  faults = count.faults;
  restarts = count.restarts;
  spares = ⊥;
  told = λ m is. is_image;
  counts_now = counts pick changes;
  only_now = none_else pick changes;
}
