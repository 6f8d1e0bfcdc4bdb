-- What a restart does to a history.
use Rattle.std.specs.Prelude.{◌≡◌, ◌⊎◌, List, [], ◌∷◌, ◌++◌}
use Rattle.disk_memory.specs.DiskCall.{DiskCall, RestartCall}

-- The new history ends with a restart, which is added unless the old one ends with one already.
pub record Restarts (old new : List DiskCall) : Type 0 where
  pub before : List DiskCall
  pub now : new ≡ before ++ RestartCall ∷ []
  pub was : (old ≡ before) ⊎ (old ≡ new)
