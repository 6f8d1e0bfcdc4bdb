-- What the log in memory stands for.
use Rattle.std.specs.Prelude.{List, [], ◌∷◌, ◌++◌, map, Bool, if◌then◌else◌}
use Rattle.disk_memory.specs.DiskCall.{DiskCall, WriteCall, CutCall, SyncCall, RestartCall}
use Rattle.disk_memory.specs.declared.log.Call.{Call}
use Rattle.disk_memory.specs.declared.log.Call.TheVariants.{Write, Cut, Sync, Restart}
use Rattle.disk_memory.specs.declared.log.Log.{Log}

abbrev pub call_of : Call → DiskCall
call_of (Write file at bytes) = WriteCall file at bytes.items
call_of (Cut file to) = CutCall file to
call_of (Sync file) = SyncCall file
call_of Restart = RestartCall

-- the calls, and a restart after them
abbrev pub recorded : List DiskCall → Bool → List DiskCall
recorded changes restarted = if restarted then changes ++ RestartCall ∷ [] else changes

abbrev pub logged : Log → List DiskCall
logged log = recorded (map call_of log.calls.items) log.restarted
