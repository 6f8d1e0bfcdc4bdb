-- A log after a restart.
use Rattle.std.proofs.Common.{◌≡◌, inl, inr, List, map, refl, sym, ◌∙◌, ap, Bool, true, false, Vec}
use Rattle.std.specs.declared.alloc.Global.{Global}
use Rattle.disk_memory.specs.DiskCall.{DiskCall}
use Rattle.disk_memory.specs.Logged.{call_of, recorded, logged}
use Rattle.disk_memory.specs.Restarts.{Restarts}
use Rattle.disk_memory.specs.declared.log.Call.{Call}
use Rattle.disk_memory.specs.declared.log.Log.{Log}

pub logged_restarted : (old new : Log) → new.calls ≡ old.calls → new.restarted ≡ true → logged new ≡ recorded (map call_of old.calls.items) true
logged_restarted old new calls r =
    ap (λ (b : Bool). recorded (map call_of new.calls.items) b) r ∙ ap (λ (v : Vec Call Global). recorded (map call_of v.items) true) calls

restarts_again : (calls later : List DiskCall) (r : Bool) → later ≡ recorded calls true → Restarts (recorded calls r) later
restarts_again calls later true is = record { before = calls; now = is; was = inr (sym is) }
restarts_again calls later false is = record { before = calls; now = is; was = inl refl }

pub log_restarts : (old new : Log) → new.calls ≡ old.calls → new.restarted ≡ true → Restarts (logged old) (logged new)
log_restarts old new calls r = restarts_again (map call_of old.calls.items) (logged new) old.restarted (logged_restarted old new calls r)
