-- What a refusal of the partition is to a run. The one partition is on one host, which no store moves to.
use Rattle.std.specs.Prelude.{⊤, ℕ, List, Option, Some, None}
use Rattle.call_trail.specs.declared.refusal.CallRefusal.{CallRefusal}
use Rattle.call_trail.specs.declared.refusal.CallRefusal.TheVariants as calls
use Rattle.partition_cell.specs.declared.refusal.CellRefusal.{CellRefusal}
use Rattle.partition_cell.specs.declared.refusal.CellRefusal.TheVariants as cells
use Rattle.partition_cell.specs.declared.refusal.MoveRefusal.{MoveRefusal}
use Rattle.partition_cell.specs.declared.refusal.MoveRefusal.TheVariants as moves
use Rattle.script_lines.specs.declared.answer.Refusal.{Refusal}
use Rattle.script_lines.specs.declared.answer.Refusal.TheVariants as refusals

-- why no cluster is made or recovered at this host; none when out of memory, which ends the run
abbrev pub opening_refusal : CellRefusal → List ℕ → Option Refusal
opening_refusal cells.NoStore host = Some refusals.NotCreated
opening_refusal (cells.Damaged number file at) host = Some (refusals.Damaged host 0 file at)
opening_refusal (cells.Fault number) host = Some (refusals.Fault host)
opening_refusal cells.NoMemory host = None

-- a refusal that such a partition has: it isn't suspended, and its store doesn't move
abbrev pub IsServedRefusal : CallRefusal → Type 0
IsServedRefusal calls.TrailFull = ⊤
IsServedRefusal (calls.StoreFull live) = ⊤
IsServedRefusal calls.VersionEnd = ⊤
IsServedRefusal (calls.Fault number) = ⊤
IsServedRefusal calls.NoMemory = ⊤
IsServedRefusal (calls.Suspended number) = ⊥
IsServedRefusal (calls.Pinned to) = ⊥

abbrev pub IsServedMove : MoveRefusal → Type 0
IsServedMove moves.VersionEnd = ⊤
IsServedMove (moves.Fault number) = ⊤
IsServedMove moves.NoMemory = ⊤
IsServedMove (moves.Busy to) = ⊥

-- why a call isn't done; none when out of memory, and where there is no such refusal
abbrev pub call_refusal_at : CallRefusal → List ℕ → Option Refusal
call_refusal_at calls.TrailFull host = Some refusals.TrailFull
call_refusal_at (calls.StoreFull live) host = Some (refusals.StoreFull live)
call_refusal_at calls.VersionEnd host = Some refusals.VersionEnd
call_refusal_at (calls.Fault number) host = Some (refusals.Fault host)
call_refusal_at calls.NoMemory host = None
call_refusal_at (calls.Suspended number) host = None
call_refusal_at (calls.Pinned to) host = None

-- why a store isn't built anew; none as above
abbrev pub renewal_refusal : MoveRefusal → List ℕ → Option Refusal
renewal_refusal moves.VersionEnd host = Some refusals.VersionEnd
renewal_refusal (moves.Fault number) host = Some (refusals.Fault host)
renewal_refusal moves.NoMemory host = None
renewal_refusal (moves.Busy to) host = None
