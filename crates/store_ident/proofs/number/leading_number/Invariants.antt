-- What is read so far is the number of the bytes so far.
use Rattle.std.proofs.Common.{take}
use Rattle.store_ident.specs.Reading.{IsReadSoFar}
use Rattle.store_ident.proofs.number.leading_number.Given as goal

abbrev pub invariant-loop-length : goal.invariant-loop-length
invariant-loop-length l = IsReadSoFar l.base (take l.length l.text) l.value
