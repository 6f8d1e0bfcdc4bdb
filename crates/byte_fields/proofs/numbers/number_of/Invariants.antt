use Rattle.std.proofs.Common.{◌≡◌, take}
use Rattle.byte_fields.specs.Numbers.{big_endian}
use Rattle.byte_fields.proofs.numbers.number_of.Given as goal

abbrev pub invariant-loop-byte : goal.invariant-loop-byte
invariant-loop-byte l = l.number ≡ big_endian (take l.byte-index l.bytes)
