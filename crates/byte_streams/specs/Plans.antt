-- Streams in memory, as their callers see them: their bytes, and which of their calls fail.
use Rattle.std.specs.Prelude.{ℕ, List}
use Rattle.std.specs.List.{Contains}
use Rattle.fault_count.specs.OneMore.{one_more_than}

-- a source or a sink in memory
pub record MemoryStream : Type 0 where
  -- the bytes that are left in a source, or that were written to a sink
  pub bytes : List ℕ
  -- a call moves at most so many bytes
  pub most : ℕ
  -- how many calls were made
  pub calls : ℕ
  -- how many of them failed
  pub faults : ℕ
  -- the numbers of the calls that fail, from 1
  pub planned : List ℕ

-- the next call is one that the plan lets fail
abbrev pub FailsNext : MemoryStream → Type 0
FailsNext stream = Contains stream.planned (one_more_than stream.calls)

-- one call later, with these bytes
abbrev pub called : MemoryStream → List ℕ → MemoryStream
called stream bytes = record stream { bytes = bytes; calls = one_more_than stream.calls }

-- one call later, which failed
abbrev pub failed : MemoryStream → MemoryStream
failed stream = record stream { calls = one_more_than stream.calls; faults = one_more_than stream.faults }
