-- What the calls of a source and of a sink do to the bytes that they tell, and when they fail.
use Rattle.std.specs.Prelude.{◌≡◌, ◌≢◌, ℕ, ◌<◌, ◌≤◌, List, [], ◌++◌, length, take, drop, Some, IfOk, OnOk, OnErr}
use Rattle.std.specs.Option.{ForSome}
use Rattle.std.specs.Result.{IsErrOf}
use Rattle.std.specs.declared.option.Option.{Option}
use Rattle.std.specs.declared.result.Result.{Result}
use Rattle.fault_count.specs.Rose.{Rose}

-- what a read gave are the next bytes that were left, and these are no longer left
pub record ReadsFrom {E : Type 0} (before after : Option (List ℕ)) (into : List ℕ) (result : Result ℕ E) : Type 0 where
  -- it gives no more than was left
  pub within : IfOk result (λ n. ForSome before (λ bytes. n ≤ length bytes))
  -- the slice begins with the next bytes
  pub gave : IfOk result (λ n. ForSome before (λ bytes. take n into ≡ take n bytes))
  -- the bytes after them are left
  pub rest : IfOk result (λ n. ForSome before (λ bytes. after ≡ Some (drop n bytes)))
  -- a refusal takes none
  pub refused : OnErr result (ForSome before (λ bytes. after ≡ Some bytes))

-- a read of no byte into a slice with room comes only where none is left
abbrev pub EndsAtEnd : {E : Type 0} → Option (List ℕ) → ℕ → Result ℕ E → Type 0
EndsAtEnd before room result = IfOk result (λ n. n ≡ 0 → 0 < room → ForSome before (λ bytes. bytes ≡ []))

-- the bytes were added after those written before, where the sink tells these
abbrev pub Adds : Option (List ℕ) → List ℕ → Option (List ℕ) → Type 0
Adds old bytes new = ForSome old (λ before. new ≡ Some (before ++ bytes))

-- a prefix of the text was added, perhaps all of it
pub record AddsPrefix (old : Option (List ℕ)) (text : List ℕ) (new : Option (List ℕ)) : Type 0 where
  pub prefix : List ℕ
  pub rest : List ℕ
  pub text_is : text ≡ prefix ++ rest
  pub added : Adds old prefix new

-- a prefix of the text was added, and not all of it
pub record AddsPart (old : Option (List ℕ)) (text : List ℕ) (new : Option (List ℕ)) : Type 0 where
  pub part : AddsPrefix old text new
  pub missing : part.rest ≢ []

-- the first bytes of the piece stand after those written before
pub record WritesTo {E : Type 0} (before after : Option (List ℕ)) (piece : List ℕ) (result : Result ℕ E) : Type 0 where
  -- as many as the answer says
  pub added : IfOk result (λ n. Adds before (take n piece) after)
  -- a refusal adds none
  pub refused : OnErr result (ForSome before (λ bytes. after ≡ Some bytes))

-- a write takes at least one byte of a piece that has one
abbrev pub TakesSome : {E : Type 0} → ℕ → Result ℕ E → Type 0
TakesSome size result = IfOk result (λ n. 0 < size → 0 < n)

-- the whole text stands after what was written before, and after a refusal a part of it
pub record WritesAll {E : Type 0} (before after : Option (List ℕ)) (text : List ℕ) (result : Result (Unit {0}) E) : Type 0 where
  pub whole : OnOk result (Adds before text after)
  pub part : OnErr result (AddsPart before text after)

-- the count of faults never falls, the call fails only where it rose, and any other answer leaves it
pub record HasCause {T E : Type 0} (failure : E) (old new : ℕ) (result : Result T E) : Type 0 where
  pub later : old ≤ new
  pub failed : IsErrOf result failure → Rose old new
  pub kept : ¬ IsErrOf result failure → new ≡ old
