-- No answer and no fault has a float.
use Rattle.std.proofs.Common.{◌≡◌, List, [], ◌∷◌, false, Some, None, refl}
use Rattle.serde_json.specs.Written.{has_float, items_have_float, members_have_float}
use Rattle.cache_key.specs.declared.request.Reply.{Reply}
use Rattle.cache_key.specs.declared.request.Reply.TheVariants as replies
use Rattle.cache_model.specs.Caches.{Pairs, Caches}
use Rattle.script_lines.specs.declared.answer.Answer.{Answer}
use Rattle.script_lines.specs.declared.answer.Answer.TheVariants.{Created, Dumped, Stepped, Refused, Stopped, Recovered}
use Rattle.script_lines.specs.declared.answer.Outcome.{Outcome}
use Rattle.script_lines.specs.declared.answer.Outcome.TheVariants as events
use Rattle.script_lines.specs.declared.answer.Refusal.{Refusal}
use Rattle.script_lines.specs.declared.answer.Refusal.TheVariants as refusals
use Rattle.script_lines.specs.declared.answer.PartitionDump.{PartitionDump}
use Rattle.report_lines.specs.declared.fault.Fault.{Fault}
use Rattle.report_lines.specs.declared.fault.Fault.TheVariants.{Words, Script, Read}
use Rattle.report_lines.specs.Line.{pairs_data, caches_data, dumps_data, outcomes_data, reply_data, refusal_data, answer_data, fault_data}

members_have_float-pairs_data : (pairs : Pairs) → members_have_float (pairs_data pairs) ≡ false
members_have_float-pairs_data [] = refl
members_have_float-pairs_data (pair ∷ pairs) = members_have_float-pairs_data pairs

members_have_float-caches_data : (caches : Caches) → members_have_float (caches_data caches) ≡ false
members_have_float-caches_data [] = refl
members_have_float-caches_data (cache ∷ caches) = rw (members_have_float-pairs_data cache.1) (members_have_float-caches_data caches)

items_have_float-dumps_data : (dumps : List PartitionDump) → items_have_float (dumps_data dumps) ≡ false
items_have_float-dumps_data [] = refl
items_have_float-dumps_data (dump ∷ dumps) = rw (members_have_float-caches_data dump.caches) (items_have_float-dumps_data dumps)

has_float-refusal_data : (refusal : Refusal) → has_float (refusal_data refusal) ≡ false
has_float-refusal_data refusals.Closed = refl
has_float-refusal_data refusals.Open = refl
has_float-refusal_data (refusals.NotMember host) = refl
has_float-refusal_data (refusals.Fault host) = refl
has_float-refusal_data refusals.NotCreated = refl
has_float-refusal_data (refusals.Damaged host partition file at) = refl
has_float-refusal_data (refusals.NoPartition partition) = refl
has_float-refusal_data (refusals.StoreFull live) = refl
has_float-refusal_data refusals.TrailFull = refl
has_float-refusal_data refusals.VersionEnd = refl

has_float-reply_data : (reply : Reply) → has_float (reply_data reply) ≡ false
has_float-reply_data (replies.Value None) = refl
has_float-reply_data (replies.Value (Some value)) = refl
has_float-reply_data (replies.Count count) = refl
has_float-reply_data replies.Done = refl

items_have_float-outcomes_data : (outcomes : List Outcome) → items_have_float (outcomes_data outcomes) ≡ false
items_have_float-outcomes_data [] = refl
items_have_float-outcomes_data (events.Replied reply ∷ outcomes) = rw (has_float-reply_data reply) (items_have_float-outcomes_data outcomes)
items_have_float-outcomes_data (events.Refused refusal ∷ outcomes) = rw (has_float-refusal_data refusal) (items_have_float-outcomes_data outcomes)
items_have_float-outcomes_data (events.Renewed partition id ∷ outcomes) = items_have_float-outcomes_data outcomes

pub has_float-answer_data : (answer : Answer) → has_float (answer_data answer) ≡ false
has_float-answer_data (Created host) = refl
has_float-answer_data (Dumped partitions) = rw (items_have_float-dumps_data partitions)
has_float-answer_data (Stepped outcomes) = rw (items_have_float-outcomes_data outcomes)
has_float-answer_data (Refused refusal) = has_float-refusal_data refusal
has_float-answer_data Stopped = refl
has_float-answer_data (Recovered epoch host opened) = refl

pub has_float-fault_data : (fault : Fault) → has_float (fault_data fault) ≡ false
has_float-fault_data Words = refl
has_float-fault_data (Script line) = refl
has_float-fault_data Read = refl
