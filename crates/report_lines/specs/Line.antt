-- The line of each answer and fault: compact JSON, with the members of each object in byte order, and a line feed. Texts are their bytes.
use Rattle.std.specs.Prelude.{ℕ, true, List, [], ◌∷◌, ◌++◌, Option, Some, None, codes}
use Rattle.serde_json.specs.Data.{Data, null, boolean, number, unsigned, string, array, object, Items, no_items, item, Members, no_members, member}
use Rattle.serde_json.specs.Written.{compact_text}
use Rattle.cache_key.specs.declared.request.Reply.{Reply}
use Rattle.cache_key.specs.declared.request.Reply.TheVariants as replies
use Rattle.cache_model.specs.Caches.{Pairs, Caches}
use Rattle.store_ident.specs.Ident.{ident_text}
use Rattle.store_ident.specs.declared.ident.StoreId.{StoreId}
use Rattle.script_lines.specs.declared.answer.Answer.{Answer}
use Rattle.script_lines.specs.declared.answer.Answer.TheVariants.{Created, Dumped, Stepped, Refused, Stopped, Recovered}
use Rattle.script_lines.specs.declared.answer.Outcome.{Outcome}
use Rattle.script_lines.specs.declared.answer.Outcome.TheVariants as events
use Rattle.script_lines.specs.declared.answer.Refusal.{Refusal}
use Rattle.script_lines.specs.declared.answer.Refusal.TheVariants as refusals
use Rattle.script_lines.specs.declared.answer.PartitionDump.{PartitionDump}
use Rattle.report_lines.specs.declared.fault.Fault.{Fault}
use Rattle.report_lines.specs.declared.fault.Fault.TheVariants.{Words, Script, Read}

-- an object with one member
abbrev pub single : List ℕ → Data → Data
single name value = object (member name value no_members)

-- ---- contents

abbrev pub pairs_data : Pairs → Members
pairs_data [] = no_members
pairs_data (pair ∷ pairs) = member pair.0 (string pair.1) (pairs_data pairs)

abbrev pub caches_data : Caches → Members
caches_data [] = no_members
caches_data (cache ∷ caches) = member cache.0 (object (pairs_data cache.1)) (caches_data caches)

abbrev pub dump_data : PartitionDump → Data
dump_data dump = object (member (codes "caches") (object (caches_data dump.caches))
    (member (codes "host") (string dump.host)
    (member (codes "id") (string (ident_text dump.id))
    (member (codes "partition") (number (unsigned dump.id.partition)) no_members))))

abbrev pub dumps_data : List PartitionDump → Items
dumps_data [] = no_items
dumps_data (dump ∷ dumps) = item (dump_data dump) (dumps_data dumps)

-- ---- refusals

-- a refusal that names a host
abbrev pub host_refusal : List ℕ → List ℕ → Data
host_refusal name host = object (member (codes "host") (string host) (member (codes "refused") (string name) no_members))

-- a refusal that says a number, under a name that stands before `refused`
abbrev pub number_refusal : List ℕ → List ℕ → ℕ → Data
number_refusal name what n = object (member what (number (unsigned n)) (member (codes "refused") (string name) no_members))

-- a damaged store of the host
abbrev pub damage_data : List ℕ → ℕ → ℕ → ℕ → Data
damage_data host partition file at = object (member (codes "at") (number (unsigned at))
    (member (codes "file") (number (unsigned file))
    (member (codes "host") (string host)
    (member (codes "partition") (number (unsigned partition))
    (member (codes "refused") (string (codes "damaged")) no_members)))))

abbrev pub refusal_data : Refusal → Data
refusal_data refusals.Closed = single (codes "refused") (string (codes "closed"))
refusal_data refusals.Open = single (codes "refused") (string (codes "open"))
refusal_data (refusals.NotMember host) = host_refusal (codes "notMember") host
refusal_data (refusals.Fault host) = host_refusal (codes "fault") host
refusal_data refusals.NotCreated = single (codes "refused") (string (codes "notCreated"))
refusal_data (refusals.Damaged host partition file at) = damage_data host partition file at
refusal_data (refusals.NoPartition partition) = number_refusal (codes "noPartition") (codes "partition") partition
refusal_data (refusals.StoreFull live) = number_refusal (codes "storeFull") (codes "live") live
refusal_data refusals.TrailFull = single (codes "refused") (string (codes "trailFull"))
refusal_data refusals.VersionEnd = single (codes "refused") (string (codes "versionEnd"))

-- ---- replies, and outcomes of events

abbrev pub optional_data : Option (List ℕ) → Data
optional_data None = null
optional_data (Some value) = string value

abbrev pub reply_data : Reply → Data
reply_data (replies.Value value) = single (codes "value") (optional_data value)
reply_data (replies.Count count) = single (codes "count") (number (unsigned count))
reply_data replies.Done = string (codes "done")

-- a partition whose store was built anew, with the store's identifier
abbrev pub renewed_data : ℕ → StoreId → Data
renewed_data partition id = object (member (codes "id") (string (ident_text id)) (member (codes "renewed") (number (unsigned partition)) no_members))

abbrev pub outcome_data : Outcome → Data
outcome_data (events.Replied reply) = reply_data reply
outcome_data (events.Refused refusal) = refusal_data refusal
outcome_data (events.Renewed partition id) = renewed_data partition id

abbrev pub outcomes_data : List Outcome → Items
outcomes_data [] = no_items
outcomes_data (outcome ∷ outcomes) = item (outcome_data outcome) (outcomes_data outcomes)

-- ---- answers of commands

-- a cluster with one host that was opened
abbrev pub recovered_data : ℕ → List ℕ → ℕ → Data
recovered_data epoch host opened = object (member (codes "epoch") (number (unsigned epoch))
    (member (codes "hosts") (array (item (string host) no_items))
    (member (codes "opened") (number (unsigned opened)) no_members)))

-- a new cluster has epoch 1
abbrev pub answer_data : Answer → Data
answer_data (Created host) = object (member (codes "created") (string host) (member (codes "epoch") (number (unsigned 1)) no_members))
answer_data (Dumped partitions) = single (codes "dump") (array (dumps_data partitions))
answer_data (Stepped outcomes) = single (codes "steps") (array (outcomes_data outcomes))
answer_data (Refused refusal) = refusal_data refusal
answer_data Stopped = single (codes "stopped") (boolean true)
answer_data (Recovered epoch host opened) = recovered_data epoch host opened

-- the line of an answer
abbrev pub answer_line : Answer → List ℕ
answer_line answer = compact_text (answer_data answer) ++ 10 ∷ []

-- ---- faults of the program

abbrev pub fault_data : Fault → Data
fault_data Words = single (codes "fault") (string (codes "words"))
fault_data (Script line) = object (member (codes "fault") (string (codes "script")) (member (codes "line") (number (unsigned line)) no_members))
fault_data Read = single (codes "fault") (string (codes "read"))

-- the last line of a report, if the run ends with the fault
abbrev pub fault_line : Fault → List ℕ
fault_line fault = compact_text (fault_data fault) ++ 10 ∷ []
