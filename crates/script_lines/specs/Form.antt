-- The JSON object of each command, with exactly these members, and the lines that are commands. Texts are their bytes.
use Rattle.std.specs.Prelude.{◌≡◌, ℕ, ◌≤◌, ◌<◌, List, [], ◌∷◌, length, Some, codes, All}
use Rattle.std.specs.List.{AllByRecursion}
use Rattle.std.specs.Str.{IsUtf8}
use Rattle.serde_json.specs.Data.{Data, unsigned, number, string, array, object, Items, no_items, item, no_members, member}
use Rattle.serde_json.specs.Read.{read}
use Rattle.cache_key.specs.Names.{IsName, IsKey, IsValue, IsPair, most_pairs}
use Rattle.cache_key.specs.declared.request.Request.{Request}
use Rattle.cache_key.specs.declared.request.Request.TheVariants.{Get, Put, Remove, Size, Ensure, Truncate, Destroy, PutAll}
use Rattle.script_lines.specs.declared.command.Command.{Command}
use Rattle.script_lines.specs.declared.command.Command.TheVariants.{Create, Dump, Steps, Stop, Recover}
use Rattle.script_lines.specs.declared.command.Event.{Event}
use Rattle.script_lines.specs.declared.command.Event.TheVariants.{Call, Renew}

-- a list that begins with this name
abbrev pub named_list : List ℕ → Items → Data
named_list name items = array (item (string name) items)

-- a pair is the list of its key and its value
abbrev pub pair_data : List ℕ × List ℕ → Data
pair_data pair = array (item (string pair.0) (item (string pair.1) no_items))

abbrev pub pair_items : List (List ℕ × List ℕ) → Items
pair_items [] = no_items
pair_items (pair ∷ pairs) = item (pair_data pair) (pair_items pairs)

-- a request is a list: its name, the cache, and what else it takes
abbrev pub request_data : Request → Data
request_data (Get cache key) = named_list (codes "get") (item (string cache) (item (string key) no_items))
request_data (Put cache key value) = named_list (codes "put") (item (string cache) (item (string key) (item (string value) no_items)))
request_data (Remove cache key) = named_list (codes "remove") (item (string cache) (item (string key) no_items))
request_data (Size cache) = named_list (codes "size") (item (string cache) no_items)
request_data (Ensure cache) = named_list (codes "ensure") (item (string cache) no_items)
request_data (Truncate cache) = named_list (codes "truncate") (item (string cache) no_items)
request_data (Destroy cache) = named_list (codes "destroy") (item (string cache) no_items)
request_data (PutAll cache pairs) = named_list (codes "putAll") (item (string cache) (item (array (pair_items pairs)) no_items))

-- an event that asks a cache is the list of the request; a renewal is the list of its name and the partition's number
abbrev pub event_data : Event → Data
event_data (Call request) = request_data request
event_data (Renew partition) = named_list (codes "renew") (item (number (unsigned partition)) no_items)

abbrev pub events_data : List Event → Items
events_data [] = no_items
events_data (event ∷ events) = item (event_data event) (events_data events)

-- a command is an object; its members stand in byte order of their names
abbrev pub command_data : Command → Data
command_data (Create host) = object (member (codes "do") (string (codes "create")) (member (codes "host") (string host) no_members))
command_data Dump = object (member (codes "do") (string (codes "dump")) no_members)
command_data (Steps events) = object (member (codes "do") (string (codes "steps")) (member (codes "events") (array (events_data events)) no_members))
command_data Stop = object (member (codes "do") (string (codes "stop")) no_members)
command_data (Recover host) = object (member (codes "do") (string (codes "recover")) (member (codes "hosts") (array (item (string host) no_items)) no_members))

-- there are 1 to 64 pairs, and each key and value keeps its limits
pub record ArePairs (pairs : List (List ℕ × List ℕ)) : Type 0 where
  pub least : 1 ≤ length pairs
  pub most : length pairs ≤ most_pairs
  pub each : All IsPair pairs

-- the texts of a request keep their limits, and so do its pairs
abbrev pub RequestKeepsLimits : Request → Type 0
RequestKeepsLimits (Get cache key) = IsName cache × IsKey key
RequestKeepsLimits (Put cache key value) = IsName cache × IsKey key × IsValue value
RequestKeepsLimits (Remove cache key) = IsName cache × IsKey key
RequestKeepsLimits (Size cache) = IsName cache
RequestKeepsLimits (Ensure cache) = IsName cache
RequestKeepsLimits (Truncate cache) = IsName cache
RequestKeepsLimits (Destroy cache) = IsName cache
RequestKeepsLimits (PutAll cache pairs) = IsName cache × ArePairs pairs

-- a number that a partition may have, whether or not a cluster has that partition
abbrev pub IsPartitionNumber : ℕ → Type 0
IsPartitionNumber partition = partition < 65536

abbrev pub EventKeepsLimits : Event → Type 0
EventKeepsLimits (Call request) = RequestKeepsLimits request
EventKeepsLimits (Renew partition) = IsPartitionNumber partition

abbrev pub KeepsLimits : Command → Type 0
KeepsLimits (Create host) = IsName host
KeepsLimits Dump = Unit {0}
KeepsLimits (Steps events) = AllByRecursion EventKeepsLimits events
KeepsLimits Stop = Unit {0}
KeepsLimits (Recover host) = IsName host

-- the line is UTF-8 and JSON, and its value is the object of the command
pub record IsLineOf (line : List ℕ) (command : Command) : Type 0 where
  pub text : IsUtf8 line
  pub value : read line ≡ Some (command_data command)
  pub limits : KeepsLimits command

-- the line is no command
abbrev pub HasNoForm : List ℕ → Type 0
HasNoForm line = (command : Command) → IsLineOf line command → ⊥
