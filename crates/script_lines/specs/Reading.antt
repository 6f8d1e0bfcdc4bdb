-- The results of reading a line, part by part, for private clauses.
use Rattle.std.specs.Prelude.{◌≡◌, ℕ, List, Result, Ok, Err, codes}
use Rattle.std.specs.Ordering.{nat_cmp}
use Rattle.std.specs.Cmp.Lexicographic.{slice_cmp}
use Rattle.std.specs.declared.cmp.Ordering.TheVariants.{Less}
use Rattle.std.specs.List.{AllByRecursion}
use Rattle.serde_json.specs.Data.{Data, null, boolean, unsigned, number, string, array, object, Items, no_items, item, Members, no_members, member}
use Rattle.serde_json.specs.Events.{members_len}
use Rattle.cache_key.specs.Names.{IsName, IsKey, IsPair}
use Rattle.cache_key.specs.declared.request.Request.{Request}
use Rattle.cache_key.specs.declared.request.Request.TheVariants as requests
use Rattle.script_lines.specs.Form.{pair_data, pair_items, event_data, events_data, command_data, ArePairs, IsPartitionNumber, EventKeepsLimits, KeepsLimits}
use Rattle.script_lines.specs.declared.command.Command.{Command}
use Rattle.script_lines.specs.declared.command.Event.{Event}
use Rattle.script_lines.specs.declared.command.Event.TheVariants.{Call, Renew}
use Rattle.script_lines.specs.declared.fault.LineFault.{LineFault}
use Rattle.script_lines.specs.declared.fault.LineFault.TheVariants.{Form, NoMemory}
use Rattle.script_lines.specs.declared.reason.EventName.{EventName}
use Rattle.script_lines.specs.declared.reason.EventName.TheVariants as names

-- ---- shapes

abbrev pub list_of_one : Data → Data
list_of_one a = array (item a no_items)

abbrev pub object_of_two : List ℕ → Data → List ℕ → Data → Data
object_of_two first a second b = object (member first a (member second b no_members))

-- ---- what is read

-- a result of reading: what is read is so, and after a refusal by the form nothing is so
abbrev pub Reads : {X : Type 0} → (X → Type 0) → Result X LineFault → Type 0
Reads IsSo (Ok x) = IsSo x
Reads {X} IsSo (Err (Form reason)) = (x : X) → IsSo x → ⊥
Reads IsSo (Err NoMemory) = Unit {0}

-- the text stands there, and keeps its limits
pub record IsTextOf (KeepsItsLimits : List ℕ → Type 0) (d : Data) (text : List ℕ) : Type 0 where
  pub is : d ≡ string text
  pub limits : KeepsItsLimits text

-- the list of this one host stands there
pub record IsOnlyHostOf (d : Data) (host : List ℕ) : Type 0 where
  pub is : d ≡ list_of_one (string host)
  pub limits : IsName host

-- the number of a partition stands there
pub record IsPartitionOf (d : Data) (partition : ℕ) : Type 0 where
  pub is : d ≡ number (unsigned partition)
  pub limits : IsPartitionNumber partition

-- the list of the event stands there
pub record IsEventOf (d : Data) (event : Event) : Type 0 where
  pub is : d ≡ event_data event
  pub limits : EventKeepsLimits event

-- the name of an event, as it stands in a line
abbrev pub event_word : EventName → List ℕ
event_word names.Get = codes "get"
event_word names.Put = codes "put"
event_word names.Remove = codes "remove"
event_word names.Size = codes "size"
event_word names.Ensure = codes "ensure"
event_word names.Truncate = codes "truncate"
event_word names.Destroy = codes "destroy"
event_word names.PutAll = codes "putAll"
event_word names.Renew = codes "renew"

-- the name of a request, and the items after it
abbrev pub request_name : Request → EventName
request_name (requests.Get cache key) = names.Get
request_name (requests.Put cache key value) = names.Put
request_name (requests.Remove cache key) = names.Remove
request_name (requests.Size cache) = names.Size
request_name (requests.Ensure cache) = names.Ensure
request_name (requests.Truncate cache) = names.Truncate
request_name (requests.Destroy cache) = names.Destroy
request_name (requests.PutAll cache pairs) = names.PutAll

abbrev pub request_items : Request → Items
request_items (requests.Get cache key) = item (string cache) (item (string key) no_items)
request_items (requests.Put cache key value) = item (string cache) (item (string key) (item (string value) no_items))
request_items (requests.Remove cache key) = item (string cache) (item (string key) no_items)
request_items (requests.Size cache) = item (string cache) no_items
request_items (requests.Ensure cache) = item (string cache) no_items
request_items (requests.Truncate cache) = item (string cache) no_items
request_items (requests.Destroy cache) = item (string cache) no_items
request_items (requests.PutAll cache pairs) = item (string cache) (item (array (pair_items pairs)) no_items)

-- the same of an event
abbrev pub event_name : Event → EventName
event_name (Call request) = request_name request
event_name (Renew partition) = names.Renew

abbrev pub event_items : Event → Items
event_items (Call request) = request_items request
event_items (Renew partition) = item (number (unsigned partition)) no_items

-- the event has this name and these items after it
pub record IsAsked (name : EventName) (ds : Items) (event : Event) : Type 0 where
  pub name_is : event_name event ≡ name
  pub items : ds ≡ event_items event
  pub limits : EventKeepsLimits event

-- these items are the name of a cache alone
pub record IsOneCache (ds : Items) (cache : List ℕ) : Type 0 where
  pub are : ds ≡ item (string cache) no_items
  pub limits : IsName cache

-- these items are the name of a cache and a key
pub record AreCacheAndKey (ds : Items) (found : List ℕ × List ℕ) : Type 0 where
  pub are : ds ≡ item (string found.0) (item (string found.1) no_items)
  pub limits : IsName found.0 × IsKey found.1

-- the list of a pair stands there
pub record IsPairOf (d : Data) (pair : List ℕ × List ℕ) : Type 0 where
  pub is : d ≡ pair_data pair
  pub limits : IsPair pair

-- the list of the pairs stands there
pub record ArePairsOf (d : Data) (pairs : List (List ℕ × List ℕ)) : Type 0 where
  pub are : d ≡ array (pair_items pairs)
  pub limits : ArePairs pairs

pub record AreEventsIn (ds : Items) (events : List Event) : Type 0 where
  pub are : ds ≡ events_data events
  pub limits : AllByRecursion EventKeepsLimits events

-- the list of the events stands there
pub record AreEventsOf (d : Data) (events : List Event) : Type 0 where
  pub are : d ≡ array (events_data events)
  pub limits : AllByRecursion EventKeepsLimits events

pub record IsCommandOf (d : Data) (command : Command) : Type 0 where
  pub is : d ≡ command_data command
  pub limits : KeepsLimits command

-- ---- members of an object

-- the number of members of an object, 0 for other data
abbrev pub member_count_of : Data → ℕ
member_count_of null = 0
member_count_of (boolean b) = 0
member_count_of (number n) = 0
member_count_of (string s) = 0
member_count_of (array ds) = 0
member_count_of (object ms) = members_len ms

-- each of these members comes after the name
abbrev pub IsBefore : List ℕ → Members → Type 0
IsBefore name no_members = Unit {0}
IsBefore name (member k d ms) = (slice_cmp nat_cmp name k ≡ Less) × IsBefore name ms

-- the members stand in byte order of their names, each name once
abbrev pub AreInOrder : Members → Type 0
AreInOrder no_members = Unit {0}
AreInOrder (member k d ms) = IsBefore k ms × AreInOrder ms

abbrev pub IsInOrder : Data → Type 0
IsInOrder null = Unit {0}
IsInOrder (boolean b) = Unit {0}
IsInOrder (number n) = Unit {0}
IsInOrder (string s) = Unit {0}
IsInOrder (array ds) = Unit {0}
IsInOrder (object ms) = AreInOrder ms
