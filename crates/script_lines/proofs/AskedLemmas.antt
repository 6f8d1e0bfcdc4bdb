-- Laws of events: each is known by its name and the items after it.
use Rattle.std.proofs.Common.{◌≡◌, ℕ, ◌+◌, ◌*◌, ◌==◌, if◌then◌else◌, List, [], ◌∷◌, length, refl, sym, ap, ◌∙◌, subst}
use Rattle.serde_json.specs.Data.{Num, unsigned, negative, float, Data, null, boolean, number, string, array, object, Items, no_items, item}
use Rattle.cache_key.specs.Names.{IsName, IsKey, IsValue}
use Rattle.cache_key.specs.declared.request.Request.TheVariants as requests
use Rattle.script_lines.specs.Form.{named_list, pair_items, event_data}
use Rattle.script_lines.specs.Reading.{event_word, event_name, event_items, IsEventOf, IsAsked, IsTextOf, ArePairsOf, AreCacheAndKey}
use Rattle.script_lines.specs.declared.command.Event.{Event}
use Rattle.script_lines.specs.declared.command.Event.TheVariants.{Call, Renew}
use Rattle.script_lines.specs.declared.reason.EventName.{EventName}
use Rattle.script_lines.specs.declared.reason.EventName.TheVariants as names

-- ---- names

-- a number for each name
abbrev word_weight : List ℕ → ℕ
word_weight [] = 0
word_weight (letter ∷ word) = letter + 10 * length word

abbrev weighed : ℕ → EventName
weighed n =
    if n == 123 then names.Get else (
    if n == 132 then names.Put else (
    if n == 164 then names.Remove else (
    if n == 145 then names.Size else (
    if n == 151 then names.Ensure else (
    if n == 186 then names.Truncate else (
    if n == 160 then names.Destroy else (
    if n == 162 then names.PutAll else names.Renew
    )))))))

weighed-word : (name : EventName) → weighed (word_weight (event_word name)) ≡ name
weighed-word names.Get = refl
weighed-word names.Put = refl
weighed-word names.Remove = refl
weighed-word names.Size = refl
weighed-word names.Ensure = refl
weighed-word names.Truncate = refl
weighed-word names.Destroy = refl
weighed-word names.PutAll = refl
weighed-word names.Renew = refl

event_word-injective : (a b : EventName) → event_word a ≡ event_word b → a ≡ b
event_word-injective a b e = sym (weighed-word a) ∙ ap (λ word. weighed (word_weight word)) e ∙ weighed-word b

-- lists with a name are one by their names and the items after them
named_list-injective : (a b : EventName) (ds es : Items) → named_list (event_word a) ds ≡ named_list (event_word b) es → (a ≡ b) × (ds ≡ es)
named_list-injective a b ds es e = let words : event_word a ≡ event_word b = cc in (event_word-injective a b words, cc)

-- ---- the event of a name and items

abbrev first : Items → Data
first no_items = null
first (item d ds) = d

abbrev others : Items → Items
others no_items = no_items
others (item d ds) = ds

abbrev text_of : Data → List ℕ
text_of null = []
text_of (boolean b) = []
text_of (number n) = []
text_of (string s) = s
text_of (array ds) = []
text_of (object ms) = []

abbrev value_of_number : Num → ℕ
value_of_number (unsigned n) = n
value_of_number (negative z) = 0
value_of_number (float x) = 0

abbrev number_of_data : Data → ℕ
number_of_data null = 0
number_of_data (boolean b) = 0
number_of_data (number n) = value_of_number n
number_of_data (string s) = 0
number_of_data (array ds) = 0
number_of_data (object ms) = 0

abbrev items_in : Data → Items
items_in null = no_items
items_in (boolean b) = no_items
items_in (number n) = no_items
items_in (string s) = no_items
items_in (array ds) = ds
items_in (object ms) = no_items

abbrev pair_in : Data → List ℕ × List ℕ
pair_in d = (text_of (first (items_in d)), text_of (first (others (items_in d))))

abbrev pairs_in : Items → List (List ℕ × List ℕ)
pairs_in no_items = []
pairs_in (item d ds) = pair_in d ∷ pairs_in ds

pairs_in-pair_items : (pairs : List (List ℕ × List ℕ)) → pairs_in (pair_items pairs) ≡ pairs
pairs_in-pair_items [] = refl
pairs_in-pair_items (pair ∷ pairs) = ap (λ ps. pair ∷ ps) (pairs_in-pair_items pairs)

pub pair_items-injective : (ps qs : List (List ℕ × List ℕ)) → pair_items ps ≡ pair_items qs → ps ≡ qs
pair_items-injective ps qs e = sym (pairs_in-pair_items ps) ∙ ap pairs_in e ∙ pairs_in-pair_items qs

abbrev event_in : EventName → Items → Event
event_in names.Get ds = Call (requests.Get (text_of (first ds)) (text_of (first (others ds))))
event_in names.Put ds = Call (requests.Put (text_of (first ds)) (text_of (first (others ds))) (text_of (first (others (others ds)))))
event_in names.Remove ds = Call (requests.Remove (text_of (first ds)) (text_of (first (others ds))))
event_in names.Size ds = Call (requests.Size (text_of (first ds)))
event_in names.Ensure ds = Call (requests.Ensure (text_of (first ds)))
event_in names.Truncate ds = Call (requests.Truncate (text_of (first ds)))
event_in names.Destroy ds = Call (requests.Destroy (text_of (first ds)))
event_in names.PutAll ds = Call (requests.PutAll (text_of (first ds)) (pairs_in (items_in (first (others ds)))))
event_in names.Renew ds = Renew (number_of_data (first ds))

event_in-own : (event : Event) → event_in (event_name event) (event_items event) ≡ event
event_in-own (Call (requests.Get cache key)) = refl
event_in-own (Call (requests.Put cache key value)) = refl
event_in-own (Call (requests.Remove cache key)) = refl
event_in-own (Call (requests.Size cache)) = refl
event_in-own (Call (requests.Ensure cache)) = refl
event_in-own (Call (requests.Truncate cache)) = refl
event_in-own (Call (requests.Destroy cache)) = refl
event_in-own (Call (requests.PutAll cache pairs)) = ap (λ ps. Call (requests.PutAll cache ps)) (pairs_in-pair_items pairs)
event_in-own (Renew partition) = refl

event_data-named : (event : Event) → event_data event ≡ named_list (event_word (event_name event)) (event_items event)
event_data-named (Call (requests.Get cache key)) = refl
event_data-named (Call (requests.Put cache key value)) = refl
event_data-named (Call (requests.Remove cache key)) = refl
event_data-named (Call (requests.Size cache)) = refl
event_data-named (Call (requests.Ensure cache)) = refl
event_data-named (Call (requests.Truncate cache)) = refl
event_data-named (Call (requests.Destroy cache)) = refl
event_data-named (Call (requests.PutAll cache pairs)) = refl
event_data-named (Renew partition) = refl

-- events with the same list are one
pub event_data-injective : (a b : Event) → event_data a ≡ event_data b → a ≡ b
event_data-injective a b e =
    let p = named_list-injective (event_name a) (event_name b) (event_items a) (event_items b) (sym (event_data-named a) ∙ e ∙ event_data-named b) in
    sym (event_in-own a) ∙ (λ i. event_in (p.0 i) (p.1 i)) ∙ event_in-own b

-- ---- what is asked

-- the first item of an event's list is its name
pub word_of_event : (d : Data) (word : List ℕ) (ds : Items) → d ≡ named_list word ds → (event : Event) → IsEventOf d event → word ≡ event_word (event_name event)
word_of_event d word ds there event is =
    let lists : named_list word ds ≡ named_list (event_word (event_name event)) (event_items event) = sym there ∙ is.is ∙ event_data-named event in
    cc

pub IsEventOf-asked : (d : Data) (name : EventName) (ds : Items) → d ≡ named_list (event_word name) ds → (event : Event) → IsAsked name ds event → IsEventOf d event
IsEventOf-asked d name ds there event asked =
    record { is = there ∙ sym (λ i. named_list (event_word (asked.name_is i)) (sym asked.items i)) ∙ sym (event_data-named event); limits = asked.limits }

pub IsAsked-event : (d : Data) (name : EventName) (ds : Items) → d ≡ named_list (event_word name) ds → (event : Event) → IsEventOf d event → IsAsked name ds event
IsAsked-event d name ds there event is =
    let p = named_list-injective (event_name event) name (event_items event) ds (sym (event_data-named event) ∙ sym is.is ∙ there) in
    record { name_is = p.0; items = sym p.1; limits = is.limits }

-- what is asked by this name is the event of the name and the items
pub asked_by : (name : EventName) (ds : Items) (event : Event) → IsAsked name ds event → IsAsked name ds (event_in name ds)
asked_by name ds event asked = subst (IsAsked name ds) (sym (event_in-own event) ∙ (λ i. event_in (asked.name_is i) (sym asked.items i))) asked

-- ---- the parts of a put, and of the put of all pairs

pub put_parts : (a b d : Data) (ds : Items) → ds ≡ item a (item b (item d no_items)) → (event : Event) → IsAsked names.Put ds event
    → ((cache : List ℕ) × IsTextOf IsName a cache) × ((key : List ℕ) × IsTextOf IsKey b key) × ((value : List ℕ) × IsTextOf IsValue d value)
put_parts a b d ds are event asked =
    let own = asked_by names.Put ds event asked in
    let same : item a (item b (item d no_items)) ≡ item (string (text_of (first ds))) (item (string (text_of (first (others ds)))) (item (string (text_of (first (others (others ds))))) no_items)) = sym are ∙ own.items in
    ((text_of (first ds), record { is = cc; limits = own.limits.0 }), (text_of (first (others ds)), record { is = cc; limits = own.limits.1 }), (text_of (first (others (others ds))), record { is = cc; limits = own.limits.2 }))

pub put_of_parts : (a b d : Data) (ds : Items) → ds ≡ item a (item b (item d no_items)) → (cache key value : List ℕ) → IsTextOf IsName a cache → IsTextOf IsKey b key → IsTextOf IsValue d value
    → IsAsked names.Put ds (Call (requests.Put cache key value))
put_of_parts a b d ds are cache key value c k v = record { name_is = refl; items = are ∙ (λ i. item (c.is i) (item (k.is i) (item (v.is i) no_items))); limits = (c.limits, k.limits, v.limits) }

pub put_all_parts : (a b : Data) (ds : Items) → ds ≡ item a (item b no_items) → (event : Event) → IsAsked names.PutAll ds event
    → ((cache : List ℕ) × IsTextOf IsName a cache) × ((pairs : List (List ℕ × List ℕ)) × ArePairsOf b pairs)
put_all_parts a b ds are event asked =
    let own = asked_by names.PutAll ds event asked in
    let pairs : List (List ℕ × List ℕ) = pairs_in (items_in (first (others ds))) in
    let same : item a (item b no_items) ≡ item (string (text_of (first ds))) (item (array (pair_items pairs)) no_items) = sym are ∙ own.items in
    ((text_of (first ds), record { is = cc; limits = own.limits.0 }), (pairs, record { are = cc; limits = own.limits.1 }))

pub put_all_of_parts : (a b : Data) (ds : Items) → ds ≡ item a (item b no_items) → (cache : List ℕ) (pairs : List (List ℕ × List ℕ)) → IsTextOf IsName a cache → ArePairsOf b pairs → IsAsked names.PutAll ds (Call (requests.PutAll cache pairs))
put_all_of_parts a b ds are cache pairs c p = record { name_is = refl; items = are ∙ (λ i. item (c.is i) (item (p.are i) no_items)); limits = (c.limits, p.limits) }

-- ---- a cache, and a key

pub cache_and_key_parts : (a b : Data) (ds : Items) → ds ≡ item a (item b no_items) → (found : List ℕ × List ℕ) → AreCacheAndKey ds found → IsTextOf IsName a found.0 × IsTextOf IsKey b found.1
cache_and_key_parts a b ds are found both =
    let same : item a (item b no_items) ≡ item (string found.0) (item (string found.1) no_items) = sym are ∙ both.are in
    (record { is = cc; limits = both.limits.0 }, record { is = cc; limits = both.limits.1 })
