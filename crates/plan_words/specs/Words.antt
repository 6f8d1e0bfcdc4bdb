-- The plans of command-line arguments. Arguments are their bytes.
use Rattle.std.specs.Prelude.{◌≡◌, ◌≢◌, ℕ, ◌<◌, ◌≤◌, ◌^◌, List, [], ◌∷◌, ◌++◌, codes, slice_index, map, Option, Some, None, IfSome, String, string_bytes}
use Rattle.std.specs.Fmt.{decimal}
use Rattle.std.specs.Option.{unwrap_or}
use Rattle.std.specs.declared.alloc.Global.{Global}
use Rattle.cache_key.specs.Names.{IsName}
use Rattle.cache_key.specs.declared.fault.NameFault.{NameFault}
use Rattle.cache_key.specs.declared.fault.NameFault.TheVariants as names
use Rattle.plan_words.specs.declared.words.WordFault.{WordFault}
use Rattle.plan_words.specs.declared.words.WordFault.TheVariants.{Words, NoMemory}

-- the argument may be the value of an option: it doesn't begin as an option does
abbrev pub IsValueWord : List ℕ → Type 0
IsValueWord word = slice_index word 0 ≢ 45

-- ---- the options of the disk

-- the number of a changing call, counted from 1
abbrev pub IsCall : ℕ → Type 0
IsCall call = (1 ≤ call) × (call < 2 ^ 64)

-- the last image that a stop may leave, from 0
abbrev pub last_image : ℕ
last_image = 3

-- the number of an image that a stop may leave
abbrev pub IsPick : ℕ → Type 0
IsPick image = image ≤ last_image

-- a cut: the host's disk of partition 0, and the call from which on it fails
abbrev pub cut_word : List ℕ → ℕ → List ℕ
cut_word host call = host ++ codes "/0/" ++ decimal call

abbrev pub cut_words : List ℕ → Option ℕ → List (List ℕ)
cut_words host None = []
cut_words host (Some call) = codes "--cut" ∷ cut_word host call ∷ []

abbrev pub pick_words : Option ℕ → List (List ℕ)
pick_words None = []
pick_words (Some image) = codes "--pick" ∷ decimal image ∷ []

-- the arguments of a run on this host with one partition, whose disk has this cut and this pick, if any
pub record PlanWords (words : List (List ℕ)) (host : List ℕ) (cut picked : Option ℕ) : Type 0 where
  pub words_are : words ≡ codes "steps" ∷ codes "--hosts" ∷ host ∷ codes "--partitions" ∷ codes "1" ∷ (cut_words host cut ++ pick_words picked)
  pub value_word : IsValueWord host
  pub call : IfSome cut IsCall
  pub image : IfSome picked IsPick

-- ---- plans

-- the arguments plan a run on these hosts with this many partitions
pub record IsPlan (words : List (List ℕ)) (hosts : List (List ℕ)) (partitions : ℕ) : Type 0 where
  pub host : List ℕ
  pub cut : Option ℕ
  pub picked : Option ℕ
  pub words_are : PlanWords words host cut picked
  pub name : IsName host
  pub hosts_are : hosts ≡ host ∷ []
  pub partitions_are : partitions ≡ 1

-- the arguments have a plan
abbrev pub IsPlanned : List (List ℕ) → Type 0
IsPlanned words = (hosts : List (List ℕ)) × (partitions : ℕ) × IsPlan words hosts partitions

-- the arguments have no plan
abbrev pub HasNoPlan : List (List ℕ) → Type 0
HasNoPlan words = (hosts : List (List ℕ)) (partitions : ℕ) → IsPlan words hosts partitions → ⊥

-- if the arguments have a plan, these are its hosts and the number of its partitions
abbrev pub IsSiteOf : List (List ℕ) → List (List ℕ) → ℕ → Type 0
IsSiteOf words hosts partitions = (planned : List (List ℕ)) (count : ℕ) → IsPlan words planned count → (hosts ≡ planned) × (partitions ≡ count)

-- the arguments plan this cut of the one disk, and this image at its restart: the first one if they pick none
pub record IsDiskPlan (words : List (List ℕ)) (cut : Option ℕ) (pick : ℕ) : Type 0 where
  pub host : List ℕ
  pub picked : Option ℕ
  pub words_are : PlanWords words host cut picked
  pub pick_is : pick ≡ unwrap_or picked 0

-- the arguments as contracts see them
abbrev pub words_of : List (String Global) → List (List ℕ)
words_of words = map string_bytes words

-- ---- the parts of the arguments

-- the arguments that every plan has, in their order
pub record AreFixed (steps hosts partitions count : List ℕ) : Type 0 where
  pub steps_is : steps ≡ codes "steps"
  pub hosts_is : hosts ≡ codes "--hosts"
  pub partitions_is : partitions ≡ codes "--partitions"
  pub count_is : count ≡ codes "1"

-- the arguments begin as those of every plan do, name this host, and end with these options
pub record HostWord (words : List (List ℕ)) (host : List ℕ) (options : List (List ℕ)) : Type 0 where
  pub words_are : words ≡ codes "steps" ∷ codes "--hosts" ∷ host ∷ codes "--partitions" ∷ codes "1" ∷ options
  pub value_word : IsValueWord host

abbrev pub HasNoHostWord : List (List ℕ) → Type 0
HasNoHostWord words = (host : List ℕ) (options : List (List ℕ)) → HostWord words host options → ⊥

-- the option with its value is this cut of the host's disk
pub record IsCutOption (host option value : List ℕ) (call : ℕ) : Type 0 where
  pub option_is : option ≡ codes "--cut"
  pub value_is : value ≡ cut_word host call
  pub call_is : IsCall call

abbrev pub IsNoCutOption : List ℕ → List ℕ → List ℕ → Type 0
IsNoCutOption host option value = (call : ℕ) → IsCutOption host option value call → ⊥

-- the option with its value is this pick
pub record IsPickOption (option value : List ℕ) (image : ℕ) : Type 0 where
  pub option_is : option ≡ codes "--pick"
  pub value_is : value ≡ decimal image
  pub image_is : IsPick image

abbrev pub IsNoPickOption : List ℕ → List ℕ → Type 0
IsNoPickOption option value = (image : ℕ) → IsPickOption option value image → ⊥

-- the options are those of this cut of the host's disk and of this pick, if any
pub record AreOptions (host : List ℕ) (options : List (List ℕ)) (cut picked : Option ℕ) : Type 0 where
  pub options_are : options ≡ cut_words host cut ++ pick_words picked
  pub call : IfSome cut IsCall
  pub image : IfSome picked IsPick

abbrev pub AreNoOptions : List ℕ → List (List ℕ) → Type 0
AreNoOptions host options = (cut picked : Option ℕ) → AreOptions host options cut picked → ⊥

-- the arguments are refused, and memory did not run out
abbrev pub IsOfWords : WordFault → Type 0
IsOfWords (Words reason) = Unit {0}
IsOfWords NoMemory = ⊥

-- a refused name of the host refuses the arguments, running out of memory aside
abbrev pub IsFaultOfHost : NameFault → WordFault → Type 0
IsFaultOfHost names.Empty fault = IsOfWords fault
IsFaultOfHost names.Long fault = IsOfWords fault
IsFaultOfHost (names.BadByte at) fault = IsOfWords fault
IsFaultOfHost names.NoMemory fault = fault ≡ NoMemory
