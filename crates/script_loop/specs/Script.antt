-- The lines of a script, their limits, and the commands that they are.
use Rattle.std.specs.Prelude.{◌≡◌, ◌≢◌, ℕ, ◌≤◌, List, [], ◌∷◌, ◌++◌, length, flat_map}
use Rattle.std.specs.List.{AllByRecursion}
use Rattle.script_lines.specs.declared.command.Command.{Command}
use Rattle.script_lines.specs.Form.{IsLineOf}

-- the byte that ends a line
abbrev pub line_feed : ℕ
line_feed = 10

-- a line with its line feed
abbrev pub ended : List ℕ → List ℕ
ended line = line ++ line_feed ∷ []

abbrev pub HasNoLineFeed : List ℕ → Type 0
HasNoLineFeed bytes = AllByRecursion (λ byte. byte ≢ line_feed) bytes

-- the bytes are these lines, each with its line feed, and a piece after the last of them
pub record IsSplit (bytes : List ℕ) (lines : List (List ℕ)) (piece : List ℕ) : Type 0 where
  pub whole : bytes ≡ flat_map ended lines ++ piece
  pub each : AllByRecursion HasNoLineFeed lines
  pub rest : HasNoLineFeed piece

-- ---- limits

-- the most bytes of a line, without its line feed
abbrev pub most_line_bytes : ℕ
most_line_bytes = 1048576

-- the most lines of a script, the empty ones counted
abbrev pub most_lines : ℕ
most_lines = 100000

-- the most bytes of a script
abbrev pub most_script_bytes : ℕ
most_script_bytes = 67108864

abbrev pub IsWithinLineLimit : List ℕ → Type 0
IsWithinLineLimit line = length line ≤ most_line_bytes

-- ---- commands

-- the lines are these commands, one for each line that isn't empty
abbrev pub AreCommands : List (List ℕ) → List Command → Type 0
AreCommands [] [] = Unit {0}
AreCommands [] (command ∷ commands) = ⊥
AreCommands ([] ∷ lines) commands = AreCommands lines commands
AreCommands ((byte ∷ bytes) ∷ lines) [] = ⊥
AreCommands ((byte ∷ bytes) ∷ lines) (command ∷ commands) = IsLineOf (byte ∷ bytes) command × AreCommands lines commands

-- the piece after the last line feed is a line, unless it is empty
abbrev pub last_line : List ℕ → List (List ℕ)
last_line [] = []
last_line (byte ∷ bytes) = (byte ∷ bytes) ∷ []

-- the bytes, as far as a script goes, are these commands, and no line of them is faulty
pub record IsScriptOf (bytes : List ℕ) (commands : List Command) : Type 0 where
  pub lines : List (List ℕ)
  pub piece : List ℕ
  pub split : IsSplit bytes lines piece
  pub spelled : AreCommands (lines ++ last_line piece) commands
  pub short : AllByRecursion IsWithinLineLimit (lines ++ last_line piece)
  pub few : length (lines ++ last_line piece) ≤ most_lines
  pub small : length bytes ≤ most_script_bytes
