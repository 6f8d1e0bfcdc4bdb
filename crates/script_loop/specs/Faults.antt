-- The first faulty line of a script, from the script's bytes alone.
use Rattle.std.specs.Prelude.{◌≡◌, ◌≢◌, ℕ, ◌+◌, ◌<◌, ◌≤◌, List, [], ◌∷◌, ◌++◌, length, flat_map}
use Rattle.std.specs.List.{AllByRecursion}
use Rattle.script_lines.specs.declared.command.Command.{Command}
use Rattle.script_lines.specs.Form.{HasNoForm}
use Rattle.script_loop.specs.Script.{line_feed, ended, HasNoLineFeed, most_line_bytes, most_lines, most_script_bytes, IsWithinLineLimit, AreCommands}

-- what follows a whole line: nothing, or its line feed and the rest of the script
abbrev pub FollowsLine : List ℕ → Type 0
FollowsLine [] = Unit {0}
FollowsLine (byte ∷ bytes) = byte ≡ line_feed

-- 1 where a line feed ends the line that is followed by this, 0 where the script's end does
abbrev pub feed_bytes : List ℕ → ℕ
feed_bytes [] = 0
feed_bytes (byte ∷ bytes) = 1

-- A line of so many bytes stands after so many lines, which have so many bytes; with its line feed, it is past a limit.
pub data IsPastLimit (lines passed size feed : ℕ) : Type 0 where
  is_long : most_line_bytes < size → IsPastLimit lines passed size feed
  is_late : most_lines ≤ lines → IsPastLimit lines passed size feed
  is_far : most_script_bytes < passed + (size + feed) → IsPastLimit lines passed size feed

-- why a line is faulty that stands after so many lines, which have so many bytes, and is followed by the rest
pub data IsFaulty (lines passed : ℕ) (line rest : List ℕ) : Type 0 where
  is_past : IsPastLimit lines passed (length line) (feed_bytes rest) → IsFaulty lines passed line rest
  is_no_command : line ≢ [] → HasNoForm line → IsFaulty lines passed line rest

-- Line n of the script, counted from 1, is faulty, and none before it is: these are their commands.
-- What stands after the script's last line feed is a line unless it is empty.
pub record HasFirstFault (script : List ℕ) (n : ℕ) (commands : List Command) : Type 0 where
  pub lines : List (List ℕ)
  pub line : List ℕ
  pub rest : List ℕ
  pub whole : script ≡ flat_map ended lines ++ (line ++ rest)
  pub each : AllByRecursion HasNoLineFeed lines
  pub here : HasNoLineFeed line
  pub follows : FollowsLine rest
  pub is_line : line ++ rest ≢ []
  pub number : n ≡ length lines + 1
  pub short : AllByRecursion IsWithinLineLimit lines
  pub few : length lines ≤ most_lines
  pub small : length (flat_map ended lines) ≤ most_script_bytes
  pub spelled : AreCommands lines commands
  pub fault : IsFaulty (length lines) (length (flat_map ended lines)) line rest
