-- Lines without a control byte but their line feed.
use Rattle.std.specs.Prelude.{◌≡◌, ℕ, ◌≤◌, List, [], ◌∷◌, ◌++◌, All}

-- a text without a control byte, and one line feed after it
abbrev pub IsOneLine : List ℕ → Type 0
IsOneLine line = (text : List ℕ) × (line ≡ text ++ 10 ∷ []) × All (λ byte. 32 ≤ byte) text
