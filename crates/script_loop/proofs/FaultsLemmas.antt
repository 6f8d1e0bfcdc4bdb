-- A script with no faulty line has no first faulty line.
use Rattle.std.proofs.Common.{◌≡◌, ◌≢◌, ℕ, ◌+◌, ◌≤◌, List, [], ◌∷◌, ◌++◌, length, refl, sym, ◌∙◌, ap, subst, append_assoc, arith, length-append}
use Rattle.std.specs.Prelude.{flat_map}
use Rattle.std.specs.List.{AllByRecursion}
use Rattle.std.proofs.lemmas.List.{append-nil}
use Rattle.script_lines.specs.declared.command.Command.{Command}
use Rattle.script_lines.specs.Form.{HasNoForm}
use Rattle.script_loop.specs.Script.{line_feed, ended, HasNoLineFeed, IsWithinLineLimit, AreCommands, last_line, IsScriptOf}
use Rattle.script_loop.specs.Faults.{FollowsLine, feed_bytes, is_long, is_late, is_far, IsFaulty, is_past, is_no_command, HasFirstFault}

abbrev head_of : List ℕ → ℕ
head_of [] = 0
head_of (byte ∷ bytes) = byte

abbrev tail_of : List ℕ → List ℕ
tail_of [] = []
tail_of (byte ∷ bytes) = bytes

-- the first line feed stands at one offset
first_feed : (a b x y : List ℕ) → HasNoLineFeed a → HasNoLineFeed b → a ++ line_feed ∷ x ≡ b ++ line_feed ∷ y → (a ≡ b) × (x ≡ y)
first_feed [] [] x y in_a in_b same = (refl, ap tail_of same)
first_feed [] (b ∷ bs) x y in_a in_b same = absurd (in_b.0 (sym (ap head_of same)))
first_feed (a ∷ as_) [] x y in_a in_b same = absurd (in_a.0 (ap head_of same))
first_feed (a ∷ as_) (b ∷ bs) x y in_a in_b same =
    let more = first_feed as_ bs x y in_a.1 in_b.1 (ap tail_of same) in
    (ap (λ (t : ℕ). t ∷ as_) (ap head_of same) ∙ ap (λ (t : List ℕ). b ∷ t) more.0, more.1)

no_feed_in : (b a x : List ℕ) → HasNoLineFeed b → b ≡ a ++ line_feed ∷ x → ⊥
no_feed_in [] [] x in_b same = let sizes : length {A = ℕ} [] ≡ length (line_feed ∷ x) = ap length same in omega (arith, sizes)
no_feed_in [] (a ∷ as_) x in_b same = let sizes : length {A = ℕ} [] ≡ length (a ∷ (as_ ++ line_feed ∷ x)) = ap length same in omega (arith, sizes)
no_feed_in (b ∷ bs) [] x in_b same = in_b.0 (ap head_of same)
no_feed_in (b ∷ bs) (a ∷ as_) x in_b same = no_feed_in bs as_ x in_b.1 (ap tail_of same)

-- an ended line and what follows it
unended : (line more rest : List ℕ) → (ended line ++ more) ++ rest ≡ line ++ line_feed ∷ (more ++ rest)
unended line more rest = append_assoc (ended line) more rest ∙ append_assoc line (line_feed ∷ []) (more ++ rest)

is_last_line : (piece line : List ℕ) → piece ≡ line → line ≢ [] → last_line piece ≡ line ∷ []
is_last_line [] line same some = absurd (some (sym same))
is_last_line (byte ∷ bytes) line same some = ap (λ (l : List ℕ). l ∷ []) same

-- a line that is split off stands among the lines
found : (lines : List (List ℕ)) (piece : List ℕ) (before : List (List ℕ)) (line rest : List ℕ)
    → flat_map ended lines ++ piece ≡ flat_map ended before ++ (line ++ rest)
    → AllByRecursion HasNoLineFeed lines → HasNoLineFeed piece → AllByRecursion HasNoLineFeed before → HasNoLineFeed line → FollowsLine rest → line ++ rest ≢ []
    → (others : List (List ℕ)) × (lines ++ last_line piece ≡ before ++ line ∷ others)
found [] piece [] line [] same each last before here follows some =
    ([], is_last_line piece line (same ∙ append-nil line) (λ empty. some (append-nil line ∙ empty)))
found [] piece [] line (byte ∷ rest) same each last before here follows some =
    absurd (no_feed_in piece line rest last (same ∙ ap (λ (b : ℕ). line ++ b ∷ rest) follows))
found [] piece (b ∷ bs) line rest same each last before here follows some =
    absurd (no_feed_in piece b (flat_map ended bs ++ (line ++ rest)) last (same ∙ unended b (flat_map ended bs) (line ++ rest)))
found (l ∷ ls) piece [] line [] same each last before here follows some =
    absurd (no_feed_in line l (flat_map ended ls ++ piece) here (sym (append-nil line) ∙ sym same ∙ unended l (flat_map ended ls) piece))
found (l ∷ ls) piece [] line (byte ∷ rest) same each last before here follows some =
    let agree = first_feed l line (flat_map ended ls ++ piece) rest each.0 here (sym (unended l (flat_map ended ls) piece) ∙ same ∙ ap (λ (b : ℕ). line ++ b ∷ rest) follows) in
    (ls ++ last_line piece, ap (λ (t : List ℕ). t ∷ (ls ++ last_line piece)) agree.0)
found (l ∷ ls) piece (b ∷ bs) line rest same each last before here follows some =
    let agree = first_feed l b (flat_map ended ls ++ piece) (flat_map ended bs ++ (line ++ rest)) each.0 before.0 (sym (unended l (flat_map ended ls) piece) ∙ same ∙ unended b (flat_map ended bs) (line ++ rest)) in
    let more = found ls piece bs line rest agree.1 each.1 last before.1 here follows some in
    (more.0, ap (λ (t : List ℕ). t ∷ (ls ++ last_line piece)) agree.0 ∙ ap (λ (t : List (List ℕ)). b ∷ t) more.1)

all_there : {X : Type 0} (P : X → Type 0) (xs : List X) (y : X) (ys : List X) → AllByRecursion P (xs ++ y ∷ ys) → P y
all_there P [] y ys all = all.0
all_there P (x ∷ xs) y ys all = all_there P xs y ys all.1

spelled_there : (lines : List (List ℕ)) (line : List ℕ) (others : List (List ℕ)) (commands : List Command)
    → line ≢ [] → HasNoForm line → AreCommands (lines ++ line ∷ others) commands → ⊥
spelled_there [] [] others commands some none spelled = some refl
spelled_there [] (b ∷ bs) others [] some none spelled = spelled
spelled_there [] (b ∷ bs) others (c ∷ cs) some none spelled = none c spelled.0
spelled_there ([] ∷ lines) line others commands some none spelled = spelled_there lines line others commands some none spelled
spelled_there ((b ∷ bs) ∷ lines) line others [] some none spelled = spelled
spelled_there ((b ∷ bs) ∷ lines) line others (c ∷ cs) some none spelled = spelled_there lines line others cs some none spelled.1

feed_within : (rest : List ℕ) → feed_bytes rest ≤ length rest
feed_within [] = omega arith
feed_within (byte ∷ bytes) = omega arith

-- a line that is short, among few, near and spelled isn't faulty
not_faulty : (lines passed : ℕ) (line rest : List ℕ) → length line ≤ 1048576 → lines + 1 ≤ 100000 → passed + (length line + length rest) ≤ 67108864
    → (line ≢ [] → HasNoForm line → ⊥) → IsFaulty lines passed line rest → ⊥
not_faulty lines passed line rest short few small spelled (is_past (is_long long)) = omega arith
not_faulty lines passed line rest short few small spelled (is_past (is_late late)) = omega arith
not_faulty lines passed line rest short few small spelled (is_past (is_far far)) = let feed = feed_within rest in omega (arith, feed, far, small)
not_faulty lines passed line rest short few small spelled (is_no_command some none) = spelled some none

pub no_first_fault : (script : List ℕ) (commands : List Command) (n : ℕ) (answered : List Command) → IsScriptOf script commands → HasFirstFault script n answered → ⊥
no_first_fault script commands n answered good bad =
    let among = found good.lines good.piece bad.lines bad.line bad.rest (sym good.split.whole ∙ bad.whole) good.split.each good.split.rest bad.each bad.here bad.follows bad.is_line in
    let short = all_there IsWithinLineLimit bad.lines bad.line among.0 (subst (λ (ls : List (List ℕ)). AllByRecursion IsWithinLineLimit ls) among.1 good.short) in
    let few : length (bad.lines ++ bad.line ∷ among.0) ≤ 100000 = subst (λ (ls : List (List ℕ)). length ls ≤ 100000) among.1 good.few in
    let counted : length (bad.lines ++ bad.line ∷ among.0) ≡ length bad.lines + length (bad.line ∷ among.0) = length-append bad.lines (bad.line ∷ among.0) in
    let small : length (flat_map ended bad.lines ++ (bad.line ++ bad.rest)) ≤ 67108864 = subst (λ (s : List ℕ). length s ≤ 67108864) bad.whole good.small in
    let measured : length (flat_map ended bad.lines ++ (bad.line ++ bad.rest)) ≡ length (flat_map ended bad.lines) + (length bad.line + length bad.rest) =
    length-append (flat_map ended bad.lines) (bad.line ++ bad.rest) ∙ ap (λ (m : ℕ). length (flat_map ended bad.lines) + m) (length-append bad.line bad.rest) in
    not_faulty (length bad.lines) (length (flat_map ended bad.lines)) bad.line bad.rest short (omega (arith, few, counted)) (omega (arith, small, measured))
    (λ some none. spelled_there bad.lines bad.line among.0 commands some none (subst (λ (ls : List (List ℕ)). AreCommands ls commands) among.1 good.spelled))
    bad.fault
