-- A run goes on by a line.
use Rattle.std.proofs.Common.{◌≡◌, ◌≢◌, inl, ℕ, ◌+◌, ◌<◌, ◌≤◌, List, [], ◌∷◌, ◌++◌, length, sym, ◌∙◌, ap, subst, append_assoc, arith, length-append, refl, Option}
use Rattle.std.specs.Prelude.{flat_map}
use Rattle.std.specs.List.{AllByRecursion}
use Rattle.std.proofs.lemmas.List.{append-nil}
use Rattle.std.proofs.lemmas.Grind.{flat_map-append}
use Rattle.byte_streams.specs.Streams.{Adds}
use Rattle.byte_streams.proofs.StreamsLemmas.{adds_none, adds_joined, no_prefix}
use Rattle.script_lines.specs.declared.command.Command.{Command}
use Rattle.script_lines.specs.declared.answer.Answer.{Answer}
use Rattle.script_lines.specs.Form.{IsLineOf}
use Rattle.script_loop.specs.Script.{line_feed, ended, HasNoLineFeed, IsSplit, IsWithinLineLimit, AreCommands}
use Rattle.report_lines.specs.Line.{answer_line}
use Rattle.script_loop.specs.Chain.{Answers, Breaks, Chain, Span, between}
use Rattle.script_loop.specs.Kinds.{EndsAfter, IsPrefixReport, IsCutReport}
use Rattle.script_loop.specs.Lines.{LineStep, IsAnswered}
use Rattle.script_loop.specs.Report.{report_of, IsLastLine, is_empty, is_last, IsReportOf}
use Rattle.script_loop.specs.Progress.{Holds, Reached, Advances, IsFinished}
use Rattle.script_loop.specs.declared.session.Session.{Session}

pub all_append : {X : Type 0} (P : X → Type 0) (xs ys : List X) → AllByRecursion P xs → AllByRecursion P ys → AllByRecursion P (xs ++ ys)
all_append P [] ys here there = there
all_append P (x ∷ xs) ys here there = (here.0, all_append P xs ys here.1 there)

-- one answer more, at the end
chain_more : {M : Type 0} (does : Answers M) (old : M) (commands : List Command) (answers : List Answer) (mid : M) (command : Command) (answer : Answer) (new : M)
    → Chain does old commands answers mid → does mid command answer new → Chain does old (commands ++ command ∷ []) (answers ++ answer ∷ []) new
chain_more {M} does old [] [] mid command answer new run step = (new, subst (λ (s : M). does s command answer new) run step, refl)
chain_more does old (c ∷ cs) (a ∷ as_) mid command answer new run step = (run.0, run.1, chain_more does run.0 cs as_ mid command answer new run.2 step)
chain_more does old [] (a ∷ as_) mid command answer new run step = absurd run
chain_more does old (c ∷ cs) [] mid command answer new run step = absurd run

commands_more : (lines : List (List ℕ)) (commands : List Command) (byte : ℕ) (bytes : List ℕ) (command : Command)
    → AreCommands lines commands → IsLineOf (byte ∷ bytes) command → AreCommands (lines ++ (byte ∷ bytes) ∷ []) (commands ++ command ∷ [])
commands_more [] [] byte bytes command so_far line = (line, tt)
commands_more [] (c ∷ cs) byte bytes command so_far line = absurd so_far
commands_more ([] ∷ lines) cs byte bytes command so_far line = commands_more lines cs byte bytes command so_far line
commands_more ((x ∷ xs) ∷ lines) [] byte bytes command so_far line = absurd so_far
commands_more ((x ∷ xs) ∷ lines) (c ∷ cs) byte bytes command so_far line = (so_far.0, commands_more lines cs byte bytes command so_far.1 line)

commands_empty : (lines : List (List ℕ)) (commands : List Command) → AreCommands lines commands → AreCommands (lines ++ [] ∷ []) commands
commands_empty [] [] so_far = tt
commands_empty [] (c ∷ cs) so_far = absurd so_far
commands_empty ([] ∷ lines) cs so_far = commands_empty lines cs so_far
commands_empty ((x ∷ xs) ∷ lines) [] so_far = absurd so_far
commands_empty ((x ∷ xs) ∷ lines) (c ∷ cs) so_far = (so_far.0, commands_empty lines cs so_far.1)

-- the commands and answers with those of one line more, whose answer's line is the text
pub record Grown {M : Type 0} (does : Answers M) (first : M) (lines : List (List ℕ)) (shown text : List ℕ) (new : M) : Type 0 where
  pub commands : List Command
  pub answers : List Answer
  pub spelled : AreCommands lines commands
  pub run : Chain does first commands answers new
  pub report_is : report_of answers ≡ shown ++ text
  pub text_is : IsLastLine answers text

pub grown : {M : Type 0} (does : Answers M) (first : M) (lines : List (List ℕ)) (commands : List Command) (answers : List Answer) (old : M) (line text : List ℕ) (new : M)
    → AreCommands lines commands → Chain does first commands answers old → LineStep does old line text new
    → Grown does first (lines ++ line ∷ []) (report_of answers) text new
grown does first lines commands answers old [] text new spelled run step = record {
  commands = commands;
  answers = answers;
  spelled = commands_empty lines commands spelled;
  run = subst (λ s. Chain does first commands answers s) (sym step.1) run;
  report_is = rw step.0 (sym (append-nil (report_of answers)));
  text_is = is_empty step.0;
}
grown does first lines commands answers old (byte ∷ bytes) text new spelled run step = record {
  commands = commands ++ step.command ∷ [];
  answers = answers ++ step.answer ∷ [];
  spelled = commands_more lines commands byte bytes step.command spelled step.line_is;
  run = chain_more does first commands answers old step.command step.answer new run step.step;
  report_is = flat_map-append answer_line answers (step.answer ∷ []) ∙ ap (λ (t : List ℕ). report_of answers ++ t) (append-nil (answer_line step.answer) ∙ sym step.text_is);
  text_is = is_last answers step.answer refl step.text_is;
}

-- the lines with one more, whose line feed has come
pub whole_more : (lines : List (List ℕ)) (line : List ℕ) → flat_map ended (lines ++ line ∷ []) ≡ flat_map ended lines ++ ended line
whole_more lines line = flat_map-append ended lines (line ∷ []) ∙ ap (λ (t : List ℕ). flat_map ended lines ++ t) (append-nil (ended line))

-- more has come of the line under way
pub split_held : (read : List ℕ) (lines : List (List ℕ)) (line more : List ℕ) → IsSplit read lines line → HasNoLineFeed more → IsSplit (read ++ more) lines (line ++ more)
split_held read lines line more split no_feed = record {
  whole = ap (λ (g : List ℕ). g ++ more) split.whole ∙ append_assoc (flat_map ended lines) line more;
  each = split.each;
  rest = all_append (λ (byte : ℕ). byte ≢ line_feed) line more split.rest no_feed;
}

pub split_more : (given : List ℕ) (lines : List (List ℕ)) (line : List ℕ) → IsSplit given lines line → IsSplit (given ++ line_feed ∷ []) (lines ++ line ∷ []) []
split_more given lines line split = record {
  whole = ap (λ (g : List ℕ). g ++ line_feed ∷ []) split.whole ∙ append_assoc (flat_map ended lines) line (line_feed ∷ []) ∙ sym (whole_more lines line) ∙ sym (append-nil (flat_map ended (lines ++ line ∷ [])));
  each = all_append HasNoLineFeed lines (line ∷ []) split.each (split.rest, tt);
  rest = tt;
}

-- a line with its line feed, by its length
pub length-whole_more : (lines : List (List ℕ)) (line : List ℕ) → length (flat_map ended (lines ++ line ∷ [])) ≡ length (flat_map ended lines) + (length line + 1)
length-whole_more lines line = rw (whole_more lines line) (simp length-append (omega arith))

-- the line under way is ended and answered
pub line_advances : {M : Type 0} (does : Answers M) (old new : Session) (v w : M) (was now : Option (List ℕ)) (rest : List ℕ) → HasNoLineFeed rest
    → length old.partial.items + length rest ≤ 1048576 → IsAnswered does v (old.partial.items ++ rest) was now w
    → new.partial.items ≡ [] → new.lines ≡ old.lines + 1 → new.passed ≡ old.passed + (length old.partial.items + length rest + 1)
    → Advances does old v was (ended rest) new w now
line_advances does old new v w was now rest no_feed short answered empty lines passed = λ first read before so_far.
    let line : List ℕ = old.partial.items ++ rest in
    let size : length line ≡ length old.partial.items + length rest = length-append old.partial.items rest in
    let split = split_more (read ++ rest) so_far.lines line (split_held read so_far.lines old.partial.items rest so_far.split no_feed) in
    let more = grown does first so_far.lines so_far.commands so_far.answers v line answered.text w so_far.spelled so_far.run answered.step in
    record {
      lines = so_far.lines ++ line ∷ [];
      commands = more.commands;
      answers = more.answers;
      split = subst (λ (b : List ℕ). IsSplit b (so_far.lines ++ line ∷ []) new.partial.items) (append_assoc read rest (line_feed ∷ [])) (rw empty split);
      short = all_append IsWithinLineLimit so_far.lines (line ∷ []) so_far.short ((omega (arith, size, short)), tt);
      spelled = more.spelled;
      run = more.run;
      counted = rw (lines, so_far.counted) (sym (length-append so_far.lines (line ∷ [])));
      measured = (let grows = length-whole_more so_far.lines line in omega (arith, passed, so_far.measured, grows, size));
      added = subst (λ (t : List ℕ). Adds before t now) (sym more.report_is) (adds_joined before was now (report_of so_far.answers) answered.text so_far.added answered.added);
    }

-- more has come of the line under way
pub hold_advances : {M : Type 0} (does : Answers M) (old new : Session) (v : M) (written : Option (List ℕ)) (more : List ℕ) → Holds old new more → HasNoLineFeed more
    → Advances does old v written more new v written
hold_advances does old new v written more held no_feed = λ first read before so_far. record {
  lines = so_far.lines;
  commands = so_far.commands;
  answers = so_far.answers;
  split = rw held.partial (split_held read so_far.lines old.partial.items more so_far.split no_feed);
  short = so_far.short;
  spelled = so_far.spelled;
  run = so_far.run;
  counted = held.lines ∙ so_far.counted;
  measured = held.passed ∙ so_far.measured;
  added = so_far.added;
}

-- the ended lines are a script of their own, and this is its report
pub prefix_of_lines : {M : Type 0} (span : Span M) (script : List ℕ) (lines : List (List ℕ)) (rest : List ℕ) (commands : List Command) (answers : List Answer) (last : M)
    → script ≡ flat_map ended lines ++ rest
    → AllByRecursion HasNoLineFeed lines → AllByRecursion IsWithinLineLimit lines → length lines ≤ 100000 → length (flat_map ended lines) ≤ 67108864
    → AreCommands lines commands → Chain span.answers span.first commands answers last → EndsAfter span last rest [] → IsPrefixReport span script (report_of answers) []
prefix_of_lines span script lines rest commands answers last script_is each short few small spelled run ends = record {
  prefix = flat_map ended lines;
  rest = rest;
  last = last;
  script_is = script_is;
  is = record {
    commands = commands;
    answers = answers;
    script_is = record {
      lines = lines;
      piece = [];
      split = record { whole = sym (append-nil (flat_map ended lines)); each = each; rest = tt };
      spelled = rw (append-nil lines) spelled;
      short = rw (append-nil lines) short;
      few = rw (append-nil lines) few;
      small = small;
    };
    run = run;
    lines = append-nil (report_of answers);
  };
  at_line = inl refl;
  tail_is = is_empty refl;
  ends = ends;
}

-- the report of a script, in which the text is the line of the last answer
pub record EndsWithLine {M : Type 0} (does : Answers M) (first : M) (script shown text : List ℕ) (last : M) : Type 0 where
  pub is : IsReportOf does first script (shown ++ text) last
  pub text_is : IsLastLine is.answers text

-- The piece after the ended lines is a line, and is answered: the whole is a script of its own.
pub report_with : {M : Type 0} (does : Answers M) (first : M) (script : List ℕ) (lines : List (List ℕ)) (commands : List Command) (answers : List Answer) (v : M) (line text : List ℕ) (state : M)
    → IsSplit script lines line → AllByRecursion IsWithinLineLimit lines → AreCommands lines commands → Chain does first commands answers v
    → length line ≤ 1048576 → (0 < length line → length lines < 100000) → length lines ≤ 100000 → length script ≤ 67108864
    → LineStep does v line text state → EndsWithLine does first script (report_of answers) text state
report_with does first script lines commands answers v [] text state split within spelled run short below few small step = record {
  is = record {
    commands = commands;
    answers = answers;
    script_is = record {
      lines = lines;
      piece = [];
      split = split;
      spelled = rw (append-nil lines) spelled;
      short = rw (append-nil lines) within;
      few = rw (append-nil lines) few;
      small = small;
    };
    run = subst (λ s. Chain does first commands answers s) (sym step.1) run;
    lines = ap (λ (t : List ℕ). report_of answers ++ t) step.0 ∙ append-nil (report_of answers);
  };
  text_is = is_empty step.0;
}
report_with does first script lines commands answers v (byte ∷ bytes) text state split within spelled run short below few small step =
    let more = grown does first lines commands answers v (byte ∷ bytes) text state spelled run step in
    record {
      is = record {
        commands = more.commands;
        answers = more.answers;
        script_is = record {
          lines = lines;
          piece = byte ∷ bytes;
          split = split;
          spelled = more.spelled;
          short = all_append IsWithinLineLimit lines ((byte ∷ bytes) ∷ []) within (short, tt);
          few = simp length-append (let fewer = below (omega arith) in omega (arith, fewer));
          small = small;
        };
        run = more.run;
        lines = sym more.report_is;
      };
      text_is = more.text_is;
    }

-- how many bytes were read
pub read_size : {M : Type 0} (does : Answers M) (first : M) (read : List ℕ) (before : Option (List ℕ)) (session : Session) (v : M) (was : Option (List ℕ))
    → Reached does first read before session v was → length read ≡ session.passed + length session.partial.items
read_size does first read before session v was so_far =
    ap length so_far.split.whole ∙ length-append (flat_map ended so_far.lines) session.partial.items ∙ ap (λ (n : ℕ). n + length session.partial.items) (sym so_far.measured)

-- the line under way, with the rest of it, is answered: what was read is a script of its own
pub report_of_line : {M : Type 0} (does : Answers M) (first : M) (read : List ℕ) (before : Option (List ℕ)) (session : Session) (v : M) (was : Option (List ℕ)) (tail line text : List ℕ) (state : M)
    → (so_far : Reached does first read before session v was)
    → line ≡ session.partial.items ++ tail → HasNoLineFeed tail → length line ≤ 1048576 → (0 < length line → session.lines < 100000) → session.passed + length line ≤ 67108864
    → LineStep does v line text state → EndsWithLine does first (read ++ tail) (report_of so_far.answers) text state
report_of_line does first read before session v was tail line text state so_far line_is no_feed short below small step =
    let few = session.few in
    let split : IsSplit (read ++ tail) so_far.lines line = subst (λ (l : List ℕ). IsSplit (read ++ tail) so_far.lines l) (sym line_is) (split_held read so_far.lines session.partial.items tail so_far.split no_feed) in
    let sizes : length (read ++ tail) ≡ session.passed + length line = ap length split.whole ∙ length-append (flat_map ended so_far.lines) line ∙ ap (λ (n : ℕ). n + length line) (sym so_far.measured) in
    report_with does first (read ++ tail) so_far.lines so_far.commands so_far.answers v line text state split so_far.short so_far.spelled so_far.run short
    (λ some. let fewer = below some in omega (arith, fewer, so_far.counted)) (omega (arith, few, so_far.counted)) (omega (arith, sizes, small)) step

-- the piece after the last line feed is answered too, and the script is at its end
pub finished : {M : Type 0} (does : Answers M) (breaks : Breaks M) (first : M) (script : List ℕ) (before : Option (List ℕ)) (session : Session) (v w : M) (was now : Option (List ℕ)) (line : List ℕ)
    → line ≡ session.partial.items → IsAnswered does v line was now w → Reached does first script before session v was
    → IsFinished (between does breaks first w) script before now
finished does breaks first script before session v w was now line line_is answered so_far =
    let short = session.short in
    let open_ = session.open in
    let small = session.small in
    let size : length line ≡ length session.partial.items = ap length line_is in
    let held = session.partial.ok.0 in
    record {
      report = report_of so_far.answers ++ answered.text;
      last = w;
      is = subst (λ (s : List ℕ). IsReportOf does first s (report_of so_far.answers ++ answered.text) w) (append-nil script)
          (report_of_line does first script before session v was [] line answered.text w so_far (line_is ∙ sym (append-nil session.partial.items)) tt (omega (arith, size, held, short))
          (λ some. open_ (omega (arith, size, held, some))) (omega (arith, size, held, small)) answered.step).is;
      at_end = refl;
      added = adds_joined before was now (report_of so_far.answers) answered.text so_far.added answered.added;
    }

-- at the start nothing is answered
pub reached_at_start : {M : Type 0} (does : Answers M) (first : M) (session : Session) (written : Option (List ℕ))
    → (session.partial.items ≡ []) × (session.lines ≡ 0) × (session.passed ≡ 0) → Reached does first [] written session first written
reached_at_start does first session written empty = record {
  lines = [];
  commands = [];
  answers = [];
  split = record { whole = sym empty.0; each = tt; rest = rw empty.0 tt };
  short = tt;
  spelled = tt;
  run = refl;
  counted = empty.1;
  measured = empty.2;
  added = adds_none written;
}

-- nothing of the line under way is added: the lines before it have their report
pub prefix_so_far : {M : Type 0} (span : Span M) (read rest : List ℕ) (before : Option (List ℕ)) (session : Session) (v : M) (was now : Option (List ℕ))
    → Reached span.answers span.first read before session v was → now ≡ was → EndsAfter span v (session.partial.items ++ rest) [] → IsCutReport span (read ++ rest) before now
prefix_so_far span read rest before session v was now so_far same ends =
    let few = session.few in
    let small = session.small in
    record {
      shown = report_of so_far.answers;
      tail = [];
      is = prefix_of_lines span (read ++ rest) so_far.lines (session.partial.items ++ rest) so_far.commands so_far.answers v
          (ap (λ (t : List ℕ). t ++ rest) so_far.split.whole ∙ append_assoc (flat_map ended so_far.lines) session.partial.items rest)
          so_far.split.each so_far.short (omega (arith, few, so_far.counted)) (omega (arith, small, so_far.measured)) so_far.spelled so_far.run ends;
      added = record { mid = now; added = subst (λ (w : Option (List ℕ)). Adds before (report_of so_far.answers) w) (sym same) so_far.added; cut = no_prefix now [] };
    }

-- ---- bytes in a row

pub advances_none : {M : Type 0} (does : Answers M) (session : Session) (v : M) (was : Option (List ℕ)) → Advances does session v was [] session v was
advances_none does session v was = λ first read before so_far. subst (λ (b : List ℕ). Reached does first b before session v was) (sym (append-nil read)) so_far

pub advances_then : {M : Type 0} (does : Answers M) (a b c : Session) (u v w : M) (was mid now : Option (List ℕ)) (xs ys : List ℕ)
    → Advances does a u was xs b v mid → Advances does b v mid ys c w now → Advances does a u was (xs ++ ys) c w now
advances_then does a b c u v w was mid now xs ys one other = λ first read before so_far.
    subst (λ (l : List ℕ). Reached does first l before c w now) (append_assoc read xs ys) (other first (read ++ xs) before (one first read before so_far))

-- a piece, of which a prefix is taken with the line feed after it
pub piece_goes_on : (piece prefix rest line after : List ℕ) → piece ≡ prefix ++ rest → rest ≡ line ++ line_feed ∷ after → piece ≡ (prefix ++ ended line) ++ after
piece_goes_on piece prefix rest line after whole split =
    whole ∙ ap (λ (t : List ℕ). prefix ++ t) (split ∙ sym (append_assoc line (line_feed ∷ []) after)) ∙ sym (append_assoc prefix (ended line) after)
