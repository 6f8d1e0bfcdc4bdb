-- How far a run has come that halts on a line.
use Rattle.std.proofs.Common.{◌≡◌, ◌≢◌, inr, ℕ, ◌+◌, ◌<◌, ◌≤◌, List, [], ◌∷◌, ◌++◌, length, refl, sym, ◌∙◌, ap, subst, append_assoc, arith, length-append, Option}
use Rattle.std.specs.Prelude.{flat_map}
use Rattle.std.proofs.lemmas.List.{append-nil}
use mathlib.Core.Logic.{dite}
use native.Mathlib.Decide.{ℕ_discrete}
use Rattle.byte_streams.specs.Streams.{Adds}
use Rattle.script_lines.specs.Form.{HasNoForm}
use Rattle.script_loop.specs.Chain.{Answers, Breaks, Span, between, unbroken}
use Rattle.script_loop.specs.Faults.{FollowsLine, IsPastLimit, is_long, is_late, is_far, IsFaulty, is_past, is_no_command}
use Rattle.script_loop.specs.Halts.{StopsAt, HaltsWith}
use Rattle.script_loop.specs.Kinds.{at_answer, in_line, IsCutReport}
use Rattle.script_loop.specs.Lines.{IsCutLine, not_begun, broken_off, answered, HaltsInLine}
use Rattle.script_loop.specs.Progress.{HaltsHold, Reached, Advances, HaltsIn}
use Rattle.script_loop.specs.Report.{report_of}
use Rattle.script_loop.specs.Script.{line_feed, ended, HasNoLineFeed}
use Rattle.script_loop.specs.declared.session.Session.{Session}
use Rattle.script_loop.specs.declared.session.Halt.{Halt}
use Rattle.script_loop.specs.declared.session.Halt.TheVariants.{Faulty, ReadFault, WriteFault, NoMemory}
use Rattle.script_loop.proofs.ProgressLemmas.{all_append, prefix_so_far, read_size, report_of_line}

-- a text up to its next line feed, or its end, and the rest of it
pub record Cut (text : List ℕ) : Type 0 where
  pub prefix : List ℕ
  pub rest : List ℕ
  pub whole : text ≡ prefix ++ rest
  pub here : HasNoLineFeed prefix
  pub follows : FollowsLine rest

pub cut : (text : List ℕ) → Cut text
cut [] = record { prefix = []; rest = []; whole = refl; here = tt; follows = tt }
cut (byte ∷ bytes) = dite (ℕ_discrete byte line_feed)
    (λ same. record { prefix = []; rest = byte ∷ bytes; whole = refl; here = tt; follows = same })
    (λ other. let more = cut bytes in
    record { prefix = byte ∷ more.prefix; rest = more.rest; whole = ap (λ (t : List ℕ). byte ∷ t) more.whole; here = (other, more.here); follows = more.follows })

-- ---- a faulty line

-- The line under way, with its tail, is faulty, and nothing was done of it.
pub stops : {M : Type 0} (does : Answers M) (breaks : Breaks M) (first : M) (given tail rest read after : List ℕ) (before : Option (List ℕ)) (session : Session) (v w : M) (was now : Option (List ℕ)) (n : ℕ)
    → Reached does first given before session v was → v ≡ w → now ≡ was
    → read ++ after ≡ given ++ (tail ++ rest) → HasNoLineFeed tail → FollowsLine rest → session.passed < length read → n ≡ session.lines + 1
    → IsFaulty session.lines session.passed (session.partial.items ++ tail) rest → StopsAt (between does breaks first w) (read ++ after) read before n now
stops does breaks first given tail rest read after before session v w was now n so_far left same is no_feed follows reach number fault =
    let few = session.few in
    let small = session.small in
    let flat : List ℕ = flat_map ended so_far.lines in
    let whole : read ++ after ≡ flat ++ ((session.partial.items ++ tail) ++ rest) = is ∙ ap (λ (g : List ℕ). g ++ (tail ++ rest)) so_far.split.whole ∙ append_assoc flat session.partial.items (tail ++ rest) ∙ ap (λ (t : List ℕ). flat ++ t) (sym (append_assoc session.partial.items tail rest)) in
    let given_size = read_size does first given before session v was so_far in
    let sizes : length (read ++ after) ≡ length (flat ++ ((session.partial.items ++ tail) ++ rest)) = ap length whole in
    let more : length flat < length (flat ++ ((session.partial.items ++ tail) ++ rest)) = omega (arith, sizes, length-append read after, reach, so_far.measured) in
    record {
      lines = report_of so_far.answers;
      is = record {
        commands = so_far.commands;
        answers = so_far.answers;
        last = v;
        faulty = record {
          lines = so_far.lines;
          line = session.partial.items ++ tail;
          rest = rest;
          whole = whole;
          each = so_far.split.each;
          here = all_append (λ (byte : ℕ). byte ≢ line_feed) session.partial.items tail so_far.split.rest no_feed;
          follows = follows;
          is_line = λ none. (let empty : length ((session.partial.items ++ tail) ++ rest) ≡ 0 = ap length none in omega (arith, more, empty, length-append flat ((session.partial.items ++ tail) ++ rest)));
          number = omega (arith, number, so_far.counted);
          short = so_far.short;
          few = omega (arith, few, so_far.counted);
          small = omega (arith, small, so_far.measured);
          spelled = so_far.spelled;
          fault = rw (← so_far.counted, ← so_far.measured) fault;
        };
        run = so_far.run;
        at_end = left;
        report_is = refl;
      };
      reaches = omega (arith, reach, so_far.measured);
      added = subst (λ (o : Option (List ℕ)). Adds before (report_of so_far.answers) o) (sym same) so_far.added;
    }

-- what has come of a line is past a limit, and so is the line
past_more : (lines passed held feed size feeds : ℕ) → held ≤ size → held + feed ≤ size + feeds → IsPastLimit lines passed held feed → IsPastLimit lines passed size feeds
past_more lines passed held feed size feeds within all (is_long long) = is_long (omega arith)
past_more lines passed held feed size feeds within all (is_late late) = is_late late
past_more lines passed held feed size feeds within all (is_far far) = is_far (omega arith)

-- nothing is done of the bytes that came
nothing_more : {M : Type 0} (span : Span M) (read bytes rest : List ℕ) (before : Option (List ℕ)) (session : Session) (v : M) (was : Option (List ℕ))
    → Reached span.answers span.first read before session v was → span.ends v → IsCutReport span ((read ++ bytes) ++ rest) before was
nothing_more span read bytes rest before session v was so_far end =
    subst (λ (s : List ℕ). IsCutReport span s before was) (sym (append_assoc read bytes rest)) (prefix_so_far span read (bytes ++ rest) before session v was was so_far refl (at_answer end))

-- bytes that the line under way doesn't take
pub hold_halts : {M : Type 0} (does : Answers M) (breaks : Breaks M) (session : Session) (v : M) (was : Option (List ℕ)) (more : List ℕ) (halt : Halt) → HasNoLineFeed more
    → HaltsHold session more halt → HaltsIn does breaks session v was more halt v was
hold_halts does breaks session v was more (Faulty n reason) no_feed past = λ first read rest before so_far.
    let next = cut rest in
    let some = past.some in
    let size = session.partial.ok.0 in
    let sizes : length (read ++ more) ≡ length read + length more = length-append read more in
    let held : length (session.partial.items ++ (more ++ next.prefix)) ≡ length session.partial.items + (length more + length next.prefix) = simp length-append (omega arith) in
    stops does breaks first read (more ++ next.prefix) next.rest (read ++ more) rest before session v v was was n so_far refl refl
    (append_assoc read more rest ∙ ap (λ (t : List ℕ). read ++ (more ++ t)) next.whole ∙ ap (λ (t : List ℕ). read ++ t) (sym (append_assoc more next.prefix next.rest)))
    (all_append (λ (byte : ℕ). byte ≢ line_feed) more next.prefix no_feed next.here) next.follows
    (omega (arith, sizes, some, read_size does first read before session v was so_far)) past.number
    (is_past (past_more session.lines session.passed (session.partial.len + length more) 0 _ _ (omega (arith, held, size)) (omega (arith, held, size)) past.past))
hold_halts does breaks session v was more ReadFault no_feed none = absurd none
hold_halts does breaks session v was more WriteFault no_feed none = absurd none
hold_halts does breaks session v was more NoMemory no_feed none = λ first read rest before so_far. nothing_more (between does breaks first v) read more rest before session v was so_far refl

-- a line whose line feed has come is past a limit
pub limit_halts : {M : Type 0} (does : Answers M) (breaks : Breaks M) (session : Session) (v : M) (was : Option (List ℕ)) (rest : List ℕ) (size n : ℕ) → HasNoLineFeed rest
    → size ≡ length session.partial.items + length rest → n ≡ session.lines + 1 → IsPastLimit session.lines session.passed size 1
    → (first : M) (read after : List ℕ) (before : Option (List ℕ)) → Reached does first read before session v was → StopsAt (between does breaks first v) ((read ++ ended rest) ++ after) (read ++ ended rest) before n was
limit_halts does breaks session v was rest size n no_feed size_is number past first read after before so_far =
    let sizes : length (read ++ ended rest) ≡ length read + (length rest + 1) = simp length-append (omega arith) in
    stops does breaks first read rest (line_feed ∷ after) (read ++ ended rest) after before session v v was was n so_far refl refl
    (append_assoc read (ended rest) after ∙ ap (λ (t : List ℕ). read ++ t) (append_assoc rest (line_feed ∷ []) after)) no_feed refl
    (omega (arith, sizes, read_size does first read before session v was so_far)) number
    (is_past (past_more session.lines session.passed size 1 _ 1 (omega (arith, size_is, length-append session.partial.items rest)) (omega (arith, size_is, length-append session.partial.items rest)) past))

-- ---- a line that is cut short

-- of the answer of the line under way a prefix is added, or nothing
line_cut : {M : Type 0} (does : Answers M) (breaks : Breaks M) (first : M) (given tail rest : List ℕ) (before : Option (List ℕ)) (session : Session) (v w : M) (was now : Option (List ℕ)) (line : List ℕ)
    → Reached does first given before session v was
    → line ≡ session.partial.items ++ tail → HasNoLineFeed tail → length line ≤ 1048576 → (0 < length line → session.lines < 100000) → session.passed + length line ≤ 67108864
    → FollowsLine rest → IsCutLine (between does breaks v w) line was now → IsCutReport (between does breaks first w) (given ++ (tail ++ rest)) before now
line_cut does breaks first given tail rest before session v w was now line so_far line_is no_feed short below small follows (not_begun same end) =
    prefix_so_far (between does breaks first w) given (tail ++ rest) before session v was now so_far same (at_answer end)
line_cut does breaks first given tail rest before session v w was now line so_far line_is no_feed short below small follows (broken_off same command last spelled broken end) =
    prefix_so_far (between does breaks first w) given (tail ++ rest) before session v was now so_far same
    (in_line line rest command last (sym (append_assoc session.partial.items tail rest) ∙ ap (λ (l : List ℕ). l ++ rest) (sym line_is))
    (subst (λ (l : List ℕ). HasNoLineFeed l) (sym line_is) (all_append (λ (byte : ℕ). byte ≢ line_feed) session.partial.items tail so_far.split.rest no_feed)) follows spelled broken end refl)
line_cut does breaks first given tail rest before session v w was now line so_far line_is no_feed short below small follows (answered text last step end prefix) =
    let whole = report_of_line does first given before session v was tail line text last so_far line_is no_feed short below small step in
    record {
      shown = report_of so_far.answers;
      tail = text;
      is = record {
        prefix = given ++ tail;
        rest = rest;
        last = last;
        script_is = sym (append_assoc given tail rest);
        is = whole.is;
        at_line = inr follows;
        tail_is = whole.text_is;
        ends = at_answer end;
      };
      added = record { mid = was; added = so_far.added; cut = prefix };
    }

not_none : (line : List ℕ) → line ≢ [] → 0 < length line
not_none [] some = absurd (some refl)
not_none (byte ∷ bytes) some = omega arith

-- a line halts a run that has come to it
pub line_halts : {M : Type 0} (does : Answers M) (breaks : Breaks M) (first : M) (given tail rest read after : List ℕ) (before : Option (List ℕ)) (session : Session) (v w : M) (was now : Option (List ℕ)) (line : List ℕ) (number : ℕ) (halt : Halt)
    → Reached does first given before session v was
    → line ≡ session.partial.items ++ tail → HasNoLineFeed tail → length line ≤ 1048576 → (0 < length line → session.lines < 100000) → session.passed + length line ≤ 67108864 → number ≡ session.lines + 1
    → FollowsLine rest → read ++ after ≡ given ++ (tail ++ rest) → session.passed + length line ≤ length read
    → HaltsInLine (between does breaks v w) line number was halt now → HaltsWith (between does breaks first w) read after before halt now
line_halts does breaks first given tail rest read after before session v w was now line number (Faulty n reason) so_far line_is no_feed short below small number_is follows is reach refused =
    let some : line ≢ [] = refused.some in
    stops does breaks first given tail rest read after before session v w was now n so_far refused.at_end refused.same is no_feed follows
    (let more = not_none line some in omega (arith, more, reach)) (refused.number_is ∙ number_is)
    (is_no_command (subst (λ (l : List ℕ). l ≢ []) line_is some) (subst (λ (l : List ℕ). HasNoForm l) line_is refused.no_command))
line_halts does breaks first given tail rest read after before session v w was now line number ReadFault so_far line_is no_feed short below small number_is follows is reach none = absurd none
line_halts does breaks first given tail rest read after before session v w was now line number WriteFault so_far line_is no_feed short below small number_is follows is reach is_cut =
    subst (λ (s : List ℕ). IsCutReport (unbroken (between does breaks first w)) s before now) (sym is)
    (line_cut does (λ old command new. ⊥) first given tail rest before session v w was now line so_far line_is no_feed short below small follows is_cut)
line_halts does breaks first given tail rest read after before session v w was now line number NoMemory so_far line_is no_feed short below small number_is follows is reach is_cut =
    subst (λ (s : List ℕ). IsCutReport (between does breaks first w) s before now) (sym is)
    (line_cut does breaks first given tail rest before session v w was now line so_far line_is no_feed short below small follows is_cut)

-- the line under way, whose line feed has come, halts the run
pub ended_halts : {M : Type 0} (does : Answers M) (breaks : Breaks M) (session : Session) (v w : M) (was now : Option (List ℕ)) (rest : List ℕ) (number : ℕ) (halt : Halt) → HasNoLineFeed rest
    → length session.partial.items + length rest ≤ 1048576 → session.lines < 100000 → session.passed + (length session.partial.items + length rest) ≤ 67108864 → number ≡ session.lines + 1
    → HaltsInLine (between does breaks v w) (session.partial.items ++ rest) number was halt now → HaltsIn does breaks session v was (ended rest) halt w now
ended_halts does breaks session v w was now rest number halt no_feed short few small number_is halts = λ first read after before so_far.
    let size : length (session.partial.items ++ rest) ≡ length session.partial.items + length rest = length-append session.partial.items rest in
    let sizes : length (read ++ ended rest) ≡ length read + (length rest + 1) = simp length-append (omega arith) in
    line_halts does breaks first read rest (line_feed ∷ after) (read ++ ended rest) after before session v w was now (session.partial.items ++ rest) number halt so_far refl no_feed
    (omega (arith, size, short)) (λ some. few) (omega (arith, size, small)) number_is refl
    (append_assoc read (ended rest) after ∙ ap (λ (t : List ℕ). read ++ t) (append_assoc rest (line_feed ∷ []) after))
    (omega (arith, size, sizes, read_size does first read before session v was so_far)) halts

-- the piece after the last line feed halts the run
pub finish_halts : {M : Type 0} (does : Answers M) (breaks : Breaks M) (session : Session) (v w : M) (was now : Option (List ℕ)) (line : List ℕ) (number : ℕ) (halt : Halt)
    → line ≡ session.partial.items → number ≡ session.lines + 1 → HaltsInLine (between does breaks v w) line number was halt now
    → (first : M) (script : List ℕ) (before : Option (List ℕ)) → Reached does first script before session v was → HaltsWith (between does breaks first w) script [] before halt now
finish_halts does breaks session v w was now line number halt line_is number_is halts first script before so_far =
    let short = session.short in
    let open_ = session.open in
    let small = session.small in
    let held = session.partial.ok.0 in
    let size : length line ≡ length session.partial.items = ap length line_is in
    line_halts does breaks first script [] [] script [] before session v w was now line number halt so_far (line_is ∙ sym (append-nil session.partial.items)) tt
    (omega (arith, size, held, short)) (λ some. open_ (omega (arith, size, held, some))) (omega (arith, size, held, small)) number_is tt refl
    (omega (arith, size, read_size does first script before session v was so_far)) halts

-- ---- bytes in a row

-- more of the script was read
pub with_more : {M : Type 0} (span : Span M) (read rest more less : List ℕ) (before : Option (List ℕ)) (halt : Halt) (now : Option (List ℕ)) → read ++ rest ≡ more ++ less → length read ≤ length more
    → HaltsWith span read rest before halt now → HaltsWith span more less before halt now
with_more span read rest more less before (Faulty n reason) now is longer stop =
    let same : StopsAt span (more ++ less) read before n now = subst (λ (s : List ℕ). StopsAt span s read before n now) is stop in
    record { lines = same.lines; is = same.is; reaches = (let reach = same.reaches in omega (arith, reach, longer)); added = same.added }
with_more span read rest more less before ReadFault now is longer none = absurd none
with_more span read rest more less before WriteFault now is longer is_cut = subst (λ (s : List ℕ). IsCutReport (unbroken span) s before now) is is_cut
with_more span read rest more less before NoMemory now is longer is_cut = subst (λ (s : List ℕ). IsCutReport span s before now) is is_cut

-- bytes that halt the run, after others that didn't, and before others that weren't looked at
pub halts_among : {M : Type 0} (does : Answers M) (breaks : Breaks M) (a b : Session) (u v w : M) (was mid now : Option (List ℕ)) (xs ys zs all : List ℕ) (halt : Halt)
    → all ≡ (xs ++ ys) ++ zs → Advances does a u was xs b v mid → HaltsIn does breaks b v mid ys halt w now → HaltsIn does breaks a u was all halt w now
halts_among does breaks a b u v w was mid now xs ys zs all halt whole advances halts = λ first read rest before so_far.
    let span : Span _ = between does breaks first w in
    let sizes : length (read ++ all) ≡ length ((read ++ xs) ++ ys) + length zs = rw whole (simp length-append (omega arith)) in
    with_more span ((read ++ xs) ++ ys) (zs ++ rest) (read ++ all) rest before halt now
    (append_assoc (read ++ xs) ys (zs ++ rest) ∙ append_assoc read xs (ys ++ (zs ++ rest)) ∙ ap (λ (t : List ℕ). read ++ t) (sym (append_assoc xs ys (zs ++ rest)) ∙ sym (append_assoc (xs ++ ys) zs rest) ∙ ap (λ (t : List ℕ). t ++ rest) (sym whole)) ∙ sym (append_assoc read all rest))
    (omega (arith, sizes)) (halts first (read ++ xs) (zs ++ rest) before (advances first read before so_far))
