-- A text that is refused as a name is no name.
use Rattle.std.proofs.Common.{sym}
use Rattle.serde_json.specs.View.{view}
use Rattle.script_lines.proofs.ReadingLemmas.{name_refused, as_str-string}
use Rattle.script_lines.proofs.texts.cache_of.Goals as goal

pub returns-in-Err : goal.returns-in-Err
returns-in-Err c =
    name_refused (view c.args.value.now) c.in-Some.text.now c.in-Err.fault c.text_fault.result
    (as_str-string (view c.args.value.now) c.in-Some.text.now (sym c.in-Some.ensures)) c.text_fault.ensures
    c.in-Err.ensures.empty c.in-Err.ensures.long c.in-Err.ensures.bad_byte
