-- A text that is not too long is a value: what a `String` holds is UTF-8.
use Rattle.std.proofs.Common.{arith}
use Rattle.std.proofs.lemmas.Str.{IsUtf8-string_bytes}
use Rattle.cache_key.proofs.keys.Text+Values.from_text.Goals as goal

pub over-requires : goal.over-requires
over-requires c = record { most = omega (arith, c.len.ensures, c.if-len-le-MOST_VALUE_BYTES.true); utf8 = IsUtf8-string_bytes c.args.text }
