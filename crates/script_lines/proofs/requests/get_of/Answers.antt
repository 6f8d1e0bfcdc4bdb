-- Without a cache and a key there is no such request.
use Rattle.serde_json.specs.View.{items_view}
use Rattle.script_lines.specs.Reading.{IsAsked, AreCacheAndKey}
use Rattle.script_lines.specs.declared.reason.EventName.TheVariants as names
use Rattle.script_lines.proofs.ReadingLemmas.{Reads-handed_on}
use Rattle.script_lines.proofs.AskedLemmas.{asked_by}
use Rattle.script_lines.proofs.requests.get_of.Goals as goal

pub returns-in_err-cache : goal.returns-in_err-cache
returns-in_err-cache c =
    Reads-handed_on (AreCacheAndKey (items_view c.args.others.now)) (IsAsked names.Get (items_view c.args.others.now)) c.cache_and_key.result c.from_residual.result c.in_err-cache.field-0.0 c.cache_and_key.ensures c.in_err-cache.was c.from_residual.ensures.1
    (λ event is. let own = asked_by names.Get (items_view c.args.others.now) event is in (_, record { are = own.items; limits = own.limits }))
