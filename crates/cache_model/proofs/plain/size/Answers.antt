-- The size is the length of the cache's pairs in the contents.
use Rattle.std.proofs.Common.{Some, None, option_copied, ap, ◌∙◌, sym}
use Rattle.cache_model.specs.Change.{changes_of}
use Rattle.cache_model.proofs.SizeLemmas.{size_after-shown}
use Rattle.cache_model.proofs.plain.size.Goals as goal

pub returns-in-Some : goal.returns-in-Some
returns-in-Some c =
    c.len.ensures.len
    ∙ sym (size_after-shown (changes_of c.args.mutations.now) c.in_ok-contents.contents c.caches.result.now c.args.cache.now (Some c.in-Some.pairs.now) c.in_ok-contents.ensures c.caches.ensures (ap option_copied (sym c.in-Some.is) ∙ c.get.ensures.value))

pub returns : goal.returns
returns c =
    sym (size_after-shown (changes_of c.args.mutations.now) c.in_ok-contents.contents c.caches.result.now c.args.cache.now None c.in_ok-contents.ensures c.caches.ensures (ap option_copied (sym c.in-None.is) ∙ c.get.ensures.value))
