use Rattle.std.proofs.Common.{subst, sym}
use Rattle.cache_model.specs.PlainList.{HasPairs}
use Rattle.record_form.specs.GroupText.{IsMutation}
use Rattle.record_form.proofs.GroupLengthLemmas.{by_recursion}
use Rattle.record_form.proofs.length.length_of.Goals as goal

pub returns-in-Batch-clause-limits : goal.returns-in-Batch-clause-limits
returns-in-Batch-clause-limits c = subst IsMutation (sym c.in-Batch.is) (c.head_length-in-Batch.ensures.limits, subst HasPairs c.in-Batch.is c.requires, c.as_slice.ensures.most, by_recursion c.in-Batch.pairs c.as_slice.ensures.limits)
