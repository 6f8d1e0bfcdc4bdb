use Rattle.std.proofs.Common.{ap, ◌∙◌, sym, subst}
use Rattle.std.specs.Option.{option_map_or}
use Rattle.cache_key.specs.declared.request.Reply.TheVariants.{Count}
use Rattle.partition_map.specs.declared.extent.Extent.{Extent}
use Rattle.partition_map.specs.After.{AgreesWith}
use Rattle.partition_map.specs.Place.{value_count}
use Rattle.partition_map.proofs.ChangedLemmas.{size-agreed}
use Rattle.partition_map.proofs.map.PartitionMap.answer.Goals as goal

pub returns-in-Size : goal.returns-in-Size
returns-in-Size c = rw c.in-Size.is (λ changes agrees.
    ap Count (c.count_of.ensures ∙ ap (λ o. option_map_or (λ (e : Extent). value_count e.places) o 0) c.get.ensures.value ∙ size-agreed changes _ c.in-Size.cache c.self.invariant.0.rises c.self.invariant.0.whole (subst (AgreesWith changes) (sym c.self.view_is) agrees)))
