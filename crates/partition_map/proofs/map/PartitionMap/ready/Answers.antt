use Rattle.std.proofs.Common.{ℕ, ◌≤◌, ◌^◌, List, length, subst, ap, ◌∙◌, sym, arith}
use Rattle.std.specs.Map.{keys_of}
use Rattle.std.proofs.lemmas.Map.Entries.{length-keys_of}
use Rattle.std.proofs.lemmas.Result.{on_ok_weaker}
use Rattle.cache_model.specs.Change.{change_of}
use Rattle.cache_model.specs.PlainList.{live}
use Rattle.partition_map.specs.Extents.{Maps, caches_in}
use Rattle.partition_map.specs.Hidden.{HideOnlyOf}
use Rattle.partition_map.specs.Marks.{Marks, AreMarked}
use Rattle.partition_map.specs.Order.{cache_changed}
use Rattle.partition_map.proofs.ChangedLemmas.{ShowsAgain-chain, AreKept-again, growth_none, only_contents, on_ok_always}
use Rattle.partition_map.proofs.MarkLemmas.{AreMarked-again}
use Rattle.partition_map.proofs.map.PartitionMap.ready.Goals as goal

pub returns-then-not-makes_present-clause-fits : goal.returns-then-not-makes_present-clause-fits
returns-then-not-makes_present-clause-fits c = λ changes caches agrees contents.
    omega (arith, growth_none c.args.mutation.now (sym c.makes_present.ensures ∙ c.if-not-makes_present.true), ap live (only_contents changes (caches_in c.args.self.now.extents) caches agrees.contents contents), c.build_length-live.ensures.kept, c.build_length-live.ensures.most)

pub returns-clause-ready : goal.returns-clause-ready
returns-clause-ready c =
    let old = c.self.inside.extents.entries in
    let again = ShowsAgain-chain old c.forget.new.extents.entries c.ready_extent.new.extents.entries c.forget.ensures.shown c.ready_extent.ensures.shown in
    let shown = again.shown c.self.invariant.0.whole c.self.invariant.0.rises in
    on_ok_weaker c.ready_extent.result (λ extent brought. record {
      extent = extent;
      room = omega (arith, c.in_ok-reserve.ensures.ok);
      names = omega (arith, c.if-len-ge-MOST_NAMES.false, c.len.ensures.len, length-keys_of c.self.inside.names.entries, ap (λ (ms : Marks). length (keys_of ms)) c.in_ok-reserve.ensures.entries);
      few = c.room_for.ensures.few;
      fits = omega (arith, c.room_for.ensures.room, c.if-room_for-live.false, c.build_length-live.ensures.kept, c.build_length-live.ensures.most, ap live shown, ap (λ (m : Maps). live (caches_in m.extents)) c.self.view_is);
    }) c.ready_extent.ensures.ready

pub returns-clause-fits : goal.returns-clause-fits
returns-clause-fits c = on_ok_always c.ready_extent.result _ (λ changes caches agrees contents.
    omega (arith, c.room_for.ensures.growth, c.if-room_for-live.false, ap live (only_contents changes (caches_in c.args.self.now.extents) caches agrees.contents contents), c.build_length-live.ensures.kept, c.build_length-live.ensures.most))

pub invariant_of-self-2 : goal.invariant_of-self-2
invariant_of-self-2 c =
    let old = c.self.inside.extents.entries in
    let new = c.ready_extent.new.extents.entries in
    let again = ShowsAgain-chain old c.forget.new.extents.entries new c.forget.ensures.shown c.ready_extent.ensures.shown in
    let same_marks = sym c.in_ok-reserve.ensures.entries in
    let few : length (keys_of c.self.inside.names.entries) ≤ 2 ^ 32 = c.self.invariant.1 in
    let only = c.ready_extent.ensures.hidden (c.forget.ensures.hidden c.self.invariant.2) in (
      AreKept-again old new _ _ c.self.invariant.0 again,
      subst (λ (ms : Marks). length (keys_of ms) ≤ 2 ^ 32) same_marks few,
      subst (λ (n : List ℕ). HideOnlyOf n c.in_ok-readied.readied.keys.items new) (sym c.in_ok-readied.ensures.cache) (subst (λ (ks : List (List ℕ)). HideOnlyOf (cache_changed (change_of c.args.mutation.now)) ks new) (sym c.in_ok-readied.ensures.keys) only),
      subst (λ (ms : Marks). AreMarked ms new) same_marks (AreMarked-again c.self.inside.names.entries old new c.self.invariant.0.whole c.self.invariant.0.rises again c.self.invariant.3),
    )
