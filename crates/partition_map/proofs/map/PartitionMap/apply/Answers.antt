use Rattle.std.proofs.Common.{◌≡◌, ℕ, ◌+◌, ◌-◌, List, length, false, cond, ap, ◌∙◌, sym, subst, refl, arith}
use Rattle.std.specs.Map.{keys_of}
use Rattle.cache_model.specs.Change.{change_of}
use Rattle.cache_model.specs.Step.{IsChangedBy}
use Rattle.partition_map.specs.After.{IsReadyFor}
use Rattle.partition_map.specs.Extents.{Extents, Maps, caches_in}
use Rattle.partition_map.specs.Hidden.{IsLeftThere}
use Rattle.partition_map.specs.Order.{cache_changed, brings, with_name}
use Rattle.partition_map.proofs.ChangedLemmas.{AgreesWith-step, AgreesWith-shown, AreKept-again, IsChangedBy-nothing, few_names, not_so, not_found}
use Rattle.partition_map.proofs.HiddenLemmas.{AreHiddenBy-changed}
use Rattle.partition_map.proofs.KeptLemmas.{shift_kept}
use Rattle.partition_map.proofs.MarkLemmas.{IsWritten-shift, shift_presence, shift_comes, shift_marked, shift_names, shift_marks}
use Rattle.partition_map.proofs.map.PartitionMap.apply.Goals as goal

pub overflow_sub-self : goal.overflow_sub-self
overflow_sub-self c =
    let ready = subst (IsReadyFor (change_of c.args.mutation)) (sym c.self.view_is) c.requires.ready in
    (shift_kept c.args.mutation _ _ c.in-Some.shift _ _ c.self.invariant.0 c.in-Some.ensures.changed (λ brought. ((ready brought).few, (ready brought).fits))).items_gone

pub overflow_add-self : goal.overflow_add-self
overflow_add-self c =
    let ready = subst (IsReadyFor (change_of c.args.mutation)) (sym c.self.view_is) c.requires.ready in
    let k = shift_kept c.args.mutation _ _ c.in-Some.shift _ _ c.self.invariant.0 c.in-Some.ensures.changed (λ brought. ((ready brought).few, (ready brought).fits)) in
    omega (arith, k.items_gone, k.items_fit)

pub overflow_sub-self-in-Some : goal.overflow_sub-self-in-Some
overflow_sub-self-in-Some c =
    let ready = subst (IsReadyFor (change_of c.args.mutation)) (sym c.self.view_is) c.requires.ready in
    (shift_kept c.args.mutation _ _ c.in-Some.shift _ _ c.self.invariant.0 c.in-Some.ensures.changed (λ brought. ((ready brought).few, (ready brought).fits))).bytes_gone

pub overflow_add-self-in-Some : goal.overflow_add-self-in-Some
overflow_add-self-in-Some c =
    let ready = subst (IsReadyFor (change_of c.args.mutation)) (sym c.self.view_is) c.requires.ready in
    let k = shift_kept c.args.mutation _ _ c.in-Some.shift _ _ c.self.invariant.0 c.in-Some.ensures.changed (λ brought. ((ready brought).few, (ready brought).fits)) in
    omega (arith, k.bytes_gone, k.bytes_fit)

pub remove_absent-requires : goal.remove_absent-requires
remove_absent-requires c = record { presence = shift_presence (change_of c.args.mutation) _ _ c.in-Some.shift c.in-Some.ensures.changed }

pub mark_name-requires-clause-room : goal.mark_name-requires-clause-room
mark_name-requires-clause-room c = λ gone there.
    let ready = subst (IsReadyFor (change_of c.args.mutation)) (sym c.self.view_is) c.requires.ready in
    (ready (shift_comes c.args.mutation _ _ c.in-Some.shift c.in-Some.ensures.changed gone there)).room

pub mark_name-requires-clause-marked : goal.mark_name-requires-clause-marked
mark_name-requires-clause-marked c = shift_marked (change_of c.args.mutation) _ _ c.in-Some.shift c.self.inside.names.entries c.in-Some.ensures.changed c.self.invariant.3

pub invariant_of-self : goal.invariant_of-self
invariant_of-self c =
    let change = change_of c.args.mutation in
    let marks = c.self.inside.names.entries in
    let ready = subst (IsReadyFor change) (sym c.self.view_is) c.requires.ready in
    let k = shift_kept c.args.mutation _ _ c.in-Some.shift _ _ c.self.invariant.0 c.in-Some.ensures.changed (λ brought. ((ready brought).few, (ready brought).fits)) in
    let s = c.in-Some.ensures.changed in
    let keys = c.mark_name.ensures.keys ∙ shift_names c.args.mutation _ _ c.in-Some.shift marks s c.self.invariant.3 in
    let old = c.self.inside.extents.entries in
    let mid = c.change_extent.new.extents.entries in
    let new = c.remove_absent.new.extents.entries in
    let name = cache_changed change in
    let written = IsWritten-shift change old mid c.in-Some.shift s in
    let left : IsLeftThere name mid new = subst (λ (n : List ℕ). IsLeftThere n mid new) s.of.cache c.remove_absent.ensures.left in (
      AreKept-again mid new _ _ (k.kept _ _ (omega (arith, k.items_gone)) (omega (arith, k.bytes_gone))) c.remove_absent.ensures.shown,
      omega (arith, ap length keys, few_names (brings change) (keys_of marks) (cache_changed change) (λ brought. (ready brought).names) c.self.invariant.1),
      AreHiddenBy-changed c.self.inside.readied name old mid new s.before s.now s.was written s.of.after.hidden left c.self.invariant.2,
      shift_marks change old mid new c.in-Some.shift marks c.mark_name.new.names.entries s c.remove_absent.ensures.left c.mark_name.ensures.marks c.self.invariant.3,
    )

pub returns-in-Some : goal.returns-in-Some
returns-in-Some c =
    let change = change_of c.args.mutation in
    let marks = c.self.inside.names.entries in
    let ready = subst (IsReadyFor change) (sym c.self.view_is) c.requires.ready in
    let k = shift_kept c.args.mutation _ _ c.in-Some.shift _ _ c.self.invariant.0 c.in-Some.ensures.changed (λ brought. ((ready brought).few, (ready brought).fits)) in
    let mid : Maps = record { extents = c.change_extent.new.extents.entries; names = keys_of c.mark_name.new.names.entries; room = 0 } in
    let items : ℕ = c.self.inside.items - c.in-Some.shift.gone_items + c.in-Some.shift.come_items in
    let bytes : ℕ = c.self.inside.bytes - c.in-Some.shift.gone_bytes + c.in-Some.shift.come_bytes in
    let kept = k.kept items bytes (omega (arith, k.items_gone)) (omega (arith, k.bytes_gone)) in
    let again = c.remove_absent.ensures.shown.shown kept.whole kept.rises in
    let named = c.mark_name.ensures.keys ∙ shift_names c.args.mutation _ _ c.in-Some.shift marks c.in-Some.ensures.changed c.self.invariant.3 in
    rw (← c.self.view_is) (λ changes agrees. AgreesWith-shown mid _ again refl _ (AgreesWith-step c.args.mutation _ mid k.changed named changes agrees))

pub returns-in-None : goal.returns-in-None
returns-in-None c =
    let change = change_of c.args.mutation in
    let names = keys_of c.self.inside.names.entries in
    let ready = subst (IsReadyFor change) (sym c.self.view_is) c.requires.ready in
    let absent = c.in-None.ensures.absent in
    let still : brings change ≡ false = not_so (brings change) (λ brought. not_found _ _ absent.0 (ready brought).extent.1) in
    rw (← c.self.view_is) (AgreesWith-step c.args.mutation _ _
    (subst (λ (es : Extents). IsChangedBy change (caches_in c.self.inside.extents.entries) (caches_in es)) (sym absent.1) (IsChangedBy-nothing c.args.mutation c.self.inside.extents.entries c.self.invariant.0.rises c.self.invariant.0.whole absent.0 still))
    (sym (ap (λ b. cond b (with_name names (cache_changed change)) names) still)))
