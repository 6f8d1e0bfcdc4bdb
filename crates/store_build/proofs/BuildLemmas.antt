-- The calls of a build, over what the disk tells.
use Rattle.std.proofs.Common.{◌≡◌, ℕ, suc, ◌+◌, ◌-◌, ◌≤◌, List, [], ◌∷◌, ◌++◌, length, take, drop, refl, sym, ◌∙◌, ap, subst, arith, append_assoc, Bool, true, false, Option, Some, None}
use Rattle.std.specs.List.{flat_map}
use Rattle.std.proofs.lemmas.List.{append-nil, take_all, drop_all}
use Rattle.std.proofs.lemmas.Grind.{flat_map-append}
use Rattle.cache_key.specs.declared.request.Mutation.{Mutation}
use Rattle.cache_model.specs.Caches.{Caches}
use Rattle.cache_model.specs.PlainList.{plain_list}
use Rattle.disk_trait.specs.View.{View, Tells}
use Rattle.disk_trait.specs.Calls.{written, Torn, Shorn, Moved, Follows, TimePasses}
use Rattle.disk_trait.specs.Moments.{After, Throughout}
use Rattle.disk_trait.proofs.Runs.{called, followed_in, holds_now}
use Rattle.partition_map.specs.Items.{items_after}
use Rattle.partition_map.specs.declared.item.LastItem.{LastItem}
use Rattle.record_form.specs.declared.header.Header.{Header}
use Rattle.record_form.specs.HeaderText.{IsHeader, header_text}
use Rattle.record_form.specs.GroupText.{IsGroup}
use Rattle.seal_gate.specs.Seal.{Each}
use Rattle.store_journal.specs.Created.{IsBlank}
use Rattle.store_journal.specs.Text.{end_of}
use Rattle.store_journal.proofs.CreatedLemmas.{stays_blank}
use Rattle.store_build.specs.Batches.{AreBatches}
use Rattle.store_build.specs.Next.{IsNextRecord}
use Rattle.store_build.specs.declared.build.Build.{Build}
use Rattle.store_build.specs.Built.{record_text, built_text, IsBuilding}
use Rattle.store_build.proofs.BatchLemmas.{batches_pushed, all_pushed}
use Rattle.store_build.proofs.BuiltLemmas.{length-built, length-record_text}

abbrev pub Blanks : List ℕ → List ℕ → Type 0
Blanks old new = IsBlank new

module _ (a b : View) (file : ℕ) (blank : Each a file IsBlank) (time : TimePasses a b) where
  -- a call that keeps the first byte
  kept_blank : (step : List ℕ → List ℕ → Type 0) → ((old new : List ℕ) → IsBlank old → step old new → IsBlank new) → Follows (Moved file step) a b → Throughout a b (After a (Moved file Blanks))
  kept_blank step keeps follows =
      called a b (After a (Moved file Blanks))
      (λ m is. (m, is, record { here = blank m is; others = λ f ne. refl }))
      time
      (λ m is.
      let from = follows m is in
      (from.0, from.1, record { here = keeps (from.0 file) (m file) (blank from.0 from.1) from.2.here; others = from.2.others }))

  pub cut_blank : Follows (Moved file (Shorn 1)) a b → Throughout a b (After a (Moved file Blanks))
  cut_blank = kept_blank (Shorn 1) (λ old new is shorn. stays_blank 0 old new is shorn.before)

  pub write_blank : (at size : ℕ) → 1 ≤ at → Follows (Moved file (Torn at size)) a b → Throughout a b (After a (Moved file Blanks))
  write_blank at size some follows =
      kept_blank (Torn at size) (λ old new is torn.
      let less : ℕ = at - 1 in
      let one : at ≡ suc less = omega arith in
      stays_blank less old new is (subst (λ (k : ℕ). take k new ≡ take k old) one torn.before)) follows

pub blank_now : (a b : View) (file : ℕ) → Throughout a b (After a (Moved file Blanks)) → Each b file IsBlank
blank_now a b file all m is = (holds_now a b (After a (Moved file Blanks)) all m is).2.here

pub blank_on : (a b c : View) (file : ℕ) → Throughout a b (After a (Moved file Blanks)) → Throughout b c (After b (Moved file Blanks)) → Throughout a c (After a (Moved file Blanks))
blank_on a b c file first second = followed_in a b c file Blanks Blanks Blanks first second (λ o m is r. r) (λ o m n is mid r s. s)

-- a write at the end
written_end : (old more : List ℕ) (at : ℕ) → at ≡ length old → written old at more ≡ old ++ more
written_end old more at is =
    ap (λ (l : List ℕ). l ++ more ++ drop (at + length more) old) (take_all at old (omega (arith, is)))
    ∙ ap (λ (l : List ℕ). old ++ more ++ l) (drop_all (at + length more) old (omega (arith, is)))
    ∙ append-nil (old ++ more)

-- the header stands there
header_stands : (old cut new : List ℕ) (header : Header) (text : List ℕ) → IsBlank old → cut ≡ take 1 old → text ≡ header_text header → new ≡ written cut 1 text → new ≡ built_text header [] false
header_stands old cut new header text blank is_cut is_text is_new =
    let one : cut ≡ 0 ∷ [] = is_cut ∙ ap (take 1) blank.1 in
    is_new ∙ ap (λ (l : List ℕ). written l 1 text) one ∙ written_end (0 ∷ []) text 1 refl ∙ ap (λ (l : List ℕ). 0 ∷ l) is_text ∙ sym (append-nil (0 ∷ header_text header)) ∙ sym (append-nil (0 ∷ (header_text header ++ [])))

-- one record more
record_stands : (header : Header) (groups : List (List Mutation)) (group : List Mutation) → built_text header groups false ++ record_text group ≡ built_text header (groups ++ group ∷ []) false
record_stands header groups group =
    ap (λ (l : List ℕ). 0 ∷ (l ++ record_text group)) (append-nil (header_text header ++ flat_map record_text groups))
    ∙ ap (λ (l : List ℕ). 0 ∷ l) (append_assoc (header_text header) (flat_map record_text groups) (record_text group))
    ∙ ap (λ (l : List ℕ). 0 ∷ (header_text header ++ (flat_map record_text groups ++ l))) (sym (append-nil (record_text group)))
    ∙ ap (λ (l : List ℕ). 0 ∷ (header_text header ++ l)) (sym (flat_map-append record_text groups (group ∷ [])))
    ∙ sym (append-nil (0 ∷ (header_text header ++ flat_map record_text (groups ++ group ∷ []))))

-- the closed gate
gate_stands : (header : Header) (groups : List (List Mutation)) → built_text header groups false ++ 0 ∷ [] ≡ built_text header groups true
gate_stands header groups = ap (λ (l : List ℕ). 0 ∷ (l ++ 0 ∷ [])) (append-nil (header_text header ++ flat_map record_text groups))

end-record : (groups : List (List Mutation)) (group : List Mutation) → end_of (groups ++ group ∷ []) ≡ end_of groups + length (record_text group)
end-record [] group = omega (arith, length-record_text group)
end-record (g ∷ groups) group = omega (arith, end-record groups group)

-- the end is there
pub at_end : (a : View) (build : Build) (header : Header) (caches : Caches) → IsBuilding a build header caches → build.whole ≡ false → Tells a → build.end ≤ length (a.seen build.file)
at_end a build header caches is is_open tells =
    let seen : a.seen build.file ≡ built_text header is.batches false = is.seen tells ∙ ap (λ (w : Bool). built_text header is.batches w) is_open in
    omega (arith, ap length seen, length-built header is.batches, is.there)

module _ (a b : View) (build : Build) where
  -- a write at the end, where all is as it is told
  module _ (header : Header) (caches : Caches) (is : IsBuilding a build header caches) (more : List ℕ) (is_open : build.whole ≡ false) where
    grown : Tells a → b.seen build.file ≡ written (a.seen build.file) build.end more → b.seen build.file ≡ built_text header is.batches false ++ more
    grown tells wrote =
        let seen : a.seen build.file ≡ built_text header is.batches false = is.seen tells ∙ ap (λ (w : Bool). built_text header is.batches w) is_open in
        wrote ∙ ap (λ (l : List ℕ). written l build.end more) seen ∙ written_end (built_text header is.batches false) more build.end (is.there ∙ sym (length-built header is.batches))

  -- one record more
  pub recorded : (later : Build) (bytes : List ℕ) (last : LastItem) → Throughout a b (After a (Moved build.file Blanks)) → (Tells a → b.seen build.file ≡ written (a.seen build.file) build.end bytes)
      → build.whole ≡ false
      → later.file ≡ build.file → later.id ≡ build.id → later.end ≡ build.end + length bytes → later.last ≡ Some last → later.whole ≡ build.whole
      → (header : Header) (caches : Caches) → IsBuilding a build header caches → IsNextRecord caches (items_after build.last caches) bytes last → IsBuilding b later header caches
  recorded later bytes last all wrote is_open file id end at whole header caches is made =
      let open_too : later.whole ≡ false = whole ∙ is_open in
      let left = items_after build.last caches in
      let batch = take 64 left in
      let next : items_after later.last caches ≡ drop 64 left = ap (λ (o : Option LastItem). items_after o caches) at ∙ made.next in
      record {
        batches = is.batches ++ batch ∷ [];
        cut = subst (λ (l : List Mutation). AreBatches (plain_list caches) (is.batches ++ batch ∷ []) l) (sym next) (batches_pushed (plain_list caches) is.batches left is.cut made.some);
        limits = all_pushed IsGroup is.batches batch is.limits made.group;
        of_header = is.of_header;
        named = id ∙ is.named;
        there = omega (arith, end, is.there, ap length made.text, end-record is.batches batch);
        all = λ yes. let wrong : true ≡ false = sym yes ∙ open_too in absurd (cc wrong);
        blank = subst (λ (f : ℕ). Each b f IsBlank) (sym file) (blank_now a b build.file all);
        seen = λ tells.
            let from = holds_now a b (After a (Moved build.file Blanks)) all b.seen tells in
            let before = a.told from.0 from.1 in
            subst (λ (f : ℕ). b.seen f ≡ built_text header (is.batches ++ batch ∷ []) later.whole) (sym file)
            (grown header caches is bytes is_open before (wrote before) ∙ ap (λ (l : List ℕ). built_text header is.batches false ++ l) made.text ∙ record_stands header is.batches batch
            ∙ ap (λ (w : Bool). built_text header (is.batches ++ batch ∷ []) w) (sym open_too));
      }

  -- the closed gate
  pub closed : (later : Build) → Throughout a b (After a (Moved build.file Blanks)) → (Tells a → b.seen build.file ≡ written (a.seen build.file) build.end (0 ∷ []))
      → build.whole ≡ false → later.file ≡ build.file → later.id ≡ build.id → later.end ≡ build.end → later.last ≡ build.last → later.whole ≡ true
      → (header : Header) (caches : Caches) → IsBuilding a build header caches → items_after build.last caches ≡ [] → IsBuilding b later header caches
  closed later all wrote is_open file id end last whole header caches is none =
      let same : items_after later.last caches ≡ items_after build.last caches = ap (λ (o : Option LastItem). items_after o caches) last in
      record {
        batches = is.batches;
        cut = subst (λ (l : List Mutation). AreBatches (plain_list caches) is.batches l) (sym same) is.cut;
        limits = is.limits;
        of_header = is.of_header;
        named = id ∙ is.named;
        there = end ∙ is.there;
        all = λ yes. same ∙ none;
        blank = subst (λ (f : ℕ). Each b f IsBlank) (sym file) (blank_now a b build.file all);
        seen = λ tells.
            let from = holds_now a b (After a (Moved build.file Blanks)) all b.seen tells in
            let before = a.told from.0 from.1 in
            subst (λ (f : ℕ). b.seen f ≡ built_text header is.batches later.whole) (sym file)
            (grown header caches is (0 ∷ []) is_open before (wrote before) ∙ gate_stands header is.batches ∙ ap (λ (w : Bool). built_text header is.batches w) (sym whole));
      }

-- the header stands there, and no record
pub begun : (a b c : View) (file : ℕ) (header : Header) (text : List ℕ) (size : ℕ) (build : Build) → IsHeader header → Each a file IsBlank → text ≡ header_text header
    → Throughout a c (After a (Moved file Blanks)) → Follows (Moved file (Shorn 1)) a b → Follows (Moved file (Torn 1 size)) b c
    → (Tells a → b.seen file ≡ take 1 (a.seen file)) → (Tells b → c.seen file ≡ written (b.seen file) 1 text)
    → build.file ≡ file → build.id ≡ header.id → build.end ≡ 41 → build.last ≡ None → build.whole ≡ false → (caches : Caches) → IsBuilding c build header caches
begun a b c file header text size build limits blank is_text all first second cut wrote same id end last whole caches = record {
  batches = [];
  cut = sym (ap (λ (o : Option LastItem). items_after o caches) last);
  limits = tt;
  of_header = limits;
  named = id;
  there = end;
  all = λ yes. let wrong : true ≡ false = sym yes ∙ whole in absurd (cc wrong);
  blank = subst (λ (f : ℕ). Each c f IsBlank) (sym same) (blank_now a c file all);
  seen = λ tells.
      let from_b = second c.seen tells in
      let from_a = first from_b.0 from_b.1 in
      let tells_b = b.told from_b.0 from_b.1 in
      let tells_a = a.told from_a.0 from_a.1 in
      subst (λ (f : ℕ). c.seen f ≡ built_text header [] build.whole) (sym same)
      (header_stands (a.seen file) (b.seen file) (c.seen file) header text (blank a.seen tells_a) (cut tells_a) is_text (wrote tells_b) ∙ ap (λ (w : Bool). built_text header [] w) (sym whole));
}
