-- How a store's text is taken apart at its closed gate, and goes on there.
use Rattle.std.proofs.Common.{◌≡◌, ◌≢◌, inl, inr, ⊎_elim, ℕ, ◌+◌, ◌≤◌, List, [], ◌∷◌, ◌++◌, length, take, drop, refl, sym, ◌∙◌, ap, subst, arith, append_assoc, length-append, length-take, take-append-drop, get_or}
use Rattle.std.proofs.lemmas.List.{append-nil, take_at, drop_at, drop_more}
use Rattle.std.proofs.lemmas.Bool.{cases_eq}
use Rattle.byte_fields.specs.Numbers.{bytes_of, bytes8}
use Rattle.byte_fields.specs.Counted.{counted32_text}
use Rattle.byte_fields.proofs.NumbersLemmas.{length-bytes_of}
use Rattle.byte_fields.proofs.CountedLemmas.{length-counted_text}
use Rattle.cache_key.specs.declared.request.Mutation.{Mutation}
use Rattle.disk_trait.specs.Calls.{Torn, written}
use Rattle.record_form.specs.declared.header.Header.{Header}
use Rattle.record_form.specs.GroupText.{IsGroup, group_text, tail_text}
use Rattle.seal_gate.specs.Seal.{IsSealed, ButFirst}
use Rattle.store_journal.specs.Text.{IsText, ClosedRecords, end_of}
use Rattle.store_journal.specs.AtRest.{OldOrNew}

-- what stands after a record's gate
abbrev payload_text : List Mutation → List ℕ
payload_text group = counted32_text (group_text group)

-- a closed gate is one byte
pub closed_gate_text : bytes8 0 ≡ 0 ∷ []
unfolding bytes_of
closed_gate_text = refl

-- the tail of a record ends with it
tail_parts : (group : List Mutation) (following : List ℕ) → tail_text group ++ following ≡ payload_text group ++ (0 ∷ following)
tail_parts group following = append_assoc (payload_text group) (bytes8 0) following ∙ ap (λ (gate : List ℕ). payload_text group ++ (gate ++ following)) closed_gate_text

length-tail_text : (group : List Mutation) → length (tail_text group) ≡ 5 + length (group_text group)
length-tail_text group = omega (arith, length-append (payload_text group) (bytes8 0), length-counted_text 4 (group_text group), length-bytes_of 1 0)

-- the groups' bytes, and what may come after them
record Split (rest : List ℕ) (groups : List (List Mutation)) : Type 0 where
  pub prefix : List ℕ
  pub following : List ℕ
  pub whole : rest ≡ prefix ++ 0 ∷ following
  pub offset : 41 + length prefix ≡ end_of groups
  pub goes : (other : List ℕ) (more : List (List Mutation)) → ClosedRecords other more → ClosedRecords (prefix ++ other) (groups ++ more)

split : (groups : List (List Mutation)) (rest : List ℕ) → ClosedRecords rest groups → Split rest groups
split [] rest records = record { prefix = []; following = records.0; whole = records.1; offset = refl; goes = λ other more is. is }
split (group ∷ groups) rest records =
    let row = records.1 in
    let inner = split groups row.1 (records.0, row.5) in
    let first = row.0 ∷ payload_text group in
    record {
      prefix = first ++ inner.prefix;
      following = inner.following;
      whole = row.4 ∙ ap (λ (l : List ℕ). first ++ l) inner.whole ∙ sym (append_assoc first inner.prefix (0 ∷ inner.following));
      offset = omega (arith, inner.offset, length-append first inner.prefix, length-counted_text 4 (group_text group));
      goes = λ other more is.
          let further = inner.goes other more is in
          (further.0, (row.0, inner.prefix ++ other, row.2, row.3, append_assoc first inner.prefix other, further.1));
    }

-- the same for a whole store
pub record Parts (header : Header) (groups : List (List Mutation)) (bytes : List ℕ) : Type 0 where
  pub prefix : List ℕ
  pub following : List ℕ
  pub whole : bytes ≡ prefix ++ 0 ∷ following
  pub offset : length prefix ≡ end_of groups
  pub goes : (other : List ℕ) (more : List (List Mutation)) → ClosedRecords other more → IsText header (groups ++ more) (prefix ++ other)

pub first_of_prefix : (x : List ℕ) → get_or x 0 0 ≡ get_or (take 41 x) 0 0
first_of_prefix [] = refl
first_of_prefix (a ∷ x) = refl

pub header_of_prefix : (x : List ℕ) → take 40 (drop 1 x) ≡ drop 1 (take 41 x)
header_of_prefix [] = refl
header_of_prefix (a ∷ x) = refl

pub parts : (header : Header) (groups : List (List Mutation)) (bytes : List ℕ) → IsText header groups bytes → Parts header groups bytes
parts header groups bytes text =
    let inner = split groups (drop 41 bytes) text.records in
    let head = take 41 bytes in
    let size : length head ≡ 41 = omega (arith, length-take 41 bytes, text.sealed.long) in
    record {
      prefix = head ++ inner.prefix;
      following = inner.following;
      whole = sym (take-append-drop 41 bytes) ∙ ap (λ (l : List ℕ). head ++ l) inner.whole ∙ sym (append_assoc head inner.prefix (0 ∷ inner.following));
      offset = omega (arith, size, inner.offset, length-append head inner.prefix);
      goes = λ other more is.
          let z = head ++ (inner.prefix ++ other) in
          let prefix : take 41 z ≡ take 41 bytes = take_at head (inner.prefix ++ other) 41 size in
          let rest : drop 41 z ≡ inner.prefix ++ other = drop_at head (inner.prefix ++ other) 41 size in
          let first : get_or z 0 0 ≡ get_or bytes 0 0 = first_of_prefix z ∙ ap (λ (l : List ℕ). get_or l 0 0) prefix ∙ sym (first_of_prefix bytes) in
          let long : 41 ≤ length z = omega (arith, size, length-append head (inner.prefix ++ other)) in
          let text' : IsText header (groups ++ more) z = record {
            limits = text.limits;
            sealed = record { first = λ zero. text.sealed.first (sym first ∙ zero); long = long };
            named = header_of_prefix z ∙ ap (λ (l : List ℕ). drop 1 l) prefix ∙ sym (header_of_prefix bytes) ∙ text.named;
            records = subst (λ (l : List ℕ). ClosedRecords l (groups ++ more)) (sym rest) (inner.goes other more is);
          } in
          subst (λ (l : List ℕ). IsText header (groups ++ more) l) (sym (append_assoc head inner.prefix other)) text';
    }

module _ (header : Header) (groups : List (List Mutation)) (group : List Mutation) (fits : IsGroup group) where
  -- the offset of the closed gate
  abbrev gate_at : ℕ
  gate_at = end_of groups

  closed_prefix : (bytes : List ℕ) (text : IsText header groups bytes) → take (gate_at + 1) bytes ≡ (parts header groups bytes text).prefix ++ 0 ∷ []
  closed_prefix bytes text =
      let p = parts header groups bytes text in
      ap (λ (l : List ℕ). take (gate_at + 1) l) (p.whole ∙ sym (append_assoc p.prefix (0 ∷ []) p.following))
      ∙ take_at (p.prefix ++ 0 ∷ []) p.following (gate_at + 1) (omega (arith, p.offset, length-append p.prefix (0 ∷ [])))

  pub long_enough : (bytes : List ℕ) → IsText header groups bytes → gate_at + 1 ≤ length bytes
  long_enough bytes text =
      let p = parts header groups bytes text in
      omega (arith, ap length p.whole, p.offset, length-append p.prefix (0 ∷ p.following))

  -- what stands after the closed gate has no meaning
  pub after_gate : (bytes new : List ℕ) → IsText header groups bytes → take (gate_at + 1) new ≡ take (gate_at + 1) bytes → IsText header groups new
  after_gate bytes new text prefix =
      let p = parts header groups bytes text in
      let following = drop (gate_at + 1) new in
      let whole : new ≡ p.prefix ++ 0 ∷ following =
      sym (take-append-drop (gate_at + 1) new) ∙ ap (λ (l : List ℕ). l ++ following) (prefix ∙ closed_prefix bytes text) ∙ append_assoc p.prefix (0 ∷ []) following in
      subst (λ (gs : List (List Mutation)). IsText header gs new) (append-nil groups)
      (subst (λ (l : List ℕ). IsText header (groups ++ []) l) (sym whole) (p.goes (0 ∷ following) [] (following, refl)))

  -- the file with a record after the closed gate
  pub record Staged (bytes staged : List ℕ) (text : IsText header groups bytes) : Type 0 where
    pub following : List ℕ
    pub whole : staged ≡ (parts header groups bytes text).prefix ++ (0 ∷ tail_text group ++ following)

  pub is_staged : (bytes : List ℕ) (text : IsText header groups bytes) → Staged bytes (written bytes (gate_at + 1) (tail_text group)) text
  is_staged bytes text =
      let p = parts header groups bytes text in
      let following = drop (gate_at + 1 + length (tail_text group)) bytes in
      record {
        following = following;
        whole = ap (λ (l : List ℕ). l ++ tail_text group ++ following) (closed_prefix bytes text) ∙ ap (λ (l : List ℕ). l ++ following) (append_assoc p.prefix (0 ∷ []) (tail_text group)) ∙ append_assoc p.prefix (0 ∷ tail_text group) following;
      }

  -- any gate before it
  gated : (bytes new : List ℕ) (text : IsText header groups bytes) (gate : ℕ) (following : List ℕ)
      → new ≡ (parts header groups bytes text).prefix ++ (gate ∷ tail_text group ++ following) → OldOrNew header groups group new × (gate ≢ 0 → IsText header (groups ++ group ∷ []) new)
  gated bytes new text gate following whole =
      let p = parts header groups bytes text in
      let here = tail_text group ++ following in
      let opened : gate ≢ 0 → IsText header (groups ++ group ∷ []) new = λ ne.
      subst (λ (l : List ℕ). IsText header (groups ++ group ∷ []) l) (sym whole)
      (p.goes (gate ∷ here) (group ∷ []) (following, (gate, 0 ∷ following, ne, fits, ap (λ (l : List ℕ). gate ∷ l) (tail_parts group following), refl))) in
      let shut : gate ≡ 0 → IsText header groups new = λ zero.
      subst (λ (gs : List (List Mutation)). IsText header gs new) (append-nil groups)
      (subst (λ (l : List ℕ). IsText header (groups ++ []) l) (sym (whole ∙ ap (λ (k : ℕ). p.prefix ++ k ∷ here) zero)) (p.goes (0 ∷ here) [] (here, refl))) in
      (⊎_elim (λ is. inl (shut is)) (λ ne. inr (opened ne)) (cases_eq gate 0), opened)

  -- up to the gate, and after it
  staged_prefix : (bytes staged : List ℕ) (text : IsText header groups bytes) → Staged bytes staged text → take gate_at staged ≡ (parts header groups bytes text).prefix
  staged_prefix bytes staged text is =
      let p = parts header groups bytes text in
      ap (λ (l : List ℕ). take gate_at l) is.whole ∙ take_at p.prefix (0 ∷ tail_text group ++ is.following) gate_at p.offset

  staged_back : (bytes staged : List ℕ) (text : IsText header groups bytes) (is : Staged bytes staged text) → drop (gate_at + 1) staged ≡ tail_text group ++ is.following
  staged_back bytes staged text is =
      let p = parts header groups bytes text in
      ap (λ (l : List ℕ). drop (gate_at + 1) l) (is.whole ∙ sym (append_assoc p.prefix (0 ∷ []) (tail_text group ++ is.following)))
      ∙ drop_at (p.prefix ++ 0 ∷ []) (tail_text group ++ is.following) (gate_at + 1) (omega (arith, p.offset, length-append p.prefix (0 ∷ [])))

  pub staged_long : (bytes staged : List ℕ) (text : IsText header groups bytes) → Staged bytes staged text → gate_at + 1 ≤ length staged
  staged_long bytes staged text is =
      let p = parts header groups bytes text in
      omega (arith, ap length is.whole, p.offset, length-append p.prefix (0 ∷ tail_text group ++ is.following))

  -- a gate that a stop tore
  pub torn_gate : (bytes staged new : List ℕ) (text : IsText header groups bytes) → Staged bytes staged text → Torn gate_at 1 staged new → OldOrNew header groups group new
  torn_gate bytes staged new text is torn =
      let p = parts header groups bytes text in
      let gate = get_or new gate_at 0 in
      let rest : drop gate_at new ≡ gate ∷ (tail_text group ++ is.following) =
      drop_more new gate_at 0 (omega (arith, torn.no_shorter, staged_long bytes staged text is)) ∙ ap (λ (l : List ℕ). gate ∷ l) (torn.after ∙ staged_back bytes staged text is) in
      let whole : new ≡ p.prefix ++ (gate ∷ tail_text group ++ is.following) =
      sym (take-append-drop gate_at new) ∙ ap (λ (l : List ℕ). l ++ drop gate_at new) (torn.before ∙ staged_prefix bytes staged text is) ∙ ap (λ (l : List ℕ). p.prefix ++ l) rest in
      (gated bytes new text gate is.following whole).0

  -- the gate is open
  pub opened_gate : (bytes staged : List ℕ) (text : IsText header groups bytes) → Staged bytes staged text → IsText header (groups ++ group ∷ []) (written staged gate_at (1 ∷ []))
  opened_gate bytes staged text is =
      let p = parts header groups bytes text in
      let whole : written staged gate_at (1 ∷ []) ≡ p.prefix ++ (1 ∷ tail_text group ++ is.following) =
      ap (λ (l : List ℕ). l ++ 1 ∷ [] ++ drop (gate_at + 1) staged) (staged_prefix bytes staged text is) ∙ ap (λ (l : List ℕ). p.prefix ++ 1 ∷ [] ++ l) (staged_back bytes staged text is)
      ∙ append_assoc p.prefix (1 ∷ []) (tail_text group ++ is.following) in
      (gated bytes (written staged gate_at (1 ∷ [])) text 1 is.following whole).1 (omega arith)

pub end-push : (groups : List (List Mutation)) (group : List Mutation) → end_of (groups ++ group ∷ []) ≡ end_of groups + length (tail_text group)
end-push [] group = omega (arith, length-tail_text group)
end-push (g ∷ groups) group = omega (arith, end-push groups group)

pub drop_first : (x y : List ℕ) → drop 1 x ≡ drop 1 y → drop 41 x ≡ drop 41 y
drop_first [] [] e = refl
drop_first [] (b ∷ y) e = ap (λ (l : List ℕ). drop 40 l) e
drop_first (a ∷ x) [] e = ap (λ (l : List ℕ). drop 40 l) e
drop_first (a ∷ x) (b ∷ y) e = ap (λ (l : List ℕ). drop 40 l) e

-- whatever a stop made of the first byte: where the file is sealed, it is the same text
pub resealed : (header : Header) (groups : List (List Mutation)) (text bytes : List ℕ) → IsText header groups text → ButFirst text bytes → IsSealed bytes → IsText header groups bytes
resealed header groups text bytes is but sealed = record {
  limits = is.limits;
  sealed = sealed;
  named = ap (λ (l : List ℕ). take 40 l) but.rest ∙ is.named;
  records = subst (λ (l : List ℕ). ClosedRecords l groups) (sym (drop_first bytes text but.rest)) is.records;
}
