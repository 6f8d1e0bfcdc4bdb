-- The bytes of a list over which others were laid.
use Rattle.std.proofs.Common.{◌≡◌, ⊎_elim, ℕ, ◌+◌, ◌-◌, ◌<◌, ◌≤◌, max, List, ◌++◌, length, take, drop, get_or, refl, sym, ◌∙◌, ap, arith, length-append, length-take, length-drop}
use Rattle.std.proofs.lemmas.List.{get_or-take, get_or-drop, get_or_append_left, get_or-append_right, get_or-replicate, get_or_past, length-replicate}
use Rattle.std.proofs.lemmas.Bool.{cases_lt}
use Rattle.std.specs.Prelude.{replicate}
use Rattle.disk_memory.specs.Replay.{laid}

module _ (bytes : List ℕ) (at : ℕ) (more : List ℕ) where
  prefix_long : length (take at bytes ++ replicate (at - length bytes) 0 ++ more) ≡ at + length more
  prefix_long =
      omega (
        arith,
        length-append (take at bytes ++ replicate (at - length bytes) 0) more,
        length-append (take at bytes) (replicate (at - length bytes) 0),
        length-replicate {A = ℕ} (at - length bytes) 0,
        length-take at bytes,
      )

  pub length-laid : length (laid bytes at more) ≡ max (length bytes) (at + length more)
  length-laid =
      omega (
        arith,
        prefix_long,
        length-append (take at bytes ++ replicate (at - length bytes) 0 ++ more) (drop (at + length more) bytes),
        length-drop (at + length more) bytes,
      )

  pub laid_before : (i : ℕ) → i < at → get_or (laid bytes at more) i 0 ≡ get_or bytes i 0
  laid_before i before =
      let a : List ℕ = take at bytes in
      let b : List ℕ = replicate (at - length bytes) 0 in
      let prefix : get_or (laid bytes at more) i 0 ≡ get_or (a ++ b) i 0 =
      get_or_append_left (a ++ b ++ more) (drop (at + length more) bytes) 0 i (omega (arith, prefix_long))
      ∙ get_or_append_left (a ++ b) more 0 i (omega (arith, length-append a b, length-take at bytes, length-replicate {A = ℕ} (at - length bytes) 0)) in
      prefix ∙ ⊎_elim
      (λ lt. get_or_append_left a b 0 i (omega (arith, length-take at bytes)) ∙ get_or-take at bytes i 0 before)
      (λ past. let le : length a ≤ i = omega (arith, length-take at bytes) in
      get_or-append_right a b (length a) i 0 refl le
      ∙ get_or-replicate (at - length bytes) (i - length a) 0 0 (omega (arith, length-take at bytes))
      ∙ sym (get_or_past bytes i 0 past))
      (cases_lt i (length bytes))

  pub laid_here : (i : ℕ) → at ≤ i → i < at + length more → get_or (laid bytes at more) i 0 ≡ get_or more (i - at) 0
  laid_here i from lt =
      let a : List ℕ = take at bytes in
      let b : List ℕ = replicate (at - length bytes) 0 in
      let long : length (a ++ b) ≡ at = omega (arith, length-append a b, length-take at bytes, length-replicate {A = ℕ} (at - length bytes) 0) in
      get_or_append_left (a ++ b ++ more) (drop (at + length more) bytes) 0 i (omega (arith, prefix_long))
      ∙ get_or-append_right (a ++ b) more at i 0 long from

  pub laid_after : (i : ℕ) → at + length more ≤ i → get_or (laid bytes at more) i 0 ≡ get_or bytes i 0
  laid_after i after =
      let a : List ℕ = take at bytes in
      let b : List ℕ = replicate (at - length bytes) 0 in
      get_or-append_right (a ++ b ++ more) (drop (at + length more) bytes) (at + length more) i 0 prefix_long after
      ∙ get_or-drop (at + length more) bytes (i - (at + length more)) 0
      ∙ ap (λ (k : ℕ). get_or bytes k 0) (let e : at + length more + (i - (at + length more)) ≡ i = omega arith in e)
