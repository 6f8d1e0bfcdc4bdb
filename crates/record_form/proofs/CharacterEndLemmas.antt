-- A prefix of a character becomes a character with the least bytes that may follow.
use Rattle.std.proofs.Common.{◌≡◌, ◌≢◌, ℕ, ◌+◌, ◌*◌, ◌/◌, ◌<◌, ◌≤◌, Bool, true, false, List, [], ◌∷◌, ◌++◌, length, refl, sym, ap, subst, ◌∙◌, arith, ◌||◌, ⊎_elim}
use Rattle.std.proofs.lemmas.Bool.{cases_lt, lt-ltb, le-ltb, le-leb}
use Rattle.std.proofs.lemmas.Str.{is_utf8-from_IsUtf8, IsUtf8-encode}
use Rattle.std.specs.Str.{IsUtf8}
use Rattle.std.specs.Char.{IsScalar}
use Rattle.record_form.specs.Characters.{completes, may_continue}
use lib.Utf8 as utf8
use lib.Utf8.{encode, next, scalar, scalar_cases, low_scalar}

enc2 : (c : ℕ) → 128 ≤ c → c < 2048 → encode c ≡ (192 + c / 64) ∷ next c ∷ []
unfolding utf8.encode
enc2 c low high = rw (le-ltb c 128 low, lt-ltb c 2048 high) refl

enc3 : (c : ℕ) → 2048 ≤ c → c < 65536 → encode c ≡ (224 + c / 4096) ∷ next (c / 64) ∷ next c ∷ []
unfolding utf8.encode
enc3 c low high = rw (le-ltb c 128 (omega arith), le-ltb c 2048 low, lt-ltb c 65536 high) refl

enc4 : (c : ℕ) → 65536 ≤ c → encode c ≡ (240 + c / 262144) ∷ next (c / 4096) ∷ next (c / 64) ∷ next c ∷ []
unfolding utf8.encode
enc4 c low = rw (le-ltb c 128 (omega arith), le-ltb c 2048 (omega arith), le-ltb c 65536 low) refl

enc1 : (c : ℕ) → c < 128 → encode c ≡ c ∷ []
unfolding utf8.encode
enc1 c high = rw (lt-ltb c 128 high) refl

-- the spelling of a character for which there is room
done : (bytes : List ℕ) (room c : ℕ) → length bytes ≤ room → IsScalar c → encode c ≡ bytes → completes bytes room ≡ true
done bytes room c fits is spelled = rw (le-leb (length bytes) room fits, is_utf8-from_IsUtf8 bytes (subst IsUtf8 spelled (IsUtf8-encode c is))) refl

or_left : (a b : Bool) → a ≡ true → (a || b) ≡ true
or_left a b is = rw is refl

or_right : (a b : Bool) → b ≡ true → (a || b) ≡ true
or_right true b is = refl
or_right false b is = is

scalar_high : (c : ℕ) → 57344 ≤ c → c < 1114112 → IsScalar c
scalar_high c low high = rw (le-ltb c 55296 (omega arith), le-leb 57344 c low, lt-ltb c 1114112 high) refl

-- the least character with the same first bytes is one
scalar_down : (c d k : ℕ) → scalar c ≡ true → d ≡ c / k * k → d ≤ c → (57344 ≤ c → 57344 ≤ d) → IsScalar d
scalar_down c d k is same below keeps =
    ⊎_elim (λ low. low_scalar d (omega arith)) (λ (high : (57344 ≤ c) × (c < 1114112)). scalar_high d (keeps high.0) (omega (arith, high.1))) (scalar_cases c is)

module _ (c room : ℕ) (is : scalar c ≡ true) where
  two : 128 ≤ c → c < 2048 → 2 ≤ room → completes ((192 + c / 64) ∷ 128 ∷ []) room ≡ true
  two low high fits =
      let d = c / 64 * 64 in
      let a : 192 + d / 64 ≡ 192 + c / 64 = omega arith in
      let b : next d ≡ 128 = omega arith in
      done ((192 + c / 64) ∷ 128 ∷ []) room d fits (low_scalar d (omega arith)) (enc2 d (omega arith) (omega arith) ∙ (λ i. a i ∷ b i ∷ []))

  -- three bytes, of which two are there
  three_two : 2048 ≤ c → c < 65536 → 3 ≤ room → completes ((224 + c / 4096) ∷ next (c / 64) ∷ 128 ∷ []) room ≡ true
  three_two low high fits =
      let d = c / 64 * 64 in
      let a : 224 + d / 4096 ≡ 224 + c / 4096 = omega arith in
      let b : next (d / 64) ≡ next (c / 64) = omega arith in
      let e : next d ≡ 128 = omega arith in
      done ((224 + c / 4096) ∷ next (c / 64) ∷ 128 ∷ []) room d fits (scalar_down c d 64 is refl (omega arith) (λ h. omega arith)) (enc3 d (omega arith) (omega arith) ∙ (λ i. a i ∷ b i ∷ e i ∷ []))

  -- and of which one is
  three_one : 4096 ≤ c → c < 65536 → 3 ≤ room → completes ((224 + c / 4096) ∷ 128 ∷ 128 ∷ []) room ≡ true
  three_one low high fits =
      let d = c / 4096 * 4096 in
      let a : 224 + d / 4096 ≡ 224 + c / 4096 = omega arith in
      let b : next (d / 64) ≡ 128 = omega arith in
      let e : next d ≡ 128 = omega arith in
      done ((224 + c / 4096) ∷ 128 ∷ 128 ∷ []) room d fits (scalar_down c d 4096 is refl (omega arith) (λ h. omega arith)) (enc3 d (omega arith) (omega arith) ∙ (λ i. a i ∷ b i ∷ e i ∷ []))

  three_first : 2048 ≤ c → c < 4096 → 3 ≤ room → completes ((224 + c / 4096) ∷ 160 ∷ 128 ∷ []) room ≡ true
  three_first low high fits =
      let a : 224 ≡ 224 + c / 4096 = omega arith in
      done ((224 + c / 4096) ∷ 160 ∷ 128 ∷ []) room 2048 fits refl (enc3 2048 (omega arith) (omega arith) ∙ (λ i. a i ∷ 160 ∷ 128 ∷ []))

  four_three : 65536 ≤ c → c < 1114112 → 4 ≤ room → completes ((240 + c / 262144) ∷ next (c / 4096) ∷ next (c / 64) ∷ 128 ∷ []) room ≡ true
  four_three low high fits =
      let d = c / 64 * 64 in
      let a : 240 + d / 262144 ≡ 240 + c / 262144 = omega arith in
      let b : next (d / 4096) ≡ next (c / 4096) = omega arith in
      let e : next (d / 64) ≡ next (c / 64) = omega arith in
      let f : next d ≡ 128 = omega arith in
      done ((240 + c / 262144) ∷ next (c / 4096) ∷ next (c / 64) ∷ 128 ∷ []) room d fits (scalar_high d (omega arith) (omega arith)) (enc4 d (omega arith) ∙ (λ i. a i ∷ b i ∷ e i ∷ f i ∷ []))

  four_two : 65536 ≤ c → c < 1114112 → 4 ≤ room → completes ((240 + c / 262144) ∷ next (c / 4096) ∷ 128 ∷ 128 ∷ []) room ≡ true
  four_two low high fits =
      let d = c / 4096 * 4096 in
      let a : 240 + d / 262144 ≡ 240 + c / 262144 = omega arith in
      let b : next (d / 4096) ≡ next (c / 4096) = omega arith in
      let e : next (d / 64) ≡ 128 = omega arith in
      let f : next d ≡ 128 = omega arith in
      done ((240 + c / 262144) ∷ next (c / 4096) ∷ 128 ∷ 128 ∷ []) room d fits (scalar_high d (omega arith) (omega arith)) (enc4 d (omega arith) ∙ (λ i. a i ∷ b i ∷ e i ∷ f i ∷ []))

  four_one : 262144 ≤ c → c < 1114112 → 4 ≤ room → completes ((240 + c / 262144) ∷ 128 ∷ 128 ∷ 128 ∷ []) room ≡ true
  four_one low high fits =
      let d = c / 262144 * 262144 in
      let a : 240 + d / 262144 ≡ 240 + c / 262144 = omega arith in
      let b : next (d / 4096) ≡ 128 = omega arith in
      let e : next (d / 64) ≡ 128 = omega arith in
      let f : next d ≡ 128 = omega arith in
      done ((240 + c / 262144) ∷ 128 ∷ 128 ∷ 128 ∷ []) room d fits (scalar_high d (omega arith) (omega arith)) (enc4 d (omega arith) ∙ (λ i. a i ∷ b i ∷ e i ∷ f i ∷ []))

  four_first : 65536 ≤ c → c < 262144 → 4 ≤ room → completes ((240 + c / 262144) ∷ 144 ∷ 128 ∷ 128 ∷ []) room ≡ true
  four_first low high fits =
      let a : 240 ≡ 240 + c / 262144 = omega arith in
      done ((240 + c / 262144) ∷ 144 ∷ 128 ∷ 128 ∷ []) room 65536 fits refl (enc4 65536 (omega arith) ∙ (λ i. a i ∷ 144 ∷ 128 ∷ 128 ∷ []))

  tail_nil : (left tail : List ℕ) → left ++ tail ≡ [] → tail ≡ []
  tail_nil [] tail e = e
  tail_nil (a ∷ left) tail e = absurd cc

  from_one : (left tail : List ℕ) → c ∷ [] ≡ left ++ tail → tail ≢ [] → may_continue left room ≡ true
  from_one [] tail e some = refl
  from_one (a ∷ left) tail e some = absurd (some (tail_nil left tail cc))

  from_two : 128 ≤ c → c < 2048 → 2 ≤ room → (left tail : List ℕ) → (192 + c / 64) ∷ next c ∷ [] ≡ left ++ tail → tail ≢ [] → may_continue left room ≡ true
  from_two low high fits [] tail e some = refl
  from_two low high fits (a ∷ []) tail e some =
      let x : 192 + c / 64 ≡ a = cc in
      subst (λ (b : ℕ). may_continue (b ∷ []) room ≡ true) x (or_left _ _ (or_left _ _ (or_left _ _ (or_left _ _ (two low high fits)))))
  from_two low high fits (a ∷ b ∷ left) tail e some = absurd (some (tail_nil left tail cc))

  from_three : 2048 ≤ c → c < 65536 → 3 ≤ room → (left tail : List ℕ) → (224 + c / 4096) ∷ next (c / 64) ∷ next c ∷ [] ≡ left ++ tail → tail ≢ [] → may_continue left room ≡ true
  from_three low high fits [] tail e some = refl
  from_three low high fits (a ∷ []) tail e some =
      let x : 224 + c / 4096 ≡ a = cc in
      subst (λ (b : ℕ). may_continue (b ∷ []) room ≡ true) x
      (⊎_elim
      (λ (below : c < 4096). or_left _ _ (or_left _ _ (or_right _ _ (three_first low below fits))))
      (λ (above : 4096 ≤ c). or_left _ _ (or_left _ _ (or_left _ _ (or_right _ _ (three_one above high fits)))))
      (cases_lt c 4096))
  from_three low high fits (a ∷ b ∷ []) tail e some =
      let x : 224 + c / 4096 ≡ a = cc in
      let y : next (c / 64) ≡ b = cc in
      subst (λ (q : ℕ). may_continue (q ∷ b ∷ []) room ≡ true) x (subst (λ (q : ℕ). may_continue ((224 + c / 4096) ∷ q ∷ []) room ≡ true) y (or_left _ _ (three_two low high fits)))
  from_three low high fits (a ∷ b ∷ d ∷ left) tail e some = absurd (some (tail_nil left tail cc))

  from_four : 65536 ≤ c → c < 1114112 → 4 ≤ room → (left tail : List ℕ) → (240 + c / 262144) ∷ next (c / 4096) ∷ next (c / 64) ∷ next c ∷ [] ≡ left ++ tail → tail ≢ [] → may_continue left room ≡ true
  from_four low high fits [] tail e some = refl
  from_four low high fits (a ∷ []) tail e some =
      let x : 240 + c / 262144 ≡ a = cc in
      subst (λ (b : ℕ). may_continue (b ∷ []) room ≡ true) x
      (⊎_elim
      (λ (below : c < 262144). or_right _ _ (four_first low below fits))
      (λ (above : 262144 ≤ c). or_left _ _ (or_right _ _ (four_one above high fits)))
      (cases_lt c 262144))
  from_four low high fits (a ∷ b ∷ []) tail e some =
      let x : 240 + c / 262144 ≡ a = cc in
      let y : next (c / 4096) ≡ b = cc in
      subst (λ (q : ℕ). may_continue (q ∷ b ∷ []) room ≡ true) x (subst (λ (q : ℕ). may_continue ((240 + c / 262144) ∷ q ∷ []) room ≡ true) y (or_right _ _ (four_two low high fits)))
  from_four low high fits (a ∷ b ∷ d ∷ []) tail e some =
      let x : 240 + c / 262144 ≡ a = cc in
      let y : next (c / 4096) ≡ b = cc in
      let z : next (c / 64) ≡ d = cc in
      subst (λ (q : ℕ). may_continue (q ∷ b ∷ d ∷ []) room ≡ true) x (subst (λ (q : ℕ). may_continue ((240 + c / 262144) ∷ q ∷ d ∷ []) room ≡ true) y (subst (λ (q : ℕ). may_continue ((240 + c / 262144) ∷ next (c / 4096) ∷ q ∷ []) room ≡ true) z (four_three low high fits)))
  from_four low high fits (a ∷ b ∷ d ∷ f ∷ left) tail e some = absurd (some (tail_nil left tail cc))

  top : c < 1114112
  top = ⊎_elim (λ low. omega arith) (λ (high : (57344 ≤ c) × (c < 1114112)). high.1) (scalar_cases c is)

  -- the prefix of a character for which there is room may end
  pub character_may_continue : (left tail : List ℕ) → encode c ≡ left ++ tail → tail ≢ [] → length (encode c) ≤ room → may_continue left room ≡ true
  character_may_continue left tail e some fits =
      ⊎_elim
      (λ (a : c < 128). from_one left tail (sym (enc1 c a) ∙ e) some)
      (λ (a : 128 ≤ c). ⊎_elim
      (λ (b : c < 2048). from_two a b (omega (arith, ap length (enc2 c a b))) left tail (sym (enc2 c a b) ∙ e) some)
      (λ (b : 2048 ≤ c). ⊎_elim
      (λ (d : c < 65536). from_three b d (omega (arith, ap length (enc3 c b d))) left tail (sym (enc3 c b d) ∙ e) some)
      (λ (d : 65536 ≤ c). from_four d top (omega (arith, ap length (enc4 c d))) left tail (sym (enc4 c d) ∙ e) some)
      (cases_lt c 65536))
      (cases_lt c 2048))
      (cases_lt c 128)

pub encode_some : (c : ℕ) → 0 < length (encode c)
encode_some c =
    ⊎_elim
    (λ (a : c < 128). omega (arith, ap length (enc1 c a)))
    (λ (a : 128 ≤ c). ⊎_elim
    (λ (b : c < 2048). omega (arith, ap length (enc2 c a b)))
    (λ (b : 2048 ≤ c). ⊎_elim
    (λ (d : c < 65536). omega (arith, ap length (enc3 c b d)))
    (λ (d : 65536 ≤ c). omega (arith, ap length (enc4 c d)))
    (cases_lt c 65536))
    (cases_lt c 2048))
    (cases_lt c 128)
