-- Laws of the options: a cut has one call, and options have one cut and one pick.
use Rattle.std.proofs.Common.{◌≡◌, ℕ, List, ◌++◌, codes, Option, Some, None, IfSome, IfNone, ◌≢◌, refl, sym, ◌∙◌, ap, arith, append_assoc}
use Rattle.std.specs.Fmt.{decimal}
use Rattle.std.proofs.lemmas.Fmt.{decimal_injective}
use Rattle.std.proofs.lemmas.List.{append_cancel_left}
use Rattle.plan_words.specs.Words.{IsCall, IsPick, cut_word, pick_words, IsCutOption, IsNoCutOption, AreOptions}

-- ---- the argument of a cut, from its parts

cut_of_parts : (host option value disk word : List ℕ) (call : ℕ) → option ≡ codes "--cut" → value ≡ host ++ disk → disk ≡ codes "/0/" ++ word → word ≡ decimal call → IsCall call → IsCutOption host option value call
cut_of_parts host option value disk word call cut at_host at_disk is within =
    let whole : host ++ disk ≡ host ++ (codes "/0/" ++ decimal call) = ap (λ (d : List ℕ). host ++ d) (at_disk ∙ ap (λ (w : List ℕ). codes "/0/" ++ w) is) in
    record {
      option_is = cut;
      value_is = at_host ∙ whole ∙ sym (append_assoc host (codes "/0/") (decimal call));
      call_is = within;
    }

-- what stands after the host in the argument of a cut
after_host : (host option value disk : List ℕ) (call : ℕ) → value ≡ host ++ disk → IsCutOption host option value call → disk ≡ codes "/0/" ++ decimal call
after_host host option value disk call is cut =
    append_cancel_left host disk (codes "/0/" ++ decimal call) (sym is ∙ cut.value_is ∙ append_assoc host (codes "/0/") (decimal call))

-- after the host stands another partition, or none
pub not_the_disk : (host option value disk : List ℕ) → value ≡ host ++ disk → ((rest : List ℕ) → disk ≢ codes "/0/" ++ rest) → IsNoCutOption host option value
not_the_disk host option value disk is other call cut = other (decimal call) (after_host host option value disk call is cut)

pub cut_found : (host option value disk word : List ℕ) (r : Option ℕ) → option ≡ codes "--cut" → value ≡ host ++ disk → disk ≡ codes "/0/" ++ word → IfSome r (λ call. (word ≡ decimal call) × IsCall call) → IfSome r (λ call. IsCutOption host option value call)
cut_found host option value disk word None cut at_host at_disk is = tt
cut_found host option value disk word (Some call) cut at_host at_disk is = cut_of_parts host option value disk word call cut at_host at_disk is.0 is.1

pub cut_none : (host option value disk word : List ℕ) (r : Option ℕ) → value ≡ host ++ disk → disk ≡ codes "/0/" ++ word → IfNone r ((call : ℕ) → IsCall call → word ≢ decimal call) → IfNone r (IsNoCutOption host option value)
cut_none host option value disk word (Some call) at_host at_disk other = tt
cut_none host option value disk word None at_host at_disk other = λ call cut.
    let tail = sym at_disk ∙ after_host host option value disk call at_host cut in
    other call cut.call_is (append_cancel_left (codes "/0/") word (decimal call) tail)

-- ---- options have one cut and one pick

same_call : (host : List ℕ) (a b : ℕ) → IsCall a → IsCall b → cut_word host a ≡ cut_word host b → a ≡ b
same_call host a b x y e = decimal_injective a b x.1 y.1 (append_cancel_left (host ++ codes "/0/") (decimal a) (decimal b) e)

same_pick : (p q : Option ℕ) → IfSome p IsPick → IfSome q IsPick → pick_words p ≡ pick_words q → p ≡ q
same_pick None None x y e = refl
same_pick None (Some b) x y e = cc
same_pick (Some a) None x y e = cc
same_pick (Some a) (Some b) x y e = let is : decimal a ≡ decimal b = cc in ap Some (decimal_injective a b (omega arith) (omega arith) is)

pub same_options : (host : List ℕ) (options : List (List ℕ)) (c p d q : Option ℕ) → AreOptions host options c p → AreOptions host options d q → (c ≡ d) × (p ≡ q)
same_options host options None p None q x y = (refl, same_pick p q x.image y.image (sym x.options_are ∙ y.options_are))
same_options host options None None (Some b) q x y = let e = sym x.options_are ∙ y.options_are in cc
same_options host options None (Some a) (Some b) q x y = let e = sym x.options_are ∙ y.options_are in cc
same_options host options (Some a) p None None x y = let e = sym x.options_are ∙ y.options_are in cc
same_options host options (Some a) p None (Some b) x y = let e = sym x.options_are ∙ y.options_are in cc
same_options host options (Some a) p (Some b) q x y =
    let e = sym x.options_are ∙ y.options_are in
    let word : cut_word host a ≡ cut_word host b = cc in
    let rest : pick_words p ≡ pick_words q = cc in
    (ap Some (same_call host a b x.call y.call word), same_pick p q x.image y.image rest)
