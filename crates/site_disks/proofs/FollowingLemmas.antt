-- Images of a site that follow acts.
use Rattle.std.proofs.Common.{◌≡◌, inl, inr, ⊎_elim, List, [], ◌∷◌, ◌++◌, refl, ap, subst}
use Rattle.cluster_model.specs.Site.{SiteShape, SiteImage}
use Rattle.cluster_model.specs.Agreement.{Durable}
use Rattle.cluster_model.specs.Acts.{Act, done, all_done, AreCutShort}
use Rattle.cluster_model.specs.Carried.{IsCarriedOver}
use Rattle.site_disks.specs.Following.{AreDoneOver}

-- of two lists of acts, one after the other
pub done_after : (shape : SiteShape) (acts more : List Act) (durable : Durable) (old mid new : SiteImage) → AreDoneOver shape acts durable old mid → AreDoneOver shape more (all_done acts durable) mid new → AreDoneOver shape (acts ++ more) durable old new
done_after shape [] more durable old mid new is next = subst (λ (m : SiteImage). AreDoneOver shape more durable m new) is next
done_after shape (act ∷ acts) more durable old mid new does next = (does.0, does.1, done_after shape acts more (done act durable) does.0 mid new does.2 next)

-- what is kept after two lists of acts
pub all_done_after : (acts more : List Act) (durable : Durable) → all_done (acts ++ more) durable ≡ all_done more (all_done acts durable)
all_done_after [] more durable = refl
all_done_after (act ∷ acts) more durable = all_done_after acts more (done act durable)

-- the first ones are done, and of the others some
pub carried_after : (shape : SiteShape) (acts more : List Act) (durable kept : Durable) (old mid new : SiteImage) → AreDoneOver shape acts durable old mid → IsCarriedOver shape more (all_done acts durable) kept mid new
    → IsCarriedOver shape (acts ++ more) durable kept old new
carried_after shape [] more durable kept old mid new is next = subst (λ (m : SiteImage). IsCarriedOver shape more durable kept m new) is next
carried_after shape (act ∷ acts) more durable kept old mid new does next = inr (inr (does.0, does.1, carried_after shape acts more (done act durable) kept does.0 mid new does.2 next))

carried_by_none : (shape : SiteShape) (more : List Act) (durable kept : Durable) (old new : SiteImage) → kept ≡ durable → new ≡ old → IsCarriedOver shape more durable kept old new
carried_by_none shape [] durable kept old new k n = (k, n)
carried_by_none shape (act ∷ more) durable kept old new k n = inl (k, n)

-- of the first ones some are done
pub carried_before : (shape : SiteShape) (acts more : List Act) (durable kept : Durable) (old new : SiteImage) → IsCarriedOver shape acts durable kept old new → IsCarriedOver shape (acts ++ more) durable kept old new
carried_before shape [] more durable kept old new c = carried_by_none shape more durable kept old new c.0 c.1
carried_before shape (act ∷ acts) more durable kept old new c =
    ⊎_elim (λ none. inl none) (λ other. inr (⊎_elim (λ tries. inl tries) (λ does. inr (does.0, does.1, carried_before shape acts more (done act durable) kept does.0 new does.2)) other)) c

-- all are done
pub all_carried : (shape : SiteShape) (acts : List Act) (durable : Durable) (old new : SiteImage) → AreDoneOver shape acts durable old new → IsCarriedOver shape acts durable (all_done acts durable) old new
all_carried shape [] durable old new is = (refl, is)
all_carried shape (act ∷ acts) durable old new does = inr (inr (does.0, does.1, all_carried shape acts (done act durable) does.0 new does.2))

-- none is
pub none_carried : (shape : SiteShape) (acts : List Act) (durable : Durable) (image : SiteImage) → IsCarriedOver shape acts durable durable image image
none_carried shape acts durable image = carried_by_none shape acts durable durable image image refl refl

-- where some are done, acts are cut short
pub carried_is_cut : (shape : SiteShape) (acts : List Act) (durable kept : Durable) (old new : SiteImage) → IsCarriedOver shape acts durable kept old new → AreCutShort acts durable kept
carried_is_cut shape [] durable kept old new c = record { before = []; after = []; whole = refl; next = inl c.0 }
carried_is_cut shape (act ∷ acts) durable kept old new c =
    ⊎_elim
    (λ none. record { before = []; after = act ∷ acts; whole = refl; next = inl none.0 })
    (λ other. ⊎_elim
    (λ tries. record { before = []; after = act ∷ acts; whole = refl; next = inr (act, acts, refl, tries.0) })
    (λ does.
    let later = carried_is_cut shape acts (done act durable) kept does.0 new does.2 in
    record { before = act ∷ later.before; after = later.after; whole = ap (λ (l : List Act). act ∷ l) later.whole; next = later.next })
    other)
    c
