-- Procedures that are copied, one after another.
use Rattle.std.proofs.Common.{◌≡◌, ◌+◌, ◌<◌, ◌∷◌, ◌++◌, [], List, add-one, ap, get_or, length, sym, take, ℕ, ◌∙◌}
use Rattle.std.proofs.Math.Seq.{take-suc}
use Rattle.source_offers.specs.declared.frame.Frame.{Frame as FrameOf}
use Rattle.source_offers.specs.Frames.{caller_of, callers_of}
use Rattle.source_offers.proofs.Frames.{callers-more}

pub copied-more : (fs gs hs : List FrameOf) (k : ℕ) (f g : FrameOf)
    → k < length fs → f ≡ get_or fs k f → caller_of g ≡ caller_of f → hs ≡ gs ++ g ∷ []
    → callers_of gs ≡ callers_of (take k fs) → callers_of hs ≡ callers_of (take (k + 1) fs)
copied-more fs gs hs k f g l is same pushed before =
    ap callers_of pushed ∙ callers-more gs g []
    ∙ (λ i. same i ∷ before i)
    ∙ sym (ap callers_of taken ∙ callers-more (take k fs) f [])
  where
    taken : take (k + 1) fs ≡ take k fs ++ f ∷ []
    taken = ap (λ n. take n fs) (add-one k) ∙ take-suc fs k f l ∙ ap (λ x. take k fs ++ x ∷ []) (sym is)
