-- Lists of instructions within the limits of an image.
use Rattle.std.proofs.Common.{◌≡◌, ◌++◌, ℕ, List, [], ◌∷◌, Bool, true, false, refl, ap, ◌∙◌}
use Rattle.std.specs.Prelude.{cond}
use Rattle.isa.specs.declared.instr.Instr.{Instr}
use Rattle.lowering.specs.declared.mark.Marked.{Marked}
use Rattle.lowering.specs.Marks.{instructions}
use Rattle.linker.specs.Linked.{fits, all_fit}

-- instructions before others
pub instructions-append : (xs ys : List Marked) → instructions (xs ++ ys) ≡ instructions xs ++ instructions ys
instructions-append [] ys = refl
instructions-append (x ∷ xs) ys = ap (λ l. x.instruction ∷ l) (instructions-append xs ys)

one_more : (b c d : Bool) → (b ≡ true → c ≡ d) → cond b c false ≡ cond b d false
one_more true c d h = h refl
one_more false c d h = refl

pub both : (b c : Bool) → cond b c false ≡ true → (b ≡ true) × (c ≡ true)
both true c e = (refl, e)
both false c e = absurd (no e)
  where
    no : false ≡ true → ⊥
    no e = cc

-- those before others decide, or leave it to the others
pub fit_front : (t : ℕ) (xs ys : List Instr) → all_fit t xs ≡ true → all_fit t (xs ++ ys) ≡ all_fit t ys
fit_front t [] ys e = refl
fit_front t (x ∷ xs) ys e =
    let h = both (fits t x) (all_fit t xs) e in
    ap (λ b. cond b (all_fit t (xs ++ ys)) false) h.0 ∙ fit_front t xs ys h.1

pub fit_stop : (t : ℕ) (xs ys : List Instr) → all_fit t xs ≡ false → all_fit t (xs ++ ys) ≡ false
fit_stop t [] ys e = absurd (no e)
  where
    no : true ≡ false → ⊥
    no e = cc
fit_stop t (x ∷ xs) ys e = stop (fits t x) (all_fit t xs) (all_fit t (xs ++ ys)) e (fit_stop t xs ys)
  where
    stop : (b c d : Bool) → cond b c false ≡ false → (c ≡ false → d ≡ false) → cond b d false ≡ false
    stop true c d e h = h e
    stop false c d e h = refl
