use Rattle.std.proofs.Common.{◌∙◌, ◌++◌, ◌∷◌, List, ℕ, ap, drop, sym}
use Rattle.isa.specs.Texts.{instruction_text}
use Rattle.assembler.proofs.Shown.{behind_place}
use Rattle.assembler.proofs.listing.instruction_at.Goals as goal

pub returns-in_err-behind : goal.returns-in_err-behind
returns-in_err-behind c = λ i shows is.
    absurd (c.in_err-behind.ensures (32 ∷ instruction_text i)
    (is ∙ ap (λ (z : List ℕ). z ++ (32 ∷ instruction_text i)) (sym c.digits_of-digits.ensures)))

pub returns-in_err-text : goal.returns-in_err-text
returns-in_err-text c = λ i shows is.
    absurd (c.in_err-text.ensures (instruction_text i)
    (behind_place c.args.place _ _ _ i c.digits_of-digits.ensures c.in_ok-behind.ensures is))

pub returns : goal.returns
returns c = λ i shows is.
    let at = behind_place c.args.place _ _ _ i c.digits_of-digits.ensures c.in_ok-behind.ensures is in
    c.instruction_of.ensures i shows (ap (drop 1) (sym c.in_ok-text.ensures ∙ at))
