use Rattle.std.proofs.Common.{◌∷◌, ◌++◌, ◌∙◌, List, ℕ, ap, sym}
use Rattle.std.proofs.lemmas.Option.{IfSome_then}
use Rattle.log_text.proofs.Numerals.{no_sign_there, past_sign, shown_high, shown_low}
use Rattle.log_text.proofs.numbers.printed.Goals as goal

pub returns-in-Some-clause-read : goal.returns-in-Some-clause-read
returns-in-Some-clause-read c =
    IfSome_then c.below_zero.result c.below_zero.ensures.read
    (λ p h. c.in-Some.ensures ∙ ap (λ (z : List ℕ). 45 ∷ z) h.2
    ∙ ap (λ (z : List ℕ). z ++ p.1.now) (sym (shown_high p.0 h.0 h.1)))

pub returns-in-Some-clause-reads : goal.returns-in-Some-clause-reads
returns-in-Some-clause-reads c = λ v rest small none is.
    let shown = past_sign v c.args.text.now c.in-Some.digits.now rest small c.in-Some.ensures is in
    c.below_zero.ensures.reads v rest shown.0 small none shown.1

pub returns-in-None-clause-read : goal.returns-in-None-clause-read
returns-in-None-clause-read c =
    IfSome_then c.from_zero.result c.from_zero.ensures.read
    (λ p h. h.1 ∙ ap (λ (z : List ℕ). z ++ p.1.now) (sym (shown_low p.0 h.0)))

pub returns-in-None-clause-reads : goal.returns-in-None-clause-reads
returns-in-None-clause-reads c = λ v rest small none is.
    let shown = no_sign_there v c.args.text.now rest small c.in-None.ensures is in
    c.from_zero.ensures.reads v rest shown.0 none shown.1
