use Rattle.std.proofs.Common.{◌∷◌, ◌++◌, ◌∙◌, ap, drop, sym}
use Rattle.std.specs.Fmt.{decimal}
use Rattle.std.proofs.lemmas.Option.{IfSome_then}
use Rattle.log_text.proofs.numbers.spaced_number.Goals as goal

pub returns-in-Some-clause-read : goal.returns-in-Some-clause-read
returns-in-Some-clause-read c =
    IfSome_then c.number.result c.number.ensures.read (λ p is. c.in-Some.ensures ∙ ap (λ z. 32 ∷ z) is)

pub returns-in-Some-clause-reads : goal.returns-in-Some-clause-reads
returns-in-Some-clause-reads c = λ n rest small none is.
    c.number.ensures.reads n rest small none (ap (drop 1) (sym c.in-Some.ensures ∙ is))

pub returns-in-None-clause-reads : goal.returns-in-None-clause-reads
returns-in-None-clause-reads c = λ n rest small none is. absurd (c.in-None.ensures (decimal n ++ rest) is)
