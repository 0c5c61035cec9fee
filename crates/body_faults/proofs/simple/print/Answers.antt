use Rattle.body_faults.proofs.simple.print.Goals as goal

pub returns : goal.returns
returns c = λ s place h. c.typed.ensures s h
