use Rattle.std.proofs.Common.{subst, sym, arith, get_or}
use Rattle.std.proofs.lemmas.Bool.{eq-eqb}
use Rattle.assembler.specs.Cuts.{NoByte}
use Rattle.assembler.proofs.Cutting.{none_anywhere, none_before}
use Rattle.assembler.proofs.cuts.cut.Goals as goal

pub returns-in-Some-clause-front : goal.returns-in-Some-clause-front
returns-in-Some-clause-front c =
    let first = c.in-Some.ensures.0 in
    let high = first.high in
    subst (NoByte c.args.byte) (sym c.split_at-parts.ensures.front)
    (none_before c.args.byte c.args.text.now c.in-Some.place (omega (arith, high))
    (λ k less e. first.before k (omega arith) less (eq-eqb (get_or c.args.text.now k 0) c.args.byte e)))

pub returns-in-None-clause-front : goal.returns-in-None-clause-front
returns-in-None-clause-front c =
    none_anywhere c.args.byte c.args.text.now
    (λ k less e. c.in-None.ensures k (omega arith) less (eq-eqb (get_or c.args.text.now k 0) c.args.byte e))
