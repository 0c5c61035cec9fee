use Rattle.std.proofs.Common.{sym, subst}
use Rattle.std.specs.Prelude.{option_map}
use Rattle.syntax.specs.View.{option_expression}
use Rattle.types.specs.CallFaults.{recover_faults, return_faults}
use Rattle.types.specs.Faults.{Gathers}
use Rattle.types.specs.Kinds.{result_kind}
use Rattle.types.proofs.Gathered.{gathers_both}
use Rattle.body_faults.proofs.simple.returned.Goals as goal

pub returns-in-Some : goal.returns-in-Some
returns-in-Some c = λ s h e k.
    let due = option_map result_kind s.piece.returns in
    gathers_both (recover_faults s c.args.place)
    (return_faults s c.args.place due (option_expression c.args.value.now)) c.args.least c.recover-first.result
    c.some_value.result (c.recover-first.ensures s e)
    (subst (λ r. Gathers (return_faults s c.args.place r (option_expression c.args.value.now)) c.recover-first.result
    c.some_value.result) (sym k)
    (subst (λ y. Gathers (return_faults s c.args.place c.args.returns (option_expression y)) c.recover-first.result
    c.some_value.result) (sym c.in-Some.is) (c.some_value.ensures s h)))

pub returns-in-None : goal.returns-in-None
returns-in-None c = λ s h e k.
    let due = option_map result_kind s.piece.returns in
    gathers_both (recover_faults s c.args.place)
    (return_faults s c.args.place due (option_expression c.args.value.now)) c.args.least c.recover-first.result
    c.no_value.result (c.recover-first.ensures s e)
    (subst (λ r. Gathers (return_faults s c.args.place r (option_expression c.args.value.now)) c.recover-first.result
    c.no_value.result) (sym k)
    (subst (λ y. Gathers (return_faults s c.args.place c.args.returns (option_expression y)) c.recover-first.result
    c.no_value.result) (sym c.in-None.is) (c.no_value.ensures s)))
