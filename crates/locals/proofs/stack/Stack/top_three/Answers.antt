use Rattle.std.proofs.Common.{◌<◌, ◌∙◌, ◌∷◌, IfNone, ap, arith, length, subst, sym}
use Rattle.locals.proofs.Uppermost.{cut_at, none_at}
use Rattle.locals.proofs.stack.Stack.top_three.Goals as goal

pub returns-clause-some : goal.returns-clause-some
returns-clause-some g c =
    let s = c.args.self.now in
    cut_at s 0 c.in_ok-below_top-3.field-0 c.in_ok-below_top-3.ensures
    ∙ ap (λ l. c.in_ok-below_top-3.field-0 ∷ l) (cut_at s 1 c.in_ok-below_top-2.field-0 c.in_ok-below_top-2.ensures
    ∙ ap (λ l. c.in_ok-below_top-2.field-0 ∷ l) (cut_at s 2 c.in_ok-below_top.field-0 c.in_ok-below_top.ensures))

pub returns-in_err-below_top-clause-none : goal.returns-in_err-below_top-clause-none
returns-in_err-below_top-clause-none g c =
    let short = none_at c.args.self.now 2 c.in_err-below_top.ensures in
    subst (λ r. IfNone r (length c.args.self.now < 3)) (sym c.from_residual.ensures) (omega (arith, short))

pub returns-in_err-below_top-2-clause-none : goal.returns-in_err-below_top-2-clause-none
returns-in_err-below_top-2-clause-none g c =
    let short = none_at c.args.self.now 1 c.in_err-below_top-2.ensures in
    subst (λ r. IfNone r (length c.args.self.now < 3)) (sym c.from_residual-in_err-below_top-2.ensures)
    (omega (arith, short))

pub returns-in_err-below_top-3-clause-none : goal.returns-in_err-below_top-3-clause-none
returns-in_err-below_top-3-clause-none g c =
    let short = none_at c.args.self.now 0 c.in_err-below_top-3.ensures in
    subst (λ r. IfNone r (length c.args.self.now < 3)) (sym c.from_residual-in_err-below_top-3.ensures)
    (omega (arith, short))
