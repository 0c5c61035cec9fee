use Rattle.std.proofs.Common.{◌∙◌, arith, sym}
use Rattle.schedules.proofs.Aborting.{is_behind}
use Rattle.machine.specs.Views.{concrete}
use Rattle.schedules.proofs.failing.first_fault.Goals as goal

pub loop-before-init : goal.loop-before-init
loop-before-init c = λ t fault h. h.some

pub loop-before-preserved : goal.loop-before-preserved
loop-before-preserved c = λ t fault h.
    is_behind (concrete c.args.last.now) c.loop-before.before t fault c.outcome.result (c.loop-before.invariant t fault h)
    c.outcome.ensures (sym c.fault_in.ensures ∙ c.in_default.is) h

pub returns-clause-none : goal.returns-clause-none
returns-clause-none c = λ _ t fault h.
    let behind = c.loop-before.invariant t fault h in
    let made = h.made in
    absurd (omega (arith, behind, made, c.loop-before-test.false, c.threads-before-end.ensures.value))
