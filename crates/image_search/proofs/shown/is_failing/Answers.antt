use Rattle.std.proofs.Common.{Some, ap, subst, sym, ◌∙◌}
use Rattle.image_search.specs.Found.{IsFault}
use Rattle.image_search.proofs.Failing.{dies_of}
use Rattle.image_search.proofs.shown.is_failing.Goals as goal

pub returns-then-is_dying : goal.returns-then-is_dying
returns-then-is_dying c = λ e.
    let x = c.local.result.now in
    let dies = dies_of c.args.machine.now.program c.args.t x (sym c.is_dying.ensures ∙ c.if-is_dying.true)
    (subst IsFault (c.next_step.ensures x c.local.ensures) (c.is_fault.ensures e)) in (
      c.args.t,
      dies.0,
      c.local.ensures ∙ ap Some dies.1,
    )
