use Rattle.std.proofs.Common.{◌≤◌, arith}
use Rattle.isa.specs.Limits.{most_locals}
use Rattle.locals.proofs.Blanks.{wider, all_wider}
use Rattle.locals.proofs.activation.Activation.used_with.Goals as goal

pub returns-clause-locals : goal.returns-clause-locals
returns-clause-locals c =
    let a = c.args.self.now in
    let b = c.args.other.now in
    let u = c.max.result in
    let within : u ≤ most_locals = omega (arith, c.max.ensures, a.within.0, b.within.0) in (
      wider a.used u a.locals (omega (arith, c.max.ensures)) within a.within.1,
      wider b.used u b.locals (omega (arith, c.max.ensures)) within b.within.1,
    )

pub returns-clause-callers : goal.returns-clause-callers
returns-clause-callers c =
    let a = c.args.self.now in
    let b = c.args.other.now in
    let u = c.max.result in
    let within : u ≤ most_locals = omega (arith, c.max.ensures, a.within.0, b.within.0) in (
      all_wider a.used u a.callers (omega (arith, c.max.ensures)) within a.within.2,
      all_wider b.used u b.callers (omega (arith, c.max.ensures)) within b.within.2,
    )
