use Rattle.std.proofs.Common.{◌≡◌, ◌∙◌, Some, sym, subst}
use Rattle.isa.specs.Programs.{Program}
use Rattle.locals.specs.Threads.{Thread}
use Rattle.runner.specs.Walks.{Turns}
use Rattle.runner.proofs.in_place.run_ahead.Goals as goal

pub returns : goal.returns
returns c =
    let p = c.args.machine.now.program in
    λ origin at.
    let both : Some c.local.result.now ≡ Some origin = sym c.local.ensures ∙ at in
    let from : c.local.result.now ≡ origin = cc in
    subst (λ (q : Program). Turns q c.args.t c.run.result origin c.run.new.self) c.requires.image
    (subst (λ (x : Thread). Turns c.args.image.now c.args.t c.run.result x c.run.new.self) (c.copy_from.ensures ∙ from)
    (record { goes = c.run.ensures.reached; turn = c.run.ensures.within; whole = c.run.ensures.whole }))
