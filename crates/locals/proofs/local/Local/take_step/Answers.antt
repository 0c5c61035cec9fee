use Rattle.locals.proofs.Running.{one_step}
use Rattle.locals.proofs.local.Local.take_step.Goals as goal

pub returns : goal.returns
returns c = one_step c.args.image.now c.args.t c.run.result c.args.self.now c.run.new.self c.run.ensures.reached
    c.run.ensures.within c.run.ensures.whole
