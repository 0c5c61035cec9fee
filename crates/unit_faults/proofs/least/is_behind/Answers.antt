use Rattle.unit_faults.proofs.Collecting.{collects_behind}
use Rattle.unit_faults.proofs.least.is_behind.Goals as goal

pub returns-in-Some : goal.returns-in-Some
returns-in-Some c h = collects_behind c.in-Some.first c.args.fault c.args.least c.in-Some.is
    (c.comes_no_later.ensures.yes h)
