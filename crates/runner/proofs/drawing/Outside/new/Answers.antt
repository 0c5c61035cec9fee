use Rattle.runner.specs.Seeds.{numbers_from}
use Rattle.runner.proofs.Seeding.{begun_none, begun_some}
use Rattle.runner.proofs.drawing.Outside.new.Goals as goal

pub returns-then-kills-eq0-clause-begun : goal.returns-then-kills-eq0-clause-begun
returns-then-kills-eq0-clause-begun c =
    begun_none c.args.strays c.args.kills (numbers_from c.args.generator.now) c.if-kills-eq0.true

pub returns-clause-begun : goal.returns-clause-begun
returns-clause-begun c =
    begun_some c.args.strays c.args.kills c.next_number.result (numbers_from c.args.generator.now)
    (numbers_from c.next_number.new.generator) c.if-kills-eq0.false c.next_number.ensures.number c.next_number.ensures.rest
