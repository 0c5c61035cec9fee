use Rattle.std.proofs.Common.{refl}
use Rattle.runner.specs.Seeds.{numbers_from}
use Rattle.runner.proofs.Seeding.{picked_so}
use Rattle.runner.proofs.drawing.pick.Goals as goal

pub returns-clause-drawn : goal.returns-clause-drawn
returns-clause-drawn c =
    picked_so c.args.threads.now (numbers_from c.args.generator.now) (numbers_from c.next_number.new.generator)
    c.next_number.result _ c.next_number.ensures.number c.next_number.ensures.rest c.requires.some refl
