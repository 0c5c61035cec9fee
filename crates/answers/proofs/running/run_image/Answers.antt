use Rattle.answers.proofs.Ordered.{ran_by_seed, ran_in_order}
use Rattle.answers.proofs.running.run_image.Goals as goal

pub returns-in-InOrder-clause-ok : goal.returns-in-InOrder-clause-ok
returns-in-InOrder-clause-ok g c =
    ran_in_order c.run_in_order.result c.args.order c.args.steps c.args.image.now c.in-InOrder.is
    c.run_in_order.ensures.ok c.run_in_order.ensures.order

pub returns-in-Seed-clause-ok : goal.returns-in-Seed-clause-ok
returns-in-Seed-clause-ok g c =
    ran_by_seed c.run_by_seed.result c.args.order c.in-Seed.strays c.in-Seed.kills c.args.steps c.in-Seed.seed
    c.args.image.now c.in-Seed.is c.run_by_seed.ensures.ok c.run_by_seed.ensures.seeded
