use Rattle.answers.proofs.Ordered.{ran_alone_by_seed, ran_alone_in_order}
use Rattle.answers.proofs.explained_run.run_alone.Goals as goal

pub returns-in-InOrder-clause-order : goal.returns-in-InOrder-clause-order
returns-in-InOrder-clause-order c =
    ran_alone_in_order c.run_in_order.result c.args.order c.args.limit c.args.image.now c.in-InOrder.is
    c.run_in_order.ensures.ok c.run_in_order.ensures.order

pub returns-in-Seed-clause-order : goal.returns-in-Seed-clause-order
returns-in-Seed-clause-order c =
    ran_alone_by_seed c.run_by_seed.result c.args.order c.in-Seed.strays c.in-Seed.kills c.args.limit c.in-Seed.seed
    c.args.image.now c.in-Seed.is c.run_by_seed.ensures.ok c.run_by_seed.ensures.seeded
