use Rattle.std.proofs.Common.{◌+◌, ◌<◌, ◌≤◌, ℕ, List, arith}
use Rattle.words.specs.declared.outcome.Fault.TheVariants.{ProcessTableFull}
use Rattle.meaning.specs.Labels.{Action, Fails, Fork}
use Rattle.meaning.specs.Offers.{MakesOne}
use Rattle.meaning.specs.Processes.{Process}
use Rattle.source_states.specs.States.{state_of}
use Rattle.source_reaching.specs.Choices.{AllTakeUp}
use Rattle.source_reaching.proofs.Tried.{all_tried, full_named, makes_named, one_tried}
use Rattle.source_reaching.proofs.own.forks.Goals as goal

pub returns-then-made-most : goal.returns-then-made-most
returns-then-made-most c =
    let t = (state_of c.args.state.now).table in
    let full : t.most ≤ t.made = omega (arith, c.if-made-most.true, c.made-made.ensures, c.most.ensures) in
    all_tried c.one.result c.args.process (Fails ProcessTableFull)
    (λ (actions : List Action). (child : Process) (after : ℕ → Process) (refused : Process)
    → AllTakeUp c.args.process (MakesOne child after refused) t actions)
    (λ actions is child after refused. one_tried c.args.process (MakesOne child after refused) t (Fails ProcessTableFull)
    actions is (full_named c.args.process child after refused t full)) c.one.ensures

pub returns : goal.returns
returns c =
    let t = (state_of c.args.state.now).table in
    let room : t.made < t.most = omega (arith, c.if-made-most.false, c.made-made.ensures, c.most.ensures) in
    all_tried c.one-2.result c.args.process (Fork (t.made + 1))
    (λ (actions : List Action). (child : Process) (after : ℕ → Process) (refused : Process)
    → AllTakeUp c.args.process (MakesOne child after refused) t actions)
    (λ actions is child after refused. one_tried c.args.process (MakesOne child after refused) t (Fork (t.made + 1))
    actions is (makes_named c.args.process child after refused t room)) (rw c.made-made.ensures at c.one-2.ensures)
