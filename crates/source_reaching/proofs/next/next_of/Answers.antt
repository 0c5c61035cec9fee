use Rattle.std.proofs.Common.{subst}
use Rattle.program.specs.Views.{program_of}
use Rattle.meaning.specs.Runs.{IsStep}
use Rattle.meaning.specs.States.{SourceState}
use Rattle.source_states.specs.Actions.{action_of}
use Rattle.source_states.specs.States.{state_of}
use Rattle.source_reaching.proofs.Among.{stands_on}
use Rattle.source_reaching.proofs.Successors.{one_next}
use Rattle.source_reaching.proofs.next.next_of.Goals as goal

pub returns-then-not-branch-clause-next : goal.returns-then-not-branch-clause-next
returns-then-not-branch-clause-next c =
    subst (λ t. (u : SourceState) → IsStep (program_of t) (state_of c.args.state) (action_of c.args.action.now) u → ⊥)
    c.program.ensures.is (rw c.if-not-branch.true at c.in_ok-advance.ensures)

pub returns-clause-next : goal.returns-clause-next
returns-clause-next c =
    one_next (program_of c.args.checked.now.tree) (state_of c.args.state) (action_of c.args.action.now)
    (state_of c.advance.new.self)
    (subst (λ t. IsStep (program_of t) (state_of c.args.state) (action_of c.args.action.now)
    (state_of c.advance.new.self)) c.program.ensures.is (rw c.if-not-branch.false at c.in_ok-advance.ensures))

pub returns-clause-stays : goal.returns-clause-stays
returns-clause-stays c = λ t is.
    stands_on (program_of c.args.checked.now.tree) (state_of c.args.state) (action_of c.args.action.now)
    (state_of c.advance.new.self) t
    (subst (λ r. IsStep (program_of r) (state_of c.args.state) (action_of c.args.action.now)
    (state_of c.advance.new.self)) c.program.ensures.is (rw c.if-not-branch.false at c.in_ok-advance.ensures)) is
