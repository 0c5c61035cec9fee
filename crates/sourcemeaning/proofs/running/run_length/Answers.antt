use Rattle.std.proofs.Common.{◌∙◌, arith, map, subst, sym}
use Rattle.std.proofs.Math.Seq.{take-length}
use Rattle.std.proofs.lemmas.List.{take_all}
use Rattle.program.specs.Views.{program_of}
use Rattle.meaning.specs.Runs.{IsRun, IsStep}
use Rattle.meaning.specs.States.{SourceState}
use Rattle.source_states.specs.Actions.{action_of}
use Rattle.source_states.specs.States.{state_of}
use Rattle.sourcemeaning.proofs.Ways.{ends_here, goes_on}
use Rattle.sourcemeaning.proofs.running.run_length.Goals as goal

pub returns-then-not-branch : goal.returns-then-not-branch
returns-then-not-branch c = record {
  few = omega (arith, c.loop-i-test.true);
  end = state_of c.loop-i.state;
  run = c.loop-i.invariant;
  ends = λ more. ends_here (program_of c.args.checked.now.tree) c.args.actions.now c.loop-i.i
      c.index-actions-i.result (state_of c.loop-i.state) c.loop-i-test.true c.index-actions-i.is c.loop-i.invariant
      (subst (λ t. (u : SourceState) → IsStep (program_of t) (state_of c.loop-i.state)
      (action_of c.index-actions-i.result) u → ⊥)
      c.program.ensures.is (rw c.if-not-branch.true at c.in_ok-advance.ensures));
}

pub loop-i-preserved : goal.loop-i-preserved
loop-i-preserved c =
    goes_on (program_of c.args.checked.now.tree) c.args.actions.now c.loop-i.i c.index-actions-i.result
    (state_of c.loop-i.state) (state_of c.advance.new.self) c.loop-i-test.true c.index-actions-i.is c.loop-i.invariant
    (subst (λ t. IsStep (program_of t) (state_of c.loop-i.state) (action_of c.index-actions-i.result)
    (state_of c.advance.new.self))
    c.program.ensures.is (rw c.if-not-branch.false at c.in_ok-advance.ensures))

pub returns : goal.returns
returns c = record {
  few = omega arith;
  end = state_of c.loop-i.state;
  run = subst (λ xs. IsRun (program_of c.args.checked.now.tree) (map action_of xs) (state_of c.loop-i.state))
      (take_all c.loop-i.i c.args.actions.now c.loop-i-test.false ∙ sym (take-length c.args.actions.now))
      c.loop-i.invariant;
  ends = λ more. absurd (omega (arith, more));
}
