use Rattle.std.proofs.Common.{◌≡◌, ◌∙◌, arith}
use Rattle.source_states.specs.States.{state_of}
use Rattle.source_search.proofs.Killed.{counted_all}
use Rattle.source_search.proofs.outside.killed_in.Goals as goal

pub returns : goal.returns
returns c =
    let end : c.loop-before.before ≡ c.made-before-end.result = omega (arith, c.loop-before-test.false, c.loop-before.auto.before-end) in
    counted_all (state_of c.args.state.now) c.loop-before.before c.loop-before.killed c.loop-before.invariant.counted
    (end ∙ c.made-before-end.ensures)
