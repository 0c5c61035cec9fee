use Rattle.std.proofs.Common.{All, subst}
use Rattle.std.proofs.lemmas.List.{take_all}
use Rattle.std.proofs.lemmas.List.Elements.{All-more}
use Rattle.source_states.specs.States.{state_of}
use Rattle.action_text.specs.Following.{GoesOn}
use Rattle.action_text.proofs.ends.some_goes_on.Goals as goal

pub loop-number-preserved : goal.loop-number-preserved
loop-number-preserved c =
    All-more (λ q. GoesOn (state_of c.args.state.now) q → ⊥) c.args.numbers.now c.loop-number.number-index 0
    c.loop-number-test.true c.loop-number.invariant (rw c.if-goes_on_at.false at c.goes_on_at.ensures)

pub returns : goal.returns
returns c =
    subst (All (λ q. GoesOn (state_of c.args.state.now) q → ⊥))
    (take_all c.loop-number.number-index c.args.numbers.now c.loop-number-test.false) c.loop-number.invariant
