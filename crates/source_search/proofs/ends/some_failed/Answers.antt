use Rattle.std.proofs.Common.{All, subst}
use Rattle.std.proofs.lemmas.List.{take_all}
use Rattle.std.proofs.lemmas.List.Elements.{All-more}
use Rattle.source_states.specs.States.{state_of}
use Rattle.source_search.specs.Found.{FailedAt}
use Rattle.source_search.proofs.ends.some_failed.Goals as goal

pub loop-number-preserved : goal.loop-number-preserved
loop-number-preserved c =
    All-more (λ q. FailedAt c.args.outside (state_of c.args.state.now) q → ⊥) c.args.numbers.now c.loop-number.number-index 0
    c.loop-number-test.true c.loop-number.invariant (rw c.if-has_failed_at.false at c.has_failed_at.ensures)

pub returns : goal.returns
returns c =
    subst (All (λ q. FailedAt c.args.outside (state_of c.args.state.now) q → ⊥))
    (take_all c.loop-number.number-index c.args.numbers.now c.loop-number-test.false) c.loop-number.invariant
