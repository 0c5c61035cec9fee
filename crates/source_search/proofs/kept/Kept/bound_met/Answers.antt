use Rattle.std.proofs.Common.{◌≡◌, Some, arith, slice_get}
use Rattle.std.proofs.lemmas.Result.{IfOk-weaker}
use Rattle.source_states.specs.States.{state_of}
use Rattle.source_search.specs.Kept.{states_of}
use Rattle.source_search.proofs.Bounded.{contains_at, few_states}
use Rattle.source_search.proofs.kept.Kept.bound_met.Goals as goal

pub returns-in-Some : goal.returns-in-Some
returns-in-Some c =
    let kept = states_of c.args.self.now in
    let here : slice_get kept c.args.place ≡ Some (state_of c.in-Some.state) = rw c.in-Some.is at c.in_ok-state.ensures in
    IfOk-weaker c.bound_at.result _ _ (λ b met p may. met p may c.args.most kept
    (contains_at kept c.args.place (state_of c.in-Some.state) here)
    (few_states c.args.self.now c.args.most (omega (arith, c.if-len-most.false, c.len.ensures)))) c.bound_at.ensures

pub returns-in-None : goal.returns-in-None
returns-in-None c = λ p may.
    few_states c.args.self.now c.args.most (omega (arith, c.if-len-most.false, c.len.ensures))
