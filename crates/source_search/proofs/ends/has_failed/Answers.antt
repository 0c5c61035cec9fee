use Rattle.std.proofs.Common.{ℕ, All, MatchBool, subst}
use Rattle.source_states.specs.States.{state_of}
use Rattle.source_search.specs.Found.{FailedAt}
use Rattle.source_search.proofs.Endings.{failed_decided}
use Rattle.source_search.proofs.ends.has_failed.Goals as goal

pub returns : goal.returns
returns c =
    failed_decided (state_of c.args.state.now) c.in_ok-all.all.items c.in_ok-all.ensures.all c.args.outside
    c.some_failed-failed.result
    (subst (λ ns. MatchBool c.some_failed-failed.result
    ((q : ℕ) × FailedAt c.args.outside (state_of c.args.state.now) q)
    (All (λ q. FailedAt c.args.outside (state_of c.args.state.now) q → ⊥) ns))
    c.as_slice.ensures.value c.some_failed-failed.ensures)
