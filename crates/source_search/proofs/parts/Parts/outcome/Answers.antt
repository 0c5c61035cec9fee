use Rattle.std.proofs.lemmas.Option.{IfSome_then}
use Rattle.std.proofs.lemmas.Result.{IfOk-weaker}
use Rattle.program.specs.Views.{program_of}
use Rattle.source_states.specs.States.{state_of}
use Rattle.source_search.proofs.Remembered.{copied_outcome, plain_outcome}
use Rattle.source_search.proofs.parts.Parts.outcome.Goals as goal

pub returns-then-made-before-clause-numbered : goal.returns-then-made-before-clause-numbered
returns-then-made-before-clause-numbered c =
    IfOk-weaker c.number.result _ _ (λ o h. IfSome_then o h (λ x is.
    plain_outcome (program_of c.args.checked.now.tree) c.number.new.self c.args.spot.process
    (state_of c.args.end.now.state) x is)) c.number.ensures.numbered

pub returns-clause-numbered : goal.returns-clause-numbered
returns-clause-numbered c =
    IfOk-weaker c.outcome_behind.result _ _ (λ o h. IfSome_then o h (λ x is.
    copied_outcome (program_of c.args.checked.now.tree) c.outcome_behind.new.self c.args.spot.process
    (state_of c.args.end.now.state) (state_of c.in_ok-state.state) (state_of c.outcome_behind.new.state) x
    c.in_ok-state.ensures is.0 is.1)) c.outcome_behind.ensures.numbered
