use Rattle.std.proofs.Common.{suc}
use Rattle.std.proofs.lemmas.Result.{on_ok_weaker}
use Rattle.words.specs.Limits.{most_threads}
use Rattle.runner.specs.Views.{log_state}
use Rattle.runner.proofs.Passing.{none_past}
use Rattle.runner.proofs.rounds.run_rounds.Goals as goal

-- nobody was refused yet, and nobody waits
pub end_round-requires-clause-past : goal.end_round-requires-clause-past
end_round-requires-clause-past g c = λ lifetimes within.
    none_past g.J.RunName.program g.J.RunName.limit (suc most_threads) (log_state c.run_first.new.shared)

pub take_turns-requires-clause-waits : goal.take_turns-requires-clause-waits
take_turns-requires-clause-waits g c = λ lifetimes within.
    c.new-waiting.ensures g.J.RunName.program (log_state c.end_round.new.shared).concrete

pub returns-clause-order : goal.returns-clause-order
returns-clause-order g c =
    let start = c.args.shared.now.log in
    on_ok_weaker c.take_turns.result
    (λ on. on start (c.in_ok-end_round.ensures.order start c.in_ok-forked.ensures.order)) c.take_turns.ensures.order
