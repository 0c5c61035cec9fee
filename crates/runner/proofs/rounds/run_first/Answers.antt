use Rattle.std.proofs.Common.{◌≡◌, ◌∙◌, ap, arith, inl, length, refl}
use Rattle.std.proofs.Math.Dec.{ltb}
use Rattle.std.proofs.lemmas.Bool.{ltb-false, ltb-true}
use Rattle.machine.specs.States.{ConcreteState}
use Rattle.runner.specs.Views.{log_state}
use Rattle.runner.proofs.Ordering.{begun_alone, goes_none}
use Rattle.runner.proofs.rounds.run_first.Goals as goal

-- other threads are there already
pub returns-then-threads-gt1-clause-order : goal.returns-then-threads-gt1-clause-order
returns-then-threads-gt1-clause-order g c =
    (0, goes_none g.J.RunName.program g.J.RunName.limit c.args.shared.now.log, inl refl)

pub returns-clause-order : goal.returns-clause-order
returns-clause-order g c =
    let before : c.threads.result ≡ length (log_state c.args.shared.now).concrete.concrete.threads =
    c.threads.ensures.value ∙ ap (λ (k : ConcreteState). length k.threads) c.machine.ensures.concrete in
    let now : c.threads-2.result ≡ length (log_state c.run_alone.new.shared).concrete.concrete.threads =
    c.threads-2.ensures.value ∙ ap (λ (k : ConcreteState). length k.threads) c.machine-2.ensures.concrete in
    begun_alone g.J.RunName.program g.J.RunName.limit (log_state c.args.shared.now) (log_state c.run_alone.new.shared)
    (ltb 1 c.threads-2.result) (λ is. omega (arith, ltb-true 1 c.threads-2.result is, now))
    (λ is. omega (arith, ltb-false 1 c.threads-2.result is, now)) (omega (arith, c.if-threads-gt1.false, before))
    c.in_ok-run_alone.ensures.order
