use Rattle.std.proofs.Common.{◌≡◌, ◌∙◌, ap, arith, length, true, false}
use Rattle.machine.specs.States.{ConcreteState}
use Rattle.runner.specs.Views.{log_state}
use Rattle.runner.proofs.Ordering.{begun_as, come_first, come_on, come_over}
use Rattle.runner.proofs.rounds.end_round.Goals as goal

-- no round was left open
pub returns-then-not-forked-clause-order : goal.returns-then-not-forked-clause-order
returns-then-not-forked-clause-order g c = λ start begun.
    begun_as c.args.forked false g.J.RunName.program g.J.RunName.limit start (log_state c.args.shared.now)
    c.if-not-forked.true begun

pub loop-t-init : goal.loop-t-init
loop-t-init g c = record {
  past = c.requires.past;
  few = omega arith;
  order = λ start goes. come_first g.J.RunName.program g.J.RunName.limit start (log_state c.args.shared.now) goes;
}

pub loop-t-preserved : goal.loop-t-preserved
loop-t-preserved g c =
    let v = c.loop-t.invariant in
    let e = c.in_ok-make_entry.ensures in
    record {
      past = e.past;
      few = omega (arith, c.loop-t-test.true, c.threads.ensures.within.1);
      order = λ start goes. come_on c.in_ok-make_entry.field-0 g.J.RunName.program g.J.RunName.limit start
          (log_state c.loop-t.shared) (log_state c.make_entry.new.shared) c.loop-t.t c.machine.ensures.legal
          (v.order start goes) e.entry e.none;
    }

-- behind the last thread the round is over
pub returns-clause-order : goal.returns-clause-order
returns-clause-order g c = λ start begun.
    let all : c.threads.result ≡ length (log_state c.loop-t.shared).concrete.concrete.threads =
    c.threads.ensures.value ∙ ap (λ (k : ConcreteState). length k.threads) c.machine.ensures.concrete in
    come_over g.J.RunName.program g.J.RunName.limit start (log_state c.loop-t.shared) c.loop-t.t
    (c.loop-t.invariant.order start (begun_as c.args.forked true g.J.RunName.program g.J.RunName.limit start
    (log_state c.args.shared.now) c.if-not-forked.false begun)) (omega (arith, c.loop-t-test.false, all))
