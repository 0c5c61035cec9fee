use Rattle.std.proofs.Common.{subst}
use Rattle.locals.specs.Views.{Reaches, running}
use Rattle.locals.proofs.activation.Activation.run.Goals as goal

-- each step goes on from where those before it have led

pub loop-count-preserved : goal.loop-count-preserved
loop-count-preserved c =
    let led = c.advance-reached in
    let start = running c.args.self.now in
    record {
      reached = subst (λ e. Reaches e led.new.fault c.args.image.now c.args.t start led.result.count led.result.place led.new.self)
          c.in-Open.is (led.ensures.reached start c.loop-count.invariant.reached);
      within = led.ensures.within.1;
    }

pub returns-in-Failure-clause-reached : goal.returns-in-Failure-clause-reached
returns-in-Failure-clause-reached c =
    let led = c.advance-reached in
    let start = running c.args.self.now in
    subst (λ e. Reaches e led.new.fault c.args.image.now c.args.t start led.result.count led.result.place led.new.self)
    c.in-Failure.is (led.ensures.reached start c.loop-count.invariant.reached)

pub returns-in-Rest-clause-reached : goal.returns-in-Rest-clause-reached
returns-in-Rest-clause-reached c =
    let led = c.advance-reached in
    let start = running c.args.self.now in
    (subst (λ e. Reaches e led.new.fault c.args.image.now c.args.t start led.result.count led.result.place led.new.self)
    c.in-Rest.is (led.ensures.reached start c.loop-count.invariant.reached)).0

pub returns-in-Rest-clause-whole : goal.returns-in-Rest-clause-whole
returns-in-Rest-clause-whole c below =
    let led = c.advance-reached in
    let start = running c.args.self.now in
    (subst (λ e. Reaches e led.new.fault c.args.image.now c.args.t start led.result.count led.result.place led.new.self)
    c.in-Rest.is (led.ensures.reached start c.loop-count.invariant.reached)).1
