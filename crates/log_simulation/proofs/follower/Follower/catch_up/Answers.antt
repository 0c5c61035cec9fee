use Rattle.std.proofs.Common.{refl, sym, ◌∙◌, arith}
use Rattle.std.proofs.lemmas.Bool.{false≢true}
use Rattle.log_simulation.specs.Going.{followed}
use Rattle.log_simulation.proofs.Versions.{same_followed}
use Rattle.log_simulation.proofs.CatchingUp.{begins_paying, catches_up_one, all_caught_up}
use Rattle.log_simulation.proofs.follower.Follower.catch_up.Goals as goal

pub loop-init : goal.loop-init
loop-init c = record {
  checked = refl;
  layout = refl;
  catches_up = begins_paying (followed c.args.self.now) c.args.t c.args.count c.args.self.now;
}

pub returns-then-not-branch-clause-catches_up : goal.returns-then-not-branch-clause-catches_up
returns-then-not-branch-clause-catches_up c = λ g ahead matches behind all.
    let caught_up = catches_up_one
    (followed c.args.self.now) c.args.t g ahead c.args.count c.loop.counter c.loop.self
    (c.loop.invariant.catches_up.paying g ahead matches behind all) c.loop-test.true
    (same_followed c.loop.self c.args.self.now c.loop.invariant.checked c.loop.invariant.layout)
    c.in_ok-take_internal.field-0 c.take_internal.new.self
    c.in_ok-take_internal.ensures.takes in
    absurd (false≢true (sym c.if-not-branch.true ∙ caught_up.0))

pub loop-preserved : goal.loop-preserved
loop-preserved c = record {
  checked = c.in_ok-take_internal.ensures.kept.0 ∙ c.loop.invariant.checked;
  layout = c.in_ok-take_internal.ensures.kept.1 ∙ c.loop.invariant.layout;
  catches_up = record {
    paying = λ g ahead matches behind all.
        (catches_up_one (followed c.args.self.now) c.args.t g ahead c.args.count c.loop.counter c.loop.self
        (c.loop.invariant.catches_up.paying g ahead matches behind all) c.loop-test.true
        (same_followed c.loop.self c.args.self.now c.loop.invariant.checked c.loop.invariant.layout)
        c.in_ok-take_internal.field-0 c.take_internal.new.self
        c.in_ok-take_internal.ensures.takes).1;
  };
}

pub returns-clause-catches_up : goal.returns-clause-catches_up
returns-clause-catches_up c = λ g ahead matches behind all. (
  refl,
  all_caught_up (followed c.args.self.now) c.args.t g ahead c.args.count c.loop.counter c.loop.self
      (c.loop.invariant.catches_up.paying g ahead matches behind all) (omega (arith, c.loop-test.false)),
)
