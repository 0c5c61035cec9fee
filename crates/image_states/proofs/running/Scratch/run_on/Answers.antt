use Rattle.std.proofs.Common.{◌≡◌, ◌<◌, Some, arith, inl, inr, refl, subst}
use Rattle.locals.specs.Steps.{local_after}
use Rattle.image_states.proofs.Covering.{runs_before}
use Rattle.image_states.proofs.running.Scratch.run_on.Goals as goal

pub returns-then-is_dying : goal.returns-then-is_dying
returns-then-is_dying c = (0, record { goes = refl; lives = inl refl })

pub returns-then-dies : goal.returns-then-dies
returns-then-dies c =
    let p = c.args.image.now in
    let t = c.args.t in
    let here = c.args.self.now.here in
    let all : local_after p t c.run-count.result here ≡ Some c.run-count.new.self =
    subst (λ z. local_after p t c.run-count.result z ≡ Some c.run-count.new.self) c.copy_from.ensures
    c.run-count.ensures.reached in
    let less : c.run.result < c.run-count.result = omega (arith, c.run.ensures.within, c.if-count-eq0.false) in (
      c.run.result,
      record {
        goes = c.run.ensures.reached;
        lives = inr (runs_before p t c.run-count.result c.run.result here c.run.new.self c.run-count.new.self all less
            c.run.ensures.reached);
      },
    )
