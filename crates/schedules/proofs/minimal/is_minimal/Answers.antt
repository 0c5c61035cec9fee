use Rattle.std.proofs.Common.{◌∙◌, List, arith, below_more, subst, sym}
use Rattle.runner.specs.declared.schedule.Turn.{Turn}
use Rattle.schedules.specs.Failing.{FailsOn}
use Rattle.schedules.specs.Minimal.{without}
use Rattle.schedules.proofs.minimal.is_minimal.Goals as goal

pub loop-place-init : goal.loop-place-init
loop-place-init c = λ k less fails. absurd (omega (arith, less))

pub loop-place-preserved : goal.loop-place-preserved
loop-place-preserved c =
    let l = c.loop-place in
    let same = sym (c.as_slice.ensures.value ∙ c.in_ok-rest.ensures) in
    below_more (λ k. FailsOn c.args.image.now (without k c.args.schedule.now) c.args.failure → ⊥) l.place l.invariant
    (λ fails. c.in_ok-fails.ensures c.if-fails.false
    (subst (λ (ts : List Turn). FailsOn c.args.image.now ts c.args.failure) same fails))

pub returns : goal.returns
returns c = λ _ k less. c.loop-place.invariant k (omega (arith, less, c.loop-place-test.false))
