use Rattle.std.proofs.Common.{◌∙◌, Some, ap, arith, sym}
use Rattle.schedules.specs.Failing.{fault_in}
use Rattle.schedules.proofs.Aborting.{none_or_some, same_some}
use Rattle.schedules.proofs.failing.has_faulted.Goals as goal

pub returns-then-thread-lt1-clause-other : goal.returns-then-thread-lt1-clause-other
returns-then-thread-lt1-clause-other c = λ _ h. let some = h.some in absurd (omega (arith, some, c.if-thread-lt1.true))

pub returns-then-thread-made-clause-other : goal.returns-then-thread-made-clause-other
returns-then-thread-made-clause-other c = λ _ h.
    let made = h.made in absurd (omega (arith, made, c.if-thread-made.true, c.threads-made.ensures.value))

pub returns-in-Some-clause-faulted : goal.returns-in-Some-clause-faulted
returns-in-Some-clause-faulted c = λ e. record {
  some = omega (arith, c.if-thread-lt1.false);
  made = omega (arith, c.if-thread-made.false, c.threads-made.ensures.value);
  told = ap fault_in (sym c.outcome.ensures) ∙ sym c.fault_in.ensures ∙ c.in-Some.is ∙ ap Some (c.is_same.ensures.same e);
}

pub returns-in-Some-clause-other : goal.returns-in-Some-clause-other
returns-in-Some-clause-other c = λ e h.
    c.is_same.ensures.other e
    (same_some _ _ (sym c.in-Some.is ∙ c.fault_in.ensures ∙ ap fault_in c.outcome.ensures ∙ h.told))

pub returns-in-None-clause-other : goal.returns-in-None-clause-other
returns-in-None-clause-other c = λ _ h.
    none_or_some c.args.fault c.fault_in.result c.in-None.is (c.fault_in.ensures ∙ ap fault_in c.outcome.ensures ∙ h.told)
