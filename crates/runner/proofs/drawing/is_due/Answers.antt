use Rattle.std.proofs.Common.{◌∙◌, ℕ, Bool, Option, Some, ◌%◌, ◌==◌, ap, sym}
use Rattle.rand_core.specs.Stream.{Stream}
use Rattle.runner.specs.Seeds.{numbers_from, stray_due}
use Rattle.runner.proofs.Seeding.{due_some}
use Rattle.runner.proofs.drawing.is_due.Goals as goal

pub returns-then-n-eq0-clause-due : goal.returns-then-n-eq0-clause-due
returns-then-n-eq0-clause-due c =
    sym (ap (λ (o : Option ℕ). (stray_due o (numbers_from c.args.generator.now)).0) (c.in-Some.is ∙ ap Some c.if-n-eq0.true))

pub returns-then-n-eq0-clause-rest : goal.returns-then-n-eq0-clause-rest
returns-then-n-eq0-clause-rest c =
    sym (ap (λ (o : Option ℕ). (stray_due o (numbers_from c.args.generator.now)).1) (c.in-Some.is ∙ ap Some c.if-n-eq0.true))

pub returns-clause-due : goal.returns-clause-due
returns-clause-due c =
    let before = numbers_from c.args.generator.now in
    (λ i. c.next_number.ensures.number i % c.from.ensures i == 0)
    ∙ sym (ap (λ (q : Bool × Stream). q.0) (due_some c.in-Some.n before c.if-n-eq0.false))
    ∙ sym (ap (λ (o : Option ℕ). (stray_due o before).0) c.in-Some.is)

pub returns-clause-rest : goal.returns-clause-rest
returns-clause-rest c =
    let before = numbers_from c.args.generator.now in
    c.next_number.ensures.rest
    ∙ sym (ap (λ (q : Bool × Stream). q.1) (due_some c.in-Some.n before c.if-n-eq0.false))
    ∙ sym (ap (λ (o : Option ℕ). (stray_due o before).1) c.in-Some.is)
