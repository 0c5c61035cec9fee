use Rattle.std.proofs.Common.{sym, subst, length}
use Rattle.futexcalls.specs.Answers.{word_of}
use Rattle.image_states.specs.Exits.{IsPlanOf}
use Rattle.image_states.proofs.exits.exit_plan.Goals as goal

pub returns-in-Entry-clause-plan : goal.returns-in-Entry-clause-plan
returns-in-Entry-clause-plan c =
    let words = c.args.mem.now in
    subst (λ phase. IsPlanOf c.args.rule (length words) c.args.t phase (word_of words) c.entry_plan.result)
    (sym c.in-Entry.is) (c.entry_plan.ensures.plan c.args.rule)

pub returns-in-Pending-clause-plan : goal.returns-in-Pending-clause-plan
returns-in-Pending-clause-plan c =
    let words = c.args.mem.now in
    subst (λ phase. IsPlanOf c.args.rule (length words) c.args.t phase (word_of words) c.pending_plan.result)
    (sym c.in-Pending.is) c.pending_plan.ensures.plan
