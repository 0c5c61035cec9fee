use Rattle.std.proofs.Common.{◌++◌, Some, refl, ap, ◌∙◌, sym, subst}
use Rattle.program.specs.declared.kinds.ValueType.TheVariants.{Boolean, Integer, Process}
use Rattle.syntax.specs.View.{expression_of, statement_of, statements_in, part_in, option_name}
use Rattle.syntax.proofs.Built.{if_made, while_made, join_made}
use Rattle.types.specs.CallFaults.{statement_faults, block_faults, part_faults, recover_faults}
use Rattle.types.specs.Faults.{Gathers}
use Rattle.types.specs.StatementFaults.{typed_faults, into_faults}
use Rattle.types.proofs.Gathered.{gathers_none, gathers_both}
use Rattle.body_faults.proofs.Gathering.{gathers_next, gathers_past}
use Rattle.unit_faults.proofs.statement.+statements.Goals as goal

pub block-loop-tree-preserved : goal.block-loop-tree-preserved
block-loop-tree-preserved t c = λ s h least k. c.loop-tree.invariant s h least
    (gathers_next (λ ss. block_faults s (statements_in ss)) (λ x. statement_faults s (statement_of x)) (λ x xs. refl)
    c.args.statements.now c.loop-tree.tree-index c.tree-item.result c.loop-tree.all c.statement-all.result least
    c.loop-tree-test.true c.tree-item.is (c.statement-all.ensures s h) k)

pub block-returns : goal.block-returns
block-returns t c = λ s h. c.loop-tree.invariant s h c.loop-tree.all
    (gathers_past (λ ss. block_faults s (statements_in ss)) refl c.args.statements.now c.loop-tree.tree-index
    c.loop-tree.all c.loop-tree-test.false)

pub guarded-returns : goal.guarded-returns
guarded-returns t c = λ s h.
    gathers_both (typed_faults s Boolean (expression_of c.args.condition.now))
    (block_faults s (statements_in c.args.body.now)) c.args.least c.typed-first.result c.block.result
    (c.typed-first.ensures s h.standing) (c.block.ensures s h)

pub statement-returns-in-Some : goal.statement-returns-in-Some
statement-returns-in-Some t c = λ s h.
    let e = expression_of c.in-If.condition in
    let ss = c.in-If.then_part in
    let first = c.guarded-first.result in
    subst (λ y. Gathers (statement_faults s y) c.args.least c.block.result)
    (sym (ap statement_of c.in-If.is ∙ if_made c.in-If.place c.in-If.condition ss c.in-If.else_part))
    (gathers_both (typed_faults s Boolean e ++ block_faults s (statements_in ss.items))
    (part_faults s (part_in c.in-If.else_part)) c.args.least first c.block.result
    (subst (λ xs. Gathers (typed_faults s Boolean e ++ block_faults s (statements_in xs)) c.args.least first)
    c.deref.ensures.value (c.guarded-first.ensures s h))
    (subst (λ o. Gathers (part_faults s (part_in o)) first c.block.result) (sym c.in-Some.is)
    (subst (λ xs. Gathers (block_faults s (statements_in xs)) first c.block.result) c.deref-in-Some.ensures.value
    (c.block.ensures s h))))

pub statement-returns-in-None : goal.statement-returns-in-None
statement-returns-in-None t c = λ s h.
    let e = expression_of c.in-If.condition in
    let ss = c.in-If.then_part in
    let first = c.guarded-first.result in
    subst (λ y. Gathers (statement_faults s y) c.args.least first)
    (sym (ap statement_of c.in-If.is ∙ if_made c.in-If.place c.in-If.condition ss c.in-If.else_part))
    (gathers_both (typed_faults s Boolean e ++ block_faults s (statements_in ss.items))
    (part_faults s (part_in c.in-If.else_part)) c.args.least first first
    (subst (λ xs. Gathers (typed_faults s Boolean e ++ block_faults s (statements_in xs)) c.args.least first)
    c.deref.ensures.value (c.guarded-first.ensures s h))
    (subst (λ o. Gathers (part_faults s (part_in o)) first first) (sym c.in-None.is) (gathers_none first)))

pub statement-returns-in-Some-aborted : goal.statement-returns-in-Some-aborted
statement-returns-in-Some-aborted t c = λ s h.
    let j = c.in-Join in
    let first = c.join-first.result in
    let last = c.block-in-Some-aborted.result in
    subst (λ y. Gathers (statement_faults s y) c.args.least last)
    (sym (ap statement_of j.is ∙ join_made j.place j.process j.into j.aborted))
    (gathers_both (recover_faults s j.place ++ typed_faults s Process (expression_of j.process)
    ++ into_faults s (Some Integer) (option_name j.into)) (part_faults s (part_in j.aborted)) c.args.least first last
    (c.join-first.ensures s h.standing h.role)
    (subst (λ o. Gathers (part_faults s (part_in o)) first last) (sym c.in-Some-aborted.is)
    (subst (λ xs. Gathers (block_faults s (statements_in xs)) first last) c.deref-in-Some-aborted.ensures.value
    (c.block-in-Some-aborted.ensures s h))))

pub statement-returns-in-None-aborted : goal.statement-returns-in-None-aborted
statement-returns-in-None-aborted t c = λ s h.
    let j = c.in-Join in
    let first = c.join-first.result in
    subst (λ y. Gathers (statement_faults s y) c.args.least first)
    (sym (ap statement_of j.is ∙ join_made j.place j.process j.into j.aborted))
    (gathers_both (recover_faults s j.place ++ typed_faults s Process (expression_of j.process)
    ++ into_faults s (Some Integer) (option_name j.into)) (part_faults s (part_in j.aborted)) c.args.least first first
    (c.join-first.ensures s h.standing h.role)
    (subst (λ o. Gathers (part_faults s (part_in o)) first first) (sym c.in-None-aborted.is) (gathers_none first)))

pub statement-returns-in-While : goal.statement-returns-in-While
statement-returns-in-While t c = λ s h.
    let e = expression_of c.in-While.condition in
    subst (λ y. Gathers (statement_faults s y) c.args.least c.guarded.result)
    (sym (ap statement_of c.in-While.is ∙ while_made c.in-While.place c.in-While.condition c.in-While.body))
    (subst (λ xs. Gathers (typed_faults s Boolean e ++ block_faults s (statements_in xs)) c.args.least
    c.guarded.result) c.deref-in-While.ensures.value (c.guarded.ensures s h))

pub statement-returns-in-Assign : goal.statement-returns-in-Assign
statement-returns-in-Assign t c = λ s h.
    subst (λ y. Gathers (statement_faults s (statement_of y)) c.args.least c.assignment.result) (sym c.in-Assign.is)
    (c.assignment.ensures s h.standing)

pub statement-returns-in-Call : goal.statement-returns-in-Call
statement-returns-in-Call t c = λ s h.
    subst (λ y. Gathers (statement_faults s (statement_of y)) c.args.least c.call.result) (sym c.in-Call.is)
    (c.call.ensures s h)

pub statement-returns-in-Fork : goal.statement-returns-in-Fork
statement-returns-in-Fork t c = λ s h.
    subst (λ y. Gathers (statement_faults s (statement_of y)) c.args.least c.fork.result) (sym c.in-Fork.is)
    (c.fork.ensures s h)

pub statement-returns-in-Return : goal.statement-returns-in-Return
statement-returns-in-Return t c = λ s h.
    subst (λ y. Gathers (statement_faults s (statement_of y)) c.args.least c.returned.result) (sym c.in-Return.is)
    (c.returned.ensures s h.standing h.role h.returns)

pub statement-returns-in-Wait : goal.statement-returns-in-Wait
statement-returns-in-Wait t c = λ s h.
    subst (λ y. Gathers (statement_faults s (statement_of y)) c.args.least c.wait.result) (sym c.in-Wait.is)
    (c.wait.ensures s h.standing h.role)

pub statement-returns-in-Notify : goal.statement-returns-in-Notify
statement-returns-in-Notify t c = λ s h.
    subst (λ y. Gathers (statement_faults s (statement_of y)) c.args.least c.notify.result) (sym c.in-Notify.is)
    (c.notify.ensures s h.standing h.role)

pub statement-returns-in-Broadcast : goal.statement-returns-in-Broadcast
statement-returns-in-Broadcast t c = λ s h.
    subst (λ y. Gathers (statement_faults s (statement_of y)) c.args.least c.notify-in-Broadcast.result)
    (sym c.in-Broadcast.is)
    (c.notify-in-Broadcast.ensures s h.standing h.role)

pub statement-returns-in-Print : goal.statement-returns-in-Print
statement-returns-in-Print t c = λ s h.
    subst (λ y. Gathers (statement_faults s (statement_of y)) c.args.least c.print.result) (sym c.in-Print.is)
    (c.print.ensures s c.in-Print.place h.standing)

pub statement-returns-in-Abort : goal.statement-returns-in-Abort
statement-returns-in-Abort t c = λ s h.
    subst (λ y. Gathers (statement_faults s (statement_of y)) c.args.least c.args.least) (sym c.in-Abort.is)
    (gathers_none c.args.least)
