use Rattle.std.proofs.Common.{◌≡◌, ap, sym, ◌∙◌, subst}
use Rattle.std.specs.Prelude.{IfOk}
use Rattle.program.specs.Trees.{Statement, If, While, Join, Then, Done}
use Rattle.program.specs.Views.{block_in, expression_of, program_of, statement_of}
use Rattle.meaning.specs.Offers.{statement_offer}
use Rattle.source_offers.specs.Frames.{callers_of, frame_of}
use Rattle.source_offers.specs.Offered.{offer_with}
use Rattle.source_offers.specs.Stores.{variables_of}
use Rattle.source_offers.proofs.Said.{if_said, while_said, join_said}
use Rattle.source_offers.proofs.next.statement.Goals as goal

pub repeat_while-requires : goal.repeat_while-requires
repeat_while-requires c =
    c.requires
    ∙ ap (λ s. Then s Done)
    (ap statement_of c.in-While.is ∙ while_said c.in-While.condition c.in-While.body
    ∙ ap (λ ss. While (expression_of c.in-While.condition) (block_in ss)) (sym c.as_slice-body.ensures.value))

pub returns-in-If : goal.returns-in-If
returns-in-If c =
    subst (λ (s : Statement). IfOk c.branch-alloc.result (λ o. offer_with o c.branch-alloc.new.process
    ≡ statement_offer (program_of c.args.program.now) (variables_of c.args.variables.now)
    (frame_of c.args.process.now.frame) (callers_of c.args.process.now.callers.items) s))
    ((λ i. If (expression_of c.in-If.condition) (block_in (c.as_slice-then_part.ensures.value i))
    (c.part_slice-else_part.ensures i))
    ∙ sym (if_said c.in-If.condition c.in-If.then_part c.in-If.else_part) ∙ sym (ap statement_of c.in-If.is))
    c.branch-alloc.ensures

pub returns-in-While : goal.returns-in-While
returns-in-While c =
    subst (λ (s : Statement). IfOk c.repeat_while.result (λ o. offer_with o c.repeat_while.new.process
    ≡ statement_offer (program_of c.args.program.now) (variables_of c.args.variables.now)
    (frame_of c.args.process.now.frame) (callers_of c.args.process.now.callers.items) s))
    (ap (λ ss. While (expression_of c.in-While.condition) (block_in ss)) c.as_slice-body.ensures.value
    ∙ sym (while_said c.in-While.condition c.in-While.body) ∙ sym (ap statement_of c.in-While.is))
    c.repeat_while.ensures

pub returns-in-Join : goal.returns-in-Join
returns-in-Join c =
    subst (λ (s : Statement). IfOk c.join.result (λ o. offer_with o c.join.new.process
    ≡ statement_offer (program_of c.args.program.now) (variables_of c.args.variables.now)
    (frame_of c.args.process.now.frame) (callers_of c.args.process.now.callers.items) s))
    (ap (Join (expression_of c.in-Join.handle) c.in-Join.into) c.part_slice-aborted.ensures
    ∙ sym (join_said c.in-Join.handle c.in-Join.into c.in-Join.aborted) ∙ sym (ap statement_of c.in-Join.is))
    c.join.ensures

pub returns-in-Wait : goal.returns-in-Wait
returns-in-Wait c =
    c.wait.ensures (program_of c.args.program.now) (variables_of c.args.variables.now)
    ∙ ap (statement_offer (program_of c.args.program.now) (variables_of c.args.variables.now)
    (frame_of c.args.process.now.frame) (callers_of c.args.process.now.callers.items))
    (sym (ap statement_of c.in-Wait.is))

pub returns-in-Notify : goal.returns-in-Notify
returns-in-Notify c =
    c.notify.ensures (program_of c.args.program.now) (variables_of c.args.variables.now)
    ∙ ap (statement_offer (program_of c.args.program.now) (variables_of c.args.variables.now)
    (frame_of c.args.process.now.frame) (callers_of c.args.process.now.callers.items))
    (sym (ap statement_of c.in-Notify.is))

pub returns-in-Broadcast : goal.returns-in-Broadcast
returns-in-Broadcast c =
    c.broadcast.ensures (program_of c.args.program.now) (variables_of c.args.variables.now)
    ∙ ap (statement_offer (program_of c.args.program.now) (variables_of c.args.variables.now)
    (frame_of c.args.process.now.frame) (callers_of c.args.process.now.callers.items))
    (sym (ap statement_of c.in-Broadcast.is))
