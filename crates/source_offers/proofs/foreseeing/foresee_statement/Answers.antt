use Rattle.std.proofs.Common.{None, ap, subst, sym}
use Rattle.program.specs.Views.{option_expression, statement_of}
use Rattle.meaning.specs.Offers.{answers, return_value, statement_offer, with_value}
use Rattle.meaning.specs.Processes.{goes_on}
use Rattle.source_offers.specs.Foreseen.{IsForeseen}
use Rattle.source_offers.proofs.foreseeing.foresee_statement.Goals as goal

pub returns-in-Notify : goal.returns-in-Notify
returns-in-Notify c = λ p v f callers e.
    (goes_on None f callers, ap (λ s. statement_offer p v f callers (statement_of s)) c.in-Notify.is)

pub returns-in-Broadcast : goal.returns-in-Broadcast
returns-in-Broadcast c = λ p v f callers e.
    (goes_on None f callers, ap (λ s. statement_offer p v f callers (statement_of s)) c.in-Broadcast.is)

pub returns-in-Return : goal.returns-in-Return
returns-in-Return c = λ p v f callers e.
    let value = return_value p v f (option_expression c.in-Return.field-0) in
    subst (IsForeseen c.foresee_answer.result)
    (sym (ap (λ s. statement_offer p v f callers (statement_of s)) c.in-Return.is))
    (subst (λ r. IsForeseen c.foresee_answer.result (with_value value f callers (λ z. answers r z callers))) (sym e)
    (c.foresee_answer.ensures value f callers))
