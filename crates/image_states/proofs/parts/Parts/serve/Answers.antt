use Rattle.std.proofs.Common.{◌∙◌, ap, sym}
use Rattle.std.specs.Prelude.{option_map}
use Rattle.words.specs.declared.mem.Addr.{Addr}
use Rattle.locals.specs.declared.request.NextStep.TheVariants as step
use Rattle.image_states.proofs.parts.Parts.serve.Goals as goal

pub access-requires-clause-access : goal.access-requires-clause-access
access-requires-clause-access c =
    sym c.access_of.ensures ∙ ap (option_map (λ (a : Addr). a.0)) c.in-Some.is

pub print-requires-clause-asks : goal.print-requires-clause-asks
print-requires-clause-asks c = c.requires.asks ∙ ap (λ q. step.Shared q) c.in-Print.is

pub wait-requires-clause-asks : goal.wait-requires-clause-asks
wait-requires-clause-asks c = c.requires.asks ∙ ap (λ q. step.Shared q) c.in-Wait.is

pub wake-requires-clause-asks : goal.wake-requires-clause-asks
wake-requires-clause-asks c = c.requires.asks ∙ ap (λ q. step.Shared q) c.in-Wake.is

pub requeue-requires-clause-asks : goal.requeue-requires-clause-asks
requeue-requires-clause-asks c = c.requires.asks ∙ ap (λ q. step.Shared q) c.in-Requeue.is

pub end-requires-clause-asks : goal.end-requires-clause-asks
end-requires-clause-asks c = c.requires.asks ∙ ap (λ q. step.Shared q) c.in-Return.is

pub end_with-requires-clause-asks : goal.end_with-requires-clause-asks
end_with-requires-clause-asks c = c.requires.asks ∙ ap (λ q. step.Shared q) c.in-ReturnValue.is

pub die-requires-clause-asks : goal.die-requires-clause-asks
die-requires-clause-asks c = c.requires.asks ∙ ap (λ q. step.Shared q) c.in-Fault.is
