-- A request is refused for what the code tells of it.
use Rattle.std.proofs.Common.{ap, sym, ◌∙◌, cond, None, Some}
use Rattle.machine.specs.declared.event.StepFault.TheVariants.{Broken}
use Rattle.machine.specs.Views.{common}
use Rattle.machine.proofs.Steps.{refused_so}
use Rattle.machine.proofs.common.Common.refusal.Goals as goal

pub returns-else-can_serve : goal.returns-else-can_serve
returns-else-can_serve c = λ rule l is.
    sym (refused_so _ c.args.made c.args.t (common c.args.self.now) l c.in-Shared.request (sym is ∙ c.in-Shared.is)
    ∙ c.can_serve.ensures c.args.made c.args.t ∙ ap (λ b. cond b None (Some Broken)) c.if-can_serve.false)

pub returns-then-can_serve : goal.returns-then-can_serve
returns-then-can_serve c = λ rule l is.
    sym (refused_so _ c.args.made c.args.t (common c.args.self.now) l c.in-Shared.request (sym is ∙ c.in-Shared.is)
    ∙ c.can_serve.ensures c.args.made c.args.t ∙ ap (λ b. cond b None (Some Broken)) c.if-can_serve.true)
