use Rattle.std.proofs.Common.{◌∙◌, sym}
use Rattle.image_states.specs.Packed.{unpacked}
use Rattle.image_states.proofs.Sparing.{broken_uses, ended_uses, exit_uses, fork_uses, local_uses, request_uses}
use Rattle.image_states.proofs.parts.Parts.spares_step.Goals as goal

pub returns-in-Local : goal.returns-in-Local
returns-in-Local c = λ e a uses. absurd (local_uses c.args.image.now
    (unpacked c.args.image.now c.args.self.now c.args.packed.now) c.args.t c.args.local.now
    (sym c.next_step.ensures ∙ c.in-Local.is) a uses)

pub returns-in-Shared : goal.returns-in-Shared
returns-in-Shared c = λ e a uses. c.spares_request.ensures e a (request_uses c.args.image.now
    (unpacked c.args.image.now c.args.self.now c.args.packed.now) c.args.t c.args.local.now c.in-Shared.request
    (sym c.next_step.ensures ∙ c.in-Shared.is) a uses)

pub returns-in-Fork : goal.returns-in-Fork
returns-in-Fork c = λ e a uses. absurd (fork_uses c.args.image.now
    (unpacked c.args.image.now c.args.self.now c.args.packed.now) c.args.t c.args.local.now _ _ _
    (sym c.next_step.ensures ∙ c.in-Fork.is) a uses)

pub returns-in-Exit : goal.returns-in-Exit
returns-in-Exit c = λ e a uses. c.spares_phase.ensures e a (exit_uses c.args.image.now
    (unpacked c.args.image.now c.args.self.now c.args.packed.now) c.args.t c.args.local.now c.in-Exit.phase
    (sym c.next_step.ensures ∙ c.in-Exit.is) a uses)

pub returns-in-Broken : goal.returns-in-Broken
returns-in-Broken c = λ e a uses. absurd (broken_uses c.args.image.now
    (unpacked c.args.image.now c.args.self.now c.args.packed.now) c.args.t c.args.local.now
    (sym c.next_step.ensures ∙ c.in-Broken.is) a uses)

pub returns-in-Ended : goal.returns-in-Ended
returns-in-Ended c = λ e a uses. absurd (ended_uses c.args.image.now
    (unpacked c.args.image.now c.args.self.now c.args.packed.now) c.args.t c.args.local.now
    (sym c.next_step.ensures ∙ c.in-Ended.is) a uses)
