use Rattle.std.proofs.Common.{◌∙◌, sym}
use Rattle.image_states.proofs.Phases.{exits_told}
use Rattle.image_states.proofs.running.Scratch.look_at_thread.Goals as goal

pub returns-in-Exit : goal.returns-in-Exit
returns-in-Exit c =
    c.enter_phase.ensures ∙ sym (exits_told c.args.image.now c.args.t c.args.local.now c.in-Exit.phase
    (sym c.next_step.ensures ∙ c.in-Exit.is))
