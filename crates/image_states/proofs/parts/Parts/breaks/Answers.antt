use Rattle.std.proofs.Common.{◌∙◌, refl, sym}
use Rattle.image_states.specs.Packed.{unpacked}
use Rattle.image_states.proofs.Found.{broken_is, ended_whole, local_whole, shared_so}
use Rattle.image_states.proofs.parts.Parts.breaks.Goals as goal

pub returns-in-Local : goal.returns-in-Local
returns-in-Local c = local_whole c.args.image.now (unpacked c.args.image.now c.args.self.now c.args.packed.now) c.args.t
    c.args.local.now (sym c.next_step.ensures ∙ c.in-Local.is)

pub returns-in-Shared : goal.returns-in-Shared
returns-in-Shared c = shared_so c.args.image.now (unpacked c.args.image.now c.args.self.now c.args.packed.now) c.args.t
    c.args.local.now c.in-Shared.request c.lies.result (sym c.next_step.ensures ∙ c.in-Shared.is)
    (c.lies.ensures (unpacked c.args.image.now c.args.self.now c.args.packed.now) refl)

pub returns-in-Broken : goal.returns-in-Broken
returns-in-Broken c = broken_is c.args.image.now (unpacked c.args.image.now c.args.self.now c.args.packed.now) c.args.t
    c.args.local.now (sym c.next_step.ensures ∙ c.in-Broken.is)

pub returns-in-Ended : goal.returns-in-Ended
returns-in-Ended c = ended_whole c.args.image.now (unpacked c.args.image.now c.args.self.now c.args.packed.now) c.args.t
    c.args.local.now (sym c.next_step.ensures ∙ c.in-Ended.is)
