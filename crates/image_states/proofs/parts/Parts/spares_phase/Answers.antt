use Rattle.std.proofs.Common.{subst}
use Rattle.proof_image_search.specs.Searching.{Uses}
use Rattle.locals.specs.Looks.{Leaves}
use Rattle.image_states.specs.Packed.{unpacked}
use Rattle.image_states.proofs.parts.Parts.spares_phase.Goals as goal

pub returns-in-Entry : goal.returns-in-Entry
returns-in-Entry c = λ e a uses. c.spares_entry.ensures e a
    (subst (λ phase. Uses (unpacked c.args.image.now c.args.self.now c.args.packed.now) c.args.t (Leaves phase) a)
    c.in-Entry.is uses)
