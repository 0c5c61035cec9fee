use Rattle.std.proofs.Common.{◌≡◌, None, subst}
use Rattle.std.specs.Prelude.{IfOk}
use Rattle.image_states.specs.Nexts.{ReachesAt}
use Rattle.image_states.specs.Packed.{asleep_at, words_in}
use Rattle.image_states.proofs.parts.Parts.push_end.Goals as goal

pub returns-clause-reaches : goal.returns-clause-reaches
returns-clause-reaches c =
    subst (λ z. IfOk c.push_leaving.result (λ o. o ≡ None
    → ReachesAt c.args.image.now c.push_leaving.new.self c.args.packed.now c.push_leaving.new.found.items c.args.t
    (words_in c.push_leaving.new.self.memories.items c.args.memory) (asleep_at c.args.packed.now.places.items) z))
    c.go_on.ensures c.push_leaving.ensures.reaches
