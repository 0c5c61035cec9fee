use Rattle.image_states.specs.Nexts.{IsBase}
use Rattle.image_states.proofs.Growing.{more_grown}
use Rattle.image_states.proofs.Stepped.{base_pushed}
use Rattle.image_states.proofs.parts.Parts.push_stand.Goals as goal

pub returns-in-None-clause-more : goal.returns-in-None-clause-more
returns-in-None-clause-more c =
    more_grown c.args.self.now c.stand.new.self c.args.found.now.items c.in_ok-stand.ensures.grown

pub returns-in_ok-push_next-in-Some-clause-reaches : goal.returns-in_ok-push_next-in-Some-clause-reaches
returns-in_ok-push_next-in-Some-clause-reaches c =
    let base : IsBase c.args.image.now c.stand.new.self c.args.packed.now c.args.k c.args.memory c.args.scratch.now.here c.in-Some.state =
    rw c.in-Some.is at c.in_ok-stand.ensures.stands in
    λ none. base_pushed c.args.image.now c.args.self.now c.stand.new.self c.args.packed.now c.in-Some.state c.args.k
    c.args.t c.args.memory c.args.scratch.now.here c.push_next.new.found.items c.requires.number
    c.in_ok-stand.ensures.grown c.requires.within c.requires.memory base
    c.in_ok-push_next-in-Some.ensures.there

pub returns-in-None-clause-why : goal.returns-in-None-clause-why
returns-in-None-clause-why c = rw c.in-None.is at c.in_ok-stand.ensures.full
