use Rattle.image_states.proofs.Listing.{adds_none}
use Rattle.image_states.proofs.Results.{on_ok}
use Rattle.image_states.proofs.waking.push_set.Goals as goal

pub returns-then-chosen-size-clause-placed : goal.returns-then-chosen-size-clause-placed
returns-then-chosen-size-clause-placed c = λ same. absurd (c.if-chosen-size.true same)

pub returns-then-chosen-size-clause-adds : goal.returns-then-chosen-size-clause-adds
returns-then-chosen-size-clause-adds c = adds_none c.args.packed.now c.args.to c.args.found.now.items

pub returns-clause-placed : goal.returns-clause-placed
returns-clause-placed c = on_ok c.push_placed.result _ _ c.push_placed.ensures.placed (λ has same. has)
