use Rattle.image_states.specs.declared.next.Next.{Next as NextOf}
use Rattle.image_states.proofs.Listing.{adds_one}
use Rattle.image_states.proofs.waking.push_placed.Goals as goal

pub returns-clause-placed : goal.returns-clause-placed
returns-clause-placed c = record {
  next = record { state = c.in_ok-state.state; thread = c.args.thread; doing = c.args.doing };
  found = c.in_ok-push_next.ensures.there;
  placed = c.in_ok-state.ensures.placed;
  killed = c.in_ok-state.ensures.killed;
}

pub returns-clause-adds : goal.returns-clause-adds
returns-clause-adds c =
    let next : NextOf = record { state = c.in_ok-state.state; thread = c.args.thread; doing = c.args.doing } in
    adds_one c.args.packed.now c.args.to c.args.found.now.items c.push_next.new.found.items next
    c.in_ok-push_next.ensures.last (c.args.chosen.now, c.in_ok-state.ensures.placed)
