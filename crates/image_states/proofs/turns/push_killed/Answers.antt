use Rattle.std.proofs.Common.{refl}
use Rattle.image_states.specs.declared.next.Doing.TheVariants as doing
use Rattle.image_states.proofs.turns.push_killed.Goals as goal

pub returns-clause-killed : goal.returns-clause-killed
returns-clause-killed c =
    let placed = c.in_ok-state.ensures.placed in
    record {
      next = record {
        state = record c.in_ok-state.state { killed = c.args.killed };
        thread = c.args.t;
        doing = doing.Kill;
      };
      found = c.in_ok-push_next.ensures.there;
      placed = record { memory = placed.memory; parts = placed.parts; places = placed.places; count = placed.count };
      killed = refl;
    }
