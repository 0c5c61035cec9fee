use Rattle.image_search.specs.Kept.{HasKeyAt}
use Rattle.image_search.proofs.kept.KeptStates.has_flagged.Goals as goal

pub returns-in-Some : goal.returns-in-Some
returns-in-Some c = λ e.
    let at : HasKeyAt c.args.self.now.states.items c.in-Some.place c.args.packed.now = rw c.in-Some.is at c.place_of.ensures in
    record {
      place = c.in-Some.place;
      state = at.0;
      flagged = c.is_flagged.ensures.is e;
      here = at.1;
      same = at.2;
    }
