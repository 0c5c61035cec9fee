use Rattle.std.proofs.Common.{◌≡◌, Some, slice_get}
use Rattle.image_states.specs.Nexts.{RunsOn}
use Rattle.image_states.proofs.Growing.{prefix_none}
use Rattle.image_states.proofs.parts.Parts.add_child.Goals as goal

pub returns-in-None-clause-longer : goal.returns-in-None-clause-longer
returns-in-None-clause-longer c = prefix_none c.args.found.now.items

pub returns-in-None-clause-full : goal.returns-in-None-clause-full
returns-in-None-clause-full c = λ x. rw c.in-None.is at c.in_ok-local_number.ensures.full

pub returns-in_ok-push_more-in-Some-clause-added : goal.returns-in_ok-push_more-in-Some-clause-added
returns-in_ok-push_more-in-Some-clause-added c =
    let there : slice_get c.local_number.new.self.locals.items c.in-Some.part ≡ Some c.run_on.new.self.here =
    rw c.in-Some.is at c.in_ok-local_number.ensures.there in
    let runs : RunsOn c.args.image.now c.args.number c.run_on.ensures.0 c.args.child.now c.run_on.new.self.here =
    rw c.look_at.ensures at c.run_on.ensures.1 in
    λ none. record {
      part = c.in-Some.part;
      count = c.run_on.ensures.0;
      there = c.run_on.new.self.here;
      has = c.in_ok-push_more-in-Some.ensures.added;
      is = there;
      runs = runs;
    }
