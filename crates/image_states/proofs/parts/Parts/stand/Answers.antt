use Rattle.std.proofs.Common.{◌≡◌, Some, slice_get, subst, suc}
use Rattle.image_states.specs.Nexts.{RunsOn}
use Rattle.image_states.proofs.parts.Parts.stand.Goals as goal

pub returns-in-None-clause-full : goal.returns-in-None-clause-full
returns-in-None-clause-full c = rw c.in-None.is at c.in_ok-local_number.ensures.full

pub returns-in_ok-moved-in-Some-clause-stands : goal.returns-in_ok-moved-in-Some-clause-stands
returns-in_ok-moved-in-Some-clause-stands c =
    let there : slice_get c.local_number.new.self.locals.items c.in-Some.part ≡ Some c.run_on.new.self.here =
    rw c.in-Some.is at c.in_ok-local_number.ensures.there in
    let runs : RunsOn c.args.image.now (suc c.args.k) c.run_on.ensures.0 c.args.scratch.now.here c.run_on.new.self.here =
    subst (λ j. RunsOn c.args.image.now j c.run_on.ensures.0 c.args.scratch.now.here c.run_on.new.self.here)
    c.requires.number c.run_on.ensures.1 in
    record {
      part = c.in-Some.part;
      count = c.run_on.ensures.0;
      there = c.run_on.new.self.here;
      moved = c.in_ok-moved-in-Some.ensures;
      is = there;
      runs = runs;
    }
