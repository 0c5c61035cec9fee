use Rattle.std.proofs.Common.{◌≡◌, ◌∙◌, Some, ap, inl, refl, slice_get}
use Rattle.words.specs.declared.outcome.Cause.TheVariants.{Killed as Killed'}
use Rattle.locals.specs.Threads.{Dies}
use Rattle.image_states.proofs.parts.Parts.stand_killed.Goals as goal

pub returns-in-None-clause-full : goal.returns-in-None-clause-full
returns-in-None-clause-full c = rw c.in-None.is at c.in_ok-local_number.ensures.full

pub returns-in_ok-moved-in-Some-clause-stands : goal.returns-in_ok-moved-in-Some-clause-stands
returns-in_ok-moved-in-Some-clause-stands c =
    let found : slice_get c.local_number.new.self.locals.items c.in-Some.part ≡ Some c.kill.new.self =
    rw c.in-Some.is at c.in_ok-local_number.ensures.there in
    let there : slice_get c.local_number.new.self.locals.items c.in-Some.part ≡ Some (Dies Killed') =
    found ∙ ap (λ z. Some z) c.kill.ensures in
    record {
      part = c.in-Some.part;
      count = 0;
      there = Dies Killed';
      moved = c.in_ok-moved-in-Some.ensures;
      is = there;
      runs = record { goes = refl; lives = inl refl };
    }
