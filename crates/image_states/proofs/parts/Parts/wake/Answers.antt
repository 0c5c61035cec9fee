use Rattle.image_states.proofs.Within.{address_few}
use Rattle.std.proofs.Common.{◌≤◌, length}
use Rattle.locals.specs.declared.request.Request.TheVariants as told
use Rattle.image_states.specs.Packed.{words_in}
use Rattle.image_states.proofs.Growing.{grown_none, more_none}
use Rattle.image_states.proofs.Stepped.{none_moves}
use Rattle.image_states.proofs.parts.Parts.wake.Goals as goal

pub returns-in-None-clause-more : goal.returns-in-None-clause-more
returns-in-None-clause-more c = more_none c.args.self.now c.args.found.now.items

pub returns-in-None-clause-moves : goal.returns-in-None-clause-moves
returns-in-None-clause-moves c =
    let outside : length (words_in c.args.self.now.memories.items c.args.packed.now.memory) ≤ c.args.address.0 =
    rw c.in-None.is at c.word.ensures in
    let a = c.args.self.now in
    λ none. none_moves c.args.image.now a a c.args.packed.now c.args.found.now.items c.args.t c.args.scratch.now.here
    (grown_none a) c.requires.within (told.Wake c.args.address c.args.count) c.args.address.0 c.requires.asks outside
    (λ woken answer mid served. served.0)

pub wake_at-requires-clause-lies : goal.wake_at-requires-clause-lies
wake_at-requires-clause-lies c =
    let there = rw c.in-Some.is at c.word.ensures in
    address_few c.args.self.now c.args.packed.now.memory (c.requires.within).memory c.args.address.0 there.0
