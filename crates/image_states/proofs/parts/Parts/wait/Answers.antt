use Rattle.image_states.proofs.Within.{address_few}
use Rattle.std.proofs.Common.{◌≡◌, ◌<◌, ◌≤◌, length}
use Rattle.std.specs.Prelude.{slice_index}
use Rattle.machine.proofs.Steps.{can_answer}
use Rattle.locals.specs.declared.request.Request.TheVariants as told
use Rattle.locals.specs.Looks.{look}
use Rattle.image_states.specs.Packed.{words_in}
use Rattle.image_states.proofs.Growing.{grown_none, more_none}
use Rattle.image_states.proofs.Results.{if_both}
use Rattle.image_states.proofs.Stepped.{again_moves, none_moves, sleep_moves}
use Rattle.image_states.proofs.parts.Parts.wait.Goals as goal

pub returns-in-None-clause-more : goal.returns-in-None-clause-more
returns-in-None-clause-more c = more_none c.args.self.now c.args.found.now.items

pub returns-in-None-clause-moves : goal.returns-in-None-clause-moves
returns-in-None-clause-moves c =
    let outside : length (words_in c.args.self.now.memories.items c.args.packed.now.memory) ≤ c.args.address.0 =
    rw c.in-None.is at c.word.ensures in
    let a = c.args.self.now in
    λ none. none_moves c.args.image.now a a c.args.packed.now c.args.found.now.items c.args.t c.args.scratch.now.here
    (grown_none a) c.requires.within (told.Wait c.args.address c.args.expected) c.args.address.0 c.requires.asks outside
    (λ woken answer mid served. served.0)

pub sleep-requires-clause-answers : goal.sleep-requires-clause-answers
sleep-requires-clause-answers c = can_answer (look c.args.image.now c.args.t c.args.scratch.now.here) 0
    (told.Wait c.args.address c.args.expected) c.requires.asks

pub push_answer-requires-clause-memory : goal.push_answer-requires-clause-memory
push_answer-requires-clause-memory c = (c.requires.within).memory

pub push_answer-requires-clause-answers : goal.push_answer-requires-clause-answers
push_answer-requires-clause-answers c = can_answer (look c.args.image.now c.args.t c.args.scratch.now.here) 1
    (told.Wait c.args.address c.args.expected) c.requires.asks

pub returns-then-w-expected-clause-moves : goal.returns-then-w-expected-clause-moves
returns-then-w-expected-clause-moves c =
    let there : (c.args.address.0 < length (words_in c.args.self.now.memories.items c.args.packed.now.memory))
    × (c.in-Some.w ≡ slice_index (words_in c.args.self.now.memories.items c.args.packed.now.memory) c.args.address.0) =
    rw c.in-Some.is at c.word.ensures in
    if_both c.sleep.result _ _ _ c.sleep.ensures.more c.sleep.ensures.reaches (λ m o r none.
    sleep_moves c.args.image.now c.args.self.now c.sleep.new.self c.args.packed.now c.sleep.new.found.items
    c.args.t c.args.scratch.now.here m.parts c.requires.within c.args.address c.args.expected c.in-Some.w c.requires.asks
    there.1 c.if-w-expected.true (r none))

pub returns-else-w-expected-clause-moves : goal.returns-else-w-expected-clause-moves
returns-else-w-expected-clause-moves c =
    let there : (c.args.address.0 < length (words_in c.args.self.now.memories.items c.args.packed.now.memory))
    × (c.in-Some.w ≡ slice_index (words_in c.args.self.now.memories.items c.args.packed.now.memory) c.args.address.0) =
    rw c.in-Some.is at c.word.ensures in
    if_both c.push_answer.result _ _ _ c.push_answer.ensures.more c.push_answer.ensures.reaches (λ m o r none.
    again_moves c.args.image.now c.args.self.now c.push_answer.new.self c.args.packed.now c.push_answer.new.found.items
    c.args.t c.args.scratch.now.here m.parts c.requires.within c.args.address c.args.expected c.in-Some.w c.requires.asks
    there.1 c.if-w-expected.false (r none))

pub sleep-requires-clause-lies : goal.sleep-requires-clause-lies
sleep-requires-clause-lies c =
    let there : (c.args.address.0 < length (words_in c.args.self.now.memories.items c.args.packed.now.memory))
    × (c.in-Some.w ≡ slice_index (words_in c.args.self.now.memories.items c.args.packed.now.memory) c.args.address.0) =
    rw c.in-Some.is at c.word.ensures in
    address_few c.args.self.now c.args.packed.now.memory (c.requires.within).memory c.args.address.0 there.0
