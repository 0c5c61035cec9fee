use Rattle.std.proofs.Common.{◌≡◌, ◌<◌, ◌≤◌, length}
use Rattle.std.specs.Prelude.{slice_index}
use Rattle.machine.proofs.Steps.{can_answer}
use Rattle.locals.specs.Looks.{look}
use Rattle.image_states.specs.Packed.{unpacked, words_in}
use Rattle.image_states.proofs.Growing.{grown_none, more_none}
use Rattle.image_states.proofs.Results.{if_both}
use Rattle.image_states.proofs.Served.{access_served}
use Rattle.image_states.proofs.Stepped.{access_moves, none_moves}
use Rattle.image_states.proofs.parts.Parts.access.Goals as goal

pub returns-in-None-clause-more : goal.returns-in-None-clause-more
returns-in-None-clause-more c = more_none c.args.self.now c.args.found.now.items

pub returns-in-None-clause-moves : goal.returns-in-None-clause-moves
returns-in-None-clause-moves c =
    let outside : length (words_in c.args.self.now.memories.items c.args.packed.now.memory) ≤ c.args.a.0 =
    rw c.in-None.is at c.word.ensures in
    let p = c.args.image.now in
    let a = c.args.self.now in
    let x = c.args.packed.now in
    λ none. none_moves p a a x c.args.found.now.items c.args.t c.args.scratch.now.here (grown_none a) c.requires.within
    c.args.request c.args.a.0 c.requires.asks outside (λ woken answer mid served.
    (access_served c.args.t (unpacked p a x) woken answer mid c.args.request c.args.a.0 c.requires.access served).lies)

pub exchange-requires-clause-answers : goal.exchange-requires-clause-answers
exchange-requires-clause-answers c =
    can_answer (look c.args.image.now c.args.t c.args.scratch.now.here) c.access_answer-answer.result c.args.request
    c.requires.asks

pub returns-in-Some-clause-moves : goal.returns-in-Some-clause-moves
returns-in-Some-clause-moves c =
    let there : (c.args.a.0 < length (words_in c.args.self.now.memories.items c.args.packed.now.memory))
    × (c.in-Some.w ≡ slice_index (words_in c.args.self.now.memories.items c.args.packed.now.memory) c.args.a.0) =
    rw c.in-Some.is at c.word.ensures in
    if_both c.exchange.result _ _ _ c.exchange.ensures.more c.exchange.ensures.reaches (λ m o r none.
    access_moves c.args.image.now c.args.self.now c.exchange.new.self c.args.packed.now c.exchange.new.found.items c.args.t
    c.args.scratch.now.here m.parts c.requires.within c.args.request c.args.a.0 c.in-Some.w c.requires.asks
    c.requires.access there.1 (rw (c.word_after-after.ensures, c.access_answer-answer.ensures) at (r none)))

pub exchange-requires-clause-lies : goal.exchange-requires-clause-lies
exchange-requires-clause-lies c =
    let there : (c.args.a.0 < length (words_in c.args.self.now.memories.items c.args.packed.now.memory))
    × (c.in-Some.w ≡ slice_index (words_in c.args.self.now.memories.items c.args.packed.now.memory) c.args.a.0) =
    rw c.in-Some.is at c.word.ensures in
    there.0
