use Rattle.words.specs.Process.{process_word}
use Rattle.image_states.proofs.Within.{thread_few, thread_within, word_lies}
use Rattle.std.proofs.Common.{◌≡◌, ◌∙◌, Some, ap, slice_get, slice_set, ◌≤◌, ◌<◌, arith, length}
use Rattle.std.proofs.lemmas.Option.{slice_get_within}
use Rattle.machine.proofs.Steps.{can_answer}
use Rattle.locals.specs.declared.request.Request.TheVariants as told
use Rattle.locals.specs.Looks.{look}
use Rattle.image_states.specs.Packed.{words_in, IsGrown}
use Rattle.image_states.proofs.Growing.{grown_twice, more_grown, more_parts, within_still}
use Rattle.image_states.proofs.Results.{if_both, on_ok}
use Rattle.image_states.proofs.Stepped.{end_with_moves, stored_words}
use Rattle.image_states.proofs.parts.Parts.end_with.Goals as goal

pub returns-in-None-clause-more : goal.returns-in-None-clause-more
returns-in-None-clause-more c =
    more_grown c.args.self.now c.stored.new.self c.args.found.now.items c.in_ok-stored.ensures.grown

pub end_by-requires-clause-within : goal.end_by-requires-clause-within
end_by-requires-clause-within c =
    within_still c.args.self.now c.stored.new.self c.in_ok-stored.ensures.grown c.args.packed.now c.requires.within

pub end_by-requires-clause-memory : goal.end_by-requires-clause-memory
end_by-requires-clause-memory c =
    let there : slice_get c.stored.new.self.memories.items c.in-Some.memory
    ≡ Some (slice_set (words_in c.args.self.now.memories.items c.args.packed.now.memory) c.block.result.0 c.args.value) =
    rw c.in-Some.is at c.in_ok-stored.ensures.there in
    slice_get_within c.stored.new.self.memories.items c.in-Some.memory
    (slice_set (words_in c.args.self.now.memories.items c.args.packed.now.memory) c.block.result.0 c.args.value) there

pub end_by-requires-clause-answers : goal.end_by-requires-clause-answers
end_by-requires-clause-answers c = λ answer.
    can_answer (look c.args.image.now c.args.t c.args.scratch.now.here) answer (told.ReturnValue c.args.value) c.requires.asks

pub returns-in-Some-clause-more : goal.returns-in-Some-clause-more
returns-in-Some-clause-more c = on_ok c.end_by.result _ _ c.end_by.ensures.more
    (λ m. more_parts c.args.self.now c.stored.new.self c.end_by.new.self c.args.found.now.items
    c.end_by.new.found.items c.in_ok-stored.ensures.grown m)

pub returns-in-Some-clause-moves : goal.returns-in-Some-clause-moves
returns-in-Some-clause-moves c =
    let a = c.args.self.now in
    let b = c.stored.new.self in
    let d = c.end_by.new.self in
    let x = c.args.packed.now in
    let there : slice_get b.memories.items c.in-Some.memory
    ≡ Some (slice_set (words_in a.memories.items x.memory) c.block.result.0 c.args.value) =
    rw c.in-Some.is at c.in_ok-stored.ensures.there in
    if_both c.end_by.result _ _ _ c.end_by.ensures.more c.end_by.ensures.reaches (λ m o r none.
    let all : IsGrown a d = grown_twice a b d c.in_ok-stored.ensures.grown m.parts in
    end_with_moves c.args.image.now a d x c.end_by.new.found.items c.args.t c.args.scratch.now.here all c.requires.within
    c.args.value (words_in d.memories.items c.in-Some.memory) c.requires.asks
    (stored_words a b d x c.in-Some.memory x.memory c.block.result.0 c.args.value all m.parts (c.requires.within).memory
    there ∙ ap (λ n. slice_set (words_in d.memories.items x.memory) n c.args.value) c.block.ensures)
    (r none).0 (r none).1)

pub block-requires : goal.block-requires
block-requires c =
    let few : c.args.t ≤ 1000 =
    thread_few c.args.self.now c.args.packed.now c.requires.within c.args.k c.args.t c.requires.number c.requires.made in
    (omega (arith, c.requires.number), omega (arith, few))

pub stored-requires : goal.stored-requires
stored-requires c =
    let word : process_word c.args.t 4 < length (words_in c.args.self.now.memories.items c.args.packed.now.memory) =
    word_lies c.args.self.now c.args.packed.now.memory (c.requires.within).memory c.args.t 4
    (thread_within c.args.self.now c.args.packed.now c.requires.within c.args.k c.args.t c.requires.number c.requires.made)
    (omega arith) in
    omega (arith, word, c.block.ensures)

pub returns-in-None-clause-why : goal.returns-in-None-clause-why
returns-in-None-clause-why c = rw c.in-None.is at c.in_ok-stored.ensures.full
