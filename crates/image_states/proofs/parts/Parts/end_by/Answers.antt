use Rattle.image_states.proofs.Within.{thread_few, thread_within, word_lies}
use Rattle.std.proofs.Common.{◌≡◌, ◌<◌, ◌∙◌, Some, ap, arith, length, slice_get, slice_set, subst, sym, ◌≤◌}
use Rattle.std.specs.Prelude.{slice_index}
use Rattle.std.proofs.lemmas.Option.{slice_get_within}
use Rattle.words.specs.Process.{process_word}
use Rattle.locals.specs.Looks.{look}
use Rattle.locals.specs.Requests.{after_answer}
use Rattle.image_states.specs.Nexts.{ReachesAt}
use Rattle.image_states.specs.Packed.{asleep_at, words_in, IsGrown}
use Rattle.image_states.proofs.Growing.{grown_twice, more_grown, more_parts, within_still, words_still}
use Rattle.image_states.proofs.Results.{if_both, on_ok}
use Rattle.image_states.proofs.Stepped.{stored_words}
use Rattle.image_states.proofs.parts.Parts.end_by.Goals as goal

pub returns-in-None-clause-more : goal.returns-in-None-clause-more
returns-in-None-clause-more c =
    more_grown c.args.self.now c.stored.new.self c.args.found.now.items c.in_ok-stored.ensures.grown

pub push_end-requires-clause-within : goal.push_end-requires-clause-within
push_end-requires-clause-within c =
    within_still c.args.self.now c.stored.new.self c.in_ok-stored.ensures.grown c.args.packed.now c.requires.within

pub push_end-requires-clause-memory : goal.push_end-requires-clause-memory
push_end-requires-clause-memory c =
    let there : slice_get c.stored.new.self.memories.items c.in-Some-2.after
    ≡ Some (slice_set (words_in c.args.self.now.memories.items c.args.memory) c.block-2.result.0 c.args.outcome) =
    rw c.in-Some-2.is at c.in_ok-stored.ensures.there in
    slice_get_within c.stored.new.self.memories.items c.in-Some-2.after
    (slice_set (words_in c.args.self.now.memories.items c.args.memory) c.block-2.result.0 c.args.outcome) there

pub push_end-requires-clause-answers : goal.push_end-requires-clause-answers
push_end-requires-clause-answers c = c.requires.answers c.in-Some.head

pub returns-in-Some-2-clause-more : goal.returns-in-Some-2-clause-more
returns-in-Some-2-clause-more c = on_ok c.push_end.result _ _ c.push_end.ensures.more
    (λ m. more_parts c.args.self.now c.stored.new.self c.push_end.new.self c.args.found.now.items
    c.push_end.new.found.items c.in_ok-stored.ensures.grown m)

pub returns-in-Some-2-clause-reaches : goal.returns-in-Some-2-clause-reaches
returns-in-Some-2-clause-reaches c =
    let p = c.args.image.now in
    let a = c.args.self.now in
    let b = c.stored.new.self in
    let d = c.push_end.new.self in
    let x = c.args.packed.now in
    let here = c.args.scratch.now.here in
    let l = look p c.args.t here in
    let there : slice_get b.memories.items c.in-Some-2.after
    ≡ Some (slice_set (words_in a.memories.items c.args.memory) c.block-2.result.0 c.args.outcome) =
    rw c.in-Some-2.is at c.in_ok-stored.ensures.there in
    let lies : process_word c.args.t 5 < length (words_in a.memories.items c.args.memory) =
    word_lies a c.args.memory c.requires.memory c.args.t 5
    (thread_within a x c.requires.within c.args.k c.args.t c.requires.number c.requires.made) (omega arith) in
    let head : (c.block.result.0 < length (words_in a.memories.items x.memory))
    × (c.in-Some.head ≡ slice_index (words_in a.memories.items x.memory) c.block.result.0) =
    rw c.in-Some.is at c.word.ensures in
    if_both c.push_end.result _ _ _ c.push_end.ensures.more c.push_end.ensures.reaches (λ m o r none.
    let all : IsGrown a d = grown_twice a b d c.in_ok-stored.ensures.grown m.parts in
    let size : length (words_in d.memories.items c.args.memory) ≡ length (words_in a.memories.items c.args.memory) =
    ap length (words_still a d all c.args.memory c.requires.memory) in
    let head_is : c.in-Some.head ≡ slice_index (words_in d.memories.items x.memory) (process_word c.args.t 0) =
    head.1 ∙ ap (λ ws. slice_index ws c.block.result.0) (sym (words_still a d all x.memory (c.requires.within).memory))
    ∙ ap (slice_index (words_in d.memories.items x.memory)) c.block.ensures in (
      omega (arith, lies, size),
      subst (λ n. ReachesAt p d x c.push_end.new.found.items c.args.t
          (slice_set (words_in d.memories.items c.args.memory) (process_word c.args.t 5) c.args.outcome)
          (asleep_at x.places.items) (after_answer l n here)) head_is
          (subst (λ ws. ReachesAt p d x c.push_end.new.found.items c.args.t ws (asleep_at x.places.items)
          (after_answer l c.in-Some.head here))
          (stored_words a b d x c.in-Some-2.after c.args.memory c.block-2.result.0 c.args.outcome all m.parts c.requires.memory
          there
          ∙ ap (λ n. slice_set (words_in d.memories.items c.args.memory) n c.args.outcome) c.block-2.ensures)
          (r none)),
    ))

pub block-requires : goal.block-requires
block-requires c =
    let few : c.args.t ≤ 1000 =
    thread_few c.args.self.now c.args.packed.now c.requires.within c.args.k c.args.t c.requires.number c.requires.made in
    (omega (arith, c.requires.number), omega (arith, few))

pub block-requires-2 : goal.block-requires-2
block-requires-2 c =
    let few : c.args.t ≤ 1000 =
    thread_few c.args.self.now c.args.packed.now c.requires.within c.args.k c.args.t c.requires.number c.requires.made in
    (omega (arith, c.requires.number), omega (arith, few))

pub stored-requires : goal.stored-requires
stored-requires c =
    let word : process_word c.args.t 5 < length (words_in c.args.self.now.memories.items c.args.memory) =
    word_lies c.args.self.now c.args.memory c.requires.memory c.args.t 5
    (thread_within c.args.self.now c.args.packed.now c.requires.within c.args.k c.args.t c.requires.number c.requires.made)
    (omega arith) in
    omega (arith, word, c.block-2.ensures)

pub returns-in-None-clause-why : goal.returns-in-None-clause-why
returns-in-None-clause-why c = rw c.in-None.is at c.in_ok-stored.ensures.full

pub unreachable-requires : goal.unreachable-requires
unreachable-requires c =
    let outside : length (words_in c.args.self.now.memories.items c.args.packed.now.memory) ≤ c.block.result.0 =
    rw c.in_default.is at c.word.ensures in
    let word : process_word c.args.t 0 < length (words_in c.args.self.now.memories.items c.args.packed.now.memory) =
    word_lies c.args.self.now c.args.packed.now.memory (c.requires.within).memory c.args.t 0
    (thread_within c.args.self.now c.args.packed.now c.requires.within c.args.k c.args.t c.requires.number c.requires.made)
    (omega arith) in
    omega (arith, outside, word, c.block.ensures)
