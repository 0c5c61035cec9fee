use Rattle.image_states.proofs.Within.{thread_few, thread_within, word_lies}
use Rattle.std.proofs.Common.{◌≡◌, ◌<◌, ◌∙◌, Some, ap, arith, length, slice_get, slice_set, subst, suc, sym, ◌≤◌}
use Rattle.std.specs.Prelude.{slice_index}
use Rattle.std.proofs.lemmas.Option.{slice_get_within}
use Rattle.words.specs.Process.{process_word}
use Rattle.robustexit.specs.declared.phase.ExitPhase.TheVariants.{Ended}
use Rattle.locals.specs.Threads.{Exits}
use Rattle.image_states.specs.Nexts.{ReachesAt}
use Rattle.image_states.specs.Packed.{asleep_at, words_in, IsGrown}
use Rattle.image_states.proofs.Growing.{grown_twice, more_grown, more_parts, within_still, words_still}
use Rattle.image_states.proofs.LeftAlone.{left_reaches}
use Rattle.image_states.proofs.Results.{if_both, on_ok}
use Rattle.image_states.proofs.Stepped.{stored_words}
use Rattle.image_states.proofs.parts.Parts.push_ended.Goals as goal

pub returns-in-None-clause-more : goal.returns-in-None-clause-more
returns-in-None-clause-more c =
    more_grown c.args.self.now c.stored.new.self c.args.found.now.items c.in_ok-stored.ensures.grown

pub push_stand-requires-clause-within : goal.push_stand-requires-clause-within
push_stand-requires-clause-within c =
    within_still c.args.self.now c.stored.new.self c.in_ok-stored.ensures.grown c.args.packed.now c.requires.within

pub push_stand-requires-clause-memory : goal.push_stand-requires-clause-memory
push_stand-requires-clause-memory c =
    let there : slice_get c.stored.new.self.memories.items c.in-Some.after
    ≡ Some (slice_set (words_in c.args.self.now.memories.items c.args.memory) c.block.result.0 0) =
    rw c.in-Some.is at c.in_ok-stored.ensures.there in
    slice_get_within c.stored.new.self.memories.items c.in-Some.after
    (slice_set (words_in c.args.self.now.memories.items c.args.memory) c.block.result.0 0) there

pub returns-in-Some-clause-more : goal.returns-in-Some-clause-more
returns-in-Some-clause-more c = on_ok c.push_stand.result _ _ c.push_stand.ensures.more
    (λ m. more_parts c.args.self.now c.stored.new.self c.push_stand.new.self c.args.found.now.items
    c.push_stand.new.found.items c.in_ok-stored.ensures.grown m)

pub returns-in-Some-clause-reaches : goal.returns-in-Some-clause-reaches
returns-in-Some-clause-reaches c =
    let p = c.args.image.now in
    let a = c.args.self.now in
    let b = c.stored.new.self in
    let d = c.push_stand.new.self in
    let x = c.args.packed.now in
    let t = c.args.t in
    let id : c.block.result.0 ≡ process_word t 2 = c.block.ensures in
    let there : slice_get b.memories.items c.in-Some.after
    ≡ Some (slice_set (words_in a.memories.items c.args.memory) c.block.result.0 0) =
    rw c.in-Some.is at c.in_ok-stored.ensures.there in
    let word : process_word t 2 < length (words_in a.memories.items c.args.memory) =
    word_lies a c.args.memory c.requires.memory t 2
    (thread_within a x c.requires.within c.args.k t c.requires.number c.requires.made) (omega arith) in
    let lies : c.block.result.0 < length (words_in a.memories.items c.args.memory) = omega (arith, word, id) in
    let can = c.requires.can in
    let number : t ≡ suc c.args.k = c.requires.number in
    if_both c.push_stand.result _ _ _ c.push_stand.ensures.more c.push_stand.ensures.reaches (λ m o r none.
    let all : IsGrown a d = grown_twice a b d c.in_ok-stored.ensures.grown m.parts in
    let still : words_in d.memories.items c.args.memory ≡ words_in a.memories.items c.args.memory =
    words_still a d all c.args.memory c.requires.memory in
    let size : length (words_in d.memories.items c.args.memory) ≡ length (words_in a.memories.items c.args.memory) =
    ap length still in
    subst (λ z. ReachesAt p d x c.push_stand.new.found.items t (words_in d.memories.items c.args.memory)
    (asleep_at x.places.items) z) (sym can.stands)
    (left_reaches p d x c.push_stand.new.found.items t (words_in d.memories.items c.args.memory) (omega (arith, number))
    (all.alone ∙ can.alone) can.awake (ap (λ ws. slice_index ws (process_word t 1)) still ∙ can.none) can.nobody
    (omega (arith, lies, size, id))
    (subst (λ ws. ReachesAt p d x c.push_stand.new.found.items t ws (asleep_at x.places.items) (Exits Ended))
    (stored_words a b d x c.in-Some.after c.args.memory c.block.result.0 0 all m.parts c.requires.memory there
    ∙ ap (λ n. slice_set (words_in d.memories.items c.args.memory) n 0) id)
    (subst (λ z. ReachesAt p d x c.push_stand.new.found.items t (words_in d.memories.items c.in-Some.after)
    (asleep_at x.places.items) z) c.enter_phase.ensures (r none)))))

pub block-requires : goal.block-requires
block-requires c =
    let few : c.args.t ≤ 1000 =
    thread_few c.args.self.now c.args.packed.now c.requires.within c.args.k c.args.t c.requires.number c.requires.made in
    (omega (arith, c.requires.number), omega (arith, few))

pub stored-requires : goal.stored-requires
stored-requires c =
    let word : process_word c.args.t 2 < length (words_in c.args.self.now.memories.items c.args.memory) =
    word_lies c.args.self.now c.args.memory c.requires.memory c.args.t 2
    (thread_within c.args.self.now c.args.packed.now c.requires.within c.args.k c.args.t c.requires.number c.requires.made)
    (omega arith) in
    omega (arith, word, c.block.ensures)

pub returns-in-None-clause-why : goal.returns-in-None-clause-why
returns-in-None-clause-why c = rw c.in-None.is at c.in_ok-stored.ensures.full
