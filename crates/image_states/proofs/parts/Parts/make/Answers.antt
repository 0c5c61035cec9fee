use Rattle.std.proofs.lemmas.Result.{IfOk-weaker}
use Rattle.image_states.proofs.Within.{word_lies}
use Rattle.std.proofs.Common.{◌≡◌, ◌<◌, ◌∙◌, Some, ap, arith, inr, length, refl, slice_get, slice_set, subst, suc, sym, true, ℕ, ◌≤◌}
use Rattle.std.proofs.lemmas.Option.{slice_get_within, IfSome_then}
use Rattle.words.specs.Process.{process_word}
use Rattle.locals.specs.Looks.{look}
use Rattle.locals.specs.Requests.{after_answer}
use Rattle.machine.proofs.Steps.{can_answer_fork}
use Rattle.image_states.specs.Forking.{HasChild}
use Rattle.image_states.specs.Nexts.{IsBase}
use Rattle.image_states.specs.Packed.{words_in, IsGrown}
use Rattle.image_states.proofs.Forked.{fork_moves}
use Rattle.image_states.proofs.Growing.{base_still, grown_twice, more_grown, prefix_within, within_still, words_still}
use Rattle.image_states.proofs.Results.{if_both, on_both}
use Rattle.image_states.proofs.Stepped.{stored_words}
use Rattle.image_states.proofs.parts.Parts.make.Goals as goal

pub returns-in_default-clause-more : goal.returns-in_default-clause-more
returns-in_default-clause-more c =
    more_grown c.args.self.now c.stored.new.self c.args.found.now.items c.in_ok-stored.ensures.grown

pub go_on-requires : goal.go_on-requires
go_on-requires c =
    can_answer_fork (look c.args.image.now c.args.t c.args.scratch.now.here) true c.args.number c.requires.asks (inr refl)

pub returns-in-None-clause-more : goal.returns-in-None-clause-more
returns-in-None-clause-more c =
    more_grown c.args.self.now c.stand.new.self c.args.found.now.items
    (grown_twice c.args.self.now c.stored.new.self c.stand.new.self c.in_ok-stored.ensures.grown
    c.in_ok-stand.ensures.grown)

pub returns-in-Some-2-clause-more : goal.returns-in-Some-2-clause-more
returns-in-Some-2-clause-more c =
    on_both c.add_child.result _ _ _ c.add_child.ensures.grown c.add_child.ensures.longer (λ g longer. record {
      parts = grown_twice c.args.self.now c.stored.new.self c.add_child.new.self c.in_ok-stored.ensures.grown
          (grown_twice c.stored.new.self c.stand.new.self c.add_child.new.self c.in_ok-stand.ensures.grown g);
      nexts = longer;
    })

pub returns-in-Some-2-clause-moves : goal.returns-in-Some-2-clause-moves
returns-in-Some-2-clause-moves c =
    let p = c.args.image.now in
    let a = c.args.self.now in
    let b = c.stored.new.self in
    let d = c.add_child.new.self in
    let x = c.args.packed.now in
    let state = c.in-Some-2.state in
    let here = c.args.scratch.now.here in
    let l = look p c.args.t here in
    let number : ℕ = suc (length x.parts.items) in
    let memory = c.in-Some.memory in
    let there : slice_get b.memories.items memory
    ≡ Some (slice_set (words_in a.memories.items x.memory) c.block.result.0 c.args.number) =
    rw c.in-Some.is at c.in_ok-stored.ensures.there in
    let word : process_word c.args.number 2 < length (words_in a.memories.items x.memory) =
    word_lies a x.memory (c.requires.within).memory c.args.number 2 (omega (arith, c.requires.few, c.requires.next))
    (omega arith) in
    let lies : c.block.result.0 < length (words_in a.memories.items x.memory) = omega (arith, word, c.block.ensures) in
    let base : IsBase p c.stand.new.self x c.args.k memory c.go_on.new.self state =
    rw c.in-Some-2.is at c.in_ok-stand.ensures.stands in
    let answered : c.go_on.new.self ≡ after_answer l number here =
    c.go_on.ensures ∙ ap (λ n. after_answer l n here) c.requires.next in
    let at : c.block.result.0 ≡ process_word number 2 =
    c.block.ensures ∙ ap (λ n. process_word n 2) c.requires.next in
    if_both c.add_child.result _ _ _ c.add_child.ensures.grown c.add_child.ensures.added (λ g o added none.
    let after_b : IsGrown b d =
    grown_twice b c.stand.new.self d c.in_ok-stand.ensures.grown g in
    let all : IsGrown a d = grown_twice a b d c.in_ok-stored.ensures.grown after_b in
    let has : HasChild p d state c.add_child.new.found.items number c.args.child =
    subst (λ n. HasChild p d state c.add_child.new.found.items n c.args.child) c.requires.next (added none) in
    let same : length (words_in d.memories.items x.memory) ≡ length (words_in a.memories.items x.memory) =
    ap length (words_still a d all x.memory (c.requires.within).memory) in
    fork_moves p d x state c.args.k c.args.t memory here c.args.child c.add_child.new.found.items c.requires.number
    c.requires.asks c.requires.child (subst (λ n. length x.parts.items < n) (sym all.most) c.requires.few)
    (subst (λ z. IsBase p d x c.args.k memory z state) answered
    (base_still p c.stand.new.self d g x c.args.k memory c.go_on.new.self state base))
    has
    (stored_words a b d x memory x.memory c.block.result.0 c.args.number all after_b (c.requires.within).memory there
    ∙ ap (λ n. slice_set (words_in d.memories.items x.memory) n c.args.number) at
    ∙ ap (λ n. slice_set (words_in d.memories.items x.memory) (process_word number 2) n) c.requires.next)
    (omega (arith, lies, same, at))
    (within_still a d all x c.requires.within)
    (prefix_within b.memories.items d.memories.items memory after_b.memories
    (slice_get_within b.memories.items memory
    (slice_set (words_in a.memories.items x.memory) c.block.result.0 c.args.number) there)))

pub block-requires : goal.block-requires
block-requires c =
    let most : c.args.self.now.most ≤ 1000 = (c.args.self.now.room).few in
    (omega (arith, c.requires.next), omega (arith, c.requires.few, c.requires.next, most))

pub stored-requires : goal.stored-requires
stored-requires c =
    let word : process_word c.args.number 2 < length (words_in c.args.self.now.memories.items c.args.packed.now.memory) =
    word_lies c.args.self.now c.args.packed.now.memory (c.requires.within).memory c.args.number 2
    (omega (arith, c.requires.few, c.requires.next)) (omega arith) in
    omega (arith, word, c.block.ensures)

pub returns-in_default-clause-why : goal.returns-in_default-clause-why
returns-in_default-clause-why c = rw c.in_default.is at c.in_ok-stored.ensures.full

pub returns-in-None-clause-why : goal.returns-in-None-clause-why
returns-in-None-clause-why c = rw c.in-None.is at c.in_ok-stand.ensures.full

pub returns-in-Some-2-clause-why : goal.returns-in-Some-2-clause-why
returns-in-Some-2-clause-why c =
    IfOk-weaker c.add_child.result _ _ (λ o h. IfSome_then o h (λ why is. is c.args.packed.now)) c.add_child.ensures.full
