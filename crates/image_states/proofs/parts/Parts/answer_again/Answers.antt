use Rattle.image_states.proofs.Within.{is_there}
use Rattle.std.proofs.Common.{◌≡◌, ◌∙◌, Some, ap, subst, suc, sym}
use Rattle.std.proofs.lemmas.Option.{same_Some}
use Rattle.machine.proofs.Steps.{can_answer}
use Rattle.locals.specs.declared.request.NextStep.TheVariants as step
use Rattle.locals.specs.Looks.{look}
use Rattle.locals.specs.Requests.{after_answer, next_step_of}
use Rattle.image_states.specs.Nexts.{ReachesAt}
use Rattle.image_states.specs.Packed.{asleep_at, thread_at, words_in}
use Rattle.image_states.proofs.Growing.{stands_still}
use Rattle.image_states.proofs.Results.{if_both}
use Rattle.image_states.proofs.parts.Parts.answer_again.Goals as goal

pub push_answer-requires-clause-memory : goal.push_answer-requires-clause-memory
push_answer-requires-clause-memory c = (c.requires.within).memory

pub push_answer-requires-clause-answers : goal.push_answer-requires-clause-answers
push_answer-requires-clause-answers c =
    let there : thread_at c.args.self.now.locals.items c.args.packed.now.parts.items (suc c.args.k) ≡ Some c.in-Some.local.now =
    rw c.in-Some.is at c.thread.ensures.some in
    let told : next_step_of (look c.args.image.now c.args.t c.look_at.new.self.here) ≡ step.Shared c.args.request =
    ap (λ z. next_step_of (look c.args.image.now c.args.t z)) c.look_at.ensures
    ∙ c.requires.asks c.in-Some.local.now
    (ap (thread_at c.args.self.now.locals.items c.args.packed.now.parts.items) c.requires.number ∙ there) in
    can_answer (look c.args.image.now c.args.t c.look_at.new.self.here) 4294967295 c.args.request told

pub returns-clause-reaches : goal.returns-clause-reaches
returns-clause-reaches c =
    let there : thread_at c.args.self.now.locals.items c.args.packed.now.parts.items (suc c.args.k) ≡ Some c.in-Some.local.now =
    rw c.in-Some.is at c.thread.ensures.some in
    if_both c.push_answer.result _ _ _ c.push_answer.ensures.more c.push_answer.ensures.reaches (λ m o r none here stands.
    subst (λ z. ReachesAt c.args.image.now c.push_answer.new.self c.args.packed.now c.push_answer.new.found.items c.args.t
    (words_in c.push_answer.new.self.memories.items c.args.packed.now.memory) (asleep_at c.args.packed.now.places.items)
    (after_answer (look c.args.image.now c.args.t z) 4294967295 z))
    (c.look_at.ensures ∙ same_Some c.in-Some.local.now here
    (sym (ap (thread_at c.args.self.now.locals.items c.args.packed.now.parts.items) c.requires.number ∙ there)
    ∙ sym (stands_still c.args.self.now c.push_answer.new.self m.parts c.args.packed.now c.requires.within c.args.t) ∙ stands))
    (r none))

pub unreachable-requires : goal.unreachable-requires
unreachable-requires c =
    is_there c.args.self.now c.args.packed.now c.requires.within c.args.k c.requires.made
    (rw c.in-None.is at c.thread.ensures.none)
