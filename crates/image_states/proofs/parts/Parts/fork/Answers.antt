use Rattle.machine.specs.RequestMeanings.{AsksFork}
use Rattle.std.proofs.Common.{◌≡◌, ◌≢◌, ◌≤◌, ◌∙◌, arith, inl, length, refl, rules, sym, subst}
use Rattle.locals.specs.Looks.{look}
use Rattle.machine.proofs.Steps.{can_answer_fork}
use Rattle.image_states.proofs.Forked.{full_moves, no_fork_moves, child_there}
use Rattle.image_states.proofs.Growing.{more_none}
use Rattle.image_states.proofs.Results.{if_both}
use Rattle.image_states.proofs.parts.Parts.fork.Goals as goal

pub push_answer-requires-clause-memory : goal.push_answer-requires-clause-memory
push_answer-requires-clause-memory c = (c.requires.within).memory

pub push_answer-requires-clause-answers : goal.push_answer-requires-clause-answers
push_answer-requires-clause-answers c =
    can_answer_fork (look c.args.image.now c.args.t c.args.scratch.now.here) c.args.has_room 0 c.requires.asks (inl refl)

pub returns-then-made-most-clause-moves : goal.returns-then-made-most-clause-moves
returns-then-made-most-clause-moves c =
    let full : length c.args.packed.now.parts.items ≡ c.args.self.now.most = search rules in
    if_both c.push_answer.result _ _ _ c.push_answer.ensures.more c.push_answer.ensures.reaches (λ m o r none.
    full_moves c.args.image.now c.push_answer.new.self c.args.packed.now c.args.t c.args.scratch.now.here c.args.has_room
    c.push_answer.new.found.items c.requires.asks (full ∙ sym (m.parts).most) (r none))

pub returns-then-not-has_room-clause-more : goal.returns-then-not-has_room-clause-more
returns-then-not-has_room-clause-more c = more_none c.args.self.now c.args.found.now.items

pub returns-then-not-has_room-clause-moves : goal.returns-then-not-has_room-clause-moves
returns-then-not-has_room-clause-moves c = λ none.
    let other : length c.args.packed.now.parts.items ≢ c.args.self.now.most = search rules in
    no_fork_moves c.args.image.now c.args.self.now c.args.packed.now c.args.t c.args.scratch.now.here c.args.has_room
    c.args.found.now.items c.requires.asks other c.if-not-has_room.true

pub make-requires-clause-few : goal.make-requires-clause-few
make-requires-clause-few c =
    let other : length c.args.packed.now.parts.items ≢ c.args.self.now.most = search rules in
    let few : length c.args.packed.now.parts.items ≤ c.args.self.now.most = (c.requires.within).few in
    omega (arith, other, few)

pub unreachable-requires : goal.unreachable-requires
unreachable-requires c =
    let l = look c.args.image.now c.args.t c.args.scratch.now.here in
    child_there l (subst (AsksFork l) c.if-not-has_room.false c.requires.asks) (sym c.child.ensures ∙ c.in_default.is)
