use Rattle.machine.proofs.Steps.{can_answer}
use Rattle.locals.specs.declared.request.Request.TheVariants as told
use Rattle.locals.specs.Looks.{look}
use Rattle.image_states.proofs.Results.{if_both}
use Rattle.image_states.proofs.Stepped.{print_moves}
use Rattle.image_states.proofs.parts.Parts.print.Goals as goal

pub push_answer-requires-clause-memory : goal.push_answer-requires-clause-memory
push_answer-requires-clause-memory c = (c.requires.within).memory

pub push_answer-requires-clause-answers : goal.push_answer-requires-clause-answers
push_answer-requires-clause-answers c =
    can_answer (look c.args.image.now c.args.t c.args.scratch.now.here) 0 (told.Print c.args.number) c.requires.asks

pub returns-clause-moves : goal.returns-clause-moves
returns-clause-moves c =
    if_both c.push_answer.result _ _ _ c.push_answer.ensures.more c.push_answer.ensures.reaches (λ m o r none.
    print_moves c.args.image.now c.args.self.now c.push_answer.new.self c.args.packed.now c.push_answer.new.found.items
    c.args.t c.args.scratch.now.here m.parts c.requires.within c.args.number c.requires.asks (r none))
