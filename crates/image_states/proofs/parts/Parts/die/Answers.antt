use Rattle.std.proofs.Common.{◌∙◌, ap, sym}
use Rattle.machine.proofs.Steps.{can_answer}
use Rattle.locals.specs.declared.request.Request.TheVariants as told
use Rattle.locals.specs.Looks.{look}
use Rattle.words.specs.Process.{process_word}
use Rattle.machine.specs.States.{with_word}
use Rattle.image_states.specs.Packed.{unpacked}
use Rattle.image_states.proofs.Results.{if_both}
use Rattle.image_states.proofs.Stepped.{end_moves}
use Rattle.image_states.proofs.parts.Parts.die.Goals as goal

pub end_by-requires-clause-memory : goal.end_by-requires-clause-memory
end_by-requires-clause-memory c = (c.requires.within).memory

pub end_by-requires-clause-answers : goal.end_by-requires-clause-answers
end_by-requires-clause-answers c = λ answer.
    can_answer (look c.args.image.now c.args.t c.args.scratch.now.here) answer (told.Fault c.args.cause) c.requires.asks

pub returns-clause-moves : goal.returns-clause-moves
returns-clause-moves c =
    if_both c.end_by.result _ _ _ c.end_by.ensures.more c.end_by.ensures.reaches (λ m o r none.
    end_moves c.args.image.now c.args.self.now c.end_by.new.self c.args.packed.now c.end_by.new.found.items c.args.t
    c.args.scratch.now.here m.parts c.requires.within (told.Fault c.args.cause) c.number.result c.requires.asks
    (λ woken answer mid served. (served.1.0, served.1.1 ∙ ap (with_word (unpacked c.args.image.now c.end_by.new.self c.args.packed.now) (process_word c.args.t 5)) (sym c.number.ensures))) (r none).0 (r none).1)
