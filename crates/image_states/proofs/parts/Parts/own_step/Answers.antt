use Rattle.std.proofs.Common.{◌∙◌, sym}
use Rattle.std.proofs.lemmas.Result.{IfOk-weaker}
use Rattle.image_states.proofs.Growing.{more_none}
use Rattle.image_states.proofs.Turned.{broken_moves, ended_moves, local_moves}
use Rattle.image_states.proofs.parts.Parts.own_step.Goals as goal

pub push_stand-requires-clause-memory : goal.push_stand-requires-clause-memory
push_stand-requires-clause-memory c = (c.requires.within).memory

pub returns-in-Local-clause-moves : goal.returns-in-Local-clause-moves
returns-in-Local-clause-moves c =
    IfOk-weaker c.push_stand.result _ _ (λ o r none.
    local_moves c.args.image.now c.push_stand.new.self c.args.packed.now c.push_stand.new.found.items c.args.t
    c.args.scratch.now.here c.take_step.new.self c.take_step.result (sym c.next_step.ensures ∙ c.in-Local.is)
    c.take_step.ensures (r none)) c.push_stand.ensures.reaches

pub returns-in-Broken-clause-more : goal.returns-in-Broken-clause-more
returns-in-Broken-clause-more c = more_none c.args.self.now c.args.found.now.items

pub returns-in-Broken-clause-moves : goal.returns-in-Broken-clause-moves
returns-in-Broken-clause-moves c = λ none.
    broken_moves c.args.image.now c.args.self.now c.args.packed.now c.args.found.now.items c.args.t
    c.args.scratch.now.here (sym c.next_step.ensures ∙ c.in-Broken.is)

pub returns-in-Ended-clause-more : goal.returns-in-Ended-clause-more
returns-in-Ended-clause-more c = more_none c.args.self.now c.args.found.now.items

pub returns-in-Ended-clause-moves : goal.returns-in-Ended-clause-moves
returns-in-Ended-clause-moves c = λ none.
    ended_moves c.args.image.now c.args.self.now c.args.packed.now c.args.found.now.items c.args.t
    c.args.scratch.now.here (sym c.next_step.ensures ∙ c.in-Ended.is)
