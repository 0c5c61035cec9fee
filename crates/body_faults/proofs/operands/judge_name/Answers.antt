use Rattle.syntax.specs.Tree.{NoIndex}
use Rattle.syntax.specs.View.{name_of}
use Rattle.types.specs.Scope.{meaning}
use Rattle.types.specs.Standings.{meaning_of}
use Rattle.body_faults.proofs.Gathering.{lone, gathers_use}
use Rattle.body_faults.proofs.operands.judge_name.Goals as goal

pub returns-clause-least : goal.returns-clause-least
returns-clause-least c = λ s h.
    lone _ c.args.least c.note.result
    (gathers_use NoIndex (meaning_of c.meaning-meaning.result) (meaning s (name_of c.args.name)) c.read_fault.result
    c.args.name.place c.args.least c.note.result (c.meaning-meaning.ensures s h)
    (c.read_fault.ensures c.args.name.place) c.note.ensures)
