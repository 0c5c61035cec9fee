use Rattle.std.proofs.Common.{None}
use Rattle.syntax.specs.View.{name_of}
use Rattle.types.specs.Standings.{meaning_of}
use Rattle.types.proofs.Gathered.{gathers_none}
use Rattle.body_faults.proofs.Gathering.{gathers_name}
use Rattle.body_faults.proofs.operands.name_operand.Goals as goal

pub returns-in-None-None : goal.returns-in-None-None
returns-in-None-None c = λ s h.
    gathers_name s c.args.wanted (name_of c.args.name) (meaning_of c.meaning-meaning.result) c.variable_type.result
    None None c.args.least c.args.least c.args.least (c.meaning-meaning.ensures s h) c.variable_type.ensures
    c.in-None-None.ensures c.in-None-None.ensures' (gathers_none c.args.least) (gathers_none c.args.least)

pub returns-in_default : goal.returns-in_default
returns-in_default c = λ s h.
    gathers_name s c.args.wanted (name_of c.args.name) (meaning_of c.meaning-meaning.result) c.variable_type.result
    c.read_fault.result c.operand_fault.result c.args.least c.note.result c.note-in_default.result
    (c.meaning-meaning.ensures s h) c.variable_type.ensures c.read_fault.ensures c.operand_fault.ensures
    c.note.ensures c.note-in_default.ensures
