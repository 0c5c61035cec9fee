use Rattle.program.specs.Names.{naming_of}
use Rattle.action_text.proofs.Forms.{no_condition}
use Rattle.action_text.proofs.Passing.{none_of}
use Rattle.action_text.proofs.kinds.of_condition.Goals as goal

pub returns : goal.returns
returns c =
    no_condition (naming_of c.args.names.now) c.args.text.now
    (none_of c.in_ok-found.field-0 _ _ c.in_default.is c.in_ok-found.ensures)
    (none_of c.in_ok-found-2.field-0 _ _ c.in_default-2.is c.in_ok-found-2.ensures)
    (none_of c.in_ok-found-3.field-0 _ _ c.in_default-3.is c.in_ok-found-3.ensures)
    (none_of c.in_ok-found-4.field-0 _ _ c.in_default-4.is c.in_ok-found-4.ensures)
