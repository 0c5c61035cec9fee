use Rattle.mesamon.proofs.commands.perform_with_hints.Goals as goal

pub returns : goal.returns
returns g c = (c.perform.result, c.code.ensures, c.perform.ensures)
