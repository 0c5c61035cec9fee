use Rattle.mesamon.proofs.commands.tell_unput.Goals as goal

pub returns : goal.returns
returns g c = (c.asked_hints.result.now, c.asked_hints.ensures, c.tell_failed.ensures)
