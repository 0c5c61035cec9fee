use Rattle.linker.proofs.Orders.{program_numbered, links_program}
use Rattle.linker.proofs.Rising.{program_known}
use Rattle.linker.proofs.laws.program_laws.Goals as goal

pub returns-clause-numbered : goal.returns-clause-numbered
returns-clause-numbered c = program_numbered

pub returns-clause-linked : goal.returns-clause-linked
returns-clause-linked c = links_program

pub returns-clause-known : goal.returns-clause-known
returns-clause-known c = program_known
