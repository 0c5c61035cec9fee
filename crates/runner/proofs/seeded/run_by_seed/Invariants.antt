use Rattle.std.proofs.Common.{is_some}
use Rattle.runner.specs.Logs.{outside_of}
use Rattle.runner.proofs.seeded.run_by_seed.Given as goal

abbrev pub ghosts-run_as-J-RunName : goal.ghosts-run_as-J-RunName
ghosts-run_as-J-RunName a = record { program = a.image.now; outside = outside_of (is_some a.strays) a.kills; limit = a.limit }

abbrev pub ghosts-run_as-J-Ledger : goal.ghosts-run_as-J-Ledger
ghosts-run_as-J-Ledger a = record { name = a.blank.name; parts = a.blank.parts }
