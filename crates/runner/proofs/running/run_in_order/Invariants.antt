use Rattle.runner.specs.Logs.{nothing_outside}
use Rattle.runner.proofs.running.run_in_order.Given as goal

abbrev pub ghosts-run_as-J-RunName : goal.ghosts-run_as-J-RunName
ghosts-run_as-J-RunName g a = record { program = a.image.now; outside = nothing_outside; limit = a.limit }

abbrev pub ghosts-run_as-J-Ledger : goal.ghosts-run_as-J-Ledger
ghosts-run_as-J-Ledger g a = record { name = a.blank.name; parts = a.blank.parts }
