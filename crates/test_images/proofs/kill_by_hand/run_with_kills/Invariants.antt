use Rattle.test_images.proofs.kill_by_hand.run_with_kills.Given as goal
use Rattle.std.specs.Prelude.{◌^◌, false}
use Rattle.runner.specs.Logs.{outside_of}

abbrev pub ghosts-run_as-J-RunName : goal.ghosts-run_as-J-RunName
ghosts-run_as-J-RunName g a = record { program = a.image.now; limit = a.limit; outside = outside_of false (2 ^ 32) }

abbrev pub ghosts-run_as-J-Ledger : goal.ghosts-run_as-J-Ledger
ghosts-run_as-J-Ledger g a = record { name = a.blank.name; parts = a.blank.parts }
