use Rattle.test_images.proofs.stray_by_hand.run_with_stray.Given as goal
use Rattle.std.specs.Prelude.{true}
use Rattle.runner.specs.Logs.{outside_of}

abbrev pub ghosts-run_as-J-RunName : goal.ghosts-run_as-J-RunName
ghosts-run_as-J-RunName g a = record { program = a.image.now; limit = a.limit; outside = outside_of true 0 }

abbrev pub ghosts-run_as-J-Ledger : goal.ghosts-run_as-J-Ledger
ghosts-run_as-J-Ledger g a = record { name = a.blank.name; parts = a.blank.parts }
