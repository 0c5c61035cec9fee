use Rattle.runner.specs.Logs.{nothing_outside}
use Rattle.test_images.proofs.by_hand.hand_in.Given as goal

abbrev pub ghosts-hand_in_as-J-RunName : goal.ghosts-hand_in_as-J-RunName
ghosts-hand_in_as-J-RunName g a = record { program = a.image.now; outside = nothing_outside; limit = a.limit }

abbrev pub ghosts-hand_in_as-J-Ledger : goal.ghosts-hand_in_as-J-Ledger
ghosts-hand_in_as-J-Ledger g a = record { name = a.blank.name; parts = a.blank.parts }
