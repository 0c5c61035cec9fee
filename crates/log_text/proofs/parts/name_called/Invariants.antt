use Rattle.std.proofs.Common.{◌≡◌, ◌≤◌}
use Rattle.machine.specs.declared.event.EventName.{EventName}
use Rattle.log_text.specs.LogLines.{name_text}
use Rattle.log_text.specs.Places.{place_of}
use Rattle.log_text.proofs.parts.name_called.Given as goal

abbrev pub invariant-loop-place : goal.invariant-loop-place
invariant-loop-place l = (name : EventName) → l.text ≡ name_text name → l.place ≤ place_of name
