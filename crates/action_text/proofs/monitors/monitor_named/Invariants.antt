use Rattle.std.proofs.Common.{◌<◌, ◌≢◌, ℕ}
use Rattle.program.specs.Names.{naming_of}
use Rattle.actionlines.specs.Lines.{monitor_name}
use Rattle.action_text.proofs.monitors.monitor_named.Given as goal

abbrev pub invariant-loop-place : goal.invariant-loop-place
invariant-loop-place l = (m : ℕ) → m < l.place → l.name ≢ monitor_name (naming_of l.names) m
