use Rattle.std.proofs.Common.{◌≡◌, ◌++◌, drop}
use Rattle.meaning.specs.Processes.{without_monitor}
use Rattle.source_states.proofs.dying.without.Given as goal

abbrev pub invariant-loop-other : goal.invariant-loop-other
invariant-loop-other l =
    l.others.items ++ without_monitor l.monitor (drop l.other-index l.monitors) ≡ without_monitor l.monitor l.monitors
