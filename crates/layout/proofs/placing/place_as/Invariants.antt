use Rattle.std.proofs.Common.{◌≡◌, ◌++◌, ◌+◌, ◌*◌, ◌≤◌, drop, map, length, ◌^◌}
use Rattle.words.specs.Versions.{base_of}
use Rattle.program.specs.Views.{monitor_of}
use Rattle.program.specs.WellFormed.{all_words}
use Rattle.lowering.specs.Layout.{monitors_from}
use Rattle.layout.specs.Views.{view_of}
use Rattle.layout.proofs.placing.place_as.Given as goal

-- what is placed, and what is left, is all; there is room for what is left
abbrev pub invariant-loop-monitor : goal.invariant-loop-monitor
invariant-loop-monitor l = let left = map monitor_of (drop l.monitor-index l.program.monitors.items) in record {
  placed : map view_of l.monitors.items ++ monitors_from l.base left
      ≡ monitors_from (base_of l.version) (map monitor_of l.program.monitors.items);
  room : l.base + 2 * length left + all_words left ≤ 2 ^ 15;
}
