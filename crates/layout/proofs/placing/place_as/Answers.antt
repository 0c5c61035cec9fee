use Rattle.std.proofs.Common.{◌≡◌, ◌≤◌, length, map, sym}
use Rattle.words.specs.Versions.{base_of}
use Rattle.program.specs.Views.{program_of, monitor_of}
use Rattle.program.specs.WellFormed.{WellFormed}
use Rattle.lowering.specs.Layout.{monitors_from}
use Rattle.layout.specs.Views.{view_of}
use Rattle.layout.proofs.Smallness.{small_monitors, all_placed}
use Rattle.layout.proofs.placing.place_as.Goals as goal

pub invariant_of-result : goal.invariant_of-result
invariant_of-result c =
    let program = c.program-program.result.now in
    let past : length program.monitors.items ≤ c.loop-monitor.monitor-index =
    rw (sym c.deref-monitor-items.ensures.value) c.loop-monitor-test.false in
    let all : map view_of c.loop-monitor.monitors.items
    ≡ monitors_from (base_of c.args.version) (map monitor_of program.monitors.items) =
    all_placed _ _ c.loop-monitor.base c.loop-monitor.monitor-index program.monitors.items past
    c.loop-monitor.invariant.placed in
    let formed : WellFormed (program_of program) =
    rw c.program-program.ensures.is c.program-program.ensures.well_formed in
    rw all (small_monitors c.args.version (program_of program) c.len.result formed)
