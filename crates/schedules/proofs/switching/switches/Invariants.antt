use Rattle.std.proofs.Common.{◌≡◌, ◌≤◌, ◌+◌, drop}
use Rattle.schedules.specs.Switches.{switches, switches_behind}
use Rattle.schedules.proofs.switching.switches.Given as goal

-- with those of the turns that are left there are all
abbrev pub invariant-loop-turn : goal.invariant-loop-turn
invariant-loop-turn l = record {
  counted : l.count + switches_behind l.last (drop l.turn-index l.schedule) ≡ switches l.schedule;
  few : l.count ≤ l.turn-index;
}
