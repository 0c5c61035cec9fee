use Rattle.std.proofs.Common.{◌≡◌, ◌++◌, ◌+◌, drop}
use Rattle.program.specs.WellFormed.{words_of}
use Rattle.lowering.specs.Layout.{addresses_from}
use Rattle.layout.proofs.placing.place_monitor.Given as goal

-- what is placed, and what is left, is all; so are their words
abbrev pub invariant-loop-member : goal.invariant-loop-member
invariant-loop-member l = let left = drop l.member-index l.monitor.members.items in record {
  placed : l.members.items ++ addresses_from l.next left ≡ addresses_from l.start l.monitor.members.items;
  words : l.next + words_of left ≡ l.start + words_of l.monitor.members.items;
}
