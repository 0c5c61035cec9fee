use Rattle.std.proofs.Common.{◌≡◌, take}
use Rattle.source_offers.specs.Frames.{callers_of}
use Rattle.source_offers.proofs.copies.copies.Given as goal

abbrev pub invariant-loop-frame : goal.invariant-loop-frame
invariant-loop-frame l = callers_of l.copies.items ≡ callers_of (take l.frame-index l.frames)
