use Rattle.std.proofs.Common.{length}
use Rattle.scanner.specs.Steps.{PlacesFit, PassesGap}
use Rattle.scanner.proofs.source.Source.pass_gap.Given as goal

-- what was passed so far is a gap
abbrev pub invariant-loop-self : goal.invariant-loop-self
invariant-loop-self l = record {
  passed : PassesGap l.fn.self.place l.fn.self.rest.now l.self.place l.self.rest.now;
  fits : PlacesFit l.self.place l.self.rest.now;
}

abbrev pub decreases-loop-self : goal.decreases-loop-self
decreases-loop-self l = length l.self.rest.now
