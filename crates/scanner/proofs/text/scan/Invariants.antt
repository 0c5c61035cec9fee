use Rattle.std.proofs.Common.{◌≤◌, length}
use Rattle.scanner.specs.Places.{start}
use Rattle.scanner.specs.Steps.{PlacesFit}
use Rattle.scanner.specs.Tokens.{StandInOrder, views}
use Rattle.scanner.proofs.text.scan.Given as goal

-- the tokens so far stand in order up to what is left
abbrev pub invariant-loop-tokens : goal.invariant-loop-tokens
invariant-loop-tokens l = record {
  short : length l.text ≤ 1048576;
  in_order : StandInOrder start l.text (views l.tokens.items) l.source.place l.source.rest.now;
  fits : PlacesFit l.source.place l.source.rest.now;
}

abbrev pub decreases-loop-tokens : goal.decreases-loop-tokens
decreases-loop-tokens l = length l.source.rest.now
