use Rattle.std.proofs.Common.{arith}
use Rattle.image_search.proofs.Flagging.{still_none, still_twice}
use Rattle.image_search.proofs.graph.Graph.fill.Goals as goal

pub loop-place-init : goal.loop-place-init
loop-place-init c = record { sound = c.requires.sound; still = still_none c.args.kept.now }

pub loop-place-preserved : goal.loop-place-preserved
loop-place-preserved c = record {
  sound = c.in_ok-why.ensures.sound;
  still = still_twice c.args.kept.now c.loop-place.kept c.add_from.new.kept c.loop-place.invariant.still
      c.in_ok-why.ensures.still;
}

pub returns-then-is_some-clause-still : goal.returns-then-is_some-clause-still
returns-then-is_some-clause-still c =
    still_twice c.args.kept.now c.loop-place.kept c.add_from.new.kept c.loop-place.invariant.still c.in_ok-why.ensures.still

pub add_from-requires-clause-place : goal.add_from-requires-clause-place
add_from-requires-clause-place c = omega (arith, c.if-place-len.false, c.len.ensures, c.loop-place.kept.states.ok.0)
