use Rattle.std.proofs.Common.{Some, None, arith}
use Rattle.piece_machine.specs.PieceViews.{parts}
use Rattle.runner.proofs.Noting.{held_gap, held_on, least_here}
use Rattle.runner.proofs.passing_over.Waiting.next_free.Goals as goal

pub loop-t-preserved : goal.loop-t-preserved
loop-t-preserved c =
    let m = c.args.machine.now in
    let w = c.args.self.now in
    let t = c.in-Some.t in
    let v = c.loop-t.invariant in
    let least = least_here m c.machine.result.now c.loop-t.at (Some t) c.machine.ensures.shows c.in-Some.ensures in
    let n = c.in-Some-next_from.ensures in
    record {
      held = held_gap m.view.program (parts m) w c.args.from t (Some c.in-Some-next_from.next) c.machine.ensures.fit
          c.requires.waits (held_on m.view.program (parts m) c.args.from c.loop-t.at t v.held least) n.least;
      above = omega (arith, v.above, least.0, n.least.0);
      few = n.inside;
    }

pub returns-in_default-next_from-clause-free : goal.returns-in_default-next_from-clause-free
returns-in_default-next_from-clause-free c =
    let m = c.args.machine.now in
    let t = c.in-Some.t in
    let least = least_here m c.machine.result.now c.loop-t.at (Some t) c.machine.ensures.shows c.in-Some.ensures in
    held_gap m.view.program (parts m) c.args.self.now c.args.from t None c.machine.ensures.fit c.requires.waits
    (held_on m.view.program (parts m) c.args.from c.loop-t.at t c.loop-t.invariant.held least)
    c.in_default-next_from.ensures.least
