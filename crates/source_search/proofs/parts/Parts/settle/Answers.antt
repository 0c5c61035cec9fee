use Rattle.program.specs.Views.{program_of}
use Rattle.source_search.specs.Covered.{IsAheadOf}
use Rattle.source_search.proofs.Coverage.{ahead_of_itself, ahead_of_still, ahead_of_then}
use Rattle.source_search.proofs.Packing.{grown_none, grown_twice}
use Rattle.source_search.proofs.parts.Parts.settle.Goals as goal

pub loop-init : goal.loop-init
loop-init g c = record {
  grown = grown_none c.args.self.now;
  ahead = λ within. ahead_of_itself (program_of c.args.checked.now.tree) c.args.self.now c.args.packed within;
}

pub loop-preserved : goal.loop-preserved
loop-preserved g c =
    let p = program_of c.args.checked.now.tree in
    record {
      grown = grown_twice c.args.self.now c.loop.self c.follow_at.new.self c.loop.invariant.grown
          c.in_ok-next.ensures.grown;
      ahead = λ within.
          let first : IsAheadOf p c.args.self.now c.loop.self c.args.packed c.loop.settled = c.loop.invariant.ahead within in
          let second : IsAheadOf p c.loop.self c.follow_at.new.self c.loop.settled c.in-Some-2.next =
          rw c.in-Some-2.is at (c.in_ok-next.ensures.ahead first.within) in
          ahead_of_then p c.args.self.now c.loop.self c.follow_at.new.self c.args.packed c.loop.settled
          c.in-Some-2.next first second;
    }

pub returns-then-is_same-clause-ahead : goal.returns-then-is_same-clause-ahead
returns-then-is_same-clause-ahead g c = λ within.
    ahead_of_still (program_of c.args.checked.now.tree) c.args.self.now c.loop.self c.follow_at.new.self c.args.packed
    c.loop.settled c.in_ok-next.ensures.grown (c.loop.invariant.ahead within)
