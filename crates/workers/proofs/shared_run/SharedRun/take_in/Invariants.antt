use Rattle.std.proofs.Common.{take}
use Rattle.workers.specs.SharedRuns.{KeepsWorkers}
use Rattle.workers.specs.Handed.{ComeIn}
use Rattle.workers.proofs.shared_run.SharedRun.take_in.Given as goal

abbrev pub invariant-loop-piece : goal.invariant-loop-piece
invariant-loop-piece g l = record {
  come : ComeIn g.J.RunName.program g.J.RunName.limit l.fn.self l.t (take l.piece-index l.pieces) l.self l.fn.share
      l.share;
  workers : KeepsWorkers l.fn.self l.self;
}
