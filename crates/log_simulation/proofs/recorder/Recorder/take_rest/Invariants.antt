use Rattle.std.proofs.Common.{◌≤◌}
use Rattle.words.specs.Limits.{most_threads}
use Rattle.proof_commutation.specs.Deferring.{IsBehind}
use Rattle.meaning.specs.States.{SourceState}
use Rattle.proof_simulation.specs.Progress.{Progress}
use Rattle.program.specs.Trees.{Program}
use Rattle.log_simulation.specs.Going.{Matches}
use Rattle.log_simulation.specs.Recording.{IsOf, progress_rest}
use Rattle.log_simulation.specs.Deferred.{CountsDeferred}
use Rattle.log_simulation.proofs.recorder.Recorder.take_rest.Given as goal

abbrev pub invariant-loop-before : goal.invariant-loop-before
invariant-loop-before l = record {
  caught_up : (p : Program) (g : Progress) (ahead : SourceState) → IsOf p l.fn.self → l.made ≤ most_threads
      → Matches l.fn.self.follower g → CountsDeferred l.fn.self.deferred.items g.deferred
      → IsBehind p g.deferred g.source ahead
      → IsOf p l.self × Matches l.self.follower (progress_rest p l.before g)
      × CountsDeferred l.self.deferred.items (progress_rest p l.before g).deferred
      × IsBehind p (progress_rest p l.before g).deferred (progress_rest p l.before g).source ahead;
}
