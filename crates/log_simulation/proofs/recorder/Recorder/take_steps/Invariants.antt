use Rattle.std.proofs.Common.{◌≡◌, ◌+◌, ◌<◌, ◌^◌, ℕ, List, length, Some}
use Rattle.words.specs.Updates.{put}
use Rattle.lowering.specs.Pieces.{code_of, marks_of}
use Rattle.locals.specs.Steps.{local_after}
use Rattle.meaning.specs.Labels.{Kind}
use Rattle.program.specs.Trees.{Program}
use Rattle.log_simulation.specs.Entries.{deferred_locally}
use Rattle.log_simulation.specs.Recording.{Counts}
use Rattle.log_simulation.specs.Deferred.{CountsDeferred}
use Rattle.log_simulation.proofs.recorder.Recorder.take_steps.Given as goal

abbrev pub invariant-loop : goal.invariant-loop
invariant-loop l = record {
  goes : local_after l.image l.entry.thread l.counter l.fn.here ≡ Some l.here;
  counts : Counts l.entry.local l.fn.self l.self;
  follower : l.self.follower ≡ l.fn.self.follower;
  marks : l.self.marks ≡ l.fn.self.marks;
  raised : l.self.raised ≡ l.fn.self.raised;
  places : length l.self.deferred.items ≡ length l.fn.self.deferred.items;
  defers : (p : Program) (f : ℕ → List Kind) → l.image ≡ code_of p → l.fn.self.marks.items ≡ marks_of p
      → CountsDeferred l.fn.self.deferred.items f → length (f l.entry.thread) + l.entry.local < 2 ^ 32
      → CountsDeferred l.self.deferred.items
      (put f l.entry.thread (deferred_locally p l.entry.thread l.counter l.fn.here (f l.entry.thread)));
}
