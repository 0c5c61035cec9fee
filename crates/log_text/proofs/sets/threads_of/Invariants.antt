use Rattle.std.proofs.Common.{◌≡◌, ◌≤◌, ◌++◌, length}
use Rattle.words.specs.Limits.{most_threads}
use Rattle.log_text.specs.Cuts.{Rises}
use Rattle.log_text.specs.LogLines.{numbers_text}
use Rattle.log_text.proofs.Rising.{Ends, ReadsOn}
use Rattle.log_text.proofs.sets.threads_of.Given as goal

abbrev pub invariant-walk : goal.invariant-walk
invariant-walk l = record {
  rises : Rises 0 l.threads.items;
  ends : Ends 0 l.threads.items l.last;
  few : length l.threads.items ≤ l.last;
  last : l.last ≤ most_threads;
  whole : l.text ≡ numbers_text l.threads.items ++ l.rest;
  on : ReadsOn l.text l.threads.items l.last l.rest;
}

abbrev pub decreases-walk : goal.decreases-walk
decreases-walk l = length l.rest
