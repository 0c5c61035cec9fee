use Rattle.std.proofs.Common.{◌≡◌, take}
use Rattle.machine.specs.ThreadSets.{set_of}
use Rattle.machine.proofs.thread_set.ThreadSet.put_several.Given as goal

abbrev pub invariant-loop-t : goal.invariant-loop-t
invariant-loop-t l = l.self ≡ set_of (take l.t-index l.threads)
