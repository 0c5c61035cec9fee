use Rattle.std.proofs.Common.{◌≡◌, ◌++◌, take, string_bytes}
use Rattle.std.specs.List.{flat_map}
use Rattle.answers.specs.Images.{thread_word}
use Rattle.answers.proofs.searching.append_threads.Given as goal

abbrev pub invariant-loop-thread : goal.invariant-loop-thread
invariant-loop-thread l =
    string_bytes l.text ≡ string_bytes l.initial.text ++ flat_map thread_word (take l.thread-index l.threads)
