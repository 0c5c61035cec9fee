use Rattle.std.proofs.Common.{◌≡◌, ◌++◌, take, string_bytes}
use Rattle.std.specs.List.{flat_map}
use Rattle.answers.specs.Exploring.{process_word}
use Rattle.answers.proofs.exploring.append_processes.Given as goal

abbrev pub invariant-loop-process : goal.invariant-loop-process
invariant-loop-process l =
    string_bytes l.line ≡ string_bytes l.initial.line ++ flat_map process_word (take l.process-index l.processes)
