use Rattle.std.proofs.Common.{◌≡◌, ◌++◌, string_bytes}
use Rattle.machine.specs.Views.{concrete}
use Rattle.account_text.specs.Accounts.{threads_lines}
use Rattle.account_text.proofs.account.append_threads.Given as goal

abbrev pub invariant-loop-before : goal.invariant-loop-before
invariant-loop-before l = string_bytes l.text ≡ string_bytes l.initial.text ++ threads_lines (concrete l.last) l.stuck
    l.before
