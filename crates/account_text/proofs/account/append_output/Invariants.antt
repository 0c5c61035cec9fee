use Rattle.std.proofs.Common.{◌≡◌, ◌++◌, take, string_bytes}
use Rattle.account_text.specs.Accounts.{output_lines}
use Rattle.account_text.proofs.account.append_output.Given as goal

abbrev pub invariant-loop-number : goal.invariant-loop-number
invariant-loop-number l = string_bytes l.text ≡ string_bytes l.initial.text
    ++ output_lines (take l.number-index l.output)
