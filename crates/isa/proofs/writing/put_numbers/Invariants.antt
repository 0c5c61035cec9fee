use Rattle.std.proofs.Common.{◌≡◌, ◌++◌, take}
use Rattle.isa.specs.Spelling.{numbers}
use Rattle.isa.proofs.writing.put_numbers.Given as goal

abbrev pub invariant-loop-value : goal.invariant-loop-value
invariant-loop-value l = l.out.items ≡ l.fn.out.items ++ numbers (take l.value-index l.values)
