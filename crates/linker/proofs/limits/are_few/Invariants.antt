use Rattle.std.proofs.Common.{◌≡◌, ◌+◌, drop}
use Rattle.std.specs.Prelude.{sum}
use Rattle.isa.specs.Limits.{most_member_words}
use Rattle.linker.proofs.limits.are_few.Given as goal

-- the words so far, and those that are left, are all
abbrev pub invariant-loop-words : goal.invariant-loop-words
invariant-loop-words l = sum (drop l.words-index l.monitors) + most_member_words ≡ sum l.monitors + l.left
