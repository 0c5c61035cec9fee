use Rattle.std.proofs.Common.{◌≡◌, drop, map}
use Rattle.source_layout.specs.Laid.{said}
use Rattle.source_layout.proofs.keeping.say_same.Given as goal

-- if the rest says the same, all of it does
abbrev pub invariant-loop-i : goal.invariant-loop-i
invariant-loop-i l = map said (drop l.i l.tokens) ≡ map said (drop l.i l.others) → map said l.tokens ≡ map said l.others
