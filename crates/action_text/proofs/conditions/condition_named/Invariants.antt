use Rattle.std.proofs.Common.{◌<◌, ℕ, List}
use Rattle.program.specs.Names.{naming_of}
use Rattle.program.specs.declared.kinds.Member.{Member}
use Rattle.action_text.specs.Reading.{NamesCondition}
use Rattle.action_text.proofs.conditions.condition_named.Given as goal

abbrev pub invariant-loop-place : goal.invariant-loop-place
invariant-loop-place l =
    (c : Member) (ns : List ℕ) → c.monitor < l.place → NamesCondition (naming_of l.names) l.alone l.text c ns → ⊥
